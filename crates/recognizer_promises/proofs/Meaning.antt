-- What the verdict of the descent means: property 3 for a passed grammar and a readable input.
use mathlib.Core.Path.{◌≡◌, sym, ap, subst, ◌∙◌}
use mathlib.Core.Bool.{true, false}
use mathlib.Core.List.{List, ◌++◌}
use mathlib.Core.Logic.{◌↔◌}
use Prim.Native.Nat.{ℕ, ◌<◌}
use native.Mathlib.Omega.{arith}
use lib.ListN.{length}
use Rattle.answer.specs.declared.Answer.{Answer}
use Rattle.answer.specs.declared.Answer.TheVariants.{Accepted, Rejected}
use Rattle.base.specs.Choice.{choose}
use Rattle.grammar.specs.Encoding.{grammar_of}
use Rattle.lookahead.specs.declared.Lookahead.{Lookahead}
use Rattle.lookahead.specs.Lookaheads.{tokens}
use Rattle.semantics.specs.Valuations.{Valuation, Solves}
use Rattle.semantics.specs.Choices.{table_choice}
use Rattle.semantics.specs.Memo.{Recorded}
use Rattle.semantics.proofs.Theorems.{theorems}
use Rattle.following.specs.Theorems.{EntriesTell}
use Rattle.following.proofs.Theorems.{theorems as following}
use Rattle.promises.proofs.Verdicts.{verdict_tells}
use Rattle.recognizer_promises.specs.Memory.{memo_words}
use Rattle.recognizer_promises.specs.Answers.{calls_of, verdict_of}
use Rattle.recognizer_promises.specs.Properties.{Judgeable, Recognizes}
use Rattle.recognizer_promises.proofs.MemoWords.{words_recorded}
use Rattle.recognizer_promises.proofs.Checking.{passed_encodes, passed_free, passed_predictive}

-- property 3 from the verdict of the descent and the memo table that is lent back, for any lookahead
pub meaning : (k : Lookahead) (words input : List ℕ) → Judgeable k words input → {r : Answer} {memo' : List ℕ} (later : List ℕ)
    → r ≡ verdict_of k (grammar_of words) input → memo' ≡ memo_words k (grammar_of words) input ++ later → Recognizes k (grammar_of words) input r memo'
unfolding verdict_of
meaning k words input h {r} {memo'} later e m =
    let G = grammar_of words in
    let n = tokens k in
    let p = h.passed in
    let encodes = passed_encodes words p in
    let free = passed_free words p in
    let some_nonterminal_lem : 0 < G.nonterminals = encodes.limited.some_nonterminal in
    let tells : (v : Valuation) → Solves G input v
    → ((r ≡ Accepted (calls_of k G input)) ↔ (v 0 0 (length input) ≡ true)) × ((r ≡ Rejected (calls_of k G input)) ↔ (v 0 0 (length input) ≡ false)) =
    λ v s. verdict_tells {r = r} (v 0 0 (length input)) (calls_of k G input)
    (e ∙ ap (λ b. choose b (Accepted (calls_of k G input)) (Rejected (calls_of k G input)))
    (theorems.verdict G n (passed_predictive words p) input h.known v s)) in
    let choice = table_choice G n input in
    let own = theorems.own_rules G n input in
    let counted = theorems.calls_counted G encodes.formed.scoped free some_nonterminal_lem choice own input in
    let started = (theorems.memo_right G encodes.formed.scoped free some_nonterminal_lem choice own input (omega (arith, h.short))).recorded in
    let recorded = subst (λ l. Recorded G choice input l) (words_recorded k G input encodes.formed.scoped free some_nonterminal_lem started) started in
    record {
      one_solution = theorems.one_solution G encodes.formed.scoped free input;
      accepted = λ v s. (tells v s).0;
      rejected = λ v s. (tells v s).1;
      calls = counted;
      few = counted.bounded;
      descent = theorems.descent_ends G encodes.formed.scoped free choice own input;
      memo = recorded;
      entries = subst (EntriesTell G n input) (sym m)
          (following.entries G n (passed_predictive words p) input h.known (omega (arith, h.short)) (memo_words k G input) recorded later);
    }
