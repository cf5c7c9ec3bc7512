-- What judging answers by the entries that a descent leaves is the verdict on the input, or the first fault that holds.
use mathlib.Core.Path.{◌≡◌, refl, sym, ap, ◌∙◌}
use mathlib.Core.List.{List, ◌++◌}
use mathlib.Core.Option.{Option, none, some}
use Prim.Native.Nat.{ℕ, ◌+◌, ◌*◌, ◌≤◌, ◌<◌, min}
use native.Mathlib.Nat.{mul-pos}
use native.Mathlib.Numerals.{add-one}
use native.Mathlib.Omega.{arith}
use lib.Dec.{eqb}
use lib.ListN.{length, get_or, take, drop, get_or-append}
use lib.Seq.{take_at}
use borrow.Author.Tests.{ne_eqb}
use Rattle.answer.specs.declared.Error.{Error}
use Rattle.answer.specs.Faults.{refused_or}
use Rattle.grammar.specs.Codes.{failed_code, uncalled_code}
use Rattle.grammar.specs.Limits.{max_tokens}
use Rattle.grammar.specs.Syntax.{Grammar}
use Rattle.grammar.specs.Encoding.{grammar_of}
use Rattle.grammar.specs.inner.WellRead.{WellRead}
use Rattle.grammar.specs.declared.reading.Sizes.{Sizes}
use Rattle.grammar.proofs.WellRead.{well_read}
use Rattle.semantics.specs.Valuations.{pairs}
use Rattle.semantics.specs.Choices.{Choice}
use Rattle.semantics.specs.Descent.{Outcome, Failed, End, ends_at, descend, accepts}
use Rattle.semantics.specs.ComesTo.{call_at}
use Rattle.semantics.specs.Calls.{start}
use Rattle.semantics.specs.Memo.{outcome_code, memo_index, Recorded}
use Rattle.lookahead.specs.declared.Lookahead.{Lookahead}
use Rattle.families.proofs.FewTerminals.{admitted_read}
use Rattle.table.specs.declared.Found.{Found}
use Rattle.table.specs.inner.Analysis.{found_of}
use Rattle.table_promises.specs.Analysis.{fault}
use Rattle.memo_table.specs.inner.Tally.{recorded_tally, recorded_verdict}
use Rattle.memo_table.proofs.Tallying.{tally_recorded}
use Rattle.promises.specs.Memory.{lent_back}
use Rattle.recognizer_promises.specs.Answers.{choice_of, calls_of, verdict_of}
use Rattle.recognizer_promises.specs.Memory.{memo_words}
use Rattle.recognizer_promises.specs.inner.Judging.{found_unless, EntriesFound}
use Rattle.recognizer_promises.proofs.Checking.{passed_fault, passed_free, told, found, found_passed}
use Rattle.recognizer_promises.proofs.Judged.{memo_count}
use Rattle.recognizer_promises.proofs.MemoWords.{memo_words_recorded}
use Rattle.descent_choices.specs.inner.Choices.{memo_entries}
use Rattle.descent_choices.proofs.ChoiceRows.{entries_fit}
use Rattle.judge_answers.specs.inner.Answers.{answer_of}

-- an entry below the codes is an end, and an outcome's entry is no other's
entry_test : (o : Outcome) (n : ℕ) → n < failed_code → {r : ℕ} → r ≡ outcome_code o → ends_at o n ≡ eqb r n
unfolding outcome_code
entry_test Failed n l {r} e = sym (ne_eqb r n (λ q. omega arith))
entry_test (End i) n l e = rw e

module _ (k : Lookahead) (words input : List ℕ) where
  abbrev G : Grammar
  G = grammar_of words

  abbrev written : List ℕ
  written = memo_words k G input

  abbrev choice : Choice
  choice = choice_of k G input

  -- a grammar that passes, and an input that is not too long
  module _ (passed : fault k words ≡ none) (short : length input ≤ max_tokens) where
    abbrev sizes : Sizes
    sizes = (found_passed k words passed).0

    m : EntriesFound k words sizes (found_of k words).starts (found_of k words).entries
    m = found (told k words refl) (found_passed k words passed).1

    r : WellRead words sizes
    r = well_read words sizes (admitted_read k words m.taken)

    some_nonterminal_lem : 0 < G.nonterminals
    some_nonterminal_lem = omega (arith, r.nonterminals, r.some_nonterminal)

    recorded : Recorded G choice input written
    recorded =
        memo_words_recorded k G input r.formed.scoped (passed_free words (passed_fault k words passed)) some_nonterminal_lem (omega (arith, short))

    -- the entries are those in front
    needed : memo_entries sizes.nonterminals (length input) ≡ length written
    needed =
        let all : sizes.nonterminals * (length input + 1) ≡ pairs G input = rw (r.nonterminals, add-one (length input)) in
        entries_fit sizes.nonterminals (length input) r.few_nonterminals short ∙ all ∙ sym (memo_count k G input)

    front : (rest : List ℕ) → take (memo_entries sizes.nonterminals (length input)) (written ++ rest) ≡ written
    front rest = take_at written rest _ (sym needed)

    -- the first is that of the start's call
    first : (rest : List ℕ) → get_or (written ++ rest) 0 uncalled_code ≡ outcome_code (descend G choice input 0 0)
    first rest =
        let some : 0 < length written = rw (memo_count k G input) (mul-pos some_nonterminal_lem (omega arith)) in
        let here : 0 ≡ memo_index input (call_at 0 0) = omega arith in
        get_or-append written rest uncalled_code 0 some ∙ ap (λ i. get_or written i uncalled_code) here ∙ recorded.called (call_at 0 0) start

    verdict_told : (rest : List ℕ) → answer_of (found_of k words).finding (length input) (written ++ rest) ≡ verdict_of k G input
    unfolding verdict_of accepts recorded_verdict
    verdict_told rest =
        let counted : recorded_tally written (length input) ≡ calls_of k G input = tally_recorded recorded refl in
        let ends : eqb (get_or (written ++ rest) 0 uncalled_code) (length input) ≡ ends_at (descend G choice input 0 0) (length input) =
        sym (entry_test (descend G choice input 0 0) (length input) (omega (arith, short)) (first rest)) in
        let long : min (length input) max_tokens ≡ length input = omega (arith, short) in
        ap (λ f. answer_of f (length input) (written ++ rest)) (found_passed k words passed).1 ∙ rw (front rest, long, ends, counted)

  -- where a fault is found, it is told
  pub answered : (memo : List ℕ) (tokens : ℕ) (o : Option Error)
      → (o ≡ none → (fault k words ≡ none) × (length input ≤ max_tokens) × (tokens ≡ length input)) → {r : Found} {memo' : List ℕ}
      → r ≡ found_unless o (found_of k words) → memo' ≡ lent_back o written memo → answer_of r.finding tokens memo' ≡ refused_or o (verdict_of k G input)
  answered memo tokens (some x) h e l = rw e
  answered memo tokens none h e l = let s = h refl in rw (e, l, s.2) (verdict_told s.0 s.1 (drop (length written) memo))
