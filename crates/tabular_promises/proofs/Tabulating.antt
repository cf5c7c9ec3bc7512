-- A filled chart, and the words written from it, are those of the one solution.
use Rattle.std.specs.Prelude.{Ok}
use mathlib.Core.Path.{◌≡◌, ap, ◌∙◌}
use mathlib.Core.Bool.{Bool}
use mathlib.Core.List.{List, ◌++◌}
use Prim.Native.Nat.{ℕ, ◌≤◌}
use native.Mathlib.Omega.{arith}
use lib.ListN.{length, get_or, drop}
use borrow.Author.Tests.{lt-ltb}
use Rattle.answer.specs.declared.Answer.{Answer}
use Rattle.grammar.specs.Encoding.{grammar_of}
use Rattle.grammar.specs.Limits.{max_tabular_tokens, max_tabular_places, max_span_words}
use Rattle.grammar.specs.Reading.{reading}
use Rattle.grammar.specs.declared.reading.Sizes.{Sizes}
use Rattle.grammar.proofs.WellRead.{well_read}
use Rattle.lookahead.specs.Elements.{has}
use Rattle.semantics.specs.Valuations.{solution}
use Rattle.tabular_promises.specs.inner.Chart.{slot, charted, WordGiven, chart_word_at, span_word, chart_verdict}
use Rattle.tabular_promises.specs.inner.Filling.{Filled}
use Rattle.tabular_promises.specs.inner.Judging.{Tabulated}
use Rattle.tabular_promises.specs.inner.Spans.{span_count, written_spans}
use Rattle.tabular_promises.specs.Answers.{told, tabular_verdict}
use Rattle.tabular_promises.specs.Spans.{solution_word}
use Rattle.tabular_promises.proofs.Writing.{total_cong, words_cong, were_written}
use Rattle.tabular_promises.proofs.Charts.{span_word_lem}
use Rattle.tabular_promises.proofs.PlaceSets.{has_place_lem}

module _ {words w chart : List ℕ} {z : Sizes} (read : reading words ≡ Ok z) (f : Filled words w chart) where
  verdict_right : {r : Bool} → r ≡ has (get_or chart (length w) 0) 0 → r ≡ solution (grammar_of words) w 0 0 (length w)
  unfolding charted
  verdict_right {r} e =
      let k = well_read words z read in
      let i : length w ≡ slot 0 (length w) = omega arith in
      e ∙ ap (λ (n : ℕ). has (get_or chart n 0) 0) i
      ∙ f.right 0 0 (length w) (omega (arith, k.some_nonterminal, k.nonterminals)) (omega arith) (omega arith)

  word_right : length w ≤ max_tabular_tokens → (i j : ℕ) → i ≤ j → j ≤ length w → span_word chart z.nonterminals i j ≡ solution_word (grammar_of words) w i j
  unfolding chart_word_at solution_word
  word_right short i j h k =
      let r = well_read words z read in
      let given : WordGiven z.nonterminals i j = record { span = record { forward = h; short = omega arith }; few = r.few_nonterminals } in
      span_word_lem chart z.nonterminals i j given
      ∙ rw r.nonterminals
      (total_cong (grammar_of words).nonterminals (λ A. charted chart A i j) (λ A. solution (grammar_of words) w A i j) (λ A a. f.right A i j a h k))

  pub tabulated : {tokens : ℕ} {before after : List ℕ} {r : Answer} → length w ≤ max_tabular_tokens → max_span_words ≤ length before → tokens ≡ length w
      → after ≡ written_spans chart z.nonterminals tokens before → r ≡ chart_verdict chart tokens → Tabulated words w before r after
  unfolding chart_verdict tabular_verdict
  tabulated {tokens} {before} {after} short room n m e = record {
    verdict = (rw n at e) ∙ rw (lt-ltb (length w) max_tabular_places (omega arith))
        (ap told (verdict_right (has_place_lem (get_or chart (length w) 0) 0 (omega arith))));
    memory = were_written chart z.nonterminals (length w) before short room (rw n at m) ∙ ap (◌++ drop (span_count (length w)) before)
        (words_cong (length w) (span_word chart z.nonterminals) (solution_word (grammar_of words) w) (word_right short));
  }
