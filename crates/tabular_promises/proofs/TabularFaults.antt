-- The order of the faults of judging by tabulation: which is the first, by what holds; which errors it can give; and that none is a conflict.
use Rattle.std.specs.Prelude.{None}
use mathlib.Core.Path.{◌≡◌, ◌∙◌}
use mathlib.Core.List.{List, [], ◌∷◌, ◌++◌}
use mathlib.Core.Option.{Option, none, some}
use Prim.Native.Nat.{ℕ, ◌≤◌, ◌<◌}
use native.Mathlib.Omega.{arith}
use lib.Dec.{ltb}
use lib.ListN.{length}
use borrow.Author.Tests.{lt-ltb, le-ltb}
use Rattle.answer.specs.declared.Error.{Error}
use Rattle.answer.specs.declared.Error.TheVariants.{InputTooLong, SpansTooShort}
use Rattle.answer.specs.Numbers.{coded}
use Rattle.answer.specs.Faults.{fault_if, first_fault}
use Rattle.answer.proofs.Faults.{first_nested, OfFault, of_if, first_each}
use Rattle.event.specs.Unknown.{unknown_from, unknown_fault}
use Rattle.grammar.specs.Limits.{max_tabular_tokens, max_span_words}
use Rattle.grammar.specs.Encoding.{grammar_of}
use Rattle.lookahead.specs.declared.Lookahead.TheVariants.{One}
use Rattle.families.specs.Analysis.{sets_faults, sets_fault}
use Rattle.promises.proofs.SetsErrors.{SetsErrors, sets_each}
use Rattle.promises.proofs.InputErrors.{InputErrors, input_each}
use Rattle.tabular_promises.specs.Answers.{tabular_fault}

-- the first fault, by what holds
module _ (words input before : List ℕ) where
  abbrev judged : Option Error
  judged = tabular_fault (length before) words input

  pub spans_short : length before < max_span_words → judged ≡ some SpansTooShort
  unfolding tabular_fault
  spans_short h = rw (lt-ltb (length before) max_span_words h)

  module _ (room : max_span_words ≤ length before) where
    pub fault_long : {f : Option Error} → sets_fault One words ≡ f → judged
        ≡ first_fault (f ∷ fault_if (ltb max_tabular_tokens (length input)) InputTooLong ∷ unknown_fault (unknown_from (grammar_of words).terminals 0 input)
        ∷ [])
    unfolding tabular_fault sets_fault
    fault_long e =
        first_nested (fault_if (ltb (length before) max_span_words) SpansTooShort ∷ []) (sets_faults One words)
        (fault_if (ltb max_tabular_tokens (length input)) InputTooLong ∷ unknown_fault (unknown_from (grammar_of words).terminals 0 input) ∷ [])
        ∙ rw (le-ltb (length before) max_span_words room, e)

    pub no_fault : sets_fault One words ≡ none → length input ≤ max_tabular_tokens → unknown_from (grammar_of words).terminals 0 input ≡ None → judged ≡ none
    no_fault passed short u = fault_long passed ∙ rw (le-ltb max_tabular_tokens (length input) short, u)

-- which errors it can give
pub tabular_each : {P : Error → Type 0} → SetsErrors One P → P SpansTooShort → InputErrors P → (spans : ℕ) (words input : List ℕ)
    → OfFault P (tabular_fault spans words input)
unfolding tabular_fault
tabular_each {P} each short of-input spans words input =
    let n = (grammar_of words).terminals in
    let rows = fault_if (ltb max_tabular_tokens (length input)) InputTooLong ∷ unknown_fault (unknown_from n 0 input) ∷ [] in
    first_each P (fault_if (ltb spans max_span_words) SpansTooShort ∷ sets_faults One words ++ rows) (
      of_if P (ltb spans max_span_words) SpansTooShort short,
      λ _. sets_each each words rows (λ _ _. input_each of-input max_tabular_tokens n input (omega arith)),
    )

-- none is of a table, of a memo table or of an entry: 1, 2 and 9
pub record Other (e : Error) : Type 0 where
  pub not_table : (coded e).code ≡ 1 → ⊥
  pub not_memo : (coded e).code ≡ 2 → ⊥
  pub not_entry : (coded e).code ≡ 9 → ⊥

abbrev other : {e : Error} → ((coded e).code ≡ 1 → ⊥) → ((coded e).code ≡ 2 → ⊥) → ((coded e).code ≡ 9 → ⊥) → Other e
other a b c = record { not_table = a; not_memo = b; not_entry = c }

sets_other : SetsErrors One Other
sets_other = record {
  long = other (λ n. omega arith) (λ n. omega arith) (λ n. omega arith);
  heading = other (λ n. omega arith) (λ n. omega arith) (λ n. omega arith);
  unexpected_word = λ i h. other (λ n. omega arith) (λ n. omega arith) (λ n. omega arith);
  out_of_range = λ i h. other (λ n. omega arith) (λ n. omega arith) (λ n. omega arith);
  too_many_rules = λ i h. other (λ n. omega arith) (λ n. omega arith) (λ n. omega arith);
  too_many_terminals = λ two. other (λ n. omega arith) (λ n. omega arith) (λ n. omega arith);
  left_recursive = λ A h. other (λ n. omega arith) (λ n. omega arith) (λ n. omega arith);
  unproductive = λ A h. other (λ n. omega arith) (λ n. omega arith) (λ n. omega arith);
}

pub fault_other : (spans : ℕ) (words input : List ℕ) (e : Error) → tabular_fault spans words input ≡ some e → Other e
fault_other = tabular_each sets_other (other (λ n. omega arith) (λ n. omega arith) (λ n. omega arith)) (record {
  too_long = other (λ n. omega arith) (λ n. omega arith) (λ n. omega arith);
  unknown_token = λ i h. other (λ n. omega arith) (λ n. omega arith) (λ n. omega arith);
})
