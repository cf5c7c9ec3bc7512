-- Which errors keep a grammar from being admitted: those of reading, and with two tokens of lookahead 18, and 5 at one of the words.
use Rattle.std.specs.Prelude.{Err, None, Ok, Option, Result, Some}
use mathlib.Core.Path.{◌≡◌, refl, sym}
use mathlib.Core.Bool.{Bool, true, false}
use mathlib.Core.List.{List, [], ◌∷◌}
use mathlib.Core.Option.{Option as Maybe, none, some}
use Prim.Native.Nat.{ℕ, ◌≤◌}
use native.Mathlib.Omega.{arith}
use lib.Dec.{ltb}
use lib.ListN.{length}
use borrow.Author.Tests.{ltb-false}
use Rattle.answer.specs.declared.Error.{Error}
use Rattle.answer.specs.declared.Error.TheVariants.{Length, UnexpectedWord, TooManyTerminals}
use Rattle.answer.specs.Numbers.{coded}
use Rattle.answer.proofs.Faults.{none_some, OfFault, of_none, of_some, of_if, first_each}
use Rattle.base.specs.Choice.{choose}
use Rattle.grammar.specs.Limits.{max_words, max_terminals_of_two}
use Rattle.grammar.specs.Encoding.{grammar_of}
use Rattle.grammar.specs.Reading.{opened, reading}
use Rattle.grammar.specs.declared.reading.Sizes.{Sizes}
use Rattle.lookahead.specs.declared.Lookahead.{Lookahead}
use Rattle.lookahead.specs.declared.Lookahead.TheVariants.{One, Two}
use Rattle.admission.specs.Admission.{first_alone, of_heading, heading_fault, terminals_fault, word_fault, two_tokens_fault, faulty_or, admission}
use Rattle.admission.proofs.WithoutPositives.{alone_among}

-- what holds of an outcome's error, if it has one
abbrev pub OfOutcome : (Error → Type 0) → Result Sizes Error → Type 0
OfOutcome P o = (e : Error) → o ≡ Err e → P e

-- words with a fault that is not of their length are few
few_words : (words : List ℕ) → heading_fault (reading words) ≡ none → length words ≤ max_words
unfolding reading
few_words words = go (ltb max_words (length words)) refl
  where
    go : (b : Bool) → ltb max_words (length words) ≡ b → heading_fault (choose b (Err Length) (opened words)) ≡ none → length words ≤ max_words
    go true e q = absurd (none_some (sym q))
    go false e q = ltb-false max_words (length words) e

module _ (P : Error → Type 0) where
  pub of_read : (z : Sizes) → OfOutcome P (Ok z)
  of_read z e q = let n : ◌≡◌ {A = ℕ} 0 1 = cc in absurd (omega arith)

  pub of_faulty : (x : Error) → P x → OfOutcome P (Err x)
  of_faulty x h e q = let n : e ≡ x = cc in rw n h

  faulty_or_each : (f : Maybe Error) (o : Result Sizes Error) → OfFault P f → OfOutcome P o → OfOutcome P (faulty_or f o)
  faulty_or_each none o h r = r
  faulty_or_each (some x) o h r = of_faulty x (h x refl)

  heading_each : (o : Result Sizes Error) → OfOutcome P o → OfFault P (heading_fault o)
  heading_each (Ok z) r = of_none P
  heading_each (Err x) r = of_if P (of_heading (Err x)) x (r x refl)

  module _ (unexpected : (i : ℕ) → i ≤ max_words → P (UnexpectedWord i)) where
    word_each : (o : Result Sizes Error) (a : Option ℕ) → OfOutcome P o → ((i : ℕ) → a ≡ Some i → i ≤ max_words) → OfFault P (word_fault o a)
    word_each (Ok z) None r h = of_none P
    word_each (Ok z) (Some i) r h = of_some P (UnexpectedWord i) (unexpected i (h i refl))
    word_each (Err x) None r h = of_some P x (r x refl)
    word_each (Err x) (Some i) r h = go (ltb i (coded x).position)
      where
        go : (b : Bool) → OfFault P (some (choose b (UnexpectedWord i) x))
        go true = of_some P (UnexpectedWord i) (unexpected i (h i refl))
        go false = of_some P x (r x refl)

    two_each : P TooManyTerminals → (words : List ℕ) → OfOutcome P (reading words) → OfFault P (two_tokens_fault (reading words) words)
    unfolding two_tokens_fault
    two_each terminals words r =
        first_each P (heading_fault (reading words) ∷ terminals_fault words ∷ word_fault (reading words) (first_alone words) ∷ []) (
          heading_each (reading words) r,
          λ q. (
            of_if P (ltb max_terminals_of_two (grammar_of words).terminals) TooManyTerminals terminals,
            λ _. (
              word_each (reading words) (first_alone words) r (λ i e. omega (arith, alone_among false 0 words i e, few_words words q)),
              λ _. tt,
            ),
          ),
        )

    pub admission_each : (k : Lookahead) → (k ≡ Two → P TooManyTerminals) → (words : List ℕ) → OfOutcome P (reading words) → OfOutcome P (admission k words)
    admission_each One terminals words r = r
    admission_each Two terminals words r =
        faulty_or_each (two_tokens_fault (reading words) words) (reading words) (two_each (terminals refl) words r) r
