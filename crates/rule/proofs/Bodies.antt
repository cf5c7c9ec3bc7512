-- A body goes on behind a symbol, and ends where none stands.
use mathlib.Core.Path.{◌≡◌, refl}
use mathlib.Core.Bool.{true, false, false≢true}
use mathlib.Core.List.{List}
use Prim.Native.Nat.{ℕ, ◌+◌, ◌≤◌, ◌<◌}
use native.Mathlib.Omega.{arith}
use native.Mathlib.Numerals.{add-one}
use lib.ListN.{length, get_or, drop_of_length-le}
use lib.Seq.{drop-cons}
use Rattle.word.specs.Words.{decoded}
use Rattle.word.specs.declared.Symbol as grammar
use Rattle.word.specs.declared.Word.{Word}
use Rattle.word.specs.declared.Word.TheVariants.{Heading, Rule, Positive, Negative, Symbol, End, Invalid}
use Rattle.rule.specs.inner.Rule.{is_symbol, symbols_first, body_end}

-- the symbol that a word is, by the test
pub tested_symbol : (w : Word) → is_symbol w ≡ true → (X : grammar.Symbol) × (w ≡ Symbol X)
tested_symbol (Heading n t) e = absurd (false≢true e)
tested_symbol (Rule A) e = absurd (false≢true e)
tested_symbol Positive e = absurd (false≢true e)
tested_symbol Negative e = absurd (false≢true e)
tested_symbol (Symbol X) e = (X, refl)
tested_symbol End e = absurd (false≢true e)
tested_symbol Invalid e = absurd (false≢true e)

pub symbol_test : (w : Word) → ((X : grammar.Symbol) → w ≡ Symbol X → ⊥) → is_symbol w ≡ false
symbol_test (Heading n t) h = refl
symbol_test (Rule A) h = refl
symbol_test Positive h = refl
symbol_test Negative h = refl
symbol_test (Symbol X) h = absurd (h X refl)
symbol_test End h = refl
symbol_test Invalid h = refl

module _ (words : List ℕ) (at : ℕ) where
  pub body_on : at < length words → is_symbol (decoded (get_or words at 0)) ≡ true → body_end words at ≡ body_end words (at + 1)
  unfolding symbols_first
  body_on h e = rw (drop-cons words at 0 h, e, add-one at) (omega arith)

  pub body_stops : at < length words → is_symbol (decoded (get_or words at 0)) ≡ false → body_end words at ≡ at
  unfolding symbols_first
  body_stops h e = rw (drop-cons words at 0 h, e) (omega arith)

  pub body_over : length words ≤ at → body_end words at ≡ at
  unfolding symbols_first
  body_over h = rw (drop_of_length-le words h) (omega arith)
