-- The word that a sign tells of, and where it stands.
use mathlib.Core.Path.{◌≡◌, refl, ap}
use mathlib.Core.Bool.{Bool, true, false}
use mathlib.Core.List.{List}
use Prim.Native.Nat.{ℕ, ◌<◌}
use native.Mathlib.Omega.{arith}
use lib.Dec.{ltb}
use lib.ListN.{length, get_or}
use borrow.Author.Tests.{ltb-true}
use Rattle.base.specs.Choice.{choose}
use Rattle.word.specs.Words.{decoded}
use Rattle.word.specs.declared.Word.{Word}
use Rattle.word.specs.declared.Word.TheVariants as word
use Rattle.rule.specs.declared.Sign.{Sign}
use Rattle.rule.specs.declared.Sign.TheVariants.{Positive, Negative, Neither}
use Rattle.rule.specs.inner.Rule.{sign_of, sign_at}

-- signs are told apart by a number
abbrev pub sign_number : Sign → ℕ
sign_number Neither = 0
sign_number Positive = 1
sign_number Negative = 2

pub sign_number_lem : {s s' : Sign} → s ≡ s' → sign_number s ≡ sign_number s'
sign_number_lem e = ap sign_number e

-- the word that a sign tells of
pub sign_positive : (w : Word) → sign_of w ≡ Positive → w ≡ word.Positive
sign_positive (word.Heading n t) e = absurd (omega (arith, sign_number_lem e))
sign_positive (word.Rule A) e = absurd (omega (arith, sign_number_lem e))
sign_positive word.Positive e = refl
sign_positive word.Negative e = absurd (omega (arith, sign_number_lem e))
sign_positive (word.Symbol X) e = absurd (omega (arith, sign_number_lem e))
sign_positive word.End e = absurd (omega (arith, sign_number_lem e))
sign_positive word.Invalid e = absurd (omega (arith, sign_number_lem e))

pub sign_negative : (w : Word) → sign_of w ≡ Negative → w ≡ word.Negative
sign_negative (word.Heading n t) e = absurd (omega (arith, sign_number_lem e))
sign_negative (word.Rule A) e = absurd (omega (arith, sign_number_lem e))
sign_negative word.Positive e = absurd (omega (arith, sign_number_lem e))
sign_negative word.Negative e = refl
sign_negative (word.Symbol X) e = absurd (omega (arith, sign_number_lem e))
sign_negative word.End e = absurd (omega (arith, sign_number_lem e))
sign_negative word.Invalid e = absurd (omega (arith, sign_number_lem e))

-- a sign but neither stands within the words
pub sign_within : (words : List ℕ) (at : ℕ) → (sign_at words at ≡ Neither → ⊥)
    → (at < length words) × (sign_at words at ≡ sign_of (decoded (get_or words at 0)))
unfolding sign_at
sign_within words at h = go (ltb at (length words)) refl h
  where
    go : (b : Bool) → ltb at (length words) ≡ b → (choose b (sign_of (decoded (get_or words at 0))) Neither ≡ Neither → ⊥)
        → (at < length words) × (choose b (sign_of (decoded (get_or words at 0))) Neither ≡ sign_of (decoded (get_or words at 0)))
    go true e h = (ltb-true at (length words) e, refl)
    go false e h = absurd (h refl)
