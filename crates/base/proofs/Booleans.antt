-- Laws of tests: how to make, read and compare them.
use mathlib.Core.Bool.{Bool, true, false, not, ◌&&◌, ◌||◌, true≢false, false≢true}
use mathlib.Core.Logic.{◌⊎◌, inl, inr}
use mathlib.Core.Path.{◌≡◌, refl}
use lib.Dec.{T}

pub T_subst : {a b : Bool} → a ≡ b → T a → T b
T_subst e t = rw e at t

pub T_true : (b : Bool) → T b → b ≡ true
T_true true t = refl
T_true false t = absurd t

pub T_false : (b : Bool) → T (not b) → b ≡ false
T_false true t = absurd t
T_false false t = refl

pub true_T : (b : Bool) → b ≡ true → T b
true_T b e = rw e tt

pub T_none : (b : Bool) → (T b → ⊥) → b ≡ false
T_none true f = absurd (f tt)
T_none false f = refl

pub and_l : (a b : Bool) → T (a && b) → T a
and_l true b t = tt
and_l false b t = t

pub and_r : (a b : Bool) → T (a && b) → T b
and_r true b t = t
and_r false b t = absurd t

pub and_first : (a b : Bool) → (a && b) ≡ true → a ≡ true
and_first true b e = refl
and_first false b e = absurd (false≢true e)

pub and_make : (a b : Bool) → T a → T b → T (a && b)
and_make true b t u = u
and_make false b t u = t

pub or_map : (a b b' : Bool) → (T b → T b') → T (a || b) → T (a || b')
or_map true b b' f t = tt
or_map false b b' f t = f t

pub or_cases : (a b : Bool) → T (a || b) → T a ⊎ T b
or_cases true b t = inl tt
or_cases false b t = inr t

pub or_l : (a b : Bool) → T a → T (a || b)
or_l true b t = tt
or_l false b t = absurd t

pub or_r : (a b : Bool) → T b → T (a || b)
or_r true b t = tt
or_r false b t = t

pub test : (b : Bool) → T b ⊎ T (not b)
test true = inl tt
test false = inr tt

-- two tests are equal where each gives the other
pub both : (a b : Bool) → (T a → T b) → (T b → T a) → a ≡ b
both true true f g = refl
both true false f g = absurd (f tt)
both false true f g = absurd (g tt)
both false false f g = refl

-- the second side of an 'and' counts only where the first holds
pub and_cong : (a a' b b' : Bool) → a ≡ a' → (T a → b ≡ b') → (a && b) ≡ (a' && b')
and_cong true true b b' e f = f tt
and_cong true false b b' e f = absurd (true≢false e)
and_cong false true b b' e f = absurd (false≢true e)
and_cong false false b b' e f = refl

pub and_assoc : (a b c : Bool) → ((a && b) && c) ≡ (a && (b && c))
and_assoc true b c = refl
and_assoc false b c = refl

-- either first side makes the second sides equal, and the second side makes the first sides equal
pub and_twist : (a a' b b' : Bool) → (T a → b ≡ b') → (T a' → b ≡ b') → (T b' → a ≡ a') → (a && b) ≡ (a' && b')
and_twist true true b b' f g h = f tt
and_twist true false b true f g h = absurd (true≢false (h tt))
and_twist true false b false f g h = f tt
and_twist false true b true f g h = absurd (false≢true (h tt))
and_twist false true b false f g h = refl
and_twist false false b b' f g h = refl
