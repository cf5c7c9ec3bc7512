-- The directions of events change nothing where a promise about the input settles what a call leaves.
use mathlib.Core.Path.{◌≡◌, ap₂, subst}
use mathlib.Core.List.{List}
use Prim.Native.Nat.{ℕ}
use Rattle.promises.specs.Directions.{DirectionsIgnored}

pub directions_ignored : {Left : Type 0} (Promise : List ℕ → Left → Type 0) → ((w : List ℕ) (l m : Left) → Promise w l → Promise w m → l ≡ m)
    → DirectionsIgnored Promise
directions_ignored Promise settled events turned e l m p q = settled _ l m (subst (λ w. Promise w l) e p) q

-- what is left is often a pair: it is the same where both parts are
pub pair_same : {A B : Type 0} {x y : A × B} → x.0 ≡ y.0 → x.1 ≡ y.1 → x ≡ y
pair_same {A} {B} {x} {y} a b = let z : ◌≡◌ {A = A × B} (x.0, x.1) (y.0, y.1) = ap₂ (λ s t. (s, t)) a b in z
