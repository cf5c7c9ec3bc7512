-- Lookahead sets by containment: a join is the least set that contains both, a meet the greatest that both contain.
use mathlib.Core.Path.{◌≡◌}
use mathlib.Core.Logic.{inl, inr}
use Prim.Native.Nat.{ℕ, ◌≤◌, ◌<◌}
use native.Mathlib.Omega.{arith}
use native.Mathlib.Decide.{ℕ_discrete}
use lib.Bits.{or_add_and, and_le_l, and_le_r}
use mir.Facts.{and_yes, yes_and, or_yes}
use Rattle.lookahead.specs.Elements.{has}
use Rattle.lookahead.specs.inner.Elements.{Subset}
use Rattle.lookahead.specs.inner.Operations.{empty_set, join, meet}
use Rattle.base.proofs.Booleans.{both, or_l, or_r}
use Rattle.lookahead.proofs.Elements as elements
use Rattle.lookahead.proofs.Operations.{has_empty, has_join, has_meet}

-- containment is a partial order
pub subset_refl : (x : ℕ) → Subset x x
subset_refl x l t = t

pub subset_antisym : (x y : ℕ) → Subset x y → Subset y x → x ≡ y
subset_antisym x y f g = elements.same_elements x y (λ l. both (has x l) (has y l) (f l) (g l))

-- the empty set is in every set
pub empty_least : (x : ℕ) → Subset empty_set x
empty_least x l t = absurd (rw (has_empty l) at t)

-- a join contains both, and is in every set that does
pub join_left : (x y : ℕ) → Subset x (join x y)
join_left x y l t = rw (has_join x y l) (or_l (has x l) (has y l) t)

pub join_right : (x y : ℕ) → Subset y (join x y)
join_right x y l t = rw (has_join x y l) (or_r (has x l) (has y l) t)

pub join_least : (x y z : ℕ) → Subset x z → Subset y z → Subset (join x y) z
join_least x y z f g l t = elim (or_yes (has x l) (has y l) (rw (has_join x y l) at t)) [ inl u ↦ f l u | inr u ↦ g l u ]

-- a meet is in both, and contains every set that is
pub meet_left : (x y : ℕ) → Subset (meet x y) x
meet_left x y l t = (and_yes (has x l) (has y l) (rw (has_meet x y l) at t)).0

pub meet_right : (x y : ℕ) → Subset (meet x y) y
meet_right x y l t = (and_yes (has x l) (has y l) (rw (has_meet x y l) at t)).1

pub meet_greatest : (x y z : ℕ) → Subset z x → Subset z y → Subset z (meet x y)
meet_greatest x y z f g l t = rw (has_meet x y l) (yes_and (has x l) (has y l) (f l t) (g l t))

-- larger sets have a larger join and a larger meet
module _ (x y x' y' : ℕ) (f : Subset x x') (g : Subset y y') where
  pub join_mono : Subset (join x y) (join x' y')
  join_mono = join_least x y (join x' y') (λ l t. join_left x' y' l (f l t)) (λ l t. join_right x' y' l (g l t))

  pub meet_mono : Subset (meet x y) (meet x' y')
  meet_mono = meet_greatest x' y' (meet x y) (λ l t. f l (meet_left x y l t)) (λ l t. g l (meet_right x y l t))

-- to join what a set contains leaves it as it is, and what leaves it so is contained
pub join_same : (x y : ℕ) → Subset y x → join x y ≡ x
join_same x y f = subset_antisym (join x y) x (join_least x y x (subset_refl x) f) (join_left x y)

pub same_join : (x y : ℕ) → join x y ≡ x → Subset y x
same_join x y e l t = rw e at (join_right x y l t)

-- a join is no smaller a number, and a larger one where it is another
pub join_rises : (x y : ℕ) → x ≤ join x y
unfolding join
join_rises x y = omega (arith, or_add_and x y, and_le_r x y)

pub join_grows : (x y : ℕ) → (join x y ≡ x → ⊥) → x < join x y
join_grows x y ne = go (ℕ_discrete (join x y) x)
  where
    go : Dec (join x y ≡ x) → x < join x y
    go (yes e) = absurd (ne e)
    go (no d) = omega (arith, join_rises x y)

-- a set that contains another is no smaller a number
pub subset_le : (x y : ℕ) → Subset x y → x ≤ y
unfolding join
subset_le x y f = omega (arith, join_same y x f, or_add_and y x, and_le_l y x)
