-- The elements of a concatenation are what is looked at in the pairs of an element of the one set and one of the other.
use mathlib.Core.Path.{◌≡◌}
use mathlib.Core.Bool.{◌&&◌}
use Prim.Native.Nat.{ℕ, ◌<◌}
use lib.Dec.{T, eqb, eqb→eq, eqb_refl}
use mir.Facts.{and_yes, yes_and}
use Rattle.base.proofs.Quantified.{below_elim, below_make}
use Rattle.lookahead.specs.declared.Lookahead.{Lookahead}
use Rattle.lookahead.specs.Lookaheads.{elements}
use Rattle.lookahead.specs.inner.Lookaheads.{element_after}
use Rattle.lookahead.specs.Elements.{has}
use Rattle.lookahead.specs.inner.Operations.{element_behind, in_concat, concat_numbers}
use Rattle.lookahead.proofs.Operations.{has_concat}

-- l is looked at in some pair of an element of x and one of y
pub record Pair (k : Lookahead) (x y l : ℕ) : Type 0 where
  pub a : ℕ
  pub b : ℕ
  pub a_below : a < elements k
  pub b_below : b < elements k
  pub a_in : T (has x a)
  pub b_in : T (has y b)
  pub is_after : element_after k a b ≡ l

-- an element of y behind a
pub behind_make : (k : Lookahead) (a y l b : ℕ) → b < elements k → T (has y b) → element_after k a b ≡ l → T (element_behind k a y l)
unfolding element_behind
behind_make k a y l b h t e =
    below_make (elements k) (λ b. has y b && eqb (element_after k a b) l) b h (yes_and (has y b) (eqb (element_after k a b) l) t (rw e (eqb_refl l)))

pub behind_elim : (k : Lookahead) (a y l : ℕ) → T (element_behind k a y l) → (b : ℕ) × (b < elements k) × T (has y b) × (element_after k a b ≡ l)
unfolding element_behind
behind_elim k a y l t =
    let b = below_elim (elements k) (λ b. has y b && eqb (element_after k a b) l) t in
    let s = and_yes (has y b.0) (eqb (element_after k a b.0) l) b.2 in
    (b.0, b.1, s.0, eqb→eq (element_after k a b.0) l s.1)

-- what is looked at in a pair is in the concatenation
pub pair_in : (k : Lookahead) (x y l : ℕ) → Pair k x y l → T (in_concat k x y l)
unfolding in_concat
pair_in k x y l p =
    below_make (elements k) (λ a. has x a && element_behind k a y l) p.a p.a_below
    (yes_and (has x p.a) (element_behind k p.a y l) p.a_in (behind_make k p.a y l p.b p.b_below p.b_in p.is_after))

pub in_pair : (k : Lookahead) (x y l : ℕ) → T (in_concat k x y l) → Pair k x y l
unfolding in_concat
in_pair k x y l t =
    let a = below_elim (elements k) (λ a. has x a && element_behind k a y l) t in
    let s = and_yes (has x a.0) (element_behind k a.0 y l) a.2 in
    let b = behind_elim k a.0 y l s.1 in
    record { a = a.0; b = b.0; a_below = a.1; b_below = b.1; a_in = s.0; b_in = b.2; is_after = b.3 }

pub pair_concat : (k : Lookahead) (x y l : ℕ) → Pair k x y l → T (has (concat_numbers k x y) l)
pair_concat k x y l p = rw (has_concat k x y l) (pair_in k x y l p)

-- what is in the concatenation is looked at in a pair
pub concat_pair : (k : Lookahead) (x y l : ℕ) → T (has (concat_numbers k x y) l) → Pair k x y l
concat_pair k x y l t = in_pair k x y l (rw (has_concat k x y l) at t)
