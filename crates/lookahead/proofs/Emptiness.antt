-- A lookahead set is empty just where it has no elements.
use mathlib.Core.Path.{◌≡◌, sym, ap, ◌∙◌}
use mathlib.Core.Bool.{true, false}
use Prim.Native.Nat.{ℕ}
use lib.Dec.{T}
use borrow.Author.Tests.{eq-eqb, ne_eqb, eqb-true, eqb-false}
use Rattle.lookahead.specs.Elements.{has}
use Rattle.lookahead.specs.inner.Operations.{empty_set, is_empty}
use Rattle.lookahead.proofs.Elements as elements
use Rattle.lookahead.proofs.Operations.{has_empty}

-- an empty set is 0 and has no elements, and a set with no elements is empty
pub is_empty_lem : (x : ℕ) → is_empty x ≡ true → x ≡ empty_set
unfolding is_empty
is_empty_lem x e = eqb-true x empty_set e

pub empty_none : (x l : ℕ) → is_empty x ≡ true → has x l ≡ false
empty_none x l e = ap (λ (n : ℕ). has n l) (is_empty_lem x e) ∙ has_empty l

pub none_empty : (x : ℕ) → ((l : ℕ) → has x l ≡ false) → is_empty x ≡ true
unfolding is_empty
none_empty x h = eq-eqb x empty_set (elements.same_elements x empty_set (λ l. h l ∙ sym (has_empty l)))

-- a set that is not empty has an element, and a set with an element is not empty
pub some_element : (x : ℕ) → is_empty x ≡ false → (l : ℕ) × T (has x l)
unfolding is_empty
some_element x e = elements.some_element x (eqb-false x empty_set e)

pub element_some : (x l : ℕ) → T (has x l) → is_empty x ≡ false
unfolding is_empty
element_some x l t = ne_eqb x empty_set (λ e. absurd (rw (e, has_empty l) at t))
