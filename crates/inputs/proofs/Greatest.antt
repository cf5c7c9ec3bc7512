-- The first that costs the most: none costs more, and those before it cost less.
use mathlib.Core.Path.{◌≡◌, refl, sym, ap, ◌∙◌}
use mathlib.Core.Bool.{Bool, true, false}
use mathlib.Core.List.{List, [], ◌∷◌}
use Prim.Native.Nat.{ℕ, zero, suc, ◌^◌, ◌≤◌, ◌<◌}
use native.Mathlib.Omega.{arith}
use lib.Dec.{ltb}
use lib.ListN.{length, get_or}
use borrow.Author.Tests.{ltb-true, ltb-false}
use Rattle.base.specs.Choice.{choose}
use Rattle.inputs.specs.Inputs.{inputs}
use Rattle.inputs.specs.inner.Inputs.{input_at}
use Rattle.inputs.specs.Costliest.{costliest_from, first_costliest, costliest, CostliestOf}
use Rattle.inputs.proofs.Numbers.{inputs_count, some_input, inputs_at, number_from, at_long, at_over, number_at, at_number, before_lower}

module _ (cost : List ℕ → ℕ) where
  record FirstMost (l : List (List ℕ)) (r : List ℕ) : Type 0 where
    at : ℕ
    low : at < length l
    here : get_or l at [] ≡ r
    most : (i : ℕ) → i < length l → cost (get_or l i []) ≤ cost r
    less : (i : ℕ) → i < at → cost (get_or l i []) < cost r

  -- one more in front that costs less
  front_less : (x y : List ℕ) (l : List (List ℕ)) (r : List ℕ) → cost x < cost y → FirstMost (y ∷ l) r → FirstMost (x ∷ y ∷ l) r
  front_less x y l r h f = record {
    at = suc f.at;
    low = omega (arith, f.low);
    here = f.here;
    most = most;
    less = less;
  }
    where
      most : (i : ℕ) → i < suc (suc (length l)) → cost (get_or (x ∷ y ∷ l) i []) ≤ cost r
      most zero k = omega (arith, f.most 0 (omega arith))
      most (suc i) k = f.most i (omega arith)

      less : (i : ℕ) → i < suc f.at → cost (get_or (x ∷ y ∷ l) i []) < cost r
      less zero k = omega (arith, f.most 0 (omega arith))
      less (suc i) k = f.less i (omega arith)

  -- one more in the second place that does not cost more than the first
  second_most : (x y : List ℕ) (l : List (List ℕ)) (r : List ℕ) → cost y ≤ cost x → FirstMost (x ∷ l) r → FirstMost (x ∷ y ∷ l) r
  second_most x y l r h f = go f.at f.low f.here f.less
    where
      most : (i : ℕ) → i < suc (suc (length l)) → cost (get_or (x ∷ y ∷ l) i []) ≤ cost r
      most zero k = f.most 0 (omega arith)
      most (suc zero) k = omega (arith, f.most 0 (omega arith))
      most (suc (suc i)) k = f.most (suc i) (omega arith)

      less : (p : ℕ) → ((i : ℕ) → i < suc p → cost (get_or (x ∷ l) i []) < cost r) → (i : ℕ) → i < suc (suc p) → cost (get_or (x ∷ y ∷ l) i []) < cost r
      less p g zero k = g 0 (omega arith)
      less p g (suc zero) k = omega (arith, g 0 (omega arith))
      less p g (suc (suc i)) k = g (suc i) (omega arith)

      go : (p : ℕ) → p < suc (length l) → get_or (x ∷ l) p [] ≡ r → ((i : ℕ) → i < p → cost (get_or (x ∷ l) i []) < cost r) → FirstMost (x ∷ y ∷ l) r
      go zero k e g = record { at = 0; low = omega arith; here = e; most = most; less = λ i n. absurd (omega arith) }
      go (suc p) k e g = record { at = suc (suc p); low = omega arith; here = e; most = most; less = less p g }

  first_most : (x : List ℕ) (l : List (List ℕ)) → FirstMost (x ∷ l) (costliest_from cost x l)
  unfolding costliest_from
  first_most x [] = record { at = 0; low = omega arith; here = refl; most = only; less = λ i n. absurd (omega arith) }
    where
      only : (i : ℕ) → i < 1 → cost (get_or (x ∷ []) i []) ≤ cost x
      only zero k = omega arith
      only (suc i) k = absurd (omega arith)
  first_most x (y ∷ l) = go (ltb (cost x) (cost y)) refl (λ z. first_most z l)
    where
      go : (b : Bool) → ltb (cost x) (cost y) ≡ b → ((z : List ℕ) → FirstMost (z ∷ l) (costliest_from cost z l))
          → FirstMost (x ∷ y ∷ l) (costliest_from cost (choose b y x) l)
      go true e f = front_less x y l (costliest_from cost y l) (ltb-true (cost x) (cost y) e) (f y)
      go false e f = second_most x y l (costliest_from cost x l) (ltb-false (cost x) (cost y) e) (f x)

  module _ (n : ℕ) (some_terminal : 0 < n) (k : ℕ) where
    costliest_first : FirstMost (inputs n k) (costliest cost n k)
    unfolding costliest
    costliest_first = go (inputs n k) (omega (arith, inputs_count n k, some_input n some_terminal k))
      where
        go : (l : List (List ℕ)) → 0 < length l → FirstMost l (first_costliest cost l)
        go [] h = absurd (omega arith)
        go (x ∷ l) h = first_most x l

    pub costliest_of : CostliestOf cost n k (costliest cost n k)
    costliest_of =
        let f = costliest_first in
        let c = inputs_count n k in
        let low : f.at < n ^ k = omega (arith, f.low) in
        let w : input_at n k f.at ≡ costliest cost n k = sym (inputs_at n some_terminal k f.at low) ∙ f.here in
        let long : length (costliest cost n k) ≡ k = ap length (sym w) ∙ at_long n k f.at in
        let own : number_from n 0 (costliest cost n k) ≡ f.at = ap (number_from n 0) (sym w) ∙ number_at n some_terminal k f.at low in
        record {
          long = long;
          tokens = rw w at (at_over n some_terminal k f.at);
          greatest = λ x e h.
              let a = rw e at (at_number n some_terminal x h) in
              rw (inputs_at n some_terminal k (number_from n 0 x) a.0 ∙ a.1) at (f.most (number_from n 0 x) (omega (arith, a.0)));
          first = λ x e h b.
              let a = rw e at (at_number n some_terminal x h) in
              let l = before_lower n some_terminal 0 x (costliest cost n k) (e ∙ sym long) h b in
              rw (inputs_at n some_terminal k (number_from n 0 x) a.0 ∙ a.1) at (f.less (number_from n 0 x) (omega (arith, own)));
        }
