-- Concatenation of lookahead sets, by pairs: monotone, associative, with the set of nothing as its unit, and empty where either set is.
use mathlib.Core.Path.{◌≡◌, refl}
use mathlib.Core.Bool.{Bool, true, false, ◌&&◌, ◌||◌}
use Prim.Native.Nat.{ℕ, ◌^◌, ◌<◌}
use lib.Dec.{T, eqb→eq, eqb_refl}
use mir.Facts.{and_yes, yes_and}
use Rattle.base.proofs.Booleans.{both, T_none}
use Rattle.lookahead.specs.declared.Lookahead.{Lookahead}
use Rattle.lookahead.specs.Lookaheads.{elements, nothing}
use Rattle.lookahead.specs.inner.Lookaheads.{element_after}
use Rattle.lookahead.specs.Elements.{has}
use Rattle.lookahead.specs.inner.Elements.{Subset}
use Rattle.lookahead.specs.inner.Operations.{is_empty, end, concat_numbers}
use Rattle.lookahead.proofs.Elements.{bounded}
use Rattle.lookahead.proofs.Emptiness.{empty_none, none_empty, some_element, element_some}
use Rattle.lookahead.proofs.Strings.{nothing_after, after_nothing, after_assoc, after_below, after_is_nothing, nothing_below}
use Rattle.lookahead.proofs.Operations.{has_end}
use Rattle.lookahead.proofs.Order.{subset_antisym}
use Rattle.lookahead.proofs.Pairs.{pair_concat, concat_pair}
use Rattle.lookahead.proofs.Weights.{total_bound}

module _ (k : Lookahead) where
  -- an element of each set gives one of the concatenation
  pub paired : (x y a b : ℕ) → a < elements k → b < elements k → T (has x a) → T (has y b) → T (has (concat_numbers k x y) (element_after k a b))
  paired x y a b h i s t =
      pair_concat k x y (element_after k a b) (record { a = a; b = b; a_below = h; b_below = i; a_in = s; b_in = t; is_after = refl })

  -- it has no digits above those of elements
  pub concat_bound : (x y : ℕ) → concat_numbers k x y < 2 ^ elements k
  unfolding concat_numbers
  concat_bound x y = total_bound (elements k) _

  -- larger sets have a larger concatenation
  pub concat_mono : (x y x' y' : ℕ) → Subset x x' → Subset y y' → Subset (concat_numbers k x y) (concat_numbers k x' y')
  concat_mono x y x' y' f g l t =
      let p = concat_pair k x y l t in
      rw p.is_after at (paired x' y' p.a p.b p.a_below p.b_below (f p.a p.a_in) (g p.b p.b_in))

  -- concatenation is associative
  pub concat_assoc : (x y z : ℕ) → concat_numbers k (concat_numbers k x y) z ≡ concat_numbers k x (concat_numbers k y z)
  concat_assoc x y z = subset_antisym (concat_numbers k (concat_numbers k x y) z) (concat_numbers k x (concat_numbers k y z)) to from
    where
      to : Subset (concat_numbers k (concat_numbers k x y) z) (concat_numbers k x (concat_numbers k y z))
      to l t =
          let p = concat_pair k (concat_numbers k x y) z l t in
          let q = concat_pair k x y p.a p.a_in in
          let e : element_after k q.a (element_after k q.b p.b) ≡ l = cc (after_assoc k q.a q.b p.b q.a_below q.b_below p.b_below) in
          rw e at (paired x (concat_numbers k y z) q.a (element_after k q.b p.b) q.a_below (after_below k q.b p.b q.b_below p.b_below)
          q.a_in (paired y z q.b p.b q.b_below p.b_below q.b_in p.b_in))

      from : Subset (concat_numbers k x (concat_numbers k y z)) (concat_numbers k (concat_numbers k x y) z)
      from l t =
          let p = concat_pair k x (concat_numbers k y z) l t in
          let q = concat_pair k y z p.b p.b_in in
          let e : element_after k (element_after k p.a q.a) q.b ≡ l = cc (after_assoc k p.a q.a q.b p.a_below q.a_below q.b_below) in
          rw e at (paired (concat_numbers k x y) z (element_after k p.a q.a) q.b (after_below k p.a q.a p.a_below q.a_below) q.b_below
          (paired x y p.a q.a p.a_below q.a_below p.a_in q.a_in) q.b_in)

  -- the set of nothing is its unit, on either side
  end_nothing : T (has (end k) (nothing k))
  end_nothing = rw (has_end k (nothing k)) (eqb_refl (nothing k))

  only_nothing : (l : ℕ) → T (has (end k) l) → l ≡ nothing k
  only_nothing l t = eqb→eq l (nothing k) (rw (has_end k l) at t)

  pub concat_end_left : (y : ℕ) → y < 2 ^ elements k → concat_numbers k (end k) y ≡ y
  concat_end_left y h = subset_antisym (concat_numbers k (end k) y) y to from
    where
      to : Subset (concat_numbers k (end k) y) y
      to l t =
          let p = concat_pair k (end k) y l t in
          let e : p.b ≡ l = cc (only_nothing p.a p.a_in, nothing_after k p.b) in rw e at p.b_in

      from : Subset y (concat_numbers k (end k) y)
      from l t = rw (nothing_after k l) at (paired (end k) y (nothing k) l (nothing_below k) (bounded (elements k) y l h t) end_nothing t)

  pub concat_end_right : (x : ℕ) → x < 2 ^ elements k → concat_numbers k x (end k) ≡ x
  concat_end_right x h = subset_antisym (concat_numbers k x (end k)) x to from
    where
      to : Subset (concat_numbers k x (end k)) x
      to l t =
          let p = concat_pair k x (end k) l t in
          let e : p.a ≡ l = cc (only_nothing p.b p.b_in, after_nothing k p.a) in rw e at p.a_in

      from : Subset x (concat_numbers k x (end k))
      from l t = rw (after_nothing k l) at (paired x (end k) l (nothing k) (bounded (elements k) x l h t) (nothing_below k) t end_nothing)

  -- a concatenation is empty just where either set is
  pub empty_concat : (x y : ℕ) → x < 2 ^ elements k → y < 2 ^ elements k → is_empty (concat_numbers k x y) ≡ (is_empty x || is_empty y)
  empty_concat x y h i = go (is_empty x) refl (is_empty y) refl
    where
      none : (z : ℕ) → is_empty z ≡ true → (l : ℕ) → T (has z l) → ⊥
      none z e l t = rw (empty_none z l e) at t

      go : (a : Bool) → is_empty x ≡ a → (b : Bool) → is_empty y ≡ b → is_empty (concat_numbers k x y) ≡ (a || b)
      go true ex b ey =
          none_empty (concat_numbers k x y) (λ l. T_none (has (concat_numbers k x y) l) (λ t. let p = concat_pair k x y l t in none x ex p.a p.a_in))
      go false ex true ey =
          none_empty (concat_numbers k x y) (λ l. T_none (has (concat_numbers k x y) l) (λ t. let p = concat_pair k x y l t in none y ey p.b p.b_in))
      go false ex false ey =
          let r = some_element x ex in
          let s = some_element y ey in
          element_some (concat_numbers k x y) (element_after k r.0 s.0)
          (paired x y r.0 s.0 (bounded (elements k) x r.0 h r.1) (bounded (elements k) y s.0 i s.1) r.1 s.1)

  -- nothing is in a concatenation just where it is in both sets
  pub nothing_concat : (x y : ℕ) → has (concat_numbers k x y) (nothing k) ≡ (has x (nothing k) && has y (nothing k))
  nothing_concat x y = both (has (concat_numbers k x y) (nothing k)) (has x (nothing k) && has y (nothing k)) to from
    where
      to : T (has (concat_numbers k x y) (nothing k)) → T (has x (nothing k) && has y (nothing k))
      to t =
          let p = concat_pair k x y (nothing k) t in
          let e = after_is_nothing k p.a p.b p.a_below p.b_below p.is_after in
          yes_and (has x (nothing k)) (has y (nothing k)) (rw e.0 at p.a_in) (rw e.1 at p.b_in)

      from : T (has x (nothing k) && has y (nothing k)) → T (has (concat_numbers k x y) (nothing k))
      from t =
          let s = and_yes (has x (nothing k)) (has y (nothing k)) t in
          rw (nothing_after k (nothing k)) at (paired x y (nothing k) (nothing k) (nothing_below k) (nothing_below k) s.0 s.1)
