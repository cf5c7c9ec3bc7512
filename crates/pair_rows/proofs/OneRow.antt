-- The row of one terminal by digits: first tokens moved up to its pairs, and the lowest digit to the terminal alone.
use mathlib.Core.Path.{◌≡◌, refl, sym, ap, ◌∙◌}
use mathlib.Core.Bool.{Bool, true, false, ◌&&◌, ◌||◌, or-false}
use mathlib.Core.Logic.{◌⊎◌, inl, inr}
use Prim.Native.Nat.{ℕ, zero, suc, ◌+◌, ◌-◌, ◌*◌, ◌%◌, ◌^◌, ◌≤◌, ◌<◌}
use native.Mathlib.Omega.{arith}
use lib.Bits.{bit_and, bit_or, and_mask, and_le_r}
use lib.Dec.{T}
use Rattle.base.specs.Quantifiers.{one}
use Rattle.base.proofs.Booleans.{T_subst, T_none, both, and_l, and_r, and_make, or_l, or_r, or_cases}
use Rattle.lookahead.specs.declared.Lookahead.TheVariants.{Two}
use Rattle.lookahead.specs.Elements.{has, width}
use Rattle.lookahead.specs.inner.Operations.{terminal, element_behind, Concatenated}
use Rattle.pair_rows.specs.inner.Rows.{Has, is_single, begins}
use Rattle.lookahead.proofs.Elements.{has_or, has_zero, bounded, lowest}
use Rattle.pair_rows.proofs.Shifts.{up_elim, up_make}
use Rattle.pair_rows.proofs.Behind.{InRow, row_behind, behind_row, terminal_behind}
use Rattle.pair_rows.proofs.FirstTokens.{single_in, single_make}

-- the lowest digit alone
pub low_digit : (y : ℕ) → bit_and y 1 ≡ one (has y 0)
low_digit y = and_mask y 1 ∙ lowest y

low_only : (b : Bool) (d : ℕ) → T (has (one b) d) → T b × (d ≡ 0)
low_only true d t = (tt, omega (arith, bounded 1 1 d (omega arith) t))
low_only false d t = absurd (rw (has_zero d) at t)

low_set : (b : Bool) → T b → T (has (one b) 0)
unfolding has
low_set true t = tt
low_set false t = absurd t

module _ (y f : ℕ) (firsts : Has f (λ l. is_single l && begins y (l - 1))) where
  -- a first token of y
  pub first_of : (d : ℕ) → T (has f d) → (0 < d) × (d < 8) × T (begins y (d - 1))
  first_of d t =
      let u = rw (firsts d) at t in
      let b = single_in d (and_l (is_single d) (begins y (d - 1)) u) in
      (b.0, b.1, and_r (is_single d) (begins y (d - 1)) u)

  pub of_first : (r : ℕ) → r < 7 → T (begins y r) → T (has f (1 + r))
  of_first r h t =
      let e : (1 + r) - 1 ≡ r = omega arith in
      rw (firsts (1 + r)) (and_make (is_single (1 + r)) (begins y ((1 + r) - 1)) (single_make (1 + r) (omega arith) (omega arith)) (rw e t))

  -- the row of l: first tokens moved up to its pairs, and the lowest digit to l alone
  module _ (l : ℕ) (low : l < 7) where
    abbrev pairs : ℕ
    pairs = f * 2 ^ (7 + 7 * l) % 2 ^ width

    abbrev ends : ℕ
    ends = bit_and y 1 * 2 ^ (1 + l) % 2 ^ width

    row_to : (c : ℕ) → T (has pairs c) ⊎ T (has ends c) → InRow y l c
    row_to c (inl t) =
        let d = up_elim f (7 + 7 * l) c t in
        let b = first_of (c - (7 + 7 * l)) d.1 in
        inl ((c - (7 + 7 * l)) - 1, omega (arith, b.0, b.1), b.2, omega (arith, d.0, b.0))
    row_to c (inr t) =
        let d = up_elim (bit_and y 1) (1 + l) c t in
        let b = low_only (has y 0) (c - (1 + l)) (rw (low_digit y) at d.1) in
        inr (b.0, omega (arith, d.0, b.1))

    row_from : (c : ℕ) → InRow y l c → T (has pairs c) ⊎ T (has ends c)
    row_from c (inl (r, h, t, e)) =
        let d : 1 + r ≡ c - (7 + 7 * l) = omega (arith, e) in
        inl (up_make f (7 + 7 * l) c (omega (arith, e)) (omega (arith, e)) (T_subst (ap (has f) d) (of_first r h t)))
    row_from c (inr (t, e)) =
        let d : 0 ≡ c - (1 + l) = omega (arith, e) in
        let u : T (has (one (has y 0)) (c - (1 + l))) = T_subst (ap (has (one (has y 0))) d) (low_set (has y 0) t) in
        inr (up_make (bit_and y 1) (1 + l) c (omega (arith, e)) (omega (arith, e)) (rw (low_digit y) u))

    row_is : Has (bit_or pairs ends) (element_behind Two (suc l) y)
    row_is c =
        has_or pairs ends c
        ∙ both (has pairs c || has ends c) (element_behind Two (suc l) y c)
        (λ t. row_behind y l c low (row_to c (or_cases (has pairs c) (has ends c) t)))
        (λ t. elim (row_from c (behind_row y l c low t)) [ inl u ↦ or_l (has pairs c) (has ends c) u | inr u ↦ or_r (has pairs c) (has ends c) u ])

    -- where the lowest digit is not set, the pairs alone; else it is 1
    pub row_before_none : bit_and y 1 ≡ 0 → Concatenated Two (terminal Two l) y pairs
    row_before_none e = terminal_behind l y low (λ c. pairs_only c ∙ row_is c)
      where
        pairs_only : (c : ℕ) → has pairs c ≡ has (bit_or pairs ends) c
        pairs_only c =
            let n : has ends c ≡ false = T_none (has ends c) (λ t. rw (e, has_zero (c - (1 + l))) at (up_elim (bit_and y 1) (1 + l) c t).1) in
            sym (has_or pairs ends c ∙ ap (λ (b : Bool). has pairs c || b) n ∙ or-false (has pairs c))

    pub row_before_end : (bit_and y 1 ≡ 0 → ⊥) → Concatenated Two (terminal Two l) y (bit_or pairs (1 * 2 ^ (1 + l) % 2 ^ width))
    row_before_end ne =
        let e : bit_and y 1 ≡ 1 = one_of (bit_and y 1) (and_le_r y 1) ne in
        rw e at (terminal_behind l y low row_is)
      where
        one_of : (n : ℕ) → n ≤ 1 → (n ≡ 0 → ⊥) → n ≡ 1
        one_of zero h z = absurd (z refl)
        one_of (suc n) h z = omega arith
