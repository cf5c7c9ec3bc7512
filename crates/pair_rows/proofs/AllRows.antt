-- All rows at once by digits: the terminals alone are moved to the starts of their rows, and multiplied by the first tokens.
use mathlib.Core.Path.{◌≡◌, refl, sym, ap, ap₂, ◌∙◌}
use mathlib.Core.Bool.{Bool, true, false, not, ◌&&◌, ◌||◌}
use mathlib.Core.Logic.{◌⊎◌, inl, inr}
use Prim.Native.Nat.{ℕ, suc, ◌+◌, ◌-◌, ◌*◌, ◌/◌, ◌%◌, ◌^◌, ◌≤◌, ◌<◌}
use native.Mathlib.Nat.{mul_assoc, mul-le-mul}
use native.Mathlib.Omega.{arith}
use lib.Bits.{bit_and, bit_or}
use lib.Dec.{T, eqb, eqb→eq}
use lib.Pow.{shl_exact}
use Rattle.base.specs.Quantifiers.{one, any_below}
use Rattle.base.proofs.Booleans.{T_subst, T_none, test, both, and_l, and_r, and_make, or_l, or_r, or_cases}
use Rattle.base.proofs.Quantified.{below_make, below_elim}
use Rattle.lookahead.specs.declared.Lookahead.TheVariants.{Two}
use Rattle.lookahead.specs.Elements.{has, width}
use Rattle.lookahead.specs.inner.Operations.{Empty, element_behind}
use Rattle.pair_rows.specs.inner.Rows.{Has, is_single, begins, in_rows}
use Rattle.lookahead.proofs.Elements.{has_or, has_and, has_shift, has_zero, bound, bounded, lowest}
use Rattle.lookahead.proofs.Digits.{moved, has_over}
use Rattle.pair_rows.proofs.Shifts.{Spread, unmoved, further}
use Rattle.pair_rows.proofs.Products.{Sevenths, copies}
use Rattle.pair_rows.proofs.Behind.{InRow, row_behind, behind_row}
use Rattle.pair_rows.proofs.FirstTokens.{singles, has_singles, single_in, single_make}
use Rattle.pair_rows.proofs.OneRow.{low_digit, first_of, of_first}

-- the first pair of each row, one place up
abbrev row_starts : ℕ
row_starts = 8865353597186

none_missing : any_below 7 (λ r. not (has row_starts (1 + 7 * r))) ≡ false
unfolding any_below has
none_missing = refl

row_start : (r : ℕ) → r < 7 → T (has row_starts (1 + 7 * r))
row_start r h = elim (test (has row_starts (1 + 7 * r))) [
  | inl t ↦ t
  | inr n ↦ absurd (T_subst none_missing (below_make 7 (λ r. not (has row_starts (1 + 7 * r))) r h n))
]

no_other : any_below 44 (λ p. has row_starts p && not (eqb (p % 7) 1)) ≡ false
unfolding any_below has
no_other = refl

at_start : (p : ℕ) → T (has row_starts p) → p % 7 ≡ 1
at_start p t = elim (test (eqb (p % 7) 1)) [
  | inl e ↦ eqb→eq (p % 7) 1 e
  | inr n ↦ absurd (T_subst no_other (below_make 44 (λ p. has row_starts p && not (eqb (p % 7) 1)) p (bounded 44 row_starts p (omega arith) t)
      (and_make (has row_starts p) (not (eqb (p % 7) 1)) t n)))
]

module _ (x : ℕ) where
  abbrev pub alone : ℕ
  alone = bit_and x singles

  in_alone : (l : ℕ) → T (has alone l) → T (has x l) × (0 < l) × (l < 8)
  in_alone l t =
      let u = rw (has_and x singles l) at t in
      let b = single_in l (rw (has_singles l) at (and_r (has x l) (has singles l) u)) in
      (and_l (has x l) (has singles l) u, b.0, b.1)

  to_alone : (l : ℕ) → 0 < l → l < 8 → T (has x l) → T (has alone l)
  to_alone l h i t = rw (has_and x singles l) (and_make (has x l) (has singles l) t (rw (has_singles l) (single_make l h i)))

  abbrev two : ℕ
  two = bit_or alone (alone * 2 ^ 6 % 2 ^ width)

  abbrev four : ℕ
  four = bit_or two (two * 2 ^ 12 % 2 ^ width)

  abbrev seven : ℕ
  seven = bit_or four (four * 2 ^ 18 % 2 ^ width)

  by_seven : Spread 6 alone 7 seven
  by_seven =
      let a = unmoved 6 alone in
      let b = further 6 alone 1 1 1 6 refl (omega arith) (omega arith) a a in
      let c = further 6 alone 2 2 2 12 refl (omega arith) (omega arith) b b in
      further 6 alone 4 4 3 18 refl (omega arith) (omega arith) c c

  abbrev pub starts : ℕ
  starts = bit_and seven row_starts

  -- the terminals alone, each at the start of its row
  in_starts : (p : ℕ) → T (has starts p) → (l : ℕ) × (l < 7) × (p ≡ 1 + 7 * l) × T (has x (suc l))
  in_starts p t =
      let u = rw (has_and seven row_starts p) at t in
      let s = at_start p (and_r (has seven p) (has row_starts p) u) in
      let d = by_seven.to p (and_l (has seven p) (has row_starts p) u) in
      let a = in_alone (p - 6 * d.0) d.3 in
      let e : p ≡ 1 + 7 * d.0 = omega (arith, s, d.1, d.2, a.1, a.2) in
      let i : p - 6 * d.0 ≡ suc d.0 = omega (arith, e) in
      (d.0, d.1, e, T_subst (ap (has x) i) a.0)

  to_starts : (l : ℕ) → l < 7 → T (has x (suc l)) → T (has starts (1 + 7 * l))
  to_starts l h t =
      let i : suc l ≡ (1 + 7 * l) - 6 * l = omega arith in
      let u : T (has alone ((1 + 7 * l) - 6 * l)) = T_subst (ap (has alone) i) (to_alone (suc l) (omega arith) (omega arith) t) in
      rw (has_and seven row_starts (1 + 7 * l)) (and_make (has seven (1 + 7 * l)) (has row_starts (1 + 7 * l))
      (by_seven.from (1 + 7 * l) l (omega arith) h (omega arith) u) (row_start l h))

  -- no terminal alone, no row
  pub rows_skipped : (y : ℕ) {r : ℕ} → alone ≡ 0 → Empty r → Has r (in_rows x y 7)
  unfolding in_rows
  rows_skipped y e n c = n.member c ∙ sym (T_none (in_rows x y 7 c) none)
    where
      none : T (in_rows x y 7 c) → ⊥
      none t =
          let l = below_elim 7 (λ l. has x (suc l) && element_behind Two (suc l) y c) t in
          let h = to_alone (suc l.0) (omega arith) (omega (arith, l.1)) (and_l (has x (suc l.0)) (element_behind Two (suc l.0) y c) l.2) in
          rw (e, has_zero (suc l.0)) at h

-- a set that is there only where a digit is set
kept : (b : Bool) (s c : ℕ) → has (s * one b) c ≡ (b && has s c)
kept true s c = ap (λ (n : ℕ). has n c) (omega arith)
kept false s c = ap (λ (n : ℕ). has n c) (omega arith) ∙ has_zero c

halved : (n : ℕ) → has n 0 ≡ false → n ≡ n / 2 ^ 1 * 2
halved n e = let z : n % 2 ≡ 0 = lowest n ∙ ap one e in omega (arith, z)

quarter : (a b : ℕ) → (a * 2) * (b * 2) ≡ a * b * 4
quarter a b = let e : 2 * (b * 2) ≡ b * 4 = omega arith in mul_assoc a 2 (b * 2) ∙ ap (λ (n : ℕ). a * n) e ∙ sym (mul_assoc a b 4)

module _ (x y f : ℕ) (firsts : Has f (λ l. is_single l && begins y (l - 1))) where
  abbrev places : ℕ
  places = starts x / 2 ^ 1

  abbrev tokens : ℕ
  tokens = f / 2 ^ 1

  start_of : (p : ℕ) → T (has places p) → (l : ℕ) × (l < 7) × (p ≡ 7 * l) × T (has x (suc l))
  start_of p t = let s = in_starts x (1 + p) (rw (has_shift (starts x) 1 p) at t) in (s.0, s.1, omega (arith, s.2), s.3)

  few : tokens < 2 ^ 7
  few = bound 7 tokens (λ d t. omega (arith, (first_of y f firsts (1 + d) (rw (has_shift f 1 d) at t)).1))

  near : places < 2 ^ 43
  near = bound 43 places (λ p t. let s = start_of p t in omega (arith, s.1, s.2))

  sevenths : Sevenths places
  sevenths p t = omega (arith, (start_of p t).2)

  product : starts x * f ≡ places * tokens * 4
  product =
      ap₂ (λ (m n : ℕ). m * n) (halved (starts x) (T_none (has (starts x) 0) (λ t. omega (arith, (in_starts x 0 t).2))))
      (halved f (T_none (has f 0) (λ t. omega (arith, (first_of y f firsts 0 t).0))))
      ∙ quarter places tokens

  small : places * tokens < 2 ^ 50
  small =
      let m : places ≤ 2 ^ 43 - 1 = omega (arith, near) in
      let n : tokens ≤ 2 ^ 7 - 1 = omega (arith, few) in
      let p = mul-le-mul m n in
      omega (arith, p)

  pub product_fits : starts x * f < 2 ^ width
  product_fits = omega (arith, product, small)

  exact : starts x * f * 2 ^ 6 % 2 ^ width ≡ places * tokens * 2 ^ 8
  exact =
      let e : starts x * f * 2 ^ 6 ≡ places * tokens * 2 ^ 8 = omega (arith, product) in
      ap (λ (n : ℕ). n % 2 ^ width) e ∙ shl_exact {a = places * tokens} 50 8 width small (omega arith)

  abbrev kept_alone : ℕ
  kept_alone = alone x * bit_and y 1

  in_kept : (c : ℕ) → has kept_alone c ≡ (has y 0 && has (alone x) c)
  in_kept c = ap (λ (n : ℕ). has (alone x * n) c) (low_digit y) ∙ kept (has y 0) (alone x) c

  to : (c : ℕ) → T (has (places * tokens * 2 ^ 8) c) ⊎ T (has kept_alone c) → (l : ℕ) × (l < 7) × T (has x (suc l)) × InRow y l c
  to c (inl t) =
      let d = moved (places * tokens) 8 c t in
      let e : d.0 ≡ 7 * (d.0 / 7) + d.0 % 7 = omega arith in
      let u = rw (copies tokens few (d.0 / 7) places (d.0 % 7) sevenths (omega arith)) at (T_subst (ap (has (places * tokens)) e) d.2) in
      let s = start_of (7 * (d.0 / 7)) (and_l (has places (7 * (d.0 / 7))) (has tokens (d.0 % 7)) u) in
      let g = first_of y f firsts (1 + d.0 % 7) (rw (has_shift f 1 (d.0 % 7)) at (and_r (has places (7 * (d.0 / 7))) (has tokens (d.0 % 7)) u)) in
      let i : (1 + d.0 % 7) - 1 ≡ d.0 % 7 = omega arith in
      (s.0, s.1, s.3, inl (d.0 % 7, omega arith, rw i at g.2, omega (arith, d.1, s.2)))
  to c (inr t) =
      let u = rw (in_kept c) at t in
      let a = in_alone x c (and_r (has y 0) (has (alone x) c) u) in
      let e : suc (c - 1) ≡ c = omega (arith, a.1) in
      (c - 1, omega (arith, a.1, a.2), rw e a.0, inr (and_l (has y 0) (has (alone x) c) u, sym e))

  from : (c l : ℕ) → l < 7 → T (has x (suc l)) → InRow y l c → T (has (places * tokens * 2 ^ 8) c) ⊎ T (has kept_alone c)
  from c l h t (inl (r, i, u, e)) =
      let d : c ≡ 8 + (7 * l + r) = omega (arith, e) in
      inl (rw (d, has_over (places * tokens) 8 (7 * l + r), copies tokens few l places r sevenths i) (and_make (has places (7 * l)) (has tokens r)
      (rw (has_shift (starts x) 1 (7 * l)) (to_starts x l h t)) (rw (has_shift f 1 r) (of_first y f firsts r i u))))
  from c l h t (inr (u, e)) = inr (rw (in_kept c) (and_make (has y 0) (has (alone x) c) u (to_alone x c (omega (arith, e)) (omega (arith, e)) (rw e t))))

  -- all rows at once
  pub rows_are : Has (bit_or (starts x * f * 2 ^ 6 % 2 ^ width) kept_alone) (in_rows x y 7)
  unfolding in_rows
  rows_are c =
      ap (λ (n : ℕ). has (bit_or n kept_alone) c) exact
      ∙ has_or (places * tokens * 2 ^ 8) kept_alone c
      ∙ both (has (places * tokens * 2 ^ 8) c || has kept_alone c) (in_rows x y 7 c) there back
    where
      there : T (has (places * tokens * 2 ^ 8) c || has kept_alone c) → T (in_rows x y 7 c)
      there t =
          let d = to c (or_cases (has (places * tokens * 2 ^ 8) c) (has kept_alone c) t) in
          below_make 7 (λ l. has x (suc l) && element_behind Two (suc l) y c) d.0 d.1
          (and_make (has x (suc d.0)) (element_behind Two (suc d.0) y c) d.2 (row_behind y d.0 c d.1 d.3))

      back : T (in_rows x y 7 c) → T (has (places * tokens * 2 ^ 8) c || has kept_alone c)
      back t =
          let d = below_elim 7 (λ l. has x (suc l) && element_behind Two (suc l) y c) t in
          elim (from c d.0 d.1 (and_l (has x (suc d.0)) (element_behind Two (suc d.0) y c) d.2)
          (behind_row y d.0 c d.1 (and_r (has x (suc d.0)) (element_behind Two (suc d.0) y c) d.2))) [
            | inl u ↦ or_l (has (places * tokens * 2 ^ 8) c) (has kept_alone c) u
            | inr u ↦ or_r (has (places * tokens * 2 ^ 8) c) (has kept_alone c) u
          ]
