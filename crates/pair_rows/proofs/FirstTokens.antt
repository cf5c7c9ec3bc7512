-- First tokens by digits: that a row has a pair is moved up to its last one, and the last ones of all rows are moved side by side.
use mathlib.Core.Path.{◌≡◌, refl, ap, ◌∙◌}
use mathlib.Core.Bool.{false, not, ◌&&◌}
use mathlib.Core.Logic.{inl, inr}
use Prim.Native.Nat.{ℕ, suc, ◌+◌, ◌-◌, ◌*◌, ◌/◌, ◌%◌, ◌^◌, ◌<◌}
use native.Mathlib.Decide.{dec_lt}
use native.Mathlib.Omega.{arith}
use lib.Bits.{bit_and, bit_or}
use lib.Dec.{T, eqb, ltb, eqb→eq, ltb→lt, lt→ltb}
use borrow.Author.Tests.{lt-ltb, le-ltb}
use Rattle.base.specs.Quantifiers.{any_below}
use Rattle.base.proofs.Booleans.{T_subst, test, both, and_l, and_r, and_make, or_l, or_r, or_cases}
use Rattle.base.proofs.Quantified.{below_make, below_elim}
use Rattle.lookahead.specs.Elements.{has, width}
use Rattle.pair_rows.specs.inner.Rows.{Has, is_single, begins}
use Rattle.lookahead.proofs.Elements.{has_or, has_and, has_shift, bounded}
use Rattle.lookahead.proofs.Digits.{has_under, has_over}
use Rattle.lookahead.proofs.Powers.{has_ones}
use Rattle.pair_rows.proofs.Shifts.{Spread, unmoved, further}

-- the terminals alone
abbrev pub singles : ℕ
singles = 254

pub has_singles : (l : ℕ) → has singles l ≡ is_single l
has_singles l = go (dec_lt 0 l) (dec_lt l 8)
  where
    above : 0 < l → has ((2 ^ 7 - 1) * 2 ^ 1) l ≡ ltb (l - 1) 7
    above p = let e : l ≡ 1 + (l - 1) = omega arith in ap (has ((2 ^ 7 - 1) * 2 ^ 1)) e ∙ has_over (2 ^ 7 - 1) 1 (l - 1) ∙ has_ones 7 (l - 1)

    go : Dec (0 < l) → Dec (l < 8) → has singles l ≡ is_single l
    go (no p) q = rw (le-ltb 0 l (omega arith)) (has_under (2 ^ 7 - 1) 1 l (omega arith))
    go (yes p) (yes q) = rw (lt-ltb 0 l p, lt-ltb l 8 q) (above p ∙ lt-ltb (l - 1) 7 (omega arith))
    go (yes p) (no q) = rw (lt-ltb 0 l p, le-ltb l 8 (omega arith)) (above p ∙ le-ltb (l - 1) 7 (omega arith))

pub single_in : (l : ℕ) → T (is_single l) → (0 < l) × (l < 8)
single_in l t = (ltb→lt 0 l (and_l (ltb 0 l) (ltb l 8) t), ltb→lt l 8 (and_r (ltb 0 l) (ltb l 8) t))

pub single_make : (l : ℕ) → 0 < l → l < 8 → T (is_single l)
single_make l h i = and_make (ltb 0 l) (ltb l 8) (lt→ltb 0 l h) (lt→ltb l 8 i)

-- the last pair of each row
abbrev pub row_ends : ℕ
row_ends = 72624976668147712

none_missing : any_below 7 (λ r. not (has row_ends (14 + 7 * r))) ≡ false
unfolding any_below has
none_missing = refl

row_end : (r : ℕ) → r < 7 → T (has row_ends (14 + 7 * r))
row_end r h = elim (test (has row_ends (14 + 7 * r))) [
  | inl t ↦ t
  | inr n ↦ absurd (T_subst none_missing (below_make 7 (λ r. not (has row_ends (14 + 7 * r))) r h n))
]

no_other : any_below 57 (λ p. has row_ends p && not (eqb (p % 7) 0)) ≡ false
unfolding any_below has
no_other = refl

at_end : (p : ℕ) → T (has row_ends p) → p % 7 ≡ 0
at_end p t = elim (test (eqb (p % 7) 0)) [
  | inl e ↦ eqb→eq (p % 7) 0 e
  | inr n ↦ absurd (T_subst no_other (below_make 57 (λ p. has row_ends p && not (eqb (p % 7) 0)) p (bounded 57 row_ends p (omega arith) t)
      (and_make (has row_ends p) (not (eqb (p % 7) 0)) t n)))
]

module _ (y : ℕ) where
  abbrev two : ℕ
  two = bit_or y (y * 2 ^ 1 % 2 ^ width)

  abbrev four : ℕ
  four = bit_or two (two * 2 ^ 2 % 2 ^ width)

  abbrev seven : ℕ
  seven = bit_or four (four * 2 ^ 3 % 2 ^ width)

  by_seven : Spread 1 y 7 seven
  by_seven =
      let a = unmoved 1 y in
      let b = further 1 y 1 1 1 1 refl (omega arith) (omega arith) a a in
      let c = further 1 y 2 2 2 2 refl (omega arith) (omega arith) b b in
      further 1 y 4 4 3 3 refl (omega arith) (omega arith) c c

  abbrev row : ℕ
  row = bit_and seven row_ends

  in_row : (l : ℕ) → T (has row l) → T (has seven l) × T (has row_ends l)
  in_row l t = let u = rw (has_and seven row_ends l) at t in (and_l (has seven l) (has row_ends l) u, and_r (has seven l) (has row_ends l) u)

  -- a row has a pair just where its last digit is set
  filled : (r : ℕ) → r < 7 → T (has row (14 + 7 * r)) → T (any_below 7 (λ q. has y (8 + 7 * r + q)))
  filled r h t =
      let d = by_seven.to (14 + 7 * r) (in_row (14 + 7 * r) t).0 in
      let e : (14 + 7 * r) - 1 * d.0 ≡ 8 + 7 * r + (6 - d.0) = omega (arith, d.1) in
      below_make 7 (λ q. has y (8 + 7 * r + q)) (6 - d.0) (omega arith) (T_subst (ap (has y) e) d.3)

  fills : (r : ℕ) → r < 7 → T (any_below 7 (λ q. has y (8 + 7 * r + q))) → T (has row (14 + 7 * r))
  fills r h t =
      let d = below_elim 7 (λ q. has y (8 + 7 * r + q)) t in
      let e : 8 + 7 * r + d.0 ≡ (14 + 7 * r) - 1 * (6 - d.0) = omega (arith, d.1) in
      rw (has_and seven row_ends (14 + 7 * r)) (and_make (has seven (14 + 7 * r)) (has row_ends (14 + 7 * r))
      (by_seven.from (14 + 7 * r) (6 - d.0) (omega arith) (omega arith) (omega arith) (T_subst (ap (has y) e) d.2)) (row_end r h))

  abbrev rows : ℕ
  rows = bit_or row (row * 2 ^ 6 % 2 ^ width)

  abbrev half : ℕ
  half = bit_or rows (rows * 2 ^ 12 % 2 ^ width)

  abbrev all : ℕ
  all = bit_or (bit_or half (rows * 2 ^ 24 % 2 ^ width)) (row * 2 ^ 36 % 2 ^ width)

  by_rows : Spread 6 row 7 all
  by_rows =
      let a = unmoved 6 row in
      let b = further 6 row 1 1 1 6 refl (omega arith) (omega arith) a a in
      let c = further 6 row 2 2 2 12 refl (omega arith) (omega arith) b b in
      let d = further 6 row 4 2 4 24 refl (omega arith) (omega arith) c b in
      further 6 row 6 1 6 36 refl (omega arith) (omega arith) d a

  -- the last digits side by side
  aside : (r : ℕ) → r < 7 → T (has all (50 + r)) → T (has row (14 + 7 * r))
  aside r h t =
      let d = by_rows.to (50 + r) t in
      let s = at_end ((50 + r) - 6 * d.0) (in_row ((50 + r) - 6 * d.0) d.3).1 in
      let e : (50 + r) - 6 * d.0 ≡ 14 + 7 * r = omega (arith, d.1, s) in
      T_subst (ap (has row) e) d.3

  asides : (r : ℕ) → r < 7 → T (has row (14 + 7 * r)) → T (has all (50 + r))
  asides r h t =
      let e : 14 + 7 * r ≡ (50 + r) - 6 * (6 - r) = omega arith in
      by_rows.from (50 + r) (6 - r) (omega arith) (omega arith) (omega arith) (T_subst (ap (has row) e) t)

  -- so these and the terminals alone are what strings begin with
  pub firsts_are : Has (bit_and (bit_or (all / 2 ^ 49) y) singles) (λ l. is_single l && begins y (l - 1))
  unfolding begins
  firsts_are l =
      has_and (bit_or (all / 2 ^ 49) y) singles l
      ∙ both (has (bit_or (all / 2 ^ 49) y) l && has singles l) (is_single l && begins y (l - 1)) to from
    where
      to : T (has (bit_or (all / 2 ^ 49) y) l && has singles l) → T (is_single l && begins y (l - 1))
      to t =
          let s = rw (has_singles l) at (and_r (has (bit_or (all / 2 ^ 49) y) l) (has singles l) t) in
          let b = single_in l s in
          let i : suc (l - 1) ≡ l = omega (arith, b.0) in
          let j : 49 + l ≡ 50 + (l - 1) = omega (arith, b.0) in
          and_make (is_single l) (begins y (l - 1)) s (elim (or_cases (has (all / 2 ^ 49) l) (has y l)
          (rw (has_or (all / 2 ^ 49) y l) at (and_l (has (bit_or (all / 2 ^ 49) y) l) (has singles l) t))) [
            | inl u ↦ or_r (has y (suc (l - 1))) _ (filled (l - 1) (omega (arith, b.1, b.0)) (aside (l - 1) (omega (arith, b.1, b.0))
                (T_subst (ap (has all) j) (rw (has_shift all 49 l) at u))))
            | inr u ↦ or_l (has y (suc (l - 1))) _ (rw i u)
          ])

      from : T (is_single l && begins y (l - 1)) → T (has (bit_or (all / 2 ^ 49) y) l && has singles l)
      from t =
          let s = and_l (is_single l) (begins y (l - 1)) t in
          let b = single_in l s in
          let i : suc (l - 1) ≡ l = omega (arith, b.0) in
          let j : 50 + (l - 1) ≡ 49 + l = omega (arith, b.0) in
          and_make (has (bit_or (all / 2 ^ 49) y) l) (has singles l)
          (rw (has_or (all / 2 ^ 49) y l) (elim (or_cases (has y (suc (l - 1))) _ (and_r (is_single l) (begins y (l - 1)) t)) [
            | inl u ↦ or_r (has (all / 2 ^ 49) l) (has y l) (rw i at u)
            | inr u ↦ or_l (has (all / 2 ^ 49) l) (has y l) (rw (has_shift all 49 l) (T_subst (ap (has all) j)
                (asides (l - 1) (omega (arith, b.1, b.0)) (fills (l - 1) (omega (arith, b.1, b.0)) u))))
          ])) (rw (has_singles l) s)
