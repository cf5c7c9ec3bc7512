-- What is looked at where a terminal alone is followed by an element of a set: the terminal and what a string begins with, or the terminal alone.
use mathlib.Core.Path.{◌≡◌, sym, ap, ◌∙◌}
use mathlib.Core.Bool.{◌&&◌}
use mathlib.Core.Logic.{◌⊎◌, inl, inr}
use Prim.Native.Nat.{ℕ, suc, ◌+◌, ◌-◌, ◌*◌, ◌/◌, ◌%◌, ◌≤◌, ◌<◌}
use native.Mathlib.Decide.{dec_lt}
use native.Mathlib.Omega.{arith}
use lib.Dec.{T, eqb, ltb, eqb→eq, eqb_refl}
use borrow.Author.Tests.{lt-ltb, le-ltb}
use Rattle.base.specs.Quantifiers.{any_below}
use Rattle.base.proofs.Booleans.{both, T_none, and_l, and_r, and_make, or_l, or_r, or_cases}
use Rattle.base.proofs.Quantified.{below_make, below_elim}
use Rattle.lookahead.specs.declared.Lookahead.TheVariants.{Two}
use Rattle.lookahead.specs.inner.Lookaheads.{element_after}
use Rattle.lookahead.specs.Elements.{has}
use Rattle.lookahead.specs.inner.Operations.{Empty, terminal, element_behind, in_concat, concat_numbers, Concatenated}
use Rattle.pair_rows.specs.inner.Rows.{Has, begins}
use Rattle.lookahead.proofs.Elements.{same_elements}
use Rattle.lookahead.proofs.Operations.{has_terminal, has_concat, is_concat}
use Rattle.lookahead.proofs.Pairs.{behind_make, behind_elim}
use Rattle.lookahead.proofs.Strings.{two_single, two_pair, after_nothing}

-- l alone and another terminal, l alone and a pair
after_single : (l b : ℕ) → l < 7 → 0 < b → b < 8 → element_after Two (suc l) b ≡ 8 + 7 * l + (b - 1)
unfolding element_after
after_single l b h p q = rw (two_single (suc l) (omega arith) (omega arith), two_single b p q) (omega arith)

after_pair : (l b : ℕ) → l < 7 → 8 ≤ b → element_after Two (suc l) b ≡ 8 + 7 * l + (b - 8) / 7
unfolding element_after
after_pair l b h p = rw (two_single (suc l) (omega arith) (omega arith), two_pair b p) (omega arith)

-- c is the pair of l and a first token of y, or l before nothing
abbrev pub InRow : ℕ → ℕ → ℕ → Type 0
InRow y l c = ((r : ℕ) × (r < 7) × T (begins y r) × (c ≡ 8 + 7 * l + r)) ⊎ (T (has y 0) × (c ≡ suc l))

module _ (y l c : ℕ) (low : l < 7) where
  pub row_behind : InRow y l c → T (element_behind Two (suc l) y c)
  unfolding begins
  row_behind (inl (r, h, t, e)) = elim (or_cases (has y (suc r)) (any_below 7 (λ q. has y (8 + 7 * r + q))) t) [
    | inl v ↦ behind_make Two (suc l) y c (suc r) (omega arith) v (after_single l (suc r) low (omega arith) (omega arith) ∙ omega (arith, e))
    | inr v ↦
        let q = below_elim 7 (λ q. has y (8 + 7 * r + q)) v in
        behind_make Two (suc l) y c (8 + 7 * r + q.0) (omega (arith, q.1)) q.2
        (after_pair l (8 + 7 * r + q.0) low (omega arith) ∙ omega (arith, e, q.1))
  ]
  row_behind (inr (t, e)) = behind_make Two (suc l) y c 0 (omega arith) t (after_nothing Two (suc l) ∙ sym e)

  pub behind_row : T (element_behind Two (suc l) y c) → InRow y l c
  unfolding begins
  behind_row t = let b = behind_elim Two (suc l) y c t in go b.0 b.1 b.2 b.3 (dec_lt 0 b.0) (dec_lt b.0 8)
    where
      go : (b : ℕ) → b < 57 → T (has y b) → element_after Two (suc l) b ≡ c → Dec (0 < b) → Dec (b < 8) → InRow y l c
      go b h u e (no p) q =
          let z : b ≡ 0 = omega arith in
          inr (rw z at u, sym e ∙ ap (element_after Two (suc l)) z ∙ after_nothing Two (suc l))
      go b h u e (yes p) (yes q) =
          let z : suc (b - 1) ≡ b = omega arith in
          inl (b - 1, omega arith, or_l (has y (suc (b - 1))) _ (rw z u), sym e ∙ after_single l b low p q)
      go b h u e (yes p) (no q) =
          let z : 8 + 7 * ((b - 8) / 7) + (b - 8) % 7 ≡ b = omega arith in
          inl (
            (b - 8) / 7,
            omega arith,
            or_r (has y (suc ((b - 8) / 7))) _
                (below_make 7 (λ q. has y (8 + 7 * ((b - 8) / 7) + q)) ((b - 8) % 7) (omega arith) (rw z u)),
            sym e ∙ after_pair l b low (omega arith),
          )

-- behind the set of one terminal comes what is behind it
pub terminal_behind : (l y : ℕ) {r : ℕ} → l < 7 → Has r (element_behind Two (suc l) y) → Concatenated Two (terminal Two l) y r
unfolding in_concat
terminal_behind l y {r} low h =
    is_concat Two (same_elements r (concat_numbers Two (terminal Two l) y) (λ c. h c ∙ same c ∙ sym (has_concat Two (terminal Two l) y c)))
  where
    same : (c : ℕ) → element_behind Two (suc l) y c ≡ in_concat Two (terminal Two l) y c
    same c = both (element_behind Two (suc l) y c) (in_concat Two (terminal Two l) y c)
        (λ t. below_make 57 (λ a. has (terminal Two l) a && element_behind Two a y c) (suc l) (omega arith)
        (and_make (has (terminal Two l) (suc l)) (element_behind Two (suc l) y c) (rw (has_terminal Two l (suc l), lt-ltb l 7 low) here) t))
        (λ t.
        let a = below_elim 57 (λ a. has (terminal Two l) a && element_behind Two a y c) t in
        let u = rw (has_terminal Two l a.0) at (and_l (has (terminal Two l) a.0) (element_behind Two a.0 y c) a.2) in
        let e : a.0 ≡ suc l = eqb→eq a.0 (1 + l) (and_r (ltb l 7) (eqb a.0 (1 + l)) u) ∙ omega arith in
        rw e at (and_r (has (terminal Two l) a.0) (element_behind Two a.0 y c) a.2))
      where
        here : T (eqb (suc l) (1 + l))
        here = let e : suc l ≡ 1 + l = omega arith in rw e (eqb_refl (1 + l))

-- no terminal, nothing behind it
pub none_behind : (l y : ℕ) {r : ℕ} → 7 ≤ l → Empty r → Concatenated Two (terminal Two l) y r
unfolding in_concat
none_behind l y {r} high e =
    is_concat Two (same_elements r (concat_numbers Two (terminal Two l) y) (λ c. e.member c ∙ sym (has_concat Two (terminal Two l) y c ∙ T_none _ (none c))))
  where
    none : (c : ℕ) → T (in_concat Two (terminal Two l) y c) → ⊥
    none c t =
        let a = below_elim 57 (λ a. has (terminal Two l) a && element_behind Two a y c) t in
        rw (has_terminal Two l a.0, le-ltb l 7 high) at (and_l (has (terminal Two l) a.0) (element_behind Two a.0 y c) a.2)
