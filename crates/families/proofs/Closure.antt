-- The closure through all nonterminals is the least family that goes on where it has come to.
use mathlib.Core.Path.{◌≡◌, refl, subst, ◌∙◌}
use mathlib.Core.Bool.{Bool, true, false}
use mathlib.Core.List.{List, map}
use mathlib.Core.Logic.{◌⊎◌, inl, inr}
use Prim.Native.Nat.{ℕ, zero, suc, ◌+◌, ◌<◌}
use native.Mathlib.Numerals.{add-one}
use native.Mathlib.Omega.{arith}
use native.Mathlib.Decide.{ℕ_discrete}
use lib.Dec.{T}
use lib.ListN.{length, get_or, length-map, get_or-map}
use Rattle.base.specs.Choice.{choose}
use Rattle.base.proofs.Booleans.{T_true, or_cases}
use Rattle.lookahead.specs.Elements.{has}
use Rattle.lookahead.specs.inner.Elements.{Subset}
use Rattle.lookahead.specs.inner.Operations.{join}
use Rattle.lookahead.proofs.Operations.{has_empty, has_join}
use Rattle.lookahead.proofs.Order.{join_left, join_right}
use Rattle.families.specs.inner.Least.{SetFamily, at, Under}
use Rattle.families.specs.inner.Reach.{extended, through, closure}

-- what a set that goes on through B has: its own, and what is beyond B, if it has B
module _ (B beyond s : ℕ) where
  extended_own : Subset s (extended B beyond s)
  extended_own C t = go (has s B)
    where
      go : (b : Bool) → T (has (choose b (join s beyond) s) C)
      go true = join_left s beyond C t
      go false = t

  extended_beyond : T (has s B) → Subset beyond (extended B beyond s)
  extended_beyond h C t = rw (T_true (has s B) h) (join_right s beyond C t)

  extended_elim : (C : ℕ) → T (has (extended B beyond s) C) → T (has s C) ⊎ (T (has s B) × T (has beyond C))
  extended_elim C t = go (has s B) refl t
    where
      go : (b : Bool) → has s B ≡ b → T (has (choose b (join s beyond) s) C) → T (has s C) ⊎ (T (has s B) × T (has beyond C))
      go true e t = elim (or_cases (has s C) (has beyond C) (rw (has_join s beyond C) at t)) [
        | inl u ↦ inl u
        | inr u ↦ inr (rw e tt, u)
      ]
      go false e t = inl t

-- behind the array stand empty sets, which go on nowhere
extended_none : (B beyond : ℕ) → extended B beyond 0 ≡ 0
extended_none B beyond = rw (has_empty B)

pub through_at : (B : ℕ) (l : List ℕ) (A : ℕ) → at (through B l) A ≡ extended B (at l B) (at l A)
unfolding through
through_at B l A =
    subst (λ z. get_or (map (extended B (at l B)) l) A z ≡ extended B (at l B) (at l A)) (extended_none B (at l B)) (get_or-map (extended B (at l B)) l A 0)

pub closure_long : (n : ℕ) (l : List ℕ) → length (closure n l) ≡ length l
unfolding closure through
closure_long zero l = refl
closure_long (suc n) l = length-map (closure n l) (extended n (at (closure n l) n)) ∙ closure_long n l

-- through one more
pub closure_next : (n : ℕ) (l₀ : List ℕ) {l l' : List ℕ} → l ≡ closure n l₀ → l' ≡ through n l → l' ≡ closure (n + 1) l₀
unfolding closure
closure_next n l₀ e f = f ∙ rw (e, add-one n) refl

pub closure_has : (n : ℕ) (l : List ℕ) → Under (at l) (at (closure n l))
unfolding closure
closure_has zero l A C t = t
closure_has (suc n) l A C t =
    let m = closure n l in
    rw (through_at n m A) (extended_own n (at m n) (at m A) C (closure_has n l A C t))

-- a family that goes on where it has come to
abbrev pub GoesOn : SetFamily → Type 0
GoesOn R = (A B : ℕ) → T (has (R A) B) → Subset (R B) (R A)

pub closure_least : (n : ℕ) (l : List ℕ) (R : SetFamily) → Under (at l) R → GoesOn R → Under (at (closure n l)) R
unfolding closure
closure_least zero l R u on A C t = u A C t
closure_least (suc n) l R u on A C t =
    let m = closure n l in
    let under : Under (at m) R = closure_least n l R u on in
    elim (extended_elim n (at m n) (at m A) C (rw (through_at n m A) at t)) [
      | inl h ↦ under A C h
      | inr h ↦ on A n (under A n h.0) C (under n C h.1)
    ]

-- it goes on through each of the nonterminals
abbrev pub OnThrough : ℕ → List ℕ → Type 0
OnThrough n l = (A B : ℕ) → B < n → T (has (at l A) B) → Subset (at l B) (at l A)

through_on : (n : ℕ) (l : List ℕ) → OnThrough n l → OnThrough (suc n) (through n l)
through_on n l on A B h t C u =
    rw (through_at n l A) (go (ℕ_discrete B n) (extended_elim n (at l n) (at l A) B (rw (through_at n l A) at t))
    (extended_elim n (at l n) (at l B) C (rw (through_at n l B) at u)))
  where
    -- if A goes on through n, it has what n has
    beyond : T (has (at l A) n) → T (has (at l n) C) → T (has (extended n (at l n) (at l A)) C)
    beyond p q = extended_beyond n (at l n) (at l A) p C q

    go : Dec (B ≡ n) → T (has (at l A) B) ⊎ (T (has (at l A) n) × T (has (at l n) B))
        → T (has (at l B) C) ⊎ (T (has (at l B) n) × T (has (at l n) C)) → T (has (extended n (at l n) (at l A)) C)
    go (yes e) (inl p) (inl q) = beyond (rw e at p) (rw e at q)
    go (yes e) (inl p) (inr q) = beyond (rw e at p) q.1
    go (yes e) (inr p) (inl q) = beyond p.0 (rw e at q)
    go (yes e) (inr p) (inr q) = beyond p.0 q.1
    go (no ne) (inl p) (inl q) = extended_own n (at l n) (at l A) C (on A B (omega (arith, h, ne)) p C q)
    go (no ne) (inl p) (inr q) = beyond (on A B (omega (arith, h, ne)) p n q.0) q.1
    go (no ne) (inr p) (inl q) = beyond p.0 (on n B (omega (arith, h, ne)) p.1 C q)
    go (no ne) (inr p) (inr q) = beyond p.0 q.1

pub closure_on : (n : ℕ) (l : List ℕ) → OnThrough n (closure n l)
unfolding closure
closure_on zero l = λ A B h t. absurd (omega arith)
closure_on (suc n) l = through_on n (closure n l) (closure_on n l)
