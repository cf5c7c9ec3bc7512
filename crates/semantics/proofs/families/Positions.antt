-- Laws of places in a list: the first member that passes a test, and two that pass.
use mathlib.Core.Bool.{Bool, true, false, ◌&&◌}
use mathlib.Core.List.{List, [], ◌∷◌}
use mathlib.Core.Logic.{◌⊎◌, inl, inr}
use mathlib.Core.Option.{Option, none, some, some-ne-none}
use mathlib.Core.Path.{◌≡◌, refl, sym}
use Prim.Native.Nat.{ℕ, zero, suc, ◌<◌}
use native.Mathlib.Omega.{arith}
use lib.Dec.{T}
use lib.ListN.{get_elem?}
use Rattle.base.specs.Quantifiers.{any_of}
use Rattle.semantics.specs.Claims.{several, position}
use Rattle.base.proofs.Booleans.{T_subst, true_T, and_l, and_r, and_make, or_cases, or_l, or_r}

module _ {X : Type 0} (p : X → Bool) where
  -- the member at place q passes
  abbrev pub PassesAt : List X → ℕ → Type 0
  PassesAt l q = (x : X) × (get_elem? l q ≡ some x) × T (p x)

  nowhere : (q : ℕ) → PassesAt [] q → ⊥
  nowhere q h = let z : ◌≡◌ {A = ℕ} 0 1 = cc h.1 in omega arith

  any_at : (l : List X) → T (any_of p l) → (q : ℕ) × PassesAt l q
  unfolding any_of
  any_at [] t = absurd t
  any_at (x ∷ l) t = go (or_cases (p x) (any_of p l) t) (any_at l)
    where
      go : T (p x) ⊎ T (any_of p l) → (T (any_of p l) → (q : ℕ) × PassesAt l q) → (q : ℕ) × PassesAt (x ∷ l) q
      go (inl u) f = (0, (x, refl, u))
      go (inr u) f = let r = f u in (suc r.0, r.1)

  at_any : (l : List X) (q : ℕ) → PassesAt l q → T (any_of p l)
  unfolding any_of
  at_any [] q h = absurd (nowhere q h)
  at_any (x ∷ l) zero h = let e : x ≡ h.0 = cc h.1 in or_l (p x) (any_of p l) (rw e h.2)
  at_any (x ∷ l) (suc q) h = or_r (p x) (any_of p l) (at_any l q h)

  pub several_elim : (l : List X) → T (several p l) → (q : ℕ) × (q' : ℕ) × (q < q') × PassesAt l q × PassesAt l q'
  unfolding several
  several_elim [] t = absurd t
  several_elim (x ∷ l) t = go (or_cases (p x && any_of p l) (several p l) t) (several_elim l)
    where
      go : T (p x && any_of p l) ⊎ T (several p l) → (T (several p l) → (q : ℕ) × (q' : ℕ) × (q < q') × PassesAt l q × PassesAt l q')
          → (q : ℕ) × (q' : ℕ) × (q < q') × PassesAt (x ∷ l) q × PassesAt (x ∷ l) q'
      go (inl u) f = let r = any_at l (and_r (p x) (any_of p l) u) in (0, suc r.0, omega arith, (x, refl, and_l (p x) (any_of p l) u), r.1)
      go (inr u) f = let r = f u in (suc r.0, suc r.1, omega (arith, r.2), r.3, r.4)

  pub several_make : (l : List X) (q q' : ℕ) → q < q' → PassesAt l q → PassesAt l q' → T (several p l)
  unfolding several
  several_make [] q q' h a b = absurd (nowhere q a)
  several_make (x ∷ l) q zero h a b = absurd (omega arith)
  several_make (x ∷ l) zero (suc q') h a b =
      let e : x ≡ a.0 = cc a.1 in
      or_l (p x && any_of p l) (several p l) (and_make (p x) (any_of p l) (rw e a.2) (at_any l q' b))
  several_make (x ∷ l) (suc q) (suc q') h a b = or_r (p x && any_of p l) (several p l) (several_make l q q' (omega arith) a b)

  -- the first member that passes does, and where there is none, none does
  pub position_some : (l : List X) (q : ℕ) → position p l ≡ some q → PassesAt l q
  unfolding position
  position_some [] q e = absurd (some-ne-none q (sym e))
  position_some (x ∷ l) q e = go (p x) refl (position p l) (position_some l) e
    where
      go : (b : Bool) → p x ≡ b → (o : Option ℕ) → ((q : ℕ) → o ≡ some q → PassesAt l q)
          → elim b as (λ _. Option ℕ) [ true ↦ some 0 | false ↦ elim o [ none ↦ none | some q ↦ some (suc q) ] ] ≡ some q → PassesAt (x ∷ l) q
      go true d o f e = let z : 0 ≡ q = cc in rw (← z) (x, refl, true_T (p x) d)
      go false d none f e = absurd (some-ne-none q (sym e))
      go false d (some m) f e = let z : suc m ≡ q = cc in rw (← z) (f m refl)

  pub position_none : (l : List X) → position p l ≡ none → (q : ℕ) → PassesAt l q → ⊥
  unfolding position
  position_none [] e q h = nowhere q h
  position_none (x ∷ l) e q h = go (p x) refl (position p l) (position_none l) e q h
    where
      go : (b : Bool) → p x ≡ b → (o : Option ℕ) → (o ≡ none → (q : ℕ) → PassesAt l q → ⊥)
          → ◌≡◌ {A = Option ℕ} (elim b [ true ↦ some 0 | false ↦ elim o [ none ↦ none | some q ↦ some (suc q) ] ]) none → (q : ℕ) → PassesAt (x ∷ l) q → ⊥
      go true d o f e q h = some-ne-none 0 e
      go false d (some m) f e q h = some-ne-none (suc m) e
      go false d none f e zero h = let z : x ≡ h.0 = cc h.1 in T_subst d (rw z h.2)
      go false d none f e (suc q) h = f refl q h
