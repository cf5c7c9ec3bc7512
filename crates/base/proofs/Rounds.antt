-- What an operator builds in rounds within a finite universe is closed under it there, and is the least such set.
use mathlib.Core.Bool.{Bool, true, false}
use mathlib.Core.List.{List, [], Memᴰ}
use mathlib.Core.Path.{◌≡◌, refl, sym, ap}
use Prim.Native.Nat.{ℕ, zero, suc, ◌+◌, ◌≤◌, ◌<◌}
use native.Mathlib.Decide.{ℕ_discrete}
use native.Mathlib.Omega.{arith}
use lib.Dec.{T, eqb, eqb→eq, eqb_refl}
use lib.ListN.{length}
use Rattle.base.specs.Quantifiers.{any_of}
use Rattle.base.specs.FiniteSets.{member, keep}
use Rattle.base.specs.Rounds.{◌⊆ᵇ◌, round, settle, members, least}
use Rattle.base.proofs.Booleans.{T_subst, true_T}
use Rattle.base.proofs.FiniteSets.{Equality, member_mem, mem_member, keep_make, keep_elim, keep_grows, keep_same, keep_all, keep_none}

unequal : (m n : ℕ) → eqb m n ≡ false → n ≤ m → n < m
unequal m n e h = go (ℕ_discrete m n)
  where
    go : Dec (m ≡ n) → n < m
    go (yes d) = absurd (T_subst e (rw d (eqb_refl n)))
    go (no d) = omega arith

module _ {X : Type 0} (same : X → X → Bool) (eq : Equality same) (U : List X) (Φ : (X → Bool) → X → Bool) where
  round_make : (s : List X) (x : X) → Memᴰ x U → T (Φ (member same s) x) → T (member same (round same U Φ s) x)
  unfolding round
  round_make s x m t = mem_member same eq _ x (keep_make (Φ (member same s)) U x m t)

  round_elim : (s : List X) (x : X) → T (member same (round same U Φ s) x) → Memᴰ x U × T (Φ (member same s) x)
  unfolding round
  round_elim s x t = keep_elim (Φ (member same s)) U x (member_mem same eq _ x t)

  -- what holds of all that the operator gives from sets of which it holds
  abbrev pub Kept : (X → Type 0) → Type 0
  Kept P = (s : X → Bool) → ((x : X) → T (s x) → P x) → (x : X) → Memᴰ x U → T (Φ s x) → P x

  settle_kept : (P : X → Type 0) → Kept P → (n : ℕ) (s : List X) → ((x : X) → T (member same s x) → P x)
      → (x : X) → T (member same (settle same U Φ n s) x) → P x
  unfolding settle
  settle_kept P h zero s k = k
  settle_kept P h (suc n) s k =
      let next : (x : X) → T (member same (round same U Φ s) x) → P x = λ x t. let r = round_elim s x t in h (member same s) k x r.0 r.1 in
      go (eqb (length (round same U Φ s)) (length s)) (settle_kept P h n (round same U Φ s) next)
    where
      go : (b : Bool) → ((x : X) → T (member same (settle same U Φ n (round same U Φ s)) x) → P x)
          → (x : X) → T (member same (elim b [ true ↦ s | false ↦ settle same U Φ n (round same U Φ s) ]) x) → P x
      go true f = k
      go false f = f

  -- induction on the rounds
  pub least_kept : (P : X → Type 0) → Kept P → (x : X) → T (least same U Φ x) → P x
  unfolding least members member any_of
  least_kept P h = settle_kept P h _ [] (λ x t. absurd t)

  module _ (mono : (s s' : X → Bool) → s ⊆ᵇ s' → Φ s ⊆ᵇ Φ s') where
    -- contained in every set that is closed under the operator
    pub least_least : (s : X → Bool) → Φ s ⊆ᵇ s → least same U Φ ⊆ᵇ s
    least_least s h = least_kept (λ x. T (s x)) (λ p k x m t. h x (mono p s k x t))

    -- a set that a round does not shrink, written out from the universe
    record Growing (s : List X) : Type 0 where
      pub passes : X → Bool
      pub written : s ≡ keep passes U
      pub grows : (x : X) → Memᴰ x U → T (passes x) → T (Φ (member same s) x)

    growing_none : Growing []
    growing_none = record { passes = λ _. false; written = sym (keep_none U); grows = λ x m t. absurd t }

    growing_in : (s : List X) → Growing s → (x : X) → T (member same s x) → Memᴰ x U × T (Φ (member same s) x)
    growing_in s g x t =
        let r = keep_elim g.passes U x (rw g.written at (member_mem same eq s x t)) in
        (r.0, g.grows x r.0 r.1)

    growing_next : (s : List X) → Growing s → Growing (round same U Φ s)
    unfolding round
    growing_next s g = record {
      passes = Φ (member same s);
      written = refl;
      grows = λ x m t. mono (member same s) (member same (round same U Φ s)) (λ y u. let r = growing_in s g y u in round_make s y r.0 r.1) x t;
    }

    round_longer : (s : List X) → Growing s → length s ≤ length (round same U Φ s)
    unfolding round
    round_longer s g = rw (ap length g.written) (keep_grows g.passes (Φ (member same s)) U g.grows)

    -- a round that adds nothing leaves a closed set
    abbrev Closed : List X → Type 0
    Closed s = (x : X) → Memᴰ x U → T (Φ (member same s) x) → T (member same s x)

    stops : (s : List X) → Growing s → length (round same U Φ s) ≡ length s → Closed s
    unfolding round
    stops s g e x m t =
        let h : length (keep (Φ (member same s)) U) ≤ length (keep g.passes U) = omega (arith, e, ap length g.written) in
        let u = keep_same g.passes (Φ (member same s)) U g.grows h x m t in
        mem_member same eq s x (rw g.written (keep_make g.passes U x m u))

    full : (s : List X) → Growing s → length U ≤ length s → Closed s
    full s g h x m t =
        let k : length (keep (λ _. true) U) ≤ length (keep g.passes U) = omega (arith, ap length (keep_all U), ap length g.written) in
        let u = keep_same g.passes (λ _. true) U (λ _ _ _. tt) k x m tt in
        mem_member same eq s x (rw g.written (keep_make g.passes U x m u))

    settle_closed : (n : ℕ) (s : List X) → Growing s → length U ≤ length s + n → Closed (settle same U Φ n s)
    unfolding settle
    settle_closed zero s g h = full s g (omega arith)
    settle_closed (suc n) s g h = go (eqb (length (round same U Φ s)) (length s)) refl (settle_closed n (round same U Φ s) (growing_next s g))
      where
        go : (b : Bool) → eqb (length (round same U Φ s)) (length s) ≡ b
            → (length U ≤ length (round same U Φ s) + n → Closed (settle same U Φ n (round same U Φ s)))
            → Closed (elim b [ true ↦ s | false ↦ settle same U Φ n (round same U Φ s) ])
        go true e f = stops s g (eqb→eq _ _ (true_T _ e))
        go false e f = f (omega (arith, unequal (length (round same U Φ s)) (length s) e (round_longer s g)))

    -- whatever of the universe the operator gives from the set is in it
    pub least_closed : (x : X) → Memᴰ x U → T (Φ (least same U Φ) x) → T (least same U Φ x)
    unfolding least members
    least_closed = settle_closed (length U) [] growing_none (omega arith)
