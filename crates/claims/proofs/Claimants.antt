-- The rules that claim an entry, by heads and claims as by the grammar: some, several, and the first of them.
use mathlib.Core.Path.{◌≡◌, refl, sym, ap, ap₂, ◌∙◌}
use mathlib.Core.Bool.{Bool, true, false, ◌&&◌, ◌||◌}
use mathlib.Core.List.{List, [], ◌∷◌}
use mathlib.Core.Option.{Option, none, some}
use Prim.Native.Nat.{ℕ, suc, ◌+◌, ◌-◌, ◌≤◌, ◌<◌}
use native.Mathlib.Omega.{arith}
use borrow.Author.Tests.{eq-eqb, ne_eqb}
use lib.Dec.{eqb}
use lib.ListN.{length, get_or, get_elem?}
use Rattle.grammar.specs.Syntax.{Rule, Grammar}
use Rattle.lookahead.specs.declared.Lookahead.{Lookahead}
use Rattle.lookahead.specs.Lookaheads.{tokens, elements, string_of}
use Rattle.lookahead.specs.Elements.{has}
use Rattle.base.specs.Quantifiers.{any_of}
use Rattle.base.specs.FiniteSets.{member, numbers_from, numbers_below}
use Rattle.base.specs.Strings.{same_string}
use Rattle.semantics.specs.Claims.{several, position, claimed, claims, table_of}
use Rattle.families.specs.inner.RuleLists.{by_rule}
use Rattle.families.proofs.ByRules.{by_rule_at}
use Rattle.claims.specs.inner.Claims.{claim_number, heads_of, claim_numbers, claimant}
use Rattle.claims.proofs.RuleClaims.{claim_has}

-- a rule claims what its claim has, for its head alone
module _ (heads sets : List ℕ) where
  pub claimant_own : (l q : ℕ) → claimant heads sets (get_or heads q 0) l q ≡ has (get_or sets q 0) l
  unfolding claimant
  claimant_own l q = rw (eq-eqb (get_or heads q 0) (get_or heads q 0) refl)

  pub claimant_other : (A l q : ℕ) → (A ≡ get_or heads q 0 → ⊥) → claimant heads sets A l q ≡ false
  unfolding claimant
  claimant_other A l q ne = rw (ne_eqb (get_or heads q 0) A (λ e. ne (sym e)))

-- the numbers from one on, with the one before them
pub numbers_before : (q n : ℕ) → 0 < q → q ≤ n → numbers_from (q - 1) (n - (q - 1)) ≡ (q - 1) ∷ numbers_from q (n - q)
unfolding numbers_from
numbers_before q n h k =
    let a : n - (q - 1) ≡ suc (n - q) = omega arith in
    let b : suc (q - 1) ≡ q = omega arith in
    rw (a, b)

-- a list's members pass one test as their numbers, counted from a on, pass another
module _ {X : Type 0} (p : ℕ → Bool) (f : X → Bool) where
  abbrev pub Alike : ℕ → List X → Type 0
  Alike a l = (q : ℕ) (x : X) → get_elem? l q ≡ some x → p (a + q) ≡ f x

  alike_here : (a : ℕ) (x : X) (l : List X) → Alike a (x ∷ l) → p a ≡ f x
  alike_here a x l h = let e : a + 0 ≡ a = omega arith in rw e at (h 0 x refl)

  alike_later : (a : ℕ) (x : X) (l : List X) → Alike a (x ∷ l) → Alike (suc a) l
  alike_later a x l h q y e = let n : a + suc q ≡ suc a + q = omega arith in rw n at (h (suc q) y e)

  any_alike : (a : ℕ) (l : List X) → Alike a l → any_of p (numbers_from a (length l)) ≡ any_of f l
  unfolding any_of numbers_from
  any_alike a [] h = refl
  any_alike a (x ∷ l) h = ap₂ ◌||◌ (alike_here a x l h) (any_alike (suc a) l (alike_later a x l h))

  several_alike : (a : ℕ) (l : List X) → Alike a l → several p (numbers_from a (length l)) ≡ several f l
  unfolding several numbers_from
  several_alike a [] h = refl
  several_alike a (x ∷ l) h =
      let later = alike_later a x l h in
      ap₂ ◌||◌ (ap₂ ◌&&◌ (alike_here a x l h) (any_alike (suc a) l later)) (several_alike (suc a) l later)

  position_alike : (a : ℕ) (l : List X) → Alike a l → position p (numbers_from a (length l)) ≡ position f l
  unfolding position numbers_from
  position_alike a [] h = refl
  position_alike a (x ∷ l) h = rw (alike_here a x l h) (go (f x) (position_alike (suc a) l (alike_later a x l h)))
    where
      go : (b : Bool) → position p (numbers_from (suc a) (length l)) ≡ position f l
          → ◌≡◌ {A = Option ℕ} (elim b [ true ↦ some 0 | false ↦ elim (position p (numbers_from (suc a) (length l))) [ none ↦ none | some n ↦ some (suc n) ] ])
          (elim b [ true ↦ some 0 | false ↦ elim (position f l) [ none ↦ none | some n ↦ some (suc n) ] ])
      go true e = refl
      go false e = ap (λ (o : Option ℕ). elim o as (λ _. Option ℕ) [ none ↦ none | some n ↦ some (suc n) ]) e

-- the heads are those of the rules, and the claims have an element just where the rules claim its string
pub record Told (G : Grammar) (k : ℕ) (heads sets : List ℕ) (l : ℕ) (x : List ℕ) : Type 0 where
  pub own : (q : ℕ) (r : Rule) → get_elem? G.rules q ≡ some r → get_or heads q 0 ≡ r.head
  pub claims : (q : ℕ) (r : Rule) → get_elem? G.rules q ≡ some r → has (get_or sets q 0) l ≡ member same_string (claimed G k r) x

module _ {G : Grammar} {k : ℕ} {heads sets : List ℕ} {l : ℕ} {x : List ℕ} (t : Told G k heads sets l x) (A : ℕ) where
  pub claims_alike : Alike (claimant heads sets A l) (claims G k (A, x)) 0 G.rules
  unfolding claimant claims
  claims_alike q r e =
      let n : 0 + q ≡ q = omega arith in
      rw n (ap₂ ◌&&◌ (ap (λ B. eqb B A) (t.own q r e)) (t.claims q r e))

  pub several_claims : several (claimant heads sets A l) (numbers_below (length G.rules)) ≡ several (claims G k (A, x)) G.rules
  unfolding numbers_below
  several_claims = several_alike (claimant heads sets A l) (claims G k (A, x)) 0 G.rules claims_alike

  pub first_claim : position (claimant heads sets A l) (numbers_below (length G.rules)) ≡ table_of G k A x
  unfolding numbers_below table_of
  first_claim = position_alike (claimant heads sets A l) (claims G k (A, x)) 0 G.rules claims_alike

-- with the heads and the claims of a grammar's rules
module _ (k : Lookahead) (G : Grammar) {heads sets : List ℕ} (h : heads ≡ by_rule (heads_of G)) (s : sets ≡ by_rule (claim_numbers k G)) where
  pub heads_own : (q : ℕ) (r : Rule) → get_elem? G.rules q ≡ some r → get_or heads q 0 ≡ r.head
  heads_own q r e = rw h (by_rule_at (λ r. r.head) G.rules q r e)

  module _ (l : ℕ) (small : l < elements k) where
    sets_have : (q : ℕ) (r : Rule) → get_elem? G.rules q ≡ some r → has (get_or sets q 0) l ≡ member same_string (claimed G (tokens k) r) (string_of k l)
    sets_have q r e =
        let n : get_or sets q 0 ≡ claim_number k G r = rw s (by_rule_at (claim_number k G) G.rules q r e) in
        ap (λ x. has x l) n ∙ claim_has k G r l small

    pub told : Told G (tokens k) heads sets l (string_of k l)
    told = record { own = heads_own; claims = sets_have }
