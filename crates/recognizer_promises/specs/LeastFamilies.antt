-- The sets and the entries of a grammar are the least ones that its rules ask for (property 2).
use Rattle.std.specs.Prelude.{◌≡◌, Bool, List, ◌∷◌, ◌↔◌, ℕ, T}
use Rattle.std.proofs.Math.Option.{none, some}
use Rattle.std.proofs.Math.ListN.{get_elem?}
use Rattle.word.specs.declared.Symbol.{Symbol}
use Rattle.grammar.specs.Syntax.{Body, Rule, Grammar}
use Rattle.base.specs.Rounds.{NumberSet, ◌⊆ᵇ◌}
use Rattle.lookahead.specs.declared.Lookahead.{Lookahead}
use Rattle.lookahead.specs.Lookaheads.{tokens}
use Rattle.semantics.specs.LeftRecursion.{null_step, nullable}
use Rattle.semantics.specs.Families.{Short, FirstOf, FirstBody, Strung, Meeting, FirstClosed, FollowClosed, FollowStrung, Claims}
use Rattle.semantics.specs.FirstFollow.{First, Follow}
use Rattle.semantics.specs.Claims.{table_of}
use Rattle.table_promises.specs.Conflicts.{ClashAt}

-- no entry is claimed by two rules, and only the end can follow a rule without positives
abbrev pub Clashless : Lookahead → Grammar → Type 0
Clashless k G = (A : ℕ) (x : List ℕ) → ClashAt k G A x → ⊥

-- rule q of A claims the entry of a string
abbrev pub ClaimsAt : Lookahead → Grammar → ℕ → ℕ → List ℕ → Type 0
ClaimsAt k G = Claims G (tokens k) (First G (tokens k)) (Follow G (tokens k))

-- no smaller than the rules ask, and no larger than any family of tests that they close; of all families it is `LeastSets` of
-- semantics/specs/contracts/Theorems.antt, which a promise of code cannot quantify over
-- need not be believed: nullable (nullable_closed, nullable_least); First (first_closed, first_least); Follow (follow_closed, follow_least);
-- table_of (claimed, unclaimed)
pub record LeastFamilies (k : Lookahead) (G : Grammar) : Type 0 where
  pub nullable_closed : null_step G (nullable G) ⊆ᵇ nullable G
  pub nullable_least : (s : NumberSet) → null_step G s ⊆ᵇ s → nullable G ⊆ᵇ s
  pub first_closed : FirstClosed G (tokens k) (First G (tokens k))
  pub first_least : (F : ℕ → List ℕ → Bool) → FirstClosed G (tokens k) (λ A x. T (F A x)) → (A : ℕ) (x : List ℕ) → First G (tokens k) A x → T (F A x)
  pub follow_closed : FollowClosed G (tokens k) (First G (tokens k)) (Follow G (tokens k))
  pub follow_least : (L : ℕ → List ℕ → Bool) → FollowClosed G (tokens k) (First G (tokens k)) (λ A x. T (L A x))
      → (A : ℕ) (x : List ℕ) → Follow G (tokens k) A x → T (L A x)
  pub claimed : Clashless k G → (A : ℕ) (x : List ℕ) (q : ℕ) → (table_of G (tokens k) A x ≡ some q) ↔ ClaimsAt k G q A x
  pub unclaimed : (A : ℕ) (x : List ℕ) → (table_of G (tokens k) A x ≡ none) ↔ ((q : ℕ) → ClaimsAt k G q A x → ⊥)

-- with one token of lookahead the same by document 01's own stringing
pub record StrungFamilies (G : Grammar) : Type 0 where
  pub first : (X : Symbol) (b : Body) (x : List ℕ)
      → FirstBody 1 (First G 1) (X ∷ b) x ↔ Strung (FirstOf 1 (First G 1) X) (FirstBody 1 (First G 1) b) x
  pub follow_closed : FollowStrung G (First G 1) (Follow G 1)
  pub follow_least : (L : ℕ → List ℕ → Bool) → Short 1 (λ A x. T (L A x)) → FollowStrung G (First G 1) (λ A x. T (L A x))
      → (A : ℕ) (x : List ℕ) → Follow G 1 A x → T (L A x)
  pub claims : (q A : ℕ) (x : List ℕ) → Claims G 1 (First G 1) (Follow G 1) q A x
      ↔ ((r : Rule) × (get_elem? G.rules q ≡ some r) × (r.head ≡ A) × Strung (Meeting G 1 (First G 1) r) (Follow G 1 A) x)
