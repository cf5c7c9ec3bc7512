-- Which nonterminals are unproductive is decided: the test holds just where the FIRST set is empty, and the lowest is found.
use mathlib.Core.Bool.{Bool, not}
use mathlib.Core.List.{List}
use mathlib.Core.Logic.{◌↔◌, ◌⊎◌, inl, inr}
use mathlib.Core.Option.{none, some}
use mathlib.Core.Path.{◌≡◌}
use Prim.Native.Nat.{ℕ, ◌<◌}
use lib.Dec.{T, T_not, not_T}
use Rattle.grammar.specs.Syntax.{Grammar}
use Rattle.base.specs.Quantifiers.{any_of}
use Rattle.base.proofs.Booleans.{test}
use Rattle.base.proofs.Quantified.{any_elim, any_make}
use Rattle.base.specs.Strings.{strings}
use Rattle.semantics.specs.FirstFollow.{first, First}
use Rattle.semantics.specs.Productive.{Unproductive, unproductive, lowest_unproductive}
use Rattle.base.proofs.Lowest.{lowest_decided, none_decided}
use Rattle.base.proofs.LookaheadStrings.{strings_make}
use Rattle.semantics.proofs.families.First.{first_lookahead}

module _ (G : Grammar) (k : ℕ) where
  -- some string is in A's set
  abbrev begun : ℕ → Bool
  begun A = any_of (λ x. first G k (A, x)) (strings k G.terminals)

  -- a string of the set is among those that are tried
  begun_make : (A : ℕ) (x : List ℕ) → First G k A x → T (begun A)
  begun_make A x t = any_make (λ y. first G k (A, y)) (strings k G.terminals) x (strings_make k G.terminals x (first_lookahead G k A x t).1) t

  begun_elim : (A : ℕ) → T (begun A) → (x : List ℕ) × First G k A x
  begun_elim A t = let e = any_elim (λ y. first G k (A, y)) (strings k G.terminals) t in (e.0, e.2)

  pub unproductive_iff : (A : ℕ) → T (unproductive G k A) ↔ Unproductive G k A
  unfolding unproductive
  unproductive_iff A = (λ t x f. T_not (begun A) t (begun_make A x f), λ h. not_T (begun A) (λ t. let e = begun_elim A t in h e.0 e.1))

  -- the lowest, and that there is none
  pub lowest_unproductive_lem : (A : ℕ)
      → (lowest_unproductive G k ≡ some A) ↔ ((A < G.nonterminals) × Unproductive G k A × ((B : ℕ) → B < A → Unproductive G k B → ⊥))
  unfolding lowest_unproductive
  lowest_unproductive_lem = lowest_decided G.nonterminals (unproductive G k) (Unproductive G k) unproductive_iff

  pub all_productive : (lowest_unproductive G k ≡ none) ↔ ((A : ℕ) → A < G.nonterminals → (x : List ℕ) × First G k A x)
  unfolding lowest_unproductive
  all_productive =
      let l = none_decided G.nonterminals (unproductive G k) (Unproductive G k) unproductive_iff in
      (λ e A a. witness A (test (begun A)) (l.0 e A a), λ h. l.1 (λ A a u. let w = h A a in u w.0 w.1))
    where
      witness : (A : ℕ) → T (begun A) ⊎ T (not (begun A)) → (Unproductive G k A → ⊥) → (x : List ℕ) × First G k A x
      witness A (inl t) n = begun_elim A t
      witness A (inr u) n = absurd (n (λ x f. T_not (begun A) u (begun_make A x f)))
