-- `nullable`, computed in at most as many rounds as there are nonterminals, is closed under the rules, and is the least such set.
use mathlib.Core.List.{[], ◌∷◌}
use mathlib.Core.Path.{◌≡◌}
use Prim.Native.Nat.{ℕ, ◌<◌}
use lib.Dec.{T, eqb, eqb→eq}
use Rattle.word.specs.declared.Symbol.TheVariants.{Terminal, Nonterminal}
use Rattle.grammar.specs.Syntax.{Body, Grammar, WellScoped}
use Rattle.base.specs.FiniteSets.{numbers_below}
use Rattle.base.specs.Rounds.{NumberSet, ◌⊆ᵇ◌}
use Rattle.semantics.specs.LeftRecursion.{all_nullable, null_step, nullable}
use Rattle.base.proofs.Booleans.{and_l, and_r, and_make}
use Rattle.base.proofs.Quantified.{all_map, any_map, any_elim}
use Rattle.base.proofs.FiniteSets.{numbers_equality, numbers_make}
use Rattle.base.proofs.Rounds.{least_least, least_closed}

all_nullable_mono : (s s' : NumberSet) → s ⊆ᵇ s' → (b : Body) → T (all_nullable s b) → T (all_nullable s' b)
unfolding all_nullable
all_nullable_mono s s' h [] t = tt
all_nullable_mono s s' h (Terminal a ∷ b) t = t
all_nullable_mono s s' h (Nonterminal A ∷ b) t =
    and_make (s' A) (all_nullable s' b) (h A (and_l (s A) (all_nullable s b) t)) (all_nullable_mono s s' h b (and_r (s A) (all_nullable s b) t))

module _ (G : Grammar) where
  null_step_mono : (s s' : NumberSet) → s ⊆ᵇ s' → null_step G s ⊆ᵇ null_step G s'
  unfolding null_step
  null_step_mono s s' h A t = any_map _ _ G.rules (λ r m u.
      and_make (eqb r.head A) _ (and_l (eqb r.head A) _ u)
      (all_map (all_nullable s) (all_nullable s') _ (λ b _. all_nullable_mono s s' h b) (and_r (eqb r.head A) _ u))) t

  -- the least set: any set that is closed holds it
  pub nullable_least : (s : NumberSet) → null_step G s ⊆ᵇ s → nullable G ⊆ᵇ s
  unfolding nullable
  nullable_least = least_least eqb numbers_equality (numbers_below G.nonterminals) (null_step G) null_step_mono

  module _ (c : WellScoped G) where
    head_below : (s : NumberSet) (A : ℕ) → T (null_step G s A) → A < G.nonterminals
    unfolding null_step
    head_below s A t =
        let r = any_elim _ G.rules t in
        let e : r.0.head ≡ A = eqb→eq r.0.head A (and_l (eqb r.0.head A) _ r.2) in
        rw e at (c.heads r.0 r.1)

    -- whatever the rules make nullable is in the set
    pub nullable_closed : null_step G (nullable G) ⊆ᵇ nullable G
    unfolding nullable
    nullable_closed A t =
        let m = numbers_make G.nonterminals A (head_below (nullable G) A t) in
        least_closed eqb numbers_equality (numbers_below G.nonterminals) (null_step G) null_step_mono A m t
