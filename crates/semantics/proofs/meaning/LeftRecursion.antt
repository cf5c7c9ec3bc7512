-- Left recursion is decided: the tests hold just where the relations do, and the lowest left-recursive nonterminal is found.
use mathlib.Core.Bool.{◌&&◌}
use mathlib.Core.List.{[], ◌∷◌}
use mathlib.Core.Logic.{◌↔◌, ◌⊎◌, inl, inr}
use mathlib.Core.Option.{none, some}
use mathlib.Core.Path.{◌≡◌}
use Prim.Native.Nat.{ℕ, ◌<◌}
use lib.Dec.{T, eqb, eqb→eq, eqb_refl}
use Rattle.word.specs.declared.Symbol.TheVariants.{Terminal, Nonterminal}
use Rattle.grammar.specs.Syntax.{Body, Grammar, bodies, NonterminalsBelow, WellScoped}
use Rattle.base.specs.Quantifiers.{any_of}
use Rattle.base.specs.FiniteSets.{numbers_below}
use Rattle.base.specs.Rounds.{NumberSet, ◌⊆ᵇ◌}
use Rattle.semantics.specs.LeftRecursion.{nullable, LeftIn, here, there, LeftDepends, LeftReaches, once, more, NoLeftRecursion}
use Rattle.semantics.specs.LeftRecursion.{left_in, left_depends, reach_step, left_reaches, left_recursive, lowest_left_recursive}
use Rattle.base.proofs.Booleans.{and_l, and_r, and_make, or_cases, or_map, or_l, or_r}
use Rattle.base.proofs.Quantified.{any_elim, any_make, below_elim, below_make}
use Rattle.base.proofs.FiniteSets.{numbers_equality, numbers_make}
use Rattle.base.proofs.Lowest.{lowest_decided, none_decided}
use Rattle.base.proofs.Rounds.{least_kept, least_closed}

left_in_sound : (s : NumberSet) (B : ℕ) (b : Body) → T (left_in s B b) → LeftIn s B b
unfolding left_in
left_in_sound s B [] t = absurd t
left_in_sound s B (Terminal a ∷ b) t = absurd t
left_in_sound s B (Nonterminal C ∷ b) t = go (or_cases (eqb C B) (s C && left_in s B b) t) (left_in_sound s B b)
  where
    go : T (eqb C B) ⊎ T (s C && left_in s B b) → (T (left_in s B b) → LeftIn s B b) → LeftIn s B (Nonterminal C ∷ b)
    go (inl e) f = rw (eqb→eq C B e) here
    go (inr u) f = there (and_l (s C) (left_in s B b) u) (f (and_r (s C) (left_in s B b) u))

left_in_complete : (s : NumberSet) (B : ℕ) (b : Body) → LeftIn s B b → T (left_in s B b)
unfolding left_in
left_in_complete s B [] x' = elim x' [ ]
left_in_complete s B (Terminal _ ∷ b) x5 = elim x5 [ ]
left_in_complete s B (Nonterminal C ∷ b) here = or_l (eqb C C) (s C && left_in s C b) (eqb_refl C)
left_in_complete s B (Nonterminal C ∷ b) (there u l) =
    or_r (eqb C B) (s C && left_in s B b) (and_make (s C) (left_in s B b) u (left_in_complete s B b l))

left_below : (n : ℕ) (s : NumberSet) (B : ℕ) (b : Body) → NonterminalsBelow n b → LeftIn s B b → B < n
left_below n s B [] k x'' = elim x'' [ ]
left_below n s B (Terminal _ ∷ b) k x7 = elim x7 [ ]
left_below n s B (Nonterminal C ∷ b) k here = k.0
left_below n s B (Nonterminal C ∷ b) k (there u l) = left_below n s B b k.1 l

module _ (G : Grammar) where
  left_depends_sound : (A B : ℕ) → T (left_depends G A B) → LeftDepends G A B
  unfolding left_depends
  left_depends_sound A B t =
      let r = any_elim _ G.rules t in
      let b = any_elim (left_in (nullable G) B) (bodies r.0) (and_r (eqb r.0.head A) _ r.2) in
      record {
        rule = r.0;
        body = b.0;
        listed = r.1;
        heads = eqb→eq r.0.head A (and_l (eqb r.0.head A) _ r.2);
        held = b.1;
        left = left_in_sound (nullable G) B b.0 b.2;
      }

  left_depends_complete : (A B : ℕ) → LeftDepends G A B → T (left_depends G A B)
  unfolding left_depends
  left_depends_complete A B d =
      let named : T (eqb d.rule.head A) = rw d.heads (eqb_refl A) in
      let at : T (any_of (left_in (nullable G) B) (bodies d.rule)) =
      any_make (left_in (nullable G) B) (bodies d.rule) d.body d.held (left_in_complete (nullable G) B d.body d.left) in
      any_make _ G.rules d.rule d.listed (and_make (eqb d.rule.head A) _ named at)

  -- all that is reached before A left-reaches what A left-reaches
  pub reaches_then : (A B C : ℕ) → LeftDepends G A B → LeftReaches G B C → LeftReaches G A C
  reaches_then A B C d (once e) = more (once d) e
  reaches_then A B C d (more {B = D} p e) = more (reaches_then A B D d p) e

  reach_step_mono : (A : ℕ) (s s' : NumberSet) → s ⊆ᵇ s' → reach_step G A s ⊆ᵇ reach_step G A s'
  unfolding reach_step
  reach_step_mono A s s' h B t = or_map (left_depends G A B) _ _ (λ u.
      let r = below_elim G.nonterminals _ u in
      below_make G.nonterminals _ r.0 r.1
      (and_make (s' r.0) (left_depends G r.0 B) (h r.0 (and_l (s r.0) _ r.2)) (and_r (s r.0) _ r.2))) t

  left_reaches_sound : (A B : ℕ) → T (left_reaches G A B) → LeftReaches G A B
  unfolding left_reaches reach_step
  left_reaches_sound A = least_kept eqb numbers_equality (numbers_below G.nonterminals) (reach_step G A) (LeftReaches G A) (λ s h B _ t.
      elim (or_cases (left_depends G A B) _ t) [
        | inl u ↦ once (left_depends_sound A B u)
        | inr u ↦
            let r = below_elim G.nonterminals _ u in
            more (h r.0 (and_l (s r.0) _ r.2)) (left_depends_sound r.0 B (and_r (s r.0) (left_depends G r.0 B) r.2))
      ])

  module _ (c : WellScoped G) where
    source_below : (A B : ℕ) → LeftDepends G A B → A < G.nonterminals
    source_below A B d = rw d.heads at (c.heads d.rule d.listed)

    pub target_below : (A B : ℕ) → LeftDepends G A B → B < G.nonterminals
    target_below A B d = left_below G.nonterminals (nullable G) B d.body (c.nonterminals d.rule d.listed d.body d.held) d.left

    reacher_below : (A B : ℕ) → LeftReaches G A B → A < G.nonterminals
    reacher_below A B (once d) = source_below A B d
    reacher_below A B (more {B = C} p d) = reacher_below A C p

    reach_step_below : (A : ℕ) (s : NumberSet) (B : ℕ) → T (reach_step G A s B) → B < G.nonterminals
    unfolding reach_step
    reach_step_below A s B t = elim (or_cases (left_depends G A B) _ t) [
      | inl u ↦ target_below A B (left_depends_sound A B u)
      | inr u ↦
          let r = below_elim G.nonterminals _ u in
          target_below r.0 B (left_depends_sound r.0 B (and_r (s r.0) (left_depends G r.0 B) r.2))
    ]

    left_reaches_closed : (A : ℕ) → reach_step G A (left_reaches G A) ⊆ᵇ left_reaches G A
    unfolding left_reaches
    left_reaches_closed A B t =
        least_closed eqb numbers_equality (numbers_below G.nonterminals) (reach_step G A) (reach_step_mono A) B
        (numbers_make G.nonterminals B (reach_step_below A (left_reaches G A) B t)) t

    left_reaches_complete : (A B : ℕ) → LeftReaches G A B → T (left_reaches G A B)
    unfolding reach_step
    left_reaches_complete A B (once d) = left_reaches_closed A B (or_l (left_depends G A B) _ (left_depends_complete A B d))
    left_reaches_complete A C (more {B = B} p d) =
        left_reaches_closed A C (or_r (left_depends G A C) _ (below_make G.nonterminals _ B (source_below B C d)
        (and_make (left_reaches G A B) (left_depends G B C) (left_reaches_complete A B p) (left_depends_complete B C d))))

    -- the computed set of what A left-reaches holds just that
    pub left_reaches_iff : (A B : ℕ) → T (left_reaches G A B) ↔ LeftReaches G A B
    left_reaches_iff A B = (left_reaches_sound A B, left_reaches_complete A B)

    -- the test for left recursion of a nonterminal passes just where it left-reaches itself
    pub left_recursive_iff : (A : ℕ) → T (left_recursive G A) ↔ LeftReaches G A A
    unfolding left_recursive
    left_recursive_iff A = left_reaches_iff A A

    -- the lowest that is found left-reaches itself, and none below it does
    pub lowest_left_recursive_some : (A : ℕ) → (lowest_left_recursive G ≡ some A) ↔ (LeftReaches G A A × ((B : ℕ) → B < A → LeftReaches G B B → ⊥))
    unfolding lowest_left_recursive
    lowest_left_recursive_some A =
        let l = lowest_decided G.nonterminals (left_recursive G) (λ B. LeftReaches G B B) left_recursive_iff A in
        (λ e. let h = l.0 e in (h.1, h.2), λ h. l.1 (reacher_below A A h.0, h.0, h.1))

    -- none is found just where there is no left recursion
    pub lowest_left_recursive_none : (lowest_left_recursive G ≡ none) ↔ NoLeftRecursion G
    unfolding lowest_left_recursive
    lowest_left_recursive_none =
        let l = none_decided G.nonterminals (left_recursive G) (λ A. LeftReaches G A A) left_recursive_iff in
        (λ e A q. l.0 e A (reacher_below A A q) q, λ free. l.1 (λ A a. free A))
