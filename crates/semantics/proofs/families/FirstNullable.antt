-- With a token of lookahead, FIRST_k has the empty string just where a nonterminal is nullable.
use mathlib.Core.List.{[], ◌∷◌, Memᴰ}
use mathlib.Core.Logic.{◌↔◌}
use mathlib.Core.Path.{◌≡◌, refl, sym, ap, ◌∙◌}
use Prim.Native.Nat.{ℕ, ◌<◌}
use native.Mathlib.Omega.{arith}
use lib.Dec.{T, eqb, eqb→eq, eqb_refl}
use lib.ListN.{length}
use lib.Seq.{take-nil}
use Rattle.word.specs.declared.Symbol.TheVariants.{Terminal, Nonterminal}
use Rattle.grammar.specs.Syntax.{Body, Grammar, WellScoped}
use Rattle.base.specs.Quantifiers.{all_of}
use Rattle.base.specs.Rounds.{NumberSet}
use Rattle.semantics.specs.LeftRecursion.{all_nullable, null_step, nullable}
use Rattle.semantics.specs.Families.{Family, FirstBody}
use Rattle.semantics.specs.FirstFollow.{sets_of, first_step, first, First}
use Rattle.base.proofs.Booleans.{and_l, and_r, and_make}
use Rattle.base.proofs.Quantified.{any_elim, any_make, all_elim, all_make}
use Rattle.base.proofs.LookaheadStrings.{cut_none}
use Rattle.semantics.proofs.meaning.Nullable.{nullable_least, nullable_closed}
use Rattle.semantics.proofs.families.LookaheadSets.{entry_kept}
use Rattle.semantics.proofs.families.First.{In, first_step_elim, first_closed}

-- a body whose set has the empty string consists of nonterminals whose sets have it, and back
body_none : (k : ℕ) (F : Family) (s : NumberSet) → 0 < k → ((A : ℕ) → F A [] → T (s A)) → (b : Body) → FirstBody k F b [] → T (all_nullable s b)
unfolding all_nullable
body_none k F s h n [] f = tt
body_none k F s h n (Terminal a ∷ b) f =
    let e = cut_none k f.0 f.1 h (sym f.4) in
    let d = cut_none k (a ∷ []) [] h (sym f.2 ∙ e.0) in
    absurd (omega (arith, ap length d.0))
body_none k F s h n (Nonterminal A ∷ b) f =
    let e = cut_none k f.0 f.1 h (sym f.4) in
    and_make (s A) (all_nullable s b) (n A (rw e.0 at f.2)) (body_none k F s h n b (rw e.1 at f.3))

none_body : (k : ℕ) (F : Family) (s : NumberSet) → ((A : ℕ) → T (s A) → F A []) → (b : Body) → T (all_nullable s b) → FirstBody k F b []
unfolding all_nullable
none_body k F s n [] t = refl
none_body k F s n (Terminal a ∷ b) t = absurd t
none_body k F s n (Nonterminal A ∷ b) t =
    ([], [], n A (and_l (s A) (all_nullable s b) t), none_body k F s n b (and_r (s A) (all_nullable s b) t), sym (take-nil k))

module _ (G : Grammar) (k : ℕ) (c : WellScoped G) where
  first_nullable : 0 < k → (A : ℕ) → First G k A [] → T (nullable G A)
  unfolding first null_step
  first_nullable h A t = entry_kept G k (first_step G k) (λ B x. x ≡ [] → T (nullable G B)) (λ p f B x l u e.
      let r = first_step_elim G k p B x u in
      let none : (b : Body) → Memᴰ b r.0.positives → T (all_nullable (nullable G) b) =
      λ b n. body_none k (In (sets_of G k p)) (nullable G) h (λ C i. f C [] i refl) b (rw e at (r.3 b n)) in
      nullable_closed G c B (any_make _ G.rules r.0 r.1
      (and_make (eqb r.0.head B) _ (rw r.2 (eqb_refl B)) (all_make (all_nullable (nullable G)) r.0.positives none)))) A [] t refl

  nullable_first : (A : ℕ) → T (nullable G A) → First G k A []
  unfolding null_step all_of
  nullable_first A t = nullable_least G (λ B. first G k (B, [])) (λ B u.
      let r = any_elim _ G.rules u in
      let R = r.0 in
      let e : R.head ≡ B = eqb→eq R.head B (and_l (eqb R.head B) _ r.2) in
      rw e at (first_closed G k c R r.1 [] (omega arith, tt) (λ b n.
      none_body k (First G k) (λ C. first G k (C, [])) (λ C i. i) b (all_elim _ R.positives (and_r (eqb R.head B) _ r.2) b n)))) A t

  -- the empty string is in FIRST_k of just the nullable nonterminals (document 01: "nothing" in the first set)
  pub first_none : 0 < k → (A : ℕ) → First G k A [] ↔ T (nullable G A)
  first_none h A = (first_nullable h A, nullable_first A)
