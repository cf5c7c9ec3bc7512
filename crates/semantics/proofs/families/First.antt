-- FIRST_k, computed in rounds, is the least family that the rules close.
use mathlib.Core.Bool.{Bool}
use mathlib.Core.List.Memᴰ
use mathlib.Core.List.{List, [], ◌∷◌, Memᴰ}
use mathlib.Core.Logic.{◌↔◌}
use mathlib.Core.Path.{◌≡◌}
use Prim.Native.Nat.{ℕ, ◌<◌}
use lib.Dec.{T, eqb, eqb→eq, eqb_refl}
use Rattle.word.specs.declared.Symbol.{Symbol}
use Rattle.word.specs.declared.Symbol.TheVariants.{Terminal, Nonterminal}
use Rattle.grammar.specs.Syntax.{Body, Rule, Grammar, WellScoped}
use Rattle.base.specs.Rounds.{◌⊆ᵇ◌}
use Rattle.base.specs.Strings.{Lookahead, same_string}
use Rattle.semantics.specs.Families.{Family, FirstOf, FirstBody, FirstRule, FirstClosed}
use Rattle.semantics.specs.inner.Families.{Least}
use Rattle.semantics.specs.FirstFollow.{Entry, Sets, sets_of, first_of_symbol, first_body, first_rule, first_step, first, first_sets, First}
use Rattle.base.proofs.Booleans.{and_l, and_r, and_make}
use Rattle.base.proofs.Quantified.{any_elim, any_make, all_elim, all_make}
use Rattle.base.proofs.FiniteSets.{member_mem, mem_member}
use Rattle.base.proofs.LookaheadStrings.{strings_equality}
use Rattle.semantics.proofs.families.LookaheadSets.{sets_elim, sets_mono, concat_make, concat_elim, entry_lookahead, entry_sets, entry_kept, entry_closed}

-- two least families are one
pub least_unique : (Closed : Family → Type 0) (F F' : Family) → Least Closed F → Least Closed F' → (A : ℕ) (x : List ℕ) → F A x ↔ F' A x
least_unique Closed F F' l l' A x = (l.smallest F' l'.closed A x, l'.smallest F l.closed A x)

-- the family of sets that are written out
abbrev pub In : Sets → Family
In s A x = Memᴰ x (s A)

module _ (k : ℕ) (F F' : Family) (h : (A : ℕ) (x : List ℕ) → F A x → F' A x) where
  first_of_mono : (X : Symbol) (x : List ℕ) → FirstOf k F X x → FirstOf k F' X x
  first_of_mono (Terminal a) x f = f
  first_of_mono (Nonterminal A) x f = h A x f

  pub first_body_mono : (b : Body) (x : List ℕ) → FirstBody k F b x → FirstBody k F' b x
  first_body_mono [] x f = f
  first_body_mono (X ∷ b) x f = (f.0, f.1, first_of_mono X f.0 f.2, first_body_mono b f.1 f.3, f.4)

-- the computed sets of symbols, bodies and rules are the ones that the families ask for
module _ (k : ℕ) (s : Sets) where
  first_of_make : (X : Symbol) (x : List ℕ) → FirstOf k (In s) X x → Memᴰ x (first_of_symbol k s X)
  unfolding first_of_symbol
  first_of_make (Terminal a) x f = Memᴰ.head f
  first_of_make (Nonterminal A) x f = f

  first_of_elim : (X : Symbol) (x : List ℕ) → Memᴰ x (first_of_symbol k s X) → FirstOf k (In s) X x
  unfolding first_of_symbol
  first_of_elim (Terminal a) x m = Memᴰ.eq_of_singleton m
  first_of_elim (Nonterminal A) x m = m

  pub first_body_make : (b : Body) (x : List ℕ) → FirstBody k (In s) b x → Memᴰ x (first_body k s b)
  unfolding first_body
  first_body_make [] x f = Memᴰ.head f
  first_body_make (X ∷ b) x f =
      Memᴰ.cast f.4 (concat_make k (first_of_symbol k s X) (first_body k s b) f.0 f.1 (first_of_make X f.0 f.2) (first_body_make b f.1 f.3))

  pub first_body_elim : (b : Body) (x : List ℕ) → Memᴰ x (first_body k s b) → FirstBody k (In s) b x
  unfolding first_body
  first_body_elim [] x m = Memᴰ.eq_of_singleton m
  first_body_elim (X ∷ b) x m =
      let r = concat_elim k (first_of_symbol k s X) (first_body k s b) x m in
      (r.0, r.1, first_of_elim X r.0 r.2, first_body_elim b r.1 r.3, r.4)

  pub first_rule_elim : (r : Rule) (x : List ℕ) → T (first_rule k s r x) → FirstRule k (In s) r x
  unfolding first_rule
  first_rule_elim r x t b m = first_body_elim b x (member_mem same_string strings_equality (first_body k s b) x (all_elim _ r.positives t b m))

  pub first_rule_make : (r : Rule) (x : List ℕ) → FirstRule k (In s) r x → T (first_rule k s r x)
  unfolding first_rule
  first_rule_make r x f = all_make _ r.positives (λ b m. mem_member same_string strings_equality (first_body k s b) x (first_body_make b x (f b m)))

module _ (G : Grammar) (k : ℕ) where
  first_step_make : (p : Entry → Bool) (r : Rule) (x : List ℕ) → Memᴰ r G.rules → FirstRule k (In (sets_of G k p)) r x
      → T (first_step G k p (r.head, x))
  unfolding first_step
  first_step_make p r x m f =
      any_make _ G.rules r m (and_make (eqb r.head r.head) _ (eqb_refl r.head) (first_rule_make k (sets_of G k p) r x f))

  pub first_step_elim : (p : Entry → Bool) (A : ℕ) (x : List ℕ) → T (first_step G k p (A, x))
      → (r : Rule) × Memᴰ r G.rules × (r.head ≡ A) × FirstRule k (In (sets_of G k p)) r x
  unfolding first_step
  first_step_elim p A x t =
      let r = any_elim _ G.rules t in
      let named = and_l (eqb r.0.head A) _ r.2 in
      (r.0, r.1, eqb→eq r.0.head A named, first_rule_elim k (sets_of G k p) r.0 x (and_r (eqb r.0.head A) _ r.2))

  first_step_mono : (p q : Entry → Bool) → p ⊆ᵇ q → first_step G k p ⊆ᵇ first_step G k q
  first_step_mono p q h e t =
      let x : List ℕ = e.1 in
      let r = first_step_elim p e.0 x t in
      rw r.2 at (first_step_make q r.0 x r.1 (λ b m. first_body_mono k (In (sets_of G k p)) (In (sets_of G k q)) (sets_mono G k p q h) b x (r.3 b m)))

  -- the members are lookahead strings of the grammar's nonterminals
  pub first_lookahead : (A : ℕ) (x : List ℕ) → First G k A x → (A < G.nonterminals) × Lookahead k G.terminals x
  unfolding first
  first_lookahead = entry_lookahead G k (first_step G k)

  pub in_first : (A : ℕ) (x : List ℕ) → First G k A x → In (first_sets G k) A x
  unfolding first_sets first
  in_first = entry_sets G k (first_step G k)

  pub first_in : (A : ℕ) (x : List ℕ) → In (first_sets G k) A x → First G k A x
  unfolding first_sets
  first_in A x m = (sets_elim G k (first G k) A x m).1

  pub first_closed : WellScoped G → FirstClosed G k (First G k)
  unfolding first first_sets
  first_closed c r m x l f =
      entry_closed G k (first_step G k) first_step_mono r.head x (c.heads r m) l
      (first_step_make (first G k) r x m (λ b n. first_body_mono k (First G k) (In (first_sets G k)) in_first b x (f b n)))

  pub first_smallest : (F : Family) → FirstClosed G k F → (A : ℕ) (x : List ℕ) → First G k A x → F A x
  unfolding first
  first_smallest F closed = entry_kept G k (first_step G k) F (λ p h A x l t.
      let r = first_step_elim p A x t in
      rw r.2 at (closed r.0 r.1 x l (λ b n. first_body_mono k (In (sets_of G k p)) F h b x (r.3 b n))))

  -- FIRST_k is the least family that is closed under the rules
  pub first_least : WellScoped G → Least (FirstClosed G k) (First G k)
  first_least c = record { closed = first_closed c; smallest = first_smallest }
