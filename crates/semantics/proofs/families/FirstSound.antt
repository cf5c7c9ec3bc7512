-- A span that a nonterminal derives, or that a body contains, begins as its FIRST set says.
use mathlib.Core.Bool.{false, ◌&&◌}
use mathlib.Core.List.Memᴰ
use mathlib.Core.List.{List, [], ◌∷◌, Memᴰ}
use mathlib.Core.Path.{◌≡◌, refl}
use Prim.Native.Nat.{ℕ, zero, suc, ◌≤◌, ◌<◌}
use native.Mathlib.Omega.{arith}
use lib.Dec.{T, leb, ltb, eqb, leb→le, ltb→lt, eqb→eq}
use lib.ListN.{length, get_or, take}
use lib.Seq.{take-nil}
use Rattle.word.specs.declared.Symbol.TheVariants.{Terminal, Nonterminal}
use Rattle.grammar.specs.Syntax.{Body, Rule, Grammar, NonterminalsBelow, WellScoped}
use Rattle.base.specs.Quantifiers.{all_of}
use Rattle.semantics.specs.Valuations.{Valuation, contains, derives, by_rules, rounds, Solves, solution}
use Rattle.semantics.specs.LeftRecursion.{NoLeftRecursion}
use Rattle.base.specs.inner.Strings.{span}
use Rattle.base.specs.Strings.{Over}
use Rattle.semantics.specs.Families.{Family, FirstBody, FirstRule, FirstClosed}
use Rattle.base.proofs.Booleans.{T_subst, and_l, and_r}
use Rattle.base.proofs.Quantified.{all_elim, any_elim, below_elim}
use Rattle.semantics.proofs.meaning.Unique.{solution_solves, solution_unique}
use Rattle.base.proofs.Strings.{take_cut, span_none, span_split, span_cons, all_span, take_short}

-- what one round of the rules preserves holds of every solution
module _ (G : Grammar) (c : WellScoped G) (free : NoLeftRecursion G) (w : List ℕ) where
  after_rounds : (P : ℕ → ℕ → ℕ → Type 0) → ((u : Valuation) → ((A i j : ℕ) → A < G.nonterminals → i ≤ j → j ≤ length w → T (u A i j) → P A i j)
      → (A i j : ℕ) → A < G.nonterminals → i ≤ j → j ≤ length w → T (by_rules G w u A i j) → P A i j)
      → (n : ℕ) (A i j : ℕ) → A < G.nonterminals → i ≤ j → j ≤ length w → T (rounds G w n (λ _ _ _. false) A i j) → P A i j
  unfolding rounds
  after_rounds P h zero A i j a ij jw t = absurd t
  after_rounds P h (suc n) A i j a ij jw t = h (rounds G w n (λ _ _ _. false)) (after_rounds P h n) A i j a ij jw t

  by_rounds : (P : ℕ → ℕ → ℕ → Type 0) → ((u : Valuation) → ((A i j : ℕ) → A < G.nonterminals → i ≤ j → j ≤ length w → T (u A i j) → P A i j)
      → (A i j : ℕ) → A < G.nonterminals → i ≤ j → j ≤ length w → T (by_rules G w u A i j) → P A i j)
      → (v : Valuation) → Solves G w v → (A i j : ℕ) → A < G.nonterminals → i ≤ j → j ≤ length w → T (v A i j) → P A i j
  unfolding solution
  by_rounds P h v k A i j a ij jw t =
      after_rounds P h _ A i j a ij jw (T_subst (solution_unique G c free w v (solution G w) k (solution_solves G c free w) A i j a ij jw) t)

module _ (G : Grammar) (k : ℕ) (F : Family) (w : List ℕ) (v : Valuation) where
  abbrev pub FirstSound : Type 0
  FirstSound = (A i j : ℕ) → A < G.nonterminals → i ≤ j → j ≤ length w → T (v A i j) → F A (take k (span w i j))

  pub contains_first : FirstSound → (b : Body) (i j : ℕ) → i ≤ j → j ≤ length w → NonterminalsBelow G.nonterminals b → T (contains v w b i j)
      → FirstBody k F b (take k (span w i j))
  unfolding contains
  contains_first h [] i j ij jw scoped t =
      let e : i ≡ j = eqb→eq i j t in
      rw (← e, span_none w i, take-nil k)
  contains_first h (Terminal a ∷ b) i j ij jw scoped t =
      let l : i < j = ltb→lt i j (and_l (ltb i j) _ t) in
      let rest : T (eqb (get_or w i 0) a && contains v w b (suc i) j) = and_r (ltb i j) _ t in
      let e : get_or w i 0 ≡ a = eqb→eq (get_or w i 0) a (and_l (eqb (get_or w i 0) a) _ rest) in (
        take k (a ∷ []),
        take k (span w (suc i) j),
        refl,
        contains_first h b (suc i) j (omega arith) jw scoped (and_r (eqb (get_or w i 0) a) _ rest),
        rw (take_cut k k k (a ∷ []) (span w (suc i) j) (omega arith) (omega arith), span_cons w i j l (omega arith), e),
      )
  contains_first h (Nonterminal A ∷ b) i j ij jw scoped t =
      let r = below_elim (suc j) _ t in
      let m : ℕ = r.0 in
      let mj : m < suc j = r.1 in
      let im : i ≤ m = leb→le i m (and_l (leb i m) _ r.2) in
      let rest : T (v A i m && contains v w b m j) = and_r (leb i m) _ r.2 in (
        take k (span w i m),
        take k (span w m j),
        h A i m scoped.0 im (omega arith) (and_l (v A i m) _ rest),
        contains_first h b m j (omega arith) jw scoped.1 (and_r (v A i m) _ rest),
        rw (take_cut k k k (span w i m) (span w m j) (omega arith) (omega arith), span_split w i m j im (omega arith)),
      )

  -- the string of a span that every positive body of a rule contains
  pub rule_first : WellScoped G → FirstSound → (i j : ℕ) → i ≤ j → j ≤ length w → (r : Rule) → Memᴰ r G.rules
      → T (all_of (λ b. contains v w b i j) r.positives) → FirstRule k F r (take k (span w i j))
  rule_first c h i j ij jw r m t b n =
      contains_first h b i j ij jw (c.nonterminals r m b (Memᴰ.append_left r.negatives n)) (all_elim (λ b. contains v w b i j) r.positives t b n)

  by_rules_first : WellScoped G → FirstClosed G k F → Over G.terminals w → FirstSound
      → (A i j : ℕ) → A < G.nonterminals → i ≤ j → j ≤ length w → T (by_rules G w v A i j) → F A (take k (span w i j))
  unfolding by_rules derives
  by_rules_first c fc ws h A i j a ij jw t =
      let r = any_elim _ G.rules t in
      let R = r.0 in
      let e : R.head ≡ A = eqb→eq R.head A (and_l (eqb R.head A) _ r.2) in
      let ps = and_l (all_of (λ b. contains v w b i j) R.positives) _ (and_r (eqb R.head A) _ r.2) in
      rw e at (fc R r.1 (take k (span w i j)) (take_short k (span w i j), all_span _ k w i j ws) (rule_first c h i j ij jw R r.1 ps))

-- for every solution: the first k tokens of a span that A derives are in FIRST of A; the same for a body
module _ (G : Grammar) (c : WellScoped G) (free : NoLeftRecursion G) (w : List ℕ) (v : Valuation) (solves : Solves G w v) where
  pub first_sound : (k : ℕ) (F : Family) → FirstClosed G k F → Over G.terminals w → FirstSound G k F w v
  first_sound k F fc ws = by_rounds G c free w (λ A i j. F A (take k (span w i j))) (λ u h. by_rules_first G k F w u c fc ws h) v solves

  pub first_sound_body : (k : ℕ) (F : Family) → FirstClosed G k F → Over G.terminals w
      → (b : Body) (i j : ℕ) → i ≤ j → j ≤ length w → NonterminalsBelow G.nonterminals b → T (contains v w b i j)
      → FirstBody k F b (take k (span w i j))
  first_sound_body k F fc ws = contains_first G k F w v (first_sound k F fc ws)
