-- How a call that ends was read: the rule that the table chose, and each positive conjunct of it symbol by symbol.
use mathlib.Core.Bool.{Bool, true, false, not, ◌&&◌}
use mathlib.Core.List.Memᴰ
use mathlib.Core.List.{List, [], ◌∷◌, ◌++◌, Memᴰ, append_assoc}
use mathlib.Core.Option.{some}
use mathlib.Core.Path.{◌≡◌, refl, sym, ◌∙◌}
use Prim.Native.Nat.{ℕ, suc, ◌≤◌, ◌<◌}
use native.Mathlib.Omega.{arith}
use lib.Dec.{T, ltb, eqb, ltb→lt, eqb→eq, T_not}
use lib.ListN.{length, get_or, get_elem?}
use Rattle.word.specs.declared.Symbol.TheVariants.{Terminal, Nonterminal}
use Rattle.grammar.specs.Syntax.{Body, Rule, Grammar, bodies}
use Rattle.base.specs.Quantifiers.{any_of, all_of}
use Rattle.semantics.specs.Valuations.{Valuation, contains, Solves}
use Rattle.base.specs.Strings.{look, Over}
use Rattle.semantics.specs.FirstFollow.{Follow}
use Rattle.semantics.specs.Choices.{table_choice}
use Rattle.semantics.specs.Descent.{End, ends_at, guard, onward, Outcomes, read, run, agrees, select, by_choice, descend}
use Rattle.semantics.specs.Predictive.{Predictive}
use Rattle.semantics.specs.inner.Theorems.{LocalVerdict}
use Rattle.base.proofs.Booleans.{and_l, and_r}
use Rattle.base.proofs.Quantified.{all_elim, any_make}
use Rattle.semantics.proofs.descent.Outcomes.{ends_end, end_ends, onward_elim, guard_elim, obey_elim, select_elim, conclude_elim}
use Rattle.semantics.proofs.descent.Ends.{run_forward, selected, descend_forward}
use Rattle.semantics.proofs.descent.BodyVerdict.{below_rest}
use Rattle.semantics.proofs.Theorems.{theorems}

module _ (G : Grammar) (k : ℕ) (w : List ℕ) where
  abbrev pub outcomes : Outcomes
  outcomes = descend G (table_choice G k w) w

  -- a call of A at i ends at m, where A can be followed
  pub record Found (A i m : ℕ) : Type 0 where
    pub named : A < G.nonterminals
    pub ends : outcomes A i ≡ End m
    pub onward : i ≤ m
    pub within : m ≤ length w
    pub follow : Follow G k A (look k w m)

  -- the body was read from i to j
  abbrev pub Reads : ℕ → Body → ℕ → Type 0
  Reads j [] i = i ≡ j
  Reads j (Terminal a ∷ b) i = (i < length w) × (get_or w i 0 ≡ a) × Reads j b (suc i)
  Reads j (Nonterminal A ∷ b) i = (m : ℕ) × Found A i m × Reads j b m

  pub reads_forward : (b : Body) (i j : ℕ) → Reads j b i → i ≤ j
  reads_forward [] i j h = omega (arith, h)
  reads_forward (Terminal a ∷ b) i j h = omega (arith, reads_forward b (suc i) j h.2)
  reads_forward (Nonterminal A ∷ b) i j h = omega (arith, h.1.onward, reads_forward b h.0 j h.2)

  end_same : (i j : ℕ) → End i ≡ End j → i ≡ j
  end_same i j e = eqb→eq i j (end_ends (End i) j e)

  module _ (p : Predictive G k) (over : Over G.terminals w) (v : Valuation) (solves : Solves G w v) where
    verdict : LocalVerdict G k w v
    verdict = theorems.local_verdict G k p w over v solves

    module _ (r : Rule) (listed : Memᴰ r G.rules) (j : ℕ) (jw : j ≤ length w) (y : Follow G k r.head (look k w j)) where
      reads : (front rest : Body) → Memᴰ (front ++ rest) (bodies r) → (i : ℕ) → i ≤ j → run outcomes w rest i ≡ End j → Reads j rest i
      unfolding run read
      reads front [] held i ij e = end_same i j e
      reads front (Terminal a ∷ b) held i ij e =
          let s = onward_elim (guard (ltb i (length w) && eqb (get_or w i 0) a) (suc i)) (λ m. run outcomes w b m) j (end_ends _ j e) in
          let g = guard_elim (ltb i (length w) && eqb (get_or w i 0) a) (suc i) s.0 s.1 in
          let l : i < length w = ltb→lt i (length w) (and_l (ltb i (length w)) _ g.0) in
          let q : get_or w i 0 ≡ a = eqb→eq (get_or w i 0) a (and_r (ltb i (length w)) (eqb (get_or w i 0) a) g.0) in
          let d : suc i ≡ s.0 = g.1 in
          let u : T (ends_at (run outcomes w b (suc i)) j) = rw d s.2 in
          let f = run_forward w outcomes (descend_forward G (table_choice G k w) w (theorems.own_rules G k w)) b (suc i) j l u in
          (l, q, reads (front ++ (Terminal a ∷ [])) b (rw (append_assoc front (Terminal a ∷ []) b) held) (suc i) f.0 (ends_end _ j u))
      reads front (Nonterminal A ∷ b) held i ij e =
          let q = verdict.piece r listed front A b held i j ij jw y e in
          let n = below_rest G.nonterminals front (Nonterminal A ∷ b) (p.scoped.nonterminals r listed (front ++ (Nonterminal A ∷ b)) held) in
          let o = q.1.onward in
          let mw : q.0 ≤ length w = omega (arith, o.1) in (
            q.0,
            record { named = n.0; ends = q.1.ends; onward = o.0; within = mw; follow = q.1.follow },
            reads (front ++ (Nonterminal A ∷ [])) b (rw (append_assoc front (Nonterminal A ∷ []) b) held) q.0 o.1 q.1.rest,
          )

    -- the rule that gave a call its end
    pub record Chosen (A i j : ℕ) : Type 0 where
      pub rule : Rule
      pub number : ℕ
      pub looked : table_choice G k w A i ≡ some number
      pub numbered : get_elem? G.rules number ≡ some rule
      pub listed : Memᴰ rule G.rules
      pub heads : rule.head ≡ A
      pub positive : (b : Body) → Memᴰ b rule.positives → run outcomes w b i ≡ End j
      pub read : (b : Body) → Memᴰ b rule.positives → Reads j b i
      pub negative : (b : Body) → Memᴰ b rule.negatives → contains v w b i j ≡ false
      pub every : rule.positives ≡ [] → length w ≡ j

    pub chosen : (A i j : ℕ) → Found A i j → Chosen A i j
    unfolding by_choice agrees
    chosen A i j f =
        let a : i ≤ length w = omega (arith, f.onward, f.within) in
        let e : by_choice G (table_choice G k w) w outcomes A i ≡ End j =
        sym ((theorems.descent_ends G p.scoped p.unrecursive (table_choice G k w) (theorems.own_rules G k w) w).unfolds A i f.named a) ∙ f.ends in
        let o = obey_elim (λ b. run outcomes w b i) (length w) (select G (table_choice G k w A i)) j (end_ends _ j e) in
        let r : Rule = o.0 in
        let s = select_elim G (table_choice G k w A i) r o.1 in
        let own = selected G (table_choice G k w) w (theorems.own_rules G k w) A i r o.1 in
        let g = conclude_elim (λ b. run outcomes w b i) (length w) r.positives r.negatives j o.2 in
        let ps = and_l (all_of (λ b. ends_at (run outcomes w b i) j) r.positives) _ g.1 in
        let ns = and_r (all_of (λ b. ends_at (run outcomes w b i) j) r.positives) (not (any_of (λ b. ends_at (run outcomes w b i) j) r.negatives)) g.1 in
        let y : Follow G k r.head (look k w j) = rw own.1 f.follow in
        let positive : (b : Body) → Memᴰ b r.positives → run outcomes w b i ≡ End j = λ b m. ends_end _ j (all_elim _ r.positives ps b m) in
        record {
          rule = r;
          number = s.0;
          looked = s.1;
          numbered = s.2;
          listed = own.0;
          heads = own.1;
          positive = positive;
          read = λ b m. reads r own.0 j f.within y [] b (Memᴰ.append_left r.negatives m) i f.onward (positive b m);
          negative = λ b m. refuted r own.0 y b m ns;
          every = g.0;
        }
      where
        refuted : (r : Rule) → Memᴰ r G.rules → Follow G k r.head (look k w j) → (b : Body) → Memᴰ b r.negatives
            → T (not (any_of (λ b. ends_at (run outcomes w b i) j) r.negatives)) → contains v w b i j ≡ false
        refuted r l y b m ns = go (contains v w b i j) refl
          where
            go : (x : Bool) → contains v w b i j ≡ x → x ≡ false
            go true e =
                let d = (verdict.rest r l [] b (Memᴰ.append_right r.positives m) i j f.onward f.within y).1 e in
                absurd (T_not (any_of (λ b. ends_at (run outcomes w b i) j) r.negatives) ns (any_make _ r.negatives b m (end_ends _ j d)))
            go false e = refl
