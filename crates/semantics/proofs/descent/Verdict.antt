-- The descent gives the solution's verdict wherever the lookahead string at the end is in the FOLLOW set, for any k.
use mathlib.Core.Bool.{Bool, true, not, ◌&&◌}
use mathlib.Core.List.{List, ◌∷◌, ◌++◌, Memᴰ}
use mathlib.Core.Logic.{◌↔◌}
use mathlib.Core.Option.{some}
use mathlib.Core.Path.{◌≡◌, sym, ap, ◌∙◌}
use Prim.Native.Nat.{ℕ, zero, suc, ◌-◌, ◌≤◌, ◌<◌}
use native.Mathlib.Omega.{arith}
use lib.Dec.{T, eqb, eqb→eq, eqb_refl}
use lib.ListN.{length, take}
use Rattle.word.specs.declared.Symbol.TheVariants.{Nonterminal}
use Rattle.grammar.specs.Syntax.{Body, Rule, Grammar, bodies, NonterminalsBelow, WellScoped}
use Rattle.base.specs.Quantifiers.{any_of, all_of}
use Rattle.semantics.specs.Valuations.{Valuation, contains, derives, by_rules, Solves, pairs}
use Rattle.semantics.specs.LeftRecursion.{LeftDepends, NoLeftRecursion, level}
use Rattle.base.specs.inner.Strings.{span}
use Rattle.base.specs.Strings.{look, Over}
use Rattle.semantics.specs.Families.{Family, FollowBody, Table}
use Rattle.semantics.specs.inner.Predictive.{Guides}
use Rattle.semantics.specs.Choices.{Choice, by_lookahead}
use Rattle.semantics.specs.inner.Choices.{OwnRules}
use Rattle.semantics.specs.inner.Theorems.{Piece}
use Rattle.semantics.specs.Descent.{End, ends_at, onward, Outcomes, read, run, agrees, by_choice, descend, accepts}
use Rattle.base.proofs.Booleans.{T_subst, both, and_l, and_r, and_make}
use Rattle.base.proofs.Quantified.{any_cong, all_cong, any_make, any_elim}
use Rattle.semantics.proofs.meaning.Rank.{level_onward, level_top}
use Rattle.semantics.proofs.meaning.Unique.{NullSound, solution_null}
use Rattle.base.proofs.Strings.{look_split, look_end, look_none, all_span, take_short}
use Rattle.semantics.proofs.families.FirstSound.{FirstSound, contains_first, rule_first, first_sound}
use Rattle.semantics.proofs.descent.Outcomes.{ends_end, end_ends, ends_iff, onward_elim, mem_nth}
use Rattle.semantics.proofs.descent.Ends.{Forward, run_forward, EmptyNull, by_choice_elim, by_choice_make, descend_forward, descend_null}
use Rattle.semantics.proofs.descent.Results.{descend_results}
use Rattle.semantics.proofs.descent.BodyVerdict.{run_contains, follow_rest, below_rest}

-- Everything about a grammar, its families and table, an input and its solution that the verdict needs
module _ {G : Grammar} {k : ℕ} {F L : Family} {t : Table} (scoped : WellScoped G) (free : NoLeftRecursion G) (guides : Guides G k F L t)
    (w : List ℕ) (over : Over G.terminals w) (v : Valuation) (solves : Solves G w v) where
  abbrev choice : Choice
  choice = by_lookahead t k w

  own : OwnRules G choice
  own A i q e = guides.table.chosen A (look k w i) q e

  abbrev outcomes : Outcomes
  outcomes = descend G choice w

  forward : Forward w outcomes
  forward = descend_forward G choice w own

  empty : EmptyNull G w outcomes
  empty = descend_null G choice w own scoped

  first : FirstSound G k F w v
  first = first_sound G scoped free w v solves k F guides.firsts over

  null : NullSound G w v
  null = solution_null G scoped free w v solves

  Verdicts : ℕ → Type 0
  Verdicts n = (A i j : ℕ) → A < G.nonterminals → i ≤ j → j ≤ length w → level G (length w - i) A < n → L A (look k w j)
      → ends_at (outcomes A i) j ≡ v A i j

  climb : (n : ℕ) → Verdicts n → (B i j : ℕ) → B < G.nonterminals → i ≤ j → j ≤ length w → level G (length w - i) B < suc n → L B (look k w j)
      → ends_at (by_choice G choice w outcomes B i) j ≡ by_rules G w v B i j
  unfolding by_rules derives agrees Verdicts
  climb n h B i j b ij jw l y = both _ _ there' back
    where
      H : (A i' m : ℕ) → A < G.nonterminals → i ≤ i' → i' ≤ m → m ≤ length w → (i' ≡ i → LeftDepends G B A) → L A (look k w m)
          → ends_at (outcomes A i') m ≡ v A i' m
      H A i' m a ii im mw left z = h A i' m a im mw (omega (arith, level_onward G scoped free B A (length w) i i' a ii (omega arith) left)) z

      body : (r : Rule) → Memᴰ r G.rules → r.head ≡ B → (b : Body) → Memᴰ b (bodies r)
          → ends_at (run outcomes w b i) j ≡ contains v w b i j
      body r m e b n =
          run_contains G k F L w v outcomes first null forward empty (LeftDepends G B) i j jw H b i (omega arith) ij (scoped.nonterminals r m b n)
          (guides.follows.follows r m b n (look k w j) (rw e y)) (λ _ A l. record { rule = r; body = b; listed = m; heads = e; held = n; left = l })

      same : (r : Rule) → Memᴰ r G.rules → r.head ≡ B
          → agrees (λ b. run outcomes w b i) r.positives r.negatives j
          ≡ (all_of (λ b. contains v w b i j) r.positives && not (any_of (λ b. contains v w b i j) r.negatives))
      same r m e =
          let ends : Body → Bool = λ b. ends_at (run outcomes w b i) j in
          let has : Body → Bool = λ b. contains v w b i j in
          let p = all_cong ends has r.positives (λ b n. body r m e b (mathlib.Core.List.Memᴰ.append_left r.negatives n)) in
          let q = any_cong ends has r.negatives (λ b n. body r m e b (mathlib.Core.List.Memᴰ.append_right r.positives n)) in
          cc

      there' : T (ends_at (by_choice G choice w outcomes B i) j) → T (any_of (derives v w B i j) G.rules)
      there' u =
          let r = by_choice_elim G choice w own outcomes B i j u in
          let named : T (eqb r.0.head B) = rw r.2 (eqb_refl B) in
          any_make (derives v w B i j) G.rules r.0 r.1 (and_make (eqb r.0.head B) _ named (T_subst (same r.0 r.1 r.2) r.4))

      back : T (any_of (derives v w B i j) G.rules) → T (ends_at (by_choice G choice w outcomes B i) j)
      back u =
          let s = any_elim (derives v w B i j) G.rules u in
          let r : Rule = s.0 in
          let m : Memᴰ r G.rules = s.1 in
          let e : r.head ≡ B = eqb→eq r.head B (and_l (eqb r.head B) _ s.2) in
          let x = and_r (eqb r.head B) (all_of (λ b. contains v w b i j) r.positives && not (any_of (λ b. contains v w b i j) r.negatives)) s.2 in
          let p = and_l (all_of (λ b. contains v w b i j) r.positives) _ x in
          let q = mem_nth G.rules r m in
          let y' : L r.head (look k w j) = rw e y in
          let f = rule_first G k F w v scoped first i j ij jw r m p in
          let d : t B (look k w i) ≡ some q.0 = guides.table.chooses q.0 B (look k w i) (record {
            rule = r;
            numbered = q.1;
            heads = e;
            begins = take k (span w i j);
            lookahead = (take_short k (span w i j), all_span _ k w i j over);
            meets = f;
            behind = look k w j;
            follows = y;
            makes = look_split k w i j ij;
          }) in
          by_choice_make G choice w own outcomes B i j q.0 r d q.1
          (λ o. let z = guides.ends r m o in sym (look_none k w j z.0 jw (z.1 (look k w j) y')))
          (T_subst (sym (same r m e)) x)

  verdict_below : (n : ℕ) → Verdicts n
  unfolding Verdicts
  verdict_below zero A i j a ij jw l y = absurd (omega arith)
  verdict_below (suc n) A i j a ij jw l y =
      ap (λ o. ends_at o j) (descend_results G choice w scoped free own A i a (omega arith))
      ∙ climb n (verdict_below n) A i j a ij jw l y ∙ sym (solves A i j a ij jw)

  verdict_at : (A i j : ℕ) → A < G.nonterminals → i ≤ j → j ≤ length w → L A (look k w j) → ends_at (outcomes A i) j ≡ v A i j
  unfolding Verdicts
  verdict_at A i j a ij jw y = verdict_below (pairs G w) A i j a ij jw (level_top G scoped free w A (length w - i) a (omega arith)) y

  -- The local verdict: where the lookahead string at j is in FOLLOW of A, a call of A at i ends at j just when the solution gives it the span
  pub local_verdict : (A i j : ℕ) → A < G.nonterminals → i ≤ j → j ≤ length w → L A (look k w j) → (outcomes A i ≡ End j) ↔ (v A i j ≡ true)
  local_verdict A i j a ij jw y = ends_iff (outcomes A i) j (v A i j) (verdict_at A i j a ij jw y)

  rest_at : (i j : ℕ) → i ≤ j → j ≤ length w → (b : Body) → NonterminalsBelow G.nonterminals b → FollowBody k F L (look k w j) b
      → ends_at (run outcomes w b i) j ≡ contains v w b i j
  rest_at i j ij jw b n f =
      run_contains G k F L w v outcomes first null forward empty (λ _. Unit {0}) i j jw (λ A i' m a _ im mw _ y. verdict_at A i' m a im mw y)
      b i (omega arith) ij n f (λ _ A _. tt)

  -- A body's rest: what stands after some front in a body of a rule r, where the lookahead string at j is in FOLLOW of r's head
  module _ (r : Rule) (listed : Memᴰ r G.rules) (front rest : Body) (held : Memᴰ (front ++ rest) (bodies r))
      (i j : ℕ) (ij : i ≤ j) (jw : j ≤ length w) (y : L r.head (look k w j)) where
    rest_below : NonterminalsBelow G.nonterminals rest
    rest_below = below_rest G.nonterminals front rest (scoped.nonterminals r listed (front ++ rest) held)

    rest_follow : FollowBody k F L (look k w j) rest
    rest_follow = follow_rest k F L (look k w j) front rest (guides.follows.follows r listed (front ++ rest) held (look k w j) y)

    -- the local verdict for bodies: run from i it ends at j just when it contains the span by the solution
    pub local_verdict_body : (run outcomes w rest i ≡ End j) ↔ (contains v w rest i j ≡ true)
    local_verdict_body = ends_iff (run outcomes w rest i) j (contains v w rest i j) (rest_at i j ij jw rest rest_below rest_follow)

  -- A nonterminal that such a body reaches at i ends where its own FOLLOW set has the lookahead string, and so has the right verdict
  pub local_verdict_piece : (r : Rule) → Memᴰ r G.rules → (front : Body) (A : ℕ) (b : Body)
      → Memᴰ (front ++ Nonterminal A ∷ b) (bodies r)
      → (i j : ℕ) → i ≤ j → j ≤ length w → L r.head (look k w j) → run outcomes w (Nonterminal A ∷ b) i ≡ End j
      → (m : ℕ) × Piece k L w v outcomes A b i m j
  unfolding run read
  local_verdict_piece r listed front A b held i j ij jw y e =
      let f = rest_follow r listed front (Nonterminal A ∷ b) held i j ij jw y in
      let n = rest_below r listed front (Nonterminal A ∷ b) held i j ij jw y in
      let o = onward_elim (outcomes A i) (λ m. run outcomes w b m) j (end_ends _ j e) in
      let m : ℕ = o.0 in
      let p : (i ≤ m) × (m ≤ length w) = forward A i m (omega arith) o.1 in
      let q : (m ≤ j) × (j ≤ length w) = run_forward w outcomes forward b m j p.1 o.2 in
      let x : T (contains v w b m j) = T_subst (rest_at m j q.0 jw b n.1 f.1) o.2 in
      let z = contains_first G k F w v first b m j q.0 jw n.1 x in
      let y' : L A (look k w m) = rw (look_split k w m j q.0) (f.0 (take k (span w m j)) z) in (
        m,
        record {
          ends = ends_end (outcomes A i) m o.1;
          rest = ends_end (run outcomes w b m) j o.2;
          onward = (p.0, q.0);
          follow = y';
          derived = (local_verdict A i m n.0 p.0 p.1 y').0 (ends_end (outcomes A i) m o.1);
        },
      )

  -- the verdict: the input is accepted just when the solution gives the whole of it to the start
  pub verdict : 0 < G.nonterminals → accepts G choice w ≡ v 0 0 (length w)
  unfolding accepts
  verdict a = verdict_at 0 0 (length w) a (omega arith) (omega arith) (rw (look_end k w) guides.follows.start)
