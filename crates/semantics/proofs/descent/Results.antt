-- The descent needs no bound on its depth: its outcomes are what the rules give, and the only ones that are.
use mathlib.Core.Bool.{◌&&◌}
use mathlib.Core.List.{List, [], ◌∷◌}
use mathlib.Core.Path.{◌≡◌, refl, sym, ap, ◌∙◌}
use Prim.Native.Nat.{ℕ, zero, suc, ◌-◌, ◌≤◌, ◌<◌}
use native.Mathlib.Omega.{arith}
use lib.Dec.{ltb, eqb, ltb→lt}
use lib.ListN.{length, get_or}
use Rattle.word.specs.declared.Symbol.TheVariants.{Terminal, Nonterminal}
use Rattle.grammar.specs.Syntax.{Body, Grammar, NonterminalsBelow, WellScoped}
use Rattle.semantics.specs.Valuations.{pairs}
use Rattle.semantics.specs.LeftRecursion.{nullable, LeftIn, here, there, LeftDepends, NoLeftRecursion, level}
use Rattle.semantics.specs.Choices.{Choice}
use Rattle.semantics.specs.inner.Choices.{OwnRules}
use Rattle.semantics.specs.Descent.{onward, guard, Outcomes, read, run, select, by_choice, Results, within, descend}
use Rattle.base.proofs.Booleans.{and_l}
use Rattle.semantics.proofs.meaning.Rank.{level_onward, level_top}
use Rattle.semantics.proofs.descent.Outcomes.{guard_elim, onward_cong, obey_cong}
use Rattle.semantics.proofs.descent.Ends.{Forward, EmptyNull, selected, within_forward, within_null}

-- outcomes that agree on the calls that a body makes agree on the body
module _ (G : Grammar) (w : List ℕ) (c c' : Outcomes) (forward : Forward w c) (empty : EmptyNull G w c) (B start : ℕ)
    (H : (A i : ℕ) → A < G.nonterminals → start ≤ i → i ≤ length w → (i ≡ start → LeftDepends G B A) → c A i ≡ c' A i) where
  run_same : (b : Body) (i : ℕ) → start ≤ i → i ≤ length w → NonterminalsBelow G.nonterminals b
      → (i ≡ start → (A : ℕ) → LeftIn (nullable G) A b → LeftDepends G B A)
      → run c w b i ≡ run c' w b i
  unfolding run read
  run_same [] i si iw scoped front = refl
  run_same (Terminal a ∷ b) i si iw scoped front =
      onward_cong (guard (ltb i (length w) && eqb (get_or w i 0) a) (suc i)) _ _ (λ m t.
      let g = guard_elim (ltb i (length w) && eqb (get_or w i 0) a) (suc i) m t in
      let l : i < length w = ltb→lt i (length w) (and_l (ltb i (length w)) _ g.0) in
      let e : suc i ≡ m = g.1 in
      run_same b m (omega arith) (omega arith) scoped (λ d. absurd (omega arith)))
  run_same (Nonterminal A ∷ b) i si iw scoped front =
      onward_cong (c A i) _ _ (λ m t.
      let p : (i ≤ m) × (m ≤ length w) = forward A i m iw t in
      run_same b m (omega arith) (omega arith) scoped.1 (λ e C l. front (omega arith) C (there (empty A i m iw (omega arith) t) l)))
      ∙ ap (λ x. onward x (λ m. run c' w b m)) (H A i scoped.0 si iw (λ e. front e A here))

module _ (G : Grammar) (choice : Choice) (w : List ℕ) (scoped : WellScoped G) (free : NoLeftRecursion G) (own : OwnRules G choice) where
  -- outcomes that agree below a call's level make the same of the call
  by_choice_same : (c c' : Outcomes) → Forward w c → EmptyNull G w c → (B i : ℕ) → i ≤ length w
      → ((A j : ℕ) → A < G.nonterminals → j ≤ length w → level G (length w - j) A < level G (length w - i) B → c A j ≡ c' A j)
      → by_choice G choice w c B i ≡ by_choice G choice w c' B i
  unfolding by_choice
  by_choice_same c c' forward null B i iw H = obey_cong _ _ (length w) (select G (choice B i)) (λ r e b m.
      let s = selected G choice w own B i r e in
      run_same G w c c' forward null B i
      (λ A j a ij jw left. H A j a jw (level_onward G scoped free B A (length w) i j a ij jw left))
      b i (omega arith) iw (scoped.nonterminals r s.0 b m)
      (λ _ A x. record { rule = r; body = b; listed = s.0; heads = s.1; held = m; left = x }))

  -- two depths above a call's level give the same outcome
  within_same : (n n' A i : ℕ) → A < G.nonterminals → i ≤ length w → level G (length w - i) A < n → level G (length w - i) A < n'
      → within G choice w n A i ≡ within G choice w n' A i
  unfolding within
  within_same zero n' A i a iw l l' = absurd (omega arith)
  within_same (suc n) zero A i a iw l l' = absurd (omega arith)
  within_same (suc n) (suc n') B i b iw l l' =
      by_choice_same (within G choice w n) (within G choice w n') (within_forward G choice w own n) (within_null G choice w own scoped n) B i iw
      (λ A j a jw h. within_same n n' A j a jw (omega arith) (omega arith))

  -- the descent's outcomes are what the rules give
  pub descend_results : Results G choice w (descend G choice w)
  unfolding descend within
  descend_results A i a iw =
      let l = level_top G scoped free w A (length w - i) a (omega arith) in
      within_same (pairs G w) (suc (pairs G w)) A i a iw l (omega arith)

  results_same : (c : Outcomes) → Results G choice w c → (n A i : ℕ) → A < G.nonterminals → i ≤ length w → level G (length w - i) A < n
      → within G choice w n A i ≡ c A i
  unfolding within
  results_same c results zero A i a iw l = absurd (omega arith)
  results_same c results (suc n) B i b iw l =
      by_choice_same (within G choice w n) c (within_forward G choice w own n) (within_null G choice w own scoped n) B i iw
      (λ A j a jw h. results_same c results n A j a jw (omega arith))
      ∙ sym (results B i b iw)

  -- and any outcomes that are what the rules give are the descent's
  pub results_unique : (c : Outcomes) → Results G choice w c → (A i : ℕ) → A < G.nonterminals → i ≤ length w → c A i ≡ descend G choice w A i
  unfolding descend
  results_unique c results A i a iw =
      sym (results_same c results (pairs G w) A i a iw (level_top G scoped free w A (length w - i) a (omega arith)))
