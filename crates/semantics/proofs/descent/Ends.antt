-- Where the descent ends: never before its start, and at its start only for a nullable nonterminal.
use mathlib.Core.Bool.{◌&&◌}
use mathlib.Core.List.{List, [], ◌∷◌, Memᴰ}
use mathlib.Core.Option.{some}
use mathlib.Core.Path.{◌≡◌, refl}
use Prim.Native.Nat.{ℕ, zero, suc, ◌≤◌, ◌<◌}
use native.Mathlib.Omega.{arith}
use lib.Dec.{T, ltb, eqb, ltb→lt, eqb→eq, eqb_refl}
use lib.ListN.{length, get_or, get_elem?}
use Rattle.word.specs.declared.Symbol.TheVariants.{Terminal, Nonterminal}
use Rattle.grammar.specs.Syntax.{Body, Rule, Grammar, WellScoped}
use Rattle.base.specs.Quantifiers.{all_of}
use Rattle.semantics.specs.Valuations.{pairs}
use Rattle.semantics.specs.LeftRecursion.{all_nullable, null_step, nullable}
use Rattle.semantics.specs.Choices.{Choice}
use Rattle.semantics.specs.inner.Choices.{OwnRules}
use Rattle.semantics.specs.Descent.{ends_at, guard, Outcomes, read, run, agrees, obey, select, by_choice, within, descend}
use Rattle.base.proofs.Booleans.{and_l, and_make}
use Rattle.base.proofs.Quantified.{all_map, any_make}
use Rattle.semantics.proofs.meaning.Nullable.{nullable_closed}
use Rattle.semantics.proofs.descent.Outcomes.{onward_elim, guard_elim, conclude_elim, conclude_make, nth_mem, obey_elim, select_elim}

module _ (w : List ℕ) (c : Outcomes) where
  abbrev pub Forward : Type 0
  Forward = (A i j : ℕ) → i ≤ length w → T (ends_at (c A i) j) → (i ≤ j) × (j ≤ length w)

  pub run_forward : Forward → (b : Body) (i j : ℕ) → i ≤ length w → T (ends_at (run c w b i) j) → (i ≤ j) × (j ≤ length w)
  unfolding run read
  run_forward h [] i j iw t = omega (arith, eqb→eq i j t)
  run_forward h (Terminal a ∷ b) i j iw t =
      let s = onward_elim (guard (ltb i (length w) && eqb (get_or w i 0) a) (suc i)) (λ m. run c w b m) j t in
      let g = guard_elim (ltb i (length w) && eqb (get_or w i 0) a) (suc i) s.0 s.1 in
      let l : i < length w = ltb→lt i (length w) (and_l (ltb i (length w)) _ g.0) in
      let e : suc i ≡ s.0 = g.1 in
      omega (arith, run_forward h b s.0 j (omega arith) s.2)
  run_forward h (Nonterminal A ∷ b) i j iw t =
      let s = onward_elim (c A i) (λ m. run c w b m) j t in
      let x : (i ≤ s.0) × (s.0 ≤ length w) = h A i s.0 iw s.1 in
      omega (arith, run_forward h b s.0 j (omega arith) s.2)

-- what ends where it starts is nullable
abbrev pub EmptyNull : Grammar → List ℕ → Outcomes → Type 0
EmptyNull G w c = (A i j : ℕ) → i ≤ length w → i ≡ j → T (ends_at (c A i) j) → T (nullable G A)

module _ (G : Grammar) (w : List ℕ) (c : Outcomes) (forward : Forward w c) where
  run_all_nullable : EmptyNull G w c → (b : Body) (i j : ℕ) → i ≤ length w → i ≡ j → T (ends_at (run c w b i) j) → T (all_nullable (nullable G) b)
  unfolding run read all_nullable
  run_all_nullable h [] i j iw e t = tt
  run_all_nullable h (Terminal a ∷ b) i j iw e t =
      let s = onward_elim (guard (ltb i (length w) && eqb (get_or w i 0) a) (suc i)) (λ m. run c w b m) j t in
      let g = guard_elim (ltb i (length w) && eqb (get_or w i 0) a) (suc i) s.0 s.1 in
      let l : i < length w = ltb→lt i (length w) (and_l (ltb i (length w)) _ g.0) in
      let d : suc i ≡ s.0 = g.1 in
      absurd (omega (arith, run_forward w c forward b s.0 j (omega arith) s.2))
  run_all_nullable h (Nonterminal A ∷ b) i j iw e t =
      let s = onward_elim (c A i) (λ m. run c w b m) j t in
      let x : (i ≤ s.0) × (s.0 ≤ length w) = forward A i s.0 iw s.1 in
      let y : (s.0 ≤ j) × (j ≤ length w) = run_forward w c forward b s.0 j (omega arith) s.2 in
      and_make (nullable G A) _ (h A i s.0 iw (omega arith) s.1) (run_all_nullable h b s.0 j (omega arith) (omega arith) s.2)

module _ (G : Grammar) (choice : Choice) (w : List ℕ) (own : OwnRules G choice) where
  -- the rule that is selected is one of the nonterminal's
  pub selected : (A i : ℕ) (r : Rule) → select G (choice A i) ≡ some r → Memᴰ r G.rules × (r.head ≡ A)
  selected A i r e =
      let s = select_elim G (choice A i) r e in
      let d = own A i s.0 s.1 in
      let f : d.0 ≡ r = cc (d.1, s.2) in
      (nth_mem G.rules s.0 r s.2, rw f at d.2)

  module _ (c : Outcomes) where
    -- a call ends at j by a rule of its own, all of whose bodies agree on j
    pub by_choice_elim : (A i j : ℕ) → T (ends_at (by_choice G choice w c A i) j)
        → (r : Rule) × Memᴰ r G.rules × (r.head ≡ A) × (r.positives ≡ [] → length w ≡ j)
        × T (agrees (λ b. run c w b i) r.positives r.negatives j)
    unfolding by_choice
    by_choice_elim A i j u =
        let o = obey_elim (λ b. run c w b i) (length w) (select G (choice A i)) j u in
        let s = selected A i o.0 o.1 in
        let g = conclude_elim (λ b. run c w b i) (length w) o.0.positives o.0.negatives j o.2 in
        (o.0, s.0, s.1, g.0, g.1)

    pub by_choice_make : (A i j q : ℕ) (r : Rule) → choice A i ≡ some q → get_elem? G.rules q ≡ some r → (r.positives ≡ [] → length w ≡ j)
        → T (agrees (λ b. run c w b i) r.positives r.negatives j) → T (ends_at (by_choice G choice w c A i) j)
    unfolding by_choice obey select
    by_choice_make A i j q r e d h u = rw (e, d) (conclude_make (λ b. run c w b i) (length w) r.positives r.negatives j h u)

    by_choice_forward : Forward w c → Forward w (by_choice G choice w c)
    unfolding agrees all_of
    by_choice_forward f A i j iw u =
        let r = by_choice_elim A i j u in
        go r.0.positives r.3 (and_l (all_of (λ b. ends_at (run c w b i) j) r.0.positives) _ r.4)
      where
        go : (ps : List Body) → (ps ≡ [] → length w ≡ j) → T (all_of (λ b. ends_at (run c w b i) j) ps) → (i ≤ j) × (j ≤ length w)
        go [] h a = let e : length w ≡ j = h refl in omega arith
        go (b ∷ ps) h a = run_forward w c f b i j iw (and_l (ends_at (run c w b i) j) _ a)

    by_choice_null : WellScoped G → Forward w c → EmptyNull G w c → EmptyNull G w (by_choice G choice w c)
    unfolding agrees null_step
    by_choice_null scoped f h A i j iw e u =
        let r = by_choice_elim A i j u in
        let R = r.0 in
        let a = and_l (all_of (λ b. ends_at (run c w b i) j) R.positives) _ r.4 in
        let named : T (eqb R.head A) = rw r.2 (eqb_refl A) in
        nullable_closed G scoped A (any_make _ G.rules R r.1 (and_make (eqb R.head A) _ named
        (all_map (λ b. ends_at (run c w b i) j) (all_nullable (nullable G)) R.positives
        (λ b _. run_all_nullable G w c f h b i j iw e) a)))

  pub within_forward : (n : ℕ) → Forward w (within G choice w n)
  unfolding within
  within_forward zero = λ A i j iw u. absurd u
  within_forward (suc n) = by_choice_forward (within G choice w n) (within_forward n)

  pub within_null : WellScoped G → (n : ℕ) → EmptyNull G w (within G choice w n)
  unfolding within
  within_null c zero = λ A i j iw e u. absurd u
  within_null c (suc n) = by_choice_null (within G choice w n) c (within_forward n) (within_null c n)

  -- a call ends between its place and the end of the input
  pub descend_forward : Forward w (descend G choice w)
  unfolding descend
  descend_forward = within_forward (pairs G w)

  -- a call that ends where it began is of a nullable nonterminal
  pub descend_null : WellScoped G → EmptyNull G w (descend G choice w)
  unfolding descend
  descend_null c = within_null c (pairs G w)
