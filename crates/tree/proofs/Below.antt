-- What is below a call that ends: calls that the descent makes and that end too, of a lower measure.
use mathlib.Core.Bool.{true, ◌&&◌}
use mathlib.Core.List.{List, [], ◌∷◌, Memᴰ, flat_map}
use mathlib.Core.Logic.{inl, inr}
use mathlib.Core.Path.{◌≡◌, refl}
use Prim.Native.Nat.{ℕ, suc, ◌<◌}
use native.Mathlib.Omega.{arith}
use lib.Dec.{ltb, eqb, lt→ltb, eqb_refl}
use lib.ListN.{length, get_or}
use Rattle.word.specs.declared.Symbol.TheVariants.{Terminal, Nonterminal}
use Rattle.grammar.specs.Syntax.{Body, Grammar}
use Rattle.semantics.specs.Valuations.{Valuation, Solves}
use Rattle.base.specs.Strings.{Over}
use Rattle.semantics.specs.Choices.{table_choice}
use Rattle.semantics.specs.Descent.{End, ends_at, Outcomes, read, run, select}
use Rattle.semantics.specs.ComesTo.{Call, call_at, InRange, when, body_comes_to, positives_come_to, rule_comes_to, selected_comes_to, call_comes_to}
use Rattle.semantics.specs.inner.ComesTo.{measure}
use Rattle.semantics.specs.Predictive.{Predictive}
use Rattle.base.proofs.Booleans.{T_true, and_make}
use Rattle.semantics.proofs.descent.Measure.{measure_falls}
use Rattle.semantics.proofs.Theorems.{theorems}
use Rattle.tree.specs.Writing.{rule_calls, below}
use Rattle.base.proofs.FlatMaps.{flat_map_elim, flat_map_make}
use Rattle.tree.proofs.Reading.{outcomes, Found, Reads, Chosen, chosen}

-- what a body reaches, step by step
module _ (c : Outcomes) (w : List ℕ) where
  pub comes_token : (a : ℕ) (b : Body) (i : ℕ) → i < length w → get_or w i 0 ≡ a → body_comes_to c w (Terminal a ∷ b) i ≡ body_comes_to c w b (suc i)
  unfolding body_comes_to read
  comes_token a b i l e =
      let u : (ltb i (length w) && eqb (get_or w i 0) a) ≡ true = T_true _ (and_make (ltb i (length w)) _ (lt→ltb i (length w) l) (rw e (eqb_refl a))) in
      rw u refl

  pub comes_name : (A : ℕ) (b : Body) (i m : ℕ) → c A i ≡ End m → body_comes_to c w (Nonterminal A ∷ b) i ≡ call_at A i ∷ body_comes_to c w b m
  unfolding body_comes_to read
  comes_name A b i m e = rw e refl

  -- a positive conjunct of a rule all of whose positive conjuncts end at j is reached
  module _ (i j : ℕ) (y : Call) where
    positives_come : (ps ns : List Body) → ((b : Body) → Memᴰ b ps → run c w b i ≡ End j)
        → (b : Body) → Memᴰ b ps → Memᴰ y (body_comes_to c w b i) → Memᴰ y (positives_come_to c w i j ps ns)
    unfolding positives_come_to when
    positives_come [] ns h b m u = absurd (mathlib.Core.List.Memᴰ.not-nil m)
    positives_come (d ∷ ps) ns h b m u =
        let e : ends_at (run c w d i) j ≡ true = rw (h d (mathlib.Core.List.Memᴰ.head refl)) (T_true _ (eqb_refl j)) in
        rw e (elim (mathlib.Core.List.Memᴰ.cases_cons m) [
          | inl s ↦ mathlib.Core.List.Memᴰ.append_left _ (rw s at u)
          | inr n ↦ mathlib.Core.List.Memᴰ.append_right (body_comes_to c w d i) (positives_come ps ns (λ b' k. h b' (mathlib.Core.List.Memᴰ.tail k)) b n u)
        ])

    rule_comes : (n : ℕ) (ps ns : List Body) → ((b : Body) → Memᴰ b ps → run c w b i ≡ End j)
        → (b : Body) → Memᴰ b ps → Memᴰ y (body_comes_to c w b i) → Memᴰ y (rule_comes_to c w n ps ns i)
    unfolding rule_comes_to
    rule_comes n [] ns h b m u = absurd (mathlib.Core.List.Memᴰ.not-nil m)
    rule_comes n (d ∷ ps) ns h b m u =
        rw (h d (mathlib.Core.List.Memᴰ.head refl)) (elim (mathlib.Core.List.Memᴰ.cases_cons m) [
          | inl s ↦ mathlib.Core.List.Memᴰ.append_left _ (rw s at u)
          | inr k ↦ mathlib.Core.List.Memᴰ.append_right (body_comes_to c w d i) (positives_come ps ns (λ b' l. h b' (mathlib.Core.List.Memᴰ.tail l)) b k u)
        ])

module _ (G : Grammar) (k : ℕ) (w : List ℕ) where
  -- every call of a body that was read has been found
  pub comes_found : (b : Body) (i j : ℕ) → Reads G k w j b i → (y : Call) → Memᴰ y (body_comes_to (outcomes G k w) w b i)
      → (m : ℕ) × Found G k w y.nonterminal y.place m
  unfolding body_comes_to
  comes_found [] i j h y n = absurd (mathlib.Core.List.Memᴰ.not-nil n)
  comes_found (Terminal a ∷ b) i j h y n =
      comes_found b (suc i) j h.2 y (rw (comes_token (outcomes G k w) w a b i h.0 h.1) at n)
  comes_found (Nonterminal A ∷ b) i j h y n =
      let n' : Memᴰ y (call_at A i ∷ body_comes_to (outcomes G k w) w b h.0) = rw (comes_name (outcomes G k w) w A b i h.0 h.1.ends) at n in
      elim (mathlib.Core.List.Memᴰ.cases_cons n') [
        | inl e ↦ (h.0, rw e h.1)
        | inr u ↦ comes_found b h.0 j h.2 y u
      ]

  module _ (p : Predictive G k) (over : Over G.terminals w) (v : Valuation) (solves : Solves G w v) where
    module _ (A i j : ℕ) (f : Chosen G k w p over v solves A i j) where
      pub below_chosen : below G (table_choice G k w) w (call_at A i) ≡ flat_map (λ b. body_comes_to (outcomes G k w) w b i) f.rule.positives
      unfolding below rule_calls select
      below_chosen = rw (f.looked, f.numbered) refl

      -- below it are the calls of its positive conjuncts
      pub below_elim : (y : Call) → Memᴰ y (below G (table_choice G k w) w (call_at A i))
          → (b : Body) × Memᴰ b f.rule.positives × Memᴰ y (body_comes_to (outcomes G k w) w b i)
      below_elim y m = flat_map_elim (λ b. body_comes_to (outcomes G k w) w b i) f.rule.positives y (rw below_chosen at m)

      pub below_make : (b : Body) → Memᴰ b f.rule.positives → (y : Call) → Memᴰ y (body_comes_to (outcomes G k w) w b i)
          → Memᴰ y (below G (table_choice G k w) w (call_at A i))
      below_make b n y m = rw below_chosen (flat_map_make (λ b. body_comes_to (outcomes G k w) w b i) f.rule.positives b y n m)

      pub below_found : (y : Call) → Memᴰ y (below G (table_choice G k w) w (call_at A i)) → (m : ℕ) × Found G k w y.nonterminal y.place m
      below_found y m = let s = below_elim y m in comes_found s.0 i j (f.read s.0 s.1) y s.2

      pub below_comes : (y : Call) → Memᴰ y (below G (table_choice G k w) w (call_at A i)) → Memᴰ y (call_comes_to G (table_choice G k w) w (call_at A i))
      unfolding call_comes_to selected_comes_to select
      below_comes y m =
          let s = below_elim y m in
          rw (f.looked, f.numbered)
          (rule_comes (outcomes G k w) w i j y (length w) f.rule.positives f.rule.negatives f.positive s.0 s.1 s.2)

    -- below a call that ends are calls that end, of a lower measure
    pub below_falls : (x : Call) → (j : ℕ) → Found G k w x.nonterminal x.place j → (y : Call) → Memᴰ y (below G (table_choice G k w) w x)
        → Memᴰ y (call_comes_to G (table_choice G k w) w x) × ((m : ℕ) × Found G k w y.nonterminal y.place m) × (measure G w y < measure G w x)
    below_falls x j f y m =
        let c = chosen G k w p over v solves x.nonterminal x.place j f in
        let u = below_comes x.nonterminal x.place j c y m in
        let r : InRange G w x = (f.named, omega (arith, f.onward, f.within)) in (
          u,
          below_found x.nonterminal x.place j c y m,
          (measure_falls G (table_choice G k w) w p.scoped (theorems.own_rules G k w) p.unrecursive x r y u).1,
        )
