-- What the running of a call's rule reaches is in range and of a lower measure: fewer tokens left, or as many and a lower rank.
use mathlib.Core.Bool.{Bool, true, false, ◌&&◌}
use mathlib.Core.List.Memᴰ
use mathlib.Core.List.{List, [], ◌∷◌, ◌++◌, Memᴰ}
use mathlib.Core.Logic.{inl, inr}
use mathlib.Core.Option.{Option, none, some}
use mathlib.Core.Path.{◌≡◌, refl}
use Prim.Native.Nat.{ℕ, suc, ◌≤◌, ◌<◌}
use native.Mathlib.Omega.{arith}
use lib.Dec.{T, ltb, eqb, ltb→lt, eqb_refl}
use lib.ListN.{length, get_or}
use Rattle.word.specs.declared.Symbol.TheVariants.{Terminal, Nonterminal}
use Rattle.grammar.specs.Syntax.{Body, Rule, Grammar, bodies, NonterminalsBelow, WellScoped}
use Rattle.semantics.specs.LeftRecursion.{nullable, LeftIn, here, there, LeftDepends, NoLeftRecursion, rank}
use Rattle.semantics.specs.Choices.{Choice}
use Rattle.semantics.specs.inner.Choices.{OwnRules}
use Rattle.semantics.specs.Descent.{Outcome, Failed, End, ends_at, guard, Outcomes, read, run, select, descend}
use Rattle.semantics.specs.ComesTo.{Call, InRange, from_end, when, body_comes_to, negatives_come_to, positives_come_to, rule_comes_to}
use Rattle.semantics.specs.inner.ComesTo.{measure}
use Rattle.semantics.specs.ComesTo.{selected_comes_to, call_comes_to}
use Rattle.base.proofs.Booleans.{and_l}
use Rattle.semantics.proofs.meaning.Rank.{rank_falls, level_onward}
use Rattle.semantics.proofs.descent.Outcomes.{guard_elim}
use Rattle.semantics.proofs.descent.Ends.{Forward, EmptyNull, selected, descend_forward, descend_null}

from_end_elim : (o : Outcome) (f : ℕ → List Call) (x : Call) → Memᴰ x (from_end o f) → (m : ℕ) × T (ends_at o m) × Memᴰ x (f m)
from_end_elim Failed f x m = absurd (Memᴰ.not-nil m)
from_end_elim (End j) f x m = (j, eqb_refl j, m)

when_elim : (b : Bool) (l : List Call) (x : Call) → Memᴰ x (when b l) → Memᴰ x l
unfolding when
when_elim true l x m = m
when_elim false l x m = absurd (Memᴰ.not-nil m)

-- a rule reaches what its bodies reach
module _ (c : Outcomes) (w : List ℕ) (i : ℕ) (Q : Call → Type 0) where
  abbrev Bodies : List Body → Type 0
  Bodies l = (b : Body) → Memᴰ b l → (x : Call) → Memᴰ x (body_comes_to c w b i) → Q x

  negatives_in : (e : ℕ) (ns : List Body) → Bodies ns → (x : Call) → Memᴰ x (negatives_come_to c w i e ns) → Q x
  unfolding negatives_come_to
  negatives_in e [] h x m = absurd (Memᴰ.not-nil m)
  negatives_in e (b ∷ ns) h x m = elim (Memᴰ.append_cases (body_comes_to c w b i) m) [
    | inl n ↦ h b (Memᴰ.head refl) x n
    | inr n ↦ negatives_in e ns (λ b' k. h b' (Memᴰ.tail k)) x (when_elim _ _ x n)
  ]

  positives_in : (e : ℕ) (ps ns : List Body) → Bodies (ps ++ ns) → (x : Call) → Memᴰ x (positives_come_to c w i e ps ns) → Q x
  unfolding positives_come_to
  positives_in e [] ns h x m = negatives_in e ns h x m
  positives_in e (b ∷ ps) ns h x m = elim (Memᴰ.append_cases (body_comes_to c w b i) m) [
    | inl n ↦ h b (Memᴰ.head refl) x n
    | inr n ↦ positives_in e ps ns (λ b' k. h b' (Memᴰ.tail k)) x (when_elim _ _ x n)
  ]

  rule_in : (n : ℕ) (ps ns : List Body) → Bodies (ps ++ ns) → (x : Call) → Memᴰ x (rule_comes_to c w n ps ns i) → Q x
  unfolding rule_comes_to
  rule_in n [] ns h x m = negatives_in n ns h x m
  rule_in n (b ∷ ps) ns h x m = elim (Memᴰ.append_cases (body_comes_to c w b i) m) [
    | inl k ↦ h b (Memᴰ.head refl) x k
    | inr k ↦
        let s = from_end_elim (run c w b i) (λ e. positives_come_to c w i e ps ns) x k in
        positives_in s.0 ps ns (λ b' l. h b' (Memᴰ.tail l)) x s.2
  ]

  chosen_in : (o : Option Rule) → ((r : Rule) → o ≡ some r → Bodies (bodies r)) → (x : Call) → Memᴰ x (selected_comes_to c w o i) → Q x
  unfolding selected_comes_to
  chosen_in none h x m = absurd (Memᴰ.not-nil m)
  chosen_in (some r) h x m = rule_in (length w) r.positives r.negatives (h r refl) x m

module _ (G : Grammar) (w : List ℕ) (c : Outcomes) (forward : Forward w c) (empty : EmptyNull G w c) (B start : ℕ) where
  abbrev Low : Call → Type 0
  Low x = InRange G w x × (start ≤ x.place) × (x.place ≡ start → LeftDepends G B x.nonterminal)

  body_low : (b : Body) (i : ℕ) → start ≤ i → i ≤ length w → NonterminalsBelow G.nonterminals b
      → (i ≡ start → (A : ℕ) → LeftIn (nullable G) A b → LeftDepends G B A)
      → (x : Call) → Memᴰ x (body_comes_to c w b i) → Low x
  unfolding body_comes_to read
  body_low [] i si iw scoped front x m = absurd (Memᴰ.not-nil m)
  body_low (Terminal a ∷ b) i si iw scoped front x m =
      let s = from_end_elim (guard (ltb i (length w) && eqb (get_or w i 0) a) (suc i)) (λ m. body_comes_to c w b m) x m in
      let g = guard_elim (ltb i (length w) && eqb (get_or w i 0) a) (suc i) s.0 s.1 in
      let l : i < length w = ltb→lt i (length w) (and_l (ltb i (length w)) _ g.0) in
      let e : suc i ≡ s.0 = g.1 in
      body_low b s.0 (omega arith) (omega arith) scoped (λ d. absurd (omega arith)) x s.2
  body_low (Nonterminal A ∷ b) i si iw scoped front x m = elim (Memᴰ.cases_cons m) [
    | inl e ↦ rw e ((scoped.0, iw), si, λ d. front d A here)
    | inr n ↦
        let s = from_end_elim (c A i) (λ m. body_comes_to c w b m) x n in
        let p : (i ≤ s.0) × (s.0 ≤ length w) = forward A i s.0 iw s.1 in
        body_low b s.0 (omega arith) (omega arith) scoped.1 (λ e C l. front (omega arith) C (there (empty A i s.0 iw (omega arith) s.1) l)) x s.2
  ]

module _ (G : Grammar) (choice : Choice) (w : List ℕ) (scoped : WellScoped G) (own : OwnRules G choice) where
  -- each call that a call's rule reaches is in range, and lies farther on, or at the same place at the left of one of its bodies
  comes_onward : (x : Call) → InRange G w x → (y : Call) → Memᴰ y (call_comes_to G choice w x)
      → InRange G w y × (x.place ≤ y.place) × (y.place ≡ x.place → LeftDepends G x.nonterminal y.nonterminal)
  unfolding call_comes_to
  comes_onward x h y m =
      let c : Outcomes = descend G choice w in
      let forward = descend_forward G choice w own in
      let null = descend_null G choice w own scoped in
      chosen_in c w x.place (Low G w c forward null x.nonterminal x.place) (select G (choice x.nonterminal x.place))
      (λ r e b n.
      let s = selected G choice w own x.nonterminal x.place r e in
      body_low G w c forward null x.nonterminal x.place b x.place (omega arith) h.1 (scoped.nonterminals r s.0 b n)
      (λ _ A z. record { rule = r; body = b; listed = s.0; heads = s.1; held = n; left = z })) y m

  module _ (free : NoLeftRecursion G) where
    -- the tokens left fall from a call to one that it makes, or else the rank does
    pub tokens_then_rank : (x : Call) → InRange G w x → (y : Call) → Memᴰ y (call_comes_to G choice w x)
        → InRange G w y × (x.place ≤ y.place) × (y.place ≡ x.place → rank G y.nonterminal < rank G x.nonterminal)
    tokens_then_rank x h y m =
        let l = comes_onward x h y m in
        (l.0, l.1, λ e. rank_falls G scoped free x.nonterminal y.nonterminal (l.2 e))

    -- and so the measure falls
    pub measure_falls : (x : Call) → InRange G w x → (y : Call) → Memᴰ y (call_comes_to G choice w x)
        → InRange G w y × (measure G w y < measure G w x)
    unfolding measure
    measure_falls x h y m =
        let l = comes_onward x h y m in
        (l.0, level_onward G scoped free x.nonterminal y.nonterminal (length w) x.place y.place l.0.0 l.1 l.0.1 l.2)
