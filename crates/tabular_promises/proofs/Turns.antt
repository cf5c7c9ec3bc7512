-- The chart filled turn by turn: each asks only for what earlier ones have filled in.
use mathlib.Core.Path.{◌≡◌, sym, ◌∙◌}
use mathlib.Core.Bool.{false, ◌||◌, or-false}
use mathlib.Core.List.{List}
use mathlib.Core.Logic.{◌⊎◌, inl, inr}
use Prim.Native.Nat.{ℕ, suc, ◌+◌, ◌-◌, ◌≤◌, ◌<◌}
use native.Mathlib.Decide.{ℕ_discrete, dec_lt}
use native.Mathlib.Omega.{arith}
use lib.Dec.{T, eqb, eqb→eq}
use lib.ListN.{length, replicate}
use borrow.Author.Tests.{eq-eqb, ne_eqb}
use Rattle.base.proofs.Booleans.{and_l, or_cases, T_none}
use Rattle.grammar.specs.Limits.{max_nonterminals, max_tabular_tokens, max_tabular_places}
use Rattle.grammar.specs.Syntax.{Grammar, WellScoped}
use Rattle.grammar.specs.Encoding.{grammar_of}
use Rattle.grammar.specs.declared.reading.Sizes.{Sizes}
use Rattle.grammar.proofs.WellRead.{well_read}
use Rattle.lookahead.specs.Elements.{has}
use Rattle.lookahead.proofs.Elements.{has_zero}
use Rattle.semantics.specs.Valuations.{solution}
use Rattle.semantics.specs.LeftRecursion.{rank, level}
use Rattle.semantics.specs.Theorems.{AgreeBelow}
use Rattle.semantics.proofs.meaning.Rank.{rank_below}
use Rattle.semantics.proofs.meaning.Unique.{rules_lower, solution_solves, solution_null}
use Rattle.base.proofs.Lists.{get_d_zeros}
use Rattle.tabular_promises.specs.inner.Places.{Standing}
use Rattle.tabular_promises.specs.inner.Chart.{charted, Long, Span, Added}
use Rattle.tabular_promises.specs.inner.Scanning.{Scannable}
use Rattle.tabular_promises.specs.inner.Filling.{turn, FilledTo, Fills, SpanDerived, FillingGiven, SettleGiven, LengthGiven, Filled}

-- an empty chart is filled up to the first turn
pub filled_start : (G : Grammar) (w : List ℕ) (n : ℕ) → FilledTo G w 0 (replicate n 0)
unfolding charted
filled_start G w n = record { right = λ A k m a km mw l. absurd (omega arith); only = λ A k m a b t. absurd (rw (get_d_zeros n _, has_zero k) at t) }

-- where no turn lies between two, a chart that is filled up to the one is filled up to the other
filled_up : {G : Grammar} {w : List ℕ} {x y : ℕ} {chart : List ℕ} → FilledTo G w x chart → x ≤ y
    → ((A k m : ℕ) → A < G.nonterminals → k ≤ m → m ≤ length w → turn k m (rank G A) < y → turn k m (rank G A) < x) → FilledTo G w y chart
filled_up f l h = record {
  right = λ A k m a km mw o. f.right A k m a km mw (h A k m a km mw o);
  only = λ A k m a b t. let c = f.only A k m a b t in (c.0, c.1, c.2, omega (arith, c.3));
}

-- a grammar that has been read, without left recursion
module _ {words starts lasts befores chart : List ℕ} {z : Sizes} (g : FillingGiven words starts lasts befores z chart) where
  scoped : WellScoped (grammar_of words)
  scoped = (well_read words z g.rules.read).formed.scoped

  pub counted : z.nonterminals ≡ (grammar_of words).nonterminals
  counted = (well_read words z g.rules.read).nonterminals

  pub few : z.nonterminals ≤ max_nonterminals
  few = (well_read words z g.rules.read).few_nonterminals

  low_rank : (A : ℕ) → A < (grammar_of words).nonterminals → rank (grammar_of words) A < (grammar_of words).nonterminals
  low_rank A a = rank_below (grammar_of words) scoped g.free A a

  -- one rank more at a span
  module _ {chart₁ chart₂ stands : List ℕ} {start end r found : ℕ} (s : Span start end) (l : r < z.nonterminals)
      (d : SpanDerived words r stands chart₁ start end found) (n : Added chart₁ z.nonterminals start end found chart₂)
      (w : List ℕ) (stand : Standing w stands) (reaches : end ≤ length w) (short : length w ≤ max_tabular_tokens)
      (f : FilledTo (grammar_of words) w (turn start end r) chart₁) where
    over : Scannable w stands chart₁ end
    over = record { standing = stand; reaches = reaches; forward = λ A k m a b t. (f.only A k m a b t).1 }

    -- what a nonterminal of the rank asks for has been filled in
    earlier : (A : ℕ) → rank (grammar_of words) A ≡ r → (B k m : ℕ) → B < (grammar_of words).nonterminals → start ≤ k → k ≤ m → m ≤ end
        → level (grammar_of words) (m - k) B < level (grammar_of words) (end - start) A → turn k m (rank (grammar_of words) B) < turn start end r
    unfolding level
    earlier A e B k m b sk km me h = go (dec_lt (m - k) (end - start))
      where
        go : Dec (m - k < end - start) → turn k m (rank (grammar_of words) B) < turn start end r
        go (yes o) = omega (arith, low_rank B b, few, counted, s.short)
        go (no o) =
            let p : k ≡ start = omega arith in
            let q : m ≡ end = omega arith in
            let c : rank (grammar_of words) B < rank (grammar_of words) A = omega (arith, rw (p, q) at h) in
            rw (p, q) (omega arith)

    -- so the rules give its answer
    given : (A : ℕ) → A < (grammar_of words).nonterminals → rank (grammar_of words) A ≡ r → has found A ≡ solution (grammar_of words) w A start end
    given A a e =
        d.member w over A ∙ rw (eq-eqb (rank (grammar_of words) A) r e)
        (rules_lower (grammar_of words) scoped g.free w (charted chart₁) (solution (grammar_of words) w) A start end s.forward agree
        ∙ sym (solution_solves (grammar_of words) scoped g.free w A start end a s.forward reaches))
      where
        agree : AgreeBelow (grammar_of words) (charted chart₁) (solution (grammar_of words) w) A start end
        agree B k m b sk km me h =
            let q = f.right B k m b km (omega arith) (earlier A e B k m b sk km me h) in (
              q,
              λ km' t. solution_null (grammar_of words) scoped g.free w (solution (grammar_of words) w)
                  (solution_solves (grammar_of words) scoped g.free w) B k m b km (omega arith) (rw q at t) km',
            )

    -- nonterminals of other ranks are not told
    untold : (A : ℕ) → (rank (grammar_of words) A ≡ r → ⊥) → has found A ≡ false
    untold A ne = d.member w over A ∙ rw (ne_eqb (rank (grammar_of words) A) r ne)

    told_rank : (A : ℕ) → T (has found A) → rank (grammar_of words) A ≡ r
    told_rank A t = eqb→eq (rank (grammar_of words) A) r (and_l (eqb (rank (grammar_of words) A) r) _ (rw (d.member w over A) at t))

    -- at the span itself
    here_right : (A : ℕ) → A < (grammar_of words).nonterminals → rank (grammar_of words) A < r + 1
        → charted chart₂ A start end ≡ solution (grammar_of words) w A start end
    here_right A a o = n.here A (omega (arith, counted)) ∙ go (ℕ_discrete (rank (grammar_of words) A) r)
      where
        unfilled : rank (grammar_of words) A ≡ r → charted chart₁ A start end ≡ false
        unfilled e = T_none (charted chart₁ A start end) (λ t. omega (arith, (f.only A start end (omega (arith, few, counted)) s.short t).3))

        go : Dec (rank (grammar_of words) A ≡ r) → (charted chart₁ A start end || has found A) ≡ solution (grammar_of words) w A start end
        go (yes e) = rw (unfilled e) (given A a e)
        go (no e) = rw (untold A e, or-false) (f.right A start end a s.forward reaches (omega arith))

    -- elsewhere the turn has not come in between
    elsewhere : (k m ρ : ℕ) → k ≤ m → m ≤ length w → ρ < max_nonterminals → (k ≡ start → m ≡ end → ⊥) → turn k m ρ < turn start end (r + 1)
        → turn k m ρ < turn start end r
    elsewhere k m ρ km mw b ne h = elim (dec_lt (turn k m ρ) (turn start end r)) [
      | yes o ↦ o
      | no o ↦ absurd (ne (omega (arith, s.short, s.forward, few, counted)) (omega (arith, s.short, s.forward, few, counted)))
    ]

    pub filled_rank : FilledTo (grammar_of words) w (turn start end (r + 1)) chart₂
    filled_rank = record {
      right = λ A k m a km mw o. right A k m a km mw o (ℕ_discrete k start) (ℕ_discrete m end);
      only = λ A k m a b t. only A k m a b t (dec_lt A z.nonterminals) (ℕ_discrete k start) (ℕ_discrete m end);
    }
      where
        small : (A : ℕ) → A < (grammar_of words).nonterminals → rank (grammar_of words) A < max_nonterminals
        small A a = omega (arith, low_rank A a, few, counted)

        low : (A : ℕ) → A < (grammar_of words).nonterminals → A < max_nonterminals
        low A a = omega (arith, few, counted)

        apart : (A k m : ℕ) → A < (grammar_of words).nonterminals → k ≤ m → m ≤ length w → (k ≡ start → m ≡ end → ⊥)
            → turn k m (rank (grammar_of words) A) < turn start end (r + 1) → charted chart₂ A k m ≡ solution (grammar_of words) w A k m
        apart A k m a km mw ne o =
            n.others A k m (low A a) (omega arith) (λ _ p q. ne p q)
            ∙ f.right A k m a km mw (elsewhere k m (rank (grammar_of words) A) km mw (small A a) ne o)

        right : (A k m : ℕ) → A < (grammar_of words).nonterminals → k ≤ m → m ≤ length w → turn k m (rank (grammar_of words) A) < turn start end (r + 1)
            → Dec (k ≡ start) → Dec (m ≡ end) → charted chart₂ A k m ≡ solution (grammar_of words) w A k m
        right A k m a km mw o (yes p) (yes q) = let h = rw (p, q) at o in rw (p, q) (here_right A a (omega arith))
        right A k m a km mw o (yes p) (no q) = apart A k m a km mw (λ _ e. q e) o
        right A k m a km mw o (no p) q = apart A k m a km mw (λ e _. p e) o

        later : (A k m : ℕ) → A < max_nonterminals → m < max_tabular_places → T (charted chart₁ A k m)
            → (A < (grammar_of words).nonterminals) × (k ≤ m) × (m ≤ length w) × (turn k m (rank (grammar_of words) A) < turn start end (r + 1))
        later A k m a b t = let c = f.only A k m a b t in (c.0, c.1, c.2, omega (arith, c.3))

        only : (A k m : ℕ) → A < max_nonterminals → m < max_tabular_places → T (charted chart₂ A k m) → Dec (A < z.nonterminals) → Dec (k ≡ start)
            → Dec (m ≡ end)
            → (A < (grammar_of words).nonterminals) × (k ≤ m) × (m ≤ length w) × (turn k m (rank (grammar_of words) A) < turn start end (r + 1))
        only A k m a b t (yes i) (yes p) (yes q) = rw (p, q) (go (or_cases (charted chart₁ A start end) (has found A) (rw (p, q, n.here A i) at t)))
          where
            go : T (charted chart₁ A start end) ⊎ T (has found A)
                → (A < (grammar_of words).nonterminals) × (start ≤ end) × (end ≤ length w)
                × (turn start end (rank (grammar_of words) A) < turn start end (r + 1))
            go (inl c) = later A start end a s.short c
            go (inr c) = (omega (arith, counted), s.forward, reaches, omega (arith, told_rank A c))
        only A k m a b t (yes i) (yes p) (no q) = later A k m a b (rw (n.others A k m a b (λ _ _ e. q e)) at t)
        only A k m a b t (yes i) (no p) q = later A k m a b (rw (n.others A k m a b (λ _ e _. p e)) at t)
        only A k m a b t (no i) p q = later A k m a b (rw (n.others A k m a b (λ e _ _. i e)) at t)

-- the ranks of a span one by one
pub settling_start : {words stands chart : List ℕ} {low high x : ℕ} → Long chart → Fills words stands chart low high x x chart
settling_start l = record { long = l; filled = λ w s b c f. f }

pub settling_more : {words starts lasts befores stands before chart chart' : List ℕ} {z : Sizes} {start end r found : ℕ}
    → SettleGiven words starts lasts befores z before start end
    → r < z.nonterminals → Fills words stands before end max_tabular_tokens (turn start end 0) (turn start end r) chart
    → SpanDerived words r stands chart start end found → Added chart z.nonterminals start end found chart'
    → Fills words stands before end max_tabular_tokens (turn start end 0) (turn start end (r + 1)) chart'
settling_more g l f d n =
    record { long = n.long; filled = λ w s b c h. filled_rank g.given g.span l d n w s b c (f.filled w s b c h) }

pub settled : {words starts lasts befores stands before chart : List ℕ} {z : Sizes} {start end r : ℕ}
    → SettleGiven words starts lasts befores z before start end
    → r ≤ z.nonterminals → z.nonterminals ≤ r → Fills words stands before end max_tabular_tokens (turn start end 0) (turn start end r) chart
    → Fills words stands before end max_tabular_tokens (turn start end 0) (turn (start + 1) (end + 1) 0) chart
settled {start = start} {end = end} {r = r} g l o f = record {
  long = f.long;
  filled = λ w s b c h. filled_up (f.filled w s b c h) (omega (arith, few g.given))
      (λ A k m a km mw t. omega (arith, low_rank g.given A a, few g.given, counted g.given));
}

pub length_end : (start d : ℕ) {words starts lasts befores stands before chart : List ℕ} {z : Sizes} {tokens : ℕ}
    → LengthGiven words starts lasts befores z before tokens d
    → tokens < start + d → start ≤ suc tokens → Fills words stands before tokens tokens (turn 0 d 0) (turn start (start + d) 0) chart
    → Fills words stands before tokens tokens (turn 0 d 0) (turn 0 (d + 1) 0) chart
length_end start d g l u f = record {
  long = f.long;
  filled = λ w s b c k. filled_up (f.filled w s b c k) (omega (arith, g.short, g.within))
      (λ A k m a km mw t. omega (arith, g.short, low_rank g.given A a, few g.given, counted g.given));
}

-- all lengths
pub filled : {words starts lasts befores chart w : List ℕ} {z : Sizes} {d : ℕ} → FillingGiven words starts lasts befores z chart
    → length w < d → length w ≤ max_tabular_tokens
    → FilledTo (grammar_of words) w (turn 0 d 0) chart → Filled words w chart
filled g l s f = record { right = λ A k m a km mw. f.right A k m a km mw (omega (arith, low_rank g A a, few g, counted g)) }
