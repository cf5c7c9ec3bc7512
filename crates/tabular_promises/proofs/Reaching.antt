-- A symbol in front of a body, at a span's end: the set of places from which the body leads there.
use mathlib.Core.Path.{◌≡◌, refl, sym, ◌∙◌}
use mathlib.Core.Bool.{Bool, true, false, ◌&&◌, ◌||◌, or_comm, and-true, and-false}
use mathlib.Core.List.{List, [], ◌∷◌}
use Prim.Native.Nat.{ℕ, zero, suc, ◌+◌, ◌-◌, ◌/◌, ◌^◌, ◌≤◌, ◌<◌}
use native.Mathlib.Numerals.{add-one}
use native.Mathlib.Omega.{arith}
use lib.Bits.{bit_and, bit_or}
use lib.Dec.{T, leb, ltb, eqb, leb→le, ltb→lt, eqb→eq}
use lib.ListN.{length, get_or}
use borrow.Author.Tests.{lt-ltb, le-ltb, le-leb}
use Rattle.base.specs.Choice.{choose}
use Rattle.base.specs.Quantifiers.{any_below}
use Rattle.base.proofs.Booleans.{and_l, true_T}
use Rattle.base.proofs.Quantified.{below_cong, below_elim}
use Rattle.word.specs.declared.Symbol.TheVariants.{Terminal, Nonterminal}
use Rattle.grammar.specs.Limits.{max_nonterminals, max_terminals, max_tabular_places}
use Rattle.grammar.specs.Syntax.{Body}
use Rattle.lookahead.specs.Elements.{has}
use Rattle.lookahead.proofs.Elements.{has_or, has_and, has_suc, has_zero}
use Rattle.lookahead.proofs.Powers.{has_pow}
use Rattle.semantics.specs.Valuations.{Valuation, contains}
use Rattle.tabular_promises.specs.inner.Places.{has_place}
use Rattle.tabular_promises.specs.inner.Chart.{slot, charted, gathered, places_before, Before, Span}
use Rattle.tabular_promises.specs.inner.Scanning.{Scannable, Reads}
use Rattle.tabular_promises.proofs.PlaceSets.{has_place_lem}

below_none : (n : ℕ) (p : ℕ → Bool) → ((m : ℕ) → m < n → p m ≡ false) → any_below n p ≡ false
unfolding any_below
below_none zero p h = refl
below_none (suc n) p h = rw (h n (omega arith)) (below_none n p (λ m l. h m (omega arith)))

lt_leb : (k m : ℕ) (b : Bool) → m < k → (leb k m && b) ≡ false
lt_leb k m b l = go (leb k m) refl
  where
    go : (t : Bool) → leb k m ≡ t → (t && b) ≡ false
    go true e = absurd (omega (arith, leb→le k m (true_T (leb k m) e)))
    go false e = refl

-- which m lead from k to a place of the set
abbrev leads : List ℕ → ℕ → ℕ → ℕ → ℕ → ℕ → Bool
leads chart A set start k m = leb start m && (charted chart A k m && has set m)

-- the places from the start on, up to `at`, have been gone through
record Reached (chart : List ℕ) (A set start end found at : ℕ) : Type 0 where
  pub low : start ≤ at
  pub high : at ≤ suc end
  pub member : (k : ℕ) → has found k ≡ any_below at (leads chart A set start k)

-- before the start there are none
reached_start : {chart : List ℕ} {A set start end : ℕ} → start ≤ end → Reached chart A set start end 0 start
reached_start {chart} {A} {set} {start} {end} h = record {
  low = omega arith;
  high = omega arith;
  member = λ k. has_zero k ∙ sym (below_none start (leads chart A set start k) (λ m l. lt_leb start m (charted chart A k m && has set m) l));
}

-- one place more
reached_more : {chart : List ℕ} {A set start end found at r x : ℕ} {t : Bool} → Reached chart A set start end found at → at ≤ end
    → t ≡ has set at → x ≡ get_or chart (slot A at) 0 → r ≡ choose t (bit_or found x) found → Reached chart A set start end r (at + 1)
unfolding charted any_below
reached_more {chart} {A} {set} {start} {end} {found} {at} {r} {x} {t} h l s c e = record {
  low = omega (arith, h.low);
  high = omega arith;
  member = λ k. rw (add-one, e, s, c) (go k (has set at) refl);
}
  where
    go : (k : ℕ) (b : Bool) → has set at ≡ b → has (choose b (bit_or found (get_or chart (slot A at) 0)) found) k
        ≡ (leads chart A set start k at || any_below at (leads chart A set start k))
    go k true f =
        has_or found (get_or chart (slot A at) 0) k ∙ or_comm (has found k) (charted chart A k at)
        ∙ rw (f, h.member k, le-leb start at h.low, and-true (charted chart A k at))
    go k false f = rw (f, and-false (charted chart A k at), and-false (leb start at)) (h.member k)

reached_end : {chart : List ℕ} {A set start end found at : ℕ} → Reached chart A set start end found at → end < at → Before chart A set start end found
reached_end {chart} {A} {set} {start} {end} {found} {at} h l =
    let e : at ≡ suc end = omega (arith, h.high) in record { member = λ k. rw e at (h.member k) }

-- what the code gathers has been gone through
gathered_reached : (chart : List ℕ) (A set start end n : ℕ) → Span start end → start + n ≤ suc end
    → Reached chart A set start end (gathered chart A set start n) (start + n)
unfolding gathered
gathered_reached chart A set start end zero s h = let e : start + 0 ≡ start = omega arith in rw e (reached_start s.forward)
gathered_reached chart A set start end (suc n) s h =
    let e : start + suc n ≡ start + n + 1 = omega arith in
    rw e (reached_more (gathered_reached chart A set start end n s (omega arith)) (omega arith)
    (has_place_lem set (start + n) (omega (arith, s.short))) refl refl)

pub places_before_lem : (chart : List ℕ) (A set start end : ℕ) → A < max_nonterminals → Span start end
    → Before chart A set start end (places_before chart A set start end)
unfolding places_before
places_before_lem chart A set start end a s =
    let n : start + (suc end - start) ≡ suc end = omega (arith, s.forward) in
    rw (lt-ltb A max_nonterminals a, lt-ltb end max_tabular_places s.short)
    (reached_end (gathered_reached chart A set start end (suc end - start) s (omega arith)) (omega arith))

-- the same, step by step
pub gathered_start : (chart : List ℕ) (A set start : ℕ) → 0 ≡ gathered chart A set start (start - start)
unfolding gathered
gathered_start chart A set start = let e : start - start ≡ 0 = omega arith in rw e

pub gathered_more : (chart : List ℕ) (A set start at found r x : ℕ) (t : Bool) → start ≤ at → found ≡ gathered chart A set start (at - start)
    → t ≡ has_place set at → x ≡ get_or chart (slot A at) 0 → r ≡ choose t (bit_or found x) found → r ≡ gathered chart A set start (at + 1 - start)
unfolding gathered
gathered_more chart A set start at found r x t h f e c g =
    let n : at + 1 - start ≡ suc (at - start) = omega arith in
    let m : start + (at - start) ≡ at = omega arith in
    rw (n, m) (g ∙ rw (f, e, c))

pub none_before : (chart : List ℕ) (A set start end : ℕ) → max_nonterminals ≤ A → 0 ≡ places_before chart A set start end
unfolding places_before
none_before chart A set start end h = rw (le-ltb A max_nonterminals h)

module _ (chart : List ℕ) (A set start end : ℕ) (a : A < max_nonterminals) where
  pub none_beyond : max_tabular_places ≤ end → 0 ≡ places_before chart A set start end
  unfolding places_before
  none_beyond h = rw (lt-ltb A max_nonterminals a, le-ltb end max_tabular_places h)

  pub all_before : (at : ℕ) {found : ℕ} → end < max_tabular_places → found ≡ gathered chart A set start (at - start) → at - start ≡ suc end - start
      → found ≡ places_before chart A set start end
  unfolding places_before
  all_before at h f e = rw (lt-ltb A max_nonterminals a, lt-ltb end max_tabular_places h, ← e) f

-- a body leads only onward
contains_le : (v : Valuation) (w : List ℕ) (b : Body) (k j : ℕ) → T (contains v w b k j) → k ≤ j
unfolding contains
contains_le v w [] k j t = omega (arith, eqb→eq k j t)
contains_le v w (Terminal a ∷ b) k j t = omega (arith, ltb→lt k j (and_l (ltb k j) _ t))
contains_le v w (Nonterminal A ∷ b) k j t =
    let r = below_elim (suc j) _ t in
    omega (arith, r.1, leb→le k r.0 (and_l (leb k r.0) _ r.2))

-- no symbol is left
pub nothing_reads : (v : Valuation) (w : List ℕ) (start end : ℕ) {set : ℕ} → set ≡ 2 ^ end → Reads v w [] start end set
unfolding contains
nothing_reads v w start end e k h = rw e (has_pow end k)

module _ {w stands chart : List ℕ} {end : ℕ} (o : Scannable w stands chart end) where
  pub terminal_reads : (a : ℕ) (b : Body) (set start r : ℕ) → r ≡ bit_and (set / 2) (get_or stands a 0) → a < max_terminals
      → Reads (charted chart) w b start end set → Reads (charted chart) w (Terminal a ∷ b) start end r
  unfolding contains
  terminal_reads a b set start r e l h k s =
      rw e (has_and (set / 2) (get_or stands a 0) k
      ∙ rw (← has_suc set k, h (suc k) (omega arith), o.standing.at a k l) (go (contains (charted chart) w b (suc k) end) refl))
    where
      go : (c : Bool) → contains (charted chart) w b (suc k) end ≡ c
          → (c && (ltb k (length w) && eqb (get_or w k 0) a)) ≡ (ltb k end && (eqb (get_or w k 0) a && c))
      go true d =
          let n = contains_le (charted chart) w b (suc k) end (true_T (contains (charted chart) w b (suc k) end) d) in
          rw (lt-ltb k (length w) (omega (arith, o.reaches)), lt-ltb k end (omega arith)) (sym (and-true (eqb (get_or w k 0) a)))
      go false d = rw (and-false (eqb (get_or w k 0) a)) (sym (and-false (ltb k end)))

  pub nonterminal_reads : (A : ℕ) (b : Body) (set start r : ℕ) → A < max_nonterminals → Span start end → Before chart A set start end r
      → Reads (charted chart) w b start end set → Reads (charted chart) w (Nonterminal A ∷ b) start end r
  unfolding contains
  nonterminal_reads A b set start r a n g h k s = g.member k ∙ below_cong (suc end) _ _ (λ m l. go m l (charted chart A k m) refl)
    where
      go : (m : ℕ) → m < suc end → (c : Bool) → charted chart A k m ≡ c
          → (leb start m && (c && has set m)) ≡ (leb k m && (c && contains (charted chart) w b m end))
      go m l true e =
          let km = o.forward A k m a (omega (arith, n.short)) (true_T (charted chart A k m) e) in
          rw (le-leb start m (omega arith), le-leb k m km) (h m (omega arith))
      go m l false e = rw (and-false (leb start m)) (sym (and-false (leb k m)))
