-- The chart: a span's word read off it and put into it.
use mathlib.Core.Path.{◌≡◌, refl, sym, ap, ◌∙◌}
use mathlib.Core.Bool.{Bool, true, false, ◌&&◌, ◌||◌, or-false}
use mathlib.Core.List.{List}
use mathlib.Core.Logic.{◌⊎◌, inl, inr}
use Prim.Native.Nat.{ℕ, zero, suc, ◌+◌, ◌-◌, ◌*◌, ◌/◌, ◌%◌, ◌^◌, ◌≤◌, ◌<◌}
use native.Mathlib.Decide.{ℕ_discrete}
use native.Mathlib.Nat.{div-one}
use native.Mathlib.Numerals.{add-one}
use native.Mathlib.Omega.{arith}
use lib.Bits.{bit_or, or_shifted_r}
use lib.Count.{count_trailing_zeros, under}
use lib.Dec.{leb, ltb}
use lib.ListN.{length, get_or, set, length-set}
use lib.Seq.{get_or-set_same, get_or-set_other, set-get_or}
use borrow.Author.Tests.{eq-eqb, ne_eqb, lt-ltb, le-ltb, le-leb, lt-leb}
use Rattle.base.specs.Choice.{choose}
use Rattle.grammar.specs.Limits.{max_nonterminals, max_tabular_places}
use Rattle.lookahead.specs.Elements.{weight, has, total_weight}
use Rattle.lookahead.proofs.Elements.{has_shift, has_zero, has_suc}
use Rattle.lookahead.proofs.Weights.{total_bound}
use Rattle.tabular_promises.specs.inner.Places.{has_place, with_place, PlacePut}
use Rattle.tabular_promises.specs.inner.Chart.{slot, charted, Long, one_nonterminal, with_nonterminal, WordGiven, chart_word_at, found_word}
use Rattle.tabular_promises.specs.inner.Chart.{span_word, Added, AddGiven, added_to, added_word}
use Rattle.tabular_promises.proofs.PlaceSets.{has_place_lem, with_place_lem}
use Rattle.tabular_promises.proofs.Writing.{total_cong}

-- one weight more
total_more : (p : ℕ → Bool) (k word r : ℕ) (t : Bool) → word ≡ total_weight k p → t ≡ p k → r ≡ choose t (bit_or word (2 ^ k)) word → r ≡ total_weight (k + 1) p
unfolding total_weight
total_more p k word r t h e f = rw (f, h, e, add-one) (go (p k) refl)
  where
    go : (b : Bool) → p k ≡ b → choose b (bit_or (total_weight k p) (2 ^ k)) (total_weight k p) ≡ total_weight (suc k) p
    go true d =
        let one : 1 * 2 ^ k ≡ 2 ^ k = omega arith in
        rw d (ap (bit_or (total_weight k p)) (sym one) ∙ or_shifted_r 1 k (total_weight k p) (total_bound k p))
    go false d = rw d (omega arith)

-- a nonterminal of a grammar
pub one_nonterminal_lem : (A : ℕ) → A < max_nonterminals → one_nonterminal A ≡ 2 ^ A
unfolding one_nonterminal
one_nonterminal_lem A h = rw (lt-ltb A max_nonterminals h)

pub with_nonterminal_lem : (found A : ℕ) (there : Bool) {r : ℕ} → A < max_nonterminals → r ≡ with_nonterminal found A there
    → r ≡ choose there (bit_or found (weight A)) found
unfolding with_nonterminal
with_nonterminal_lem found A there h e = e ∙ ap (λ (n : ℕ). choose there (bit_or found n) found) (one_nonterminal_lem A h)

-- one nonterminal more
pub word_start : (chart : List ℕ) (start end : ℕ) → 0 ≡ found_word chart 0 start end
unfolding found_word total_weight
word_start chart start end = refl

pub word_more : (chart : List ℕ) (start end k word r : ℕ) (t : Bool) → k < max_nonterminals → word ≡ found_word chart k start end
    → t ≡ has_place (get_or chart (slot k end) 0) start → r ≡ with_nonterminal word k t → r ≡ found_word chart (k + 1) start end
unfolding found_word
word_more chart start end k word r t l h e f = total_more (λ A. has_place (get_or chart (slot A end) 0) start) k word r t h e
    (with_nonterminal_lem word k t l f)

-- beyond the limits there is none
pub word_of_many : (chart : List ℕ) (N start end : ℕ) → max_nonterminals < N → 0 ≡ span_word chart N start end
unfolding span_word
word_of_many chart N start end h = rw (lt-leb N max_nonterminals h)

module _ (chart : List ℕ) (N start end : ℕ) (few : N ≤ max_nonterminals) where
  pub word_beyond : max_tabular_places ≤ end → 0 ≡ span_word chart N start end
  unfolding span_word
  word_beyond h = rw (le-leb N max_nonterminals few, le-ltb end max_tabular_places h)

  pub word_within : end < max_tabular_places → found_word chart N start end ≡ span_word chart N start end
  unfolding span_word
  word_within h = rw (le-leb N max_nonterminals few, lt-ltb end max_tabular_places h)

-- at a span of the input it is the chart's
pub span_word_lem : (chart : List ℕ) (N start end : ℕ) → WordGiven N start end → span_word chart N start end ≡ chart_word_at chart N start end
unfolding chart_word_at charted found_word
span_word_lem chart N start end g =
    sym (word_within chart N start end g.few g.span.short)
    ∙ total_cong N _ _ (λ A l. has_place_lem (get_or chart (slot A end) 0) start (omega (arith, g.span.forward, g.span.short)))

-- the bits of the nonterminals below i have been put in
added_start : (chart : List ℕ) (start end word : ℕ) → Long chart → Added chart 0 start end word chart
added_start chart start end word n = record { long = n; here = λ A h. absurd (omega arith); others = λ A k m a b d. refl }

added_more : {before chart chart' : List ℕ} {i start end word r : ℕ} {t : Bool} → Added before i start end word chart → i < max_nonterminals
    → end < max_tabular_places → t ≡ has word i → PlacePut (get_or chart (slot i end) 0) start t r → chart' ≡ set chart (slot i end) r
    → Added before (i + 1) start end word chart'
unfolding charted
added_more {before} {chart} {chart'} {i} {start} {end} {word} {r} {t} h o q e g f = record {
  long = rw (f, length-set chart (slot i end) r) h.long;
  here = λ A b. rw f (new A b (ℕ_discrete A i));
  others = λ A k m a b d. rw f (old A k m a b d (ℕ_discrete (slot A m) (slot i end)));
}
  where
    long : slot i end < length chart
    long = omega (arith, h.long)

    was : has (get_or chart (slot i end) 0) start ≡ charted before i start end
    was = h.others i start end o q (λ l _ _. omega arith)

    new : (A : ℕ) → A < i + 1 → Dec (A ≡ i) → has (get_or (set chart (slot i end) r) (slot A end) 0) start ≡ (charted before A start end || has word A)
    new A b (yes d) = rw (d, get_or-set_same chart (slot i end) r 0 long, g.is start, eq-eqb start start refl, was, e)
    new A b (no d) = rw (get_or-set_other chart (slot i end) (slot A end) r 0 (λ z. d (omega arith))) (h.here A (omega arith))

    old : (A k m : ℕ) → A < max_nonterminals → m < max_tabular_places → (A < i + 1 → k ≡ start → m ≡ end → ⊥) → Dec (slot A m ≡ slot i end)
        → has (get_or (set chart (slot i end) r) (slot A m) 0) k ≡ charted before A k m
    old A k m a b d (yes s) =
        let same : m ≡ end = omega arith in
        let low : A < i + 1 = omega arith in
        rw (s, get_or-set_same chart (slot i end) r 0 long, g.is k, ne_eqb k start (λ z. d low z same), or-false)
        (rw s at (h.others A k m a b (λ _ z _. d low z same)))
    old A k m a b d (no s) =
        rw (get_or-set_other chart (slot i end) (slot A m) r 0 s) (h.others A k m a b (λ l y z. d (omega arith) y z))

-- the nonterminals of a word put in one by one
pub adding_more : (chart : List ℕ) (start end word i : ℕ) {l : List ℕ} {r : ℕ} {t : Bool} → l ≡ added_to chart start end word i → t ≡ has word i
    → r ≡ with_place (get_or l (slot i end) 0) start t → set l (slot i end) r ≡ added_to chart start end word (i + 1)
unfolding added_to
adding_more chart start end word i h e f = rw (f, e, h, add-one i)

-- behind the last nonterminal of the word there is none to put in
adding_none : (chart : List ℕ) (start end word i : ℕ) → has word i ≡ false → added_to chart start end word (suc i) ≡ added_to chart start end word i
unfolding added_to with_place
adding_none chart start end word i e = rw (e, set-get_or)

adding_rest : (chart : List ℕ) (start end word i n : ℕ) → word / 2 ^ i ≡ 0 → added_to chart start end word (i + n) ≡ added_to chart start end word i
adding_rest chart start end word i zero e = ap (added_to chart start end word) (omega arith)
adding_rest chart start end word i (suc n) e =
    let s : i + suc n ≡ suc (i + n) = omega arith in
    ap (added_to chart start end word) s
    ∙ adding_none chart start end word (i + n) (sym (has_shift word i n) ∙ ap (λ (x : ℕ). has x n) e ∙ has_zero n)
    ∙ adding_rest chart start end word i n e

-- beyond the limits nothing is put in
pub added_of_many : (chart : List ℕ) (N start end word : ℕ) → max_nonterminals < N → chart ≡ added_word chart N start end word
unfolding added_word
added_of_many chart N start end word h = rw (lt-leb N max_nonterminals h)

module _ (chart : List ℕ) (N start end word : ℕ) (few : N ≤ max_nonterminals) where
  pub added_beyond : max_tabular_places ≤ end → chart ≡ added_word chart N start end word
  unfolding added_word
  added_beyond h = rw (le-leb N max_nonterminals few, le-ltb end max_tabular_places h)

  module _ (short : end < max_tabular_places) where
    added_within : added_to chart start end word N ≡ added_word chart N start end word
    unfolding added_word
    added_within = rw (le-leb N max_nonterminals few, lt-ltb end max_tabular_places short)

    all_added : (i : ℕ) {l : List ℕ} → i ≤ N → N ≤ i → l ≡ added_to chart start end word i → l ≡ added_word chart N start end word
    all_added i {l} a b h = let e : i ≡ N = omega arith in (rw e at h) ∙ added_within

    pub no_more_added : (i : ℕ) {l : List ℕ} → i ≤ N → l ≡ added_to chart start end word i → word / 2 ^ i ≡ 0 → l ≡ added_word chart N start end word
    no_more_added i {l} a h e =
        let s : i + (N - i) ≡ N = omega arith in
        h ∙ sym (adding_rest chart start end word i (N - i) e) ∙ ap (added_to chart start end word) s ∙ added_within

-- nor of a word that has no nonterminal
pub none_added : (chart : List ℕ) (N start end word : ℕ) → word ≡ 0 → chart ≡ added_word chart N start end word
unfolding added_word added_to
none_added chart N start end word h = by_limits (leb N max_nonterminals && ltb end max_tabular_places)
  where
    by_limits : (b : Bool) → chart ≡ choose b (added_to chart start end word N) chart
    by_limits true =
        let all : 0 + N ≡ N = omega arith in
        sym (adding_rest chart start end word 0 N (omega (arith, h))) ∙ ap (added_to chart start end word) all
    by_limits false = refl

-- nor before its first nonterminal
by_digit : (word i t d : ℕ) → ((j : ℕ) → j < t → has (word / 2) j ≡ false) → word % 2 ≡ d → i < under d t → has word i ≡ false
unfolding has
by_digit word i t (suc d) f e l = absurd (omega arith)
by_digit word zero t zero f e l = rw (div-one word, e)
by_digit word (suc j) t zero f e l = has_suc word j ∙ f j (omega arith)

none_before : (k word i : ℕ) → i < count_trailing_zeros k word → has word i ≡ false
unfolding count_trailing_zeros
none_before zero word i h = absurd (omega arith)
none_before (suc k) word i h = by_digit word i (count_trailing_zeros k (word / 2)) (word % 2) (none_before k (word / 2)) refl h

pub first_added : (chart : List ℕ) (start end word n : ℕ) → n ≤ count_trailing_zeros 32 word → chart ≡ added_to chart start end word n
unfolding added_to
first_added chart start end word zero h = refl
first_added chart start end word (suc n) h =
    first_added chart start end word n (omega arith) ∙ sym (adding_none chart start end word n (none_before 32 word n (omega arith)))

-- gone through as far as there are nonterminals, or not begun where its first is none of them
pub last_added : (chart : List ℕ) (N start end word i : ℕ) {l : List ℕ} → N ≤ max_nonterminals → end < max_tabular_places
    → (i ≤ N) ⊎ (i ≤ count_trailing_zeros 32 word) → N ≤ i → l ≡ added_to chart start end word i → l ≡ added_word chart N start end word
last_added chart N start end word i few short (inl a) b h = all_added chart N start end word few short i a b h
last_added chart N start end word i few short (inr a) b h =
    h ∙ sym (first_added chart start end word i a) ∙ first_added chart start end word N (omega arith)
    ∙ added_within chart N start end word few short

-- at a span of the input the nonterminals of the word have it too
added_to_lem : {chart : List ℕ} {N start end : ℕ} → AddGiven chart N start end → (word i : ℕ) → i ≤ N
    → Added chart i start end word (added_to chart start end word i)
unfolding added_to
added_to_lem {chart} {N} {start} {end} g word zero h = added_start chart start end word g.long
added_to_lem {chart} {N} {start} {end} g word (suc i) h =
    let s = g.given.span in
    rw (← add-one i) (added_more (added_to_lem g word i (omega arith)) (omega (arith, g.given.few)) s.short refl
    (with_place_lem (omega (arith, s.forward, s.short)) refl) refl)

pub added_right : {chart after : List ℕ} {N start end word : ℕ} → AddGiven chart N start end → after ≡ added_word chart N start end word
    → Added chart N start end word after
added_right {chart} {after} {N} {start} {end} {word} g e =
    let s = added_within chart N start end word g.given.few g.given.span.short in
    rw (e, ← s) (added_to_lem g word N (omega arith))
