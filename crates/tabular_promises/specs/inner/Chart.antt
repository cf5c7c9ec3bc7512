-- The chart: for each nonterminal and end, the set of the starts of the spans that it derives.
use Rattle.std.specs.Prelude.{◌≡◌, Bool, ◌&&◌, ◌||◌, List, ℕ, zero, suc, ◌+◌, ◌*◌, ◌-◌, ◌≤◌, ◌<◌, T, leb, ltb, length, get_or, set}
use Rattle.std.specs.Int.Bits.{bit_or}
use Rattle.answer.specs.declared.Answer.{Answer}
use Rattle.base.specs.Choice.{choose}
use Rattle.base.specs.Quantifiers.{any_below}
use Rattle.grammar.specs.Limits.{max_nonterminals, max_tabular_places}
use Rattle.lookahead.specs.Elements.{weight, has, total_weight}
use Rattle.semantics.specs.Valuations.{Valuation}
use Rattle.tabular_promises.specs.Answers.{told}
use Rattle.tabular_promises.specs.inner.Places.{has_place, with_place}

abbrev pub slot : ℕ → ℕ → ℕ
slot A m = A * max_tabular_places + m

-- a chart as a valuation
unfoldable pub charted : List ℕ → Valuation
charted l A k m = has (get_or l (slot A m) 0) k

-- a chart has a set for each nonterminal and end
abbrev pub Long : List ℕ → Type 0
Long l = length l ≡ max_nonterminals * max_tabular_places

-- no span ends before it starts
abbrev pub Forward : List ℕ → Type 0
Forward l = (A k m : ℕ) → A < max_nonterminals → m < max_tabular_places → T (charted l A k m) → k ≤ m

-- a span of the input
pub record Span (start end : ℕ) : Type 0 where
  pub forward : start ≤ end
  pub short : end < max_tabular_places

-- from which places the nonterminal leads to a place of the set, of the n places from the start on
unfoldable pub gathered : List ℕ → ℕ → ℕ → ℕ → ℕ → ℕ
gathered chart A set start zero = 0
gathered chart A set start (suc n) =
    choose (has_place set (start + n)) (bit_or (gathered chart A set start n) (get_or chart (slot A (start + n)) 0)) (gathered chart A set start n)

-- the same up to the end; of a nonterminal or an end beyond the limits, none
unfoldable pub places_before : List ℕ → ℕ → ℕ → ℕ → ℕ → ℕ
places_before chart A set start end = choose (ltb A max_nonterminals && ltb end max_tabular_places) (gathered chart A set start (suc end - start)) 0

-- which places these are
pub record Before (chart : List ℕ) (A set start end r : ℕ) : Type 0 where
  pub member : (k : ℕ) → has r k ≡ any_below (suc end) (λ m. leb start m && (charted chart A k m && has set m))

-- the nonterminals found, with one more where it is to be; beyond the limit there is none
unfoldable pub one_nonterminal : ℕ → ℕ
one_nonterminal A = choose (ltb A max_nonterminals) (weight A) 0

unfoldable pub with_nonterminal : ℕ → ℕ → Bool → ℕ
with_nonterminal found A there = choose there (bit_or found (one_nonterminal A)) found

pub record WordGiven (N start end : ℕ) : Type 0 where
  pub span : Span start end
  pub few : N ≤ max_nonterminals

-- the nonterminals that a chart gives a span to, A weighing 2^A
unfoldable pub chart_word_at : List ℕ → ℕ → ℕ → ℕ → ℕ
chart_word_at chart N start end = total_weight N (λ A. charted chart A start end)

-- the same where places beyond those of an input are in no set, and of any numbers: none beyond the limits
unfoldable pub found_word : List ℕ → ℕ → ℕ → ℕ → ℕ
found_word chart N start end = total_weight N (λ A. has_place (get_or chart (slot A end) 0) start)

unfoldable pub span_word : List ℕ → ℕ → ℕ → ℕ → ℕ
span_word chart N start end = choose (leb N max_nonterminals && ltb end max_tabular_places) (found_word chart N start end) 0

-- the verdict on an input of so many tokens; of more than an input may have, no
unfoldable pub chart_verdict : List ℕ → ℕ → Answer
chart_verdict chart tokens = told (ltb tokens max_tabular_places && has_place (get_or chart tokens 0) 0)

-- the chart after it gives a span to the nonterminals of a word, of those below N
pub record Added (before : List ℕ) (N start end word : ℕ) (after : List ℕ) : Type 0 where
  pub long : Long after
  pub here : (A : ℕ) → A < N → charted after A start end ≡ (charted before A start end || has word A)
  pub others : (A k m : ℕ) → A < max_nonterminals → m < max_tabular_places → (A < N → k ≡ start → m ≡ end → ⊥)
      → charted after A k m ≡ charted before A k m

pub record AddGiven (chart : List ℕ) (N start end : ℕ) : Type 0 where
  pub long : Long chart
  pub given : WordGiven N start end

-- the nonterminals of the word put in one by one, those below N
unfoldable pub added_to : (chart : List ℕ) (start end word N : ℕ) → List ℕ
added_to chart start end word zero = chart
added_to chart start end word (suc A) =
    set (added_to chart start end word A) (slot A end) (with_place (get_or (added_to chart start end word A) (slot A end) 0) start (has word A))

-- beyond the limits none
unfoldable pub added_word : (chart : List ℕ) (N start end word : ℕ) → List ℕ
added_word chart N start end word = choose (leb N max_nonterminals && ltb end max_tabular_places) (added_to chart start end word N) chart
