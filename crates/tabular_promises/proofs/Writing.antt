-- The words of the spans in a row: where each stands, and when they are written.
use mathlib.Core.Path.{◌≡◌, refl, ap, ap₂, ◌∙◌}
use mathlib.Core.Bool.{Bool}
use mathlib.Core.List.{List, ◌∷◌, ◌++◌}
use Prim.Native.Nat.{ℕ, zero, suc, ◌+◌, ◌*◌, ◌-◌, ◌≤◌, ◌<◌}
use native.Mathlib.Decide.{ℕ_discrete}
use native.Mathlib.Omega.{arith}
use lib.ListN.{length, get_or, length-append, get_or-append}
use lib.Seq.{get_or-append-add}
use borrow.Author.Tests.{le-leb, lt-leb}
use Rattle.base.specs.Quantifiers.{one}
use Rattle.grammar.specs.Limits.{max_tabular_tokens, max_tabular_places, max_span_words}
use Rattle.lookahead.specs.Elements.{weight, total_weight}
use Rattle.base.specs.Lists.{listed}
use Rattle.base.proofs.Lists.{listed_long, listed_at}
use Rattle.tabular_promises.specs.inner.Chart.{span_word}
use Rattle.tabular_promises.specs.Spans.{spans_before, span_index, rows, span_words}
use Rattle.tabular_promises.specs.inner.Spans.{span_count, Spans, written_spans}

-- the spans before a place
before_up : (n i : ℕ) (d : ℕ) → spans_before n i ≤ spans_before n (i + d)
unfolding spans_before
before_up n i zero = let e : i + 0 ≡ i = omega arith in rw e (omega arith)
before_up n i (suc d) = let e : i + suc d ≡ suc (i + d) = omega arith in rw e (omega (arith, before_up n i d))

before_mono : (n i j : ℕ) → i ≤ j → spans_before n i ≤ spans_before n j
before_mono n i j h = let e : i + (j - i) ≡ j = omega arith in rw e at (before_up n i (j - i))

before_more : (n m i : ℕ) → n ≤ m → spans_before n i ≤ spans_before m i
unfolding spans_before
before_more n m zero h = omega arith
before_more n m (suc i) h = omega (arith, before_more n m i h)

most : spans_before max_tabular_tokens max_tabular_places ≡ max_span_words
unfolding spans_before
most = refl

pub count_low : (n : ℕ) → n ≤ max_tabular_tokens → span_count n ≤ max_span_words
count_low n h = omega (arith, before_more n max_tabular_tokens (suc n) h, before_mono max_tabular_tokens (suc n) max_tabular_places (omega arith), most)

pub before_zero : (n : ℕ) → spans_before n 0 ≡ 0
unfolding spans_before
before_zero n = refl

-- one place more
pub before_suc : (n i : ℕ) → spans_before n (suc i) ≡ spans_before n i + (suc n - i)
unfolding spans_before
before_suc n i = refl

pub index_low : (n i j : ℕ) → i ≤ j → j ≤ n → span_index n i j < span_count n
index_low n i j h k = omega (arith, before_suc n i, before_mono n (suc i) (suc n) (omega arith))

row_long : (m : ℕ) (g : ℕ → ℕ) (t : List ℕ) → length (listed m g ++ t) ≡ m + length t
row_long m g t = length-append (listed m g) t ∙ ap (◌+ length t) (listed_long m g)

-- the words of the rows from a start on
module _ (n : ℕ) (f : ℕ → ℕ → ℕ) where
  rows_long : (c i : ℕ) → i + c ≡ suc n → length (rows f c i) + spans_before n i ≡ span_count n
  unfolding rows
  rows_long zero i e = let d : i ≡ suc n = omega arith in rw d (omega arith)
  rows_long (suc c) i e =
      let l : length (rows f (suc c) i) ≡ suc c + length (rows f c (suc i)) = row_long (suc c) _ (rows f c (suc i)) in
      omega (arith, l, rows_long c (suc i) (omega arith), before_suc n i)

  rows_at : (c i : ℕ) → i + c ≡ suc n → (s e x : ℕ) → i ≤ s → s ≤ e → e ≤ n → x + spans_before n i ≡ span_index n s e → get_or (rows f c i) x 0 ≡ f s e
  unfolding rows
  rows_at zero i d s e x is se en h = absurd (omega arith)
  rows_at (suc c) i d s e x is se en h = go (ℕ_discrete s i) (rows_at c (suc i) (omega arith) s e (x - suc c))
    where
      go : Dec (s ≡ i) → (suc i ≤ s → s ≤ e → e ≤ n → x - suc c + spans_before n (suc i) ≡ span_index n s e → get_or (rows f c (suc i)) (x - suc c) 0 ≡ f s e)
          → get_or (listed (suc c) (λ k. f i (i + k)) ++ rows f c (suc i)) x 0 ≡ f s e
      go (yes q) next =
          let y : x ≡ e - i = omega (arith, ap (spans_before n) q) in
          let z : i + (e - i) ≡ e = omega arith in
          rw y (get_or-append (listed (suc c) (λ k. f i (i + k))) (rows f c (suc i)) 0 (e - i) (omega (arith, listed_long (suc c) (λ k. f i (i + k))))
          ∙ listed_at (suc c) (λ k. f i (i + k)) (e - i) (omega arith) ∙ rw (z, q))
      go (no q) next =
          let up = before_mono n (suc i) s (omega arith) in
          let one = before_suc n i in
          let long = listed_long (suc c) (λ k. f i (i + k)) in
          let y : x ≡ length (listed (suc c) (λ k. f i (i + k))) + (x - suc c) = omega arith in
          rw y (get_or-append-add (listed (suc c) (λ k. f i (i + k))) (rows f c (suc i)) (x - suc c) 0
          ∙ next (omega arith) se en (omega arith))

  -- how many there are, and where each stands
  pub words_long : length (span_words n f) ≡ span_count n
  unfolding span_words
  words_long = omega (arith, rows_long (suc n) 0 (omega arith), before_zero n)

  pub words_at : (i j : ℕ) → i ≤ j → j ≤ n → get_or (span_words n f) (span_index n i j) 0 ≡ f i j
  unfolding span_words
  words_at i j h k = rows_at (suc n) 0 (omega arith) i j (span_index n i j) (omega arith) h k (omega (arith, before_zero n))

-- equal words make equal rows
listed_cong : (n : ℕ) (f g : ℕ → ℕ) → ((i : ℕ) → i < n → f i ≡ g i) → listed n f ≡ listed n g
unfolding listed
listed_cong zero f g h = refl
listed_cong (suc n) f g h = ap₂ ◌∷◌ (h 0 (omega arith)) (listed_cong n (λ i. f (suc i)) (λ i. g (suc i)) (λ i l. h (suc i) (omega arith)))

module _ (n : ℕ) (f g : ℕ → ℕ → ℕ) (h : (i j : ℕ) → i ≤ j → j ≤ n → f i j ≡ g i j) where
  rows_cong : (c i : ℕ) → i + c ≡ suc n → rows f c i ≡ rows g c i
  unfolding rows
  rows_cong zero i e = refl
  rows_cong (suc c) i e =
      ap₂ ◌++◌ (listed_cong (suc c) (λ d. f i (i + d)) (λ d. g i (i + d)) (λ d l. h i (i + d) (omega arith) (omega arith))) (rows_cong c (suc i) (omega arith))

  pub words_cong : span_words n f ≡ span_words n g
  unfolding span_words
  words_cong = rows_cong (suc n) 0 (omega arith)

pub total_cong : (k : ℕ) (p q : ℕ → Bool) → ((l : ℕ) → l < k → p l ≡ q l) → total_weight k p ≡ total_weight k q
unfolding total_weight
total_cong zero p q h = refl
total_cong (suc k) p q h = ap₂ (λ (b : Bool) (n : ℕ). one b * weight k + n) (h k (omega arith)) (total_cong k p q (λ l o. h l (omega arith)))

-- by the lengths of the input and of the memory
module _ (chart : List ℕ) (N tokens : ℕ) (before : List ℕ) where
  pub not_of_long : max_tabular_tokens < tokens → before ≡ written_spans chart N tokens before
  unfolding written_spans
  not_of_long h = rw (lt-leb tokens max_tabular_tokens h)

  module _ (short : tokens ≤ max_tabular_tokens) where
    pub not_in_short : length before < max_span_words → before ≡ written_spans chart N tokens before
    unfolding written_spans
    not_in_short h = rw (le-leb tokens max_tabular_tokens short, lt-leb max_span_words (length before) h)

    pub all_written : {after : List ℕ} → max_span_words ≤ length before → Spans tokens (span_word chart N) before after
        → after ≡ written_spans chart N tokens before
    unfolding written_spans
    all_written h e = rw (le-leb tokens max_tabular_tokens short, le-leb max_span_words (length before) h) e

    pub were_written : {after : List ℕ} → max_span_words ≤ length before → after ≡ written_spans chart N tokens before
        → Spans tokens (span_word chart N) before after
    unfolding written_spans
    were_written {after} h e = rw (le-leb tokens max_tabular_tokens short, le-leb max_span_words (length before) h) at e
