-- The words of the spans, start by start: with one row more, the memory holds the words of one start more.
use mathlib.Core.Path.{◌≡◌, sym, ap, ◌∙◌}
use mathlib.Core.List.{List, ◌++◌, append_assoc, append-nil}
use Prim.Native.Nat.{ℕ, suc, ◌+◌, ◌-◌, ◌≤◌, ◌<◌}
use native.Mathlib.Decide.{dec_lt}
use native.Mathlib.Omega.{arith}
use lib.ListN.{drop_of_length-le, length, take, drop, get_or, length-append, get_or-append}
use lib.Seq.{get_or-append_right, take_at, drop_at, take_all, drop-drop}
use borrow.Rule.Slice.PartMut.{put_mid}
use Rattle.std.proofs.lemmas.List.{get_or-take, length-take, length-take-le, length-drop, ext_get_or}
use Rattle.grammar.specs.Limits.{max_tabular_tokens, max_span_words}
use Rattle.base.specs.Lists.{listed}
use Rattle.base.proofs.Lists.{listed_long, listed_at}
use Rattle.base.proofs.Front.{front}
use Rattle.tabular_promises.specs.Spans.{spans_before, span_words}
use Rattle.tabular_promises.specs.inner.Spans.{span_count, Spans}
use Rattle.tabular_promises.proofs.Writing.{count_low, before_suc, index_low, words_long, words_at}

module _ (n : ℕ) (f : ℕ → ℕ → ℕ) {start : ℕ} (h : start ≤ n) where
  abbrev words : List ℕ
  words = span_words n f

  abbrev at : ℕ
  at = spans_before n start

  abbrev more : ℕ
  more = suc n - start

  abbrev row : List ℕ
  row = listed more (λ d. f start (start + d))

  row_fits : at + more ≤ length words
  row_fits = omega (arith, index_low n start n h (omega arith), words_long n f)

  pub row_within : {i : ℕ} (spans : List ℕ) → i ≡ at → n ≤ max_tabular_tokens → max_span_words ≤ length spans → i + (n + 1 - start) ≤ length spans
  row_within spans e few room = omega (arith, row_fits, words_long n f, count_low n few)

  -- the words of one start more
  words_more : take at words ++ row ≡ take (at + more) words
  words_more =
      ext_get_or 0 (take at words ++ row) (take (at + more) words)
      (omega (arith, length-append (take at words) row, listed_long more (λ d. f start (start + d)), front_long, length-take-le (at + more) words row_fits))
      (λ i b. go i (omega (arith, b, length-append (take at words) row, listed_long more (λ d. f start (start + d)), front_long)) (dec_lt i at))
    where
      front_long : length (take at words) ≡ at
      front_long = length-take-le at words (omega (arith, row_fits))

      go : (i : ℕ) → i < at + more → Dec (i < at) → get_or (take at words ++ row) i 0 ≡ get_or (take (at + more) words) i 0
      go i b (yes l) =
          get_or-append (take at words) row 0 i (omega (arith, front_long))
          ∙ get_or-take at words i 0 l ∙ sym (get_or-take (at + more) words i 0 b)
      go i b (no l) =
          let d : i - length (take at words) ≡ i - at = omega (arith, front_long) in
          let e : at + (start + (i - at) - start) ≡ i = omega arith in
          get_or-append_right (take at words) row i 0 (omega (arith, front_long))
          ∙ rw (d, listed_at more (λ d. f start (start + d)) (i - at) (omega arith))
          (sym (get_or-take (at + more) words i 0 b ∙ ap (λ j. get_or words j 0) (sym e) ∙ words_at n f start (start + (i - at)) (omega arith) (omega arith)))

  row_put : (before spans : List ℕ) → spans ≡ front words at before → put_mid at more spans row ≡ front words (at + more) before
  row_put before spans e =
      let long : length (take at words) ≡ at = length-take-le at words (omega (arith, row_fits)) in
      let passed : take at spans ≡ take at words = ap (take at) e ∙ take_at (take at words) (drop at before) at long in
      let left : drop at spans ≡ drop at before = ap (drop at) e ∙ drop_at (take at words) (drop at before) at long in
      rw (passed, left, ← words_more)
      (ap (λ l. take at words ++ (row ++ l)) (drop-drop more at before) ∙ sym (append_assoc (take at words) row (drop (at + more) before)))

  pub row_written : {i c : ℕ} (before spans : List ℕ) {words' : List ℕ} → i ≡ at → spans ≡ front words i before
      → words' ≡ listed c (λ d. f start (start + d)) → c ≡ n + 1 - start
      → (i + (n + 1 - start) ≡ spans_before n (start + 1)) × (put_mid i (i + (n + 1 - start) - i) spans words' ≡ front words (i + (n + 1 - start)) before)
  row_written {i} before spans {words'} e g w l =
      let m : i + (n + 1 - start) - i ≡ more = omega arith in
      let k : i + (n + 1 - start) ≡ at + more = omega arith in
      let s : start + 1 ≡ suc start = omega arith in
      let r : words' ≡ row = w ∙ ap (λ c. listed c (λ d. f start (start + d))) (l ∙ omega arith) in
      (rw s (omega (arith, before_suc n start)), rw (m, k, r, e) (row_put before spans (rw e at g)))

-- the words from all starts
pub all_rows : (n : ℕ) (f : ℕ → ℕ → ℕ) {start i : ℕ} (before spans : List ℕ) → start ≡ n + 1 → i ≡ spans_before n start
    → spans ≡ front (span_words n f) i before
    → Spans n f before spans
all_rows n f before spans s e g =
    let c : spans_before n (n + 1) ≡ span_count n = ap (spans_before n) (omega arith) in
    g ∙ rw (e, s, c) (ap (◌++ drop (span_count n) before) (take_all (span_count n) (span_words n f) (omega (arith, words_long n f))))

pub part_long : (i m : ℕ) (l : List ℕ) → i + m ≤ length l → length (take (i + m - i) (drop i l)) ≡ m
part_long i m l h = omega (arith, length-take (i + m - i) (drop i l), length-drop i l)

pub front_all : (xs d : List ℕ) → length d ≡ length xs → front xs (length d) d ≡ xs
front_all xs d e = rw (take_all (length d) xs (omega arith), drop_of_length-le d {i = length d} (omega arith)) (append-nil xs)
