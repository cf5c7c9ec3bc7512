-- The rows of choices are written one after the other, each column by column; and of sizes that fit they hold what is looked for in them.
use mathlib.Core.Path.{◌≡◌, sym, ap, ◌∙◌}
use mathlib.Core.List.{List}
use Prim.Native.Nat.{ℕ, suc, ◌+◌, ◌*◌, ◌/◌, ◌%◌, ◌≤◌, ◌<◌, min}
use native.Mathlib.Nat.{mul-le-mul, suc-mul}
use native.Mathlib.Omega.{arith}
use native.Mathlib.Decide.{dec_lt, ℕ_discrete}
use lib.Dec.{ltb}
use lib.ListN.{length, get_or, set, replicate, length-set, length-replicate}
use lib.Seq.{set-get_or, get_or-set_same, get_or-set_other}
use borrow.Author.Tests.{lt-ltb, le-ltb, ne_eqb}
use Rattle.base.specs.Choice.{choose}
use Rattle.grammar.specs.Limits.{max_nonterminals, max_columns_of_two, max_tokens, max_memo_entries}
use Rattle.grammar.specs.inner.Limits.{max_entries}
use Rattle.base.proofs.Lists.{listed_long, listed_at, get_d_zeros}
use Rattle.descent_arrays.specs.inner.Arrays.{choice_columns, row_column, end_column, choice_words, row_at, end_at}
use Rattle.descent_choices.specs.inner.Choices.{entry_of, first_word, choice_word, choice_rows, choices_of, memo_entries, RowGiven}
use Rattle.descent_arrays.proofs.Listing.{listed_by}

-- the word at an index, where the rows of the first n nonterminals are written
abbrev word_at : (starts : List ℕ) (columns : ℕ) (entries : List ℕ) (tokens n x : ℕ) → ℕ
word_at starts columns entries tokens n x =
    choose (ltb (x / choice_columns) n) (choice_word starts columns entries tokens (x / choice_columns) (x % choice_columns)) 0

module _ (starts : List ℕ) (columns : ℕ) (entries : List ℕ) (tokens : ℕ) where
  rows_long : (n : ℕ) → length (choice_rows starts columns entries tokens n) ≡ choice_words
  unfolding choice_rows
  rows_long n = listed_long choice_words (word_at starts columns entries tokens n)

  rows_at : (n x : ℕ) → x < choice_words → get_or (choice_rows starts columns entries tokens n) x 0 ≡ word_at starts columns entries tokens n x
  unfolding choice_rows
  rows_at n x h = listed_at choice_words (word_at starts columns entries tokens n) x h

  rows_past : (n x : ℕ) → x < choice_words → n ≤ x / choice_columns → get_or (choice_rows starts columns entries tokens n) x 0 ≡ 0
  rows_past n x h past = rows_at n x h ∙ rw (le-ltb (x / choice_columns) n past)

  pub rows_none : replicate choice_words 0 ≡ choice_rows starts columns entries tokens 0
  unfolding choice_rows
  rows_none =
      listed_by choice_words (word_at starts columns entries tokens 0) (replicate choice_words 0) (length-replicate {A = ℕ} choice_words 0)
      (λ x h. get_d_zeros choice_words x ∙ sym (rw (le-ltb (x / choice_columns) 0 (omega arith))))

-- a zero that stands already need not be written
pub zero_kept : (l : List ℕ) (i : ℕ) → get_or l i 0 ≡ 0 → l ≡ set l i 0
zero_kept l i e = sym (ap (λ v. set l i v) (sym e) ∙ set-get_or l i 0)

-- where a row is read and written
pub record Placed (columns tokens A : ℕ) : Type 0 where
  pub from : A * columns + columns ≤ max_entries
  pub to : A * choice_columns + choice_columns ≤ choice_words
  pub row : A * (tokens + 1) + tokens < max_memo_entries

-- the first columns of a row are written, from the entries at an index on
pub record Writing (starts entries : List ℕ) (from to column : ℕ) (before now : List ℕ) : Type 0 where
  pub long : length now ≡ length before
  pub below : (x : ℕ) → x < to → get_or now x 0 ≡ get_or before x 0
  pub ahead : (x : ℕ) → to + column ≤ x → get_or now x 0 ≡ get_or before x 0
  pub written : (c : ℕ) → c < column → get_or now (to + c) 0 ≡ first_word starts (get_or entries (from + c) 0)

module _ {starts : List ℕ} {columns : ℕ} {entries : List ℕ} {tokens A : ℕ} {choices : List ℕ} (g : RowGiven starts columns entries tokens A choices) where
  pub placed : Placed columns tokens A
  placed =
      let f = mul-le-mul {n₁ = suc A} {m₁ = columns} {n₂ = max_nonterminals} {m₂ = max_columns_of_two} (omega (arith, g.named)) g.few_columns in
      let p = mul-le-mul {n₁ = suc A} {m₁ = tokens + 1} {n₂ = max_nonterminals} {m₂ = max_tokens + 1} (omega (arith, g.named)) (omega (arith, g.short)) in
      record {
        from = omega (arith, suc-mul A columns);
        to = omega (arith, g.named);
        row = omega (arith, suc-mul A (tokens + 1));
      }

  pub before_long : length choices ≡ choice_words
  before_long = ap length g.before ∙ rows_long starts columns entries tokens A

  before_at : (x : ℕ) → x < choice_words → get_or choices x 0 ≡ word_at starts columns entries tokens A x
  before_at x h = ap (λ l. get_or l x 0) g.before ∙ rows_at starts columns entries tokens A x h

  before_past : (x : ℕ) → x < choice_words → A ≤ x / choice_columns → get_or choices x 0 ≡ 0
  before_past x h past = ap (λ l. get_or l x 0) g.before ∙ rows_past starts columns entries tokens A x h past

  -- a column that is not written yet holds 0
  pub still_zero : {column : ℕ} {now : List ℕ} → Writing starts entries (A * columns) (A * choice_columns) column choices now → column < columns
      → get_or now (A * choice_columns + column) 0 ≡ 0
  still_zero {column} w l =
      w.ahead (A * choice_columns + column) (omega arith)
      ∙ before_past (A * choice_columns + column) (omega (arith, placed.to, g.few_columns)) (omega (arith, g.few_columns))

  -- all columns, the input's length and the row's place in the memo table
  module _ {column : ℕ} {now : List ℕ} (w : Writing starts entries (A * columns) (A * choice_columns) column choices now)
      (within : column ≤ columns) (all : columns ≤ column) where
    abbrev row : ℕ
    row = A * choice_columns + row_column

    abbrev end : ℕ
    end = A * choice_columns + end_column

    abbrev ended : List ℕ
    ended = set now end tokens

    abbrev after : List ℕ
    after = set ended row (A * (tokens + 1))

    now_long : length now ≡ choice_words
    now_long = w.long ∙ before_long

    ended_long : length ended ≡ choice_words
    ended_long = length-set now end tokens ∙ now_long

    other : (x : ℕ) → (x ≡ row → ⊥) → (x ≡ end → ⊥) → get_or after x 0 ≡ get_or now x 0
    other x n m = get_or-set_other ended row x (A * (tokens + 1)) 0 n ∙ get_or-set_other now end x tokens 0 m

    -- the row itself
    in_row : (c : ℕ) → c < choice_columns → get_or after (A * choice_columns + c) 0 ≡ choice_word starts columns entries tokens A c
    unfolding choice_word
    in_row c l = go (dec_lt c columns) (ℕ_discrete c end_column) (ℕ_discrete c row_column)
      where
        go : Dec (c < columns) → Dec (c ≡ end_column) → Dec (c ≡ row_column)
            → get_or after (A * choice_columns + c) 0 ≡ choice_word starts columns entries tokens A c
        go (yes k) e r =
            other (A * choice_columns + c) (λ q. absurd (omega (arith, g.few_columns))) (λ q. absurd (omega (arith, g.few_columns)))
            ∙ w.written c (omega arith)
            ∙ sym (rw (lt-ltb c columns k))
        go (no k) (yes e) r =
            rw (e, le-ltb end_column columns (omega arith))
            (get_or-set_other ended row end (A * (tokens + 1)) 0 (λ q. absurd (omega arith))
            ∙ get_or-set_same now end tokens 0 (omega (arith, now_long, placed.to)))
        go (no k) (no e) (yes r) =
            rw (r, le-ltb row_column columns (omega arith)) (get_or-set_same ended row (A * (tokens + 1)) 0 (omega (arith, ended_long, placed.to)))
        go (no k) (no e) (no r) =
            other (A * choice_columns + c) (λ q. absurd (r (omega arith))) (λ q. absurd (e (omega arith)))
            ∙ w.ahead (A * choice_columns + c) (omega arith)
            ∙ before_past (A * choice_columns + c) (omega (arith, placed.to)) (omega arith)
            ∙ sym (rw (le-ltb c columns (omega arith), ne_eqb c end_column e, ne_eqb c row_column r))

    pub row_filled : after ≡ choice_rows starts columns entries tokens (A + 1)
    unfolding choice_rows
    row_filled =
        listed_by choice_words (word_at starts columns entries tokens (A + 1)) after (length-set ended row (A * (tokens + 1)) ∙ ended_long)
        (λ x h. go x h (dec_lt (x / choice_columns) A) (dec_lt A (x / choice_columns)))
      where
        go : (x : ℕ) → x < choice_words → Dec (x / choice_columns < A) → Dec (A < x / choice_columns)
            → get_or after x 0 ≡ word_at starts columns entries tokens (A + 1) x
        go x h (yes l) m =
            other x (λ q. absurd (omega arith)) (λ q. absurd (omega arith))
            ∙ w.below x (omega arith)
            ∙ before_at x h
            ∙ rw (lt-ltb (x / choice_columns) A l, lt-ltb (x / choice_columns) (A + 1) (omega arith))
        go x h (no l) (yes m) =
            other x (λ q. absurd (omega arith)) (λ q. absurd (omega arith))
            ∙ w.ahead x (omega (arith, g.few_columns))
            ∙ before_past x h (omega arith)
            ∙ sym (rw (le-ltb (x / choice_columns) (A + 1) (omega arith)))
        go x h (no l) (no m) =
            let q : x / choice_columns ≡ A = omega arith in
            let here : x ≡ A * choice_columns + x % choice_columns = omega arith in
            ap (λ y. get_or after y 0) here
            ∙ in_row (x % choice_columns) (omega arith)
            ∙ sym (rw (q, lt-ltb A (A + 1) (omega arith)))

-- the rows of all nonterminals
pub rows_all : (starts : List ℕ) (nonterminals columns : ℕ) (entries : List ℕ) (tokens : ℕ) {rows wide long : ℕ} {choices : List ℕ}
    → rows ≡ min nonterminals max_nonterminals → wide ≡ min columns max_columns_of_two → long ≡ min tokens max_tokens
    → choices ≡ choice_rows starts wide entries long rows → choices ≡ choices_of starts nonterminals columns entries tokens
unfolding choices_of
rows_all starts nonterminals columns entries tokens r w l e = e ∙ rw (r, w, l)

-- where things stand in the rows
pub record Filled (starts : List ℕ) (nonterminals columns : ℕ) (entries : List ℕ) (tokens : ℕ) (choices : List ℕ) : Type 0 where
  pub entered : (A c : ℕ) → A < nonterminals → c < columns → get_or choices (A * choice_columns + c) 0 ≡ first_word starts (entry_of columns entries A c)
  pub rows : (A : ℕ) → A < nonterminals → row_at choices A ≡ A * (tokens + 1)
  pub ends : (A : ℕ) → A < nonterminals → end_at choices A ≡ tokens

module _ (starts : List ℕ) {nonterminals columns : ℕ} (entries : List ℕ) {tokens : ℕ} (n : nonterminals ≤ max_nonterminals) (m : columns ≤ max_columns_of_two)
    (t : tokens ≤ max_tokens) where
  same : choices_of starts nonterminals columns entries tokens ≡ choice_rows starts columns entries tokens nonterminals
  unfolding choices_of
  same =
      let a : min nonterminals max_nonterminals ≡ nonterminals = omega arith in
      let b : min columns max_columns_of_two ≡ columns = omega arith in
      let c : min tokens max_tokens ≡ tokens = omega arith in
      rw (a, b, c)

  column_at : (A c : ℕ) → A < nonterminals → c < choice_columns
      → get_or (choices_of starts nonterminals columns entries tokens) (A * choice_columns + c) 0 ≡ choice_word starts columns entries tokens A c
  column_at A c a l =
      let q : (A * choice_columns + c) / choice_columns ≡ A = omega arith in
      let r : (A * choice_columns + c) % choice_columns ≡ c = omega arith in
      ap (λ l. get_or l (A * choice_columns + c) 0) same
      ∙ rows_at starts columns entries tokens nonterminals (A * choice_columns + c) (omega arith)
      ∙ rw (q, r, lt-ltb A nonterminals a)

  pub choices_filled : Filled starts nonterminals columns entries tokens (choices_of starts nonterminals columns entries tokens)
  unfolding row_at end_at choice_word
  choices_filled = record {
    entered = λ A c a h. column_at A c a (omega arith) ∙ rw (lt-ltb c columns h);
    rows = λ A a. column_at A row_column a (omega arith) ∙ rw (le-ltb row_column columns (omega arith));
    ends = λ A a. column_at A end_column a (omega arith) ∙ rw (le-ltb end_column columns (omega arith));
  }

-- sizes within the limits are not cut: so many entries the memo table has
pub entries_fit : (n k : ℕ) → n ≤ max_nonterminals → k ≤ max_tokens → memo_entries n k ≡ n * (k + 1)
unfolding memo_entries
entries_fit n k few short =
    let a : min n max_nonterminals ≡ n = omega arith in
    let b : min k max_tokens ≡ k = omega arith in
    rw (a, b)
