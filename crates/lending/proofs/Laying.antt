-- The loops that lay out the words: what sizes they run with, what one turn does, and what is lent when they end.
use Rattle.std.specs.Prelude.{Err, Ok, Result}
use Rattle.answer.specs.declared.Error.{Error}
use mathlib.Core.Path.{◌≡◌, refl, sym, ap, ◌∙◌}
use mathlib.Core.List.{List, ◌++◌}
use Prim.Native.Nat.{ℕ, suc, ◌+◌, ◌%◌, ◌^◌, ◌≤◌, ◌<◌}
use native.Mathlib.Decide.{dec_lt}
use native.Mathlib.Nat.{mul-le-mul}
use native.Mathlib.Omega.{arith}
use lib.ListN.{length, take, drop, set, replicate}
use lib.Seq.{take_all, take_at}
use borrow.Author.Tests.{lt-ltb, le-ltb}
use Rattle.grammar.specs.Codes.{no_entry}
use Rattle.grammar.specs.Limits.{max_nonterminals, max_terminals, max_columns, max_columns_of_two, max_table_words, max_table_words_of_two}
use Rattle.grammar.specs.declared.reading.Sizes.{Sizes}
use Rattle.lookahead.specs.declared.Lookahead.{Lookahead}
use Rattle.lookahead.specs.declared.Lookahead.TheVariants.{One, Two}
use Rattle.base.specs.Lists.{listed}
use Rattle.base.proofs.Lists.{listed_long, listed_at}
use Rattle.columns.specs.Columns.{column_count}
use Rattle.table_promises.specs.Layout.{table_room}
use Rattle.lent_words.specs.inner.Words.{no_sizes, lent_sizes}
use Rattle.lending.specs.inner.Lending.{table_word_at, stored_word, word_count, laid, made_up, lent_by, SizesGiven}
use Rattle.base.proofs.Front.{front, front_more}

none_few : SizesGiven no_sizes
none_few = record { few_nonterminals = omega arith; few_terminals = omega arith }

-- the sizes of a table that is lent are within the limits
lent_few : (f : Result Sizes Error) → SizesGiven (lent_sizes f)
unfolding lent_sizes
lent_few (Err e) = none_few
lent_few (Ok z) = go (dec_lt max_nonterminals z.nonterminals) (dec_lt max_terminals z.terminals)
  where
    go : Dec (max_nonterminals < z.nonterminals) → Dec (max_terminals < z.terminals) → SizesGiven (lent_sizes (Ok z))
    go (yes h) (yes i) = rw (lt-ltb max_nonterminals z.nonterminals h) none_few
    go (yes h) (no i) = rw (lt-ltb max_nonterminals z.nonterminals h) none_few
    go (no h) (yes i) = rw (le-ltb max_nonterminals z.nonterminals (omega arith), lt-ltb max_terminals z.terminals i) none_few
    go (no h) (no i) =
        rw (le-ltb max_nonterminals z.nonterminals (omega arith), le-ltb max_terminals z.terminals (omega arith))
        (record { few_nonterminals = omega arith; few_terminals = omega arith })

pub lent_given : (f : Result Sizes Error) {z : Sizes} → z ≡ lent_sizes f → SizesGiven z
lent_given f e = rw e (lent_few f)

-- and sizes within them are lent
pub lent_sizes_lem : (z : Sizes) → SizesGiven z → lent_sizes (Ok z) ≡ z
unfolding lent_sizes
lent_sizes_lem z g = rw (le-ltb max_nonterminals z.nonterminals g.few_nonterminals, le-ltb max_terminals z.terminals g.few_terminals)

pub room_small : (k : Lookahead) → table_room k ≤ max_table_words_of_two
room_small One = omega arith
room_small Two = omega arith

-- there is room for so many words, and for a row
pub count_room : (k : Lookahead) (z : Sizes) → SizesGiven z → word_count k z ≤ table_room k
count_room One z g =
    let row : 2 + suc z.terminals ≤ 2 + max_columns = omega (arith, g.few_terminals) in
    mul-le-mul {n₁ = z.nonterminals} {n₂ = max_nonterminals} g.few_nonterminals row
count_room Two z g = omega (arith, g.few_nonterminals)

pub row_room : (k : Lookahead) (z : Sizes) → SizesGiven z → column_count k z.terminals ≤ max_columns_of_two
row_room One z g = omega (arith, g.few_terminals)
row_room Two z g = omega arith

-- a turn writes one more of the values of a function
pub front_next : (n : ℕ) (f : ℕ → ℕ) (d e : List ℕ) (i v : ℕ) → e ≡ front (listed n f) i d → i < n → i < length d → v ≡ f i
    → set e i v ≡ front (listed n f) (i + 1) d
front_next n f d e i v is h k q =
    ap (λ x. set e i x) (q ∙ sym (listed_at n f i h)) ∙ front_more (listed n f) d e i is (omega (arith, listed_long n f)) k

-- and at the end all of them are there
pub front_all : (n : ℕ) (f : ℕ → ℕ) (d : List ℕ) → front (listed n f) n d ≡ listed n f ++ drop n d
front_all n f d = ap (λ l. l ++ drop n d) (take_all n (listed n f) (omega (arith, listed_long n f)))

module _ (k : Lookahead) (z : Sizes) (firsts follows entries : List ℕ) where
  pub laid_long : length (laid k z firsts follows entries) ≡ word_count k z
  unfolding laid
  laid_long = listed_long (word_count k z) (λ i. stored_word k (table_word_at z.nonterminals firsts follows entries i))

  -- where there is room
  pub lent_short : (before : List ℕ) → length before < word_count k z → before ≡ lent_by k z firsts follows entries before
  unfolding lent_by
  lent_short before h = rw (lt-ltb (length before) (word_count k z) h)

  pub lent_long : (before : List ℕ) → word_count k z ≤ length before
      → lent_by k z firsts follows entries before ≡ laid k z firsts follows entries ++ drop (word_count k z) before
  unfolding lent_by
  lent_long before h = rw (le-ltb (length before) (word_count k z) h)

-- what is copied of the words with one token are the table's
pub made_up_lem : (z : Sizes) (firsts follows entries : List ℕ) → take (word_count One z) (made_up z firsts follows entries) ≡ laid One z firsts follows entries
unfolding made_up
made_up_lem z firsts follows entries =
    take_at (laid One z firsts follows entries) (drop (word_count One z) (replicate max_table_words no_entry)) (word_count One z)
    (laid_long One z firsts follows entries)

pub words_copied : (z : Sizes) (firsts follows entries before : List ℕ) {n : ℕ} {words copied : List ℕ} → n ≡ word_count One z
    → words ≡ made_up z firsts follows entries → copied ≡ take n words
    → copied ++ drop n before ≡ laid One z firsts follows entries ++ drop (word_count One z) before
words_copied z firsts follows entries before e w t = rw (t, w, e, made_up_lem z firsts follows entries) refl

-- the loop over the words has ended
module _ (z : Sizes) (firsts follows entries : List ℕ) {n at : ℕ} {table : List ℕ} (within : at ≤ n) (ended : n ≤ at) where
  pub words_made : n ≡ word_count One z
      → table ≡ front (listed n (λ i. table_word_at z.nonterminals firsts follows entries i % 2 ^ 32)) at (replicate max_table_words no_entry)
      → table ≡ made_up z firsts follows entries
  unfolding made_up laid
  words_made e t =
      let d : at ≡ word_count One z = omega arith in
      t ∙ rw (d, e) (front_all (word_count One z) (λ i. table_word_at z.nonterminals firsts follows entries i % 2 ^ 32) (replicate max_table_words no_entry))

  pub words_written : (before : List ℕ) → n ≡ word_count Two z → table ≡ front (listed n (table_word_at z.nonterminals firsts follows entries)) at before
      → table ≡ laid Two z firsts follows entries ++ drop (word_count Two z) before
  unfolding laid
  words_written before e t =
      let d : at ≡ word_count Two z = omega arith in
      t ∙ rw (d, e) (front_all (word_count Two z) (table_word_at z.nonterminals firsts follows entries) before)
