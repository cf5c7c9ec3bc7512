-- The words of the table: how many they are, which is which, and where an entry stands.
use mathlib.Core.Path.{◌≡◌, ap, ◌∙◌}
use mathlib.Core.List.{◌++◌}
use Prim.Native.Nat.{ℕ, ◌+◌, ◌*◌, ◌<◌}
use native.Mathlib.Nat.{mul-add}
use native.Mathlib.Omega.{arith}
use lib.Arith.{digits_lt, digits_div, digits_mod}
use lib.ListN.{length, get_or, length-append, get_or-append}
use lib.Seq.{get_or-append-add}
use Rattle.grammar.specs.Syntax.{Grammar}
use Rattle.lookahead.specs.declared.Lookahead.{Lookahead}
use Rattle.base.specs.Lists.{listed}
use Rattle.base.proofs.Lists.{listed_long, listed_at}
use Rattle.columns.specs.Columns.{columns}
use Rattle.table_promises.specs.Layout.{entry_at, set_word, row_word, table_words}

module _ (k : Lookahead) (G : Grammar) where
  abbrev set_count : ℕ
  set_count = 2 * G.nonterminals

  abbrev row_count : ℕ
  row_count = G.nonterminals * columns k G

  pub table_length : length (table_words k G) ≡ 2 * G.nonterminals + G.nonterminals * columns k G
  unfolding table_words
  table_length =
      let sum = length-append (listed set_count (set_word k G)) (listed row_count (row_word k G)) in
      omega (arith, listed_long set_count (set_word k G), listed_long row_count (row_word k G))

  -- the same as one product
  pub table_long : length (table_words k G) ≡ G.nonterminals * (2 + columns k G)
  table_long = table_length ∙ omega (arith, mul-add G.nonterminals 2 (columns k G))

  -- the sets, and the entries behind them
  pub table_set : (i : ℕ) → i < 2 * G.nonterminals → get_or (table_words k G) i 0 ≡ set_word k G i
  unfolding table_words
  table_set i h =
      get_or-append (listed set_count (set_word k G)) (listed row_count (row_word k G)) 0 i (omega (arith, listed_long set_count (set_word k G)))
      ∙ listed_at set_count (set_word k G) i h

  pub table_row : (i : ℕ) → i < G.nonterminals * columns k G → get_or (table_words k G) (2 * G.nonterminals + i) 0 ≡ row_word k G i
  unfolding table_words
  table_row i h =
      let place : 2 * G.nonterminals + i ≡ length (listed set_count (set_word k G)) + i = omega (arith, listed_long set_count (set_word k G)) in
      ap (λ j. get_or (listed set_count (set_word k G) ++ listed row_count (row_word k G)) j 0) place
      ∙ get_or-append-add (listed set_count (set_word k G)) (listed row_count (row_word k G)) i 0
      ∙ listed_at row_count (row_word k G) i h

  -- where an entry stands
  pub table_entry : (A c : ℕ) → A < G.nonterminals → c < columns k G
      → get_or (table_words k G) (2 * G.nonterminals + A * columns k G + c) 0 ≡ entry_at k G A c
  unfolding row_word
  table_entry A c a h =
      let i = A * columns k G + c in
      let low : i < G.nonterminals * columns k G = digits_lt a h in
      let place : 2 * G.nonterminals + A * columns k G + c ≡ 2 * G.nonterminals + i = omega arith in
      ap (λ j. get_or (table_words k G) j 0) place ∙ table_row i low ∙ rw (digits_div A h, digits_mod A h)
