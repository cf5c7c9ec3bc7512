-- The entries of the table: a row for each nonterminal, in each column the first rule that claims it, and no rules behind.
use Rattle.std.specs.Prelude.{◌≡◌, List, ◌⊎◌, ℕ, ◌+◌, ◌*◌, ◌/◌, ◌%◌, ◌≤◌, ◌<◌, length, get_or, replicate}
use Rattle.std.proofs.Math.Option.{Option, none, some}
use Rattle.base.specs.Choice.{choose}
use Rattle.grammar.specs.inner.Codes.{no_rule}
use Rattle.grammar.specs.inner.Limits.{max_entries}
use Rattle.grammar.specs.Syntax.{Grammar}
use Rattle.grammar.specs.declared.reading.Sizes.{Sizes}
use Rattle.lookahead.specs.declared.Lookahead.{Lookahead}
use Rattle.lookahead.specs.Lookaheads.{tokens}
use Rattle.lookahead.specs.inner.Lookaheads.{alphabet}
use Rattle.lookahead.specs.Elements.{has}
use Rattle.semantics.specs.Claims.{position, table_of}
use Rattle.base.specs.Lists.{listed}
use Rattle.columns.specs.Columns.{column_count, column_string, columns}
use Rattle.columns.specs.inner.Columns.{column_element}
use Rattle.table.specs.inner.Layout.{padded}
use Rattle.claims.specs.inner.Claims.{claimant, Headed}

-- a rule's number as a byte
abbrev pub rule_byte : Option ℕ → ℕ
rule_byte none = no_rule
rule_byte (some q) = q

unfoldable pub byte_at : Lookahead → Grammar → ℕ → ℕ → ℕ
byte_at k G A c = rule_byte (table_of G (tokens k) A (column_string k G.terminals c))

-- all of the array: the entry of a nonterminal A in column c at A × columns + c
unfoldable pub entries_of : Lookahead → Grammar → List ℕ
entries_of k G = padded max_entries no_rule (listed (G.nonterminals * columns k G) (λ i. byte_at k G (i / columns k G) (i % columns k G)))

abbrev pub no_rules : List ℕ
no_rules = replicate max_entries no_rule

-- As the code fills it in: the first n columns of a row have the rule where it claims their elements
pub record FilledRow (before : List ℕ) (row : ℕ) (element : ℕ → ℕ) (n claim rule : ℕ) (after : List ℕ) : Type 0 where
  pub long : length after ≡ length before
  pub inside : (c : ℕ) → c < n → get_or after (row + c) 0 ≡ choose (has claim (element c)) rule (get_or before (row + c) 0)
  pub outside : (i : ℕ) → (i < row) ⊎ (row + n ≤ i) → get_or after i 0 ≡ get_or before i 0

-- the number of the rule found, counted from q on, and what stood there where none is
abbrev pub entry_over : ℕ → ℕ → Option ℕ → ℕ
entry_over q old none = old
entry_over q old (some n) = q + n

-- rows of entries: how many they are, how many columns each has, and the element of a column
pub record Rows : Type 0 where
  pub rows : ℕ
  pub columns : ℕ
  pub element : ℕ → ℕ

abbrev pub rows_of : Lookahead → (nonterminals terminals : ℕ) → Rows
rows_of k n t = record { rows = n; columns = column_count k t; element = column_element k t }

-- where an entry stands
abbrev pub entry_index : Rows → ℕ → ℕ → ℕ
entry_index R A c = A * R.columns + c

-- every entry has the first of the given rules that claims it
pub record FilledRows (R : Rows) (heads sets : List ℕ) (first : ℕ) (rules : List ℕ) (before after : List ℕ) : Type 0 where
  pub long : length after ≡ length before
  pub entries : (A c : ℕ) → A < R.rows → c < R.columns
      → get_or after (entry_index R A c) 0 ≡ entry_over first (get_or before (entry_index R A c) 0) (position (claimant heads sets A (R.element c)) rules)
  pub behind : (i : ℕ) → R.rows * R.columns ≤ i → get_or after i 0 ≡ get_or before i 0

-- what filling the rows needs
pub record RowsGiven (k : Lookahead) (z : Sizes) (heads : List ℕ) : Type 0 where
  pub headed : Headed heads z.rules z.nonterminals
  pub few_terminals : z.terminals ≤ alphabet k
