-- What a descent by choices made before requires: they are those of the grammar's own table.
use Rattle.std.specs.Prelude.{◌≡◌, List, ℕ, length}
use Rattle.grammar.specs.Encoding.{grammar_of}
use Rattle.grammar.specs.inner.Starts.{rule_starts}
use Rattle.grammar.specs.declared.reading.Sizes.{Sizes}
use Rattle.lookahead.specs.declared.Lookahead.{Lookahead}
use Rattle.columns.specs.Columns.{column_count}
use Rattle.table.specs.inner.Entries.{entries_of}
use Rattle.recognizer_promises.specs.inner.Judging.{DescendGiven}
use Rattle.descent_choices.specs.inner.Choices.{choices_of}

-- the rows of choices for an input of so many tokens
abbrev pub table_rows : Lookahead → List ℕ → Sizes → ℕ → List ℕ
table_rows k words z tokens = choices_of (rule_starts words) z.nonterminals (column_count k z.terminals) (entries_of k (grammar_of words)) tokens

-- an input of a grammar that passes, a memo table of just its entries, and the choices made of the grammar's table
pub record JudgeGiven (k : Lookahead) (words : List ℕ) (z : Sizes) (choices input memo : List ℕ) : Type 0 where
  pub given : DescendGiven k words z (rule_starts words) (entries_of k (grammar_of words)) input memo
  pub made : choices ≡ table_rows k words z (length input)
