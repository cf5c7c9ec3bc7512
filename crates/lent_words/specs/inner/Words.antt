-- The sizes of the table that is lent, by what is found, and an entry as a word.
use Rattle.std.specs.Prelude.{Err, Ok, Result, ℕ, eqb, ltb}
use Rattle.answer.specs.declared.Error.{Error}
use Rattle.base.specs.Choice.{choose}
use Rattle.grammar.specs.Codes.{no_entry}
use Rattle.grammar.specs.inner.Codes.{no_rule}
use Rattle.grammar.specs.Limits.{max_nonterminals, max_terminals}
use Rattle.grammar.specs.declared.reading.Sizes.{Sizes}

-- an entry as a word
unfoldable pub entry_code : ℕ → ℕ
entry_code b = choose (eqb b no_rule) no_entry b

abbrev pub no_sizes : Sizes
no_sizes = record { nonterminals = 0; terminals = 0; rules = 0 }

-- the sizes of the table that is lent: none where the grammar is refused, or where they are past the limits, as those of no grammar that passes are
unfoldable pub lent_sizes : Result Sizes Error → Sizes
lent_sizes (Err e) = no_sizes
lent_sizes (Ok z) = choose (ltb max_nonterminals z.nonterminals) no_sizes (choose (ltb max_terminals z.terminals) no_sizes z)
