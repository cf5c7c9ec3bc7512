-- The sizes that a sheet is printed of: none for sizes past the limits, as those of no grammar that passes are.
use Rattle.std.specs.Prelude.{Err, Ok, Result, ◌≤◌, ltb}
use Rattle.answer.specs.declared.Error.{Error}
use Rattle.base.specs.Choice.{choose}
use Rattle.grammar.specs.Encoding.{sizes}
use Rattle.grammar.specs.Limits.{max_nonterminals, max_terminals}
use Rattle.grammar.specs.declared.reading.Sizes.{Sizes}

-- sizes within the limits
pub record Limited (z : Sizes) : Type 0 where
  pub few_nonterminals : z.nonterminals ≤ max_nonterminals
  pub few_terminals : z.terminals ≤ max_terminals

unfoldable pub limited_sizes : Sizes → Sizes
limited_sizes z = choose (ltb max_nonterminals z.nonterminals) (sizes 0 0 0) (choose (ltb max_terminals z.terminals) (sizes 0 0 0) z)

abbrev pub limited_finding : Result Sizes Error → Result Sizes Error
limited_finding (Err e) = Err e
limited_finding (Ok z) = Ok (limited_sizes z)
