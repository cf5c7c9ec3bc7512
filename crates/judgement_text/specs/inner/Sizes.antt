-- The sizes that a judgement is put with.
use Rattle.std.specs.Prelude.{Err, Ok, Result, List, ℕ, leb, length}
use Rattle.answer.specs.declared.Error.{Error}
use Rattle.grammar.specs.declared.reading.Sizes.{Sizes}
use Rattle.base.specs.Choice.{choose}
use Rattle.grammar.specs.Limits.{max_tokens}

-- how many nonterminals a grammar has that is found to pass
abbrev pub nonterminals_of : Result Sizes Error → ℕ
nonterminals_of (Ok z) = z.nonterminals
nonterminals_of (Err e) = 0

-- how many tokens an input has that is not too long
unfoldable pub token_count : List ℕ → ℕ
token_count input = choose (leb (length input) max_tokens) (length input) 0
