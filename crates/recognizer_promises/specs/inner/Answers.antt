-- What is found of a grammar and then of an input, and of a lent memo table before them.
use Rattle.std.specs.Prelude.{Result, List, ℕ}
use Rattle.answer.specs.declared.Error.{Error}
use Rattle.grammar.specs.declared.reading.Sizes.{Sizes}
use Rattle.answer.specs.declared.Error.TheVariants.{MemoTooShort}
use Rattle.grammar.specs.Limits.{max_tokens, max_memo_entries}
use Rattle.promises.specs.inner.Inputs.{with_input_to, with_room}

-- what is found of a grammar and then of an input
abbrev pub with_input : Result Sizes Error → List ℕ → Result Sizes Error
with_input = with_input_to max_tokens

-- with a memo table of so many entries
abbrev pub with_memo : ℕ → Result Sizes Error → List ℕ → Result Sizes Error
with_memo memo f input = with_room memo max_memo_entries MemoTooShort (with_input f input)
