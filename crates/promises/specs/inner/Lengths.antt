-- What is found of a lent memo table and a lent log, of a grammar and then of a length, as the code finds it.
use Rattle.std.specs.Prelude.{Result, ℕ}
use Rattle.answer.specs.declared.Error.{Error}
use Rattle.grammar.specs.declared.reading.Sizes.{Sizes}
use Rattle.answer.specs.declared.Error.TheVariants.{MemoTooShort, BufferTooShort}
use Rattle.grammar.specs.Limits.{max_tokens, max_memo_entries}
use Rattle.promises.specs.Lengths.{length_faults}
use Rattle.promises.specs.inner.Inputs.{with_faults, with_room}

-- what is found of a grammar, and then of a length
abbrev pub with_length : Result Sizes Error → ℕ → Result Sizes Error
with_length f n = with_faults f (λ terminals. length_faults terminals n)

-- with a log of so many bytes
abbrev pub with_log : ℕ → Result Sizes Error → ℕ → Result Sizes Error
with_log log f n = with_room log max_tokens BufferTooShort (with_length f n)

-- and a memo table of so many entries
abbrev pub with_search : ℕ → ℕ → Result Sizes Error → ℕ → Result Sizes Error
with_search log memo f n = with_room memo max_memo_entries MemoTooShort (with_log log f n)
