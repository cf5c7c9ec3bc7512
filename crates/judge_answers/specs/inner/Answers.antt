-- What judging answers, by what is found and by the memo table that the descent leaves.
use Rattle.std.specs.Prelude.{Err, Ok, Result, List, ℕ, min, get_or, take}
use Rattle.answer.specs.declared.Error.{Error}
use Rattle.grammar.specs.declared.reading.Sizes.{Sizes}
use Rattle.answer.specs.declared.Answer.{Answer}
use Rattle.answer.specs.declared.Answer.TheVariants as answer
use Rattle.grammar.specs.Codes.{uncalled_code}
use Rattle.grammar.specs.Limits.{max_tokens}
use Rattle.memo_table.specs.inner.Tally.{recorded_verdict}
use Rattle.descent_choices.specs.inner.Choices.{memo_entries}

-- on an input of so many tokens: the verdict by the entry of the start's call, which is the first
abbrev pub answer_of : Result Sizes Error → ℕ → List ℕ → Answer
answer_of (Err e) tokens memo = answer.Refused e
answer_of (Ok z) tokens memo = recorded_verdict (take (memo_entries z.nonterminals tokens) memo) (get_or memo 0 uncalled_code) (min tokens max_tokens)
