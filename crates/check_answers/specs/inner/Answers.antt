-- What a check answers, by what is found of a grammar.
use Rattle.std.specs.Prelude.{Err, Ok, Result}
use Rattle.answer.specs.declared.Error.{Error}
use Rattle.grammar.specs.declared.reading.Sizes.{Sizes}
use Rattle.answer.specs.declared.Answer.{Answer}
use Rattle.answer.specs.declared.Answer.TheVariants as answer

abbrev pub answer_of : Result Sizes Error → Answer
answer_of (Ok z) = answer.Passed
answer_of (Err e) = answer.Refused e
