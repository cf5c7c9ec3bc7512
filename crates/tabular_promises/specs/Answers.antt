-- What judging by tabulation answers: the first refusal that holds, in document 02's order, or else a verdict.
use Rattle.std.specs.Prelude.{Bool, List, [], ◌∷◌, ◌++◌, ℕ, ltb, length}
use Rattle.std.proofs.Math.Option.{Option}
use Rattle.answer.specs.declared.Error.{Error}
use Rattle.answer.specs.declared.Error.TheVariants.{InputTooLong, SpansTooShort}
use Rattle.answer.specs.declared.Calls.{Calls}
use Rattle.answer.specs.declared.Answer.{Answer}
use Rattle.answer.specs.declared.Answer.TheVariants.{Accepted, Rejected}
use Rattle.answer.specs.Faults.{fault_if, first_fault}
use Rattle.base.specs.Choice.{choose}
use Rattle.grammar.specs.Limits.{max_tabular_tokens, max_span_words}
use Rattle.grammar.specs.Syntax.{Grammar}
use Rattle.grammar.specs.Encoding.{grammar_of}
use Rattle.lookahead.specs.declared.Lookahead.TheVariants.{One}
use Rattle.semantics.specs.Valuations.{solution}
use Rattle.families.specs.Analysis.{sets_faults}
use Rattle.event.specs.Unknown.{unknown_from, unknown_fault}
use Rattle.tabular_promises.specs.Spans.{span_words, solution_word}

-- why judging is refused: the lent words of the spans, the grammar's faults but for clashes, then the input's
unfoldable pub tabular_fault : ℕ → List ℕ → List ℕ → Option Error
tabular_fault spans words input =
    first_fault
    (fault_if (ltb spans max_span_words) SpansTooShort
    ∷ sets_faults One words
    ++ fault_if (ltb max_tabular_tokens (length input)) InputTooLong
    ∷ unknown_fault (unknown_from (grammar_of words).terminals 0 input)
    ∷ [])

-- no call is made: count and farthest place are 0
abbrev pub no_calls : Calls
no_calls = record { count = 0; farthest = 0 }

abbrev pub told : Bool → Answer
told b = choose b (Accepted no_calls) (Rejected no_calls)

-- accepted exactly when the one solution gives the whole input to the start
unfoldable pub tabular_verdict : Grammar → List ℕ → Answer
tabular_verdict G w = told (solution G w 0 0 (length w))

-- the words of the spans, by start, then by end
unfoldable pub tabular_words : Grammar → List ℕ → List ℕ
tabular_words G w = span_words (length w) (solution_word G w)
