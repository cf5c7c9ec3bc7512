-- What the parts of judging by tabulation are given, and what they leave.
use Rattle.std.specs.Prelude.{Result, ◌≡◌, List, ℕ, ◌≤◌, length}
use Rattle.answer.specs.declared.Error.{Error}
use Rattle.answer.specs.declared.Answer.{Answer}
use Rattle.answer.specs.declared.Error.TheVariants.{SpansTooShort}
use Rattle.grammar.specs.Limits.{max_tabular_tokens, max_span_words}
use Rattle.grammar.specs.Encoding.{grammar_of}
use Rattle.grammar.specs.declared.reading.Sizes.{Sizes}
use Rattle.lookahead.specs.declared.Lookahead.TheVariants.{One}
use Rattle.families.specs.declared.Families.{Families}
use Rattle.families.specs.inner.Analysis.{families_of}
use Rattle.promises.specs.inner.Inputs.{with_input_to, with_room}
use Rattle.tabular_promises.specs.inner.Filling.{FillGiven}
use Rattle.tabular_promises.specs.inner.Spans.{Spans}
use Rattle.tabular_promises.specs.Answers.{tabular_verdict}
use Rattle.tabular_promises.specs.Spans.{solution_word}

pub record TabulateGiven (words starts : List ℕ) (z : Sizes) (reaches w spans : List ℕ) : Type 0 where
  pub given : FillGiven words starts z reaches w
  pub room : max_span_words ≤ length spans

-- the verdict, and every word of the lent memory
pub record Tabulated (words w before : List ℕ) (r : Answer) (after : List ℕ) : Type 0 where
  pub verdict : r ≡ tabular_verdict (grammar_of words) w
  pub memory : Spans (length w) (solution_word (grammar_of words) w) before after

-- what is found of the lent words, of a grammar and then of an input
pub record FoundGiven (words : List ℕ) (f : Result Sizes Error) (starts reaches input spans : List ℕ) : Type 0 where
  pub families : Families
  pub found : families ≡ families_of One words
  pub finding : f ≡ with_room (length spans) max_span_words SpansTooShort (with_input_to max_tabular_tokens families.finding input)
  pub begins : starts ≡ families.starts
  pub reached : reaches ≡ families.reaches
