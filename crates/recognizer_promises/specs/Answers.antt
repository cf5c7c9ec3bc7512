-- What a call answers: the first refusal that holds, in the papers' order, or else a verdict.
use Rattle.std.specs.Prelude.{List, ◌∷◌, ◌++◌, ℕ, ltb}
use Rattle.std.proofs.Math.Option.{Option}
use Rattle.answer.specs.declared.Error.{Error}
use Rattle.answer.specs.declared.Error.TheVariants.{TableTooShort, MemoTooShort, TableOfTwoTooShort}
use Rattle.answer.specs.declared.Calls.{Calls}
use Rattle.answer.specs.declared.Answer.{Answer}
use Rattle.answer.specs.declared.Answer.TheVariants.{Rejected, Accepted}
use Rattle.answer.specs.Faults.{fault_if, first_fault}
use Rattle.base.specs.Choice.{choose}
use Rattle.grammar.specs.Limits.{max_tokens, max_memo_entries}
use Rattle.grammar.specs.Syntax.{Grammar}
use Rattle.grammar.specs.Encoding.{grammar_of}
use Rattle.semantics.specs.Choices.{Choice, table_choice}
use Rattle.semantics.specs.Descent.{accepts}
use Rattle.semantics.specs.Calls.{call_count, farthest}
use Rattle.lookahead.specs.declared.Lookahead.{Lookahead}
use Rattle.lookahead.specs.declared.Lookahead.TheVariants.{One, Two}
use Rattle.lookahead.specs.Lookaheads.{tokens}
use Rattle.table_promises.specs.Layout.{table_room}
use Rattle.table_promises.specs.Analysis.{grammar_faults}
use Rattle.promises.specs.Inputs.{input_faults_to}

-- the lent table is too short: 17 stands in the place of 1
abbrev pub table_too_short : Lookahead → Error
table_too_short One = TableTooShort
table_too_short Two = TableOfTwoTooShort

-- why checking with a lookahead is refused, in the papers' order: the table's length, then the grammar's faults
unfoldable pub check_fault : Lookahead → ℕ → List ℕ → Option Error
check_fault k table words = first_fault (fault_if (ltb table (table_room k)) (table_too_short k) ∷ grammar_faults k words)

-- the faults of an input for a grammar of n terminals
abbrev pub input_faults : ℕ → List ℕ → List (Option Error)
input_faults = input_faults_to max_tokens

-- why judging is refused
unfoldable pub judge_fault : Lookahead → ℕ → ℕ → List ℕ → List ℕ → Option Error
judge_fault k table memo words input =
    first_fault
    (fault_if (ltb table (table_room k)) (table_too_short k)
    ∷ fault_if (ltb memo max_memo_entries) MemoTooShort
    ∷ grammar_faults k words
    ++ input_faults (grammar_of words).terminals input)

-- which rule the table chooses at each call
abbrev pub choice_of : Lookahead → Grammar → List ℕ → Choice
choice_of k G w = table_choice G (tokens k) w

-- the calls that the descent makes, counted
abbrev pub calls_of : Lookahead → Grammar → List ℕ → Calls
calls_of k G w = record { count = call_count G (choice_of k G w) w; farthest = farthest G (choice_of k G w) w }

-- its verdict
unfoldable pub verdict_of : Lookahead → Grammar → List ℕ → Answer
verdict_of k G w = choose (accepts G (choice_of k G w) w) (Accepted (calls_of k G w)) (Rejected (calls_of k G w))
