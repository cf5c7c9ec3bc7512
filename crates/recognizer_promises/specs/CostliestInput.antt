-- Which input of a length is the costliest, and why judging it is refused.
use Rattle.std.specs.Prelude.{List, ◌∷◌, ◌++◌, ℕ, ltb}
use Rattle.std.proofs.Math.Option.{Option}
use Rattle.answer.specs.Faults.{fault_if, first_fault}
use Rattle.answer.specs.declared.Error.{Error}
use Rattle.answer.specs.declared.Error.TheVariants.{TableTooShort, MemoTooShort, BufferTooShort}
use Rattle.grammar.specs.Limits.{max_tokens, max_table_words, max_memo_entries}
use Rattle.grammar.specs.Syntax.{Grammar}
use Rattle.grammar.specs.Encoding.{grammar_of}
use Rattle.lookahead.specs.declared.Lookahead.TheVariants.{One}
use Rattle.inputs.specs.Costliest.{costliest}
use Rattle.table_promises.specs.Analysis.{grammar_faults}
use Rattle.promises.specs.Lengths.{length_faults}
use Rattle.recognizer_promises.specs.Answers.{calls_of}

-- how many calls the descent makes on an input (document 01: the count)
abbrev pub calls_on : Grammar → List ℕ → ℕ
calls_on G w = (calls_of One G w).count

-- of all inputs of n terminals the first, in letter order, with the most calls (document 02: the most costly log)
abbrev pub costliest_input : Grammar → ℕ → List ℕ
costliest_input G n = costliest (calls_on G) G.terminals n

-- why the call is refused, in document 02's order, by the lengths of the lent memories
unfoldable pub costliest_fault : ℕ → ℕ → ℕ → List ℕ → ℕ → Option Error
costliest_fault log table memo words n =
    first_fault
    (fault_if (ltb table max_table_words) TableTooShort
    ∷ fault_if (ltb memo max_memo_entries) MemoTooShort
    ∷ fault_if (ltb log max_tokens) BufferTooShort
    ∷ grammar_faults One words
    ++ length_faults (grammar_of words).terminals n)
