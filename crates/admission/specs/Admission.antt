-- Which encoded grammars a lookahead takes: with one token all that are read; with two those that have few terminals, and a positive in each rule.
use Rattle.std.specs.Prelude.{Err, None, Ok, Option, Result, Some, ◌≡◌, Bool, true, false, ◌&&◌, ℕ, suc, ◌≤◌, leb, ltb}
use Rattle.grammar.specs.declared.reading.Sizes.{Sizes}
use mathlib.Core.List.{List, [], ◌∷◌, Memᴰ}
use Rattle.std.proofs.Math.Option.{Option as Maybe, none, some}
use Rattle.answer.specs.declared.Error.{Error}
use Rattle.answer.specs.declared.Error.TheVariants.{UnexpectedWord, TooManyTerminals}
use Rattle.answer.specs.Numbers.{coded}
use Rattle.answer.specs.Faults.{fault_if, first_fault}
use Rattle.base.specs.Choice.{choose}
use Rattle.word.specs.declared.Word.{Word}
use Rattle.word.specs.declared.Word.TheVariants.{Heading, Rule as RuleWord, Positive, Negative, Symbol, End, Invalid}
use Rattle.word.specs.Words.{decoded}
use Rattle.grammar.specs.Encoding.{grammar_of}
use Rattle.grammar.specs.Limits.{max_terminals_of_two}
use Rattle.grammar.specs.Syntax.{Rule, Grammar}
use Rattle.grammar.specs.Reading.{begins_rule, reading}
use Rattle.lookahead.specs.declared.Lookahead.{Lookahead}
use Rattle.lookahead.specs.declared.Lookahead.TheVariants.{One, Two}

-- what two tokens of lookahead ask of a grammar; one asks nothing
abbrev pub Fits : Lookahead → Grammar → Type 0
Fits One G = Unit {0}
Fits Two G = (G.terminals ≤ max_terminals_of_two) × ((r : Rule) → Memᴰ r G.rules → r.positives ≡ [] → ⊥)

abbrev pub begins_negative : Word → Bool
begins_negative Negative = true
begins_negative (RuleWord A) = false
begins_negative Positive = false
begins_negative (Symbol X) = false
begins_negative End = false
begins_negative (Heading n t) = false
begins_negative Invalid = false

-- the index of the first word that begins a negative right behind the begin of a rule, from an index on: such a rule has no positive; it is reported
-- whether the word before begins a rule
unfoldable pub alone_from : Bool → ℕ → List ℕ → Option ℕ
alone_from opened at [] = None
alone_from opened at (w ∷ ws) = choose (opened && begins_negative (decoded w)) (Some at) (alone_from (begins_rule (decoded w)) (suc at) ws)

abbrev pub first_alone : List ℕ → Option ℕ
first_alone words = alone_from false 0 words

-- 3 and 4: the length and the heading
abbrev pub of_heading : Result Sizes Error → Bool
of_heading (Ok z) = false
of_heading (Err e) = leb (coded e).code 4

abbrev pub heading_fault : Result Sizes Error → Maybe Error
heading_fault (Ok z) = none
heading_fault (Err e) = fault_if (of_heading (Err e)) e

-- 18
abbrev pub terminals_fault : List ℕ → Maybe Error
terminals_fault words = fault_if (ltb max_terminals_of_two (grammar_of words).terminals) TooManyTerminals

-- 5 to 7, and 5 where a rule has no positive: the first faulty word decides
abbrev pub word_fault : Result Sizes Error → Option ℕ → Maybe Error
word_fault (Ok z) None = none
word_fault (Ok z) (Some i) = some (UnexpectedWord i)
word_fault (Err e) None = some e
word_fault (Err e) (Some i) = some (choose (ltb i (coded e).position) (UnexpectedWord i) e)

-- with two tokens of lookahead, by what reading finds, in the papers' order: 3, 4, 18, and then 5 to 7
unfoldable pub two_tokens_fault : Result Sizes Error → List ℕ → Maybe Error
two_tokens_fault read words = first_fault (heading_fault read ∷ terminals_fault words ∷ word_fault read (first_alone words) ∷ [])

abbrev pub faulty_or : Maybe Error → Result Sizes Error → Result Sizes Error
faulty_or (some e) o = Err e
faulty_or none o = o

-- the first fault of an encoded grammar, or its sizes
abbrev pub admission : Lookahead → List ℕ → Result Sizes Error
admission One words = reading words
admission Two words = faulty_or (two_tokens_fault (reading words) words) (reading words)
