-- What reading an encoded grammar finds: its first fault, or its sizes.
use Rattle.std.specs.Prelude.{Err, Ok, Result, Bool, true, false, ◌&&◌, List, [], ◌∷◌, ℕ, suc, ◌+◌, leb, ltb, length}
use Rattle.answer.specs.declared.Error.{Error}
use Rattle.answer.specs.declared.Error.TheVariants.{Length, Heading as HeadingFault, UnexpectedWord, OutOfRange, TooManyRules}
use Rattle.word.specs.declared.Symbol.TheVariants.{Terminal, Nonterminal}
use Rattle.word.specs.declared.Symbol as symbol
use Rattle.word.specs.declared.Word.{Word}
use Rattle.word.specs.declared.Word.TheVariants.{Heading, Rule, Positive, Negative, Symbol, End, Invalid}
use Rattle.base.specs.Choice.{choose}
use Rattle.word.specs.Words.{decoded}
use Rattle.grammar.specs.declared.reading.State.{State}
use Rattle.grammar.specs.declared.reading.State.TheVariants.{Before, Opened, InPositive, InNegative, Closed}
use Rattle.grammar.specs.declared.reading.Sizes.{Sizes}
use Rattle.grammar.specs.declared.reading.Progress.{Progress}
use Rattle.grammar.specs.Limits.{max_words, max_nonterminals, max_terminals, max_rules}
use Rattle.grammar.specs.Encoding.{declared_by}

abbrev pub row : Bool → Bool → Bool → Bool → Bool → State → Bool
row b o p n c Before = b
row b o p n c Opened = o
row b o p n c InPositive = p
row b o p n c InNegative = n
row b o p n c Closed = c

-- which word may stand where; the columns: behind the heading, behind a rule's begin, in a positive and in a negative conjunct, behind the end
abbrev pub allows : Word → State → Bool
allows (Rule A) s = row true false true true false s
allows Positive s = row false true true false false s
allows Negative s = row false true true true false s
allows (Symbol X) s = row false false true true false s
allows End s = row true false true true false s
allows (Heading n t) s = false
allows Invalid s = false

-- where the next word stands
abbrev pub state_after : Word → State → State
state_after (Rule A) s = Opened
state_after Positive s = InPositive
state_after Negative s = InNegative
state_after (Symbol X) s = s
state_after End s = Closed
state_after (Heading n t) s = s
state_after Invalid s = s

abbrev pub symbol_in_range : symbol.Symbol → Sizes → Bool
symbol_in_range (Terminal a) z = ltb a z.terminals
symbol_in_range (Nonterminal A) z = ltb A z.nonterminals

abbrev pub in_range : Word → Sizes → Bool
in_range (Rule A) z = ltb A z.nonterminals
in_range Positive z = true
in_range Negative z = true
in_range (Symbol X) z = symbol_in_range X z
in_range End z = true
in_range (Heading n t) z = true
in_range Invalid z = true

abbrev pub begins_rule : Word → Bool
begins_rule (Rule A) = true
begins_rule Positive = false
begins_rule Negative = false
begins_rule (Symbol X) = false
begins_rule End = false
begins_rule (Heading n t) = false
begins_rule Invalid = false

abbrev pub progress : State → Sizes → Progress
progress s z = record { state = s; sizes = z }

abbrev pub one_more : Sizes → Sizes
one_more z = record { nonterminals = z.nonterminals; terminals = z.terminals; rules = z.rules + 1 }

-- one rule more, where there is room for it
unfoldable pub counted : State → Sizes → ℕ → Result Progress Error
counted s z at = choose (leb max_rules z.rules) (Err (TooManyRules at)) (Ok (progress s (one_more z)))

-- the word at an index: the first of three faults, or the progress behind it
unfoldable pub stepped : Word → Progress → ℕ → Result Progress Error
stepped w p at =
    choose (allows w p.state)
    (choose (in_range w p.sizes)
    (choose (begins_rule w) (counted (state_after w p.state) p.sizes at) (Ok (progress (state_after w p.state) p.sizes)))
    (Err (OutOfRange at)))
    (Err (UnexpectedWord at))

unfoldable pub on_step : Result Progress Error → (Progress → Result Sizes Error) → Result Sizes Error
on_step (Ok p) f = f p
on_step (Err e) f = Err e

-- behind the last word: the end must have been there
unfoldable pub finished : Progress → ℕ → Result Sizes Error
finished p at = choose (row false false false false true p.state) (Ok p.sizes) (Err (UnexpectedWord at))

-- the words from an index on
unfoldable pub scan : Progress → ℕ → List ℕ → Result Sizes Error
scan p at [] = finished p at
scan p at (w ∷ ws) = on_step (stepped (decoded w) p at) (λ q. scan q (suc at) ws)

abbrev pub fresh : Sizes → Progress
fresh z = progress Before z

unfoldable pub is_within : ℕ → ℕ → Bool
is_within n limit = ltb 0 n && leb n limit

-- by what the first word declares, and the words behind it
unfoldable pub headed : Sizes → List ℕ → Result Sizes Error
headed z ws = choose (is_within z.nonterminals max_nonterminals && is_within z.terminals max_terminals) (scan (fresh z) 1 ws) (Err HeadingFault)

unfoldable pub opened : List ℕ → Result Sizes Error
opened [] = Err HeadingFault
opened (w ∷ ws) = headed (declared_by (decoded w)) ws

unfoldable pub reading : List ℕ → Result Sizes Error
reading words = choose (ltb max_words (length words)) (Err Length) (opened words)
