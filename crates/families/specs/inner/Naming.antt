-- The nonterminals that a word of an encoded grammar names.
use Rattle.std.proofs.Math.Option.{Option, none, some}
use Rattle.std.specs.Prelude.{ℕ, ◌<◌}
use Rattle.word.specs.declared.Symbol.{Symbol as GrammarSymbol}
use Rattle.word.specs.declared.Symbol.TheVariants.{Terminal, Nonterminal}
use Rattle.word.specs.declared.Word.{Word}
use Rattle.word.specs.declared.Word.TheVariants.{Heading, Rule, Positive, Negative, Symbol, End, Invalid}
use Rattle.grammar.specs.Limits.{max_nonterminals}

abbrev pub symbol_name : GrammarSymbol → Option ℕ
symbol_name (Terminal a) = none
symbol_name (Nonterminal A) = some A

-- the nonterminal that stands in a body
abbrev pub nonterminal_of : Word → Option ℕ
nonterminal_of (Symbol X) = symbol_name X
nonterminal_of (Rule A) = none
nonterminal_of Positive = none
nonterminal_of Negative = none
nonterminal_of End = none
nonterminal_of (Heading n t) = none
nonterminal_of Invalid = none

abbrev pub IndexedSymbol : GrammarSymbol → Type 0
IndexedSymbol (Terminal a) = Unit {0}
IndexedSymbol (Nonterminal A) = A < max_nonterminals

-- an array of sets has one for what the word names
abbrev pub Indexed : Word → Type 0
Indexed (Rule A) = A < max_nonterminals
Indexed Positive = Unit {0}
Indexed Negative = Unit {0}
Indexed (Symbol X) = IndexedSymbol X
Indexed End = Unit {0}
Indexed (Heading n t) = Unit {0}
Indexed Invalid = Unit {0}
