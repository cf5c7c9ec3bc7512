-- What is at the left of bodies, in numbers: a set in which nonterminal B weighs 2^B.
use mathlib.Core.List.{List, [], ◌∷◌, ◌++◌, Memᴰ}
use Rattle.std.specs.Prelude.{ℕ, ltb}
use Rattle.word.specs.declared.Symbol.{Symbol as GrammarSymbol}
use Rattle.word.specs.declared.Symbol.TheVariants.{Terminal, Nonterminal}
use Rattle.word.specs.declared.Word.{Word}
use Rattle.word.specs.declared.Word.TheVariants.{Heading, Rule as RuleWord, Positive, Negative, Symbol, End, Invalid}
use Rattle.base.specs.Choice.{choose}
use Rattle.grammar.specs.Limits.{max_nonterminals}
use Rattle.grammar.specs.Syntax.{Body, Rule, bodies}
use Rattle.grammar.specs.Encoding.{Parsed}
use Rattle.lookahead.specs.declared.Lookahead.{Lookahead}
use Rattle.lookahead.specs.Lookaheads.{nothing}
use Rattle.lookahead.specs.Elements.{weight, has}
use Rattle.lookahead.specs.inner.Elements.{Subset}
use Rattle.lookahead.specs.inner.Operations.{empty_set, join}
use Rattle.base.specs.Rounds.{NumberSet}
use Rattle.families.specs.declared.Left.{Left}
use Rattle.families.specs.inner.Least.{SetFamily}

-- the nonterminals whose first sets have nothing: those that are nullable
abbrev pub empty_in : Lookahead → SetFamily → NumberSet
empty_in k F A = has (F A) (nothing k)

-- a symbol in front of what is at the left of a body: a nonterminal and, if it is in the set s, what is behind
unfoldable pub symbol_left : NumberSet → GrammarSymbol → ℕ → ℕ
symbol_left s (Terminal a) behind = empty_set
symbol_left s (Nonterminal A) behind = choose (s A) (join (weight A) behind) (weight A)

unfoldable pub body_left : NumberSet → Body → ℕ
body_left s [] = empty_set
body_left s (X ∷ b) = symbol_left s X (body_left s b)

unfoldable pub bodies_left : NumberSet → List Body → ℕ
bodies_left s [] = empty_set
bodies_left s (b ∷ bs) = join (body_left s b) (bodies_left s bs)

-- of both signs
abbrev pub rule_left : NumberSet → Rule → ℕ
rule_left s r = bodies_left s (bodies r)

-- what is at the left of each rule's bodies is contained in its head's set
abbrev pub LeftClosed : NumberSet → List Rule → SetFamily → Type 0
LeftClosed s rs D = (r : Rule) → Memᴰ r rs → Subset (rule_left s r) (D r.head)

abbrev pub lefts : ℕ → ℕ → Left
lefts b r = record { body = record { bits = b }; rule = record { bits = r } }

-- of what is left of a body and of a rule's bodies
abbrev pub left_of : NumberSet → Parsed → Left
left_of s p = lefts (body_left s p.body) (bodies_left s (p.positives ++ p.negatives))

-- a symbol in front, where there is a set for it
abbrev pub own_left : NumberSet → GrammarSymbol → ℕ → ℕ
own_left s (Terminal a) behind = empty_set
own_left s (Nonterminal A) behind = choose (ltb A max_nonterminals) (symbol_left s (Nonterminal A) behind) empty_set

-- a word inside a rule in front: a symbol, or what ends the body before it
abbrev pub inside_left : NumberSet → Word → Left → Left
inside_left s (Symbol X) left = lefts (own_left s X left.body.bits) left.rule.bits
inside_left s Positive left = lefts empty_set (join left.body.bits left.rule.bits)
inside_left s Negative left = lefts empty_set (join left.body.bits left.rule.bits)
inside_left s End left = lefts empty_set (join left.body.bits left.rule.bits)
inside_left s (RuleWord A) left = lefts empty_set (join left.body.bits left.rule.bits)
inside_left s (Heading m n) left = lefts empty_set (join left.body.bits left.rule.bits)
inside_left s Invalid left = lefts empty_set (join left.body.bits left.rule.bits)
