-- The grammar that a row of words encodes: a right fold, total on any row.
use Rattle.std.specs.Prelude.{List, [], ◌∷◌, ℕ}
use Rattle.word.specs.declared.Word.{Word}
use Rattle.word.specs.declared.Word.TheVariants.{Heading, Rule as RuleWord, Positive, Negative, Symbol, End, Invalid}
use Rattle.word.specs.Words.{decoded}
use Rattle.grammar.specs.declared.reading.Sizes.{Sizes}
use Rattle.grammar.specs.Syntax.{Body, Rule, Grammar}

-- what a row of words says: the rules that begin in it and, of a rule that began before it, the body and the conjuncts left
pub record Parsed : Type 0 where
  pub body : Body
  pub positives : List Body
  pub negatives : List Body
  pub rules : List Rule

abbrev pub parsed : Body → List Body → List Body → List Rule → Parsed
parsed b ps ns rs = record { body = b; positives = ps; negatives = ns; rules = rs }

abbrev pub rule_of : ℕ → Parsed → Rule
rule_of A p = record { head = A; positives = p.positives; negatives = p.negatives }

-- a symbol goes in front of the body; the begin of a conjunct closes the body, and that of a rule closes the rule
unfoldable pub on_word : Word → Parsed → Parsed
on_word (RuleWord A) p = parsed [] [] [] (rule_of A p ∷ p.rules)
on_word Positive p = parsed [] (p.body ∷ p.positives) p.negatives p.rules
on_word Negative p = parsed [] p.positives (p.body ∷ p.negatives) p.rules
on_word (Symbol X) p = parsed (X ∷ p.body) p.positives p.negatives p.rules
on_word End p = parsed [] [] [] p.rules
on_word (Heading n t) p = p
on_word Invalid p = p

unfoldable pub parse : List ℕ → Parsed
parse [] = parsed [] [] [] []
parse (w ∷ ws) = on_word (decoded w) (parse ws)

abbrev pub sizes : ℕ → ℕ → ℕ → Sizes
sizes n t r = record { nonterminals = n; terminals = t; rules = r }

-- what a heading declares; another word declares nothing
abbrev pub declared_by : Word → Sizes
declared_by (Heading n t) = sizes n t 0
declared_by (RuleWord A) = sizes 0 0 0
declared_by Positive = sizes 0 0 0
declared_by Negative = sizes 0 0 0
declared_by (Symbol X) = sizes 0 0 0
declared_by End = sizes 0 0 0
declared_by Invalid = sizes 0 0 0

-- the grammar that a row of words encodes (document 01: a card)
unfoldable pub grammar_of : List ℕ → Grammar
grammar_of [] = record { nonterminals = 0; terminals = 0; rules = [] }
grammar_of (w ∷ ws) =
    let z = declared_by (decoded w) in
    record { nonterminals = z.nonterminals; terminals = z.terminals; rules = (parse ws).rules }
