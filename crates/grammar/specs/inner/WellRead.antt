-- What a reading without a fault tells: the grammar is well formed, of these sizes, and its rules begin where they are said to.
use Rattle.std.specs.Prelude.{◌≡◌, true, List, [], ◌∷◌, ℕ, ◌≤◌, ◌<◌, length, get_or, drop}
use Rattle.std.proofs.Math.Option.{some}
use Rattle.std.proofs.Math.ListN.{get_elem?}
use Rattle.word.specs.declared.Word.{Word}
use Rattle.word.specs.declared.Word.TheVariants.{Heading, Rule as RuleWord, Positive, Negative, Symbol, End, Invalid}
use Rattle.word.specs.Words.{decoded}
use Rattle.grammar.specs.declared.reading.Sizes.{Sizes}
use Rattle.grammar.specs.Limits.{max_words, max_nonterminals, max_terminals, max_rules}
use Rattle.grammar.specs.Syntax.{Rule, WellFormed}
use Rattle.grammar.specs.Encoding.{rule_of, parse, grammar_of}
use Rattle.grammar.specs.Reading.{begins_rule}
use Rattle.grammar.specs.inner.Starts.{rule_starts}

-- the nonterminal that a rule defines
abbrev pub head_of : Word → ℕ
head_of (RuleWord A) = A
head_of Positive = 0
head_of Negative = 0
head_of (Symbol X) = 0
head_of End = 0
head_of (Heading n t) = 0
head_of Invalid = 0

-- the rule that begins with a row of words
unfoldable pub rule_read : List ℕ → Rule
rule_read [] = rule_of 0 (parse [])
rule_read (w ∷ ws) = rule_of (head_of (decoded w)) (parse ws)

-- a rule begins at an index behind the heading
pub record Begun (words : List ℕ) (i : ℕ) : Type 0 where
  pub low : 0 < i
  pub high : i < length words
  pub word : begins_rule (decoded (get_or words i 0)) ≡ true

pub record WellRead (words : List ℕ) (z : Sizes) : Type 0 where
  pub short : length words ≤ max_words
  pub nonterminals : z.nonterminals ≡ (grammar_of words).nonterminals
  pub some_nonterminal : 0 < z.nonterminals
  pub few_nonterminals : z.nonterminals ≤ max_nonterminals
  pub terminals : z.terminals ≡ (grammar_of words).terminals
  pub some_terminal : 0 < z.terminals
  pub few_terminals : z.terminals ≤ max_terminals
  pub rules : z.rules ≡ length (grammar_of words).rules
  pub few_rules : z.rules ≤ max_rules
  pub formed : WellFormed (grammar_of words)
  pub begun : (q : ℕ) → q < z.rules → Begun words (get_or (rule_starts words) q 0)
  pub begins : (q : ℕ) → q < z.rules → get_elem? (grammar_of words).rules q ≡ some (rule_read (drop (get_or (rule_starts words) q 0) words))
