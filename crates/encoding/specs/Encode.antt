-- The words of a grammar, and what it is for a row of words to encode one.
use Rattle.std.specs.Prelude.{◌≡◌, List, [], ◌∷◌, ℕ, ◌+◌, ◌*◌, ◌^◌, ◌≤◌, ◌<◌, length}
use Rattle.word.specs.declared.Symbol.{Symbol}
use Rattle.word.specs.declared.Symbol.TheVariants.{Terminal, Nonterminal}
use Rattle.grammar.specs.declared.reading.Sizes.{Sizes}
use Rattle.grammar.specs.Limits.{max_nonterminals, max_terminals, max_rules}
use Rattle.grammar.specs.Syntax.{Body, Rule, Grammar, WellFormed}
use Rattle.grammar.specs.Encoding.{sizes}

-- a word: its kind in the top four bits, its payload in the other 28
abbrev pub word_of : ℕ → ℕ → ℕ
word_of k p = k * 2 ^ 28 + p

-- the number of nonterminals in bits 0 to 7, of terminals in bits 8 to 15
abbrev pub heading_word : ℕ → ℕ → ℕ
heading_word n t = word_of 1 (t * 2 ^ 8 + n)

abbrev pub rule_word : ℕ → ℕ
rule_word A = word_of 2 A

abbrev pub positive_word : ℕ
positive_word = word_of 3 0

abbrev pub negative_word : ℕ
negative_word = word_of 4 0

abbrev pub symbol_word : Symbol → ℕ
symbol_word (Terminal a) = word_of 5 a
symbol_word (Nonterminal A) = word_of 6 A

abbrev pub end_word : ℕ
end_word = word_of 7 0

-- a body's symbols, and behind them the words ws
unfoldable pub body_words : Body → List ℕ → List ℕ
body_words [] ws = ws
body_words (X ∷ b) ws = symbol_word X ∷ body_words b ws

-- conjuncts, each behind the word that begins it
unfoldable pub conjunct_words : ℕ → List Body → List ℕ → List ℕ
conjunct_words begin [] ws = ws
conjunct_words begin (b ∷ bs) ws = begin ∷ body_words b (conjunct_words begin bs ws)

-- a rule: its head, the positive conjuncts, the negative ones
unfoldable pub rule_words : Rule → List ℕ → List ℕ
rule_words r ws = rule_word r.head ∷ conjunct_words positive_word r.positives (conjunct_words negative_word r.negatives ws)

unfoldable pub rules_words : List Rule → List ℕ → List ℕ
rules_words [] ws = ws
rules_words (r ∷ rs) ws = rule_words r (rules_words rs ws)

-- the words of a grammar (document 01: its card)
unfoldable pub encode : Grammar → List ℕ
encode G = heading_word G.nonterminals G.terminals ∷ rules_words G.rules (end_word ∷ [])

abbrev pub sizes_of : Grammar → Sizes
sizes_of G = sizes G.nonterminals G.terminals (length G.rules)

-- the limits on a grammar's numbers
pub record WithinLimits (G : Grammar) : Type 0 where
  pub some_nonterminal : 0 < G.nonterminals
  pub few_nonterminals : G.nonterminals ≤ max_nonterminals
  pub some_terminal : 0 < G.terminals
  pub few_terminals : G.terminals ≤ max_terminals
  pub few_rules : length G.rules ≤ max_rules

-- the words are those of the grammar, which is well formed and within the limits; how many words they are is not asked here
pub record Encodes (words : List ℕ) (G : Grammar) : Type 0 where
  pub formed : WellFormed G
  pub limited : WithinLimits G
  pub encoded : words ≡ encode G
