-- What the tabular judge promises, on one page: what it answers, what the lent words of the spans hold, and what that means.
use Rattle.std.specs.Prelude.{◌≡◌, true, false, List, [], ◌∷◌, ◌↔◌, ℕ, ◌≤◌, ◌<◌, length, get_or}
use Rattle.answer.specs.Numbers.{numbers}
use Rattle.answer.specs.declared.Answer.{Answer}
use Rattle.answer.specs.declared.Answer.TheVariants.{Refused, Accepted, Rejected}
use Rattle.answer.specs.declared.Error.TheVariants.{LeftRecursive, Unproductive}
use Rattle.grammar.specs.Limits.{max_words, max_tabular_tokens, max_span_words}
use Rattle.grammar.specs.Syntax.{Grammar}
use Rattle.grammar.specs.Encoding.{grammar_of}
use Rattle.encoding.specs.Encode.{Encodes}
use Rattle.encoding.specs.Faithful.{FaithfulReading}
use Rattle.lookahead.specs.declared.Lookahead.TheVariants.{One}
use Rattle.lookahead.specs.Elements.{has}
use Rattle.base.specs.Strings.{Over}
use Rattle.semantics.specs.Valuations.{Valuation, Solves}
use Rattle.semantics.specs.LeftRecursion.{NoLeftRecursion}
use Rattle.semantics.specs.Theorems.{OneSolution}
use Rattle.promises.specs.Leaving.{lent, Leaves}
use Rattle.promises.specs.Places.{AllProductive, LowestRecursive, LowestUnproductive}
use Rattle.tabular_promises.specs.Spans.{span_index}
use Rattle.tabular_promises.specs.Answers.{tabular_fault, no_calls, tabular_verdict, tabular_words}

-- at most 2,048 words that encode a well-formed grammar within the limits, not left-recursive and without an empty first set; it may have clashes
pub record FreeGrammar (words : List ℕ) : Type 0 where
  pub short : length words ≤ max_words
  pub grammar : Grammar
  pub encodes : Encodes words grammar
  pub free : NoLeftRecursion grammar
  pub productive : AllProductive One grammar

-- such a grammar, and an input of at most 48 tokens, all of which are its terminals
pub record Tabular (words input : List ℕ) : Type 0 where
  pub taken : FreeGrammar words
  pub short : length input ≤ max_tabular_tokens
  pub known : Over (grammar_of words).terminals input

-- where a grammar is refused: 8 names the lowest nonterminal that reaches itself, 13 then the lowest whose first set is empty
pub record Places (G : Grammar) (r : Answer) : Type 0 where
  pub recursive : (A : ℕ) → (r ≡ Refused (LeftRecursive A)) ↔ LowestRecursive G A
  pub unproductive : (A : ℕ) → (r ≡ Refused (Unproductive A)) ↔ (NoLeftRecursion G × LowestUnproductive One G A)

-- exactly one valuation v solves the grammar on the input, the answer is acceptance just if v gives the whole input to the start, and each span has its word,
-- in which the bits of the grammar's nonterminals are what v says of the span and the others are zero
-- need not be believed: solution (one_solution); tabular_verdict (accepted, rejected); solution_word (span, others)
pub record Tabulates (G : Grammar) (input : List ℕ) (r : Answer) (spans' : List ℕ) : Type 0 where
  pub one_solution : OneSolution G input
  pub accepted : (v : Valuation) → Solves G input v → (r ≡ Accepted no_calls) ↔ (v 0 0 (length input) ≡ true)
  pub rejected : (v : Valuation) → Solves G input v → (r ≡ Rejected no_calls) ↔ (v 0 0 (length input) ≡ false)
  pub span : (v : Valuation) → Solves G input v → (i j : ℕ) → i ≤ j → j ≤ length input → (A : ℕ) → A < G.nonterminals
      → has (get_or spans' (span_index (length input) i j) 0) A ≡ v A i j
  pub others : (i j : ℕ) → i ≤ j → j ≤ length input → (A : ℕ) → G.nonterminals ≤ A → has (get_or spans' (span_index (length input) i j) 0) A ≡ false

-- judging an input with lent words for its spans. The input is what a log's events are (`input_of`), without their directions
-- need not be believed: reading, grammar_of (faithful)
pub record TabularJudges (words input spans : List ℕ) (r : Answer) (spans' : List ℕ) : Type 0 where
  pub faithful : FaithfulReading words
  pub leaves : Leaves (tabular_fault (length spans) words input) (tabular_verdict (grammar_of words) input) r
      (lent spans (tabular_words (grammar_of words) input) spans' ∷ [])
  pub places : max_span_words ≤ length spans → length words ≤ max_words → (G : Grammar) → Encodes words G → Places G r
  -- it refuses nothing for a table, a memo table or an entry
  pub never : ((numbers r).code ≡ 1 → ⊥) × ((numbers r).code ≡ 2 → ⊥) × ((numbers r).code ≡ 9 → ⊥)
  pub tabulates : max_span_words ≤ length spans → Tabular words input → Tabulates (grammar_of words) input r spans'
