-- What `check` and `judge` promise, on one page, with one token of lookahead or two. Begin with `Checks` and `Judges`, at the end: what goes in stands before
-- the answer `r`, and what lent memory holds afterwards has a prime. A call of Rattle ends, and every field is proved of it. No call here has a `requires`, so
-- none relies on another.
use Rattle.std.specs.Prelude.{◌≡◌, true, false, List, [], ◌∷◌, ◌↔◌, ℕ, suc, ◌*◌, ◌≤◌, length}
use Rattle.answer.specs.declared.Answer.{Answer}
use Rattle.answer.specs.declared.Answer.TheVariants.{Refused, Passed, Accepted, Rejected}
use Rattle.answer.specs.declared.Error.TheVariants.{LeftRecursive, Unproductive}
use Rattle.answer.specs.Numbers.{refused, numbers}
use Rattle.grammar.specs.Limits.{max_memo_entries, max_tokens, max_words}
use Rattle.grammar.specs.Syntax.{Grammar}
use Rattle.grammar.specs.Encoding.{grammar_of}
use Rattle.encoding.specs.Encode.{Encodes}
use Rattle.lookahead.specs.declared.Lookahead.{Lookahead}
use Rattle.lookahead.specs.Lookaheads.{tokens}
use Rattle.admission.specs.Admission.{Fits}
use Rattle.base.specs.Strings.{Over}
use Rattle.semantics.specs.Valuations.{Valuation, Solves}
use Rattle.semantics.specs.LeftRecursion.{NoLeftRecursion}
use Rattle.semantics.specs.Memo.{Recorded}
use Rattle.semantics.specs.Theorems.{OneSolution, DescentEnds, CallsCounted}
use Rattle.following.specs.Theorems.{EntriesTell}
use Rattle.table_promises.specs.Conflicts.{FirstClash}
use Rattle.table_promises.specs.Layout.{table_words, table_room}
use Rattle.table_promises.specs.Analysis.{conflict_error}
use Rattle.promises.specs.Leaving.{lent, Leaves}
use Rattle.promises.specs.Places.{AllProductive, LowestRecursive, LowestUnproductive}
use Rattle.recognizer_promises.specs.LeastFamilies.{Clashless}
use Rattle.recognizer_promises.specs.Words.{Understood}
use Rattle.recognizer_promises.specs.Memory.{memo_words}
use Rattle.recognizer_promises.specs.Answers.{choice_of, check_fault, judge_fault, calls_of, verdict_of}

-- a grammar that passes (document 01: a passed card): at most 2,048 words that encode a well-formed grammar within the limits, also those of the
-- lookahead, not left-recursive, without an empty first set and without a clash
pub record PassedGrammar (k : Lookahead) (words : List ℕ) : Type 0 where
  pub short : length words ≤ max_words
  pub grammar : Grammar
  pub encodes : Encodes words grammar
  pub fits : Fits k grammar
  pub free : NoLeftRecursion grammar
  pub productive : AllProductive k grammar
  pub clashless : Clashless k grammar

-- where a grammar that fits the lookahead is refused: 8 comes before 13, and 13 before 9, which names the first clash by nonterminal, then column
-- need not be believed: lowest_left_recursive (recursive); lowest_unproductive (unproductive); first_clash (conflict)
pub record Places (k : Lookahead) (G : Grammar) (r : Answer) : Type 0 where
  pub recursive : (A : ℕ) → (r ≡ Refused (LeftRecursive A)) ↔ LowestRecursive G A
  pub unproductive : (A : ℕ) → (r ≡ Refused (Unproductive A)) ↔ (NoLeftRecursion G × LowestUnproductive k G A)
  pub conflict : (A c : ℕ) → (r ≡ Refused (conflict_error k A c)) ↔ (NoLeftRecursion G × AllProductive k G × FirstClash k G A c)

-- what property 3 asks for: memories that are long enough; a grammar that passes, and an input that is short enough, of its terminals alone
pub record Room (k : Lookahead) (table memo : List ℕ) : Type 0 where
  pub long_table : table_room k ≤ length table
  pub long_memo : max_memo_entries ≤ length memo

pub record Judgeable (k : Lookahead) (words input : List ℕ) : Type 0 where
  pub passed : PassedGrammar k words
  pub short : length input ≤ max_tokens
  pub known : Over (grammar_of words).terminals input

-- property 3: exactly one valuation solves the grammar on the input, and the answer is acceptance just if it gives the whole input to the start; the
-- answer's numbers are those of the descent's calls, whose outcomes are the only ones that the rules give; the memo table's words are these outcomes and
-- nothing else, and tell which spans belong to a nonterminal, wherever what comes next may follow it
-- need not be believed: solution (one_solution); accepts, verdict_of (accepted, rejected); call_count, farthest (calls); descend (descent); memo_words (memo)
pub record Recognizes (k : Lookahead) (G : Grammar) (input : List ℕ) (r : Answer) (memo' : List ℕ) : Type 0 where
  pub one_solution : OneSolution G input
  pub accepted : (v : Valuation) → Solves G input v → (r ≡ Accepted (calls_of k G input)) ↔ (v 0 0 (length input) ≡ true)
  pub rejected : (v : Valuation) → Solves G input v → (r ≡ Rejected (calls_of k G input)) ↔ (v 0 0 (length input) ≡ false)
  pub calls : CallsCounted G (choice_of k G input) input
  pub few : (calls_of k G input).count ≤ G.nonterminals * suc (length input)
  pub descent : DescentEnds G (choice_of k G input) input
  pub memo : Recorded G (choice_of k G input) input (memo_words k G input)
  pub entries : EntriesTell G (tokens k) input memo'

-- checking a grammar's words with a lent table: property 1 (`leaves`), and property 2: passed just if the grammar passes, else refused at its first fault
pub record Checks (k : Lookahead) (words table : List ℕ) (r : Answer) (table' : List ℕ) : Type 0 where
  pub understood : Understood k words
  pub leaves : Leaves (check_fault k (length table) words) Passed r (lent table (table_words k (grammar_of words)) table' ∷ [])
  pub passed : table_room k ≤ length table → (r ≡ Passed) ↔ PassedGrammar k words
  pub places : table_room k ≤ length table → length words ≤ max_words → (G : Grammar) → Encodes words G → Fits k G → Places k G r

-- judging an input with a lent table and a lent memo table: property 1 (`leaves`), and property 3, whatever the memories held. The input is what a log's
-- events are (`input_of`), without their directions
pub record Judges (k : Lookahead) (words input table memo : List ℕ) (r : Answer) (table' memo' : List ℕ) : Type 0 where
  pub understood : Understood k words
  pub leaves : Leaves (judge_fault k (length table) (length memo) words input) (verdict_of k (grammar_of words) input) r
      (lent table (table_words k (grammar_of words)) table' ∷ lent memo (memo_words k (grammar_of words) input) memo' ∷ [])
  pub places : Room k table memo → length words ≤ max_words → (G : Grammar) → Encodes words G → Fits k G → Places k G r
  -- unless judging is refused, the table is as checking leaves it
  pub as_checked : ((numbers r).verdict ≡ refused → ⊥) → (c : Answer) (checked : List ℕ) → Checks k words table c checked → table' ≡ checked
  pub recognizes : Room k table memo → Judgeable k words input → Recognizes k (grammar_of words) input r memo'
