-- What writing the tree requires and ensures: the words are those of the visit, for every depth that is enough.
use Rattle.std.specs.Prelude.{Ok, ◌≡◌, ℕ, ◌+◌, ◌*◌, ◌-◌, ◌/◌, ◌%◌, ◌≤◌, ◌<◌, T, length, get_or, drop}
use mathlib.Core.List.{List, ◌++◌, map, Memᴰ}
use Rattle.grammar.specs.Limits.{max_tokens, max_places, max_memo_entries, max_table_words}
use Rattle.grammar.specs.Syntax.{Grammar}
use Rattle.grammar.specs.Encoding.{grammar_of}
use Rattle.grammar.specs.Reading.{reading}
use Rattle.grammar.specs.inner.Starts.{rule_starts}
use Rattle.grammar.specs.declared.reading.Sizes.{Sizes}
use Rattle.base.specs.Choice.{choose}
use Rattle.base.specs.FiniteSets.{member, Distinct}
use Rattle.semantics.specs.LeftRecursion.{level}
use Rattle.base.specs.Strings.{Over}
use Rattle.semantics.specs.Choices.{Choice, table_choice}
use Rattle.semantics.specs.Descent.{descend, accepts}
use Rattle.semantics.specs.ComesTo.{Call, call_at}
use Rattle.semantics.specs.inner.ComesTo.{measure}
use Rattle.semantics.specs.Calls.{Called, same_call}
use Rattle.semantics.specs.Memo.{outcome_code, memo_index}
use Rattle.semantics.specs.Predictive.{Predictive}
use Rattle.lookahead.specs.declared.Lookahead.TheVariants.{One}
use Rattle.columns.specs.Columns.{columns}
use Rattle.table_promises.specs.Layout.{entry_at}
use Rattle.tree.specs.Writing.{vertex_at, below, visit, vertex_word, InTree}
use Rattle.tree_writer_promises.specs.Properties.{words_of}
use Rattle.tree_writer_promises.specs.inner.Labels.{label_index, label_end, marked_word}

-- the choice by one token of lookahead
abbrev pub choice_of : List ℕ → List ℕ → Choice
choice_of words input = table_choice (grammar_of words) 1 input

-- the word of a call's vertex
unfoldable pub vertex_word_at : List ℕ → List ℕ → Call → ℕ
vertex_word_at words input x = vertex_word (vertex_at (grammar_of words) (choice_of words input) input x)

-- the words of the calls in l stand in front of the words as they were lent, and of the calls of the tree just those are marked
pub record Holds (words input lent : List ℕ) (l : List Call) (labels tree : List ℕ) (written : ℕ) : Type 0 where
  pub long : max_memo_entries ≤ length lent
  pub count : written ≡ length l
  pub front : tree ≡ map (vertex_word_at words input) l ++ drop (length l) lent
  pub whole : length labels ≡ max_memo_entries
  pub labelled : (x : Call) → InTree (grammar_of words) (choice_of words input) input x
      → get_or labels (label_index x) 0 ≡ choose (member same_call l x) (marked_word (vertex_word_at words input x)) (vertex_word_at words input x)
  pub distinct : Distinct l
  pub sound : (x : Call) → Memᴰ x l → InTree (grammar_of words) (choice_of words input) input x

-- an input that a grammar accepts
pub record Accepted (words input : List ℕ) : Type 0 where
  pub sizes : Sizes
  pub read : reading words ≡ Ok sizes
  pub predictive : Predictive (grammar_of words) 1
  pub tokens : Over (grammar_of words).terminals input
  pub short : length input ≤ max_tokens
  pub accepted : T (accepts (grammar_of words) (choice_of words input) input)

-- a call of the tree of an accepted input, where its word stands, and the words of the calls of that tree
pub record VertexGiven (input words starts labels tree : List ℕ) (A start entry written : ℕ) : Type 0 where
  pub accepted : Accepted words input
  pub begins : starts ≡ rule_starts words
  pub in_tree : InTree (grammar_of words) (choice_of words input) input (call_at A start)
  pub stands : entry ≡ label_index (call_at A start)
  pub lent : List ℕ
  pub seen : List Call
  pub holds : Holds words input lent seen labels tree written

pub record VertexDone (words input labels tree : List ℕ) (A start written r : ℕ) (labels' tree' : List ℕ) : Type 0 where
  pub holds : (lent : List ℕ) (l : List Call) → Holds words input lent l labels tree written → (n : ℕ) → measure (grammar_of words) input (call_at A start) < n
      → Holds words input lent (visit (below (grammar_of words) (choice_of words input) input) n (call_at A start) l) labels' tree' r

-- it is required that there are such an input and call, and ensured what is written for each that there are
abbrev pub VertexRequires : (words starts labels tree : List ℕ) (entry written : ℕ) → Type 0
VertexRequires words starts labels tree entry written =
    (input : List ℕ) × ((A : ℕ) × ((start : ℕ) × VertexGiven input words starts labels tree A start entry written))

abbrev pub VertexEnsures : (words starts labels tree : List ℕ) (entry written r : ℕ) (labels' tree' : List ℕ) → Type 0
VertexEnsures words starts labels tree entry written r labels' tree' =
    (input : List ℕ) (A start : ℕ) → VertexGiven input words starts labels tree A start entry written
    → VertexDone words input labels tree A start written r labels' tree'

-- what falls from a call to those below it: the tokens left, for the input ends where the root does, then the rank
abbrev pub falling : (words labels : List ℕ) (entry : ℕ) → ℕ
falling words labels entry = level (grammar_of words) (label_end (get_or labels 0 0) - entry % max_places) (entry / max_places)

-- the table holds the entries of the grammar
abbrev pub Entries : Grammar → List ℕ → Type 0
Entries G table = (A c : ℕ) → A < G.nonterminals → c < columns One G → get_or table (2 * G.nonterminals + A * columns One G + c) 0 ≡ entry_at One G A c

-- what judging leaves of an accepted input: the entries of its table, and the outcomes of its calls
pub record TreeGiven (words input table memo tree : List ℕ) : Type 0 where
  pub accepted : Accepted words input
  pub entries : Entries (grammar_of words) table
  pub recorded : (x : Call) → Called (grammar_of words) (choice_of words input) input x
      → get_or memo (memo_index input x) 0 ≡ outcome_code (descend (grammar_of words) (choice_of words input) input x.nonterminal x.place)
  pub long_table : max_table_words ≤ length table
  pub long_memo : max_memo_entries ≤ length memo
  pub long_tree : max_memo_entries ≤ length tree

-- the tree's words in front of the words as they were lent, and their number
pub record TreeDone (words input tree : List ℕ) (r : ℕ) (tree' : List ℕ) : Type 0 where
  pub number : r ≡ length (words_of words input)
  pub written : tree' ≡ words_of words input ++ drop r tree
