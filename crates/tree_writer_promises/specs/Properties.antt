-- What judging with a tree promises, on one page: what it answers, what all lent memory holds, and what the words of the tree tell of an accepted log.
use Rattle.std.specs.Prelude.{◌≡◌, ℕ, ◌≤◌, ltb, length}
use mathlib.Core.List.{List, [], ◌∷◌, Memᴰ}
use Rattle.std.proofs.Math.Option.{Option}
use Rattle.answer.specs.Faults.{fault_if, first_fault}
use Rattle.answer.specs.Numbers.{refused, numbers}
use Rattle.answer.specs.declared.Error.{Error}
use Rattle.answer.specs.declared.Error.TheVariants.{TableTooShort, MemoTooShort, TreeTooShort}
use Rattle.answer.specs.declared.Answer.TheVariants.{Accepted}
use Rattle.grammar.specs.Limits.{max_table_words, max_memo_entries}
use Rattle.grammar.specs.Encoding.{grammar_of}
use Rattle.semantics.specs.Valuations.{Valuation, Solves}
use Rattle.lookahead.specs.declared.Lookahead.TheVariants.{One}
use Rattle.table_promises.specs.Layout.{table_words}
use Rattle.recognizer_promises.specs.Answers.{choice_of, judge_fault, calls_of, verdict_of}
use Rattle.promises.specs.Leaving.{lent, Leaves}
use Rattle.recognizer_promises.specs.Memory.{memo_words}
use Rattle.recognizer_promises.specs.Properties.{Judges}
use Rattle.tree.specs.ParseTrees.{Vertex}
use Rattle.tree.specs.Writing.{tree_of, tree_words}
use Rattle.tree.specs.Theorems.{TreeRight, Told}
use Rattle.tree_writer_promises.specs.declared.Shown.{Shown}

-- why the call is refused, in document 02's order: the table's and the memo table's length, then the tree memory's, which is to be as long as
-- the memo table, and then as judging
unfoldable pub tree_fault : (table memo tree : ℕ) (words input : List ℕ) → Option Error
tree_fault table memo tree words input =
    first_fault
    (fault_if (ltb table max_table_words) TableTooShort
    ∷ fault_if (ltb memo max_memo_entries) MemoTooShort
    ∷ fault_if (ltb tree max_memo_entries) TreeTooShort
    ∷ judge_fault One table memo words input
    ∷ [])

-- what the words of an accepted log's tree tell: each its vertex; and by the grammar's one meaning the tree is a parse tree of document 000,
-- section 8, whose vertices are those of just the calls that are reached from the start through positive conjuncts, each once
pub record TreeTold (words input : List ℕ) : Type 0 where
  pub told : (x : Vertex) → Memᴰ x (tree_of (grammar_of words) (choice_of One (grammar_of words) input) input).vertices → Told x
  pub right : (v : Valuation) → Solves (grammar_of words) input v → TreeRight (grammar_of words) 1 input v

-- the tree's words; that of a rejected log has none
abbrev pub words_of : List ℕ → List ℕ → List ℕ
words_of words input = tree_words (grammar_of words) (choice_of One (grammar_of words) input) input

pub record Shows (words input table memo tree : List ℕ) (r : Shown) (table' memo' tree' : List ℕ) : Type 0 where
  pub leaves : Leaves (tree_fault (length table) (length memo) (length tree) words input) (verdict_of One (grammar_of words) input) r.answer
      (lent table (table_words One (grammar_of words)) table' ∷ lent memo (memo_words One (grammar_of words) input) memo'
      ∷ lent tree (words_of words input) tree' ∷ [])
  -- how many words are written: none where the call is refused
  pub unwritten : (numbers r.answer).verdict ≡ refused → r.written ≡ 0
  pub written : ((numbers r.answer).verdict ≡ refused → ⊥) → r.written ≡ length (words_of words input)
  pub few : r.written ≤ max_memo_entries
  -- all that judging promises of the same call, where the tree memory is long enough
  pub judges : max_memo_entries ≤ length tree → Judges One words input table memo r.answer table' memo'
  -- of an accepted log
  pub tells : r.answer ≡ Accepted (calls_of One (grammar_of words) input) → TreeTold words input
