-- What judging leaves before a tree is written: the same as ever, unless the memory that is lent for the tree is too short.
use Rattle.std.specs.Prelude.{List, [], ◌∷◌, ℕ, ◌≤◌, length}
use Rattle.answer.specs.declared.Answer.{Answer}
use Rattle.grammar.specs.Limits.{max_memo_entries}
use Rattle.grammar.specs.Encoding.{grammar_of}
use Rattle.lookahead.specs.declared.Lookahead.TheVariants.{One}
use Rattle.table_promises.specs.Layout.{table_words}
use Rattle.promises.specs.Leaving.{lent, Leaves}
use Rattle.recognizer_promises.specs.Answers.{verdict_of}
use Rattle.recognizer_promises.specs.Memory.{memo_words}
use Rattle.recognizer_promises.specs.Properties.{Judges}
use Rattle.tree_writer_promises.specs.Properties.{tree_fault}

-- with so many words for the tree
pub record JudgesWithRoom (words input table memo : List ℕ) (room : ℕ) (r : Answer) (table' memo' : List ℕ) : Type 0 where
  pub leaves : Leaves (tree_fault (length table) (length memo) room words input) (verdict_of One (grammar_of words) input) r
      (lent table (table_words One (grammar_of words)) table' ∷ lent memo (memo_words One (grammar_of words) input) memo' ∷ [])
  pub judges : max_memo_entries ≤ room → Judges One words input table memo r table' memo'
