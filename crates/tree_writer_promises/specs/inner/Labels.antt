-- The words of the vertices as they are made before the tree is written: one for each call, of what judging left in the lent memories.
use Rattle.std.specs.Prelude.{Err, Ok, Result, ◌≡◌, List, ℕ, ◌+◌, ◌*◌, ◌/◌, ◌%◌, ◌≤◌, ◌<◌, ltb, length, get_or, replicate}
use Rattle.answer.specs.declared.Error.{Error}
use Rattle.base.specs.Choice.{choose}
use Rattle.base.specs.Lists.{listed}
use Rattle.grammar.specs.Limits.{max_nonterminals, max_tokens, max_places, max_memo_entries}
use Rattle.grammar.specs.declared.reading.Sizes.{Sizes}
use Rattle.semantics.specs.ComesTo.{Call}
use Rattle.lookahead.specs.declared.Lookahead.TheVariants.{One}
use Rattle.columns.specs.inner.Columns.{column_at}
use Rattle.tree.specs.ParseTrees.{vertex}
use Rattle.tree.specs.Writing.{vertex_word}

-- where a call's label stands: a row for each nonterminal, each as long as the longest input's
abbrev pub label_index : Call → ℕ
label_index x = x.nonterminal * max_places + x.place

-- the fields of a word
abbrev pub label_rule : ℕ → ℕ
label_rule word = word % 128

abbrev pub label_start : ℕ → ℕ
label_start word = word / 128 % 512

abbrev pub label_end : ℕ → ℕ
label_end word = word / 65536 % 512

-- the kind on top of a word, and the word that is kept once a vertex is written: without it
abbrev pub kind : ℕ
kind = 2147483648

abbrev pub marked_word : ℕ → ℕ
marked_word word = word % kind

-- the word for a call, from the entries of the lent table and of the lent memo table
unfoldable pub label_word : Sizes → (input table memo : List ℕ) (A i : ℕ) → ℕ
label_word z input table memo A i = vertex_word
    (vertex (label_rule (get_or table (2 * z.nonterminals + A * (z.terminals + 1) + column_at One z.terminals input i) 0)) i
    (get_or memo (A * (length input + 1) + i) 0 % 512))

-- and of an input that is too long 0
abbrev pub label_of : Sizes → (input table memo : List ℕ) (A i : ℕ) → ℕ
label_of z input table memo A i = choose (ltb max_tokens (length input)) 0 (label_word z input table memo A i)

-- the word at an index: that of the call which has it, of a nonterminal and a place that there are, else 0
unfoldable pub label_at : Sizes → (input table memo : List ℕ) (at : ℕ) → ℕ
label_at z input table memo at =
    choose (ltb (at / max_places) z.nonterminals)
    (choose (ltb (length input) (at % max_places)) 0 (label_of z input table memo (at / max_places) (at % max_places))) 0

-- the words of all calls, by the sizes of a grammar; and 0 for words that are none
unfoldable pub labels_of : Sizes → (input table memo : List ℕ) → List ℕ
labels_of z input table memo = listed max_memo_entries (label_at z input table memo)

abbrev pub labels_read : Result Sizes Error → (input table memo : List ℕ) → List ℕ
labels_read (Ok z) input table memo = labels_of z input table memo
labels_read (Err e) input table memo = replicate max_memo_entries 0

-- the words below an index are made, and behind them are zeros
pub record LabelledBelow (z : Sizes) (input table memo : List ℕ) (bound : ℕ) (labels : List ℕ) : Type 0 where
  pub long : length labels ≡ max_memo_entries
  pub made : (x : ℕ) → x < bound → get_or labels x 0 ≡ label_at z input table memo x
  pub ahead : (x : ℕ) → bound ≤ x → get_or labels x 0 ≡ 0

-- of a grammar and an input within the limits each call has its word
pub record LabelsGiven (z : Sizes) (input : List ℕ) : Type 0 where
  pub few_nonterminals : z.nonterminals ≤ max_nonterminals
  pub short : length input ≤ max_tokens

pub record Labelled (z : Sizes) (input table memo labels : List ℕ) : Type 0 where
  pub long : length labels ≡ max_memo_entries
  pub word : (A i : ℕ) → A < z.nonterminals → i ≤ length input → get_or labels (A * max_places + i) 0 ≡ label_word z input table memo A i
