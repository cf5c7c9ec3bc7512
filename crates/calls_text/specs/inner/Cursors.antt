-- Where a cursor stands in the memo table, and what is printed of the entry there.
use Rattle.std.specs.Prelude.{◌≡◌, List, ℕ, ◌+◌, ◌*◌, ◌/◌, ◌%◌, ◌≤◌, get_or}
use Rattle.grammar.specs.Codes.{uncalled_code}
use Rattle.text.specs.declared.Output.{Output}
use Rattle.text.specs.inner.Outputs.{Puts}
use Rattle.calls_text.specs.declared.cursor.Cursor.{Cursor}
use Rattle.calls_text.specs.Calls.{call_text}

-- Its nonterminal and its place make its index: a nonterminal has an entry for each place, and places are one more than tokens.
pub record Stands (tokens : ℕ) (c : Cursor) : Type 0 where
  pub stands_at : c.nonterminal * (tokens + 1) + c.place ≡ c.index
  pub in_row : c.place ≤ tokens

-- For a cursor that stands in rows of so many tokens, the text put is that of the entry at its index.
abbrev pub EntryPut : Cursor → List ℕ → Output → Output → Type 0
EntryPut c memo before after =
    (tokens : ℕ) → Stands tokens c
    → Puts (call_text (c.index / (tokens + 1)) (c.index % (tokens + 1)) (get_or memo c.index uncalled_code)) before after
