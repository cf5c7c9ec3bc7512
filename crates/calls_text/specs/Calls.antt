-- What is printed of the calls that a memo table holds.
use Rattle.std.specs.Prelude.{List, [], ◌++◌, ℕ, ◌+◌, ◌*◌, ◌/◌, ◌%◌, eqb, get_or}
use Rattle.base.specs.Choice.{choose}
use Rattle.grammar.specs.Codes.{failed_code, uncalled_code}
use Rattle.text.specs.Ascii.{ascii}
use Rattle.text.specs.Decimal.{decimal, labelled, or_dash}
use Rattle.text.specs.Writing.{up_to}

-- where a call ended, or a dash
abbrev pub end_text : ℕ → List ℕ
end_text entry = or_dash failed_code entry

-- a call: nonterminal, place and end; nothing where none was made
unfoldable pub call_text : ℕ → ℕ → ℕ → List ℕ
call_text A place entry = choose (eqb entry uncalled_code) [] (decimal A ++ labelled " " place ++ end_text entry ++ ascii "\n")

-- the calls in the memo table's order: a nonterminal has an entry for each place, and places are one more than tokens
unfoldable pub calls_text : ℕ → ℕ → List ℕ → List ℕ
calls_text nonterminals tokens memo =
    up_to (nonterminals * (tokens + 1)) (λ k. call_text (k / (tokens + 1)) (k % (tokens + 1)) (get_or memo k uncalled_code))
