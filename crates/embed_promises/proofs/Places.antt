-- The position that a refusal tells is a small number: an index of a word or a token, a nonterminal, or an entry of the table.
use Rattle.std.specs.Prelude.{Some}
use mathlib.Core.Path.{◌≡◌}
use mathlib.Core.List.{List}
use Prim.Native.Nat.{ℕ, ◌≤◌}
use native.Mathlib.Omega.{arith}
use Rattle.answer.specs.declared.Error.{Error}
use Rattle.answer.specs.Numbers.{coded}
use Rattle.grammar.specs.Limits.{max_words, max_nonterminals}
use Rattle.grammar.specs.Syntax.{Grammar}
use Rattle.grammar.specs.Encoding.{grammar_of}
use Rattle.lookahead.specs.declared.Lookahead.{Lookahead}
use Rattle.lookahead.specs.declared.Lookahead.TheVariants.{One, Two}
use Rattle.lookahead.specs.inner.Lookaheads.{alphabet}
use Rattle.table_promises.specs.Analysis.{conflict_error}
use Rattle.table_promises.specs.Conflicts.{first_clash}
use Rattle.table_promises.proofs.FirstClash.{clash_at}
use Rattle.recognizer_promises.specs.Answers.{table_too_short}
use Rattle.promises.proofs.SetsErrors.{SetsErrors}
use Rattle.recognizer_promises.proofs.RefusalErrors.{JudgeErrors}
use Rattle.promises.proofs.InputErrors.{InputErrors}

abbrev pub Low : Error → Type 0
Low e = (coded e).position ≤ max_words

pub sets_low : (k : Lookahead) → SetsErrors k Low
sets_low k = record {
  long = omega arith;
  heading = omega arith;
  unexpected_word = λ i h. h;
  out_of_range = λ i h. h;
  too_many_rules = λ i h. h;
  too_many_terminals = λ two. omega arith;
  left_recursive = λ A h. omega arith;
  unproductive = λ A h. omega arith;
}

-- a row of one token has at most 25 columns and 32 places, one of two tokens 57 and 64
conflict_low : (k : Lookahead) (G : Grammar) → G.nonterminals ≤ max_nonterminals → G.terminals ≤ alphabet k → (A c : ℕ) → first_clash k G ≡ Some (A, c)
    → Low (conflict_error k A c)
conflict_low One G few small A c e = let h = clash_at One G e in omega (arith, h.0, h.1)
conflict_low Two G few small A c e = let h = clash_at Two G e in omega (arith, h.0, h.1)

table_low : (k : Lookahead) → Low (table_too_short k)
table_low One = omega arith
table_low Two = omega arith

pub input_low : InputErrors Low
input_low = record { too_long = omega arith; unknown_token = λ i h. omega arith }

pub judge_low : (k : Lookahead) (words : List ℕ) → JudgeErrors k words Low
judge_low k words = record {
  short_table = table_low k;
  short_memo = omega arith;
  grammar = record { sets = sets_low k; conflict = conflict_low k (grammar_of words) };
  input = input_low;
}
