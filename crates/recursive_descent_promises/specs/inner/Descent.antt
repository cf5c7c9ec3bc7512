-- What calling a nonterminal and running a body require and ensure: they are the descent with a memo table, for every depth that is enough, by
-- any choice of rules that two arrays hold.
use Rattle.std.specs.Prelude.{Ok, ◌≡◌, Bool, true, false, ℕ, suc, ◌+◌, ◌*◌, ◌/◌, ◌%◌, ◌≤◌, ◌<◌, length, get_or, drop}
use mathlib.Core.List.{List, Memᴰ}
use Rattle.std.proofs.Math.Option.{Option, none, some}
use Rattle.grammar.specs.Codes.{uncalled_code, failed_code}
use Rattle.grammar.specs.Limits.{max_nonterminals, max_tokens}
use Rattle.grammar.specs.Syntax.{Rule, bodies}
use Rattle.grammar.specs.Encoding.{parse, grammar_of}
use Rattle.grammar.specs.Reading.{row, scan, reading}
use Rattle.grammar.specs.inner.Starts.{rule_starts}
use Rattle.grammar.specs.declared.reading.Sizes.{Sizes}
use Rattle.grammar.specs.declared.reading.State.{State}
use Rattle.grammar.specs.declared.reading.Progress.{Progress}
use Rattle.semantics.specs.Valuations.{pairs}
use Rattle.semantics.specs.LeftRecursion.{NoLeftRecursion}
use Rattle.semantics.specs.Choices.{Choice}
use Rattle.semantics.specs.inner.Choices.{OwnRules}
use Rattle.semantics.specs.Descent.{End, descend}
use Rattle.semantics.specs.ComesTo.{Call, call_at, InRange}
use Rattle.semantics.specs.inner.ComesTo.{measure}
use Rattle.semantics.specs.Memo.{outcome_code, entry}
use Rattle.semantics.specs.inner.Memo.{decode}
use Rattle.semantics.specs.inner.MemoDescent.{memoized, memo_run, memo_call}
use Rattle.rule.specs.inner.Rule.{body_end}
use Rattle.recursive_descent_promises.specs.declared.Run.{Run}
use Rattle.descent_arrays.specs.inner.Arrays.{choice_columns, row_column, end_mark, column_weight, held_tokens, row_at, end_at, first_at}

-- whether a reading is behind the end's word
abbrev pub is_closed : State → Bool
is_closed s = row false false false false true s

-- where the first conjunct stands of a rule by its number, or 0
abbrev pub first_conjunct : List ℕ → Option ℕ → ℕ
first_conjunct words none = 0
first_conjunct words (some q) = get_or (rule_starts words) q 0 + 1

-- a nonterminal, and a column of its row
pub record ChoiceGiven (A column : ℕ) : Type 0 where
  pub named : A < max_nonterminals
  pub inside : column < choice_columns

-- the words from an index to another are symbols of one body: the rest of the rule is the same from there on, and so is what a reading makes of it
pub record Skipped (words : List ℕ) (from at : ℕ) : Type 0 where
  pub on : from ≤ at
  pub within : at ≤ length words
  pub positives : (parse (drop at words)).positives ≡ (parse (drop from words)).positives
  pub negatives : (parse (drop at words)).negatives ≡ (parse (drop from words)).negatives
  pub reads : (p : Progress) (z : Sizes) → scan p from (drop from words) ≡ Ok z → scan p at (drop at words) ≡ Ok z

-- each entry that is written holds the outcome of its call
pub record MemoSound (choice : Choice) (words input memo : List ℕ) : Type 0 where
  pub size : length memo ≡ pairs (grammar_of words) input
  pub right : (x : Call) → InRange (grammar_of words) input x → (entry input memo x ≡ uncalled_code → ⊥)
      → entry input memo x ≡ outcome_code (descend (grammar_of words) choice input x.nonterminal x.place)

-- the arrays hold a choice of rules, each of its own nonterminal, and the tokens of the input
pub record ArraysGiven (choice : Choice) (words choices tokens input memo : List ℕ) : Type 0 where
  pub sizes : Sizes
  pub read : reading words ≡ Ok sizes
  pub free : NoLeftRecursion (grammar_of words)
  pub own : OwnRules (grammar_of words) choice
  pub rows : (A : ℕ) → A < (grammar_of words).nonterminals → row_at choices A ≡ A * suc (length input)
  pub ends : (A : ℕ) → A < (grammar_of words).nonterminals → end_at choices A ≡ length input
  pub columns : (i : ℕ) → i ≤ length input → get_or tokens i 0 / column_weight < row_column
  pub firsts : (A i : ℕ) → A < (grammar_of words).nonterminals → i ≤ length input → first_at choices tokens A i ≡ first_conjunct words (choice A i)
  pub terminals : (i : ℕ) → i < length input → get_or tokens i 0 % column_weight ≡ get_or input i 0
  pub end : get_or tokens (length input) 0 % column_weight ≡ end_mark
  pub short : length input ≤ max_tokens
  pub sound : MemoSound choice words input memo

pub record CallGiven (choice : Choice) (words choices tokens input memo : List ℕ) (A place : ℕ) : Type 0 where
  pub given : ArraysGiven choice words choices tokens input memo
  pub named : A < (grammar_of words).nonterminals
  pub placed : place ≤ length input

-- the body at an index is one of a rule of the nonterminal
pub record RunGiven (choice : Choice) (words choices tokens input memo : List ℕ) (A from start : ℕ) : Type 0 where
  pub call : CallGiven choice words choices tokens input memo A start
  pub rule : Rule
  pub listed : Memᴰ rule (grammar_of words).rules
  pub heads : rule.head ≡ A
  pub inside : from ≤ length words
  pub body : Memᴰ (parse (drop from words)).body (bodies rule)
  pub progress : Progress
  pub reads : scan progress from (drop from words) ≡ reading words
  pub unclosed : is_closed progress.state ≡ false

-- what is returned is the entry of the call's outcome
pub record CallDone (choice : Choice) (words input memo : List ℕ) (A place r : ℕ) (memo' : List ℕ) : Type 0 where
  pub told : r ≡ outcome_code (descend (grammar_of words) choice input A place)
  pub model : (n : ℕ) → measure (grammar_of words) input (call_at A place) < n
      → memo_call (grammar_of words) choice input n A place memo ≡ memoized (descend (grammar_of words) choice input A place) memo'
  pub sound : MemoSound choice words input memo'

pub record RunDone (choice : Choice) (words input memo : List ℕ) (A from start : ℕ) (r : Run) (memo' : List ℕ) : Type 0 where
  pub model : (n : ℕ) → measure (grammar_of words) input (call_at A start) ≤ n
      → memo_run (memo_call (grammar_of words) choice input n) input (parse (drop from words)).body start memo ≡ memoized (decode r.end) memo'
  pub sound : MemoSound choice words input memo'
  pub within : (e : ℕ) → decode r.end ≡ End e → e ≤ length input
  pub skipped : Skipped words from r.at
  pub over : (r.end ≡ failed_code → ⊥) → body_end words r.at ≡ r.at

-- a call and a run require that the arrays hold some choice, and ensure what they do for each that they hold
abbrev pub CallRequires : (words choices tokens memo : List ℕ) (A place : ℕ) → Type 0
CallRequires words choices tokens memo A place = (choice : Choice) × CallGiven choice words choices tokens (held_tokens tokens) memo A place

abbrev pub CallEnsures : (words choices tokens memo : List ℕ) (A place r : ℕ) (memo' : List ℕ) → Type 0
CallEnsures words choices tokens memo A place r memo' =
    (choice : Choice) → CallGiven choice words choices tokens (held_tokens tokens) memo A place
    → CallDone choice words (held_tokens tokens) memo A place r memo'

abbrev pub RunRequires : (words choices tokens memo : List ℕ) (A from start : ℕ) → Type 0
RunRequires words choices tokens memo A from start = (choice : Choice) × RunGiven choice words choices tokens (held_tokens tokens) memo A from start

abbrev pub RunEnsures : (words choices tokens memo : List ℕ) (A from start : ℕ) (r : Run) (memo' : List ℕ) → Type 0
RunEnsures words choices tokens memo A from start r memo' =
    (choice : Choice) → RunGiven choice words choices tokens (held_tokens tokens) memo A from start
    → RunDone choice words (held_tokens tokens) memo A from start r memo'
