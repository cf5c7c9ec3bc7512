-- The order of the faults of judging: which is the first, by what holds; and what holds where there is none.
use Rattle.std.specs.Prelude.{None, Option, Some}
use mathlib.Core.Path.{◌≡◌, refl, sym, ◌∙◌}
use mathlib.Core.List.{List, [], ◌∷◌}
use mathlib.Core.Option.{Option as Maybe, none, some}
use Prim.Native.Nat.{ℕ, ◌≤◌, ◌<◌}
use lib.Dec.{ltb}
use lib.ListN.{length}
use borrow.Author.Tests.{lt-ltb, le-ltb, ltb-false}
use Rattle.answer.specs.declared.Error.{Error}
use Rattle.answer.specs.declared.Error.TheVariants.{MemoTooShort, InputTooLong}
use Rattle.answer.specs.Faults.{fault_if, first_fault}
use Rattle.answer.proofs.Faults.{Faultless, none_some, fault_none, each_none, first_nested}
use Rattle.grammar.specs.Limits.{max_memo_entries, max_tokens}
use Rattle.grammar.specs.Encoding.{grammar_of}
use Rattle.base.specs.Strings.{Over}
use Rattle.lookahead.specs.declared.Lookahead.{Lookahead}
use Rattle.table_promises.specs.Layout.{table_room}
use Rattle.table_promises.specs.Analysis.{grammar_faults, fault}
use Rattle.event.proofs.Known.{known_absent, absent_known}
use Rattle.event.specs.Unknown.{unknown_from, unknown_fault}
use Rattle.recognizer_promises.specs.Answers.{table_too_short, check_fault, judge_fault, input_faults}
use Rattle.recognizer_promises.specs.inner.Judging.{memo_fault}

-- the rows of judging, with the grammar's faults as one
abbrev pub judge_rows : Lookahead → ℕ → ℕ → List ℕ → List ℕ → List (Maybe Error)
judge_rows k table memo words input =
    fault_if (ltb table (table_room k)) (table_too_short k)
    ∷ fault_if (ltb memo max_memo_entries) MemoTooShort
    ∷ fault k words
    ∷ input_faults (grammar_of words).terminals input

pub judged_rows : (k : Lookahead) (table memo : ℕ) (words input : List ℕ)
    → judge_fault k table memo words input ≡ first_fault (judge_rows k table memo words input)
unfolding judge_fault fault
judged_rows k table memo words input =
    first_nested (fault_if (ltb table (table_room k)) (table_too_short k) ∷ fault_if (ltb memo max_memo_entries) MemoTooShort ∷ []) (grammar_faults k words)
    (input_faults (grammar_of words).terminals input)

-- with a table that is long enough it is judging in the memo table alone
pub judge_table_long : (k : Lookahead) (table memo : ℕ) (words input : List ℕ) → table_room k ≤ table
    → judge_fault k table memo words input ≡ memo_fault k memo words input
unfolding judge_fault memo_fault
judge_table_long k table memo words input h = rw (le-ltb table (table_room k) h)

memo_rows : (k : Lookahead) (memo : ℕ) (words input : List ℕ)
    → memo_fault k memo words input
    ≡ first_fault (fault_if (ltb memo max_memo_entries) MemoTooShort ∷ fault k words ∷ input_faults (grammar_of words).terminals input)
unfolding memo_fault fault
memo_rows k memo words input =
    first_nested (fault_if (ltb memo max_memo_entries) MemoTooShort ∷ []) (grammar_faults k words) (input_faults (grammar_of words).terminals input)

pub memo_fault_short : (k : Lookahead) (words input memo : List ℕ) → length memo < max_memo_entries → memo_fault k (length memo) words input ≡ some MemoTooShort
unfolding memo_fault
memo_fault_short k words input memo h = rw (lt-ltb (length memo) max_memo_entries h)

pub memo_fault_long : (k : Lookahead) (words input memo : List ℕ) → max_memo_entries ≤ length memo → {f : Maybe Error} → fault k words ≡ f
    → memo_fault k (length memo) words input ≡ first_fault (f ∷ input_faults (grammar_of words).terminals input)
memo_fault_long k words input memo room e = rw (memo_rows k (length memo) words input, le-ltb (length memo) max_memo_entries room, e)

-- an input that is short and known has no fault, and no other input
pub readable_faultless : (n : ℕ) (input : List ℕ) → length input ≤ max_tokens → Over n input → first_fault (input_faults n input) ≡ none
readable_faultless n input short known = rw (le-ltb max_tokens (length input) short, known_absent n 0 input known)

pub faultless_readable : (n : ℕ) (input : List ℕ) → first_fault (input_faults n input) ≡ none → (length input ≤ max_tokens) × Over n input
faultless_readable n input e =
    let f = each_none (input_faults n input) e in (
      ltb-false max_tokens (length input) (fault_none (ltb max_tokens (length input)) InputTooLong f.0),
      absent_known n 0 input (none_unknown (unknown_from n 0 input) f.1.0),
    )
  where
    none_unknown : (u : Option ℕ) → unknown_fault u ≡ none → u ≡ None
    none_unknown None q = refl
    none_unknown (Some i) q = absurd (none_some (sym q))

-- the first fault, by what holds
module _ (k : Lookahead) (words input table memo : List ℕ) where
  abbrev judged : Maybe Error
  judged = judge_fault k (length table) (length memo) words input

  pub table_short : length table < table_room k → judged ≡ some (table_too_short k)
  unfolding judge_fault
  table_short h = rw (lt-ltb (length table) (table_room k) h)

  module _ (long : table_room k ≤ length table) where
    pub memo_short : length memo < max_memo_entries → judged ≡ some MemoTooShort
    unfolding judge_fault
    memo_short h = rw (le-ltb (length table) (table_room k) long, lt-ltb (length memo) max_memo_entries h)

    module _ (room : max_memo_entries ≤ length memo) where
      pub judge_fault_long : {f : Maybe Error} → fault k words ≡ f → judged ≡ first_fault (f ∷ input_faults (grammar_of words).terminals input)
      judge_fault_long e =
          rw (judged_rows k (length table) (length memo) words input, le-ltb (length table) (table_room k) long, le-ltb (length memo) max_memo_entries room, e)

      pub grammar_fault : {x : Error} → fault k words ≡ some x → judged ≡ some x
      grammar_fault e = judge_fault_long e

      pub input_fault : {f : Maybe Error} → fault k words ≡ none → first_fault (input_faults (grammar_of words).terminals input) ≡ f → judged ≡ f
      input_fault passed e = judge_fault_long passed ∙ e

module _ (k : Lookahead) (words input : List ℕ) (table memo : ℕ) (e : judge_fault k table memo words input ≡ none) where
  each : Faultless (judge_rows k table memo words input)
  each = each_none (judge_rows k table memo words input) (sym (judged_rows k table memo words input) ∙ e)

  -- what is judged is checked
  pub judged_checked : check_fault k table words ≡ none
  unfolding check_fault fault
  judged_checked = rw each.0 each.1.1.0

  -- and is read and not too long
  pub judged_readable : (fault k words ≡ none) × (length input ≤ max_tokens)
  judged_readable = (each.1.1.0, ltb-false max_tokens (length input) (fault_none (ltb max_tokens (length input)) InputTooLong each.1.1.1.0))
