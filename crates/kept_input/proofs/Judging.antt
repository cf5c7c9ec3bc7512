-- The input is a part of the events that a value has; a judgement of it is that of the same events taken afresh.
use mathlib.Core.Path.{◌≡◌, sym, ap}
use mathlib.Core.List.{List}
use Prim.Native.Nat.{ℕ, ◌≤◌}
use native.Mathlib.Omega.{arith}
use lib.ListN.{length, take}
use lib.Seq.{length-take-le}
use Rattle.answer.specs.declared.Answer.{Answer}
use Rattle.grammar.specs.Limits.{max_tokens}
use Rattle.event.specs.Events.{input_of}
use Rattle.event.proofs.Inputs.{input_length}
use Rattle.lookahead.specs.declared.Lookahead.{Lookahead}
use Rattle.recognizer_promises.specs.Properties.{Judges}
use Rattle.recognizer_promises.proofs.Directions.{judge_ignores}
use Rattle.kept_input.specs.declared.KeptInput.{KeptInput}
use Rattle.kept_steps.specs.Histories.{Kept, empty_input, ran}
use Rattle.kept_marks.specs.Stored.{length_read, held_by}
use Rattle.kept_input.specs.Held.{held_input}
use Rattle.kept_input.specs.Properties.{JudgesKept}

-- the answer and both memories
abbrev Left : Type 0
Left = Answer × (List ℕ × List ℕ)

module _ (kept : KeptInput) (whole : length kept.events ≡ max_tokens) (n : ℕ) (e : n ≡ length_read kept.progress) where
  pub among_events : n ≤ length kept.events
  among_events = omega (arith, whole, e)

  pub input_taken : n ≡ length (take n kept.events)
  input_taken = sym (length-take-le n kept.events among_events)

  pub judges_kept : {k : Lookahead} {words table memo table' memo' : List ℕ} {r : Answer}
      → Judges k words (input_of (take n kept.events)) table memo r table' memo'
      → JudgesKept k words kept table memo r table' memo'
  unfolding held_by
  judges_kept {k} {words} {table} {memo} {table'} {memo'} {r} j =
      let judged : Judges k words (input_of (held_input kept).events) table memo r table' memo' = rw (← e) j in
      let held_length : n ≡ length (held_input kept).events = rw (← e) input_taken in
      record {
        judges = judged;
        short = omega (arith, input_length (held_input kept).events, held_length, e);
        afresh = λ history h a table'' memo'' other.
            let same = judge_ignores k words table memo (held_input kept).events (ran history empty_input).events (ap (λ (s : Kept). input_of s.events) h)
            (r, (table', memo')) (a, (table'', memo'')) judged other in
            (ap (λ (l : Left). l.0) same, ap (λ (l : Left). l.1.0) same, ap (λ (l : Left). l.1.1) same);
      }

-- two judgements alike but for the directions of the events that are kept leave the same
pub kept_ignores : (k : Lookahead) (words table memo : List ℕ) (kept turned : KeptInput)
    → input_of (held_input kept).events ≡ input_of (held_input turned).events
    → (l m : Left) → JudgesKept k words kept table memo l.0 l.1.0 l.1.1 → JudgesKept k words turned table memo m.0 m.1.0 m.1.1
    → l ≡ m
kept_ignores k words table memo kept turned e l m i j =
    judge_ignores k words table memo (held_input kept).events (held_input turned).events e l m i.judges j.judges
