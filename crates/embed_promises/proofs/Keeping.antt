-- The answers of a step fit, and what is written back is what the step leaves.
use mathlib.Core.Path.{◌≡◌, refl, sym, ◌∙◌, subst}
use mathlib.Core.List.{List, [], ◌∷◌}
use mathlib.Core.Option.{Option, none, some}
use Prim.Native.Nat.{ℕ}
use native.Mathlib.Omega.{arith}
use lib.Dec.{leb}
use lib.ListN.{length}
use Rattle.std.specs.Prelude.{Result, Ok, Err}
use Rattle.answer.specs.declared.Answer.{Answer}
use Rattle.answer.specs.declared.Answer.TheVariants.{Refused, Passed}
use Rattle.answer.specs.declared.Error.{Error}
use Rattle.answer.specs.declared.Error.TheVariants.{UnknownMark, MarkNotSet, InputFull}
use Rattle.answer.specs.Numbers.{numbers}
use Rattle.answer.specs.Faults.{refused_or}
use Rattle.answer.proofs.Apart.{refused_ne_passed}
use Rattle.answer.proofs.Faults.{OfFault, of_none, of_some, of_if, first_each}
use Rattle.grammar.specs.Limits.{max_tokens}
use Rattle.lookahead.specs.declared.Lookahead.{Lookahead}
use Rattle.kept_marks.specs.declared.Progress.{Progress}
use Rattle.kept_input.specs.declared.KeptInput.{KeptInput}
use Rattle.kept_steps.specs.Histories.{mark_count, Kept, Step, Add, Mark, Return, not_set, step_fault, unless_refused}
use Rattle.kept_marks.specs.Stored.{held_by}
use Rattle.kept_marks.specs.Properties.{step_answer, step_left, StepsIn, Moves}
use Rattle.kept_input.specs.Held.{kept_input, held_input}
use Rattle.kept_input.specs.Properties.{progress_of_step, Steps, JudgesKept}
use Rattle.embed_promises.specs.inner.Packing.{NumbersFit, cut}
use Rattle.embed_promises.specs.Packing.{packed}
use Rattle.embed_promises.specs.Kept.{state_of, progress_in, StepExported, MoveExported, KeptExported}
use Rattle.embed_promises.specs.inner.Kept.{StateRead, state_after}
use Rattle.embed_promises.proofs.Places.{Low}
use Rattle.embed_promises.proofs.Fitting.{passed_fits, fits_by, judge_fits}
use Rattle.embed_promises.proofs.Packed.{packs}

-- a refusal of a step tells no place
step_low : (t : Step) (s : Kept) → OfFault Low (step_fault t s)
unfolding step_fault
step_low (Add event) s = first_each Low (_ ∷ []) (of_if Low (leb max_tokens (length s.events)) InputFull (omega arith), λ _. tt)
step_low (Mark m) s = first_each Low (_ ∷ []) (of_if Low (leb mark_count m) UnknownMark (omega arith), λ _. tt)
step_low (Return m) s =
    first_each Low (_ ∷ _ ∷ []) (of_if Low (leb mark_count m) UnknownMark (omega arith), λ _. (unset (s.marks m), λ _. tt))
  where
    unset : (o : Option ℕ) → OfFault Low (not_set o)
    unset none = of_some Low MarkNotSet (omega arith)
    unset (some n) = of_none Low

step_fits : {t : Step} {k : KeptInput} (r : Result KeptInput Error) → Steps t k r → NumbersFit (numbers (step_answer r))
step_fits {t} {k} r s =
    let told : step_answer r ≡ refused_or (step_fault t (held_input k)) Passed = sym (same_answer r) ∙ s.leaves.answer in
    fits_by (step_fault t (held_input k)) Passed told (step_low t (held_input k)) (λ q. rw (told, q) passed_fits)
  where
    same_answer : (r : Result KeptInput Error) → step_answer (progress_of_step r) ≡ step_answer r
    same_answer (Ok next) = refl
    same_answer (Err e) = refl

-- the state is what a step leaves, whether it is written or not
state_left : (events : List ℕ) {state state' : List ℕ} {p : Progress} (r : Result KeptInput Error) → StateRead state p
    → state' ≡ state_after (progress_of_step r) state → state' ≡ state_of (step_left r (kept_input events p)).progress
state_left events (Ok next) g left = left
state_left events (Err e) g left = left ∙ sym g.whole

pub step_exported : {t : Step} {events state events' state' : List ℕ} {p : Progress} (c : Result KeptInput Error) {r : ℕ} → StateRead state p
    → Steps t (kept_input events p) c
    → r ≡ packed (cut (numbers (step_answer c)))
    → events' ≡ (step_left c (kept_input events p)).events
    → state' ≡ state_after (progress_of_step c) state
    → StepExported t events state r events' state'
step_exported {t} {events} {state} {p = p} c g s e written left =
    let P : Progress → Type 0 = λ q. Steps t (kept_input events q) c in
    record {
      changed = c;
      steps = subst P g.read s;
      packs = packs (step_fits c s) e;
      events_written = rw g.read at written;
      state_written = rw g.read at (state_left events c g left);
      unchanged = λ x q. (rw q at written, rw q at left);
    }

-- a step that takes the state alone
pub move_exported : {t : Step} {state state' : List ℕ} {p : Progress} (m : Result Progress Error) {r : ℕ} → StateRead state p → Moves t p m
    → r ≡ packed (cut (numbers (step_answer m)))
    → state' ≡ state_after m state
    → MoveExported t state r state'
move_exported (Ok next) g m e left = record {
  of_any_events = λ events whole. step_exported (Ok (kept_input events next)) g (m.steps events whole) e refl left;
}
move_exported (Err x) g m e left = record {
  of_any_events = λ events whole. step_exported (Err x) g (m.steps events whole) e refl left;
}

-- and one that writes an event where the events stand, unless it is refused
refused_events : {t : Step} {events events' : List ℕ} {p : Progress} {x : Error} → StepsIn t events p (Err x) events' → events' ≡ events
refused_events {t} {events} {events'} {p} {x} s = go (step_fault t (held_by events p)) _ s.leaves.answer s.events_left
  where
    go : (f : Option Error) (next : List ℕ) → Refused x ≡ refused_or f Passed → events' ≡ unless_refused f next events → events' ≡ events
    go none next a h = absurd (refused_ne_passed a)
    go (some y) next a h = h

pub add_exported : {t : Step} {events state events' state' : List ℕ} {p : Progress} (m : Result Progress Error) {r : ℕ} → StateRead state p
    → StepsIn t events p m events'
    → r ≡ packed (cut (numbers (step_answer m)))
    → state' ≡ state_after m state
    → StepExported t events state r events' state'
add_exported {events' = events'} (Ok next) g s e left = step_exported (Ok (kept_input events' next)) g s e refl left
add_exported (Err x) g s e left = let same = refused_events s in step_exported (Err x) g (rw same at s) e same left

pub kept_exported : {k : Lookahead} {words events state table memo table' memo' : List ℕ} {kept : KeptInput} {a : Answer} {r : ℕ}
    → kept ≡ kept_input events (progress_in state)
    → JudgesKept k words kept table memo a table' memo'
    → r ≡ packed (cut (numbers a))
    → KeptExported k words events state table memo r table' memo'
kept_exported {a = a} g j e = record { exported = record { result = a; promise = rw g at j; packs = packs (judge_fits j.judges) e } }
