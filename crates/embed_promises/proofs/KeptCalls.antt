-- A history of calls is one of the library's steps, so what it leaves and what a judgement of it is are known.
use mathlib.Core.Path.{◌≡◌, refl, sym, ap, ◌∙◌}
use mathlib.Core.List.{List, []}
use mathlib.Core.Option.{some}
use Prim.Native.Nat.{ℕ, ◌<◌}
use lib.ListN.{get_or-replicate}
use Rattle.answer.specs.declared.Answer.{Answer}
use Rattle.answer.specs.Numbers.{numbers}
use Rattle.lookahead.specs.declared.Lookahead.{Lookahead}
use Rattle.event.specs.Events.{input_of}
use Rattle.kept_input.specs.declared.KeptInput.{KeptInput}
use Rattle.kept_steps.specs.Histories.{mark_count, empty_input, Step, ran}
use Rattle.kept_marks.specs.Stored.{unset_code, read_mark, held_by, values_of, progress_of}
use Rattle.kept_marks.specs.Properties.{step_left}
use Rattle.kept_input.proofs.Histories.{step_holds}
use Rattle.kept_input.specs.Held.{kept_input, held_input}
use Rattle.kept_marks.proofs.Storing.{held_stored}
use Rattle.kept_steps.proofs.Soundness.{empty_sound}
use Rattle.embed_promises.specs.Packing.{packed}
use Rattle.embed_promises.specs.Exports.{JudgeExported}
use Rattle.embed_promises.specs.Kept.{state_of, progress_in, StepExported, KeptExported}
use Rattle.embed_promises.specs.KeptHistories.{held_in, empty_state, zero_state, Calls, idle, next, HistoriesExported}

empty_held : (events : List ℕ) → held_in events empty_state ≡ empty_input
unfolding values_of progress_of
empty_held events = held_stored events empty_input empty_sound

zero_held : (events : List ℕ) → (held_in events zero_state).events ≡ []
unfolding held_by
zero_held events = refl

zero_marks : (events : List ℕ) (m : ℕ) → m < mark_count → (held_in events zero_state).marks m ≡ some 0
unfolding held_by
zero_marks events m h = ap (read_mark 0) (get_or-replicate mark_count m 0 unset_code h)

-- what a call leaves in the caller's memory is what the library's step leaves
call_holds : {t : Step} {events state events' state' : List ℕ} {r : ℕ} → (s : StepExported t events state r events' state')
    → held_in events' state' ≡ held_input (step_left s.changed (kept_input events (progress_in state)))
call_holds {events = events} {state = state} s =
    ap held_input (same (step_left s.changed (kept_input events (progress_in state))) s.events_written s.state_written)
  where
    same : (k : KeptInput) {events' state' : List ℕ} → events' ≡ k.events → state' ≡ state_of k.progress → kept_input events' (progress_in state') ≡ k
    same k e f = rw (e, f) refl

calls_hold : {events state events' state' : List ℕ} {l : List Step} → Calls events state l events' state'
    → held_in events' state' ≡ ran l (held_in events state)
unfolding ran
calls_hold idle = refl
calls_hold (next {l = l} r s rest) = calls_hold rest ∙ ap (ran l) (call_holds s ∙ step_holds s.changed s.steps)

calls_judged : {k : Lookahead} {events events' state' : List ℕ} {l : List Step} → Calls events empty_state l events' state'
    → {words table memo table' memo' table'' memo'' : List ℕ} {r s : ℕ} → KeptExported k words events' state' table memo r table' memo'
    → JudgeExported k words (input_of (ran l empty_input).events) table memo s table'' memo''
    → (r ≡ s) × (table' ≡ table'') × (memo' ≡ memo'')
calls_judged {events = events} {l = l} calls kept judged =
    let same = kept.exported.promise.afresh l (calls_hold calls ∙ ap (ran l) (empty_held events)) _ _ _ judged.promise in
    (kept.exported.packs.number ∙ ap (λ (a : Answer). packed (numbers a)) same.0 ∙ sym judged.packs.number, same.1, same.2)

pub histories_exported : HistoriesExported
histories_exported = record { begins = empty_held; zeroed = zero_held; zero_set = zero_marks; holds = calls_hold; judged = calls_judged }
