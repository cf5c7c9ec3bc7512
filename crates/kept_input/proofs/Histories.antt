-- Any history of steps leaves what the steps alone define, and a judgement of it is that of these events.
use mathlib.Core.Path.{◌≡◌, refl, sym, ap, ◌∙◌}
use mathlib.Core.List.{List}
use Prim.Native.Nat.{ℕ}
use Rattle.std.specs.Prelude.{Result, Ok, Err}
use Rattle.answer.specs.declared.Error.{Error}
use Rattle.answer.specs.declared.Answer.{Answer}
use Rattle.event.specs.Events.{input_of}
use Rattle.lookahead.specs.declared.Lookahead.{Lookahead}
use Rattle.recognizer_promises.specs.Properties.{Judges}
use Rattle.kept_input.specs.declared.KeptInput.{KeptInput}
use Rattle.kept_steps.specs.Histories.{empty_input, Step, after_step, ran}
use Rattle.kept_marks.specs.Properties.{step_left}
use Rattle.kept_marks.specs.Stored.{held_by}
use Rattle.kept_input.specs.Held.{held_input}
use Rattle.kept_input.specs.Properties.{progress_of_step, Steps, JudgesKept}
use Rattle.kept_input.specs.Runs.{KeptRun, idle, next, HistoriesKept}
use Rattle.kept_steps.proofs.Soundness.{empty_sound, ran_sound}

-- what a step leaves has the progress that it leaves
left_progress : (r : Result KeptInput Error) (k : KeptInput) → step_left (progress_of_step r) k.progress ≡ (step_left r k).progress
left_progress (Ok later) k = refl
left_progress (Err e) k = refl

-- and holds what the step makes of what was held
pub step_holds : {t : Step} {k : KeptInput} (r : Result KeptInput Error) → Steps t k r → held_input (step_left r k) ≡ after_step t (held_input k)
step_holds {k = k} r s = ap (held_by (step_left r k).events) (sym (left_progress r k)) ∙ s.holds

run_holds : {first last : KeptInput} {l : List Step} → KeptRun first l last → held_input last ≡ ran l (held_input first)
unfolding ran
run_holds idle = refl
run_holds (next {l = l} r s rest) = run_holds rest ∙ ap (ran l) (step_holds r s)

run_judged : {k : Lookahead} {first last : KeptInput} {l : List Step} → held_input first ≡ empty_input → KeptRun first l last
    → {words table memo table' memo' table'' memo'' : List ℕ} {r a : Answer} → JudgesKept k words last table memo r table' memo'
    → Judges k words (input_of (ran l empty_input).events) table memo a table'' memo''
    → (r ≡ a) × (table' ≡ table'') × (memo' ≡ memo'')
run_judged {l = l} e run j h = j.afresh l (run_holds run ∙ ap (ran l) e) _ _ _ h

pub histories_kept : HistoriesKept
histories_kept = record { holds = run_holds; judged = run_judged; sound = λ l. ran_sound l empty_input empty_sound }
