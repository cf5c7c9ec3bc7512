-- The first value, and an event more, store what they should.
use mathlib.Core.Path.{◌≡◌, sym, ap, ◌∙◌}
use mathlib.Core.List.{List, [], ◌∷◌, ◌++◌}
use mathlib.Core.Option.{none}
use Prim.Native.Nat.{ℕ, suc, ◌+◌, ◌<◌}
use native.Mathlib.Omega.{arith}
use lib.ListN.{length, take, drop, set, replicate, length-append}
use lib.Seq.{length-take-le, set_split, append_snoc}
use borrow.Author.Tests.{lt-leb}
use Rattle.std.specs.Prelude.{Ok}
use Rattle.grammar.specs.Limits.{max_tokens}
use Rattle.kept_steps.specs.Histories.{mark_count, empty_input, Add, step_fault, done}
use Rattle.kept_steps.proofs.Soundness.{empty_sound}
use Rattle.kept_marks.specs.declared.Progress.{Progress}
use Rattle.kept_marks.specs.Stored.{held_by, progress_of}
use Rattle.kept_marks.specs.Properties.{Reads, StepsIn}
use Rattle.kept_marks.proofs.Storing.{held_stored}
use Rattle.kept_marks.proofs.Holding.{held_length, held_sound}
use Rattle.kept_marks.proofs.Stepping.{step_done, same_progress}
use Rattle.kept_input.specs.declared.KeptInput.{KeptInput}
use Rattle.kept_input.specs.Held.{kept_input, held_input, stored_input}
use Rattle.kept_input.specs.Properties.{BeginsEmpty}

pub begins : {k : KeptInput} → k ≡ stored_input (replicate max_tokens 0) empty_input → BeginsEmpty k
begins {k} e = record { value = e; holds = ap held_input e ∙ held_stored (replicate max_tokens 0) empty_input empty_sound }

pub begin_stored : {p : Progress} → p ≡ progress_of empty_input → kept_input (replicate max_tokens 0) p ≡ stored_input (replicate max_tokens 0) empty_input
begin_stored e = ap (kept_input (replicate max_tokens 0)) e

-- what stands in the array after an event is added
add_events : (l : List ℕ) (n a : ℕ) → n < length l → set l n a ≡ (take n l ++ a ∷ []) ++ drop (length (take n l ++ a ∷ [])) l
add_events l n a h =
    let longer : length (take n l ++ a ∷ []) ≡ suc n = omega (arith, length-append (take n l) (a ∷ []), length-take-le n l (omega arith)) in
    rw longer (set_split l n a h ∙ sym (append_snoc (take n l) a (drop (suc n) l)))

-- by the progress as the code has read it
module _ (events : List ℕ) (p : Progress) (whole : length events ≡ max_tokens) (eight : length p.marks ≡ mark_count)
    {now : Progress} (reads : Reads p now) where
  read_length : now.length ≡ length (held_by events p).events
  unfolding progress_of
  read_length = ap (λ (q : Progress). q.length) (reads.stored events whole)

  pub add_done : (event : ℕ) → now.length < max_tokens
      → StepsIn (Add event) events p (Ok (record { length = now.length + 1; marks = now.marks }))
      (set events now.length event)
  unfolding step_fault done held_by progress_of
  add_done event h =
      let n = length (held_by events p).events in
      let held = held_length events p whole eight in
      let fits : step_fault (Add event) (held_by events p) ≡ none = rw (lt-leb max_tokens n (omega (arith, h, read_length))) in
      let longer : now.length + 1 ≡ length ((held_by events p).events ++ event ∷ [])
      = omega (arith, read_length, length-append (held_by events p).events (event ∷ [])) in
      step_done (Add event) events p (held_sound events p whole eight) fits
      (rw (read_length ∙ held) (add_events events _ event (omega (arith, whole, h, read_length, held))))
      (same_progress longer (ap (λ (q : Progress). q.marks) (reads.stored events whole)))
