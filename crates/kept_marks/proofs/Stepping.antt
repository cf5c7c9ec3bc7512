-- Marking and returning store what the step makes of what the value holds.
use mathlib.Core.Path.{◌≡◌, refl, sym, ap, ◌∙◌}
use mathlib.Core.Bool.{Bool, true, false}
use mathlib.Core.List.{List, [], ◌∷◌, ◌++◌, map}
use mathlib.Core.Option.{Option, none, some}
use Prim.Native.Nat.{ℕ, zero, suc, ◌≤◌, ◌<◌}
use native.Mathlib.Omega.{arith}
use lib.Dec.{leb, eqb}
use lib.ListN.{length, get_or, take, drop, set, take-append-drop}
use lib.Seq.{length-take-le, take-take}
use borrow.Author.Tests.{leb-true, le-leb, lt-leb}
use Rattle.std.specs.Prelude.{Ok, Err}
use Rattle.answer.specs.declared.Error.{Error}
use Rattle.answer.specs.declared.Error.TheVariants.{UnknownMark, MarkNotSet}
use Rattle.base.specs.Choice.{choose}
use Rattle.grammar.specs.Limits.{max_tokens}
use Rattle.promises.proofs.Leaving.{leaves, leaves_alike, leaves_refused}
use Rattle.kept_steps.specs.Histories.{mark_count, Step, Mark, Return, within_length, step_fault, done, after_step}
use Rattle.kept_steps.specs.Sound.{Sound}
use Rattle.kept_steps.proofs.Soundness.{done_sound}
use Rattle.kept_marks.specs.declared.Progress.{Progress}
use Rattle.kept_marks.specs.Stored.{unset_code, length_read, read_mark, held_by, values_of, code_of, progress_of, stored_events}
use Rattle.kept_marks.specs.inner.Stored.{cleared_beyond, read_progress}
use Rattle.kept_marks.specs.Properties.{Reads, StepsIn}
use Rattle.kept_marks.proofs.Lists.{map_map, values_same, values_list, values_set}
use Rattle.kept_marks.proofs.Storing.{code_read, code_within, held_stored}
use Rattle.kept_marks.proofs.Holding.{held_sound}

-- a step by whether it is refused
module _ (t : Step) (events : List ℕ) (p : Progress) where
  pub step_refused : (x : Error) → step_fault t (held_by events p) ≡ some x → StepsIn t events p (Err x) events
  unfolding after_step
  step_refused x q = record { leaves = leaves_refused q tt; events_left = rw q; progress_left = rw q; holds = rw q }

  pub step_done : {events' : List ℕ} {next : Progress} → Sound (held_by events p) → step_fault t (held_by events p) ≡ none
      → events' ≡ stored_events events (done t (held_by events p)) → next ≡ progress_of (done t (held_by events p))
      → StepsIn t events p (Ok next) events'
  unfolding after_step
  step_done h q e f = record {
    leaves = leaves_alike q (leaves refl tt);
    events_left = rw q e;
    progress_left = rw q f;
    holds = rw (q, e, f) (held_stored events (done t (held_by events p)) (done_sound (held_by events p) h t q));
  }

pub same_progress : {a b : ℕ} {c d : List ℕ} → a ≡ b → c ≡ d → ◌≡◌ {A = Progress} (record { length = a; marks = c }) (record { length = b; marks = d })
same_progress p q = cc

-- what stands in the arrays after each step
cut_events : (l : List ℕ) (n m : ℕ) → m ≤ n → n ≤ length l → l ≡ take m (take n l) ++ drop (length (take m (take n l))) l
cut_events l n m h k =
    let shorter : length (take m (take n l)) ≡ m = rw (take-take m n l h) (length-take-le m l (omega arith)) in
    rw (shorter, take-take m n l h) (sym (take-append-drop m l))

whole_events : (l : List ℕ) (n : ℕ) → n ≤ length l → l ≡ take n l ++ drop (length (take n l)) l
whole_events l n h = rw (length-take-le n l h) (sym (take-append-drop n l))

codes_read : (cs : List ℕ) (n c : ℕ) → length cs ≡ c → map (cleared_beyond n) cs ≡ values_of (λ m. code_of (read_mark n (get_or cs m unset_code))) c
codes_read cs n c e = rw (← e) (sym (values_same (λ m. code_read n (get_or cs m unset_code)) (length cs) ∙ values_list (cleared_beyond n) unset_code cs))

codes_cut : (cs : List ℕ) (to n c : ℕ) → to < unset_code → length cs ≡ c
    → map (cleared_beyond to) (map (cleared_beyond n) cs) ≡ values_of (λ m. code_of (within_length to (read_mark n (get_or cs m unset_code)))) c
codes_cut cs to n c h e =
    rw (← e)
    (map_map (cleared_beyond n) (cleared_beyond to) cs
    ∙ sym (values_same (λ m. code_within to n (get_or cs m unset_code) h) (length cs)
    ∙ values_list (λ x. cleared_beyond to (cleared_beyond n x)) unset_code cs))

codes_marked : (cs : List ℕ) (n m x c : ℕ) → length cs ≡ c
    → set (map (cleared_beyond n) cs) m x ≡ values_of (λ k. code_of (choose (eqb k m) (some x) (read_mark n (get_or cs k unset_code)))) c
codes_marked cs n m x c e =
    ap (λ (l : List ℕ). set l m x) (codes_read cs n c e)
    ∙ sym (values_same (λ k. chosen (eqb k m) (read_mark n (get_or cs k unset_code))) c
    ∙ values_set x (λ k. code_of (read_mark n (get_or cs k unset_code))) m c)
  where
    chosen : (b : Bool) (o : Option ℕ) → code_of (choose b (some x) o) ≡ choose b x (code_of o)
    chosen true o = refl
    chosen false o = refl

map_at : (f : ℕ → ℕ) (l : List ℕ) (i d d' : ℕ) → i < length l → get_or (map f l) i d ≡ f (get_or l i d')
map_at f [] i d d' h = absurd (omega arith)
map_at f (x ∷ l) zero d d' h = refl
map_at f (x ∷ l) (suc i) d d' h = map_at f l i d d' (omega arith)

-- a mark is set where its code is at most the length
cleared_set : (n x : ℕ) → n < unset_code → cleared_beyond n x ≤ n → read_mark n x ≡ some (cleared_beyond n x)
cleared_set n x h = go (leb x n)
  where
    go : (b : Bool) → choose b x unset_code ≤ n → choose b (some x) none ≡ some (choose b x unset_code)
    go true l = refl
    go false l = absurd (omega arith)

cleared_unset : (n x : ℕ) → n < cleared_beyond n x → read_mark n x ≡ none
cleared_unset n x = go (leb x n) refl
  where
    go : (b : Bool) → leb x n ≡ b → n < choose b x unset_code → choose b (some x) none ≡ none
    go true e l = absurd (omega (arith, leb-true x n e))
    go false e l = refl

module _ (events : List ℕ) (p : Progress) (whole : length events ≡ max_tokens) (eight : length p.marks ≡ mark_count) where
  in_events : length_read p ≤ length events
  in_events = omega (arith, whole)

  taken : length (take (length_read p) events) ≡ length_read p
  taken = length-take-le (length_read p) events in_events

  -- what a value holds, stored again, number by number
  pub stored_read : progress_of (held_by events p) ≡ read_progress p
  unfolding held_by progress_of
  stored_read = same_progress taken (sym (codes_read p.marks (length_read p) mark_count eight))

  -- the laws speak of the progress as the code has read it
  module _ {now : Progress} (reads : Reads p now) where
    e : now ≡ read_progress p
    e = reads.stored events whole ∙ stored_read

    read_length : now.length ≡ length_read p
    read_length = ap (λ (q : Progress). q.length) e

    pub mark_done : (m : ℕ) → m < mark_count
        → StepsIn (Mark m) events p (Ok (record { length = now.length; marks = set now.marks m now.length })) events
    unfolding step_fault done held_by progress_of
    mark_done m h =
        let n = length_read p in
        let known : step_fault (Mark m) (held_by events p) ≡ none = rw (lt-leb mark_count m h) in
        step_done (Mark m) events p (held_sound events p whole eight) known (whole_events events n in_events)
        (rw e (same_progress (sym taken) (rw taken (codes_marked p.marks n m n mark_count eight))))

    module _ (m : ℕ) (h : m < mark_count) where
      code_at : get_or now.marks m 0 ≡ cleared_beyond (length_read p) (get_or p.marks m unset_code)
      code_at = rw e (map_at (cleared_beyond (length_read p)) p.marks m 0 unset_code (omega (arith, eight, h)))

      pub return_unset : now.length < get_or now.marks m 0
          → StepsIn (Return m) events p (Err MarkNotSet) events
      unfolding step_fault held_by
      return_unset u =
          let unset : read_mark (length_read p) (get_or p.marks m unset_code) ≡ none
          = cleared_unset (length_read p) (get_or p.marks m unset_code) (omega (arith, u, code_at, read_length)) in
          step_refused (Return m) events p MarkNotSet (rw (lt-leb mark_count m h, unset))

      pub return_done : get_or now.marks m 0 ≤ now.length → {marks : List ℕ}
          → marks ≡ map (cleared_beyond (get_or now.marks m 0)) now.marks
          → StepsIn (Return m) events p (Ok (record { length = get_or now.marks m 0; marks = marks })) events
      unfolding step_fault done held_by progress_of
      return_done l c =
          let n = length_read p in
          let to = get_or now.marks m 0 in
          let less : to ≤ n = omega (arith, l, read_length) in
          let set_there : read_mark n (get_or p.marks m unset_code) ≡ some to
          = cleared_set n (get_or p.marks m unset_code) (omega arith) (omega (arith, less, code_at)) ∙ ap some (sym code_at) in
          let known : step_fault (Return m) (held_by events p) ≡ none = rw (lt-leb mark_count m h, set_there) in
          let shorter : length (take to (take n events)) ≡ to = length-take-le to (take n events) (omega (arith, taken, less)) in
          let cleared : map (cleared_beyond to) now.marks ≡ map (cleared_beyond to) (map (cleared_beyond n) p.marks)
          = ap (λ (q : Progress). map (cleared_beyond to) q.marks) e in
          step_done (Return m) events p (held_sound events p whole eight) known
          (rw set_there (cut_events events n to less in_events))
          (rw set_there (same_progress (sym shorter) (c ∙ cleared ∙ codes_cut p.marks to n mark_count (omega (arith, less)) eight)))

-- a number of no mark
module _ (events : List ℕ) (p : Progress) (m : ℕ) (h : mark_count ≤ m) where
  pub mark_unknown : StepsIn (Mark m) events p (Err UnknownMark) events
  unfolding step_fault
  mark_unknown = step_refused (Mark m) events p UnknownMark (rw (le-leb mark_count m h))

  pub return_unknown : StepsIn (Return m) events p (Err UnknownMark) events
  unfolding step_fault
  return_unknown = step_refused (Return m) events p UnknownMark (rw (le-leb mark_count m h))
