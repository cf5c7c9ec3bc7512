-- Steps keep events and marks fitting together.
use mathlib.Core.Path.{◌≡◌, refl}
use mathlib.Core.Bool.{Bool, true, false}
use mathlib.Core.List.{List, [], ◌∷◌, ◌++◌}
use mathlib.Core.Option.{Option, none, some}
use Prim.Native.Nat.{ℕ, ◌+◌, ◌≤◌, ◌<◌}
use native.Mathlib.Omega.{arith}
use lib.Dec.{leb, eqb}
use lib.ListN.{length, take, length-append}
use lib.Seq.{length-take-le}
use borrow.Author.Tests.{leb-true, leb-false, eqb-true}
use Rattle.answer.specs.declared.Error.{Error}
use Rattle.answer.specs.declared.Error.TheVariants.{UnknownMark, InputFull}
use Rattle.answer.proofs.Faults.{fault_none, each_none}
use Rattle.base.specs.Choice.{choose}
use Rattle.grammar.specs.Limits.{max_tokens}
use Rattle.kept_steps.specs.Histories.{mark_count, Kept, empty_input, Step, Add, Mark, Return, step_fault, within_length, cut_at, done, unless_refused}
use Rattle.kept_steps.specs.Histories.{after_step, ran}
use Rattle.kept_steps.specs.Sound.{Sound}

some_same : {m n : ℕ} → some m ≡ some n → m ≡ n
some_same e = cc

none_set : {n : ℕ} → none ≡ some n → ⊥
none_set e = let z : ◌≡◌ {A = ℕ} 0 1 = cc in absurd (omega arith)

-- a mark that is within a length
pub within_short : (n k : ℕ) (o : Option ℕ) → within_length n o ≡ some k → k ≤ n
within_short n k none e = absurd (none_set e)
within_short n k (some j) e = go (leb j n) refl e
  where
    go : (b : Bool) → leb j n ≡ b → choose b (some j) none ≡ some k → k ≤ n
    go true l q = omega (arith, leb-true j n l, some_same q)
    go false l q = absurd (none_set q)

pub within_none : (n : ℕ) (o : Option ℕ) → o ≡ none → within_length n o ≡ none
within_none n o e = rw e

module _ (s : Kept) (h : Sound s) where
  added : (event : ℕ) → length s.events < max_tokens → Sound (record { events = s.events ++ event ∷ []; marks = s.marks })
  added event l =
      let longer : length (s.events ++ event ∷ []) ≡ length s.events + 1 = length-append s.events (event ∷ []) in
      record { short = omega (arith, longer); inside = λ m n e. omega (arith, longer, h.inside m n e); eight = h.eight }

  marked : (m : ℕ) → m < mark_count
      → Sound (record { events = s.events; marks = λ k. choose (eqb k m) (some (length s.events)) (s.marks k) })
  marked m l = record {
    short = h.short;
    inside = λ k n e. inside k n (eqb k m) e;
    eight = λ k a. eight k a (eqb k m) refl;
  }
    where
      inside : (k n : ℕ) (b : Bool) → choose b (some (length s.events)) (s.marks k) ≡ some n → n ≤ length s.events
      inside k n true e = omega (arith, some_same e)
      inside k n false e = h.inside k n e

      eight : (k : ℕ) → mark_count ≤ k → (b : Bool) → eqb k m ≡ b → choose b (some (length s.events)) (s.marks k) ≡ none
      eight k a true e = absurd (omega (arith, eqb-true k m e))
      eight k a false e = h.eight k a

  cut : (n : ℕ) → n ≤ length s.events → Sound (record { events = take n s.events; marks = λ k. within_length n (s.marks k) })
  cut n l =
      let shorter : length (take n s.events) ≡ n = length-take-le n s.events l in
      record {
        short = omega (arith, shorter, h.short);
        inside = λ m k e. omega (arith, shorter, within_short n k (s.marks m) e);
        eight = λ m a. within_none n (s.marks m) (h.eight m a);
      }

  pub done_sound : (t : Step) → step_fault t s ≡ none → Sound (done t s)
  unfolding step_fault done
  done_sound (Add event) e = added event (omega (arith, leb-false max_tokens (length s.events) (fault_none _ InputFull (each_none (_ ∷ []) e).0)))
  done_sound (Mark m) e = marked m (omega (arith, leb-false mark_count m (fault_none _ UnknownMark (each_none (_ ∷ []) e).0)))
  done_sound (Return m) e = go (s.marks m) refl
    where
      go : (o : Option ℕ) → s.marks m ≡ o → Sound (cut_at o s)
      go none q = h
      go (some n) q = cut n (h.inside m n q)

  pub after_sound : (t : Step) → Sound (after_step t s)
  unfolding after_step
  after_sound t = go (step_fault t s) refl
    where
      go : (f : Option Error) → step_fault t s ≡ f → Sound (unless_refused f (done t s) s)
      go none e = done_sound t e
      go (some x) e = h

pub empty_sound : Sound empty_input
empty_sound = record { short = omega arith; inside = λ m n e. absurd (none_set e); eight = λ m h. refl }

pub ran_sound : (l : List Step) (s : Kept) → Sound s → Sound (ran l s)
unfolding ran
ran_sound [] s h = h
ran_sound (t ∷ l) s h = ran_sound l (after_step t s) (after_sound s h t)
