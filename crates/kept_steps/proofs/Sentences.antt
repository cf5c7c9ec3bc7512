-- What document 02 says of the steps, sentence by sentence.
use mathlib.Core.Path.{◌≡◌, refl, sym, ap, ◌∙◌}
use mathlib.Core.Bool.{false}
use mathlib.Core.List.{List, [], ◌∷◌, ◌++◌, Memᴰ}
use mathlib.Core.Option.{Option, none, some}
use Prim.Native.Nat.{ℕ, ◌≤◌, ◌<◌}
use native.Mathlib.Decide.{dec_lt}
use native.Mathlib.Omega.{arith}
use lib.Dec.{eqb}
use lib.ListN.{length, take}
use borrow.Author.Tests.{le-leb, lt-leb, eq-eqb, ne_eqb}
use Rattle.answer.specs.declared.Error.{Error}
use Rattle.answer.specs.declared.Error.TheVariants.{UnknownMark, MarkNotSet, InputFull}
use Rattle.grammar.specs.Limits.{max_tokens}
use Rattle.kept_steps.specs.Histories.{mark_count, Kept, Step, Add, Mark, Return, step_fault, within_length, cut_at, done, unless_refused, after_step, ran}
use Rattle.kept_steps.specs.Sentences.{Sentences}
use Rattle.kept_steps.proofs.Soundness.{within_none}

refused : (t : Step) (s : Kept) (e : Error) → step_fault t s ≡ some e → after_step t s ≡ s
unfolding after_step
refused t s e q = rw q

passes : (t : Step) (s : Kept) → step_fault t s ≡ none → after_step t s ≡ done t s
unfolding after_step
passes t s q = rw q

module _ (s : Kept) where
  full : (event : ℕ) → max_tokens ≤ length s.events → step_fault (Add event) s ≡ some InputFull
  unfolding step_fault
  full event h = rw (le-leb max_tokens (length s.events) h)

  no_mark : (m : ℕ) → mark_count ≤ m → step_fault (Mark m) s ≡ some UnknownMark
  unfolding step_fault
  no_mark m h = rw (le-leb mark_count m h)

  no_return : (m : ℕ) → mark_count ≤ m → step_fault (Return m) s ≡ some UnknownMark
  unfolding step_fault
  no_return m h = rw (le-leb mark_count m h)

  not_set : (m : ℕ) → m < mark_count → s.marks m ≡ none → step_fault (Return m) s ≡ some MarkNotSet
  unfolding step_fault
  not_set m h e = rw (lt-leb mark_count m h, e)

  grows : (event : ℕ) → length s.events < max_tokens → after_step (Add event) s ≡ record { events = s.events ++ event ∷ []; marks = s.marks }
  unfolding step_fault done
  grows event h = passes (Add event) s (rw (lt-leb max_tokens (length s.events) h))

  known : (m : ℕ) → m < mark_count → after_step (Mark m) s ≡ done (Mark m) s
  unfolding step_fault
  known m h = passes (Mark m) s (rw (lt-leb mark_count m h))

  marks : (m : ℕ) → m < mark_count → (after_step (Mark m) s).marks m ≡ some (length s.events)
  unfolding done
  marks m h = rw (known m h, eq-eqb m m refl)

  others : (m k : ℕ) → (k ≡ m → ⊥) → (after_step (Mark m) s).marks k ≡ s.marks k
  unfolding done
  others m k ne = go (dec_lt m mark_count)
    where
      go : Dec (m < mark_count) → (after_step (Mark m) s).marks k ≡ s.marks k
      go (yes h) = rw (known m h, ne_eqb k m ne)
      go (no h) = rw (refused (Mark m) s UnknownMark (no_mark m (omega (arith, h))))

  unread : (m : ℕ) → (after_step (Mark m) s).events ≡ s.events
  unfolding done
  unread m = go (dec_lt m mark_count)
    where
      go : Dec (m < mark_count) → (after_step (Mark m) s).events ≡ s.events
      go (yes h) = rw (known m h)
      go (no h) = rw (refused (Mark m) s UnknownMark (no_mark m (omega (arith, h))))

  module _ (m n : ℕ) (h : m < mark_count) (e : s.marks m ≡ some n) where
    returned : after_step (Return m) s ≡ cut_at (some n) s
    unfolding step_fault done
    returned = passes (Return m) s (rw (lt-leb mark_count m h, e)) ∙ ap (λ (o : Option ℕ). cut_at o s) e

    cuts : (after_step (Return m) s).events ≡ take n s.events
    cuts = ap (λ (k : Kept). k.events) returned

    kept_within : (k : ℕ) → (after_step (Return m) s).marks k ≡ within_length n (s.marks k)
    kept_within k = ap (λ (r : Kept). r.marks k) returned

    stay : (k j : ℕ) → s.marks k ≡ some j → j ≤ n → (after_step (Return m) s).marks k ≡ some j
    stay k j q l = kept_within k ∙ rw (q, le-leb j n l)

    clears : (k j : ℕ) → s.marks k ≡ some j → n < j → (after_step (Return m) s).marks k ≡ none
    clears k j q l = kept_within k ∙ rw (q, lt-leb j n l)

-- what is not set stays so but for its marking
done_unset : (t : Step) (s : Kept) (k : ℕ) → (t ≡ Mark k → ⊥) → s.marks k ≡ none → (done t s).marks k ≡ none
unfolding done
done_unset (Add event) s k ne e = e
done_unset (Mark m) s k ne e = let z : eqb k m ≡ false = ne_eqb k m (λ q. ne (ap Mark (sym q))) in rw z e
done_unset (Return m) s k ne e = go (s.marks m)
  where
    go : (o : Option ℕ) → (cut_at o s).marks k ≡ none
    go none = e
    go (some n) = within_none n (s.marks k) e

after_unset : (t : Step) (s : Kept) (k : ℕ) → (t ≡ Mark k → ⊥) → s.marks k ≡ none → (after_step t s).marks k ≡ none
unfolding after_step
after_unset t s k ne e = go (step_fault t s)
  where
    go : (f : Option Error) → (unless_refused f (done t s) s).marks k ≡ none
    go none = done_unset t s k ne e
    go (some x) = e

unset : (s : Kept) (k : ℕ) (l : List Step) → (Memᴰ (Mark k) l → ⊥) → s.marks k ≡ none → (ran l s).marks k ≡ none
unfolding ran
unset s k [] ne e = e
unset s k (t ∷ l) ne e = unset (after_step t s) k l (λ m. ne (Memᴰ.tail m)) (after_unset t s k (λ q. ne (Memᴰ.head (sym q))) e)

pub sentences : Sentences
sentences = record {
  grows = grows;
  marks = marks;
  others = others;
  unread = unread;
  cuts = cuts;
  stay = λ s m n k j h e. stay s m n h e k j;
  clears = λ s m n k j h e. clears s m n h e k j;
  unset = unset;
  full = full;
  no_mark = no_mark;
  no_return = no_return;
  not_set = not_set;
  refused = refused;
}
