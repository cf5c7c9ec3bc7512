-- What is stored is read as it was, where events and marks fit together.
use mathlib.Core.Path.{◌≡◌, refl, fun_ext}
use mathlib.Core.Bool.{Bool, true, false}
use mathlib.Core.List.{List, ◌++◌}
use mathlib.Core.Option.{Option, none, some}
use Prim.Native.Nat.{ℕ, ◌≤◌, ◌<◌, min}
use native.Mathlib.Decide.{dec_lt}
use native.Mathlib.Omega.{arith}
use lib.Dec.{leb}
use lib.ListN.{length, get_or, take, drop, get_or-eq_default}
use lib.Seq.{take-append_seam}
use borrow.Author.Tests.{le-leb, lt-leb}
use Rattle.base.specs.Choice.{choose}
use Rattle.grammar.specs.Limits.{max_tokens}
use Rattle.kept_steps.specs.Histories.{mark_count, Kept, within_length}
use Rattle.kept_marks.specs.Stored.{unset_code, read_mark, held_by, values_of, code_of, progress_of, stored_events}
use Rattle.kept_marks.specs.inner.Stored.{cleared_beyond}
use Rattle.kept_steps.specs.Sound.{Sound}
use Rattle.kept_marks.proofs.Lists.{values_length, values_at}

pub same_kept : {a b : List ℕ} {c d : ℕ → Option ℕ} → a ≡ b → c ≡ d
    → ◌≡◌ {A = Kept} (record { events = a; marks = c }) (record { events = b; marks = d })
same_kept p q i = record { events = p i; marks = q i }

-- one mark
pub read_set : (n x : ℕ) → x ≤ n → read_mark n x ≡ some x
read_set n x h = rw (le-leb x n h)

pub read_unset : (n x : ℕ) → n < x → read_mark n x ≡ none
read_unset n x h = rw (lt-leb x n h)

pub code_read : (n x : ℕ) → code_of (read_mark n x) ≡ cleared_beyond n x
code_read n x = go (leb x n)
  where
    go : (b : Bool) → code_of (choose b (some x) none) ≡ choose b x unset_code
    go true = refl
    go false = refl

read_code : (n : ℕ) (o : Option ℕ) → n < unset_code → ((k : ℕ) → o ≡ some k → k ≤ n) → read_mark n (code_of o) ≡ o
read_code n none h l = read_unset n unset_code h
read_code n (some k) h l = read_set n k (l k refl)

pub code_within : (to n x : ℕ) → to < unset_code → code_of (within_length to (read_mark n x)) ≡ cleared_beyond to (cleared_beyond n x)
code_within to n x h = go (leb x n)
  where
    go : (b : Bool) → code_of (within_length to (choose b (some x) none)) ≡ cleared_beyond to (choose b x unset_code)
    go true = code_read to x
    go false = rw (lt-leb unset_code to h)

pub held_stored : (old : List ℕ) (s : Kept) → Sound s → held_by (stored_events old s) (progress_of s) ≡ s
unfolding held_by progress_of
held_stored old s h =
    let n = length s.events in
    let short : min n max_tokens ≡ n = omega (arith, h.short) in
    let events : take (min n max_tokens) (s.events ++ drop n old) ≡ s.events = rw short (take-append_seam s.events (drop n old)) in
    same_kept events (fun_ext λ m. rw short (at m (dec_lt m mark_count)))
  where
    at : (m : ℕ) → Dec (m < mark_count)
        → read_mark (length s.events) (get_or (values_of (λ k. code_of (s.marks k)) mark_count) m unset_code) ≡ s.marks m
    at m (yes l) =
        rw (values_at (λ k. code_of (s.marks k)) mark_count m unset_code l)
        (read_code (length s.events) (s.marks m) (omega (arith, h.short)) (h.inside m))
    at m (no l) =
        let codes = values_of (λ k. code_of (s.marks k)) mark_count in
        let none-there : get_or codes m unset_code ≡ unset_code
        = get_or-eq_default codes unset_code (omega (arith, l, values_length (λ k. code_of (s.marks k)) mark_count)) in
        let unset : s.marks m ≡ none = h.eight m (omega (arith, l)) in
        rw (none-there, unset) (read_unset (length s.events) unset_code (omega (arith, h.short)))
