-- What is found of lent memory, of a grammar and then by the faults of an input, as the code finds it.
use Rattle.std.specs.Prelude.{Err, None, Ok, Option, Result, Some}
use mathlib.Core.Path.{◌≡◌, refl, sym, ap, ◌∙◌}
use mathlib.Core.Bool.{Bool, true, false}
use mathlib.Core.List.{List}
use mathlib.Core.Option.{Option as Maybe, none, some}
use Prim.Native.Nat.{ℕ, ◌≤◌, ◌<◌}
use native.Mathlib.Omega.{arith}
use lib.Dec.{ltb}
use lib.ListN.{length}
use borrow.Author.Tests.{lt-ltb, le-ltb, ltb-true, ltb-false}
use Rattle.answer.specs.declared.Error.{Error}
use Rattle.answer.specs.declared.Error.TheVariants.{InputTooLong, UnknownToken}
use Rattle.answer.specs.Faults.{first_fault}
use Rattle.base.specs.Choice.{choose}
use Rattle.event.specs.Events.{input_of}
use Rattle.event.specs.Unknown.{unknown_from}
use Rattle.event.proofs.Inputs.{input_length}
use Rattle.grammar.specs.declared.reading.Sizes.{Sizes}
use Rattle.promises.specs.inner.Inputs.{passed_unless, with_faults, with_room, with_input_to}

-- by what is found of the grammar
pub record PassedWith (f : Result Sizes Error) (faults : ℕ → List (Maybe Error)) (z : Sizes) : Type 0 where
  pub grammar : f ≡ Ok z
  pub faultless : first_fault (faults z.terminals) ≡ none

pub data RefusedWith (f : Result Sizes Error) (faults : ℕ → List (Maybe Error)) (x : Error) : Type 0 where
  by_grammar : f ≡ Err x → RefusedWith f faults x
  by_faults : (z : Sizes) → f ≡ Ok z → first_fault (faults z.terminals) ≡ some x → RefusedWith f faults x

pub with_passed : (f : Result Sizes Error) (faults : ℕ → List (Maybe Error)) {z : Sizes} → with_faults f faults ≡ Ok z → PassedWith f faults z
with_passed (Err e) faults q = let n : ◌≡◌ {A = ℕ} 0 1 = cc in absurd (omega arith)
with_passed (Ok y) faults {z} q = go (first_fault (faults y.terminals)) refl q
  where
    go : (o : Maybe Error) → first_fault (faults y.terminals) ≡ o → passed_unless o y ≡ Ok z → PassedWith (Ok y) faults z
    go none e p = let s : y ≡ z = cc in record { grammar = p; faultless = rw (← s) e }
    go (some x) e p = let n : ◌≡◌ {A = ℕ} 0 1 = cc in absurd (omega arith)

pub with_refused : (f : Result Sizes Error) (faults : ℕ → List (Maybe Error)) {x : Error} → with_faults f faults ≡ Err x → RefusedWith f faults x
with_refused (Err e) faults q = by_grammar q
with_refused (Ok y) faults {x} q = go (first_fault (faults y.terminals)) refl q
  where
    go : (o : Maybe Error) → first_fault (faults y.terminals) ≡ o → passed_unless o y ≡ Err x → RefusedWith (Ok y) faults x
    go none e p = let n : ◌≡◌ {A = ℕ} 0 1 = cc in absurd (omega arith)
    go (some v) e p = let s : v ≡ x = cc in by_faults y refl (e ∙ ap some s)

-- by the length of lent memory
module _ (lent least : ℕ) (e : Error) (f : Result Sizes Error) where
  pub room_short : lent < least → Err e ≡ with_room lent least e f
  room_short h = rw (lt-ltb lent least h)

  pub room_enough : least ≤ lent → {g : Result Sizes Error} → g ≡ f → g ≡ with_room lent least e f
  room_enough h q = rw (le-ltb lent least h) q

  pub room_passed : {z : Sizes} → with_room lent least e f ≡ Ok z → (least ≤ lent) × (f ≡ Ok z)
  room_passed {z} q = go (ltb lent least) refl q
    where
      go : (b : Bool) → ltb lent least ≡ b → choose b (Err e) f ≡ Ok z → (least ≤ lent) × (f ≡ Ok z)
      go true t p = let n : ◌≡◌ {A = ℕ} 0 1 = cc in absurd (omega arith)
      go false t p = (ltb-false lent least t, p)

pub data RoomRefused (lent least : ℕ) (e : Error) (f : Result Sizes Error) (x : Error) : Type 0 where
  too_short : lent < least → e ≡ x → RoomRefused lent least e f x
  enough : least ≤ lent → f ≡ Err x → RoomRefused lent least e f x

pub room_refused : (lent least : ℕ) (e : Error) (f : Result Sizes Error) {x : Error} → with_room lent least e f ≡ Err x → RoomRefused lent least e f x
room_refused lent least e f {x} q = go (ltb lent least) refl q
  where
    go : (b : Bool) → ltb lent least ≡ b → choose b (Err e) f ≡ Err x → RoomRefused lent least e f x
    go true t p = let s : e ≡ x = cc in too_short (ltb-true lent least t) s
    go false t p = enough (ltb-false lent least t) p

-- the same of an input, as the code finds it
module _ (most : ℕ) (events : List ℕ) {f : Result Sizes Error} {z : Sizes} (p : f ≡ Ok z) where
  abbrev input : List ℕ
  input = input_of events

  pub with_long : most < length events → Err InputTooLong ≡ with_input_to most f input
  with_long h = rw (p, lt-ltb most (length input) (omega (arith, input_length events)))

  module _ (short : length events ≤ most) {u : Option ℕ} (e : u ≡ unknown_from z.terminals 0 input) where
    pub with_unknown : {at : ℕ} → u ≡ Some at → Err (UnknownToken at) ≡ with_input_to most f input
    with_unknown q = rw (p, le-ltb most (length input) (omega (arith, input_length events)), sym e ∙ q)

    pub with_known : u ≡ None → Ok z ≡ with_input_to most f input
    with_known q = rw (p, le-ltb most (length input) (omega (arith, input_length events)), sym e ∙ q)
