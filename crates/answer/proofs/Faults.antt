-- The laws of a list of faults: when none holds, that rows may be nested, and what holds of the first because it holds of each.
use mathlib.Core.Path.{◌≡◌, refl, sym}
use mathlib.Core.Bool.{Bool, true, false}
use mathlib.Core.List.{List, [], ◌∷◌, ◌++◌}
use mathlib.Core.Option.{Option, none, some, some-ne-none}
use Rattle.answer.specs.declared.Error.{Error}
use Rattle.answer.specs.declared.Answer.{Answer}
use Rattle.answer.specs.Numbers.{numbers}
use Rattle.answer.specs.Faults.{fault_if, first_fault, refused_or, told_or}

-- a fault is there or not
pub none_some : {e : Error} → none ≡ some e → ⊥
none_some {e} q = some-ne-none e (sym q)

-- a row that is none is of a test that fails
pub fault_none : (b : Bool) (e : Error) → fault_if b e ≡ none → b ≡ false
fault_none true e q = absurd (none_some (sym q))
fault_none false e q = refl

-- no row holds
abbrev pub Faultless : List (Option Error) → Type 0
Faultless [] = Unit {0}
Faultless (f ∷ l) = (f ≡ none) × Faultless l

pub each_none : (l : List (Option Error)) → first_fault l ≡ none → Faultless l
each_none [] e = tt
each_none (none ∷ l) e = (refl, each_none l e)
each_none (some x ∷ l) e = absurd (none_some (sym e))

pub first_none : (l : List (Option Error)) → Faultless l → first_fault l ≡ none
first_none [] h = refl
first_none (none ∷ l) h = first_none l h.1
first_none (some x ∷ l) h = absurd (none_some (sym h.0))

-- rows within a list are one row: their first
pub first_nested : (k l m : List (Option Error)) → first_fault (k ++ l ++ m) ≡ first_fault (k ++ first_fault l ∷ m)
first_nested [] [] m = refl
first_nested [] (none ∷ l) m = first_nested [] l m
first_nested [] (some x ∷ l) m = refl
first_nested (none ∷ k) l m = first_nested k l m
first_nested (some x ∷ k) l m = refl

-- what holds of a row's error, if it has one
abbrev pub OfFault : (Error → Type 0) → Option Error → Type 0
OfFault P f = (e : Error) → f ≡ some e → P e

module _ (P : Error → Type 0) where
  pub of_none : OfFault P none
  of_none e q = absurd (none_some q)

  pub of_some : (x : Error) → P x → OfFault P (some x)
  of_some x h e q = let z : e ≡ x = cc in rw z h

  pub of_if : (b : Bool) (x : Error) → P x → OfFault P (fault_if b x)
  of_if true x h = of_some x h
  of_if false x h = of_none

-- what holds of each row's error, where no row before it has one
abbrev pub EachFault : (Error → Type 0) → List (Option Error) → Type 0
EachFault P [] = Unit {0}
EachFault P (f ∷ l) = OfFault P f × (f ≡ none → EachFault P l)

pub first_each : (P : Error → Type 0) (l : List (Option Error)) → EachFault P l → OfFault P (first_fault l)
first_each P [] h e q = absurd (none_some q)
first_each P (none ∷ l) h e q = first_each P l (h.1 refl) e q
first_each P (some x ∷ l) h e q = h.0 e q

-- the numbers of an answer, unless there is a fault
pub numbers_told : (f : Option Error) (a : Answer) → numbers (refused_or f a) ≡ told_or f (numbers a)
numbers_told none a = refl
numbers_told (some e) a = refl
