-- The laws of lent memory, by the first fault.
use mathlib.Core.Path.{◌≡◌, sym, ap}
use mathlib.Core.List.{List, ◌++◌}
use mathlib.Core.Option.{Option, none, some}
use Prim.Native.Nat.{ℕ}
use lib.ListN.{length, drop}
use Rattle.answer.specs.declared.Error.{Error}
use Rattle.promises.specs.Memory.{lent_back}

-- a call that is refused leaves what was there
pub refused_stays : {f : Option Error} {x : Error} (new old : List ℕ) → f ≡ some x → old ≡ lent_back f new old
refused_stays new old e = sym (ap (λ f. lent_back f new old) e)

-- another leaves new words in front of it
pub faultless_lends : {f : Option Error} (new old : List ℕ) → f ≡ none → lent_back f new old ≡ new ++ drop (length new) old
faultless_lends new old e = ap (λ f. lent_back f new old) e
