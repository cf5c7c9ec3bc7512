-- What lent memory holds after a call.
use Rattle.std.specs.Prelude.{List, ◌++◌, ℕ, length, drop}
use Rattle.std.proofs.Math.Option.{Option, none, some}
use Rattle.answer.specs.declared.Error.{Error}

-- by whether a call is refused: what was there, or new words in front of what was there
abbrev pub lent_back : Option Error → List ℕ → List ℕ → List ℕ
lent_back (some e) new old = old
lent_back none new old = new ++ drop (length new) old
