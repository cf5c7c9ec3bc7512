-- What a call leaves: its answer, the numbers that it tells, and all lent memory, by why it is refused.
use Rattle.std.specs.Prelude.{◌≡◌, List, [], ◌∷◌, ℕ}
use Rattle.std.proofs.Math.Option.{Option}
use Rattle.answer.specs.declared.Error.{Error}
use Rattle.answer.specs.declared.Answer.{Answer}
use Rattle.answer.specs.Numbers.{numbers}
use Rattle.answer.specs.Faults.{refused_or, told_or}
use Rattle.promises.specs.Memory.{lent_back}

-- a lent memory: what it holds before a call, the words that the call writes in its front unless it is refused, and what it holds afterwards
pub record Lent : Type 0 where
  pub before : List ℕ
  pub words : List ℕ
  pub after : List ℕ

abbrev pub lent : List ℕ → List ℕ → List ℕ → Lent
lent before words after = record { before = before; words = words; after = after }

abbrev pub LentBack : Option Error → List Lent → Type 0
LentBack f [] = Unit {0}
LentBack f (m ∷ l) = (m.after ≡ lent_back f m.words m.before) × LentBack f l

-- a refusal f is the answer, and changes nothing; without one the answer is the due one, and each memory begins with its words and stays behind them
pub record Leaves (f : Option Error) (due r : Answer) (memories : List Lent) : Type 0 where
  pub answer : r ≡ refused_or f due
  pub told : numbers r ≡ told_or f (numbers due)
  pub memory : LentBack f memories
