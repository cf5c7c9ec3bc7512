-- What judging leaves is settled by the input, so directions change nothing.
use mathlib.Core.Path.{◌≡◌, sym, ◌∙◌}
use mathlib.Core.List.{List}
use Prim.Native.Nat.{ℕ}
use Rattle.answer.specs.declared.Answer.{Answer}
use Rattle.lookahead.specs.declared.Lookahead.{Lookahead}
use Rattle.promises.specs.Directions.{DirectionsIgnored}
use Rattle.promises.proofs.Directions.{pair_same, directions_ignored}
use Rattle.recognizer_promises.specs.Properties.{Judges}

-- the answer and both memories
abbrev Left : Type 0
Left = Answer × (List ℕ × List ℕ)

module _ (k : Lookahead) (words table memo : List ℕ) where
  abbrev Promise : List ℕ → Left → Type 0
  Promise input l = Judges k words input table memo l.0 l.1.0 l.1.1

  settled : (w : List ℕ) (l m : Left) → Promise w l → Promise w m → l ≡ m
  settled w l m p q =
      pair_same (p.leaves.answer ∙ sym q.leaves.answer)
      (pair_same (p.leaves.memory.0 ∙ sym q.leaves.memory.0) (p.leaves.memory.1.0 ∙ sym q.leaves.memory.1.0))

  pub judge_ignores : DirectionsIgnored Promise
  judge_ignores = directions_ignored Promise settled
