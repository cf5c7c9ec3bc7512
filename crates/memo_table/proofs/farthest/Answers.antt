-- No call is recorded behind the place.
use mathlib.Core.Path.{◌≡◌, sym, ◌∙◌}
use native.Mathlib.Omega.{arith}
use Rattle.memo_table.proofs.Tallying.{farthest_here, farthest_none}
use Rattle.memo_table.proofs.farthest.Goals as goal

pub returns-then-called_at : goal.returns-then-called_at
returns-then-called_at c = farthest_here _ _ _ (omega arith) c.loop-place.invariant (sym c.called_at.ensures ∙ c.if-called_at.true)

pub returns : goal.returns
returns c = let e : c.loop-place.place ≡ 0 = omega arith in farthest_none _ _ _ e c.loop-place.invariant
