-- No element weighs more than the number's width allows.
use mathlib.Core.Path.{sym}
use native.Mathlib.Omega.{arith}
use borrow.Author.Tests.{le-ltb}
use Rattle.lookahead.specs.Elements.{width}
use Rattle.lookahead.proofs.Elements as elements
use Rattle.lookahead_sets.proofs.LookaheadSet.contains.Goals as goal

pub returns-else-element-lt-WIDTH : goal.returns-else-element-lt-WIDTH
returns-else-element-lt-WIDTH c =
    rw (le-ltb _ _ c.if-element-lt-WIDTH.false) (sym (elements.has_above width c.args.self.bits c.args.element (omega arith) (omega arith)))
