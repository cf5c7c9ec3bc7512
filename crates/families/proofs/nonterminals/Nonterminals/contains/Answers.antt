-- No number weighs more than the width allows.
use mathlib.Core.Path.{sym}
use native.Mathlib.Omega.{arith}
use borrow.Author.Tests.{le-ltb}
use Rattle.grammar.specs.Limits.{max_nonterminals}
use Rattle.lookahead.proofs.Elements.{has_above}
use Rattle.families.proofs.nonterminals.Nonterminals.contains.Goals as goal

pub returns-else-number-lt-NONTERMINALS : goal.returns-else-number-lt-NONTERMINALS
returns-else-number-lt-NONTERMINALS c =
    rw (le-ltb _ _ c.if-number-lt-NONTERMINALS.false) (sym (has_above max_nonterminals c.args.self.bits c.args.number (omega arith) (omega arith)))
