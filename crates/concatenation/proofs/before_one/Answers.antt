-- An empty second set, or the set of the terminal, which is a long string.
use mathlib.Core.Path.{sym, ◌∙◌}
use Rattle.lookahead.specs.declared.Lookahead.TheVariants.{One}
use Rattle.lookahead.specs.inner.Operations.{terminal}
use Rattle.concatenation.proofs.Cases as cases
use Rattle.concatenation.proofs.Parts as parts
use Rattle.concatenation.proofs.before_one.Goals as goal

pub returns-then-is_empty : goal.returns-then-is_empty
returns-then-is_empty c =
    let args = c.args in
    parts.concat_empty One (terminal One args.number) args.other.bits c.strings-second.ensures (sym c.is_empty.ensures ∙ c.if-is_empty.true)

pub returns-else-is_empty : goal.returns-else-is_empty
returns-else-is_empty c =
    let args = c.args in
    let made = c.terminal.ensures in
    parts.concat_long One (terminal One args.number) args.other.bits (cases.terminal_whole made) c.strings-second.ensures
    (sym c.is_empty.ensures ∙ c.if-is_empty.false) (cases.terminal_long made)
