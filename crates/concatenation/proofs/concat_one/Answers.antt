-- An empty second set, or the first without nothing, or the parts: long strings and what comes behind nothing.
use mathlib.Core.Path.{refl, sym, ◌∙◌}
use native.Mathlib.Nat.{mod-lt}
use lib.Pow.{pow_pos}
use Rattle.lookahead.specs.declared.Lookahead.TheVariants.{One}
use Rattle.lookahead.specs.Elements.{has}
use Rattle.concatenation.proofs.Cases as cases
use Rattle.concatenation.proofs.Parts as parts
use Rattle.concatenation.proofs.concat_one.Goals as goal

pub returns-then-is_empty : goal.returns-then-is_empty
returns-then-is_empty c =
    let args = c.args in
    parts.concat_empty One args.set.bits args.other.bits c.strings-second.ensures (sym c.is_empty.ensures ∙ c.if-is_empty.true)

pub returns-then-contains : goal.returns-then-contains
returns-then-contains c =
    let args = c.args in
    parts.concat_one One args.set.bits args.other.bits c.strings-first.ensures c.strings-second.ensures
    (sym c.is_empty.ensures ∙ c.if-is_empty.false) c.long.ensures
    (cases.if_passed (has c.strings-first.result.bits 24) c.strings-second.result.bits (sym c.contains.ensures ∙ c.if-contains.true))
    refl c.join.ensures

pub returns-else-contains : goal.returns-else-contains
returns-else-contains c =
    let args = c.args in
    parts.concat_long One args.set.bits args.other.bits c.strings-first.ensures c.strings-second.ensures
    (sym c.is_empty.ensures ∙ c.if-is_empty.false)
    (cases.all_long_one (rw c.strings-first.ensures (mod-lt args.set.bits (pow_pos 25))) (sym c.contains.ensures ∙ c.if-contains.false))
