-- An empty second set, or a first set of long strings alone, or the parts: long strings, what comes behind nothing, and what comes behind a terminal alone.
use mathlib.Core.Path.{refl, sym, ◌∙◌}
use Rattle.lookahead.specs.declared.Lookahead.TheVariants.{Two}
use Rattle.concatenation.proofs.Parts as parts
use Rattle.concatenation.proofs.concat_two.Goals as goal

pub returns-then-is_empty : goal.returns-then-is_empty
returns-then-is_empty c =
    let args = c.args in
    parts.concat_empty Two args.set.bits args.other.bits c.strings-right.ensures (sym c.is_empty.ensures ∙ c.if-is_empty.true)

pub returns-then-all_pairs : goal.returns-then-all_pairs
returns-then-all_pairs c =
    let args = c.args in
    parts.concat_long Two args.set.bits args.other.bits c.strings-left.ensures c.strings-right.ensures
    (sym c.is_empty.ensures ∙ c.if-is_empty.false) (c.all_pairs.ensures c.if-all_pairs.true)

pub returns : goal.returns
returns c =
    let args = c.args in
    parts.concat_two Two args.set.bits args.other.bits c.strings-left.ensures c.strings-right.ensures
    (sym c.is_empty.ensures ∙ c.if-is_empty.false)
    c.long.ensures c.before-2.ensures refl c.join-both.ensures c.rows.ensures c.join.ensures
