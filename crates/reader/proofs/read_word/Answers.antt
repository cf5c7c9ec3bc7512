-- One word of a reading: the tests in their order.
use Rattle.grammar.proofs.Scanning.{stepped_rule, stepped_other}
use mathlib.Core.Path.{sym, ◌∙◌}
use Rattle.grammar.specs.Reading.{stepped}
use Rattle.reader.proofs.read_word.Goals as goal

pub returns-then-not-allows : goal.returns-then-not-allows
unfolding stepped
returns-then-not-allows c = rw (sym c.allows.ensures ∙ c.if-not-allows.true)

pub returns-then-not-in_range : goal.returns-then-not-in_range
unfolding stepped
returns-then-not-in_range c =
    rw (sym c.allows.ensures ∙ c.if-not-allows.false, sym c.in_range.ensures ∙ c.if-not-in_range.true)

pub returns-then-begins_rule : goal.returns-then-begins_rule
returns-then-begins_rule c =
    let x = c.args in
    let allowed = sym c.allows.ensures ∙ c.if-not-allows.false in
    let ranged = sym c.in_range.ensures ∙ c.if-not-in_range.false in
    let begins = sym c.begins_rule.ensures ∙ c.if-begins_rule.true in
    rw (stepped_rule x.word x.progress x.at allowed ranged begins, ← c.after-next.ensures) c.counted.ensures

pub returns-else-begins_rule : goal.returns-else-begins_rule
returns-else-begins_rule c =
    let x = c.args in
    let allowed = sym c.allows.ensures ∙ c.if-not-allows.false in
    let ranged = sym c.in_range.ensures ∙ c.if-not-in_range.false in
    let begins = sym c.begins_rule.ensures ∙ c.if-begins_rule.false in
    rw (stepped_other x.word x.progress x.at allowed ranged begins, ← c.after-next.ensures)
