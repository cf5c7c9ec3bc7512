-- The loop has written the rules from the one that it stands at on, whichever number of rows has their heads.
use mathlib.Core.Path.{◌∙◌}
use Prim.Native.Nat.{ℕ, ◌-◌}
use native.Mathlib.Omega.{arith}
use lib.ListN.{length-replicate}
use Rattle.grammar.specs.inner.Codes.{no_rule}
use Rattle.grammar.specs.inner.Limits.{max_entries}
use Rattle.table.proofs.FillInvariant.{row_room, rows_start, rows_turn, rows_end}
use Rattle.table.proofs.rows.rows.Goals as goal

pub loop-rule-init : goal.loop-rule-init
loop-rule-init c = (c.count-columns.ensures, λ n h. rows_start _)

pub fill_row-requires : goal.fill_row-requires
fill_row-requires c =
    let given = c.requires in
    let long = (c.loop-rule.invariant.1 _ given.headed).long ∙ length-replicate {A = ℕ} max_entries no_rule in
    (long, given.few_terminals, rw c.loop-rule.invariant.0 (omega (arith, row_room given (c.loop-rule.rule - 1) (omega arith))))

pub loop-rule-preserved : goal.loop-rule-preserved
loop-rule-preserved c =
    let row = rw c.loop-rule.invariant.0 at c.fill_row.ensures in
    (c.loop-rule.invariant.0, λ n h. rows_turn _ _ (c.loop-rule.invariant.1 n h) (omega arith) (omega arith) (h.own _ (omega arith)) row)

pub returns : goal.returns
returns c = rows_end _ _ (c.loop-rule.invariant.1 _ c.requires.headed) (omega arith)
