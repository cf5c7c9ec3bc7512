-- The loop keeps: the lines of the columns passed are put; there are no more rules than there may be.
use mathlib.Core.Path.{◌≡◌, ap}
use Prim.Native.Nat.{min}
use native.Mathlib.Omega.{arith}
use Rattle.grammar.specs.Limits.{max_rules}
use Rattle.text.proofs.Outputs.{puts_first, puts_next}
use Rattle.gaps_text_promises.specs.inner.Steps.{entry_line, claimant_at}
use Rattle.gaps_text.proofs.put_row.Goals as goal

pub loop-column-init : goal.loop-column-init
loop-column-init c = puts_first _ _

pub loop-column-preserved : goal.loop-column-preserved
loop-column-preserved c =
    let a = c.args in
    let all : min a.sizes.rules max_rules ≡ a.sizes.rules = omega (arith, c.requires.rules) in
    let claims = claimant_at a.heads.now a.sets.now a.sizes.terminals a.nonterminal c.loop-column.column in
    puts_next _ _ (ap (λ n. entry_line n claims a.nonterminal c.loop-column.column) all) c.loop-column.invariant c.put_entry.ensures
