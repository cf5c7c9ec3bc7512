-- The loop keeps what the places gone through give.
use mathlib.Core.Path.{refl}
use native.Mathlib.Omega.{arith}
use Rattle.tabular_promises.proofs.Reaching.{gathered_start, gathered_more, none_before, none_beyond, all_before}
use Rattle.chart.proofs.before.Goals as goal

pub returns-then-nonterminal-ge-NONTERMINALS : goal.returns-then-nonterminal-ge-NONTERMINALS
returns-then-nonterminal-ge-NONTERMINALS c = none_before _ _ _ _ _ c.if-nonterminal-ge-NONTERMINALS.true

pub returns-then-end-ge-TABULAR_PLACES : goal.returns-then-end-ge-TABULAR_PLACES
returns-then-end-ge-TABULAR_PLACES c = none_beyond _ _ _ _ _ c.if-nonterminal-ge-NONTERMINALS.false c.if-end-ge-TABULAR_PLACES.true

pub loop-at-init : goal.loop-at-init
loop-at-init c = (omega arith, gathered_start _ _ _ _)

pub loop-at-preserved : goal.loop-at-preserved
loop-at-preserved c =
    (omega arith, gathered_more _ _ _ _ _ _ _ _ _ (omega arith) c.loop-at.invariant.1 c.contains.ensures refl c.joined-found.ensures)

pub returns : goal.returns
returns c =
    all_before _ _ _ _ _ c.if-nonterminal-ge-NONTERMINALS.false c.loop-at.at c.if-end-ge-TABULAR_PLACES.false c.loop-at.invariant.1 (omega arith)
