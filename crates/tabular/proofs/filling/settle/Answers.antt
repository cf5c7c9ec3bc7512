-- The loop keeps the chart filled up to the turn of the rank.
use native.Mathlib.Omega.{arith}
use Rattle.grammar.proofs.WellRead.{well_read}
use Rattle.tabular_promises.proofs.Charts.{added_right}
use Rattle.tabular_promises.proofs.Turns.{few, settling_more, settled}
use Rattle.tabular.proofs.filling.settle.Goals as goal

pub derived-found-requires : goal.derived-found-requires
derived-found-requires c =
    let given = c.requires in
    record {
      rules = given.given.rules;
      ranked = given.given.ranked;
      low = omega (arith, few given.given);
      span = given.span;
    }

pub loop-rank-preserved : goal.loop-rank-preserved
loop-rank-preserved c =
    settling_more c.requires (omega arith) c.loop-rank.invariant c.derived-found.ensures
    (added_right record { long = c.loop-rank.invariant.long; given = record { span = c.requires.span; few = few c.requires.given } } c.add.ensures)

pub returns : goal.returns
returns c = settled c.requires (omega (arith, (well_read _ _ c.requires.given.rules.read).some_nonterminal)) (omega arith) c.loop-rank.invariant
