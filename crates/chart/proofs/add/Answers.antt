-- The loop keeps the chart with the nonterminals gone through, from the first of the word on; where the word has no more, the others have nothing to add.
use mathlib.Core.Logic.{inl, inr}
use native.Mathlib.Omega.{arith}
use lib.Count.{count_trailing_zeros}
use Rattle.tabular_promises.proofs.PlaceSets.{digit}
use Rattle.tabular_promises.proofs.Charts.{first_added, adding_more, none_added, added_of_many, added_beyond, last_added}
use Rattle.chart.proofs.add.Goals as goal

pub returns-then-word-eq0 : goal.returns-then-word-eq0
returns-then-word-eq0 c = none_added _ _ _ _ _ c.if-word-eq0.true

pub returns-then-nonterminals-gt-NONTERMINALS : goal.returns-then-nonterminals-gt-NONTERMINALS
returns-then-nonterminals-gt-NONTERMINALS c = added_of_many _ _ _ _ _ c.if-nonterminals-gt-NONTERMINALS.true

pub returns-then-end-ge-TABULAR_PLACES : goal.returns-then-end-ge-TABULAR_PLACES
returns-then-end-ge-TABULAR_PLACES c = added_beyond _ _ _ _ _ c.if-nonterminals-gt-NONTERMINALS.false c.if-end-ge-TABULAR_PLACES.true

pub loop-at-init : goal.loop-at-init
loop-at-init c =
    let args = c.args in
    (inr (omega arith), first_added args.chart.now args.start args.end args.word (count_trailing_zeros 32 args.word) (omega arith))

pub loop-at-preserved : goal.loop-at-preserved
loop-at-preserved c = (
  inl (omega arith),
  adding_more _ _ _ _ c.loop-at.at c.loop-at.invariant.1 (digit c.args.word c.loop-at.at) c.put.ensures,
)

pub returns : goal.returns
returns c =
    last_added _ _ _ _ _ c.loop-at.at c.if-nonterminals-gt-NONTERMINALS.false c.if-end-ge-TABULAR_PLACES.false c.loop-at.invariant.0 c.loop-at-test.false
    c.loop-at.invariant.1
