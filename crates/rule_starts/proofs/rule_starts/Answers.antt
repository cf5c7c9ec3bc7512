-- The loop keeps `Noting`: the numbers before `rules` hold the begins found so far.
use Rattle.grammar.proofs.Starts.{noting_start, noting_turn, noting_end}
use Rattle.rule_starts.proofs.rule_starts.Goals as goal

pub loop-at-init : goal.loop-at-init
loop-at-init c = noting_start c.args.words.now

pub loop-at-preserved : goal.loop-at-preserved
loop-at-preserved c = noting_turn c.loop-at.invariant c.loop-at-test.true _ c.decode.ensures c.note-rules.ensures

pub returns : goal.returns
returns c = noting_end c.loop-at.invariant c.loop-at-test.false
