-- The loop keeps `Turns`: the rules before have had their turn; and `Meeting`: what they give is kept, while no set has grown.
use Rattle.families.proofs.RulePasses.{Turns}
use Rattle.families.proofs.HeadPasses.{Gives}
use Rattle.families.proofs.FirstPasses.{rule_gives}
use Rattle.families.proofs.FirstMeets.{Meeting}
use Rattle.first_sets.proofs.first.first_pass.Given as goal

abbrev pub invariant-loop-passed : goal.invariant-loop-passed
invariant-loop-passed l =
    Turns (Gives (rule_gives l.lookahead l.terminals) l.words) l.sizes.rules l.forward l.initial.firsts l.firsts l.grown l.passed
    × Meeting l.lookahead l.terminals l.words l.sizes.rules l.forward l.initial.firsts l.meets l.grown l.passed
