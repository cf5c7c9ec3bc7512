-- The loop keeps the array under every closed family; the last pass shows it closed, and has kept the rules' meets by it.
use mathlib.Core.Path.{refl, ◌∙◌}
use native.Mathlib.Omega.{arith}
use Rattle.grammar.specs.Limits.{max_nonterminals}
use Rattle.grammar.specs.Encoding.{parse}
use Rattle.families.proofs.LeastByPasses.{below_none, least_pass, missing_falls}
use Rattle.families.proofs.FirstTie.{full_closed, first_listed}
use Rattle.families.proofs.FirstMeets.{meets_listed}
use Rattle.first_sets.proofs.first.first_sets.Goals as goal

pub loop-sizes-init : goal.loop-sizes-init
loop-sizes-init c = (refl, below_none _ max_nonterminals, c.requires.2)

pub loop-sizes-smaller : goal.loop-sizes-smaller
loop-sizes-smaller c =
    missing_falls c.first_pass.ensures.0 c.loop-sizes.invariant.1 _ _
    (full_closed c.args.lookahead c.args.sizes.terminals (parse c.args.words.now).rules) (λ n. omega arith)
    c.loop-sizes-test.true

pub returns : goal.returns
returns c =
    let lookahead = c.args.lookahead in
    let words = c.args.words.now in
    let sizes = c.args.sizes in
    let inv = c.loop-sizes.invariant in
    let pass = c.first_pass.ensures in
    let firsts = first_listed lookahead words sizes c.requires.0 _ (pass.0.long ∙ inv.0) (least_pass pass.0 inv.1 c.loop-sizes-test.false) in
    (firsts, meets_listed lookahead words sizes c.requires.0 firsts c.loop-sizes-test.false pass.1)
