-- The loop keeps the array under every closed family; the last pass shows it closed.
use mathlib.Core.Path.{ap, ◌∙◌}
use Prim.Native.Nat.{ℕ}
use native.Mathlib.Omega.{arith}
use lib.ListN.{length, length-replicate}
use Rattle.grammar.specs.Limits.{max_nonterminals}
use Rattle.grammar.specs.Encoding.{parse}
use Rattle.families.proofs.LeastByPasses.{below_none, least_pass, missing_falls}
use Rattle.families.proofs.FollowPasses.{last_none}
use Rattle.families.proofs.FollowTie.{full_closed, follow_listed}
use Rattle.sets.proofs.follow.follow_sets.Goals as goal

pub loop-sizes-init : goal.loop-sizes-init
loop-sizes-init c =
    let none = c.requires.3 in (ap length none ∙ length-replicate {A = ℕ} max_nonterminals 0, rw none (below_none _ max_nonterminals), last_none _ _ _ _ _)

pub loop-sizes-smaller : goal.loop-sizes-smaller
loop-sizes-smaller c =
    missing_falls c.follow_pass.ensures.0 c.loop-sizes.invariant.1 _ _
    (full_closed c.args.lookahead _ (parse c.args.words.now).rules) (λ n. omega arith) c.loop-sizes-test.true

pub returns : goal.returns
returns c =
    let inv = c.loop-sizes.invariant in
    let pass = c.follow_pass.ensures.0 in
    follow_listed c.args.lookahead c.args.words.now c.args.sizes c.requires.0 c.args.firsts.now c.requires.2 _
    (pass.long ∙ inv.0) (least_pass pass inv.1 c.loop-sizes-test.false)
