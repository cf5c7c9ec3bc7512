-- The loop keeps the count of the rules passed, which is at most their number.
use mathlib.Core.Path.{◌≡◌, refl, ap, ◌∙◌}
use mathlib.Core.Bool.{Bool, true, false}
use native.Mathlib.Numerals.{add-one}
use Prim.Native.Nat.{◌≤◌}
use native.Mathlib.Omega.{arith}
use Rattle.std.specs.Int.{from_bool}
use Rattle.base.specs.Quantifiers.{one, count_below}
use Rattle.base.proofs.Quantified.{count_le}
use Rattle.claims.specs.inner.Claims.{claimant}
use Rattle.claimants_text.proofs.count_claimants.Goals as goal

one_number : (b : Bool) → from_bool b ≡ one b
one_number true = refl
one_number false = refl

number_small : (b : Bool) → from_bool b ≤ 1
number_small true = omega arith
number_small false = omega arith

pub loop-rule-init : goal.loop-rule-init
unfolding count_below
loop-rule-init c = refl

pub overflow_add-n : goal.overflow_add-n
overflow_add-n c =
    let p = claimant c.args.heads.now c.args.sets.now c.args.nonterminal c.args.element in
    omega (arith, count_le c.loop-rule.rule p, number_small c.claims_element.result)

pub loop-rule-preserved : goal.loop-rule-preserved
unfolding count_below
loop-rule-preserved c =
    let more : c.from-n.result ≡ one _ = c.from-n.ensures ∙ one_number _ ∙ ap one c.claims_element.ensures in
    rw (add-one c.loop-rule.rule) (omega (arith, c.loop-rule.invariant, more))
