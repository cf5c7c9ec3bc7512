-- What a verdict by a test tells.
use mathlib.Core.Path.{◌≡◌, refl, sym, ◌∙◌}
use mathlib.Core.Bool.{Bool, true, false, true≢false, false≢true}
use mathlib.Core.Logic.{◌↔◌}
use native.Mathlib.Omega.{arith}
use Rattle.answer.proofs.Apart.{answer_number_lem}
use Rattle.answer.specs.declared.Calls.{Calls}
use Rattle.answer.specs.declared.Answer.{Answer}
use Rattle.answer.specs.declared.Answer.TheVariants.{Accepted, Rejected}
use Rattle.base.specs.Choice.{choose}

-- a verdict by a test tells the test
pub verdict_tells : {r : Answer} (b : Bool) (c : Calls) → r ≡ choose b (Accepted c) (Rejected c)
    → ((r ≡ Accepted c) ↔ (b ≡ true)) × ((r ≡ Rejected c) ↔ (b ≡ false))
verdict_tells true c e = ((λ q. refl, λ q. e), (λ q. absurd (omega (arith, answer_number_lem (sym e ∙ q))), λ q. absurd (true≢false q)))
verdict_tells false c e = ((λ q. absurd (omega (arith, answer_number_lem (sym e ∙ q))), λ q. absurd (false≢true q)), (λ q. refl, λ q. e))
