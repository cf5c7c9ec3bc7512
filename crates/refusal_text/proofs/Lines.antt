-- The text of a refusal is short.
use Prim.Native.Nat.{◌≤◌}
use native.Mathlib.Omega.{arith}
use lib.ListN.{length, length-append}
use Rattle.answer.specs.declared.Error.{Error}
use Rattle.answer.specs.Numbers.{coded}
use Rattle.text.proofs.Lengths.{decimal_most}
use Rattle.refusal_text.specs.Refusal.{refusal_text}

pub refusal_most : (e : Error) → length (refusal_text e) ≤ 50
unfolding refusal_text
refusal_most e = simp length-append (omega (arith, decimal_most (coded e).code, decimal_most (coded e).position))
