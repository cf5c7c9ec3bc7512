-- How long a verdict can be.
use Prim.Native.Nat.{◌+◌, ◌≤◌}
use Prim.Native.String.{String}
use native.Mathlib.Omega.{arith}
use lib.ListN.{length, length-append}
use Rattle.answer.specs.declared.Calls.{Calls}
use Rattle.text.specs.Ascii.{ascii}
use Rattle.text.proofs.Lengths.{decimal_most}
use Rattle.judgement_text.specs.Judgement.{verdict_line}

pub verdict_most : (verdict : String) (c : Calls) → length (verdict_line verdict c) ≤ length (ascii verdict) + 42
unfolding verdict_line
verdict_most verdict c = simp length-append (omega (arith, decimal_most c.count, decimal_most c.farthest))
