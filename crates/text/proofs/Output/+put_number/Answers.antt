-- The digits of the tenth are put, if there are any, then the last digit.
use mathlib.Core.Path.{◌≡◌}
use Prim.Native.Nat.{◌%◌}
use native.Mathlib.Nat.{mod-eq_of_lt}
use native.Mathlib.Omega.{arith}
use Rattle.text.proofs.Decimal.{decimal_last, decimal_more}
use Rattle.text.proofs.Outputs.{puts_then}
use Rattle.text.proofs.Output.+put_number.Goals as goal
use Rattle.text.proofs.Output.+put_number.Goals.{then-number-ge10, else-number-ge10}

pub returns : goal.returns
returns t c =
    let n = c.args.number in
    elim c.if-number-ge10.branch [
      | then-number-ge10 w ↦
          rw (decimal_more n w.if-number-ge10.true (omega arith)) (puts_then w.put_number.ensures (rw w.self-is at c.put_byte.ensures))
      | else-number-ge10 w ↦
          let last : n % 10 ≡ n = mod-eq_of_lt w.if-number-ge10.false in
          rw (decimal_last n w.if-number-ge10.false) (rw (w.self-is, last) at c.put_byte.ensures)
    ]
