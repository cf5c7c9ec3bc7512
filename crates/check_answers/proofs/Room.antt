-- Whether a table has room, by the test of how many words it has.
use mathlib.Core.Path.{◌≡◌, sym, ◌∙◌}
use mathlib.Core.Bool.{Bool, true, false}
use Prim.Native.Nat.{ℕ, ◌≤◌, ◌<◌}
use native.Mathlib.Omega.{arith}
use lib.Dec.{leb}
use borrow.Author.Tests.{leb-true, leb-false}
use Rattle.lookahead.specs.declared.Lookahead.{Lookahead}
use Rattle.table_promises.specs.Layout.{table_room}

module _ (k : Lookahead) {words n : ℕ} {b : Bool} (each : words ≡ n) (e : b ≡ leb (table_room k) n) where
  pub room_lacks : b ≡ false → words < table_room k
  room_lacks h = omega (arith, each, leb-false (table_room k) n (sym e ∙ h))

  pub room_there : b ≡ true → table_room k ≤ words
  room_there h = omega (arith, each, leb-true (table_room k) n (sym e ∙ h))
