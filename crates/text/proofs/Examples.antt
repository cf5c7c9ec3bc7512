-- Numbers as digits, worked by computation.
use mathlib.Core.Path.{◌≡◌, refl}
use Rattle.text.specs.Ascii.{ascii}
use Rattle.text.specs.Decimal.{digits, decimal}

decimal_0 : decimal 0 ≡ ascii "0"
unfolding decimal digits
decimal_0 = refl

decimal_9 : decimal 9 ≡ ascii "9"
unfolding decimal digits
decimal_9 = refl

decimal_10 : decimal 10 ≡ ascii "10"
unfolding decimal digits
decimal_10 = refl

decimal_16777216 : decimal 16777216 ≡ ascii "16777216"
unfolding decimal digits
decimal_16777216 = refl

decimal_4294967295 : decimal 4294967295 ≡ ascii "4294967295"
unfolding decimal digits
decimal_4294967295 = refl
