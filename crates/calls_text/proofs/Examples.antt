-- Calls, worked by computation.
use mathlib.Core.Path.{◌≡◌, refl}
use mathlib.Core.List.{[], ◌∷◌}
use Rattle.text.specs.Ascii.{ascii}
use Rattle.text.specs.Decimal.{digits, decimal, or_dash}
use Rattle.text.specs.Writing.{up_to}
use Rattle.calls_text.specs.Calls.{call_text, calls_text}

-- a dash for a failed call, and nothing for a call that was not made
calls_failed : calls_text 1 1 (65534 ∷ 65535 ∷ []) ≡ ascii "0 0 -\n"
unfolding calls_text call_text or_dash up_to decimal digits
calls_failed = refl
