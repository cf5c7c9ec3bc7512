-- A refusal, worked by computation.
use mathlib.Core.Path.{◌≡◌, refl}
use Rattle.answer.specs.declared.Error.TheVariants.{Conflict}
use Rattle.text.specs.Ascii.{ascii}
use Rattle.text.specs.Decimal.{digits, decimal}
use Rattle.refusal_text.specs.Refusal.{refusal_text}

refusal : refusal_text (Conflict 1 2) ≡ ascii "refused 9 34\n"
unfolding refusal_text decimal digits
refusal = refl
