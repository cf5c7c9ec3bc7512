-- A judgement, worked by computation.
use mathlib.Core.Path.{◌≡◌, refl}
use mathlib.Core.List.{[], ◌∷◌}
use Rattle.answer.specs.declared.Answer.TheVariants.{Accepted}
use Rattle.text.specs.Ascii.{ascii}
use Rattle.text.specs.Decimal.{digits, decimal, or_dash}
use Rattle.text.specs.Writing.{up_to}
use Rattle.calls_text.specs.Calls.{call_text, calls_text}
use Rattle.judgement_text.specs.Judgement.{verdict_line, judgement_text}

-- the text that document 01 shows of card R and one event
judgement_R : judgement_text (Accepted (record { count = 2; farthest = 1 })) 1 1 (1 ∷ 1 ∷ []) ≡ ascii "accepted 2 1\n0 0 1\n0 1 1\n"
unfolding judgement_text verdict_line calls_text call_text or_dash up_to decimal digits
judgement_R = refl
