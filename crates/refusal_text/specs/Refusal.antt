-- What is printed of a refusal: its number and its place.
use Rattle.std.specs.Prelude.{List, ◌++◌, ℕ}
use Rattle.answer.specs.declared.Error.{Error}
use Rattle.answer.specs.Numbers.{coded}
use Rattle.text.specs.Ascii.{ascii}
use Rattle.text.specs.Decimal.{labelled}

unfoldable pub refusal_text : Error → List ℕ
refusal_text e = labelled "refused " (coded e).code ++ labelled " " (coded e).position ++ ascii "\n"
