-- The memo table before the first call, and what its entries stand for.
use Rattle.std.specs.Prelude.{List, ℕ, ◌<◌, length, replicate, eqb}
use Rattle.grammar.specs.Codes.{failed_code, uncalled_code}
use Rattle.grammar.specs.Syntax.{Grammar}
use Rattle.base.specs.Choice.{choose}
use Rattle.semantics.specs.Valuations.{pairs}
use Rattle.semantics.specs.Descent.{Outcome, Failed, End}
use Rattle.semantics.specs.Memo.{Memo}

-- every place of the input is below the two codes
abbrev pub EndsFit : List ℕ → Type 0
EndsFit w = length w < failed_code

unfoldable pub decode : ℕ → Outcome
decode v = choose (eqb v failed_code) Failed (End v)

-- before the first call
abbrev pub blank : Grammar → List ℕ → Memo
blank G w = replicate (pairs G w) uncalled_code
