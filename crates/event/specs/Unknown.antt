-- The first token of an input that is no terminal of a grammar.
use Rattle.std.specs.Prelude.{None, Option, Some, List, [], ◌∷◌, ℕ, suc, ltb}
use Rattle.std.proofs.Math.Option.{Option as Maybe, none, some}
use Rattle.answer.specs.declared.Error.{Error}
use Rattle.answer.specs.declared.Error.TheVariants.{UnknownToken}
use Rattle.base.specs.Choice.{choose}

-- of a grammar with n terminals, and an input whose first token has the index `at`
unfoldable pub unknown_from : ℕ → ℕ → List ℕ → Option ℕ
unknown_from n at [] = None
unknown_from n at (a ∷ w) = choose (ltb a n) (unknown_from n (suc at) w) (Some at)

abbrev pub unknown_fault : Option ℕ → Maybe Error
unknown_fault None = none
unknown_fault (Some i) = some (UnknownToken i)
