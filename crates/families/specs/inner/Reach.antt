-- What nonterminals reach in one step or more, by what each reaches in one: through one nonterminal after the other.
use Rattle.std.specs.Prelude.{List, map, ℕ, zero, suc}
use Rattle.base.specs.Choice.{choose}
use Rattle.lookahead.specs.Elements.{has}
use Rattle.lookahead.specs.inner.Operations.{join}
use Rattle.families.specs.inner.Least.{at}

-- a set that has B gets what is beyond B
abbrev pub extended : ℕ → ℕ → ℕ → ℕ
extended B beyond s = choose (has s B) (join s beyond) s

unfoldable pub through : ℕ → List ℕ → List ℕ
through B l = map (extended B (at l B)) l

-- through the first n nonterminals
unfoldable pub closure : ℕ → List ℕ → List ℕ
closure zero l = l
closure (suc n) l = through n (closure n l)
