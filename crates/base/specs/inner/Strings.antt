-- The tokens of a span.
use Rattle.std.specs.Prelude.{List, ℕ, ◌-◌, take, drop}

-- from i to j (document 01: the events of a stretch)
unfoldable pub span : List ℕ → ℕ → ℕ → List ℕ
span w i j = take (j - i) (drop i w)
