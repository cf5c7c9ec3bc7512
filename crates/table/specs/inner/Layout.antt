-- A list in a longer array.
use Rattle.std.specs.Prelude.{List, ◌++◌, ℕ, ◌-◌, length, replicate}

-- a list in an array of n, and v behind it
abbrev pub padded : ℕ → ℕ → List ℕ → List ℕ
padded n v l = l ++ replicate (n - length l) v
