-- A quoted text as the bytes that are printed.
use Rattle.std.specs.Prelude.{List, [], ◌∷◌, ℕ}
use Prim.Native.Char.{code}
use Prim.Native.String.{String, [] as ε, ◌∷◌ as ◌▹◌}

abbrev pub ascii : String → List ℕ
ascii ε = []
ascii (c ▹ s) = code c ∷ ascii s
