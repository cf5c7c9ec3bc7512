-- A number as decimal digits, behind a label, and with a dash for none.
use Rattle.std.specs.Prelude.{List, [], ◌∷◌, ◌++◌, ℕ, zero, suc, ◌+◌, ◌/◌, ◌%◌, eqb, ltb}
use Prim.Native.String.{String}
use Rattle.base.specs.Choice.{choose}
use Rattle.text.specs.Ascii.{ascii}

-- the byte of a digit
abbrev pub digit : ℕ → ℕ
digit d = 48 + d

-- the digits of a number that has at most so many, the most significant first
unfoldable pub digits : ℕ → ℕ → List ℕ
digits zero n = []
digits (suc most) n = choose (ltb n 10) (digit n ∷ []) (digits most (n / 10) ++ (digit (n % 10) ∷ []))

-- as few digits as a number of 64 bits has, which are at most 20; 0 has one
unfoldable pub decimal : ℕ → List ℕ
decimal n = digits 20 n

abbrev pub labelled : String → ℕ → List ℕ
labelled label n = ascii label ++ decimal n

-- a number behind a space; a dash where it is the code for none
unfoldable pub or_dash : ℕ → ℕ → List ℕ
or_dash none n = choose (eqb n none) (ascii " -") (labelled " " n)
