-- The codes in memory that stand for no number.
use Rattle.std.specs.Prelude.{ℕ}

-- an entry of the table that no rule claims (document 01: none)
abbrev pub no_entry : ℕ
no_entry = 4294967295

-- an entry of the memo table: the call failed
abbrev pub failed_code : ℕ
failed_code = 65534

-- the call was not made
abbrev pub uncalled_code : ℕ
uncalled_code = 65535
