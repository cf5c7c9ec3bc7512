-- The code for no rule, where rules are bytes.
use Rattle.std.specs.Prelude.{ℕ}

-- `noEntry` where rules are bytes
abbrev pub no_rule : ℕ
no_rule = 255
