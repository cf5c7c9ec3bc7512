-- How many bytes the line of a call takes at most.
use Rattle.std.specs.Prelude.{ℕ}

abbrev pub call_room : ℕ
call_room = 13
