-- How many bytes the verdict takes at most, and all of a judgement.
use Rattle.std.specs.Prelude.{ℕ, ◌+◌, ◌*◌}
use Rattle.grammar.specs.Limits.{max_memo_entries}
use Rattle.calls_text.specs.Room.{call_room}

abbrev pub verdict_room : ℕ
verdict_room = 51

abbrev pub judgement_room : ℕ
judgement_room = verdict_room + max_memo_entries * call_room
