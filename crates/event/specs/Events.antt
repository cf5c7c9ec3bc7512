-- Which terminal an event is, and which input the events of a log are.
use Rattle.std.specs.Prelude.{List, map, ℕ, ◌%◌}

-- the top bit of an event's eight tells a direction, which grammars ignore (document 02: an event's letter)
abbrev pub terminal_of : ℕ → ℕ
terminal_of event = event % 128

-- what is judged of a log: the terminals that its events are
unfoldable pub input_of : List ℕ → List ℕ
input_of events = map terminal_of events
