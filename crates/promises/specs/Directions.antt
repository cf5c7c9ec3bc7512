-- The directions of events change nothing that is promised of the input which the events are.
use Rattle.std.specs.Prelude.{◌≡◌, List, ℕ}
use Rattle.event.specs.Events.{input_of}

-- of a promise about an input and what a call leaves: two calls alike but for the directions of their events leave the same
abbrev pub DirectionsIgnored : {Left : Type 0} → (List ℕ → Left → Type 0) → Type 0
DirectionsIgnored {Left} Promise =
    (events turned : List ℕ) → input_of events ≡ input_of turned → (l m : Left) → Promise (input_of events) l → Promise (input_of turned) m → l ≡ m
