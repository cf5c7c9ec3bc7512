-- The records of all clients in a row of numbers: client c's calls, refusals, acceptances and called pairs stand at 4c to 4c + 3.
use Rattle.std.specs.Prelude.{List, [], ◌∷◌, ℕ, ◌+◌, ◌*◌, get_or}
use Rattle.usage.specs.declared.Usage.{Usage}
use Rattle.usage.specs.Counters.{usage_of}
use Rattle.client_records.specs.declared.totals.Totals.{Totals}

-- the four numbers of a client
abbrev pub usage_at : List ℕ → ℕ → Usage
usage_at l c = usage_of (get_or l (c * 4) 0) (get_or l (c * 4 + 1) 0) (get_or l (c * 4 + 2) 0) (get_or l (c * 4 + 3) 0)

-- the records of the eight clients: of a row of 32 numbers they tell all
abbrev pub usages_in : List ℕ → List Usage
usages_in l = usage_at l 0 ∷ usage_at l 1 ∷ usage_at l 2 ∷ usage_at l 3 ∷ usage_at l 4 ∷ usage_at l 5 ∷ usage_at l 6 ∷ usage_at l 7 ∷ []

-- the totals in the same order
abbrev pub totals_row : Totals → List ℕ
totals_row t = t.calls ∷ t.refusals ∷ t.acceptances ∷ t.called ∷ []
