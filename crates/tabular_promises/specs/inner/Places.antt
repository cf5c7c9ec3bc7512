-- Sets of places of the input: place p weighs 2^p.
use Rattle.std.specs.Prelude.{◌≡◌, Bool, true, false, ◌&&◌, ◌||◌, List, ℕ, zero, suc, ◌≤◌, ◌<◌, eqb, ltb, length, get_or, set, replicate}
use Rattle.std.specs.Int.Bits.{bit_or}
use Rattle.base.specs.Choice.{choose}
use Rattle.grammar.specs.Limits.{max_terminals, max_tabular_tokens, max_tabular_places}
use Rattle.lookahead.specs.Elements.{weight, has}

-- the set of one place; of a place that no input has, none
unfoldable pub only_place : ℕ → ℕ
only_place place = choose (ltb place max_tabular_places) (weight place) 0

-- whether a place is in a set
unfoldable pub has_place : ℕ → ℕ → Bool
has_place set place = choose (ltb place max_tabular_places) (has set place) false

-- the set with a place, where it is to be
unfoldable pub with_place : ℕ → ℕ → Bool → ℕ
with_place set place member = choose member (bit_or set (only_place place)) set

-- which places that has
pub record PlacePut (set place : ℕ) (member : Bool) (r : ℕ) : Type 0 where
  pub is : (k : ℕ) → has r k ≡ (has set k || (eqb k place && member))

-- for each terminal, the places where it stands in the input w
pub record Standing (w stands : List ℕ) : Type 0 where
  pub at : (a k : ℕ) → a < max_terminals → has (get_or stands a 0) k ≡ (ltb k (length w) && eqb (get_or w k 0) a)

-- the same of the first n tokens, put in one by one; a token that is no terminal stands nowhere, and so does one beyond the limit of places
unfoldable pub stands_to : List ℕ → ℕ → List ℕ
stands_to w zero = replicate max_terminals 0
stands_to w (suc n) = set (stands_to w n) (get_or w n 0) (with_place (get_or (stands_to w n) (get_or w n 0) 0) n true)

abbrev pub stands_of : List ℕ → List ℕ
stands_of w = stands_to w (length w)

-- an input that is not too long, of terminals
pub record InputGiven (w : List ℕ) : Type 0 where
  pub short : length w ≤ max_tabular_tokens
  pub terminals : (k : ℕ) → k < length w → get_or w k 0 < max_terminals
