-- What the claim of one rule does to what is claimed once and twice, and when a set has more than the end.
use Rattle.std.specs.Prelude.{◌≡◌, Bool, not, List, ℕ, eqb, get_or, set}
use Rattle.lookahead.specs.declared.Lookahead.{Lookahead}
use Rattle.lookahead.specs.inner.Operations.{end, join, meet}

-- a claim is joined to the sets claimed once and twice
pub record ClaimNoted (once twice : List ℕ) (head claim : ℕ) (once' twice' : List ℕ) : Type 0 where
  pub first : once' ≡ set once head (join (get_or once head 0) claim)
  pub again : twice' ≡ set twice head (join (get_or twice head 0) (meet (get_or once head 0) claim))

-- a set has more than nothing
unfoldable pub beyond_end : Lookahead → ℕ → Bool
beyond_end k s = not (eqb (join (end k) s) (end k))
