-- What the operations go through on the way: single terminals and long strings.
use Rattle.std.specs.Prelude.{◌≡◌, Bool, [], ◌∷◌, ◌↔◌, ℕ, ◌<◌, T, eqb, length}
use Rattle.lookahead.specs.declared.Lookahead.{Lookahead}
use Rattle.lookahead.specs.Lookaheads.{tokens, element_of, string_of}
use Rattle.lookahead.specs.inner.Lookaheads.{alphabet}
use Rattle.lookahead.specs.Elements.{has}

-- the terminals below t, each alone
pub record Singles (k : Lookahead) (t r : ℕ) : Type 0 where
  pub member : (l : ℕ) → T (has r l) ↔ ((a : ℕ) × (a < t) × (a < alphabet k) × (l ≡ element_of k (a ∷ [])))

-- a string of as many tokens as are looked at
unfoldable pub is_long : Lookahead → ℕ → Bool
is_long k l = eqb (length (string_of k l)) (tokens k)

abbrev pub AllLong : Lookahead → ℕ → Type 0
AllLong k s = (l : ℕ) → T (has s l) → T (is_long k l)
