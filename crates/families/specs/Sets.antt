-- A lookahead string is an element of a lookahead set, and a set of strings is a number.
use Rattle.std.specs.Prelude.{◌≡◌, Bool, ◌↔◌, ℕ, length}
use mathlib.Core.List.{List, Memᴰ}
use Rattle.grammar.specs.Syntax.{Grammar}
use Rattle.lookahead.specs.declared.Lookahead.{Lookahead}
use Rattle.lookahead.specs.Lookaheads.{tokens, elements, string_of}
use Rattle.lookahead.specs.Elements.{total_weight}
use Rattle.base.specs.FiniteSets.{Distinct}
use Rattle.semantics.specs.FirstFollow.{first, follow}

-- the weights of a set's elements together
unfoldable pub set_number : Lookahead → (List ℕ → Bool) → ℕ
set_number k p = total_weight (elements k) (λ l. p (string_of k l))

-- (document 01: a first set and a follow set, as numbers)
unfoldable pub first_number : Lookahead → Grammar → ℕ → ℕ
first_number k G A = set_number k (λ x. first G (tokens k) (A, x))

unfoldable pub follow_number : Lookahead → Grammar → ℕ → ℕ
follow_number k G A = set_number k (λ x. follow G (tokens k) (A, x))

-- a set of strings has n members: they are listed, each once
pub record Members (P : List ℕ → Type 0) (n : ℕ) : Type 0 where
  pub list : List (List ℕ)
  pub once : Distinct list
  pub just : (x : List ℕ) → Memᴰ x list ↔ P x
  pub long : length list ≡ n
