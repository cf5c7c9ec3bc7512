-- A lookahead set within another, and the sets over some terminals.
use Rattle.std.specs.Prelude.{ℕ, ◌<◌, T}
use Rattle.base.specs.Strings.{Over}
use Rattle.lookahead.specs.declared.Lookahead.{Lookahead}
use Rattle.lookahead.specs.Lookaheads.{elements, string_of}
use Rattle.lookahead.specs.Elements.{has}

-- every element of x is one of y
abbrev pub Subset : ℕ → ℕ → Type 0
Subset x y = (l : ℕ) → T (has x l) → T (has y l)

-- the elements of s stand for strings over the first t terminals: a set over a grammar with t terminals
abbrev pub OverTerminals : Lookahead → ℕ → ℕ → Type 0
OverTerminals k t s = (l : ℕ) → T (has s l) → (l < elements k) × Over t (string_of k l)
