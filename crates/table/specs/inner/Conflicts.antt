-- The first clash as the code finds it: by sets of what is claimed once and twice.
use Rattle.std.specs.Prelude.{Option, ◌≡◌, Bool, ◌||◌, List, ℕ, get_or}
use Rattle.grammar.specs.declared.reading.Sizes.{Sizes}
use Rattle.lookahead.specs.declared.Lookahead.{Lookahead}
use Rattle.lookahead.specs.Elements.{has}
use Rattle.base.specs.FiniteSets.{numbers_below}
use Rattle.semantics.specs.Claims.{several}
use Rattle.columns.specs.Columns.{column_count}
use Rattle.columns.specs.inner.Columns.{column_element}
use Rattle.claims.specs.inner.Claims.{claimant}
use Rattle.table_promises.specs.Conflicts.{conflict_from}

-- the columns whose elements are in a set, and the entries whose elements are in a family of sets
abbrev pub in_set : (ℕ → ℕ) → ℕ → ℕ → Bool
in_set element s c = has s (element c)

abbrev pub in_sets : (ℕ → ℕ) → List ℕ → ℕ → ℕ → Bool
in_sets element sets A = in_set element (get_or sets A 0)

-- the entries that two of so many rules claim, and those whose elements are reported of their nonterminals
abbrev pub claimed_twice : (ℕ → ℕ) → List ℕ → List ℕ → List ℕ → ℕ → ℕ → ℕ → Bool
claimed_twice element heads sets told rules A c = several (claimant heads sets A (element c)) (numbers_below rules) || in_sets element told A c

abbrev pub conflict_of : Lookahead → Sizes → List ℕ → List ℕ → List ℕ → Option (ℕ × ℕ)
conflict_of k z heads sets told =
    conflict_from (claimed_twice (column_element k z.terminals) heads sets told z.rules) (column_count k z.terminals) 0 z.nonterminals

-- the elements that two rules claim, for each nonterminal, with those told of it
pub record Twice (heads sets told : List ℕ) (rules : ℕ) (twice : List ℕ) : Type 0 where
  pub each : (A l : ℕ) → has (get_or twice A 0) l ≡ (several (claimant heads sets A l) (numbers_below rules) || has (get_or told A 0) l)
