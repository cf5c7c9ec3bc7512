-- The first clash, by nonterminal, then column: an entry that two rules claim or that is reported of a nonterminal that overruns.
use Rattle.std.specs.Prelude.{None, Option, Some, ◌≡◌, Bool, List, ◌⊎◌, ℕ, zero, suc, ◌≤◌, ◌<◌}
use Rattle.base.specs.Choice.{choose}
use Rattle.grammar.specs.Syntax.{Grammar}
use Rattle.lookahead.specs.declared.Lookahead.{Lookahead}
use Rattle.lookahead.specs.Lookaheads.{tokens}
use Rattle.semantics.specs.Families.{Clash}
use Rattle.semantics.specs.FirstFollow.{First, Follow}
use Rattle.semantics.specs.Claims.{clashing}
use Rattle.columns.specs.Columns.{column_string, column_of, columns}

-- the first of n columns of A, from one on, that passes a test
unfoldable pub row_conflict : (ℕ → Bool) → ℕ → ℕ → ℕ → Option (ℕ × ℕ)
row_conflict p A c zero = None
row_conflict p A c (suc n) = choose (p c) (Some (A, c)) (row_conflict p A (suc c) n)

abbrev pub or_later : Option (ℕ × ℕ) → Option (ℕ × ℕ) → Option (ℕ × ℕ)
or_later None later = later
or_later (Some p) later = Some p

-- the first entry of n rows, from one on, that passes
unfoldable pub conflict_from : (ℕ → ℕ → Bool) → ℕ → ℕ → ℕ → Option (ℕ × ℕ)
conflict_from p columns A zero = None
conflict_from p columns A (suc n) = or_later (row_conflict (p A) A 0 columns) (conflict_from p columns (suc A) n)

-- the first entry that clashes (document 01: the first such cell)
unfoldable pub first_clash : Lookahead → Grammar → Option (ℕ × ℕ)
first_clash k G = conflict_from (λ A c. clashing G (tokens k) (A, column_string k G.terminals c)) (columns k G) 0 G.nonterminals

abbrev pub ClashAt : Lookahead → Grammar → ℕ → List ℕ → Type 0
ClashAt k G = Clash G (tokens k) (First G (tokens k)) (Follow G (tokens k))

-- what that means: a clash in column c of A, and none before it, by nonterminal, then column (documents 01 and 02: the place of 9)
pub record FirstClash (k : Lookahead) (G : Grammar) (A c : ℕ) : Type 0 where
  pub string : List ℕ
  pub clash : ClashAt k G A string
  pub stands : column_of k G.terminals string ≡ c
  pub first : (B : ℕ) (x : List ℕ) → ClashAt k G B x → (A < B) ⊎ ((A ≡ B) × (c ≤ column_of k G.terminals x))
