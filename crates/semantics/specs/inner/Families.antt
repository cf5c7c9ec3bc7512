-- Least families, tables that are right for families, and one token of lookahead in document 01's words.
use Rattle.std.specs.Prelude.{◌≡◌, ℕ, ◌<◌}
use mathlib.Core.List.{List, [], Memᴰ}
use Rattle.std.proofs.Math.Option.{some}
use Rattle.std.proofs.Math.ListN.{get_elem?}
use Rattle.grammar.specs.Syntax.{Rule, Grammar}
use Rattle.semantics.specs.Families.{Family, Table, Claims}

-- closed under a condition, and contained in every family that is
pub record Least (Closed : Family → Type 0) (F : Family) : Type 1 where
  pub closed : Closed F
  pub smallest : (F' : Family) → Closed F' → (A : ℕ) (x : List ℕ) → F A x → F' A x

-- each entry of a nonterminal is the number of one of its rules
abbrev pub OwnEntries : Grammar → Table → Type 0
OwnEntries G t = (A : ℕ) (x : List ℕ) (q : ℕ) → t A x ≡ some q → (r : Rule) × (get_elem? G.rules q ≡ some r) × (r.head ≡ A)

-- the table has each rule wherever the rule claims an entry; of an entry that none claims it is only asked that a rule there be the nonterminal's own
pub record TableRight (G : Grammar) (k : ℕ) (F L : Family) (t : Table) : Type 0 where
  pub chooses : (q A : ℕ) (x : List ℕ) → Claims G k F L q A x → t A x ≡ some q
  pub chosen : OwnEntries G t

-- a rule without positive bodies takes all that is left: only the end may follow its head, and it takes a token of lookahead to see that
abbrev pub EveryEnds : Grammar → ℕ → Family → Type 0
EveryEnds G k L = (r : Rule) → Memᴰ r G.rules → r.positives ≡ [] → (0 < k) × ((y : List ℕ) → L r.head y → y ≡ [])
