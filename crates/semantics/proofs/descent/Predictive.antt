-- A grammar's own families and its own table are guides for the descent, and which well-formed grammars k tokens are enough for.
use mathlib.Core.List.{[]}
use mathlib.Core.Logic.{◌↔◌}
use mathlib.Core.Option.{none}
use mathlib.Core.Path.{◌≡◌}
use Prim.Native.Nat.{ℕ, ◌<◌}
use Rattle.grammar.specs.Syntax.{Grammar, WellFormed}
use Rattle.semantics.specs.LeftRecursion.{lowest_left_recursive}
use Rattle.semantics.specs.inner.Families.{OwnEntries}
use Rattle.semantics.specs.FirstFollow.{First, Follow}
use Rattle.semantics.specs.Claims.{clashes, table_of}
use Rattle.semantics.specs.inner.Predictive.{Guides}
use Rattle.semantics.specs.Predictive.{Predictive}
use Rattle.semantics.proofs.meaning.LeftRecursion.{lowest_left_recursive_none}
use Rattle.semantics.proofs.families.First.{first_closed}
use Rattle.semantics.proofs.families.Follow.{follow_closed}
use Rattle.semantics.proofs.families.Claims.{table_claims, table_right, clashless_ends, every_ends_elim, every_ends_make}

-- each entry of the computed table is the number of a rule of its nonterminal
pub table_own : (G : Grammar) (k : ℕ) → OwnEntries G (table_of G k)
table_own G k A x q e = let c = table_claims G k A x q e in (c.rule, c.numbered, c.heads)

-- the grammar's own families and table guide the descent
pub own_guides : (G : Grammar) (k : ℕ) → Predictive G k → Guides G k (First G k) (Follow G k) (table_of G k)
own_guides G k p = record {
  firsts = first_closed G k p.scoped;
  follows = follow_closed G k p.scoped p.terminals p.start;
  table = table_right G k p.clashless;
  ends = every_ends_elim G k p.ends;
}

-- k tokens are enough for a well-formed grammar in which nothing is left-recursive and nothing clashes
pub predictive_passed : (G : Grammar) (k : ℕ) → 0 < k → WellFormed G → 0 < G.nonterminals → lowest_left_recursive G ≡ none → clashes G k ≡ [] → Predictive G k
predictive_passed G k token formed start lowest clash = record {
  scoped = formed.scoped;
  terminals = formed.terminals;
  start = start;
  unrecursive = (lowest_left_recursive_none G formed.scoped).0 lowest;
  clashless = clash;
  ends = every_ends_make G k (clashless_ends G k clash token);
}

-- and for no other well-formed grammar
pub passed_iff : (G : Grammar) (k : ℕ) → 0 < k → WellFormed G → 0 < G.nonterminals → ((lowest_left_recursive G ≡ none) × (clashes G k ≡ [])) ↔ Predictive G k
passed_iff G k token formed start = (
  λ h. predictive_passed G k token formed start h.0 h.1,
  λ p. ((lowest_left_recursive_none G p.scoped).1 p.unrecursive, p.clashless),
)
