-- For the symbols of a grammar that is read, an array gives the same sets with and without numbers counted round.
use mathlib.Core.Path.{◌≡◌, refl, ap}
use mathlib.Core.List.{List}
use Prim.Native.Nat.{ℕ, ◌<◌}
use native.Mathlib.Nat.{mod-eq_of_lt}
use lib.ListN.{get_or}
use Rattle.word.specs.declared.Symbol.{Symbol as GrammarSymbol}
use Rattle.word.specs.declared.Symbol.TheVariants.{Terminal, Nonterminal}
use Rattle.grammar.specs.Limits.{max_nonterminals}
use Rattle.lookahead.specs.declared.Lookahead.{Lookahead}
use Rattle.families.specs.inner.First.{symbol_first}
use Rattle.families.specs.inner.Least.{at, lookup}
use Rattle.families.specs.inner.Naming.{IndexedSymbol}

lookup_at : (l : List ℕ) (n : ℕ) → n < max_nonterminals → lookup l n ≡ at l n
unfolding lookup
lookup_at l n h = ap (λ (m : ℕ). get_or l m 0) (mod-eq_of_lt h)

pub symbol_lookup : (k : Lookahead) (l : List ℕ) (X : GrammarSymbol) → IndexedSymbol X → symbol_first k (lookup l) X ≡ symbol_first k (at l) X
unfolding symbol_first
symbol_lookup k l (Terminal a) h = refl
symbol_lookup k l (Nonterminal A) h = lookup_at l A h
