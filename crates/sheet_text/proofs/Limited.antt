-- Limited sizes are within the limits, and sizes that are within them stay as they are.
use Rattle.std.specs.Prelude.{Ok}
use mathlib.Core.Path.{◌≡◌, refl}
use mathlib.Core.Bool.{Bool, true, false}
use native.Mathlib.Omega.{arith}
use lib.Dec.{ltb}
use borrow.Author.Tests.{le-ltb, ltb-false}
use Rattle.base.specs.Choice.{choose}
use Rattle.grammar.specs.Encoding.{sizes}
use Rattle.grammar.specs.Limits.{max_nonterminals, max_terminals}
use Rattle.grammar.specs.declared.reading.Sizes.{Sizes}
use Rattle.sheet_text.specs.inner.Limited.{Limited, limited_sizes, limited_finding}

pub limited_sizes_lem : (z : Sizes) → Limited (limited_sizes z)
unfolding limited_sizes
limited_sizes_lem z = go (ltb max_nonterminals z.nonterminals) (ltb max_terminals z.terminals) refl refl
  where
    go : (a b : Bool) → ltb max_nonterminals z.nonterminals ≡ a → ltb max_terminals z.terminals ≡ b
        → Limited (choose a (sizes 0 0 0) (choose b (sizes 0 0 0) z))
    go true b e f = record { few_nonterminals = omega arith; few_terminals = omega arith }
    go false true e f = record { few_nonterminals = omega arith; few_terminals = omega arith }
    go false false e f = record { few_nonterminals = ltb-false max_nonterminals z.nonterminals e; few_terminals = ltb-false max_terminals z.terminals f }

pub limited_same : {z : Sizes} → Limited z → limited_finding (Ok z) ≡ Ok z
unfolding limited_sizes
limited_same {z} h = rw (le-ltb max_nonterminals z.nonterminals h.few_nonterminals, le-ltb max_terminals z.terminals h.few_terminals)
