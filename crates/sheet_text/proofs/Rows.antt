-- The row of a nonterminal stands within the table.
use Prim.Native.Nat.{ℕ, suc, ◌+◌, ◌*◌, ◌≤◌, ◌<◌}
use native.Mathlib.Nat.{mul-le-mul, suc-mul}
use native.Mathlib.Omega.{arith}
use Rattle.grammar.specs.Limits.{max_nonterminals, max_terminals, max_columns, max_table_words}

pub row_within : (n A t : ℕ) → n ≤ max_nonterminals → A < max_nonterminals → t ≤ max_terminals → 2 * n + A * (t + 1) + (t + 1) ≤ max_table_words
row_within n A t few h k =
    let m = mul-le-mul {n₁ = suc A} {m₁ = t + 1} {n₂ = max_nonterminals} {m₂ = max_columns} h (omega arith) in omega (arith, suc-mul A (t + 1))
