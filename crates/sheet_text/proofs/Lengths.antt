-- How long a sheet can be.
use mathlib.Core.List.{List}
use Prim.Native.Nat.{ℕ, ◌+◌, ◌*◌, ◌≤◌}
use native.Mathlib.Nat.{mul-le-mul_right}
use native.Mathlib.Omega.{arith}
use lib.ListN.{length, length-append}
use Rattle.grammar.specs.Codes.{no_entry}
use Rattle.grammar.specs.Limits.{max_nonterminals, max_terminals, max_columns}
use Rattle.grammar.specs.declared.reading.Sizes.{Sizes}
use Rattle.lookahead.specs.Elements.{size}
use Rattle.text.specs.Writing.{up_to}
use Rattle.text.proofs.Lengths.{decimal_most, dash_within, up_to_most}
use Rattle.sheet_text.specs.inner.Limited.{Limited}
use Rattle.sheet_text.specs.Room.{sizes_room, sets_room, table_entry_room, entries_room, sheet_room}
use Rattle.sheet_lines.specs.Lines.{sheet_word_at, sizes_line, sets_line, table_entry_text}
use Rattle.sheet_text.specs.Sheet.{entries_line, nonterminal_text, sheet_text}

sizes_most : (z : Sizes) → length (sizes_line z) ≤ sizes_room
unfolding sizes_line
sizes_most z = simp length-append (omega (arith, decimal_most z.nonterminals, decimal_most z.terminals, decimal_most z.rules))

sets_most : (table : List ℕ) (A : ℕ) → length (sets_line table A) ≤ sets_room
unfolding sets_line
sets_most table A =
    let x = sheet_word_at table (2 * A) in
    let y = sheet_word_at table (2 * A + 1) in
    simp length-append (omega (arith, decimal_most A, decimal_most x, decimal_most (size x), decimal_most y, decimal_most (size y)))

entries_most : (table : List ℕ) (start columns : ℕ) → length (entries_line table start columns) ≤ columns * table_entry_room + 6
unfolding entries_line
entries_most table start columns =
    let cells = up_to_most columns table_entry_room (λ c. table_entry_text (sheet_word_at table (start + c)))
    (λ k h. dash_within no_entry (sheet_word_at table (start + k)) 20 (decimal_most (sheet_word_at table (start + k))) (omega arith)) in
    simp length-append (omega (arith, cells))

nonterminal_most : (z : Sizes) (table : List ℕ) (A : ℕ) → z.terminals ≤ max_terminals → length (nonterminal_text z table A) ≤ sets_room + entries_room
unfolding nonterminal_text
nonterminal_most z table A h =
    let start = 2 * z.nonterminals + A * (z.terminals + 1) in
    omega (
      arith,
      length-append (sets_line table A) (entries_line table start (z.terminals + 1)),
      sets_most table A,
      entries_most table start (z.terminals + 1),
      mul-le-mul_right {m = z.terminals + 1} {n = max_columns} table_entry_room (omega arith),
    )

pub sheet_most : {z : Sizes} (table : List ℕ) → Limited z → length (sheet_text z table) ≤ sheet_room
unfolding sheet_text
sheet_most {z} table h =
    omega (
      arith,
      length-append (sizes_line z) (up_to z.nonterminals (nonterminal_text z table)),
      sizes_most z,
      up_to_most z.nonterminals (sets_room + entries_room) (nonterminal_text z table) (λ A l. nonterminal_most z table A h.few_terminals),
      mul-le-mul_right {m = z.nonterminals} {n = max_nonterminals} (sets_room + entries_room) h.few_nonterminals,
    )
