-- The array of entries once the rules are written into the rows, and where an entry stands in it.
use mathlib.Core.Path.{◌≡◌, refl, sym, ap, ◌∙◌}
use mathlib.Core.List.{List}
use mathlib.Core.Option.{Option, none, some}
use Prim.Native.Nat.{ℕ, ◌+◌, ◌*◌, ◌/◌, ◌%◌, ◌≤◌, ◌<◌}
use native.Mathlib.Nat.{mul-le-mul, mod-lt, div-add-mod', div-lt_iff_lt-mul}
use native.Mathlib.Omega.{arith}
use lib.Arith.{digits_lt, digits_div, digits_mod}
use lib.ListN.{length, get_or, length-replicate, get_or-replicate}
use Rattle.grammar.specs.inner.Codes.{no_rule}
use Rattle.grammar.specs.Limits.{max_nonterminals}
use Rattle.grammar.specs.inner.Limits.{max_entries}
use Rattle.grammar.specs.Syntax.{Grammar}
use Rattle.lookahead.specs.declared.Lookahead.{Lookahead}
use Rattle.lookahead.specs.Lookaheads.{tokens}
use Rattle.lookahead.specs.inner.Lookaheads.{alphabet}
use Rattle.base.specs.FiniteSets.{numbers_below}
use Rattle.semantics.specs.Claims.{table_of}
use Rattle.base.specs.Lists.{listed}
use Rattle.families.specs.inner.RuleLists.{by_rule}
use Rattle.base.proofs.Lists.{listed_long, listed_at}
use Rattle.columns.specs.inner.Columns.{column_element}
use Rattle.columns.specs.Columns.{column_string, columns}
use Rattle.claims.specs.inner.Claims.{heads_of, claim_numbers}
use Rattle.table.specs.inner.Entries.{rule_byte, byte_at, entries_of, no_rules, entry_over, rows_of, FilledRows}
use Rattle.claims.proofs.Claimants.{first_claim, told}
use Rattle.columns.proofs.ColumnStrings.{some_column, column_count_lem, column_string_lem, element_small}
use Rattle.table.proofs.Padded.{padded_in, padded_is}

fresh_entry : (o : Option ℕ) → entry_over 0 no_rule o ≡ rule_byte o
fresh_entry none = refl
fresh_entry (some q) = omega arith

module _ (k : Lookahead) (G : Grammar) where
  abbrev count : ℕ
  count = G.nonterminals * columns k G

  abbrev byte : ℕ → ℕ
  byte i = byte_at k G (i / columns k G) (i % columns k G)

  -- the entry at an index
  pub entries_in : (i : ℕ) → i < count → get_or (entries_of k G) i 0 ≡ byte_at k G (i / columns k G) (i % columns k G)
  unfolding entries_of
  entries_in i h = padded_in max_entries no_rule (listed count byte) i (omega (arith, listed_long count byte)) ∙ listed_at count byte i h

  -- the entry of a nonterminal in a column
  pub entries_at : (A c : ℕ) → A < G.nonterminals → c < columns k G → get_or (entries_of k G) (A * columns k G + c) 0 ≡ byte_at k G A c
  entries_at A c a h = entries_in (A * columns k G + c) (digits_lt a h) ∙ rw (digits_div A h, digits_mod A h)

  module _ (few : G.nonterminals ≤ max_nonterminals) (few' : G.terminals ≤ alphabet k) {heads claims : List ℕ}
      (head : heads ≡ by_rule (heads_of G)) (claim : claims ≡ by_rule (claim_numbers k G)) {entries : List ℕ}
      (rows : FilledRows (rows_of k G.nonterminals G.terminals) heads claims 0 (numbers_below (length G.rules)) no_rules entries) where
    room : count ≤ max_entries
    room = omega (arith, mul-le-mul few (column_count_lem k G.terminals few'))

    in_rows : (i : ℕ) → i < count → get_or entries i 0 ≡ byte i
    unfolding byte_at
    in_rows i h =
        let z : 0 < columns k G = some_column k G.terminals in
        let A : i / columns k G < G.nonterminals = (div-lt_iff_lt-mul {x = i} {y = G.nonterminals} z).1 h in
        let c : i % columns k G < columns k G = mod-lt i z in
        let element = column_element k G.terminals (i % columns k G) in
        let fresh : get_or no_rules i 0 ≡ no_rule = get_or-replicate max_entries i no_rule 0 (omega (arith, room)) in
        let r = rw (div-add-mod' i (columns k G), fresh) at (rows.entries (i / columns k G) (i % columns k G) A c) in
        let found = first_claim (told k G head claim element (element_small k G.terminals (i % columns k G) few' c)) (i / columns k G)
        ∙ ap (table_of G (tokens k) (i / columns k G)) (column_string_lem k G.terminals (i % columns k G) few' c) in
        r ∙ ap (entry_over 0 no_rule) found ∙ fresh_entry (table_of G (tokens k) (i / columns k G) (column_string k G.terminals (i % columns k G)))

    pub entries_filled : entries ≡ entries_of k G
    unfolding entries_of
    entries_filled =
        let n = listed_long count byte in
        padded_is max_entries no_rule (listed count byte) (rows.long ∙ length-replicate {A = ℕ} max_entries no_rule) (omega (arith, room))
        (λ i h. let l : i < count = omega arith in in_rows i l ∙ sym (listed_at count byte i l))
        (λ i h l. rows.behind i (omega arith) ∙ get_or-replicate max_entries i no_rule 0 l)
