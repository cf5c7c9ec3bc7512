-- The words that are laid out from the sets and the entries of a grammar are those of its table.
use Rattle.std.specs.Prelude.{Err, Ok}
use mathlib.Core.Path.{◌≡◌, refl, sym, ap, ◌∙◌}
use mathlib.Core.Bool.{Bool, true, false}
use mathlib.Core.List.{List, ◌++◌}
use mathlib.Core.Logic.{◌⊎◌, inl, inr}
use mathlib.Core.Option.{Option, none, some}
use Prim.Native.Nat.{ℕ, ◌+◌, ◌-◌, ◌*◌, ◌/◌, ◌%◌, ◌^◌, ◌≤◌, ◌<◌}
use native.Mathlib.Decide.{dec_lt}
use native.Mathlib.Omega.{arith}
use lib.Dec.{eqb}
use lib.ListN.{length, get_or, drop}
use lib.Seq.{ext_get_or}
use borrow.Author.Tests.{ne_eqb, lt-ltb, le-ltb}
use Rattle.base.specs.Choice.{choose}
use Rattle.grammar.specs.inner.Codes.{no_rule}
use Rattle.grammar.specs.Encoding.{grammar_of}
use Rattle.grammar.specs.Limits.{max_nonterminals, max_rules}
use Rattle.grammar.specs.inner.WellRead.{WellRead}
use Rattle.grammar.proofs.WellRead.{well_read}
use Rattle.grammar.specs.Syntax.{Grammar}
use Rattle.grammar.specs.declared.reading.Sizes.{Sizes}
use Rattle.lookahead.specs.declared.Lookahead.{Lookahead}
use Rattle.lookahead.specs.declared.Lookahead.TheVariants.{One, Two}
use Rattle.lookahead.specs.Lookaheads.{tokens}
use Rattle.semantics.specs.Claims.{claims, table_of}
use Rattle.semantics.specs.FirstFollow.{first, follow}
use Rattle.semantics.proofs.descent.Outcomes.{nth_below}
use Rattle.semantics.proofs.families.Positions.{position_some}
use Rattle.answer.specs.declared.Error.{Error}
use Rattle.families.proofs.FewTerminals.{admitted_read}
use Rattle.table.specs.declared.Found.{Found}
use Rattle.base.specs.Lists.{listed}
use Rattle.families.specs.Sets.{first_number, follow_number}
use Rattle.base.proofs.Lists.{listed_long, listed_at}
use Rattle.families.proofs.Strings.{number_below}
use Rattle.columns.specs.Columns.{column_string, columns}
use Rattle.table_promises.specs.Layout.{entry_word, entry_at, set_word, row_word, table_words, table_room}
use Rattle.lent_words.specs.inner.Words.{entry_code, no_sizes, lent_sizes}
use Rattle.lending.specs.inner.Lending.{table_word_at, stored_word, word_count, laid, lent_of, lent_by, SizesGiven}
use Rattle.lending.proofs.Laying.{lent_sizes_lem, count_room, lent_long}
use Rattle.table.specs.inner.Entries.{rule_byte, byte_at, entries_of}
use Rattle.table.proofs.EntriesFilled.{entries_in}
use Rattle.table_promises.proofs.Words.{table_length, table_long, table_set, table_row}
use Rattle.table.proofs.Analyzing.{FoundEntries}

-- a rule's byte as a word is its number
code_byte : (o : Option ℕ) → ((q : ℕ) → o ≡ some q → q < no_rule) → entry_code (rule_byte o) ≡ entry_word o
unfolding entry_code
code_byte none h = refl
code_byte (some q) h = rw (ne_eqb q no_rule (λ e. omega (arith, h q refl)))

-- a word is one of a set or of an entry
split : (k : Lookahead) (G : Grammar) (i : ℕ) → i < 2 * G.nonterminals + G.nonterminals * columns k G
    → (i < 2 * G.nonterminals) ⊎ ((j : ℕ) × (j < G.nonterminals * columns k G) × (i ≡ 2 * G.nonterminals + j))
split k G i l = go (dec_lt i (2 * G.nonterminals))
  where
    go : Dec (i < 2 * G.nonterminals) → (i < 2 * G.nonterminals) ⊎ ((j : ℕ) × (j < G.nonterminals * columns k G) × (i ≡ 2 * G.nonterminals + j))
    go (yes h) = inl h
    go (no h) = inr (i - 2 * G.nonterminals, omega arith, omega arith)

module _ (k : Lookahead) (G : Grammar) (few_rules : length G.rules ≤ max_rules) where
  rule_small : (A : ℕ) (x : List ℕ) (q : ℕ) → table_of G (tokens k) A x ≡ some q → q < max_rules
  unfolding table_of
  rule_small A x q e = let p = position_some (claims G (tokens k) (A, x)) G.rules q e in omega (arith, nth_below G.rules q p.0 p.1)

  module _ (few : G.nonterminals ≤ max_nonterminals) {firsts follows entries : List ℕ} (f : firsts ≡ listed max_nonterminals (first_number k G))
      (g : follows ≡ listed max_nonterminals (follow_number k G))
      (h : entries ≡ entries_of k G) where
    abbrev sets : ℕ
    sets = 2 * G.nonterminals

    abbrev count : ℕ
    count = 2 * G.nonterminals + G.nonterminals * columns k G

    abbrev word : ℕ → ℕ
    word = table_word_at G.nonterminals firsts follows entries

    in_sets : (i : ℕ) → i < sets → word i ≡ set_word k G i
    unfolding table_word_at set_word
    in_sets i l =
        let a = f_at (i / 2) (omega arith) in
        let b = g_at (i / 2) (omega arith) in
        rw (lt-ltb i sets l, a, b)
      where
        f_at : (A : ℕ) → A < max_nonterminals → get_or firsts A 0 ≡ first_number k G A
        f_at A l = rw f (listed_at max_nonterminals (first_number k G) A l)

        g_at : (A : ℕ) → A < max_nonterminals → get_or follows A 0 ≡ follow_number k G A
        g_at A l = rw g (listed_at max_nonterminals (follow_number k G) A l)

    in_rows : (i : ℕ) → i < G.nonterminals * columns k G → word (sets + i) ≡ row_word k G i
    unfolding table_word_at row_word entry_at byte_at
    in_rows i l =
        let A = i / columns k G in
        let x = column_string k G.terminals (i % columns k G) in
        let d : sets + i - sets ≡ i = omega arith in
        rw (le-ltb (sets + i) sets (omega arith), d, h, entries_in k G i l)
        (code_byte (table_of G (tokens k) A x) (λ q e. omega (arith, rule_small A x q e)))

    pub word_is : (i : ℕ) → i < count → word i ≡ get_or (table_words k G) i 0
    word_is i l = go (split k G i l)
      where
        go : (i < sets) ⊎ ((j : ℕ) × (j < G.nonterminals * columns k G) × (i ≡ sets + j)) → word i ≡ get_or (table_words k G) i 0
        go (inl b) = in_sets i b ∙ sym (table_set k G i b)
        go (inr j) = rw j.2 (in_rows j.0 j.1 ∙ sym (table_row k G j.0 j.1))

-- with one token of lookahead each word fits one of 32 bits
word_small : (o : Option ℕ) → ((q : ℕ) → o ≡ some q → q < max_rules) → entry_word o < 2 ^ 32
word_small none h = omega arith
word_small (some q) h = omega (arith, h q refl)

set_small : (G : Grammar) (b : Bool) (A : ℕ) → choose b (first_number One G A) (follow_number One G A) < 2 ^ 32
unfolding first_number follow_number
set_small G true A = omega (arith, number_below One (λ x. first G 1 (A, x)))
set_small G false A = omega (arith, number_below One (λ x. follow G 1 (A, x)))

pub table_small : (G : Grammar) → length G.rules ≤ max_rules → (i : ℕ) → i < 2 * G.nonterminals + G.nonterminals * columns One G
    → get_or (table_words One G) i 0 < 2 ^ 32
unfolding set_word row_word entry_at
table_small G few_rules i l = go (split One G i l)
  where
    go : (i < 2 * G.nonterminals) ⊎ ((j : ℕ) × (j < G.nonterminals * columns One G) × (i ≡ 2 * G.nonterminals + j)) → get_or (table_words One G) i 0 < 2 ^ 32
    go (inl k) = rw (table_set One G i k) (set_small G (eqb (i % 2) 0) (i / 2))
    go (inr j) =
        let x = column_string One G.terminals (j.0 % columns One G) in
        rw (j.2, table_row One G j.0 j.1) (word_small (table_of G 1 (j.0 / columns One G) x) (rule_small One G few_rules (j.0 / columns One G) x))

table_stored : (k : Lookahead) (G : Grammar) → length G.rules ≤ max_rules → (i : ℕ) → i < 2 * G.nonterminals + G.nonterminals * columns k G
    → stored_word k (get_or (table_words k G) i 0) ≡ get_or (table_words k G) i 0
table_stored One G few i h = omega (arith, table_small G few i h)
table_stored Two G few i h = refl

-- the values of a function are a list that has the same elements
listed_table : (l : List ℕ) (n : ℕ) (f : ℕ → ℕ) → n ≡ length l → ((i : ℕ) → i < length l → f i ≡ get_or l i 0) → listed n f ≡ l
listed_table l n f e each =
    ext_get_or 0 (listed n f) l (listed_long n f ∙ e) (λ i h. let b : i < n = omega (arith, listed_long n f) in listed_at n f i b ∙ each i (omega arith))

-- so what is lent of a grammar that passes is its table
module _ {k : Lookahead} {words : List ℕ} {z : Sizes} {r : Found} (f : FoundEntries k words z r) where
  abbrev G : Grammar
  G = grammar_of words

  read : WellRead words z
  read = well_read words z (admitted_read k words f.read)

  few : G.nonterminals ≤ max_nonterminals
  few = omega (arith, read.few_nonterminals, read.nonterminals)

  few_rules_lem : length G.rules ≤ max_rules
  few_rules_lem = omega (arith, read.few_rules, read.rules)

  given : SizesGiven z
  given = record { few_nonterminals = read.few_nonterminals; few_terminals = read.few_terminals }

  counted : word_count k z ≡ length (table_words k G)
  counted = rw (read.nonterminals, read.terminals) (sym (table_long k G))

  as_stored : ℕ → ℕ
  as_stored i = stored_word k (table_word_at z.nonterminals r.firsts r.follows r.entries i)

  each : (i : ℕ) → i < length (table_words k G) → as_stored i ≡ get_or (table_words k G) i 0
  unfolding as_stored
  each i h =
      let b : i < 2 * G.nonterminals + G.nonterminals * columns k G = omega (arith, table_length k G) in
      ap (λ n. stored_word k (table_word_at n r.firsts r.follows r.entries i)) read.nonterminals
      ∙ ap (stored_word k) (word_is k G few_rules_lem few f.first f.follow f.entries i b) ∙ table_stored k G few_rules_lem i b

  laid_table : laid k z r.firsts r.follows r.entries ≡ table_words k G
  unfolding laid as_stored
  laid_table = listed_table (table_words k G) (word_count k z) as_stored counted each

  pub lent_table : (before : List ℕ) → table_room k ≤ length before → r.finding ≡ Ok z
      → lent_of k r before ≡ table_words k G ++ drop (length (table_words k G)) before
  lent_table before room p =
      rw (p, lent_sizes_lem z given)
      (lent_long k z r.firsts r.follows r.entries before (omega (arith, count_room k z given)) ∙ rw (laid_table, counted))

-- and of one that is refused nothing
none_lent : (k : Lookahead) (firsts follows entries before : List ℕ) → lent_by k no_sizes firsts follows entries before ≡ before
unfolding lent_by laid listed
none_lent One firsts follows entries before = rw (le-ltb (length before) 0 (omega arith)) refl
none_lent Two firsts follows entries before = rw (le-ltb (length before) 0 (omega arith)) refl

pub lent_nothing : (k : Lookahead) (r : Found) (before : List ℕ) {x : Error} → r.finding ≡ Err x → lent_of k r before ≡ before
unfolding lent_sizes
lent_nothing k r before p =
    ap (λ y. lent_by k (lent_sizes y) r.firsts r.follows r.entries before) p ∙ none_lent k r.firsts r.follows r.entries before
