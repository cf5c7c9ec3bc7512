-- The first and follow sets of document 01's grammars R, M and E, the words of their tables, and clashes, by computation.
use Rattle.std.specs.Prelude.{None, Some}
use mathlib.Core.List.{List, [], ◌∷◌, ◌++◌, map}
use mathlib.Core.Path.{◌≡◌, refl, ap₂, ◌∙◌}
use mathlib.Core.Option.{some}
use Prim.Native.Nat.{ℕ, ◌*◌, ◌/◌, ◌%◌}
use lib.Dec.{eqb}
use lib.ListN.{replicate}
use Rattle.answer.specs.declared.Error.TheVariants.{LeftRecursive}
use Rattle.word.specs.declared.Symbol.{Symbol}
use Rattle.word.specs.declared.Symbol.TheVariants.{Terminal, Nonterminal}
use Rattle.grammar.specs.Codes.{no_entry}
use Rattle.grammar.specs.examples.Cards.{grammar_r, grammar_m, grammar_e}
use Rattle.grammar.specs.Syntax.{Body, Rule, Grammar}
use Rattle.lookahead.specs.Elements.{total_weight}
use Rattle.base.specs.Choice.{choose}
use Rattle.base.specs.FiniteSets.{member}
use Rattle.base.specs.Rounds.{members, least}
use Rattle.semantics.specs.FirstFollow.{Entry, same_entry, entries, first_step, first, follow_step, follow}
use Rattle.semantics.specs.Claims.{clashes, table_of}
use Rattle.semantics.specs.LeftRecursion.{lowest_left_recursive}
use Rattle.semantics_examples.proofs.Computing.{tables_compute, left_recursion_computes}
use Rattle.base.specs.Lists.{listed}
use Rattle.lookahead.specs.declared.Lookahead.TheVariants.{One, Two}
use Rattle.lookahead.specs.Lookaheads.{string_of}
use Rattle.families.specs.Sets.{set_number, first_number, follow_number}
use Rattle.columns.specs.Columns.{column_string, columns}
use Rattle.table_promises.specs.Layout.{entry_at, set_word, row_word, table_words}
use Rattle.table_promises.specs.Conflicts.{row_conflict, conflict_from, first_clash}
use Rattle.families.specs.Analysis.{left_fault}

-- the first sets of a grammar, and its follow sets, as lists of a nonterminal and a string each
abbrev firsts_of : Grammar → List Entry
firsts_of G = members same_entry (entries G 1) (first_step G 1)

abbrev follows_of : Grammar → List Entry
follows_of G = members same_entry (entries G 1) (follow_step G 1)

-- those of R, M and E
abbrev each : List (List ℕ) → ℕ → List Entry
each l A = map (λ x. (A, x)) l

abbrev at : ℕ → List ℕ
at a = a ∷ []

abbrev firsts_r : List Entry
firsts_r = each (at 0 ∷ [] ∷ []) 0

abbrev follows_r : List Entry
follows_r = each ([] ∷ []) 0

abbrev firsts_m : List Entry
firsts_m = each (at 0 ∷ at 1 ∷ [] ∷ []) 0 ++ each (at 0 ∷ [] ∷ []) 1 ++ each (at 0 ∷ [] ∷ []) 2 ++ each (at 2 ∷ [] ∷ []) 3 ++ each (at 1 ∷ [] ∷ []) 4

abbrev follows_m : List Entry
follows_m = each ([] ∷ []) 0 ++ each (at 1 ∷ [] ∷ []) 1 ++ each (at 1 ∷ at 2 ∷ [] ∷ []) 2 ++ each ([] ∷ []) 3 ++ each (at 2 ∷ [] ∷ []) 4

abbrev firsts_e : List Entry
firsts_e = each (at 0 ∷ at 1 ∷ []) 0 ++ each (at 0 ∷ at 1 ∷ []) 1 ++ each (at 0 ∷ at 1 ∷ []) 2 ++ each ([] ∷ []) 3

abbrev follows_e : List Entry
follows_e = each ([] ∷ []) 0 ++ each (at 1 ∷ []) 1 ++ each (at 1 ∷ []) 2 ++ each (at 1 ∷ []) 3

firsts : (firsts_of grammar_r ≡ firsts_r) × (firsts_of grammar_m ≡ firsts_m) × (firsts_of grammar_e ≡ firsts_e)
unfolding tables_compute
firsts = (refl, refl, refl)

follows : (follows_of grammar_r ≡ follows_r) × (follows_of grammar_m ≡ follows_m) × (follows_of grammar_e ≡ follows_e)
unfolding tables_compute
follows = (refl, refl, refl)

-- the words of a table by such lists, so that they are computed once for all words
abbrev number_in : List Entry → ℕ → ℕ
number_in l A = set_number One (λ x. member same_entry l (A, x))

abbrev words_by : Grammar → List Entry → List Entry → List ℕ
words_by G f g =
    listed (2 * G.nonterminals) (λ i. choose (eqb (i % 2) 0) (number_in f (i / 2)) (number_in g (i / 2)))
    ++ listed (G.nonterminals * columns One G) (row_word One G)

words_by_lem : (G : Grammar) {f g : List Entry} → firsts_of G ≡ f → follows_of G ≡ g → table_words One G ≡ words_by G f g
unfolding table_words set_word first_number follow_number first follow least
words_by_lem G e d = ap₂ (words_by G) e d

tables : (table_words One grammar_r ≡ 16777217 ∷ 16777216 ∷ 0 ∷ 1 ∷ [])
    × (
    table_words One grammar_m
    ≡ 16777219 ∷ 16777216 ∷ 16777217 ∷ 16777218 ∷ 16777217 ∷ 16777222 ∷ 16777220 ∷ 16777216 ∷ 16777218 ∷ 16777220
    ∷ 0 ∷ 0 ∷ no_entry ∷ 0 ∷ 1 ∷ 2 ∷ no_entry ∷ 2 ∷ 3 ∷ 4 ∷ 4 ∷ 4 ∷ no_entry ∷ no_entry ∷ 5 ∷ 6 ∷ no_entry ∷ 7 ∷ 8 ∷ 8 ∷ []
    )
    × (table_words One grammar_e ≡ 3 ∷ 16777216 ∷ 3 ∷ 2 ∷ 3 ∷ 2 ∷ 16777216 ∷ 2 ∷ 0 ∷ 0 ∷ no_entry ∷ 1 ∷ 1 ∷ no_entry ∷ 2 ∷ 3 ∷ no_entry ∷ no_entry ∷ 4
    ∷ no_entry ∷ [])
unfolding tables_compute listed total_weight string_of set_number row_word entry_at column_string table_of
tables = (
  words_by_lem grammar_r firsts.0 follows.0 ∙ refl,
  words_by_lem grammar_m firsts.1 follows.1 ∙ refl,
  words_by_lem grammar_e firsts.2 follows.2 ∙ refl,
)

-- document 01's grammars with an error: two rules that claim one entry, and left recursion through a negative conjunct
abbrev rule_a : List Body → Rule
rule_a ns = record { head = 0; positives = (Terminal 0 ∷ []) ∷ []; negatives = ns }

abbrev twice_a : Grammar
twice_a = record { nonterminals = 1; terminals = 1; rules = rule_a [] ∷ rule_a [] ∷ [] }

abbrev not_itself : Grammar
not_itself = record { nonterminals = 1; terminals = 1; rules = rule_a ((Nonterminal 0 ∷ []) ∷ []) ∷ [] }

-- a rule with a negative alone: of the nonterminal that a terminal follows it is a conflict in the first column, of the start it is none
abbrev not_a : ℕ → Rule
not_a A = record { head = A; positives = []; negatives = (Terminal 0 ∷ []) ∷ [] }

abbrev not_aBefore : Grammar
not_aBefore = record {
  nonterminals = 2;
  terminals = 2;
  rules = record { head = 0; positives = (Nonterminal 1 ∷ Terminal 1 ∷ []) ∷ []; negatives = [] } ∷ not_a 1 ∷ [];
}

abbrev not_aWhole : Grammar
not_aWhole = record { nonterminals = 1; terminals = 1; rules = not_a 0 ∷ [] }

overruns : first_clash One not_aBefore ≡ Some (1, 0)
unfolding tables_compute row_conflict conflict_from first_clash column_string
overruns = refl

takes_all : (clashes not_aWhole 1 ≡ []) × (table_words One not_aWhole ≡ 16777217 ∷ 16777216 ∷ 0 ∷ 0 ∷ [])
unfolding tables_compute listed total_weight string_of set_number first_number follow_number first follow table_words set_word
    row_word entry_at column_string table_of clashes
takes_all = (refl, refl)

claimed_twice : first_clash One twice_a ≡ Some (0, 0)
unfolding tables_compute row_conflict conflict_from first_clash column_string
claimed_twice = refl

-- with two tokens of lookahead: rules that differ in their second terminal alone, which one token refuses
abbrev rule_of : List Symbol → Rule
rule_of b = record { head = 0; positives = b ∷ []; negatives = [] }

abbrev second_tells : Grammar
second_tells = record { nonterminals = 1; terminals = 3; rules = rule_of (Terminal 0 ∷ Terminal 1 ∷ []) ∷ rule_of (Terminal 0 ∷ Terminal 2 ∷ []) ∷ [] }

one_refuses : first_clash One second_tells ≡ Some (0, 0)
unfolding tables_compute row_conflict conflict_from first_clash column_string
one_refuses = refl

two_takes : (first_clash Two second_tells ≡ None)
    × (table_words Two second_tells ≡ 1536 ∷ 1 ∷ (replicate 9 no_entry ++ 0 ∷ 1 ∷ replicate 46 no_entry))
unfolding tables_compute row_conflict conflict_from first_clash listed total_weight string_of set_number first_number follow_number first follow table_words
    set_word row_word entry_at column_string table_of
two_takes = (refl, refl)

-- and the first clash is that of terminal 0 at the end, before that of terminals 0 and 1, though strings are listed the other way round
abbrev twice_or_more : Grammar
twice_or_more = record {
  nonterminals = 2;
  terminals = 2;
  rules = rule_of (Terminal 0 ∷ Nonterminal 1 ∷ []) ∷ rule_of (Terminal 0 ∷ Nonterminal 1 ∷ [])
      ∷ record { head = 1; positives = [] ∷ []; negatives = [] } ∷ record { head = 1; positives = (Terminal 1 ∷ []) ∷ []; negatives = [] } ∷ [];
}

by_column : (first_clash Two twice_or_more ≡ Some (0, 1)) × (clashes twice_or_more 2 ≡ (0, 0 ∷ 1 ∷ []) ∷ (0, 0 ∷ []) ∷ [])
unfolding tables_compute row_conflict conflict_from first_clash string_of column_string clashes
by_column = (refl, refl)

reaches_itself : left_fault (lowest_left_recursive not_itself) ≡ some (LeftRecursive 0)
unfolding left_recursion_computes lowest_left_recursive
reaches_itself = refl
