-- The sheets of document 01's grammars R, M and E, tables for two tokens and for a rule without positive bodies, and grammars with and
-- without an unproductive nonterminal, by computation.
use mathlib.Core.Bool.{Bool, true, false}
use mathlib.Core.List.{List, [], ◌∷◌, map}
use mathlib.Core.Option.{Option, none, some}
use mathlib.Core.Path.{◌≡◌, refl}
use Prim.Native.Nat.{ℕ, ◌+◌, ◌^◌}
use Rattle.word.specs.declared.Symbol.TheVariants.{Terminal, Nonterminal}
use Rattle.grammar.specs.Syntax.{Rule, Grammar}
use Rattle.base.specs.FiniteSets.{member, numbers_below}
use Rattle.base.specs.Rounds.{settle}
use Rattle.base.specs.Strings.{strings}
use Rattle.semantics.specs.FirstFollow.{same_entry, entries, first_step, first_sets, follow_sets}
use Rattle.semantics.specs.Claims.{clashes, table_of, every_ends}
use Rattle.grammar.specs.examples.Cards.{grammar_r, grammar_m, grammar_e}
use Rattle.semantics.specs.Productive.{lowest_unproductive}
use Rattle.semantics_examples.proofs.Computing.{tables_compute, productive_computes}

-- the number of a set at k = 1: a terminal a weighs 2 ^ a, the empty string 2 ^ 24
weight : List (List ℕ) → ℕ
weight [] = 0
weight ([] ∷ l) = 2 ^ 24 + weight l
weight ((a ∷ x) ∷ l) = 2 ^ a + weight l

-- a nonterminal's FIRST set, its FOLLOW set and its table entries, those for the terminals in order and then for the end
abbrev Row : Type 0
Row = ℕ × ℕ × List (Option ℕ)

sheet : Grammar → List Row
sheet G = map (λ A. (weight (first_sets G 1 A), weight (follow_sets G 1 A), map (table_of G 1 A) (strings 1 G.terminals))) (numbers_below G.nonterminals)

sheets : ◌≡◌ {A = List (List Row)} (sheet grammar_r ∷ sheet grammar_m ∷ sheet grammar_e ∷ []) (
    ((16777217, 16777216, some 0 ∷ some 1 ∷ []) ∷ [])
    ∷ (
    (16777219, 16777216, some 0 ∷ some 0 ∷ none ∷ some 0 ∷ [])
    ∷ (16777217, 16777218, some 1 ∷ some 2 ∷ none ∷ some 2 ∷ [])
    ∷ (16777217, 16777222, some 3 ∷ some 4 ∷ some 4 ∷ some 4 ∷ [])
    ∷ (16777220, 16777216, none ∷ none ∷ some 5 ∷ some 6 ∷ [])
    ∷ (16777218, 16777220, none ∷ some 7 ∷ some 8 ∷ some 8 ∷ []) ∷ []
    )
    ∷ (
    (3, 16777216, some 0 ∷ some 0 ∷ none ∷ [])
    ∷ (3, 2, some 1 ∷ some 1 ∷ none ∷ [])
    ∷ (3, 2, some 2 ∷ some 3 ∷ none ∷ [])
    ∷ (16777216, 2, none ∷ some 4 ∷ none ∷ []) ∷ []
    )
    ∷ []
    )
unfolding tables_compute weight sheet
sheets = refl

-- as many rounds as there are nonterminals do not suffice: R has one, and a is in its FIRST set after two
rounds_needed : ◌≡◌ {A = List Bool}
    (map (λ n. member same_entry (settle same_entry (entries grammar_r 1) (first_step grammar_r 1) n []) (0, 0 ∷ [])) (numbers_below 3))
    (false ∷ false ∷ true ∷ [])
unfolding tables_compute
rounds_needed = refl

-- S → A & B, A → a | b, B → b | c, D → a E, E → b E: the positives of S meet in b alone, and nothing begins D, since nothing completes E
abbrev meets : Grammar
meets = record {
  nonterminals = 5;
  terminals = 3;
  rules =
      record { head = 0; positives = (Nonterminal 1 ∷ []) ∷ (Nonterminal 2 ∷ []) ∷ []; negatives = [] }
      ∷ record { head = 1; positives = (Terminal 0 ∷ []) ∷ []; negatives = [] }
      ∷ record { head = 1; positives = (Terminal 1 ∷ []) ∷ []; negatives = [] }
      ∷ record { head = 2; positives = (Terminal 1 ∷ []) ∷ []; negatives = [] }
      ∷ record { head = 2; positives = (Terminal 2 ∷ []) ∷ []; negatives = [] }
      ∷ record { head = 3; positives = (Terminal 0 ∷ Nonterminal 4 ∷ []) ∷ []; negatives = [] }
      ∷ record { head = 4; positives = (Terminal 1 ∷ Nonterminal 4 ∷ []) ∷ []; negatives = [] } ∷ [];
}

meets_sheet : ◌≡◌ {A = List Row} (sheet meets) (
    (2, 16777216, none ∷ some 0 ∷ none ∷ none ∷ [])
    ∷ (3, 16777216, some 1 ∷ some 2 ∷ none ∷ none ∷ [])
    ∷ (6, 16777216, none ∷ some 3 ∷ some 4 ∷ none ∷ [])
    ∷ (0, 0, none ∷ none ∷ none ∷ none ∷ [])
    ∷ (0, 0, none ∷ none ∷ none ∷ none ∷ []) ∷ []
    )
unfolding tables_compute weight sheet
meets_sheet = refl

-- D, the nonterminal 3, is the lowest unproductive one, though it has a rule
meets_lowest : lowest_unproductive meets 1 ≡ some 3
unfolding productive_computes
meets_lowest = refl

-- (ab)ⁿac but for ac: S → T & ¬ X, T → a b T, T → a c, X → a c
abbrev pub repeated : Grammar
repeated = record {
  nonterminals = 3;
  terminals = 3;
  rules =
      record { head = 0; positives = (Nonterminal 1 ∷ []) ∷ []; negatives = (Nonterminal 2 ∷ []) ∷ [] }
      ∷ record { head = 1; positives = (Terminal 0 ∷ Terminal 1 ∷ Nonterminal 1 ∷ []) ∷ []; negatives = [] }
      ∷ record { head = 1; positives = (Terminal 0 ∷ Terminal 2 ∷ []) ∷ []; negatives = [] }
      ∷ record { head = 2; positives = (Terminal 0 ∷ Terminal 2 ∷ []) ∷ []; negatives = [] } ∷ [];
}

-- one token does not tell T's rules apart, two do
repeated_one : clashes repeated 1 ≡ (1, 0 ∷ []) ∷ []
unfolding tables_compute
repeated_one = refl

repeated_two : clashes repeated 2 ≡ []
unfolding tables_compute
repeated_two = refl

repeated_table : ◌≡◌ {A = List (Option ℕ)}
    (table_of repeated 2 0 (0 ∷ 1 ∷ []) ∷ table_of repeated 2 1 (0 ∷ 1 ∷ []) ∷ table_of repeated 2 1 (0 ∷ 2 ∷ []) ∷ table_of repeated 2 2 (0 ∷ 1 ∷ []) ∷ [])
    (some 0 ∷ some 1 ∷ some 2 ∷ none ∷ [])
unfolding tables_compute
repeated_table = refl

-- every word but a: S → ¬ X, X → a. Nothing but the end follows S, and it takes a token to see that
abbrev pub others : Grammar
others = record {
  nonterminals = 2;
  terminals = 1;
  rules =
      record { head = 0; positives = []; negatives = (Nonterminal 1 ∷ []) ∷ [] }
      ∷ record { head = 1; positives = (Terminal 0 ∷ []) ∷ []; negatives = [] } ∷ [];
}

others_sheet : ◌≡◌ {A = List Row} (sheet others) ((16777217, 16777216, some 0 ∷ some 0 ∷ []) ∷ (1, 16777216, some 1 ∷ none ∷ []) ∷ [])
unfolding tables_compute weight sheet
others_sheet = refl

others_ends : ◌≡◌ {A = List Bool} (every_ends others 0 ∷ every_ends others 1 ∷ []) (false ∷ true ∷ [])
unfolding tables_compute
others_ends = refl

-- with two tokens such a rule can begin with every string of at most two of the grammar's own terminals
others_two : first_sets others 2 0 ≡ (0 ∷ 0 ∷ []) ∷ (0 ∷ []) ∷ [] ∷ []
unfolding tables_compute
others_two = refl

-- one nonterminal and no rule; and S → a S, which never ends: both are unproductive
abbrev alone : List Rule → Grammar
alone rules = record { nonterminals = 1; terminals = 1; rules = rules }

alone_unproductive : ◌≡◌ {A = List (Option ℕ)}
    (map (λ rules. lowest_unproductive (alone rules) 1)
    ([] ∷ (record { head = 0; positives = (Terminal 0 ∷ Nonterminal 0 ∷ []) ∷ []; negatives = [] } ∷ []) ∷ []))
    (some 0 ∷ some 0 ∷ [])
unfolding productive_computes
alone_unproductive = refl

-- S → a b & a c: with one token both positives begin with a, with two they have nothing in common
abbrev apart : Grammar
apart = record {
  nonterminals = 1;
  terminals = 3;
  rules = record { head = 0; positives = (Terminal 0 ∷ Terminal 1 ∷ []) ∷ (Terminal 0 ∷ Terminal 2 ∷ []) ∷ []; negatives = [] } ∷ [];
}

apart_lowest : ◌≡◌ {A = List (Option ℕ)} (lowest_unproductive apart 1 ∷ lowest_unproductive apart 2 ∷ []) (none ∷ some 0 ∷ [])
unfolding productive_computes
apart_lowest = refl
