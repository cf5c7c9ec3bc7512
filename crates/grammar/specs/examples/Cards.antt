-- The grammars of document 01's cards R, M and E, and their words.
use Rattle.std.specs.Prelude.{List, [], ◌∷◌, ℕ}
use Rattle.word.specs.declared.Symbol.TheVariants.{Terminal, Nonterminal}
use Rattle.grammar.specs.Syntax.{Rule, Grammar, Body}

abbrev rule : ℕ → List Body → List Body → Rule
rule A ps ns = record { head = A; positives = ps; negatives = ns }

-- S → a S | ε
abbrev pub grammar_r : Grammar
grammar_r = record {
  nonterminals = 1;
  terminals = 1;
  rules =
      rule 0 ((Terminal 0 ∷ Nonterminal 0 ∷ []) ∷ []) []
      ∷ rule 0 ([] ∷ []) [] ∷ [];
}

abbrev pub words_r : List ℕ
words_r =
    0x10000101 ∷ 0x20000000 ∷ 0x30000000 ∷ 0x50000000 ∷ 0x60000000 ∷ 0x20000000 ∷ 0x30000000 ∷ 0x70000000 ∷ []

-- S → A D & ¬ B C, A → a A | ε, B → a B b | ε, C → c C | ε, D → b D c | ε: the inputs aⁱbʲcʲ with different i and j
abbrev pub grammar_m : Grammar
grammar_m = record {
  nonterminals = 5;
  terminals = 3;
  rules =
      rule 0 ((Nonterminal 1 ∷ Nonterminal 4 ∷ []) ∷ []) ((Nonterminal 2 ∷ Nonterminal 3 ∷ []) ∷ [])
      ∷ rule 1 ((Terminal 0 ∷ Nonterminal 1 ∷ []) ∷ []) []
      ∷ rule 1 ([] ∷ []) []
      ∷ rule 2 ((Terminal 0 ∷ Nonterminal 2 ∷ Terminal 1 ∷ []) ∷ []) []
      ∷ rule 2 ([] ∷ []) []
      ∷ rule 3 ((Terminal 2 ∷ Nonterminal 3 ∷ []) ∷ []) []
      ∷ rule 3 ([] ∷ []) []
      ∷ rule 4 ((Terminal 1 ∷ Nonterminal 4 ∷ Terminal 2 ∷ []) ∷ []) []
      ∷ rule 4 ([] ∷ []) [] ∷ [];
}

abbrev pub words_m : List ℕ
words_m =
    0x10000305 ∷ 0x20000000 ∷ 0x30000000 ∷ 0x60000001 ∷ 0x60000004 ∷ 0x40000000 ∷ 0x60000002 ∷ 0x60000003 ∷ 0x20000001 ∷ 0x30000000
    ∷ 0x50000000 ∷ 0x60000001 ∷ 0x20000001 ∷ 0x30000000 ∷ 0x20000002 ∷ 0x30000000 ∷ 0x50000000 ∷ 0x60000002 ∷ 0x50000001 ∷ 0x20000002
    ∷ 0x30000000 ∷ 0x20000003 ∷ 0x30000000 ∷ 0x50000002 ∷ 0x60000003 ∷ 0x20000003 ∷ 0x30000000 ∷ 0x20000004 ∷ 0x30000000 ∷ 0x50000001
    ∷ 0x60000004 ∷ 0x50000002 ∷ 0x20000004 ∷ 0x30000000 ∷ 0x70000000 ∷ []

-- S → A b, A → B & ¬ b C, B → a | b, C → ε
abbrev pub grammar_e : Grammar
grammar_e = record {
  nonterminals = 4;
  terminals = 2;
  rules =
      rule 0 ((Nonterminal 1 ∷ Terminal 1 ∷ []) ∷ []) []
      ∷ rule 1 ((Nonterminal 2 ∷ []) ∷ []) ((Terminal 1 ∷ Nonterminal 3 ∷ []) ∷ [])
      ∷ rule 2 ((Terminal 0 ∷ []) ∷ []) []
      ∷ rule 2 ((Terminal 1 ∷ []) ∷ []) []
      ∷ rule 3 ([] ∷ []) [] ∷ [];
}

abbrev pub words_e : List ℕ
words_e =
    0x10000204 ∷ 0x20000000 ∷ 0x30000000 ∷ 0x60000001 ∷ 0x50000001 ∷ 0x20000001 ∷ 0x30000000 ∷ 0x60000002 ∷ 0x40000000 ∷ 0x50000001
    ∷ 0x60000003 ∷ 0x20000002 ∷ 0x30000000 ∷ 0x50000000 ∷ 0x20000002 ∷ 0x30000000 ∷ 0x50000001 ∷ 0x20000003 ∷ 0x30000000 ∷ 0x70000000 ∷ []
