-- Sheets of gaps and overlaps, worked by computation.
use mathlib.Core.Path.{◌≡◌, refl}
use mathlib.Core.List.{List, [], ◌∷◌, flat_map}
use Prim.Native.Nat.{ℕ}
use Rattle.grammar.specs.Syntax.{Rule, Grammar}
use Rattle.semantics_examples.proofs.Computing.{tables_compute}
use Rattle.text.specs.Ascii.{ascii}
use Rattle.text.specs.Decimal.{digits, decimal}
use Rattle.word.specs.declared.Symbol.TheVariants.{Terminal, Nonterminal}
use Rattle.gaps_text_promises.specs.Gaps.{claims_by, claimants, gap_text, overrun_text, listed_entries, listed_overruns, gaps_lines}

-- the definitions that lines compute by
unfoldable lines_compute : Unit {0}
unfolding flat_map digits decimal claims_by claimants gap_text overrun_text listed_entries listed_overruns gaps_lines
lines_compute = tt

-- two nonterminals and two terminals
abbrev two : List Rule → Grammar
two rs = record { nonterminals = 2; terminals = 2; rules = rs }

abbrev followed : Rule
followed = record { head = 0; positives = (Nonterminal 1 ∷ Terminal 1 ∷ []) ∷ []; negatives = [] }

abbrev single : ℕ → Rule
single A = record { head = A; positives = (Terminal 0 ∷ []) ∷ []; negatives = [] }

abbrev forbidding : Rule
forbidding = record { head = 1; positives = []; negatives = (Terminal 0 ∷ []) ∷ [] }

-- S → X b, X → ¬ a: X overruns, which is no overlap in its first column
overrun : gaps_lines (two (followed ∷ forbidding ∷ [])) ≡ ascii "0 2 -\n1 2 -\n1\n"
unfolding tables_compute lines_compute
overrun = refl

-- with S → a before it: the end's column comes last
overlap : gaps_lines (two (single 0 ∷ followed ∷ forbidding ∷ [])) ≡ ascii "0 0 0 1\n0 2 -\n1 2 -\n1\n"
unfolding tables_compute lines_compute
overlap = refl

-- S → a | a, X → a: rules that are alike overlap, and nothing reaches X, so all its entries are gaps
unreached : gaps_lines (two (single 0 ∷ single 0 ∷ single 1 ∷ [])) ≡ ascii "0 0 0 1\n0 1 -\n0 2 -\n1 0 -\n1 1 -\n1 2 -\n"
unfolding tables_compute lines_compute
unreached = refl
