-- All that is found of an encoded grammar: its finding, where its rules begin, its sets and its entries.
use Rattle.std.specs.Prelude.{Result, List, ℕ}
use Rattle.grammar.specs.declared.reading.Sizes.{Sizes}
use Rattle.std.proofs.Math.Option.{Option, none, some}
use Rattle.answer.specs.declared.Error.{Error}
use Rattle.grammar.specs.Limits.{max_nonterminals}
use Rattle.grammar.specs.Encoding.{grammar_of}
use Rattle.grammar.specs.inner.Starts.{rule_starts}
use Rattle.lookahead.specs.declared.Lookahead.{Lookahead}
use Rattle.admission.specs.Admission.{admission}
use Rattle.families.specs.Analysis.{sets_fault, finding_of}
use Rattle.families.specs.inner.Analysis.{starts_if, sets_if}
use Rattle.base.specs.Lists.{listed}
use Rattle.families.specs.Sets.{first_number, follow_number}
use Rattle.table.specs.declared.Found.{Found}
use Rattle.table.specs.inner.Entries.{entries_of, no_rules}
use Rattle.table_promises.specs.Analysis.{fault}

abbrev pub entries_if : Option Error → List ℕ → List ℕ
entries_if none l = l
entries_if (some e) l = no_rules

abbrev pub found_with : Result Sizes Error → List ℕ → List ℕ → List ℕ → List ℕ → Found
found_with f starts firsts follows entries = record { finding = f; starts = starts; firsts = firsts; follows = follows; entries = entries }

unfoldable pub found_of : Lookahead → List ℕ → Found
found_of k words =
    found_with (finding_of (fault k words) (admission k words)) (starts_if (sets_fault k words) (rule_starts words))
    (sets_if (sets_fault k words) (listed max_nonterminals (first_number k (grammar_of words))))
    (sets_if (sets_fault k words) (listed max_nonterminals (follow_number k (grammar_of words))))
    (entries_if (fault k words) (entries_of k (grammar_of words)))
