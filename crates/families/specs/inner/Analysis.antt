-- All that is found of an encoded grammar before its table is made: its finding, where its rules begin, and its families of sets.
use Rattle.std.specs.Prelude.{Err, Result, List, ℕ, replicate}
use Rattle.grammar.specs.declared.reading.Sizes.{Sizes}
use Rattle.std.proofs.Math.Option.{Option, none, some}
use Rattle.answer.specs.declared.Error.{Error}
use Rattle.grammar.specs.Limits.{max_nonterminals, max_rules}
use Rattle.grammar.specs.Encoding.{grammar_of}
use Rattle.grammar.specs.inner.Starts.{rule_starts}
use Rattle.lookahead.specs.declared.Lookahead.{Lookahead}
use Rattle.admission.specs.Admission.{admission}
use Rattle.families.specs.declared.Families.{Families}
use Rattle.base.specs.Lists.{listed}
use Rattle.families.specs.inner.RuleLists.{by_rule}
use Rattle.families.specs.Sets.{first_number, follow_number}
use Rattle.families.specs.inner.Sets.{meet_numbers, reach_number}
use Rattle.families.specs.Analysis.{sets_fault, finding_of}

-- where rules begin, or zeros
abbrev pub starts_if : Option Error → List ℕ → List ℕ
starts_if none l = l
starts_if (some e) l = replicate max_rules 0

-- a number for each rule, or zeros
abbrev pub by_rule_if : Option Error → List ℕ → List ℕ
by_rule_if none l = by_rule l
by_rule_if (some e) l = replicate max_rules 0

-- a family of sets, or empty ones
abbrev pub sets_if : Option Error → List ℕ → List ℕ
sets_if none l = l
sets_if (some e) l = replicate max_nonterminals 0

abbrev pub families : Result Sizes Error → List ℕ → List ℕ → List ℕ → List ℕ → List ℕ → Families
families f starts firsts meets follows reaches =
    record { finding = f; starts = starts; firsts = firsts; meets = meets; follows = follows; reaches = reaches }

-- the same with no follow sets yet
abbrev pub unfollowed : Result Sizes Error → List ℕ → List ℕ → List ℕ → List ℕ → Families
unfollowed f starts firsts meets reaches = families f starts firsts meets (replicate max_nonterminals 0) reaches

abbrev pub refused_by : Error → Families
refused_by e =
    families (Err e) (replicate max_rules 0) (replicate max_nonterminals 0) (replicate max_rules 0) (replicate max_nonterminals 0)
    (replicate max_nonterminals 0)

-- the same with other follow sets
abbrev pub with_follows : Families → List ℕ → Families
with_follows r follows = families r.finding r.starts r.firsts r.meets follows r.reaches

-- what is found before the follow sets are: they are empty
unfoldable pub first_families_of : Lookahead → List ℕ → Families
first_families_of k words =
    families (finding_of (sets_fault k words) (admission k words)) (starts_if (sets_fault k words) (rule_starts words))
    (sets_if (sets_fault k words) (listed max_nonterminals (first_number k (grammar_of words))))
    (by_rule_if (sets_fault k words) (meet_numbers k (grammar_of words)))
    (replicate max_nonterminals 0)
    (sets_if (sets_fault k words) (listed max_nonterminals (reach_number (grammar_of words))))

unfoldable pub families_of : Lookahead → List ℕ → Families
families_of k words =
    with_follows (first_families_of k words) (sets_if (sets_fault k words) (listed max_nonterminals (follow_number k (grammar_of words))))
