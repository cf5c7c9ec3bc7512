-- The flaws that refuse a grammar, as tests of its nonterminals over the arrays of its sets, and what is found by them.
use Rattle.std.specs.Prelude.{None, Ok, Option, Result, Some, List, [], ◌∷◌, ℕ, min, get_or}
use Rattle.answer.specs.declared.Error.{Error}
use Rattle.std.proofs.Math.Option.{Option as Maybe, none, some}
use Rattle.answer.specs.Faults.{first_fault}
use Rattle.base.specs.Quantifiers.{lowest}
use Rattle.grammar.specs.Limits.{max_nonterminals}
use Rattle.grammar.specs.declared.reading.Sizes.{Sizes}
use Rattle.lookahead.specs.Elements.{has}
use Rattle.lookahead.specs.inner.Operations.{is_empty}
use Rattle.base.specs.Rounds.{NumberSet}
use Rattle.families.specs.declared.Flaw.{Flaw}
use Rattle.families.specs.declared.Flaw.TheVariants.{LeftRecursive, Unproductive}
use Rattle.families.specs.Analysis.{left_fault, unproductive_fault, finding_of}

-- a nonterminal is in its own set, or its first set is empty
abbrev pub flaw_in : Flaw → List ℕ → List ℕ → NumberSet
flaw_in LeftRecursive firsts reaches A = has (get_or reaches A 0) A
flaw_in Unproductive firsts reaches A = is_empty (get_or firsts A 0)

abbrev pub lowest_of : Maybe ℕ → Option ℕ
lowest_of none = None
lowest_of (some A) = Some A

-- what is found by the lowest nonterminals with each flaw: left recursion comes first; as many are looked at as there may be
abbrev pub finding_in : Sizes → List ℕ → List ℕ → Result Sizes Error
finding_in z firsts reaches =
    let n = min z.nonterminals max_nonterminals in
    let recursive = lowest n (flaw_in LeftRecursive firsts reaches) in
    let unproductive = lowest n (flaw_in Unproductive firsts reaches) in
    finding_of (first_fault (left_fault recursive ∷ unproductive_fault unproductive ∷ [])) (Ok z)
