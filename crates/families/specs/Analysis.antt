-- The faults of an encoded grammar that are found before its table is made, in the papers' order, and what is found by them.
use Rattle.std.specs.Prelude.{Err, Ok, Result, List, [], ◌∷◌, ℕ}
use Rattle.grammar.specs.declared.reading.Sizes.{Sizes}
use Rattle.std.proofs.Math.Option.{Option, none, some}
use Rattle.answer.specs.declared.Error.{Error}
use Rattle.answer.specs.declared.Error.TheVariants.{LeftRecursive, Unproductive}
use Rattle.answer.specs.Faults.{first_fault}
use Rattle.grammar.specs.Encoding.{grammar_of}
use Rattle.lookahead.specs.declared.Lookahead.{Lookahead}
use Rattle.lookahead.specs.Lookaheads.{tokens}
use Rattle.admission.specs.Admission.{admission}
use Rattle.semantics.specs.LeftRecursion.{lowest_left_recursive}
use Rattle.semantics.specs.Productive.{lowest_unproductive}

-- 3 to 7 and 18
abbrev pub reading_fault : Result Sizes Error → Option Error
reading_fault (Ok z) = none
reading_fault (Err e) = some e

-- 8: the lowest nonterminal that left-reaches itself
abbrev pub left_fault : Option ℕ → Option Error
left_fault none = none
left_fault (some A) = some (LeftRecursive A)

-- 13: the lowest nonterminal whose first set is empty
abbrev pub unproductive_fault : Option ℕ → Option Error
unproductive_fault none = none
unproductive_fault (some A) = some (Unproductive A)

abbrev pub sets_faults : Lookahead → List ℕ → List (Option Error)
sets_faults k words =
    reading_fault (admission k words)
    ∷ left_fault (lowest_left_recursive (grammar_of words)) ∷ unproductive_fault (lowest_unproductive (grammar_of words) (tokens k)) ∷ []

unfoldable pub sets_fault : Lookahead → List ℕ → Option Error
sets_fault k words = first_fault (sets_faults k words)

abbrev pub finding_of : Option Error → Result Sizes Error → Result Sizes Error
finding_of (some e) o = Err e
finding_of none (Ok z) = Ok z
finding_of none (Err e) = Err e
