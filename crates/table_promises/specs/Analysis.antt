-- The faults of an encoded grammar in the papers' order: the errors 3 to 8, 13, 18 and 9.
use Rattle.std.specs.Prelude.{None, Option, Some, List, [], ◌∷◌, ◌++◌, ℕ}
use Rattle.std.proofs.Math.Option.{Option as Maybe, none, some}
use Rattle.answer.specs.declared.Error.{Error}
use Rattle.answer.specs.declared.Error.TheVariants as error
use Rattle.answer.specs.Faults.{first_fault}
use Rattle.grammar.specs.Encoding.{grammar_of}
use Rattle.lookahead.specs.declared.Lookahead.{Lookahead}
use Rattle.lookahead.specs.declared.Lookahead.TheVariants.{One, Two}
use Rattle.families.specs.Analysis.{sets_faults}
use Rattle.table_promises.specs.Conflicts.{first_clash}

-- 9: the first clash, by nonterminal, then column
abbrev pub conflict_error : Lookahead → ℕ → ℕ → Error
conflict_error One A c = error.Conflict A c
conflict_error Two A c = error.ConflictOfTwo A c

abbrev pub clash_fault : Lookahead → Option (ℕ × ℕ) → Maybe Error
clash_fault k None = none
clash_fault k (Some (A, c)) = some (conflict_error k A c)

-- the faults of an encoded grammar, in the papers' order: 3 to 8, 13 and 18 come first
abbrev pub grammar_faults : Lookahead → List ℕ → List (Maybe Error)
grammar_faults k words = sets_faults k words ++ clash_fault k (first_clash k (grammar_of words)) ∷ []

unfoldable pub fault : Lookahead → List ℕ → Maybe Error
fault k words = first_fault (grammar_faults k words)
