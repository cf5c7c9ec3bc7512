-- The theorems of specs/Theorems, each by citing the file that proves it.
use mathlib.Core.Path.{◌≡◌}
use mathlib.Core.List.{List, ◌∷◌}
use mathlib.Core.Option.{none}
use Prim.Native.Nat.{ℕ}
use lib.Dec.{ltb}
use Rattle.answer.specs.Faults.{fault_if}
use Rattle.answer.proofs.Faults.{each_none, first_none}
use Rattle.lookahead.specs.declared.Lookahead.TheVariants.{One}
use Rattle.table_promises.specs.Analysis.{grammar_faults, fault}
use Rattle.table_promises.specs.Layout.{table_room}
use Rattle.recognizer_promises.specs.Answers.{table_too_short, check_fault}
use Rattle.recognizer_promises.proofs.Checking.{passed_fault}
use Rattle.recognizer_promises.proofs.JudgeFaults.{judged_readable}
use Rattle.agreement.specs.Theorems.{Theorems}
use Rattle.agreement.proofs.Narrowing.{narrows}
use Rattle.agreement.proofs.Enough.{enough}
use Rattle.agreement.proofs.Refusals.{never_conflicts}
use Rattle.agreement.proofs.Agreeing.{same_verdict, same_as_tabular}

-- a check that passes finds no fault in the grammar
checked_fault : (words : List ℕ) (table : ℕ) → check_fault One table words ≡ none → fault One words ≡ none
unfolding check_fault fault
checked_fault words table e =
    first_none (grammar_faults One words) (each_none (fault_if (ltb table (table_room One)) (table_too_short One) ∷ grammar_faults One words) e).1

pub theorems : Theorems
theorems = record {
  narrows = λ G scoped terminals start j k shorter. narrows j k shorter G scoped terminals start;
  enough = enough;
  passed = λ words table e. never_conflicts words (passed_fault One words (checked_fault words table e));
  judged = λ words table memo input e. never_conflicts words (passed_fault One words (judged_readable One words input table memo e).0);
  lookaheads = same_verdict;
  tabular = same_as_tabular;
}
