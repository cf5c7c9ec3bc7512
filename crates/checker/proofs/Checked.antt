-- What checking answers and leaves in a table that is long enough, by what is found of the grammar.
use Rattle.std.specs.Prelude.{Err, Ok, Result}
use Rattle.answer.specs.declared.Error.{Error}
use Rattle.grammar.specs.declared.reading.Sizes.{Sizes}
use mathlib.Core.Path.{◌≡◌, refl, ap, ◌∙◌}
use mathlib.Core.List.{List}
use Prim.Native.Nat.{ℕ, ◌≤◌}
use lib.ListN.{length}
use Rattle.answer.specs.declared.Answer.{Answer}
use Rattle.lookahead.specs.declared.Lookahead.{Lookahead}
use Rattle.table.specs.declared.Found.{Found}
use Rattle.table_promises.specs.Layout.{table_room}
use Rattle.table.specs.inner.Analysis.{found_of}
use Rattle.table.proofs.Analyzing.{entries_told}
use Rattle.check_answers.specs.inner.Answers.{answer_of}
use Rattle.lending.specs.inner.Lending.{lent_of}
use Rattle.lending.proofs.WordsLaid.{lent_table, lent_nothing}
use Rattle.recognizer_promises.specs.Properties.{Checks}
use Rattle.recognizer_promises.proofs.Checking.{told, found_fault, check_passed, check_refused}

pub checks_found : (k : Lookahead) (words before : List ℕ) → table_room k ≤ length before → {r : Found} → r ≡ found_of k words → {after : List ℕ}
    → after ≡ lent_of k r before → {a : Answer} → a ≡ answer_of r.finding → Checks k words before a after
checks_found k words before long {r} e {after} l {a} s = go r.finding refl
  where
    go : (f : Result Sizes Error) → r.finding ≡ f → Checks k words before a after
    go (Ok z) p =
        let m = entries_told k words e p in
        rw (s ∙ ap answer_of p) (check_passed words before long m.faultless (l ∙ lent_table m before long p))
    go (Err x) p =
        rw (s ∙ ap answer_of p, l ∙ lent_nothing k r before p) (check_refused words before long (found_fault (told k words e) p))
