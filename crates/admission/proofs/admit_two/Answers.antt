-- The length and the heading first, then the terminals, then the words.
use mathlib.Core.Path.{ap, sym, ◌∙◌}
use native.Mathlib.Omega.{arith}
use Rattle.admission.specs.Admission.{word_fault, faulty_or}
use Rattle.admission.proofs.Admitted.{heading_first, words_then}
use Rattle.admission.proofs.admit_two.Goals as goal

pub returns-then-of_heading : goal.returns-then-of_heading
returns-then-of_heading c =
    heading_first c.args.outcome c.args.words.now (sym c.of_heading.ensures ∙ c.if-of_heading.true)

pub returns : goal.returns
returns c =
    c.with_alone.ensures
    ∙ ap (λ a. faulty_or (word_fault c.args.outcome a) c.args.outcome) c.first_alone.ensures
    ∙ words_then c.args.outcome c.args.words.now (sym c.of_heading.ensures ∙ c.if-of_heading.false)
    (omega (arith, c.declared_terminals.ensures))
