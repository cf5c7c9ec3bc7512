-- The first word, where there is one, declares them.
use Rattle.std.proofs.Common.{◌≡◌, ◌<◌, length, arith}
use mathlib.Core.Path.{ap, ◌∙◌}
use Rattle.std.proofs.lemmas.Grind.{common_steps}
use Rattle.grammar.specs.Encoding.{declared_by}
use Rattle.admission.proofs.Admitted.{no_terminals, terminals_declared}
use Rattle.admission.proofs.declared_terminals.Goals as goal

pub returns-then-is_empty : goal.returns-then-is_empty
returns-then-is_empty c =
    let e : length c.args.words.now ≡ 0 = grind (arith, common_steps) in
    no_terminals c.args.words.now e

pub returns : goal.returns
returns c =
    let n : 0 < length c.args.words.now = grind (arith, common_steps) in
    ap (λ z. z.terminals) (c.declared.ensures ∙ ap declared_by c.decode.ensures)
    ∙ terminals_declared c.args.words.now n
