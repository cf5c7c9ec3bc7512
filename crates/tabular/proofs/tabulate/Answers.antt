-- The chart is filled and written out.
use mathlib.Core.Path.{sym}
use Rattle.event.proofs.Inputs.{input_length}
use Rattle.tabular_promises.proofs.Tabulating.{tabulated}
use Rattle.tabular.proofs.tabulate.Goals as goal

pub returns : goal.returns
returns c =
    let given = c.requires.given in
    let length = input_length c.args.events.now in
    tabulated given.rules.read c.fill-chart.ensures given.input.short c.requires.room (sym length)
    c.write.ensures c.verdict.ensures
