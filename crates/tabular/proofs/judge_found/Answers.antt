-- What is refused stays so; for any other grammar and input every span is tabulated.
use Rattle.tabular_promises.proofs.Judged.{judge_found_refused, tabulate_given, judge_done}
use Rattle.tabular.proofs.judge_found.Goals as goal

pub tabulate-requires : goal.tabulate-requires
tabulate-requires c =
    tabulate_given c.requires c.in-Ok.is

pub returns-in-Err : goal.returns-in-Err
returns-in-Err c =
    judge_found_refused c.requires c.in-Err.is

pub returns-in-Ok : goal.returns-in-Ok
returns-in-Ok c =
    judge_done c.requires c.in-Ok.is c.tabulate.ensures
