-- A grammar that is refused stays so; of one that passed, the input's length and then its tokens are looked at.
use Rattle.promises.proofs.Inputs.{with_long, with_unknown, with_known}
use Rattle.input_findings.proofs.with_input.Goals as goal

pub returns-then-most-events : goal.returns-then-most-events
returns-then-most-events c = with_long c.args.most c.args.events.now c.in_ok-sizes.was c.if-most-events.true

pub returns-in-Some : goal.returns-in-Some
returns-in-Some c = with_unknown c.args.most c.args.events.now c.in_ok-sizes.was c.if-most-events.false c.first_unknown.ensures c.in-Some.is

pub returns-in-None : goal.returns-in-None
returns-in-None c = with_known c.args.most c.args.events.now c.in_ok-sizes.was c.if-most-events.false c.first_unknown.ensures c.in-None.is
