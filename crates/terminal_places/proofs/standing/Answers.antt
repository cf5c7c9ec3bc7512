-- The loop keeps where the tokens gone through stand.
use mathlib.Core.Path.{ap, ◌∙◌}
use native.Mathlib.Omega.{arith}
use Rattle.event.specs.Events.{input_of}
use Rattle.event.proofs.Inputs.{input_length}
use Rattle.tabular_promises.specs.inner.Places.{stands_to}
use Rattle.tabular_promises.proofs.PlaceSets.{stands_start, stands_more, stands_nowhere}
use Rattle.terminal_places.proofs.standing.Goals as goal
use Rattle.terminal_places.proofs.standing.Goals.{then-terminal-lt-STANDS, else-terminal-lt-STANDS}

pub loop-at-init : goal.loop-at-init
loop-at-init c = stands_start _

pub loop-at-preserved : goal.loop-at-preserved
loop-at-preserved c =
    let events = c.args.events.now in
    let at = c.loop-at.at in
    let before = c.loop-at.invariant in
    let token = c.from-terminal.ensures ∙ c.terminal_of.ensures in
    elim c.if-terminal-lt-STANDS.branch [
      | then-terminal-lt-STANDS w ↦ w.stands-is ∙ stands_more events at before token w.put.ensures
      | else-terminal-lt-STANDS w ↦ w.stands-is ∙ stands_nowhere events at before token w.if-terminal-lt-STANDS.false
    ]

pub returns : goal.returns
returns c = c.loop-at.invariant ∙ ap (stands_to (input_of c.args.events.now)) (omega (arith, input_length c.args.events.now))
