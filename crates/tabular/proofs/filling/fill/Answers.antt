-- The loop keeps the chart filled up to the turn of the length.
use Prim.Native.Nat.{ℕ}
use native.Mathlib.Omega.{arith}
use lib.ListN.{length-replicate}
use Rattle.event.specs.Events.{input_of}
use Rattle.event.proofs.Inputs.{input_length}
use Rattle.tabular_promises.proofs.PlaceSets.{standing_right}
use Rattle.tabular_promises.proofs.RuleRanks.{ranked}
use Rattle.tabular_promises.proofs.Turns.{filled_start, filled}
use Rattle.tabular.proofs.filling.fill.Goals as goal

pub loop-length-init : goal.loop-length-init
loop-length-init c = (length-replicate {A = ℕ} 1568 0, filled_start _ _ 1568)

pub fill_length-requires : goal.fill_length-requires
fill_length-requires c =
    let given = c.requires in
    record {
      given = record { rules = given.rules; ranked = ranked given c.by_rank-ranked.ensures; free = given.free; long = c.loop-length.invariant.0 };
      short = omega (arith, given.input.short, input_length c.args.events.now);
      within = omega arith;
    }

pub loop-length-preserved : goal.loop-length-preserved
loop-length-preserved c =
    let e = c.fill_length.ensures in
    let events = c.args.events.now in (
      e.long,
      e.filled (input_of events) (standing_right c.requires.input c.standing-stands.ensures) (omega (arith, input_length events))
          (omega (arith, input_length events)) c.loop-length.invariant.1,
    )

pub returns : goal.returns
returns c =
    let given = c.requires in
    filled (record { rules = given.rules; ranked = ranked given c.by_rank-ranked.ensures; free = given.free; long = c.loop-length.invariant.0 })
    (omega (arith, input_length c.args.events.now)) given.input.short c.loop-length.invariant.1
