-- The loop keeps: the words of the calls before the nonterminal and the place that it stands at are made.
use mathlib.Core.Path.{◌≡◌}
use Prim.Native.Nat.{◌+◌, ◌*◌}
use native.Mathlib.Nat.{add-zero}
use native.Mathlib.Omega.{arith}
use Rattle.grammar.specs.Limits.{max_places}
use Rattle.tree_writer_promises.proofs.Labelling.{labels_more, labels_place, labels_row}
use Rattle.vertex_labels.proofs.label_row.Goals as goal

pub loop-place-preserved : goal.loop-place-preserved
loop-place-preserved c =
    labels_place c.args.events.now c.args.nonterminal c.loop-place.place
    (labels_more c.args.events.now c.args.nonterminal c.loop-place.place c.requires.row (omega arith) c.loop-place.invariant c.label.ensures)

pub returns : goal.returns
returns c =
    let row = c.args.nonterminal in
    let last = c.min-places.result in
    let e : row * max_places + c.loop-place.place ≡ row * max_places + last + 1 = omega arith in
    rw add-zero at (labels_row c.args.events.now row last (omega arith) (omega arith) (rw e at c.loop-place.invariant))
