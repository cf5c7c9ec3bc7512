-- The loop keeps: the words of the nonterminals before the one that it stands at are made.
use mathlib.Core.Path.{◌≡◌}
use Prim.Native.Nat.{◌+◌, ◌*◌}
use native.Mathlib.Omega.{arith}
use Rattle.grammar.specs.Limits.{max_places}
use Rattle.tree_writer_promises.proofs.Labelling.{labels_start, labels_none, labels_all}
use Rattle.vertex_labels.proofs.labels_by.Goals as goal

pub returns-then-events-gt-TOKENS : goal.returns-then-events-gt-TOKENS
returns-then-events-gt-TOKENS c = labels_none c.args.sizes c.args.events.now c.args.table.now c.args.memo.now c.if-events-gt-TOKENS.true

pub loop-nonterminal-init : goal.loop-nonterminal-init
loop-nonterminal-init c = labels_start c.args.events.now

pub returns : goal.returns
returns c =
    let rows = c.loop-nonterminal.nonterminal in
    let e : rows * max_places + 0 ≡ rows * max_places = omega arith in
    labels_all c.args.events.now rows 0 (omega arith) (rw e c.loop-nonterminal.invariant)
