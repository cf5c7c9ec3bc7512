-- Writing a vertex writes what the visit does.
use mathlib.Core.Path.{sym, ap, ◌∙◌}
use mathlib.Core.List.{List}
use Prim.Native.Nat.{ℕ}
use native.Mathlib.Omega.{arith}
use Rattle.word.specs.declared.Word.TheVariants.{Symbol}
use Rattle.tree_writer_promises.specs.inner.Writer.{VertexGiven}
use Rattle.tree_writer_promises.proofs.Vertices.{Going, going_as, entry_low, index_small, begins, vertex_seen, begin_low, tree_room, going_start}
use Rattle.tree_writer_promises.proofs.Vertices.{going_over, going_ended, going_positive, going_terminal, terminal_low, called_found, called_falling}
use Rattle.tree_writer_promises.proofs.Vertices.{called_given, called_ends, going_nonterminal}
use Rattle.tree_writer.proofs.writing.+write_vertex.Goals as goal
use Rattle.tree_writer.proofs.writing.+write_vertex.Goals.{At-loop-at, in-Positive, in-Symbol+in-Terminal, in-Symbol+in-Nonterminal}

pub offset_bounds-labels-entry : goal.offset_bounds-labels-entry
offset_bounds-labels-entry t c = omega (arith, entry_low c.requires.1.1.1)

pub bounds-labels-entry : goal.bounds-labels-entry
bounds-labels-entry t c = entry_low c.requires.1.1.1

pub returns-then-is_marked : goal.returns-then-is_marked
returns-then-is_marked t c = λ input A start g. vertex_seen g (sym c.is_marked.ensures ∙ c.if-is_marked.true)

pub bounds-tree-written : goal.bounds-tree-written
bounds-tree-written t c = tree_room c.requires.1.1.1 (sym c.is_marked.ensures ∙ c.if-is_marked.false)

pub overflow_step-at : goal.overflow_step-at
overflow_step-at t c = omega (arith, begin_low c.requires.1.1.1 (sym c.is_marked.ensures ∙ c.if-is_marked.false) c.rule_of.ensures)

-- how far the visit has come where the loop goes on, for whichever call of an accepted input the entry is that of
came : {t : ℕ} (c : At-loop-at t) {input : List ℕ} {A start : ℕ}
    (g : VertexGiven input c.args.words.now c.args.starts.now c.args.labels.now c.args.tree.now A start c.args.entry c.args.written)
    → Going g c.loop-at.labels c.loop-at.tree c.loop-at.count c.loop-at.at c.loop-at.place
came c g =
    let unmarked = sym c.is_marked.ensures ∙ c.if-is_marked.false in
    let begun = c.start_of-start.ensures ∙ begins g in
    c.loop-at.invariant _ _ _ _ _ g begun (going_start g unmarked c.rule_of.ensures c.marked.ensures begun)

pub overflow_add-place : goal.overflow_add-place
overflow_add-place t c =
    let g = c.requires.1.1.1 in
    let e = sym c.decode.ensures ∙ c.in-Symbol.is ∙ ap Symbol c.in-Terminal.is in
    omega (arith, terminal_low g (came (goal.at.overflow_add-place t c).At-loop-at g) c.loop-at-test.true _ e, g.accepted.short)

pub overflow_add-below : goal.overflow_add-below
overflow_add-below t c =
    let g = c.requires.1.1.1 in
    let e = sym c.decode.ensures ∙ c.in-Symbol.is ∙ ap Symbol c.in-Nonterminal.is in
    omega (arith, index_small g (called_found g (came (goal.at.overflow_add-below t c).At-loop-at g) c.loop-at-test.true _ e))

pub write_vertex-count-requires : goal.write_vertex-count-requires
write_vertex-count-requires t c =
    let g = c.requires.1.1.1 in
    let u = came (goal.at.write_vertex-count-requires t c).At-loop-at g in
    let e = sym c.decode.ensures ∙ c.in-Symbol.is ∙ ap Symbol c.in-Nonterminal.is in (
      omega (arith, called_falling g u c.loop-at-test.true _ e, c.decreases),
      (c.requires.0, (_, (_, called_given g u c.loop-at-test.true _ e))),
    )

pub offset_bounds-labels-below : goal.offset_bounds-labels-below
offset_bounds-labels-below t c =
    let g = c.requires.1.1.1 in
    let e = sym c.decode.ensures ∙ c.in-Symbol.is ∙ ap Symbol c.in-Nonterminal.is in
    omega (arith, index_small g (called_found g (came (goal.at.offset_bounds-labels-below t c).At-loop-at g) c.loop-at-test.true _ e))

pub bounds-labels-below : goal.bounds-labels-below
bounds-labels-below t c =
    let g = c.requires.1.1.1 in
    let e = sym c.decode.ensures ∙ c.in-Symbol.is ∙ ap Symbol c.in-Nonterminal.is in
    index_small g (called_found g (came (goal.at.bounds-labels-below t c).At-loop-at g) c.loop-at-test.true _ e)

pub returns-in_default : goal.returns-in_default
returns-in_default t c = λ input A start g.
    going_ended g (came (goal.at.returns-in_default t c).At-loop-at g) c.loop-at-test.true _ c.decode.ensures c.in_default.not-Positive c.in_default.not-Symbol

pub loop-at-preserved : goal.loop-at-preserved
loop-at-preserved t c = λ input labels₀ tree₀ A start g b s.
    let u = c.loop-at.invariant input labels₀ tree₀ A start g b s in
    let h = c.loop-at-test.true in
    let e = sym c.decode.ensures in
    elim c.match-decode.branch [
      | in-Positive w ↦ going_as g w.labels-is w.tree-is w.count-is (w.place-is ∙ b) (going_positive g u h (e ∙ w.in-Positive.is))
      | in-Symbol+in-Terminal w ↦
          going_as g w.labels-is w.tree-is w.count-is w.place-is (going_terminal g u h _ (e ∙ w.in-Symbol.is ∙ ap Symbol w.in-Terminal.is))
      | in-Symbol+in-Nonterminal w ↦
          let e' = e ∙ w.in-Symbol.is ∙ ap Symbol w.in-Nonterminal.is in
          let v = going_nonterminal g u h _ e' (w.write_vertex-count.ensures input _ _ (called_given g u h _ e')) in
          going_as g w.labels-is w.tree-is w.count-is (w.place-is ∙ w.end_of-place.ensures ∙ called_ends g u h _ e' v) v
    ]

pub returns : goal.returns
returns t c = λ input A start g. going_over g (came (goal.at.returns t c).At-loop-at g) c.loop-at-test.false
