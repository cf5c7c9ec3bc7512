-- The count and that of the blocks that are left are that of the table.
use mathlib.Core.Path.{◌≡◌, sym, ap, ◌∙◌}
use Prim.Native.Nat.{◌+◌}
use native.Mathlib.Omega.{arith}
use lib.ListN.{length}
use Rattle.std.proofs.Common.{rules, []}
use Rattle.std.proofs.lemmas.List.{nil_from_length}
use Rattle.std.specs.Slice.Iter.{chunks_rest}
use Rattle.memo_table.specs.inner.Tally.{recorded_below}
use Rattle.memo_table.proofs.Tallying.{count_none, count_append, count_bound}
use Rattle.memo_table.proofs.count_calls.Goals as goal

pub overflow_add-count : goal.overflow_add-count
overflow_add-count c =
    let rest = chunks_rest c.next.new.self in
    let all : recorded_below (chunks_rest c.loop-block.block-iterator) (length (chunks_rest c.loop-block.block-iterator))
    ≡ recorded_below c.in-Some.block.now (length c.in-Some.block.now) + recorded_below rest (length rest) =
    ap (λ l. recorded_below l (length l)) c.in-Some.ensures.steps.1.0 ∙ count_append c.in-Some.block.now rest in
    omega (arith, all, c.loop-block.invariant.3, c.count_block.ensures, count_bound c.args.memo.now (length c.args.memo.now))

pub loop-block-preserved : goal.loop-block-preserved
loop-block-preserved c =
    let rest = chunks_rest c.next.new.self in
    let steps = c.in-Some.ensures.steps in
    let all : recorded_below (chunks_rest c.loop-block.block-iterator) (length (chunks_rest c.loop-block.block-iterator))
    ≡ recorded_below c.in-Some.block.now (length c.in-Some.block.now) + recorded_below rest (length rest) =
    ap (λ l. recorded_below l (length l)) steps.1.0 ∙ count_append c.in-Some.block.now rest in
    (search rules, tt, steps.0 ∙ c.loop-block.invariant.2, omega (arith, all, c.loop-block.invariant.3, c.count_block.ensures))

pub returns : goal.returns
returns c =
    let none : chunks_rest c.loop-block.block-iterator ≡ [] = nil_from_length _ c.in-None.ensures.steps.1.0 in
    let z : recorded_below (chunks_rest c.loop-block.block-iterator) (length (chunks_rest c.loop-block.block-iterator)) ≡ 0 =
    rw none (sym (count_none [])) in
    omega (arith, z, c.loop-block.invariant.3)
