-- The loop keeps the words of the spans from the starts gone through, over what was there.
use mathlib.Core.Path.{refl, sym}
use Prim.Native.Nat.{◌+◌, ◌-◌}
use native.Mathlib.Omega.{arith}
use Rattle.tabular_promises.specs.inner.Chart.{span_word}
use Rattle.tabular_promises.proofs.Writing.{before_zero, not_of_long, not_in_short, all_written}
use Rattle.span_words.proofs.Rows.{row_within, row_written, all_rows, part_long}
use Rattle.span_words.proofs.write.Goals as goal

pub returns-then-tokens-gt-TABULAR_TOKENS : goal.returns-then-tokens-gt-TABULAR_TOKENS
returns-then-tokens-gt-TABULAR_TOKENS c = not_of_long _ _ _ _ c.if-tokens-gt-TABULAR_TOKENS.true

pub returns-then-spans-lt-SPAN_WORDS : goal.returns-then-spans-lt-SPAN_WORDS
returns-then-spans-lt-SPAN_WORDS c = not_in_short _ _ _ _ c.if-tokens-gt-TABULAR_TOKENS.false c.if-spans-lt-SPAN_WORDS.true

pub loop-start-init : goal.loop-start-init
loop-start-init c = (sym (before_zero c.args.tokens), refl)

pub overflow_add-next-in-loop-start : goal.overflow_add-next-in-loop-start
overflow_add-next-in-loop-start c =
    let a = c.args in
    omega (
      arith,
      row_within a.tokens (span_word a.chart.now a.nonterminals) (omega arith) c.loop-start.spans c.loop-start.invariant.0 (omega arith) (omega arith),
    )

pub slice_bounds-write_row-end : goal.slice_bounds-write_row-end
slice_bounds-write_row-end c =
    let a = c.args in
    omega (
      arith,
      row_within a.tokens (span_word a.chart.now a.nonterminals) (omega arith) c.loop-start.spans c.loop-start.invariant.0 (omega arith) (omega arith),
    )

pub offset_bounds-spans-at : goal.offset_bounds-spans-at
offset_bounds-spans-at c =
    let a = c.args in
    omega (
      arith,
      row_within a.tokens (span_word a.chart.now a.nonterminals) (omega arith) c.loop-start.spans c.loop-start.invariant.0 (omega arith) (omega arith),
    )

pub loop-start-preserved : goal.loop-start-preserved
loop-start-preserved c =
    let a = c.args in
    let f = span_word a.chart.now a.nonterminals in
    let loop = c.loop-start in
    let room = row_within a.tokens f (omega arith) loop.spans loop.invariant.0 (omega arith) (omega arith) in
    row_written a.tokens f (omega arith) a.spans.now loop.spans loop.invariant.0 loop.invariant.1 c.write_row.ensures
    (part_long loop.at (a.tokens + 1 - loop.start) loop.spans room)

pub returns : goal.returns
returns c =
    let a = c.args in
    let loop = c.loop-start in
    all_written _ _ _ _ (omega arith) (omega arith)
    (all_rows a.tokens (span_word a.chart.now a.nonterminals) a.spans.now loop.spans (omega arith) loop.invariant.0 loop.invariant.1)
