-- The loop keeps the words of the spans gone through, over what was there.
use mathlib.Core.Path.{◌≡◌, sym, ◌∙◌}
use Prim.Native.Nat.{ℕ, ◌+◌}
use native.Mathlib.Omega.{arith}
use lib.ListN.{length}
use Rattle.base.specs.Lists.{listed}
use Rattle.base.proofs.Lists.{listed_long, listed_at}
use Rattle.base.proofs.Front.{front_more}
use Rattle.tabular_promises.specs.inner.Chart.{span_word}
use Rattle.span_words.proofs.Rows.{front_all}
use Rattle.span_words.proofs.write_row.Goals as goal

pub loop-length-preserved : goal.loop-length-preserved
loop-length-preserved c =
    let a = c.args in
    let n = length a.row.now in
    let at = c.loop-length.length in
    let f = λ (d : ℕ). span_word a.chart.now a.nonterminals a.start (a.start + d) in
    rw (c.word_at.ensures, ← listed_at n f at (omega arith))
    (front_more (listed n f) a.row.now c.loop-length.row at c.loop-length.invariant (omega (arith, listed_long n f)) (omega arith))

pub returns : goal.returns
returns c =
    let a = c.args in
    let n = length a.row.now in
    let f = λ (d : ℕ). span_word a.chart.now a.nonterminals a.start (a.start + d) in
    let e : c.loop-length.length ≡ n = omega arith in
    rw e at c.loop-length.invariant ∙ front_all (listed n f) a.row.now (sym (listed_long n f))
