-- The loop keeps the words of the spans gone through, over what was there.
use Rattle.std.specs.Prelude.{◌≡◌, ◌+◌, length}
use Rattle.base.specs.Lists.{listed}
use Rattle.base.proofs.Front.{front}
use Rattle.tabular_promises.specs.inner.Chart.{span_word}
use Rattle.span_words.proofs.write_row.Given as goal

abbrev pub invariant-loop-length : goal.invariant-loop-length
invariant-loop-length l =
    l.row ≡ front (listed (length l.initial.row) (λ d. span_word l.chart l.nonterminals l.start (l.start + d))) l.length l.initial.row
