-- The loop keeps the words of the spans from the starts gone through, over what was there.
use Rattle.std.specs.Prelude.{◌≡◌}
use Rattle.base.proofs.Front.{front}
use Rattle.tabular_promises.specs.Spans.{spans_before, span_words}
use Rattle.tabular_promises.specs.inner.Chart.{span_word}
use Rattle.span_words.proofs.write.Given as goal

abbrev pub invariant-loop-start : goal.invariant-loop-start
invariant-loop-start l =
    (l.at ≡ spans_before l.tokens l.start) × (l.spans ≡ front (span_words l.tokens (span_word l.chart l.nonterminals)) l.at l.initial.spans)
