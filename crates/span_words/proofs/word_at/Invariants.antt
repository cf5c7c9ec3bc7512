-- The loop keeps the word of the nonterminals gone through.
use mathlib.Core.Path.{◌≡◌}
use Rattle.tabular_promises.specs.inner.Chart.{found_word}
use Rattle.span_words.proofs.word_at.Given as goal

abbrev pub invariant-loop-at : goal.invariant-loop-at
invariant-loop-at l = l.word.bits ≡ found_word l.chart l.at l.start l.end
