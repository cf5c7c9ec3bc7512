-- Memory that holds the words of the spans, and what is written of a chart.
use Rattle.std.specs.Prelude.{◌≡◌, List, ◌++◌, ◌&&◌, ℕ, suc, leb, length, drop}
use Rattle.base.specs.Choice.{choose}
use Rattle.grammar.specs.Limits.{max_tabular_tokens, max_span_words}
use Rattle.tabular_promises.specs.inner.Chart.{span_word}
use Rattle.tabular_promises.specs.Spans.{spans_before, span_words}

abbrev pub span_count : ℕ → ℕ
span_count n = spans_before n (suc n)

-- memory that holds them, and unchanged words behind them
abbrev pub Spans : ℕ → (ℕ → ℕ → ℕ) → List ℕ → List ℕ → Type 0
Spans n f before after = after ≡ span_words n f ++ drop (span_count n) before

-- the words of a chart's spans; for an input that is too long, or in memory that is too short, what was there
unfoldable pub written_spans : List ℕ → ℕ → ℕ → List ℕ → List ℕ
written_spans chart N tokens before =
    choose (leb tokens max_tabular_tokens && leb max_span_words (length before))
    (span_words tokens (span_word chart N) ++ drop (span_count tokens) before) before
