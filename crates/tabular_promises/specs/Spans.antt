-- The words of the spans in lent memory: by start, then by end.
use Rattle.std.specs.Prelude.{List, [], ◌++◌, ℕ, zero, suc, ◌+◌, ◌-◌}
use Rattle.grammar.specs.Syntax.{Grammar}
use Rattle.lookahead.specs.Elements.{total_weight}
use Rattle.semantics.specs.Valuations.{solution}
use Rattle.base.specs.Lists.{listed}

-- the nonterminals that the one solution gives a span to, A weighing 2^A
unfoldable pub solution_word : Grammar → List ℕ → ℕ → ℕ → ℕ
solution_word G w i j = total_weight G.nonterminals (λ A. solution G w A i j)

-- how many spans of an input of n tokens start before a place
unfoldable pub spans_before : ℕ → ℕ → ℕ
spans_before n zero = 0
spans_before n (suc i) = spans_before n i + (suc n - i)

-- where a span's word stands
abbrev pub span_index : ℕ → ℕ → ℕ → ℕ
span_index n start end = spans_before n start + (end - start)

-- the rows of the last c starts, the first of which is i
unfoldable pub rows : (ℕ → ℕ → ℕ) → ℕ → ℕ → List ℕ
rows f zero i = []
rows f (suc c) i = listed (suc c) (λ d. f i (i + d)) ++ rows f c (suc i)

-- all spans' words
unfoldable pub span_words : ℕ → (ℕ → ℕ → ℕ) → List ℕ
span_words n f = rows f (suc n) 0
