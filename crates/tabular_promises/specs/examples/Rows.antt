-- Judged inputs with the words of their spans: what the promise tells of them, where the lent words are just enough.
use Rattle.std.specs.Prelude.{List, [], ◌∷◌, ℕ}
use Rattle.answer.specs.Numbers.{Verdict, accepted, rejected, Numbers, answered, numbers}
use Rattle.answer.specs.Faults.{refused_or}
use Rattle.grammar.specs.examples.Cards.{words_r, words_e}
use Rattle.grammar.specs.Encoding.{grammar_of}
use Rattle.grammar.specs.Limits.{max_span_words}
use Rattle.promises.specs.Memory.{lent_back}
use Rattle.tabular_promises.specs.Answers.{tabular_fault, tabular_verdict, tabular_words}

-- S → a | a, which claims an entry twice
abbrev pub words_twice : List ℕ
words_twice = 0x10000101 ∷ 0x20000000 ∷ 0x30000000 ∷ 0x50000000 ∷ 0x20000000 ∷ 0x30000000 ∷ 0x50000000 ∷ 0x70000000 ∷ []

-- S → a S a, S → ¬ a: a letter follows the name of a rule without positives
abbrev pub words_overrun : List ℕ
words_overrun =
    0x10000101 ∷ 0x20000000 ∷ 0x30000000 ∷ 0x50000000 ∷ 0x60000000 ∷ 0x50000000 ∷ 0x20000000 ∷ 0x40000000 ∷ 0x50000000 ∷ 0x70000000 ∷ []

pub record Row : Type 0 where
  pub words : List ℕ
  pub input : List ℕ
  pub told : Numbers
  pub spans : List ℕ

abbrev row : List ℕ → List ℕ → Verdict → List ℕ → Row
row words w verdict spans = record { words = words; input = w; told = answered verdict 0 0 0 0; spans = spans }

abbrev pub worked : List Row
worked =
    row words_r [] accepted (1 ∷ [])
    ∷ row words_r (0 ∷ []) accepted (1 ∷ 1 ∷ 1 ∷ [])
    ∷ row words_twice (0 ∷ []) accepted (0 ∷ 1 ∷ 0 ∷ [])
    ∷ row words_overrun (0 ∷ 0 ∷ []) accepted (1 ∷ 0 ∷ 1 ∷ 1 ∷ 0 ∷ 1 ∷ [])
    ∷ row words_e (1 ∷ 0 ∷ []) rejected (8 ∷ 4 ∷ 0 ∷ 8 ∷ 6 ∷ 8 ∷ []) ∷ []

-- what is answered, and the words in front of those that stay
unfoldable pub judged : List ℕ → List ℕ → Numbers
judged words w = numbers (refused_or (tabular_fault max_span_words words w) (tabular_verdict (grammar_of words) w))

unfoldable pub lent : List ℕ → List ℕ → List ℕ
lent words w = lent_back (tabular_fault max_span_words words w) (tabular_words (grammar_of words) w) []
