-- The starred rows of document 01's table of judged logs: what judging by the words of a card tells in its numbers, where the memories are just long enough.
use Rattle.std.specs.Prelude.{List, [], ◌∷◌, ℕ}
use Rattle.lookahead.specs.declared.Lookahead.TheVariants.{One}
use Rattle.answer.specs.Numbers.{Verdict, accepted, rejected, Numbers, answered, numbers}
use Rattle.grammar.specs.examples.Cards.{words_r, words_m, words_e}
use Rattle.grammar.specs.Limits.{max_table_words, max_memo_entries}
use Rattle.grammar.specs.Encoding.{grammar_of}
use Rattle.answer.specs.Faults.{refused_or}
use Rattle.recognizer_promises.specs.Answers.{judge_fault, verdict_of}

pub record Row : Type 0 where
  pub words : List ℕ
  pub input : List ℕ
  pub told : Numbers

-- a verdict with its count and its farthest place; code and position are 0
abbrev row : List ℕ → List ℕ → Verdict → ℕ → ℕ → Row
row words w verdict count farthest = record { words = words; input = w; told = answered verdict 0 0 count farthest }

abbrev pub starred : List Row
starred =
    row words_r [] accepted 1 0
    ∷ row words_r (0 ∷ []) accepted 2 1
    ∷ row words_m [] rejected 5 0
    ∷ row words_m (0 ∷ []) accepted 6 1
    ∷ row words_m (1 ∷ 2 ∷ []) accepted 6 1
    ∷ row words_m (0 ∷ 1 ∷ []) rejected 5 2
    ∷ row words_m (0 ∷ 1 ∷ 2 ∷ []) rejected 9 3
    ∷ row words_m (2 ∷ []) rejected 1 0
    ∷ row words_e (0 ∷ 1 ∷ []) accepted 3 0
    ∷ row words_e (1 ∷ 0 ∷ []) rejected 4 1 ∷ []

-- what the promise of judging tells: the first refusal that holds, or else the verdict of the descent
unfoldable pub judged : List ℕ → List ℕ → Numbers
judged words w = numbers (refused_or (judge_fault One max_table_words max_memo_entries words w) (verdict_of One (grammar_of words) w))
