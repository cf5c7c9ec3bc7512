-- The worked rows come out by computation.
use mathlib.Core.Path.{◌≡◌, refl}
use mathlib.Core.List.{[], ◌∷◌, map}
use Rattle.word.specs.Words.{bare, heading, of_kind, decoded}
use Rattle.grammar.specs.Encoding.{on_word, parse, grammar_of}
use Rattle.grammar.specs.Reading.{counted, stepped, on_step, finished, scan, is_within, headed, opened, reading}
use Rattle.grammar.specs.inner.Starts.{starts}
use Rattle.grammar.specs.examples.Cards.{grammar_r, words_r, grammar_m, words_m, grammar_e, words_e}
use Rattle.grammar.specs.examples.Rows.{empty_rules, examples}

-- each row has the outcome that stands beside it
pub examples_read : map (λ e. reading e.words) examples ≡ map (λ e. e.outcome) examples
unfolding examples empty_rules reading opened headed is_within scan finished on_step stepped counted decoded of_kind heading bare
examples_read = refl

-- the words of each card encode its grammar
pub record CardsEncoded : Type 0 where
  pub r : grammar_of words_r ≡ grammar_r
  pub m : grammar_of words_m ≡ grammar_m
  pub e : grammar_of words_e ≡ grammar_e

pub cards_encoded : CardsEncoded
unfolding grammar_of parse on_word decoded of_kind heading bare
cards_encoded = record { r = refl; m = refl; e = refl }

-- the two rules of card R begin at 1 and 5
pub starts_r : starts 0 words_r ≡ 1 ∷ 5 ∷ []
unfolding starts decoded of_kind heading bare
starts_r = refl
