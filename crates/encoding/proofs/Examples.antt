-- The words of document 01's cards are those of their grammars, by computation.
use mathlib.Core.Path.{◌≡◌, refl}
use Rattle.grammar.specs.examples.Cards.{grammar_r, words_r, grammar_m, words_m, grammar_e, words_e}
use Rattle.encoding.specs.Encode.{body_words, conjunct_words, rule_words, rules_words, encode}

pub record CardWords : Type 0 where
  pub r : encode grammar_r ≡ words_r
  pub m : encode grammar_m ≡ words_m
  pub e : encode grammar_e ≡ words_e

pub card_words : CardWords
unfolding encode rules_words rule_words conjunct_words body_words
card_words = record { r = refl; m = refl; e = refl }
