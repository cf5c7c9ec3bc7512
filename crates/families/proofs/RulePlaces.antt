-- Where the words of a rule of a grammar that has been read stand, each fact on numbers by itself.
use Rattle.std.specs.Prelude.{Ok}
use mathlib.Core.Path.{◌≡◌, refl}
use mathlib.Core.Bool.{Bool, true}
use mathlib.Core.List.{List}
use Prim.Native.Nat.{ℕ, ◌≤◌, ◌<◌}
use lib.ListN.{length, get_or}
use Rattle.grammar.specs.declared.reading.Sizes.{Sizes}
use Rattle.grammar.specs.Limits.{max_rules, max_words}
use Rattle.grammar.specs.Reading.{reading}
use Rattle.grammar.specs.inner.Starts.{rule_starts}
use Rattle.grammar.proofs.WellRead.{well_read}
use Rattle.families.specs.inner.Rules.{turn_of, rule_end}
use Rattle.families.proofs.HeadPasses.{pass_first, its_words}
use Rattle.families.proofs.RulePasses.{turn_below}

pub few_rules : (words : List ℕ) (z : Sizes) → reading words ≡ Ok z → z.rules ≤ max_rules
few_rules words z r = (well_read words z r).few_rules

pub few_words : (words : List ℕ) (z : Sizes) → reading words ≡ Ok z → length words ≤ max_words
few_words words z r = (well_read words z r).short

pub turn_low : (forward : Bool) (n i : ℕ) → i < n → turn_of forward n i < n
turn_low = turn_below

module _ (words starts : List ℕ) (z : Sizes) (rule : ℕ) (r : reading words ≡ Ok z) (b : starts ≡ rule_starts words) (h : rule < z.rules) where
  pub start_low : get_or starts rule 0 < rule_end words starts z.rules rule
  start_low = (its_words (pass_first r b) true h refl refl).some

  pub end_low : rule_end words starts z.rules rule ≤ length words
  end_low = (its_words (pass_first r b) true h refl refl).within

pub ruleset rule_places = (few_rules, few_words, turn_low, start_low, end_low)
