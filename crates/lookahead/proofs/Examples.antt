-- Worked values: small sets joined, met, concatenated and counted. With one token a = 1, b = 2 and nothing = 16777216; with two tokens nothing = 1, a = 2,
-- b = 4, aa = 256 and ab = 512.
use mathlib.Core.Path.{◌≡◌, refl}
use native.Mathlib.Omega.{arith}
use Rattle.base.specs.Quantifiers.{all_of, any_below, count_below}
use Rattle.lookahead.specs.declared.Lookahead.TheVariants.{One, Two}
use Rattle.lookahead.specs.Lookaheads.{string_of}
use Rattle.lookahead.specs.inner.Lookaheads.{element_after}
use Rattle.lookahead.specs.Elements.{has, total_weight, width, size}
use Rattle.lookahead.specs.inner.Operations.{join, meet, full, element_behind, in_concat, concat_numbers}
use Rattle.lookahead.proofs.Operations.{has_join, has_meet}
use Rattle.lookahead.proofs.Bounds.{join_bound, meet_bound}
use Rattle.lookahead.proofs.Weights.{total_of}

pub record Worked : Type 0 where
  -- {a} and {nothing}: {a, nothing}
  pub joined : join 1 16777216 ≡ 16777217
  -- {a, b, nothing} and {b, nothing}: {b, nothing}
  pub met : meet 16777219 16777218 ≡ 16777218
  -- {a, nothing} and {b}: {a, b}
  pub through : concat_numbers One 16777217 2 ≡ 3
  -- {a} and {b}: {a}
  pub stopped : concat_numbers One 1 2 ≡ 1
  -- {a, nothing} and {}: {}
  pub none : concat_numbers One 16777217 0 ≡ 0
  -- {a, nothing} has two elements
  pub counted : size 16777217 ≡ 2
  -- {a, nothing} and {b, nothing}: {a, ab, b, nothing}
  pub both : concat_numbers Two 3 5 ≡ 519
  -- {a} and {ba}: {ab}
  pub cut : concat_numbers Two 2 32768 ≡ 512
  -- {ab} and {b}: {ab}
  pub kept : concat_numbers Two 512 4 ≡ 512
  -- {ab} and {}: {}
  pub lost : concat_numbers Two 512 0 ≡ 0
  -- over a alone: {nothing, a, aa}
  pub all : full Two 1 ≡ 259

pub worked : Worked
unfolding total_weight count_below size has concat_numbers in_concat element_behind any_below element_after string_of full all_of
worked = record {
  joined = total_of width (join 1 16777216) _ (join_bound width 1 16777216 (omega arith) (omega arith)) (has_join 1 16777216);
  met = total_of width (meet 16777219 16777218) _ (meet_bound width 16777219 16777218 (omega arith)) (has_meet 16777219 16777218);
  through = refl;
  stopped = refl;
  none = refl;
  counted = refl;
  both = refl;
  cut = refl;
  kept = refl;
  lost = refl;
  all = refl;
}
