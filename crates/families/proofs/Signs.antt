-- The words of a rule's positives, and those of its negatives.
use mathlib.Core.Path.{◌≡◌, sym, ap, ◌∙◌}
use mathlib.Core.List.{List, []}
use Prim.Native.Nat.{ℕ, ◌+◌, ◌-◌, ◌≤◌, ◌<◌}
use native.Mathlib.Decide.{dec_lt}
use native.Mathlib.Omega.{arith}
use lib.ListN.{length, get_or, take, drop, length-drop}
use lib.Seq.{length-take-le, get_or-take, get_or-drop}
use Rattle.word.specs.Words.{decoded}
use Rattle.grammar.specs.Encoding.{on_word, parse}
use Rattle.grammar.proofs.EachIndex.{read_place}
use Rattle.families.specs.inner.Rules.{RuleWords, BodyWords, NegativesFrom}
use Rattle.families.proofs.Words.{parse_here}
use Rattle.families.proofs.Inner.{bodies_between}

-- of a part of the words
negatives_among : (words : List ℕ) (from end : ℕ) {r : ℕ} → from ≤ end → end ≤ length words
    → NegativesFrom (take (end - from) (drop from words)) 0 (length (take (end - from) (drop from words))) r → NegativesFrom words from end (from + r)
negatives_among words from end {r} h k f = record {
  low = omega arith;
  high = omega (arith, f.high, long);
  here = λ l. sym (same r (omega arith)) ∙ f.here (omega (arith, long));
  before = λ i l m e.
      let there : from + (i - from) ≡ i = omega arith in
      f.before (i - from) (omega arith) (omega arith) (same (i - from) (omega (arith, f.high, long)) ∙ rw there e);
}
  where
    long : length (take (end - from) (drop from words)) ≡ end - from
    long = length-take-le (end - from) (drop from words) (omega (arith, length-drop from words))

    same : (i : ℕ) → i < end - from → decoded (get_or (take (end - from) (drop from words)) i 0) ≡ decoded (get_or words (from + i) 0)
    same i m = ap decoded (get_or-take (end - from) (drop from words) i 0 m ∙ get_or-drop from words i 0)

-- of a rule's words
pub negatives_inside : {words : List ℕ} {start end : ℕ} → RuleWords words start end → {r : ℕ}
    → NegativesFrom (take (end - (start + 1)) (drop (start + 1) words)) 0 (length (take (end - (start + 1)) (drop (start + 1) words))) r
    → NegativesFrom words (start + 1) end (start + 1 + r)
negatives_inside {words} {start} {end} k f = negatives_among words (start + 1) end (omega (arith, k.some)) k.within f

-- a rule by its parts
module _ {words : List ℕ} {start end : ℕ} (given : RuleWords words start end) {n : ℕ} (f : NegativesFrom words (start + 1) end n) where
  no_body_there : (parse (drop n words)).body ≡ []
  unfolding on_word
  no_body_there = go (dec_lt n end)
    where
      go : Dec (n < end) → (parse (drop n words)).body ≡ []
      go (yes h) = rw (parse_here words n (omega (arith, given.within)), f.here h)
      go (no h) = let e : n ≡ end = omega (arith, f.high) in rw e given.ended.body

  pub no_positives_there : (parse (drop n words)).positives ≡ []
  unfolding on_word
  no_positives_there = go (dec_lt n end)
    where
      go : Dec (n < end) → (parse (drop n words)).positives ≡ []
      go (yes h) =
          let low : n < length words = omega (arith, given.within) in
          rw (parse_here words n low, f.here h) (rw (f.here h) at (read_place words given.sizes given.read n low).behind)
      go (no h) = let e : n ≡ end = omega (arith, f.high) in rw e given.ended.positives

  pub negative_words : BodyWords words n end
  negative_words = bodies_between given (omega (arith, f.low)) f.high (omega arith) given.ended.body

  pub positive_words : BodyWords words (start + 1) n
  positive_words = bodies_between given (omega arith) f.low f.high no_body_there
