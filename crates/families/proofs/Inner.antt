-- A word inside a rule, before an index: what stands there, and what follows it.
use mathlib.Core.Path.{◌≡◌, refl, sym, ap, ◌∙◌}
use mathlib.Core.List.{List, []}
use Prim.Native.Nat.{ℕ, zero, suc, ◌+◌, ◌-◌, ◌≤◌, ◌<◌}
use native.Mathlib.Omega.{arith}
use lib.ListN.{length, get_or, take, drop}
use lib.Seq.{drop-cons}
use Rattle.word.specs.declared.Word.{Word}
use Rattle.word.specs.Words.{decoded}
use Rattle.grammar.specs.Encoding.{Parsed, on_word, parse}
use Rattle.grammar.proofs.EachIndex.{Behind, read_place}
use Rattle.families.specs.inner.Naming.{Indexed}
use Rattle.families.specs.inner.Rules.{fold_from_end, Inside, RuleWords, BodyWords}
use Rattle.families.proofs.NamedNonterminals.{before_indexed}
use Rattle.families.proofs.Words.{parse_before}

pub record Inner (words : List ℕ) (w : Word) (i : ℕ) : Type 0 where
  pub here : parse (drop (i - 1) words) ≡ on_word w (parse (drop i words))
  pub inside : Inside w
  pub indexed : Indexed w
  pub behind : Behind w (parse (drop i words))

-- a rule's words between two of its bodies, or a body and its end
pub bodies_between : {words : List ℕ} {start end : ℕ} → RuleWords words start end → {from to : ℕ} → start < from → from ≤ to → to ≤ end
    → (parse (drop to words)).body ≡ [] → BodyWords words from to
bodies_between k l m h e = record {
  sizes = k.sizes;
  read = k.read;
  some = m;
  within = omega (arith, k.within);
  whole = e;
  inside = λ i a b. k.inside i (omega arith) (omega arith);
}

pub word_inside : {words : List ℕ} {from to : ℕ} → BodyWords words from to → (i : ℕ) → from < i → i ≤ to
    → {w : Word} → w ≡ decoded (get_or words (i - 1) 0) → Inner words w i
word_inside {words} k i h u {w} e =
    let b : i - 1 < length words = omega (arith, k.within) in
    let n : suc (i - 1) ≡ i = omega arith in
    record {
      here = parse_before words i (omega arith) (omega (arith, k.within)) ∙ ap (λ x. on_word x (parse (drop i words))) (sym e);
      inside = rw e (k.inside (i - 1) (omega arith) (omega arith));
      indexed = before_indexed words k.read (omega arith) (omega (arith, k.within)) e;
      behind = rw (← e, n) at (read_place words k.sizes k.read (i - 1) b).behind;
    }

-- what is made of words of a rule from their end, step by step as the words are parsed
module _ {X : Type 0} (f : Word → X → X) (made : Parsed → X) {words : List ℕ}
    (step : (w : Word) (p : Parsed) → Inside w → Indexed w → Behind w p → f w (made p) ≡ made (on_word w p)) where
  made_from : {from to : ℕ} → BodyWords words from to → {x₀ : X} → x₀ ≡ made (parse (drop to words)) → (n i : ℕ) → i + n ≡ to → from ≤ i
      → fold_from_end f x₀ (take n (drop i words)) ≡ made (parse (drop i words))
  unfolding fold_from_end
  made_from {to = to} k e zero i s h = let last : i ≡ to = omega arith in rw last e
  made_from k e (suc n) i s h =
      let w = decoded (get_or words i 0) in
      let front = drop-cons words i 0 (omega (arith, k.within)) in
      let here : suc i - 1 ≡ i = omega arith in
      let m = word_inside k (suc i) (omega arith) (omega arith) {w = decoded (get_or words i 0)} (rw here refl) in
      rw (front, made_from k e n (suc i) (omega arith) (omega arith))
      (step w (parse (drop (suc i) words)) m.inside m.indexed m.behind ∙ ap made (sym (rw (here, front) at m.here)))

  pub made_between : (start : ℕ) {to : ℕ} → BodyWords words (start + 1) to → {x₀ : X} → x₀ ≡ made (parse (drop to words))
      → fold_from_end f x₀ (take (to - (start + 1)) (drop (start + 1) words)) ≡ made (parse (drop (suc start) words))
  made_between start {to} k e =
      let next : start + 1 ≡ suc start = omega arith in
      made_from k e (to - (start + 1)) (start + 1) (omega (arith, k.some)) (omega arith) ∙ rw next refl

  pub made_inside : {start end : ℕ} → RuleWords words start end → {x₀ : X} → x₀ ≡ made (parse (drop end words))
      → fold_from_end f x₀ (take (end - (start + 1)) (drop (start + 1) words)) ≡ made (parse (drop (suc start) words))
  made_inside {start} k e = made_between start (bodies_between k (omega arith) (omega (arith, k.some)) (omega arith) k.ended.body) e
