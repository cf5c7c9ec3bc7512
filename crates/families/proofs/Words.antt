-- What the words from an index on say, by the word that stands there; and words gone through from their end.
use mathlib.Core.Path.{◌≡◌, refl, sym, ap, ◌∙◌}
use mathlib.Core.List.{List, [], ◌∷◌, ◌++◌}
use Prim.Native.Nat.{ℕ, suc, ◌-◌, ◌≤◌, ◌<◌}
use native.Mathlib.Omega.{arith}
use lib.ListN.{length, get_or, drop, drop_of_length-le}
use lib.Seq.{drop-cons}
use Rattle.word.specs.declared.Word.{Word}
use Rattle.word.specs.Words.{decoded}
use Rattle.grammar.specs.Encoding.{on_word, parse}
use Rattle.families.specs.inner.Rules.{fold_from_end}

module _ (words : List ℕ) (i : ℕ) where
  -- the word at an index, in front of what the words behind it say
  pub parse_here : i < length words → parse (drop i words) ≡ on_word (decoded (get_or words i 0)) (parse (drop (suc i) words))
  unfolding parse
  parse_here h = rw (drop-cons words i 0 h)

  -- the word before an index, in front of what the words from it on say
  pub parse_before : 0 < i → i ≤ length words → parse (drop (i - 1) words) ≡ on_word (decoded (get_or words (i - 1) 0)) (parse (drop i words))
  unfolding parse
  parse_before h k =
      let e : suc (i - 1) ≡ i = omega arith in
      rw (drop-cons words (i - 1) 0 (omega arith)) (ap (λ (k : ℕ). on_word (decoded (get_or words (i - 1) 0)) (parse (drop k words))) e)

  pub parse_over : length words ≤ i → parse (drop i words) ≡ parse []
  parse_over h = rw (drop_of_length-le words h)

-- words gone through from their end: the last one comes first, and behind the first none is left
module _ {X : Type 0} (f : Word → X → X) where
  end_last : (words : List ℕ) (bits : ℕ) (x : X) → fold_from_end f x (words ++ bits ∷ []) ≡ fold_from_end f (f (decoded bits) x) words
  unfolding fold_from_end
  end_last [] bits x = refl
  end_last (v ∷ words) bits x = ap (f (decoded v)) (end_last words bits x)

  pub end_turn : (words left : List ℕ) (bits : ℕ) {w : Word} {x y z : X} → words ≡ left ++ bits ∷ [] → w ≡ decoded bits → y ≡ f w x
      → fold_from_end f x words ≡ z → fold_from_end f y left ≡ z
  end_turn words left bits {x = x} e d o h =
      rw (o, d) (sym (end_last left bits x)) ∙ sym (ap (fold_from_end f x) e) ∙ h

  pub end_done : (words : List ℕ) {x z : X} → length words ≡ 0 → fold_from_end f x words ≡ z → x ≡ z
  unfolding fold_from_end
  end_done [] e h = h
  end_done (v ∷ words) e h = absurd (omega arith)
