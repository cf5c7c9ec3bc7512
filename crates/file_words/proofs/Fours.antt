-- The words of a row of bytes are the fours of bytes in order.
use Rattle.std.specs.Prelude.{None, Some}
use mathlib.Core.Path.{◌≡◌, refl, sym, ◌∙◌}
use mathlib.Core.List.{List, [], ◌∷◌}
use Prim.Native.Nat.{ℕ, zero, suc, ◌+◌, ◌*◌, ◌/◌, ◌%◌, ◌≤◌, ◌<◌}
use native.Mathlib.Omega.{arith}
use native.Mathlib.Numerals.{add-one}
use lib.ListN.{length, get_or, take, set}
use lib.Seq.{sets, take-suc, take_all, length-take-le}
use borrow.Author.Tests.{lt-leb, le-leb, eq-eqb}
use Rattle.grammar.specs.Limits.{max_words}
use Rattle.file_words.specs.Words.{bytes_of_word, words_of, are_words}
use Rattle.file_words.specs.inner.Words.{four_at, Loading}
use Rattle.text.proofs.Writing.{sets_append}

pub length_words : (bytes : List ℕ) → length (words_of bytes) ≡ length bytes / bytes_of_word
unfolding words_of
length_words [] = refl
length_words (a ∷ []) = refl
length_words (a ∷ b ∷ []) = refl
length_words (a ∷ b ∷ c ∷ []) = refl
length_words (a ∷ b ∷ c ∷ d ∷ rest) = let e = length_words rest in omega arith

pub word_at : (bytes : List ℕ) (i : ℕ) → bytes_of_word * i + 3 < length bytes → get_or (words_of bytes) i 0 ≡ four_at bytes (bytes_of_word * i)
unfolding words_of
word_at [] i h = absurd (omega arith)
word_at (a ∷ []) i h = absurd (omega arith)
word_at (a ∷ b ∷ []) i h = absurd (omega arith)
word_at (a ∷ b ∷ c ∷ []) i h = absurd (omega arith)
word_at (a ∷ b ∷ c ∷ d ∷ rest) zero h = refl
word_at (a ∷ b ∷ c ∷ d ∷ rest) (suc i) h =
    let e0 : 4 * suc i ≡ suc (suc (suc (suc (4 * i)))) = omega arith in
    let e1 : suc (suc (suc (suc (4 * i)))) + 1 ≡ suc (suc (suc (suc (4 * i + 1)))) = omega arith in
    let e2 : suc (suc (suc (suc (4 * i)))) + 2 ≡ suc (suc (suc (suc (4 * i + 2)))) = omega arith in
    let e3 : suc (suc (suc (suc (4 * i)))) + 3 ≡ suc (suc (suc (suc (4 * i + 3)))) = omega arith in
    rw (e0, e1, e2, e3) (word_at rest i (omega arith))

-- one word more behind the words put
pub one_more : (bytes before : List ℕ) (i : ℕ) {words : List ℕ} {v : ℕ} → i < length bytes / bytes_of_word →
    words ≡ sets before 0 (take i (words_of bytes)) → v ≡ four_at bytes (bytes_of_word * i) → set words i v ≡ sets before 0 (take (i + 1) (words_of bytes))
one_more bytes before i {words} {v} h w e =
    let l : i < length (words_of bytes) = omega (arith, length_words bytes) in
    let n : 0 + length (take i (words_of bytes)) ≡ i = omega (arith, length-take-le i (words_of bytes) (omega arith)) in
    let x : v ≡ get_or (words_of bytes) i 0 = e ∙ sym (word_at bytes i (omega arith)) in
    rw (add-one i, take-suc (words_of bytes) i 0 l, sets_append (take i (words_of bytes)) (get_or (words_of bytes) i 0 ∷ []) before 0, n, w, x)

pub too_long : (bytes before : List ℕ) → bytes_of_word * max_words < length bytes → Loading bytes before None before
unfolding are_words
too_long bytes before h = let t = lt-leb (length bytes) (bytes_of_word * max_words) h in record { told = rw t; words = rw t }

module _ (bytes before : List ℕ) (h : length bytes ≤ bytes_of_word * max_words) where
  pub all_loaded : length bytes % bytes_of_word ≡ 0 → (i : ℕ) {words : List ℕ} → i ≤ length bytes / bytes_of_word → length bytes / bytes_of_word ≤ i →
      words ≡ sets before 0 (take i (words_of bytes)) → Loading bytes before (Some i) words
  unfolding are_words
  all_loaded e i {words} a b w =
      let t = le-leb (length bytes) (bytes_of_word * max_words) h in
      let u = eq-eqb (length bytes % bytes_of_word) 0 e in
      let n : i ≡ length bytes / bytes_of_word = omega arith in
      let s : take i (words_of bytes) ≡ words_of bytes = take_all i (words_of bytes) (omega (arith, length_words bytes)) in
      record { told = rw (t, u, n); words = w ∙ (rw (s, t, u)) }
