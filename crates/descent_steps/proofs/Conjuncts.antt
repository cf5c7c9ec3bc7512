-- A word that begins a conjunct is told by comparing it with two others.
use mathlib.Core.Path.{◌≡◌, refl, sym, ap, ◌∙◌}
use mathlib.Core.Bool.{Bool, true, false, false≢true, ◌||◌}
use mathlib.Core.List.{List}
use Prim.Native.Nat.{ℕ, ◌^◌}
use native.Mathlib.Omega.{arith}
use lib.Dec.{ltb, eqb}
use lib.ListN.{length, get_or}
use borrow.Author.Tests.{eqb-true, eqb-false, eq-eqb, ne_eqb}
use Rattle.base.specs.Choice.{choose}
use Rattle.word.specs.Words.{kind, payload, bare, heading, of_kind, decoded}
use Rattle.word.specs.declared.Word.{Word}
use Rattle.rule.specs.declared.Sign.TheVariants.{Positive, Negative, Neither}
use Rattle.rule.specs.inner.Rule.{sign_of, sign_at, begins_body, opening_by}
use Rattle.descent_steps.specs.inner.Steps.{word_at, negative_word, conjunct_sign}

abbrev pub positive_word : ℕ
positive_word = 805306368

chosen_neither : (b : Bool) (x y : Word) → (b ≡ true → sign_of x ≡ Neither) → (b ≡ false → sign_of y ≡ Neither) → sign_of (choose b x y) ≡ Neither
chosen_neither true x y h k = h refl
chosen_neither false x y h k = k refl

-- the other words begin none
kind_neither : (k p : ℕ) → (k ≡ 3 → p ≡ 0 → ⊥) → (k ≡ 4 → p ≡ 0 → ⊥) → sign_of (of_kind k p) ≡ Neither
unfolding of_kind bare heading
kind_neither k p positive negative =
    chosen_neither (eqb k 1) _ _ (λ _. chosen_neither (ltb p (2 ^ 16)) _ _ (λ _. refl) (λ _. refl)) (λ _.
    chosen_neither (eqb k 2) _ _ (λ _. refl) (λ _.
    chosen_neither (eqb k 3) _ _ (λ e. chosen_neither (eqb p 0) _ _ (λ z. absurd (positive (eqb-true k 3 e) (eqb-true p 0 z))) (λ _. refl)) (λ _.
    chosen_neither (eqb k 4) _ _ (λ e. chosen_neither (eqb p 0) _ _ (λ z. absurd (negative (eqb-true k 4 e) (eqb-true p 0 z))) (λ _. refl)) (λ _.
    chosen_neither (eqb k 5) _ _ (λ _. refl) (λ _.
    chosen_neither (eqb k 6) _ _ (λ _. refl) (λ _.
    chosen_neither (eqb k 7) _ _ (λ _. chosen_neither (eqb p 0) _ _ (λ _. refl) (λ _. refl)) (λ _. refl)))))))

decoded_negative : sign_of (decoded negative_word) ≡ Negative
unfolding decoded of_kind bare
decoded_negative = refl

decoded_positive : sign_of (decoded positive_word) ≡ Positive
unfolding decoded of_kind bare
decoded_positive = refl

word_neither : (b : ℕ) → (b ≡ negative_word → ⊥) → (b ≡ positive_word → ⊥) → sign_of (decoded b) ≡ Neither
unfolding decoded
word_neither b n p = kind_neither (kind b) (payload b) (λ k z. p (omega (arith, k, z))) (λ k z. n (omega (arith, k, z)))

-- what a word begins, by two comparisons
sign_compared : (b : ℕ) → sign_of (decoded b) ≡ choose (eqb b negative_word) Negative (choose (eqb b positive_word) Positive Neither)
sign_compared b = go (eqb b negative_word) (eqb b positive_word) refl refl
  where
    go : (n p : Bool) → eqb b negative_word ≡ n → eqb b positive_word ≡ p → sign_of (decoded b) ≡ choose n Negative (choose p Positive Neither)
    go true p e f = ap (λ x. sign_of (decoded x)) (eqb-true b negative_word e) ∙ decoded_negative
    go false true e f = ap (λ x. sign_of (decoded x)) (eqb-true b positive_word f) ∙ decoded_positive
    go false false e f = word_neither b (eqb-false b negative_word e) (eqb-false b positive_word f)

begins_compared : (b : ℕ) → (eqb b negative_word || eqb b positive_word) ≡ begins_body (sign_of (decoded b))
begins_compared b = rw (sign_compared b) (go (eqb b negative_word) (eqb b positive_word))
  where
    go : (n p : Bool) → (n || p) ≡ begins_body (choose n Negative (choose p Positive Neither))
    go true p = refl
    go false true = refl
    go false false = refl

pub negative_begins : (b : ℕ) → b ≡ negative_word → eqb b negative_word ≡ begins_body (sign_of (decoded b))
negative_begins b e = rw (eq-eqb b negative_word e) (rw (eq-eqb b negative_word e) at (begins_compared b))

pub another_begins : (b : ℕ) → (b ≡ negative_word → ⊥) → eqb b positive_word ≡ begins_body (sign_of (decoded b))
another_begins b n = rw (ne_eqb b negative_word n) at (begins_compared b)

-- the sign of a word that begins a conjunct
pub conjunct_sign_lem : (b : ℕ) → begins_body (sign_of (decoded b)) ≡ true → conjunct_sign b ≡ sign_of (decoded b)
unfolding conjunct_sign
conjunct_sign_lem b h = go (eqb b negative_word) (eqb b positive_word) (sign_compared b) h
  where
    go : (n p : Bool) → sign_of (decoded b) ≡ choose n Negative (choose p Positive Neither) → begins_body (sign_of (decoded b)) ≡ true
        → choose n Negative Positive ≡ sign_of (decoded b)
    go true p e h = sym e
    go false true e h = sym e
    go false false e h = absurd (false≢true (ap begins_body (sym e) ∙ h))

-- a rule opens by it whatever the word begins
pub conjunct_opens : (b end : ℕ) → opening_by (conjunct_sign b) end ≡ opening_by (sign_of (decoded b)) end
unfolding conjunct_sign
conjunct_opens b end = rw (sign_compared b) (go (eqb b negative_word) (eqb b positive_word))
  where
    go : (n p : Bool) → opening_by (choose n Negative Positive) end ≡ opening_by (choose n Negative (choose p Positive Neither)) end
    go true p = refl
    go false true = refl
    go false false = refl

decoded_none : sign_of (decoded 0) ≡ Neither
unfolding decoded of_kind
decoded_none = refl

-- the word at an index tells what begins there
pub word_sign : (words : List ℕ) (at : ℕ) → sign_of (decoded (word_at words at)) ≡ sign_at words at
unfolding word_at sign_at
word_sign words at = go (ltb at (length words))
  where
    go : (b : Bool) → sign_of (decoded (choose b (get_or words at 0) 0)) ≡ choose b (sign_of (decoded (get_or words at 0))) Neither
    go true = refl
    go false = decoded_none
