-- A number and the word that it decodes to: each gives the other.
use mathlib.Core.Path.{◌≡◌, refl}
use mathlib.Core.Bool.{Bool, true, false}
use Prim.Native.Nat.{ℕ, ◌+◌, ◌*◌, ◌/◌, ◌%◌, ◌^◌, ◌<◌}
use native.Mathlib.Omega.{arith}
use lib.Dec.{eqb, ltb}
use borrow.Author.Tests.{eqb-true, lt-ltb}
use Rattle.word.specs.declared.Symbol.TheVariants.{Terminal, Nonterminal}
use Rattle.word.specs.declared.Symbol as symbol
use Rattle.word.specs.declared.Word.{Word}
use Rattle.word.specs.declared.Word.TheVariants.{Heading, Rule as RuleWord, Positive, Negative, Symbol, End, Invalid}
use Rattle.base.specs.Choice.{choose}
use Rattle.word.specs.Words.{kind, payload, bare, heading, of_kind, decoded}
use Rattle.encoding.specs.Encode.{word_of, heading_word, rule_word, positive_word, negative_word, symbol_word, end_word}

-- a payload that fits is found again
pub decoded_word : (k p : ℕ) → p < 2 ^ 28 → decoded (word_of k p) ≡ of_kind k p
unfolding decoded
decoded_word k p h =
    let a : kind (word_of k p) ≡ k = omega arith in
    let b : payload (word_of k p) ≡ p = omega arith in
    rw (a, b)

pub decoded_heading : (n t : ℕ) → n < 2 ^ 8 → t < 2 ^ 8 → decoded (heading_word n t) ≡ Heading n t
unfolding of_kind heading
decoded_heading n t hn ht =
    let a : ltb (t * 2 ^ 8 + n) (2 ^ 16) ≡ true = lt-ltb (t * 2 ^ 8 + n) (2 ^ 16) (omega arith) in
    let b : (t * 2 ^ 8 + n) % 2 ^ 8 ≡ n = omega arith in
    let c : (t * 2 ^ 8 + n) / 2 ^ 8 ≡ t = omega arith in
    rw (decoded_word 1 (t * 2 ^ 8 + n) (omega arith), a, b, c)

pub decoded_rule : (A : ℕ) → A < 2 ^ 28 → decoded (rule_word A) ≡ RuleWord A
unfolding of_kind
decoded_rule A h = rw (decoded_word 2 A h)

pub decoded_positive : decoded positive_word ≡ Positive
unfolding decoded of_kind bare
decoded_positive = refl

pub decoded_negative : decoded negative_word ≡ Negative
unfolding decoded of_kind bare
decoded_negative = refl

pub decoded_end : decoded end_word ≡ End
unfolding decoded of_kind bare
decoded_end = refl

abbrev pub number_of : symbol.Symbol → ℕ
number_of (Terminal a) = a
number_of (Nonterminal A) = A

pub decoded_symbol : (X : symbol.Symbol) → number_of X < 2 ^ 28 → decoded (symbol_word X) ≡ Symbol X
unfolding of_kind
decoded_symbol (Terminal a) h = rw (decoded_word 5 a h)
decoded_symbol (Nonterminal A) h = rw (decoded_word 6 A h)

-- the kind and the payload of the number that stands for a word; for an invalid word there are many
abbrev pub Parts : Word → ℕ → ℕ → Type 0
Parts (Heading n t) k p = (k ≡ 1) × (p ≡ t * 2 ^ 8 + n)
Parts (RuleWord A) k p = (k ≡ 2) × (p ≡ A)
Parts Positive k p = (k ≡ 3) × (p ≡ 0)
Parts Negative k p = (k ≡ 4) × (p ≡ 0)
Parts (Symbol (Terminal a)) k p = (k ≡ 5) × (p ≡ a)
Parts (Symbol (Nonterminal A)) k p = (k ≡ 6) × (p ≡ A)
Parts End k p = (k ≡ 7) × (p ≡ 0)
Parts Invalid k p = Unit {0}

by_test : (b : Bool) (u v : Word) (k p : ℕ) → (b ≡ true → Parts u k p) → (b ≡ false → Parts v k p) → Parts (choose b u v) k p
by_test true u v k p f g = f refl
by_test false u v k p f g = g refl

parts_bare : (u : Word) (k p : ℕ) → (p ≡ 0 → Parts u k p) → Parts (bare u p) k p
unfolding bare
parts_bare u k p f = by_test (eqb p 0) u Invalid k p (λ e. f (eqb-true p 0 e)) (λ _. tt)

parts_heading : (k p : ℕ) → k ≡ 1 → Parts (heading p) k p
unfolding heading
parts_heading k p e = by_test (ltb p (2 ^ 16)) (Heading (p % 2 ^ 8) (p / 2 ^ 8)) Invalid k p (λ _. (e, omega arith)) (λ _. tt)

parts_kind : (k p : ℕ) → Parts (of_kind k p) k p
unfolding of_kind
parts_kind k p =
    by_test (eqb k 1) (heading p) _ k p (λ e. parts_heading k p (eqb-true k 1 e))
    (λ _. by_test (eqb k 2) (RuleWord p) _ k p (λ e. (eqb-true k 2 e, refl))
    (λ _. by_test (eqb k 3) (bare Positive p) _ k p (λ e. parts_bare Positive k p (λ z. (eqb-true k 3 e, z)))
    (λ _. by_test (eqb k 4) (bare Negative p) _ k p (λ e. parts_bare Negative k p (λ z. (eqb-true k 4 e, z)))
    (λ _. by_test (eqb k 5) (Symbol (Terminal p)) _ k p (λ e. (eqb-true k 5 e, refl))
    (λ _. by_test (eqb k 6) (Symbol (Nonterminal p)) _ k p (λ e. (eqb-true k 6 e, refl))
    (λ _. by_test (eqb k 7) (bare End p) Invalid k p (λ e. parts_bare End k p (λ z. (eqb-true k 7 e, z)))
    (λ _. tt)))))))

pub parts : (w : ℕ) → Parts (decoded w) (kind w) (payload w)
unfolding decoded
parts w = parts_kind (kind w) (payload w)

-- the number that stands for a word
abbrev pub WrittenAs : Word → ℕ → Type 0
WrittenAs (Heading n t) w = w ≡ heading_word n t
WrittenAs (RuleWord A) w = w ≡ rule_word A
WrittenAs Positive w = w ≡ positive_word
WrittenAs Negative w = w ≡ negative_word
WrittenAs (Symbol X) w = w ≡ symbol_word X
WrittenAs End w = w ≡ end_word
WrittenAs Invalid w = Unit {0}

written_parts : (v : Word) (w : ℕ) → Parts v (kind w) (payload w) → WrittenAs v w
written_parts (Heading n t) w h = omega arith
written_parts (RuleWord A) w h = omega arith
written_parts Positive w h = omega arith
written_parts Negative w h = omega arith
written_parts (Symbol (Terminal a)) w h = omega arith
written_parts (Symbol (Nonterminal A)) w h = omega arith
written_parts End w h = omega arith
written_parts Invalid w h = tt

-- a number is the one that stands for what it decodes to. From 2 ^ 32 on kinds are above 7 and the word is invalid, so no bound is asked for
pub written_as : (w : ℕ) → WrittenAs (decoded w) w
written_as w = written_parts (decoded w) w (parts w)
