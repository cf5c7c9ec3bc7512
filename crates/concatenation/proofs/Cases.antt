-- The small operations by cases, as the code goes: what each case gives is the operation's result.
use mathlib.Core.Path.{◌≡◌, refl, sym, ap, ◌∙◌}
use mathlib.Core.Bool.{Bool, true, false, ◌&&◌, and-true, and-false}
use mathlib.Core.List.{[], ◌∷◌}
use Prim.Native.Nat.{ℕ, ◌+◌, ◌-◌, ◌*◌, ◌/◌, ◌%◌, ◌^◌, ◌≤◌, ◌<◌, min}
use native.Mathlib.Nat.{mod-eq_of_lt}
use native.Mathlib.Omega.{arith}
use native.Mathlib.Decide.{dec_lt, ℕ_discrete}
use lib.Bits.{bit_and, and_mask}
use lib.Dec.{T, eqb, ltb, ltb→lt, eqb→eq}
use lib.Pow.{shl_exact, ones_lt}
use borrow.Author.Tests.{lt-ltb, le-ltb, eqb-true}
use Rattle.lookahead.specs.declared.Lookahead.{Lookahead}
use Rattle.lookahead.specs.declared.Lookahead.TheVariants.{One, Two}
use Rattle.lookahead.specs.inner.Lookaheads.{alphabet, single}
use Rattle.lookahead.specs.Lookaheads.{elements, element_of}
use Rattle.lookahead.specs.Elements.{has, width}
use Rattle.lookahead.specs.inner.Operations.{terminal, Terminal}
use Rattle.pair_rows.specs.inner.Rows.{Has}
use Rattle.concatenation.specs.inner.Computing.{Singles, is_long, AllLong}
use Rattle.base.proofs.Booleans.{true_T, and_l, and_r}
use Rattle.lookahead.proofs.Elements.{has_above, has_zero, has_shift, bound}
use Rattle.lookahead.proofs.Powers.{has_ones}
use Rattle.lookahead.proofs.Digits.{shifted, has_mask, has_under, has_over, moved}
use Rattle.lookahead.proofs.Strings.{two_single, two_pair, one_terminal, string_nothing}
use Rattle.lookahead.proofs.Bounds.{elements_fit}
use Rattle.lookahead_sets.proofs.SingleElements.{singles_fit, single_small, single_of}

-- ones for m terminals, moved up to the elements of single terminals
pub singles_are : (k : Lookahead) {t m s : ℕ} → m ≡ min t (alphabet k) → s ≡ single k
    → Singles k t ((1 * 2 ^ m % 2 ^ width - 1) * 2 ^ s % 2 ^ width)
singles_are k {t} {m} {s} em es = record { member = λ l. (to l, from l) }
  where
    bounds : (m ≤ t) × (m ≤ alphabet k) × ((a : ℕ) → a < t → a < alphabet k → a < m)
    bounds = (omega arith, omega arith, λ a i j. omega arith)

    fits : m < width
    fits = omega (arith, bounds.1, singles_fit k, elements_fit k)

    exact : (1 * 2 ^ m % 2 ^ width - 1) * 2 ^ s % 2 ^ width ≡ (2 ^ m - 1) * 2 ^ s
    exact =
        ap (λ (n : ℕ). (n - 1) * 2 ^ s % 2 ^ width) (shifted m fits)
        ∙ shl_exact m s width (ones_lt m) (omega (arith, bounds.1, singles_fit k, elements_fit k, single_small k))

    to : (l : ℕ) → T (has ((1 * 2 ^ m % 2 ^ width - 1) * 2 ^ s % 2 ^ width) l) → (a : ℕ) × (a < t) × (a < alphabet k) × (l ≡ element_of k (a ∷ []))
    to l h =
        let d = moved (2 ^ m - 1) s l (rw exact at h) in
        let b : d.0 < m = ltb→lt d.0 m (rw (has_ones m d.0) at d.2) in
        (d.0, omega (arith, bounds.0), omega (arith, bounds.1), omega (arith, d.1, single_of k d.0))

    from : (l : ℕ) → (a : ℕ) × (a < t) × (a < alphabet k) × (l ≡ element_of k (a ∷ [])) → T (has ((1 * 2 ^ m % 2 ^ width - 1) * 2 ^ s % 2 ^ width) l)
    from l i =
        let e : l ≡ s + i.0 = omega (arith, i.3, single_of k i.0) in
        rw (exact, e, has_over (2 ^ m - 1) s i.0, has_ones m i.0, lt-ltb i.0 m (bounds.2 i.0 i.1 i.2)) tt

-- with one token terminals are long, with two tokens pairs
pub one_long : (l : ℕ) → l < 24 → is_long One l ≡ true
unfolding is_long
one_long l h = rw (one_terminal l (λ e. omega arith)) refl

one_short : is_long One 24 ≡ false
unfolding is_long
one_short = rw (string_nothing One) refl

pub two_long : (l : ℕ) → 8 ≤ l → is_long Two l ≡ true
unfolding is_long
two_long l h = rw (two_pair l h) refl

two_short : (l : ℕ) → l < 8 → is_long Two l ≡ false
unfolding is_long
two_short l h = go (dec_lt 0 l)
  where
    go : Dec (0 < l) → is_long Two l ≡ false
    go (yes p) = rw (two_single l p h) refl
    go (no p) = let e : l ≡ 0 = omega arith in rw (e, string_nothing Two) refl

one_digits : (s : ℕ) → s < 2 ^ 25 → Has (bit_and s (2 ^ 24 - 1)) (λ l. has s l && is_long One l)
one_digits s b l = ap (λ (n : ℕ). has n l) (and_mask s 24) ∙ has_mask s 24 l ∙ go (dec_lt l 24) (ℕ_discrete l 24)
  where
    go : Dec (l < 24) → Dec (l ≡ 24) → (ltb l 24 && has s l) ≡ (has s l && is_long One l)
    go (yes h) e = rw (lt-ltb l 24 h, one_long l h) (sym (and-true (has s l)))
    go (no h) (yes e) = rw (le-ltb l 24 (omega arith), e, one_short) (sym (and-false (has s 24)))
    go (no h) (no e) = rw (le-ltb l 24 (omega arith), has_above 25 s l b (omega arith))

two_digits : (s : ℕ) → s < 2 ^ 57 → Has (s / 2 ^ 8 * 2 ^ 8 % 2 ^ width) (λ l. has s l && is_long Two l)
two_digits s b l = ap (λ (n : ℕ). has n l) (shl_exact {a = s / 2 ^ 8} 49 8 width (omega arith) (omega arith)) ∙ go (dec_lt l 8)
  where
    go : Dec (l < 8) → has (s / 2 ^ 8 * 2 ^ 8) l ≡ (has s l && is_long Two l)
    go (yes h) = rw (has_under (s / 2 ^ 8) 8 l h, two_short l h) (sym (and-false (has s l)))
    go (no h) =
        let e : l ≡ 8 + (l - 8) = omega arith in
        rw (two_long l (omega arith))
        (ap (has (s / 2 ^ 8 * 2 ^ 8)) e ∙ has_over (s / 2 ^ 8) 8 (l - 8) ∙ has_shift s 8 (l - 8) ∙ ap (has s) (sym e) ∙ sym (and-true (has s l)))

pub long_one : {k : Lookahead} (s : ℕ) → k ≡ One → s < 2 ^ elements k → Has (bit_and s (2 ^ 24 - 1)) (λ l. has s l && is_long k l)
long_one s o h l = let b : s < 2 ^ 25 = rw o at h in rw o (one_digits s b l)

pub long_two : {k : Lookahead} (s : ℕ) → k ≡ Two → s < 2 ^ elements k → Has (s / 2 ^ 8 * 2 ^ 8 % 2 ^ width) (λ l. has s l && is_long k l)
long_two s o h l = let b : s < 2 ^ 57 = rw o at h in rw o (two_digits s b l)

-- without nothing, or with no digit below those of pairs
pub all_long_one : {s : ℕ} → s < 2 ^ 25 → has s 24 ≡ false → AllLong One s
all_long_one {s} b h l t = go (dec_lt l 24) (ℕ_discrete l 24)
  where
    go : Dec (l < 24) → Dec (l ≡ 24) → T (is_long One l)
    go (yes d) e = true_T (is_long One l) (one_long l d)
    go (no d) (yes e) = absurd (rw (e, h) at t)
    go (no d) (no e) = absurd (rw (has_above 25 s l b (omega arith)) at t)

pub all_long_two : (s : ℕ) → eqb (bit_and s (2 ^ 8 - 1)) 0 ≡ true → AllLong Two s
all_long_two s h l t = go (dec_lt l 8)
  where
    none : s % 2 ^ 8 ≡ 0
    none = sym (and_mask s 8) ∙ eqb-true (bit_and s (2 ^ 8 - 1)) 0 h

    go : Dec (l < 8) → T (is_long Two l)
    go (yes b) = absurd (rw (sym (rw (lt-ltb l 8 b) at (has_mask s 8 l)), none, has_zero l) at t)
    go (no b) = true_T (is_long Two l) (two_long l (omega arith))

-- with one token, the set of a terminal
terminal_is : {a r : ℕ} → Terminal One a r → (l : ℕ) → T (has r l) → (l < 24)
terminal_is {a} t l h =
    let u = rw (t.member l) at h in
    let b = ltb→lt a 24 (and_l (ltb a 24) (eqb l a) u) in
    let e = eqb→eq l a (and_r (ltb a 24) (eqb l a) u) in
    omega arith

pub terminal_whole : {a r : ℕ} → Terminal One a r → r ≡ terminal One a % 2 ^ 25
terminal_whole {a} {r} t = sym (mod-eq_of_lt (bound 25 r (λ l h. omega (arith, terminal_is t l h)))) ∙ ap (λ (n : ℕ). n % 2 ^ 25) t.is

pub terminal_long : {a r : ℕ} → Terminal One a r → AllLong One r
terminal_long {a} {r} t l h = true_T (is_long One l) (one_long l (terminal_is t l h))

-- a set that is there only if a test is passed
pub if_passed : (b : Bool) (y : ℕ) → b ≡ true → Has y (λ l. b && has y l)
if_passed b y e l = sym (rw e refl)
