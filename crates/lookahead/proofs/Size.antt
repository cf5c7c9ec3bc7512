-- A set's size is the count of ones in its number, and the number of its elements.
use mathlib.Core.Path.{◌≡◌, refl, sym, ◌∙◌}
use mathlib.Core.Bool.{Bool, false}
use Prim.Native.Nat.{ℕ, zero, suc, ◌+◌, ◌/◌, ◌^◌, ◌≤◌, ◌<◌}
use native.Mathlib.Nat.{pow-suc}
use native.Mathlib.Omega.{arith}
use native.Mathlib.Decide.{le_ind}
use lib.Count.{ones, ones_step}
use Rattle.base.specs.Quantifiers.{one, count_below}
use Rattle.lookahead.specs.Elements.{has, width, size}
use Rattle.lookahead.proofs.Elements as of-numbers

pub count_cong : (k : ℕ) (p q : ℕ → Bool) → ((l : ℕ) → l < k → p l ≡ q l) → count_below k p ≡ count_below k q
unfolding count_below
count_cong zero p q h = refl
count_cong (suc k) p q h = rw (h k (omega arith), count_cong k p q (λ l b. h l (omega arith)))

pub count_first : (k : ℕ) (p : ℕ → Bool) → count_below (suc k) p ≡ one (p 0) + count_below k (λ l. p (suc l))
unfolding count_below
count_first zero p = refl
count_first (suc k) p = omega (arith, count_first k p)

-- the ones of a number of k digits are its elements below k
pub ones_count : (k n : ℕ) → n < 2 ^ k → ones n ≡ count_below k (has n)
unfolding count_below ones
ones_count zero n h = let e : n ≡ 0 = omega arith in rw e
ones_count (suc k) n h =
    let p = pow-suc 2 k in
    ones_step n
    ∙ rw (of-numbers.lowest n, ones_count k (n / 2) (omega arith), count_cong k (has (n / 2)) (λ l. has n (suc l)) (λ l b. sym (of-numbers.has_suc n l)))
    (sym (count_first k (has n)))

-- the language's count of ones is the size
pub ones_size : (n : ℕ) → n < 2 ^ width → ones n ≡ size n
unfolding size
ones_size n h = ones_count width n h

-- numbers that do not pass add nothing
count_stop : (p : ℕ → Bool) (k m : ℕ) → k ≤ m → ((l : ℕ) → k ≤ l → l < m → p l ≡ false) → count_below m p ≡ count_below k p
unfolding count_below
count_stop p k =
    le_ind (λ (m : ℕ). ((l : ℕ) → k ≤ l → l < m → p l ≡ false) → count_below m p ≡ count_below k p) (λ f. refl)
    (λ m h e f. let z : p m ≡ false = f m h (omega arith) in rw z (omega (arith, e (λ l b d. f l b (omega arith)))))

-- a set without digits from k on has no elements there
pub size_below : (k x : ℕ) → k ≤ width → x < 2 ^ k → size x ≡ count_below k (has x)
unfolding size
size_below k x h b = count_stop (has x) k width h (λ l c d. of-numbers.has_above k x l b c)
