-- The lookahead strings: which there are over n terminals, when two are one, and how they are joined and cut.
use mathlib.Core.List.Memᴰ
use mathlib.Core.List.{List, [], ◌∷◌, ◌++◌, Memᴰ}
use mathlib.Core.Logic.{◌⊎◌, inl, inr}
use mathlib.Core.Path.{◌≡◌, refl, ap}
use Prim.Native.Nat.{ℕ, zero, suc, ◌<◌}
use native.Mathlib.Omega.{arith}
use lib.Dec.{T, eqb, ltb, eqb→eq, eqb_refl, ltb→lt, lt→ltb}
use lib.ListN.{length, take}
use Rattle.base.specs.Quantifiers.{all_of}
use Rattle.base.specs.FiniteSets.{numbers_below, combine}
use Rattle.base.specs.Strings.{Over, Lookahead, strings, same_string}
use Rattle.base.proofs.Booleans.{and_l, and_r, and_make}
use Rattle.base.proofs.FiniteSets.{Equality, numbers_make, numbers_elim, combine_make, combine_elim}
use Rattle.base.proofs.Strings.{all_take, take_short}

pub string_equal : (x y : List ℕ) → T (same_string x y) → x ≡ y
unfolding same_string
string_equal [] [] t = refl
string_equal [] (y ∷ ys) t = absurd t
string_equal (x ∷ xs) [] t = absurd t
string_equal (x ∷ xs) (y ∷ ys) t =
    let e : x ≡ y = eqb→eq x y (and_l (eqb x y) _ t) in
    let f : xs ≡ ys = string_equal xs ys (and_r (eqb x y) _ t) in
    cc

pub string_itself : (x : List ℕ) → T (same_string x x)
unfolding same_string
string_itself [] = tt
string_itself (x ∷ xs) = and_make (eqb x x) _ (eqb_refl x) (string_itself xs)

pub strings_equality : Equality same_string
strings_equality = record { equal = string_equal; itself = string_itself }

-- the strings of at most k terminals below n
pub strings_make : (k n : ℕ) (x : List ℕ) → Lookahead k n x → Memᴰ x (strings k n)
unfolding strings all_of
strings_make zero n [] h = Memᴰ.head refl
strings_make zero n (a ∷ x) h = absurd (omega arith)
strings_make (suc k) n [] h = Memᴰ.append_right (combine (λ a x. a ∷ x) (numbers_below n) (strings k n)) (Memᴰ.head refl)
strings_make (suc k) n (a ∷ x) h =
    Memᴰ.append_left ([] ∷ []) (combine_make (λ a x. a ∷ x) (numbers_below n) (strings k n) a x (numbers_make n a (ltb→lt a n (and_l (ltb a n) _ h.1)))
    (strings_make k n x (omega arith, and_r (ltb a n) (all_of (λ a. ltb a n) x) h.1)))

pub strings_elim : (k n : ℕ) (x : List ℕ) → Memᴰ x (strings k n) → Lookahead k n x
unfolding strings all_of
strings_elim zero n x m = rw (Memᴰ.eq_of_singleton m) (omega arith, tt)
strings_elim (suc k) n x m = go (Memᴰ.append_cases (combine (λ a y. a ∷ y) (numbers_below n) (strings k n)) m) (strings_elim k n)
  where
    go : Memᴰ x (combine (λ a y. a ∷ y) (numbers_below n) (strings k n)) ⊎ Memᴰ x ([] ∷ [])
        → ((y : List ℕ) → Memᴰ y (strings k n) → Lookahead k n y) → Lookahead (suc k) n x
    go (inl l) f =
        let r = combine_elim (λ a y. a ∷ y) (numbers_below n) (strings k n) x l in
        let h = f r.1 r.3 in
        let i : length r.1 < suc k = omega (arith, h.0) in
        rw r.4 (i, and_make (ltb r.0 n) (all_of (λ a. ltb a n) r.1) (lt→ltb r.0 n (numbers_elim n r.0 r.2)) h.1)
    go (inr l) f = rw (Memᴰ.eq_of_singleton l) (omega arith, tt)

over_append : (n : ℕ) (x y : List ℕ) → Over n x → Over n y → Over n (x ++ y)
unfolding all_of
over_append n [] y h l = l
over_append n (a ∷ x) y h l =
    and_make (ltb a n) (all_of (λ a. ltb a n) (x ++ y)) (and_l (ltb a n) _ h) (over_append n x y (and_r (ltb a n) (all_of (λ a. ltb a n) x) h) l)

-- the concatenation, cut to k, of strings over n terminals is a lookahead string
pub cut_lookahead : (k n : ℕ) (x y : List ℕ) → Over n x → Over n y → Lookahead k n (take k (x ++ y))
cut_lookahead k n x y h l = (take_short k (x ++ y), all_take _ k (x ++ y) (over_append n x y h l))

pub cut_none : (k : ℕ) (u y : List ℕ) → 0 < k → take k (u ++ y) ≡ [] → (u ≡ []) × (y ≡ [])
cut_none zero u y h e = absurd (omega arith)
cut_none (suc k) [] [] h e = (refl, refl)
cut_none (suc k) [] (a ∷ y) h e = absurd (omega (arith, ap length e))
cut_none (suc k) (a ∷ u) y h e = absurd (omega (arith, ap length e))
