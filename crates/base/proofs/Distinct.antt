-- Lists without repetition: how they are made, and that none is longer than a list that holds all its elements.
use mathlib.Core.Bool.{Bool, true, false}
use mathlib.Core.List.Memᴰ
use mathlib.Core.List.{List, [], ◌∷◌, ◌++◌, map, Memᴰ}
use mathlib.Core.Logic.{inl, inr}
use mathlib.Core.Path.{◌≡◌, refl, sym, ap, ◌∙◌}
use Prim.Native.Nat.{ℕ, zero, suc, ◌*◌, ◌≤◌}
use native.Mathlib.Omega.{arith}
use lib.ListN.{length, length-append, length-map}
use Rattle.base.specs.FiniteSets.{keep, numbers_from, numbers_below, combine, Distinct}
use Rattle.base.specs.Strings.{strings}
use Rattle.base.proofs.FiniteSets.{keep_elim, combine_elim}

module _ {A : Type 0} where
  split_at : (x : A) (l : List A) → Memᴰ x l → (a : List A) × (b : List A) × (l ≡ a ++ (x ∷ b))
  split_at x [] x'' = elim x'' [ ]
  split_at x (y ∷ l) (Memᴰ.head e) = ([], l, ap {B = List A} (λ z. z ∷ l) (sym e))
  split_at x (y ∷ l) (Memᴰ.tail m) = let r = split_at x l m in (y ∷ r.0, r.1, ap {B = List A} (λ s. y ∷ s) r.2)

  -- a list without repetition is no longer than one that holds all its elements
  pub distinct_length : (l l' : List A) → Distinct l → ((x : A) → Memᴰ x l → Memᴰ x l') → length l ≤ length l'
  distinct_length [] l' d h = omega arith
  distinct_length (x ∷ l) l' d h =
      let s = split_at x l' (h x (Memᴰ.head refl)) in
      let r = distinct_length l (s.0 ++ s.1) d.1 (λ y m. other s.0 s.1 y m (rw s.2 at (h y (Memᴰ.tail m)))) in
      omega (arith, length-append s.0 s.1, length-append s.0 (x ∷ s.1), ap length s.2)
    where
      other : (a b : List A) (y : A) → Memᴰ y l → Memᴰ y (a ++ (x ∷ b)) → Memᴰ y (a ++ b)
      other a b y m n = elim (Memᴰ.append_cases a n) [
        | inl p ↦ Memᴰ.append_left b p
        | inr p ↦ elim (Memᴰ.cases_cons p) [
          | inl e ↦ absurd (d.0 (Memᴰ.cast (sym e) m))
          | inr q ↦ Memᴰ.append_right a q
        ]
      ]

  pub distinct_keep : (p : A → Bool) (l : List A) → Distinct l → Distinct (keep p l)
  unfolding keep
  distinct_keep p [] d = tt
  distinct_keep p (x ∷ l) d = go (p x) (distinct_keep p l d.1)
    where
      go : (b : Bool) → Distinct (keep p l) → Distinct {A = A} (elim b [ true ↦ x ∷ keep p l | false ↦ keep p l ])
      go true k = (λ m. d.0 (keep_elim p l x m).0, k)
      go false k = k

  distinct_append : (l l' : List A) → Distinct l → Distinct l' → ((x : A) → Memᴰ x l → Memᴰ x l' → ⊥) → Distinct (l ++ l')
  distinct_append [] l' d d' h = d'
  distinct_append (x ∷ l) l' d d' h = (
    λ m. elim (Memᴰ.append_cases l m) [ inl n ↦ d.0 n | inr n ↦ h x (Memᴰ.head refl) n ],
    distinct_append l l' d.1 d' (λ y m n. h y (Memᴰ.tail m) n),
  )

-- what is less than all numbers of a list is not in it
pub from_above : (a n x : ℕ) → Memᴰ x (numbers_from a n) → a ≤ x
unfolding numbers_from
from_above a zero x m = absurd (Memᴰ.not-nil m)
from_above a (suc n) x m = elim (Memᴰ.cases_cons m) [
  | inl e ↦ omega arith
  | inr k ↦ omega (arith, from_above (suc a) n x k)
]

distinct_from : (a n : ℕ) → Distinct (numbers_from a n)
unfolding numbers_from
distinct_from a zero = tt
distinct_from a (suc n) = (λ m. absurd (omega (arith, from_above (suc a) n a m)), distinct_from (suc a) n)

pub distinct_numbers : (n : ℕ) → Distinct (numbers_below n)
unfolding numbers_below
distinct_numbers n = distinct_from 0 n

module _ {X Y Z : Type 0} (f : X → Y → Z)
    (one : (x x' : X) (y y' : Y) → f x y ≡ f x' y' → x ≡ x') (two : (x x' : X) (y y' : Y) → f x y ≡ f x' y' → y ≡ y') where
  map_elim : (x : X) (ys : List Y) (z : Z) → Memᴰ z (map (f x) ys) → (y : Y) × Memᴰ y ys × (z ≡ f x y)
  map_elim x [] z m = absurd (Memᴰ.not-nil m)
  map_elim x (y ∷ ys) z m = elim (Memᴰ.cases_cons m) [
    | inl e ↦ (y, Memᴰ.head refl, e)
    | inr k ↦ let r = map_elim x ys z k in (r.0, Memᴰ.tail r.1, r.2)
  ]

  distinct_map : (x : X) (ys : List Y) → Distinct ys → Distinct (map (f x) ys)
  distinct_map x [] d = tt
  distinct_map x (y ∷ ys) d =
      (λ m. let r = map_elim x ys (f x y) m in d.0 (Memᴰ.cast (two x x y r.0 r.2) r.1), distinct_map x ys d.1)

  pub distinct_combine : (xs : List X) (ys : List Y) → Distinct xs → Distinct ys → Distinct (combine f xs ys)
  unfolding combine
  distinct_combine [] ys d d' = tt
  distinct_combine (x ∷ xs) ys d d' = distinct_append (map (f x) ys) (combine f xs ys) (distinct_map x ys d') (distinct_combine xs ys d.1 d')
      (λ z m n.
      let r = map_elim x ys z m in
      let s = combine_elim f xs ys z n in
      d.0 (Memᴰ.cast (one x s.0 r.0 s.1 (sym r.2 ∙ s.4)) s.2))

module _ {X Y Z : Type 0} (f : X → Y → Z) where
  pub combine_length : (xs : List X) (ys : List Y) → length (combine f xs ys) ≡ length xs * length ys
  unfolding combine
  combine_length [] ys = omega arith
  combine_length (x ∷ xs) ys = omega (arith, length-append (map (f x) ys) (combine f xs ys), length-map ys (f x), combine_length xs ys)

-- the lookahead strings are listed once each
pub distinct_strings : (k n : ℕ) → Distinct (strings k n)
unfolding strings
distinct_strings zero n = (λ m. absurd (Memᴰ.not-nil m), tt)
distinct_strings (suc k) n =
    let longer = combine (λ a x. a ∷ x) (numbers_below n) (strings k n) in
    distinct_append longer ([] ∷ [])
    (distinct_combine (λ a x. a ∷ x) (λ a b x y e. cc e) (λ a b x y e. cc e) (numbers_below n) (strings k n) (distinct_numbers n) (distinct_strings k n))
    (λ m. absurd (Memᴰ.not-nil m), tt)
    (λ x m e.
    let r = combine_elim (λ a y. a ∷ y) (numbers_below n) (strings k n) x m in
    let z : ◌≡◌ {A = ℕ} 0 1 = cc (Memᴰ.eq_of_singleton e, r.4) in
    absurd (omega arith))
