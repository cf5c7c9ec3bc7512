-- Laws of 'some', 'every', 'how many' and 'the lowest': how to make, read and compare them.
use mathlib.Core.Bool.{Bool, true, false, not, ◌||◌}
use mathlib.Core.List.Memᴰ
use mathlib.Core.List.{List, [], ◌∷◌, Memᴰ}
use mathlib.Core.Logic.{◌↔◌, ◌⊎◌, inl, inr}
use mathlib.Core.Option.{none, some}
use mathlib.Core.Path.{◌≡◌, refl, ap₂}
use Prim.Native.Nat.{ℕ, zero, suc, ◌+◌, ◌≤◌, ◌<◌}
use native.Mathlib.Decide.{dec_lt, ℕ_discrete}
use native.Mathlib.Omega.{arith}
use lib.Dec.{T, T_not, not_T}
use Rattle.base.specs.Quantifiers.{one, any_below, all_of, count_below, any_of, lowest}
use Rattle.base.proofs.Booleans.{T_true, T_false, or_r, or_cases, and_make, and_l, test, and_r, or_l}

module _ {A : Type 0} where
  pub any_cong : (p q : A → Bool) (l : List A) → ((x : A) → Memᴰ x l → p x ≡ q x) → any_of p l ≡ any_of q l
  unfolding any_of
  any_cong p q [] h = refl
  any_cong p q (x ∷ xs) h =
      let a : p x ≡ q x = h x (Memᴰ.head refl) in
      let b : any_of p xs ≡ any_of q xs = any_cong p q xs (λ y m. h y (Memᴰ.tail m)) in
      cc

  pub all_cong : (p q : A → Bool) (l : List A) → ((x : A) → Memᴰ x l → p x ≡ q x) → all_of p l ≡ all_of q l
  unfolding all_of
  all_cong p q [] h = refl
  all_cong p q (x ∷ xs) h =
      let a : p x ≡ q x = h x (Memᴰ.head refl) in
      let b : all_of p xs ≡ all_of q xs = all_cong p q xs (λ y m. h y (Memᴰ.tail m)) in
      cc

  pub all_map : (p q : A → Bool) (l : List A) → ((x : A) → Memᴰ x l → T (p x) → T (q x)) → T (all_of p l) → T (all_of q l)
  unfolding all_of
  all_map p q [] h t = tt
  all_map p q (x ∷ xs) h t =
      and_make (q x) (all_of q xs) (h x (Memᴰ.head refl) (and_l (p x) (all_of p xs) t))
      (all_map p q xs (λ y m. h y (Memᴰ.tail m)) (and_r (p x) (all_of p xs) t))

  pub any_map : (p q : A → Bool) (l : List A) → ((x : A) → Memᴰ x l → T (p x) → T (q x)) → T (any_of p l) → T (any_of q l)
  unfolding any_of
  any_map p q [] h t = t
  any_map p q (x ∷ xs) h t = go (or_cases (p x) (any_of p xs) t) (any_map p q xs (λ y m. h y (Memᴰ.tail m)))
    where
      go : T (p x) ⊎ T (any_of p xs) → (T (any_of p xs) → T (any_of q xs)) → T (q x || any_of q xs)
      go (inl a) f = or_l (q x) (any_of q xs) (h x (Memᴰ.head refl) a)
      go (inr b) f = or_r (q x) (any_of q xs) (f b)

  pub all_elim : (p : A → Bool) (l : List A) → T (all_of p l) → (x : A) → Memᴰ x l → T (p x)
  unfolding all_of
  all_elim p [] t x m = absurd (Memᴰ.not-nil m)
  all_elim p (y ∷ ys) t x m = go (Memᴰ.cases_cons m) (all_elim p ys (and_r (p y) (all_of p ys) t) x)
    where
      go : (x ≡ y) ⊎ Memᴰ x ys → (Memᴰ x ys → T (p x)) → T (p x)
      go (inl e) f = rw e (and_l (p y) (all_of p ys) t)
      go (inr n) f = f n

  pub all_make : (p : A → Bool) (l : List A) → ((x : A) → Memᴰ x l → T (p x)) → T (all_of p l)
  unfolding all_of
  all_make p [] h = tt
  all_make p (x ∷ xs) h = and_make (p x) (all_of p xs) (h x (Memᴰ.head refl)) (all_make p xs (λ y m. h y (Memᴰ.tail m)))

  pub any_elim : (p : A → Bool) (l : List A) → T (any_of p l) → (x : A) × Memᴰ x l × T (p x)
  unfolding any_of
  any_elim p [] t = absurd t
  any_elim p (x ∷ xs) t = go (or_cases (p x) (any_of p xs) t) (any_elim p xs)
    where
      go : T (p x) ⊎ T (any_of p xs) → (T (any_of p xs) → (y : A) × Memᴰ y xs × T (p y)) → (y : A) × Memᴰ y (x ∷ xs) × T (p y)
      go (inl a) f = (x, Memᴰ.head refl, a)
      go (inr b) f = let r = f b in (r.0, Memᴰ.tail r.1, r.2)

  pub any_make : (p : A → Bool) (l : List A) (x : A) → Memᴰ x l → T (p x) → T (any_of p l)
  unfolding any_of
  any_make p [] x m t = absurd (Memᴰ.not-nil m)
  any_make p (y ∷ ys) x m t = go (Memᴰ.cases_cons m) (any_make p ys x)
    where
      go : (x ≡ y) ⊎ Memᴰ x ys → (Memᴰ x ys → T (p x) → T (any_of p ys)) → T (p y || any_of p ys)
      go (inl e) f = or_l (p y) (any_of p ys) (rw e at t)
      go (inr n) f = or_r (p y) (any_of p ys) (f n t)

pub below_cong : (n : ℕ) (p q : ℕ → Bool) → ((m : ℕ) → m < n → p m ≡ q m) → any_below n p ≡ any_below n q
unfolding any_below
below_cong zero p q h = refl
below_cong (suc n) p q h =
    let a : p n ≡ q n = h n (omega arith) in
    let b : any_below n p ≡ any_below n q = below_cong n p q (λ m l. h m (omega arith)) in
    cc

pub below_elim : (n : ℕ) (p : ℕ → Bool) → T (any_below n p) → (m : ℕ) × (m < n) × T (p m)
unfolding any_below
below_elim zero p t = absurd t
below_elim (suc n) p t = go (or_cases (p n) (any_below n p) t) (below_elim n p)
  where
    go : T (p n) ⊎ T (any_below n p) → (T (any_below n p) → (m : ℕ) × (m < n) × T (p m)) → (m : ℕ) × (m < suc n) × T (p m)
    go (inl a) f = (n, omega arith, a)
    go (inr b) f = let r = f b in (r.0, omega arith, r.2)

pub below_make : (n : ℕ) (p : ℕ → Bool) (m : ℕ) → m < n → T (p m) → T (any_below n p)
unfolding any_below
below_make zero p m l t = absurd (omega arith)
below_make (suc n) p m l t = go (ℕ_discrete m n) (below_make n p m)
  where
    go : Dec (m ≡ n) → (m < n → T (p m) → T (any_below n p)) → T (p n || any_below n p)
    go (yes e) f = or_l (p n) (any_below n p) (rw e at t)
    go (no e) f = or_r (p n) (any_below n p) (f (omega arith) t)

pub one_le : (b : Bool) → one b ≤ 1
one_le true = omega arith
one_le false = omega arith

one_mono : (a b : Bool) → (T a → T b) → one a ≤ one b
one_mono true true f = omega arith
one_mono true false f = absurd (f tt)
one_mono false b f = omega arith

one_lt : (a b : Bool) → T (not a) → T b → one a < one b
one_lt true b f g = absurd f
one_lt false true f g = omega arith
one_lt false false f g = absurd g

one_full : (b : Bool) → 1 ≤ one b → T b
one_full true h = tt
one_full false h = absurd (omega arith)

pub count_le : (n : ℕ) (p : ℕ → Bool) → count_below n p ≤ n
unfolding count_below
count_le zero p = omega arith
count_le (suc n) p = omega (arith, one_le (p n), count_le n p)

pub count_mono : (n : ℕ) (p q : ℕ → Bool) → ((m : ℕ) → T (p m) → T (q m)) → count_below n p ≤ count_below n q
unfolding count_below
count_mono zero p q h = omega arith
count_mono (suc n) p q h = omega (arith, one_mono (p n) (q n) (h n), count_mono n p q h)

pub count_cong : (n : ℕ) (p q : ℕ → Bool) → ((m : ℕ) → m < n → p m ≡ q m) → count_below n p ≡ count_below n q
unfolding count_below
count_cong zero p q h = refl
count_cong (suc n) p q h = ap₂ (λ b k. one b + k) (h n (omega arith)) (count_cong n p q (λ m l. h m (omega arith)))

-- the first number, and those above it
pub count_first : (n : ℕ) (p : ℕ → Bool) → count_below (suc n) p ≡ one (p 0) + count_below n (λ m. p (suc m))
unfolding count_below
count_first zero p = refl
count_first (suc n) p = let e = count_first n p in omega arith

pub count_lt : (n : ℕ) (p q : ℕ → Bool) → ((m : ℕ) → T (p m) → T (q m)) → (m : ℕ) → m < n → T (not (p m)) → T (q m) → count_below n p < count_below n q
unfolding count_below
count_lt zero p q h m l f g = absurd (omega arith)
count_lt (suc n) p q h m l f g = go (ℕ_discrete m n) (count_lt n p q h m)
  where
    go : Dec (m ≡ n) → (m < n → T (not (p m)) → T (q m) → count_below n p < count_below n q) → one (p n) + count_below n p < one (q n) + count_below n q
    go (yes e) r = omega (arith, one_lt (p n) (q n) (rw e at f) (rw e at g), count_mono n p q h)
    go (no e) r = omega (arith, one_mono (p n) (q n) (h n), r (omega arith) f g)

count_full : (n : ℕ) (p : ℕ → Bool) → n ≤ count_below n p → (m : ℕ) → m < n → T (p m)
unfolding count_below
count_full zero p h m l = absurd (omega arith)
count_full (suc n) p h m l = go (ℕ_discrete m n) (count_full n p)
  where
    go : Dec (m ≡ n) → (n ≤ count_below n p → (k : ℕ) → k < n → T (p k)) → T (p m)
    go (yes e) r = rw e (one_full (p n) (omega (arith, count_le n p)))
    go (no e) r = r (omega (arith, one_le (p n))) m (omega arith)

-- where one does not pass, not all are counted
pub count_short : (n : ℕ) (p : ℕ → Bool) (m : ℕ) → m < n → T (not (p m)) → count_below n p < n
count_short n p m l t = elim (dec_lt (count_below n p) n) [
  | yes h ↦ h
  | no h ↦ absurd (T_not (p m) t (count_full n p (omega arith) m l))
]

-- none below n passes
abbrev pub NoneBelow : ℕ → (ℕ → Bool) → Type 0
NoneBelow n p = (k : ℕ) → k < n → T (not (p k))

none_below : (n : ℕ) (p : ℕ → Bool) → T (not (any_below n p)) → NoneBelow n p
none_below n p t k l = not_T (p k) (λ u. T_not (any_below n p) t (below_make n p k l u))

lowest_found : (n : ℕ) (p : ℕ → Bool) → ((lowest n p ≡ none) × NoneBelow n p) ⊎ ((m : ℕ) × (lowest n p ≡ some m) × (m < n) × T (p m) × NoneBelow m p)
unfolding lowest
lowest_found zero p = inl (refl, λ k l. absurd (omega arith))
lowest_found (suc n) p = go (test (any_below n p)) (test (p n)) (lowest_found n p)
  where
    go : T (any_below n p) ⊎ T (not (any_below n p)) → T (p n) ⊎ T (not (p n))
        → ((lowest n p ≡ none) × NoneBelow n p) ⊎ ((m : ℕ) × (lowest n p ≡ some m) × (m < n) × T (p m) × NoneBelow m p)
        → ((lowest (suc n) p ≡ none) × NoneBelow (suc n) p) ⊎ ((m : ℕ) × (lowest (suc n) p ≡ some m) × (m < suc n) × T (p m) × NoneBelow m p)
    go (inl b) q (inl h) = let r = below_elim n p b in absurd (T_not (p r.0) (h.1 r.0 r.1) r.2)
    go (inl b) q (inr h) = inr (h.0, rw (T_true (any_below n p) b) h.1, omega (arith, h.2), h.3, h.4)
    go (inr b) (inl q) h = inr (n, rw (T_false (any_below n p) b, T_true (p n) q) refl, omega arith, q, none_below n p b)
    go (inr b) (inr q) h = inl (
      rw (T_false (any_below n p) b, T_false (p n) q) refl,
      λ k l. elim (ℕ_discrete k n) [
        | yes e ↦ rw e q
        | no e ↦ none_below n p b k (omega arith)
      ],
    )

-- the lowest passes and none below it does
pub lowest_some : (n : ℕ) (p : ℕ → Bool) (m : ℕ) → (lowest n p ≡ some m) ↔ ((m < n) × T (p m) × NoneBelow m p)
lowest_some n p m = elim (lowest_found n p) [
  | inl h ↦ (
    λ e. let z : ◌≡◌ {A = ℕ} 0 1 = cc h.0 in absurd (omega arith),
    λ f. absurd (T_not (p m) (h.1 m f.0) f.1),
  )
  | inr h ↦ (
    λ e. let d : m ≡ h.0 = cc h.1 in rw d (h.2, h.3, h.4),
    λ f. elim (dec_lt m h.0) [
      | yes l ↦ absurd (T_not (p m) (h.4 m l) f.1)
      | no l ↦ elim (dec_lt h.0 m) [
        | yes l' ↦ absurd (T_not (p h.0) (f.2 h.0 l') h.3)
        | no l' ↦ let d : m ≡ h.0 = omega arith in cc h.1
      ]
    ],
  )
]

-- there is no lowest just where none passes
pub lowest_none : (n : ℕ) (p : ℕ → Bool) → (lowest n p ≡ none) ↔ NoneBelow n p
lowest_none n p = elim (lowest_found n p) [
  | inl h ↦ (λ _. h.1, λ _. h.0)
  | inr h ↦ (
    λ e. let z : ◌≡◌ {A = ℕ} 0 1 = cc h.1 in absurd (omega arith),
    λ f. absurd (T_not (p h.0) (f h.0 h.2) h.3),
  )
]
