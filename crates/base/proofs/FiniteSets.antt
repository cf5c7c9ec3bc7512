-- Laws of finite sets written out as lists: membership, and how many members pass.
use mathlib.Core.Bool.{Bool, true, false}
use mathlib.Core.List.Memᴰ
use mathlib.Core.List.{List, [], ◌∷◌, ◌++◌, map, Memᴰ}
use mathlib.Core.Logic.{◌⊎◌, inl, inr}
use mathlib.Core.Path.{◌≡◌, refl, ap, ◌∙◌}
use Prim.Native.Nat.{ℕ, zero, suc, ◌+◌, ◌≤◌, ◌<◌}
use native.Mathlib.Decide.{ℕ_discrete}
use native.Mathlib.Omega.{arith}
use lib.Dec.{T, eqb, eqb→eq, eqb_refl}
use lib.ListN.{length}
use Rattle.base.specs.FiniteSets.{member, keep, distinct, numbers_from, numbers_below, combine}
use Rattle.base.proofs.Booleans.{T_subst, true_T}
use Rattle.base.proofs.Quantified.{any_elim, any_make}

-- a test that decides equality
pub record Equality {X : Type 0} (same : X → X → Bool) : Type 0 where
  pub equal : (x y : X) → T (same x y) → x ≡ y
  pub itself : (x : X) → T (same x x)

pub numbers_equality : Equality eqb
numbers_equality = record { equal = eqb→eq; itself = eqb_refl }

module _ {X : Type 0} (same : X → X → Bool) (eq : Equality same) where
  pub member_mem : (l : List X) (x : X) → T (member same l x) → Memᴰ x l
  unfolding member
  member_mem l x t = let r = any_elim (same x) l t in Memᴰ.cast (eq.equal x r.0 r.2) r.1

  pub mem_member : (l : List X) (x : X) → Memᴰ x l → T (member same l x)
  unfolding member
  mem_member l x m = any_make (same x) l x m (eq.itself x)

  -- to leave out repetitions changes no membership
  pub distinct_make : (l : List X) (x : X) → Memᴰ x l → Memᴰ x (distinct same l)
  unfolding distinct
  distinct_make [] x m = m
  distinct_make (y ∷ l) x m = go (Memᴰ.cases_cons m) (member same (distinct same l) y) refl (distinct_make l x)
    where
      go : (x ≡ y) ⊎ Memᴰ x l → (b : Bool) → member same (distinct same l) y ≡ b → (Memᴰ x l → Memᴰ x (distinct same l))
          → Memᴰ x (elim b [ true ↦ distinct same l | false ↦ y ∷ distinct same l ])
      go (inl e) true d f = Memᴰ.cast e (member_mem (distinct same l) y (true_T _ d))
      go (inl e) false d f = Memᴰ.head e
      go (inr n) true d f = f n
      go (inr n) false d f = Memᴰ.tail (f n)

  pub distinct_elim : (l : List X) (x : X) → Memᴰ x (distinct same l) → Memᴰ x l
  unfolding distinct
  distinct_elim [] x m = m
  distinct_elim (y ∷ l) x m = go (member same (distinct same l) y) (distinct_elim l x) m
    where
      go : (b : Bool) → (Memᴰ x (distinct same l) → Memᴰ x l)
          → Memᴰ x (elim b [ true ↦ distinct same l | false ↦ y ∷ distinct same l ])
          → Memᴰ x (y ∷ l)
      go true f n = Memᴰ.tail (f n)
      go false f n = elim (Memᴰ.cases_cons n) [ inl e ↦ Memᴰ.head e | inr k ↦ Memᴰ.tail (f k) ]

module _ {X : Type 0} where
  pub keep_make : (p : X → Bool) (l : List X) (x : X) → Memᴰ x l → T (p x) → Memᴰ x (keep p l)
  unfolding keep
  keep_make p [] x m t = m
  keep_make p (y ∷ l) x m t = go (Memᴰ.cases_cons m) (p y) refl (λ n. keep_make p l x n t)
    where
      go : (x ≡ y) ⊎ Memᴰ x l → (b : Bool) → p y ≡ b → (Memᴰ x l → Memᴰ x (keep p l))
          → Memᴰ x (elim b [ true ↦ y ∷ keep p l | false ↦ keep p l ])
      go (inl e) true q f = Memᴰ.head e
      go (inl e) false q f = absurd (T_subst (ap p e ∙ q) t)
      go (inr n) true q f = Memᴰ.tail (f n)
      go (inr n) false q f = f n

  pub keep_elim : (p : X → Bool) (l : List X) (x : X) → Memᴰ x (keep p l) → Memᴰ x l × T (p x)
  unfolding keep
  keep_elim p [] x m = absurd (Memᴰ.not-nil m)
  keep_elim p (y ∷ l) x m = go (p y) refl (keep_elim p l x) m
    where
      go : (b : Bool) → p y ≡ b → (Memᴰ x (keep p l) → Memᴰ x l × T (p x))
          → Memᴰ x (elim b [ true ↦ y ∷ keep p l | false ↦ keep p l ]) → Memᴰ x (y ∷ l) × T (p x)
      go false q f m = let r = f m in (Memᴰ.tail r.0, r.1)
      go true q f m = elim (Memᴰ.cases_cons m) [
        | inl e ↦ (Memᴰ.head e, true_T (p x) (ap p e ∙ q))
        | inr n ↦ let r = f n in (Memᴰ.tail r.0, r.1)
      ]

  abbrev Within : (X → Bool) → (X → Bool) → List X → Type 0
  Within p q l = (x : X) → Memᴰ x l → T (p x) → T (q x)

  -- what passes the weaker test is at least as much, and where it is no more, both pass the same
  pub keep_grows : (p q : X → Bool) (l : List X) → Within p q l → length (keep p l) ≤ length (keep q l)
  unfolding keep
  keep_grows p q [] h = omega arith
  keep_grows p q (y ∷ l) h = go (p y) (q y) refl refl (keep_grows p q l (λ x m. h x (Memᴰ.tail m)))
    where
      go : (a b : Bool) → p y ≡ a → q y ≡ b → length (keep p l) ≤ length (keep q l)
          → length {A = X} (elim a [ true ↦ y ∷ keep p l | false ↦ keep p l ]) ≤ length {A = X} (elim b [ true ↦ y ∷ keep q l | false ↦ keep q l ])
      go true true d e i = omega arith
      go true false d e i = absurd (T_subst e (h y (Memᴰ.head refl) (true_T (p y) d)))
      go false true d e i = omega arith
      go false false d e i = i

  pub keep_same : (p q : X → Bool) (l : List X) → Within p q l → length (keep q l) ≤ length (keep p l) → Within q p l
  unfolding keep
  keep_same p q [] h le x m t = absurd (Memᴰ.not-nil m)
  keep_same p q (y ∷ l) h le x m t =
      let rest : Within p q l = λ z n. h z (Memᴰ.tail n) in
      go (p y) (q y) refl refl le (keep_grows p q l rest) (λ le n. keep_same p q l rest le x n t) (Memᴰ.cases_cons m)
    where
      go : (a b : Bool) → p y ≡ a → q y ≡ b
          → length {A = X} (elim b [ true ↦ y ∷ keep q l | false ↦ keep q l ]) ≤ length {A = X} (elim a [ true ↦ y ∷ keep p l | false ↦ keep p l ])
          → length (keep p l) ≤ length (keep q l) → (length (keep q l) ≤ length (keep p l) → Memᴰ x l → T (p x)) → (x ≡ y) ⊎ Memᴰ x l
          → T (p x)
      go true b d e le i f (inl z) = true_T (p x) (ap p z ∙ d)
      go false true d e le i f (inl z) = absurd (omega arith)
      go false false d e le i f (inl z) = absurd (T_subst (ap q z ∙ e) t)
      go true true d e le i f (inr n) = f (omega arith) n
      go true false d e le i f (inr n) = absurd (T_subst e (h y (Memᴰ.head refl) (true_T (p y) d)))
      go false true d e le i f (inr n) = absurd (omega arith)
      go false false d e le i f (inr n) = f le n

  pub keep_all : (l : List X) → keep (λ _. true) l ≡ l
  unfolding keep
  keep_all [] = refl
  keep_all (x ∷ l) = ap (λ k. x ∷ k) (keep_all l)

  pub keep_none : (l : List X) → keep (λ _. false) l ≡ []
  unfolding keep
  keep_none [] = refl
  keep_none (x ∷ l) = keep_none l

numbers_from_make : (a n b : ℕ) → a ≤ b → b < a + n → Memᴰ b (numbers_from a n)
unfolding numbers_from
numbers_from_make a zero b h l = absurd (omega arith)
numbers_from_make a (suc n) b h l = go (ℕ_discrete b a) (numbers_from_make (suc a) n b)
  where
    go : Dec (b ≡ a) → (suc a ≤ b → b < suc a + n → Memᴰ b (numbers_from (suc a) n)) → Memᴰ b (a ∷ numbers_from (suc a) n)
    go (yes e) f = Memᴰ.head e
    go (no e) f = Memᴰ.tail (f (omega arith) (omega arith))

numbers_from_elim : (a n b : ℕ) → Memᴰ b (numbers_from a n) → b < a + n
unfolding numbers_from
numbers_from_elim a zero b m = absurd (Memᴰ.not-nil m)
numbers_from_elim a (suc n) b m = go (Memᴰ.cases_cons m) (numbers_from_elim (suc a) n b)
  where
    go : (b ≡ a) ⊎ Memᴰ b (numbers_from (suc a) n) → (Memᴰ b (numbers_from (suc a) n) → b < suc a + n) → b < a + suc n
    go (inl e) f = omega arith
    go (inr k) f = omega (arith, f k)

numbers_from_length : (a n : ℕ) → length (numbers_from a n) ≡ n
unfolding numbers_from
numbers_from_length a zero = refl
numbers_from_length a (suc n) = ap suc (numbers_from_length (suc a) n)

pub numbers_make : (n a : ℕ) → a < n → Memᴰ a (numbers_below n)
unfolding numbers_below
numbers_make n a h = numbers_from_make 0 n a (omega arith) (omega arith)

pub numbers_elim : (n a : ℕ) → Memᴰ a (numbers_below n) → a < n
unfolding numbers_below
numbers_elim n a m = omega (arith, numbers_from_elim 0 n a m)

pub numbers_length : (n : ℕ) → length (numbers_below n) ≡ n
unfolding numbers_below
numbers_length n = numbers_from_length 0 n

module _ {X Y Z : Type 0} (f : X → Y → Z) where
  pub combine_make : (xs : List X) (ys : List Y) (x : X) (y : Y) → Memᴰ x xs → Memᴰ y ys → Memᴰ (f x y) (combine f xs ys)
  unfolding combine
  combine_make [] ys x y m n = absurd (Memᴰ.not-nil m)
  combine_make (x' ∷ xs) ys x y m n = go (Memᴰ.cases_cons m) (λ k. combine_make xs ys x y k n)
    where
      go : (x ≡ x') ⊎ Memᴰ x xs → (Memᴰ x xs → Memᴰ (f x y) (combine f xs ys)) → Memᴰ (f x y) (map (f x') ys ++ combine f xs ys)
      go (inl e) g = rw e (Memᴰ.append_left (combine f xs ys) (Memᴰ.map (f x') n))
      go (inr k) g = Memᴰ.append_right (map (f x') ys) (g k)

  pub combine_elim : (xs : List X) (ys : List Y) (z : Z) → Memᴰ z (combine f xs ys)
      → (x : X) × (y : Y) × Memᴰ x xs × Memᴰ y ys × (z ≡ f x y)
  unfolding combine
  combine_elim [] ys z m = absurd (Memᴰ.not-nil m)
  combine_elim (x ∷ xs) ys z m = go (Memᴰ.append_cases (map (f x) ys) m) (combine_elim xs ys z)
    where
      go : Memᴰ z (map (f x) ys) ⊎ Memᴰ z (combine f xs ys)
          → (Memᴰ z (combine f xs ys) → (x : X) × (y : Y) × Memᴰ x xs × Memᴰ y ys × (z ≡ f x y))
          → (x' : X) × (y : Y) × Memᴰ x' (x ∷ xs) × Memᴰ y ys × (z ≡ f x' y)
      go (inl k) g = let r = Memᴰ.of_map (f x) ys k in let e : z ≡ f x r.0 = cc r.2 in (x, r.0, Memᴰ.head refl, r.1, e)
      go (inr k) g = let r = g k in (r.0, r.1, Memᴰ.tail r.2, r.3, r.4)
