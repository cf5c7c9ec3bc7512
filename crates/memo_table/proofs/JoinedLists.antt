-- Finite sets written out as lists, put together: what is kept of them, their combinations, and one number more.
use mathlib.Core.Bool.{Bool, true, false}
use mathlib.Core.List.{List, [], ◌∷◌, ◌++◌, map, append-nil, append_assoc}
use mathlib.Core.Path.{◌≡◌, refl, sym, ap, ◌∙◌}
use Prim.Native.Nat.{ℕ, zero, suc, ◌+◌}
use native.Mathlib.Omega.{arith}
use lib.ListN.{length}
use Rattle.base.specs.FiniteSets.{keep, numbers_from, numbers_below, combine}
use Rattle.base.specs.Quantifiers.{one}

module _ {X : Type 0} (p : X → Bool) where
  pub keep_append : (l l' : List X) → keep p (l ++ l') ≡ keep p l ++ keep p l'
  unfolding keep
  keep_append [] l' = refl
  keep_append (x ∷ l) l' = go (p x) (keep_append l l')
    where
      go : (b : Bool) → keep p (l ++ l') ≡ keep p l ++ keep p l'
          → ◌≡◌ {A = List X} (elim b [ true ↦ x ∷ keep p (l ++ l') | false ↦ keep p (l ++ l') ])
          (elim b as (λ _. List X) [ true ↦ x ∷ keep p l | false ↦ keep p l ] ++ keep p l')
      go true e = ap {B = List X} (λ r. x ∷ r) e
      go false e = e

  -- of one element, it or nothing is kept
  pub keep_one : (x : X) → length (keep p (x ∷ [])) ≡ one (p x)
  unfolding keep
  keep_one x = go (p x)
    where
      go : (b : Bool) → length {A = X} (elim b as (λ _. List X) [ true ↦ x ∷ [] | false ↦ [] ]) ≡ one b
      go true = refl
      go false = refl

numbers_from_more : (a n : ℕ) → numbers_from a (suc n) ≡ numbers_from a n ++ ((a + n) ∷ [])
unfolding numbers_from
numbers_from_more a zero = let e : a ≡ a + 0 = omega arith in ap {B = List ℕ} (λ b. b ∷ []) e
numbers_from_more a (suc n) = let e : suc a + n ≡ a + suc n = omega arith in ap {B = List ℕ} (λ l. a ∷ l) (rw (← e) (numbers_from_more (suc a) n))

pub numbers_more : (n : ℕ) → numbers_below (n + 1) ≡ numbers_below n ++ (n ∷ [])
unfolding numbers_below
numbers_more n =
    let e : n + 1 ≡ suc n = omega arith in
    let d : 0 + n ≡ n = omega arith in
    ap (numbers_from 0) e ∙ numbers_from_more 0 n ∙ ap (λ b. numbers_from 0 n ++ (b ∷ [])) d

module _ {X Y Z : Type 0} (f : X → Y → Z) (ys : List Y) where
  combine_append : (xs xs' : List X) → combine f (xs ++ xs') ys ≡ combine f xs ys ++ combine f xs' ys
  unfolding combine
  combine_append [] xs' = refl
  combine_append (x ∷ xs) xs' = ap (λ l. map (f x) ys ++ l) (combine_append xs xs') ∙ sym (append_assoc (map (f x) ys) (combine f xs ys) (combine f xs' ys))

  -- one element more of the first list adds a row
  pub combine_more : (xs : List X) (x : X) → combine f (xs ++ (x ∷ [])) ys ≡ combine f xs ys ++ map (f x) ys
  unfolding combine
  combine_more xs x = combine_append xs (x ∷ []) ∙ ap (λ l. combine f xs ys ++ l) (append-nil (map (f x) ys))
