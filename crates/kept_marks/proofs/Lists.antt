-- Lists by their elements: two functions one after the other, and a function's values in a row.
use mathlib.Core.Path.{◌≡◌, refl, ap, fun_ext}
use mathlib.Core.List.{List, [], ◌∷◌, map}
use Prim.Native.Nat.{ℕ, zero, suc, ◌<◌}
use native.Mathlib.Omega.{arith}
use lib.Dec.{eqb, eqb-zero-suc, eqb-suc-zero, eqb-suc-suc}
use lib.ListN.{length, get_or, set}
use Rattle.base.specs.Choice.{choose}
use Rattle.kept_marks.specs.Stored.{values_of}

-- one function behind another
pub map_map : (f g : ℕ → ℕ) (l : List ℕ) → map g (map f l) ≡ map (λ x. g (f x)) l
map_map f g [] = refl
map_map f g (x ∷ l) = ap (λ (m : List ℕ). g (f x) ∷ m) (map_map f g l)

-- the values of a function
pub values_same : {f g : ℕ → ℕ} → ((m : ℕ) → f m ≡ g m) → (n : ℕ) → values_of f n ≡ values_of g n
values_same h n = ap (λ (k : ℕ → ℕ). values_of k n) (fun_ext h)

pub values_length : (f : ℕ → ℕ) (n : ℕ) → length (values_of f n) ≡ n
unfolding values_of
values_length f zero = refl
values_length f (suc n) = ap suc (values_length (λ m. f (suc m)) n)

pub values_at : (f : ℕ → ℕ) (n m d : ℕ) → m < n → get_or (values_of f n) m d ≡ f m
unfolding values_of
values_at f zero m d h = absurd (omega arith)
values_at f (suc n) zero d h = refl
values_at f (suc n) (suc m) d h = values_at (λ k. f (suc k)) n m d (omega arith)

-- those of a list
pub values_list : (g : ℕ → ℕ) (d : ℕ) (l : List ℕ) → values_of (λ m. g (get_or l m d)) (length l) ≡ map g l
unfolding values_of
values_list g d [] = refl
values_list g d (x ∷ l) = ap (λ (m : List ℕ). g x ∷ m) (values_list g d l)

pub elements : (l : List ℕ) → values_of (λ m. get_or l m 0) (length l) ≡ l
unfolding values_of
elements [] = refl
elements (x ∷ l) = ap (λ (m : List ℕ). x ∷ m) (elements l)

-- with another value at one place
pub values_set : (x : ℕ) (f : ℕ → ℕ) (m n : ℕ) → values_of (λ k. choose (eqb k m) x (f k)) n ≡ set (values_of f n) m x
unfolding values_of
values_set x f m zero = refl
values_set x f zero (suc n) =
    let here : choose (eqb 0 0) x (f 0) ≡ x = refl in
    let behind : values_of (λ k. choose (eqb (suc k) 0) x (f (suc k))) n ≡ values_of (λ k. f (suc k)) n = values_same (λ k. rw (eqb-suc-zero k)) n in
    cc
values_set x f (suc m) (suc n) =
    let here : choose (eqb 0 (suc m)) x (f 0) ≡ f 0 = rw (eqb-zero-suc m) in
    let same : values_of (λ k. choose (eqb (suc k) (suc m)) x (f (suc k))) n ≡ values_of (λ k. choose (eqb k m) x (f (suc k))) n =
    values_same (λ k. rw (eqb-suc-suc k m)) n in
    let behind : values_of (λ k. choose (eqb k m) x (f (suc k))) n ≡ set (values_of (λ k. f (suc k)) n) m x = values_set x (λ k. f (suc k)) m n in
    cc
