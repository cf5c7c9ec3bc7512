-- How spans and lookahead strings are cut and joined.
use mathlib.Core.Bool.{Bool}
use mathlib.Core.List.{List, [], ◌∷◌, ◌++◌}
use mathlib.Core.Path.{◌≡◌, refl, sym, ap, ◌∙◌}
use Prim.Native.Nat.{ℕ, zero, suc, ◌+◌, ◌-◌, ◌≤◌, ◌<◌}
use native.Mathlib.Omega.{arith}
use lib.Dec.{T}
use lib.ListN.{length, get_or, take, drop, length-take, length-drop, take-append-drop}
use lib.Seq.{take-take, take-nil, take-add, drop-drop, drop-cons, drop-length}
use Rattle.base.specs.Quantifiers.{all_of}
use Rattle.base.specs.inner.Strings.{span}
use Rattle.base.specs.Strings.{look}
use Rattle.base.proofs.Booleans.{and_l, and_r, and_make}

-- to cut the parts to at least n does not change the first n of the whole
pub take_cut : (n a b : ℕ) (xs ys : List ℕ) → n ≤ a → n ≤ b → take n (take a xs ++ take b ys) ≡ take n (xs ++ ys)
take_cut zero a b xs ys p q = refl
take_cut (suc n) zero b xs ys p q = absurd (omega arith)
take_cut (suc n) (suc a) b [] ys p q = take-take (suc n) b ys q
take_cut (suc n) (suc a) b (x ∷ xs) ys p q = ap {B = List ℕ} (λ l. x ∷ l) (take_cut n a b xs ys (omega arith) (omega arith))

-- what lies from i on is the span up to j and what lies from j on
drop_split : (w : List ℕ) (i j : ℕ) → i ≤ j → span w i j ++ drop j w ≡ drop i w
unfolding span
drop_split w i j h =
    let e : i + (j - i) ≡ j = omega arith in
    let d : drop (j - i) (drop i w) ≡ drop j w = drop-drop (j - i) i w ∙ ap (λ n. drop n w) e in
    rw (← d) (take-append-drop (j - i) (drop i w))

pub span_none : (w : List ℕ) (i : ℕ) → span w i i ≡ []
unfolding span
span_none w i = let e : i - i ≡ 0 = omega arith in rw e

pub span_split : (w : List ℕ) (i m j : ℕ) → i ≤ m → m ≤ j → span w i j ≡ span w i m ++ span w m j
unfolding span
span_split w i m j im mj =
    let e : j - i ≡ (m - i) + (j - m) = omega arith in
    let f : i + (m - i) ≡ m = omega arith in
    let d : drop (m - i) (drop i w) ≡ drop m w = drop-drop (m - i) i w ∙ ap (λ n. drop n w) f in
    rw (e, take-add (m - i) (j - m) (drop i w), d)

pub span_cons : (w : List ℕ) (i j : ℕ) → i < j → i < length w → span w i j ≡ get_or w i 0 ∷ span w (suc i) j
unfolding span
span_cons w i j h l =
    let e : j - i ≡ suc (j - suc i) = omega arith in
    rw (e, drop-cons w i 0)

pub look_split : (k : ℕ) (w : List ℕ) (i j : ℕ) → i ≤ j → look k w i ≡ take k (take k (span w i j) ++ look k w j)
unfolding look
look_split k w i j h = sym (take_cut k k k (span w i j) (drop j w) (omega arith) (omega arith) ∙ ap (take k) (drop_split w i j h))

pub look_end : (k : ℕ) (w : List ℕ) → look k w (length w) ≡ []
unfolding look
look_end k w = rw drop-length (take-nil k)

-- an empty lookahead string is that of the end
pub look_none : (k : ℕ) (w : List ℕ) (i : ℕ) → 0 < k → i ≤ length w → look k w i ≡ [] → i ≡ length w
unfolding look
look_none k w i h l e = omega (arith, length-take k (drop i w), length-drop i w, ap length e)

pub all_take : (p : ℕ → Bool) (n : ℕ) (l : List ℕ) → T (all_of p l) → T (all_of p (take n l))
unfolding all_of
all_take p zero l t = tt
all_take p (suc n) [] t = tt
all_take p (suc n) (x ∷ l) t = and_make (p x) (all_of p (take n l)) (and_l (p x) (all_of p l) t) (all_take p n l (and_r (p x) (all_of p l) t))

pub all_drop : (p : ℕ → Bool) (n : ℕ) (l : List ℕ) → T (all_of p l) → T (all_of p (drop n l))
unfolding all_of
all_drop p zero l t = t
all_drop p (suc n) [] t = tt
all_drop p (suc n) (x ∷ l) t = all_drop p n l (and_r (p x) (all_of p l) t)

pub all_span : (p : ℕ → Bool) (k : ℕ) (w : List ℕ) (i j : ℕ) → T (all_of p w) → T (all_of p (take k (span w i j)))
unfolding span
all_span p k w i j t = all_take p k _ (all_take p (j - i) _ (all_drop p i w t))

pub take_short : (k : ℕ) (l : List ℕ) → length (take k l) ≤ k
take_short k l = omega (arith, length-take k l)
