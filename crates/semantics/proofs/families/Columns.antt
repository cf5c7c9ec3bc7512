-- Lists in order, and the order of the entries for one token of lookahead: by nonterminal, then by column.
use mathlib.Core.Bool.{Bool, true, false, ◌&&◌, ◌||◌}
use mathlib.Core.List.Memᴰ
use mathlib.Core.List.{List, [], ◌∷◌, ◌++◌, map, Memᴰ}
use mathlib.Core.Logic.{◌⊎◌, inl, inr}
use mathlib.Core.Path.{◌≡◌, refl, sym, ap}
use Prim.Native.Nat.{ℕ, zero, suc, ◌≤◌, ◌<◌}
use native.Mathlib.Omega.{arith}
use Rattle.grammar.specs.Syntax.{Grammar}
use Rattle.base.specs.FiniteSets.{keep, numbers_from, numbers_below, combine}
use Rattle.semantics.specs.Families.{Clash}
use Rattle.base.specs.Strings.{strings, same_string}
use Rattle.semantics.specs.FirstFollow.{Entry, entries, First, Follow}
use Rattle.semantics.specs.Claims.{several, claims, overruns, clashes, column}
use Rattle.base.proofs.FiniteSets.{keep_elim, numbers_elim, combine_elim}
use Rattle.base.proofs.Distinct.{from_above}
use Rattle.semantics.proofs.families.Claims.{clashes_make}

-- each element comes before all that stand after it
abbrev Ordered : {X : Type 0} → (X → X → Type 0) → List X → Type 0
Ordered R [] = Unit {0}
Ordered {X} R (x ∷ l) = ((y : X) → Memᴰ y l → R x y) × Ordered R l

module _ {X : Type 0} (R : X → X → Type 0) where
  ordered_keep : (p : X → Bool) (l : List X) → Ordered R l → Ordered R (keep p l)
  unfolding keep
  ordered_keep p [] o = tt
  ordered_keep p (x ∷ l) o = go (p x) (ordered_keep p l o.1)
    where
      go : (b : Bool) → Ordered R (keep p l) → Ordered {X = X} R (elim b [ true ↦ x ∷ keep p l | false ↦ keep p l ])
      go true k = (λ y m. o.0 y (keep_elim p l y m).0, k)
      go false k = k

  ordered_append : (l l' : List X) → Ordered R l → Ordered R l' → ((x y : X) → Memᴰ x l → Memᴰ y l' → R x y) → Ordered R (l ++ l')
  ordered_append [] l' o o' h = o'
  ordered_append (x ∷ l) l' o o' h = (
    λ y m. elim (Memᴰ.append_cases l m) [ inl n ↦ o.0 y n | inr n ↦ h x y (Memᴰ.head refl) n ],
    ordered_append l l' o.1 o' (λ y z m n. h y z (Memᴰ.tail m) n),
  )

ordered_map : {X Y : Type 0} (R : X → X → Type 0) (S : Y → Y → Type 0) (f : X → Y) → ((x y : X) → R x y → S (f x) (f y))
    → (l : List X) → Ordered R l → Ordered S (map f l)
ordered_map R S f h [] o = tt
ordered_map R S f h (x ∷ l) o = (
  λ y m. let r = Memᴰ.of_map f l m in let e : y ≡ f r.0 = cc r.2 in rw e (h x r.0 (o.0 r.0 r.1)),
  ordered_map R S f h l o.1,
)

numbers_from_ordered : (a n : ℕ) → Ordered ◌<◌ (numbers_from a n)
unfolding numbers_from
numbers_from_ordered a zero = tt
numbers_from_ordered a (suc n) = (λ y m. omega (arith, from_above (suc a) n y m), numbers_from_ordered (suc a) n)

singles : (l : List ℕ) → combine (λ a x. a ∷ x) l ([] ∷ []) ≡ map (λ a. a ∷ []) l
unfolding combine
singles [] = refl
singles (a ∷ l) = ap (λ k. (a ∷ []) ∷ k) (singles l)

-- the lookahead strings of one token: the terminals in order, and the end last
pub strings_columns : (n : ℕ) → strings 1 n ≡ map (λ a. a ∷ []) (numbers_below n) ++ ([] ∷ [])
unfolding strings
strings_columns n = ap (λ l. l ++ ([] ∷ [])) (singles (numbers_below n))

-- the orders of strings and of entries where there are n terminals: by column; by nonterminal, then by column
abbrev ByColumn : ℕ → List ℕ → List ℕ → Type 0
ByColumn n x y = column n x ≤ column n y

abbrev Before : ℕ → Entry → Entry → Type 0
Before n e d = (e.0 < d.0) ⊎ ((e.0 ≡ d.0) × ByColumn n e.1 d.1)

columns_ordered : (n : ℕ) → Ordered (ByColumn n) (strings 1 n)
unfolding numbers_below
columns_ordered n = rw (strings_columns n) (ordered_append (ByColumn n) (map (λ a. a ∷ []) (numbers_below n)) ([] ∷ [])
    (ordered_map ◌<◌ (ByColumn n) (λ a. a ∷ []) (λ a b h. omega arith) (numbers_below n) (numbers_from_ordered 0 n))
    (λ y m. absurd (Memᴰ.not-nil m), tt) end_last)
  where
    end_last : (x y : List ℕ) → Memᴰ x (map (λ a. a ∷ []) (numbers_below n)) → Memᴰ y ([] ∷ []) → ByColumn n x y
    end_last x y m k =
        let r = Memᴰ.of_map (λ a. a ∷ []) (numbers_below n) m in
        let e : x ≡ r.0 ∷ [] = cc r.2 in
        let d : y ≡ [] = Memᴰ.eq_of_singleton k in
        let b = numbers_elim n r.0 r.1 in
        rw (e, d) (omega arith)

abbrev rows : List ℕ → List (List ℕ) → List Entry
rows = combine (λ A x. (A, x))

rows_ordered : (n : ℕ) (l : List ℕ) (xs : List (List ℕ)) → Ordered ◌<◌ l → Ordered (ByColumn n) xs → Ordered (Before n) (rows l xs)
unfolding combine
rows_ordered n [] xs o u = tt
rows_ordered n (A ∷ l) xs o u =
    ordered_append (Before n) (map (λ x. (A, x)) xs) (rows l xs)
    (ordered_map (ByColumn n) (Before n) (λ x. (A, x)) (λ x y h. inr (refl, h)) xs u) (rows_ordered n l xs o.1 u) row_first
  where
    row_first : (e d : Entry) → Memᴰ e (map (λ x. (A, x)) xs) → Memᴰ d (rows l xs) → Before n e d
    row_first e d m k =
        let r = Memᴰ.of_map {B = Entry} (λ x. (A, x)) xs m in
        let s = combine_elim {Z = Entry} (λ A x. (A, x)) l xs d k in
        let f : e ≡ (A, r.0) = cc r.2 in
        rw (f, s.4) (inl (o.0 s.0 s.2))

-- the first of the clashes comes before every other, by nonterminal, then by column
pub first_clash_lem : (G : Grammar) (A : ℕ) (x : List ℕ) (l : List Entry) → clashes G 1 ≡ (A, x) ∷ l
    → (B : ℕ) (y : List ℕ) → Clash G 1 (First G 1) (Follow G 1) B y → (A < B) ⊎ ((A ≡ B) × (column G.terminals x ≤ column G.terminals y))
unfolding clashes entries numbers_below
first_clash_lem G A x l e B y c = go (Memᴰ.cases_cons (rw e at (clashes_make G 1 B y c)))
  where
    n : ℕ
    n = G.terminals

    ordered : Ordered (Before n) ((A, x) ∷ l)
    ordered = rw e at (ordered_keep (Before n) (λ d. several (claims G 1 d) G.rules || (overruns G 1 d.0 && same_string (0 ∷ []) d.1)) (entries G 1)
        (rows_ordered n (numbers_below G.nonterminals) (strings 1 n) (numbers_from_ordered 0 G.nonterminals) (columns_ordered n)))

    go : ◌≡◌ {A = Entry} (B, y) (A, x) ⊎ Memᴰ (B, y) l → Before n (A, x) (B, y)
    go (inl f) = inr (ap (λ (e : Entry). e.0) (sym f), rw (ap (λ (e : Entry). e.1) f) (omega arith))
    go (inr m) = ordered.0 (B, y) m
