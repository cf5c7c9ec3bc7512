-- The parts of a concatenation, as the code goes: long strings of the first set, the second set where nothing comes before it, and with two tokens what
-- comes behind terminals alone.
use mathlib.Core.Path.{◌≡◌, refl, sym, ap, ap₂, ◌∙◌}
use mathlib.Core.Bool.{Bool, true, false, ◌&&◌, ◌||◌, or-false}
use mathlib.Core.List.{List, [], ◌∷◌, ◌++◌}
use mathlib.Core.Logic.{◌⊎◌, inl, inr}
use Prim.Native.Nat.{ℕ, suc, ◌-◌, ◌%◌, ◌^◌, ◌<◌}
use native.Mathlib.Omega.{arith}
use native.Mathlib.Decide.{dec_lt, ℕ_discrete}
use lib.Dec.{T, ltb, eqb→eq, lt→ltb, ltb→lt}
use lib.ListN.{length, take}
use Rattle.base.proofs.Booleans.{true_T, T_none, both, and_l, and_r, and_make, or_l, or_r, or_cases}
use Rattle.base.proofs.Quantified.{below_make, below_elim}
use Rattle.lookahead.specs.declared.Lookahead.{Lookahead}
use Rattle.lookahead.specs.declared.Lookahead.TheVariants.{One, Two}
use Rattle.lookahead.specs.Lookaheads.{tokens, elements, nothing, element_of, string_of}
use Rattle.lookahead.specs.inner.Lookaheads.{element_after}
use Rattle.lookahead.specs.Elements.{has}
use Rattle.lookahead.specs.inner.Operations.{is_empty, Joined, element_behind, in_concat, concat_numbers, Concatenated}
use Rattle.pair_rows.specs.inner.Rows.{Has, in_rows}
use Rattle.concatenation.specs.inner.Computing.{is_long, AllLong}
use Rattle.lookahead.proofs.Elements.{same_elements}
use Rattle.lookahead.proofs.Emptiness.{empty_none, some_element}
use Rattle.lookahead.proofs.Digits.{has_mask}
use Rattle.lookahead.proofs.Strings.{element_string, nothing_after}
use Rattle.lookahead.proofs.Operations.{has_concat, is_concat}
use Rattle.lookahead.proofs.Pairs.{Pair, behind_make, behind_elim, pair_in, in_pair}
use Rattle.concatenation.proofs.Cases.{one_long, two_long}

-- whatever comes behind a long string, it is looked at
long_after : (k : Lookahead) (a b : ℕ) → T (is_long k a) → element_after k a b ≡ a
unfolding is_long element_after
long_after k a b t =
    let e : length (string_of k a) ≡ tokens k = eqb→eq (length (string_of k a)) (tokens k) t in
    ap (λ n. element_of k (take n (string_of k a ++ string_of k b))) (sym e) ∙ ap (element_of k) (front (string_of k a) (string_of k b)) ∙ element_string k a
  where
    front : (x y : List ℕ) → take (length x) (x ++ y) ≡ x
    front [] y = refl
    front (a ∷ x) y = ap (λ z. a ∷ z) (front x y)

-- a string is long, or nothing, or a terminal alone before another token
abbrev Between : Lookahead → ℕ → Type 0
Between One a = ⊥
Between Two a = (l : ℕ) × (l < 7) × (a ≡ suc l)

shape : (k : Lookahead) (a : ℕ) → a < elements k → T (is_long k a) ⊎ ((a ≡ nothing k) ⊎ Between k a)
shape One a h = go (ℕ_discrete a 24)
  where
    go : Dec (a ≡ 24) → T (is_long One a) ⊎ ((a ≡ 24) ⊎ ⊥)
    go (yes e) = inr (inl e)
    go (no ne) = inl (true_T (is_long One a) (one_long a (omega arith)))
shape Two a h = go (dec_lt 0 a) (dec_lt a 8)
  where
    go : Dec (0 < a) → Dec (a < 8) → T (is_long Two a) ⊎ ((a ≡ 0) ⊎ ((l : ℕ) × (l < 7) × (a ≡ suc l)))
    go (no p) q = inr (inl (omega arith))
    go (yes p) (yes q) = inr (inr (a - 1, omega arith, omega arith))
    go (yes p) (no q) = inl (true_T (is_long Two a) (two_long a (omega arith)))

-- what comes behind a terminal alone
abbrev pub in_middle : Lookahead → ℕ → ℕ → ℕ → Bool
in_middle One x y l = false
in_middle Two x y l = in_rows x y 7 l

middle_make : (k : Lookahead) (x y l a b : ℕ) → Between k a → b < elements k → T (has x a) → T (has y b) → element_after k a b ≡ l → T (in_middle k x y l)
unfolding in_rows
middle_make One x y l a b m h s t e = absurd m
middle_make Two x y l a b m h s t e =
    below_make 7 (λ n. has x (suc n) && element_behind Two (suc n) y l) m.0 m.1
    (and_make (has x (suc m.0)) (element_behind Two (suc m.0) y l) (rw m.2 at s) (behind_make Two (suc m.0) y l b h t (rw m.2 at e)))

middle_elim : (k : Lookahead) (x y l : ℕ) → T (in_middle k x y l) → Pair k x y l
unfolding in_rows
middle_elim One x y l t = absurd t
middle_elim Two x y l t =
    let n = below_elim 7 (λ n. has x (suc n) && element_behind Two (suc n) y l) t in
    let b = behind_elim Two (suc n.0) y l (and_r (has x (suc n.0)) (element_behind Two (suc n.0) y l) n.2) in
    record {
      a = suc n.0;
      b = b.0;
      a_below = omega (arith, n.1);
      b_below = b.1;
      a_in = and_l (has x (suc n.0)) (element_behind Two (suc n.0) y l) n.2;
      b_in = b.2;
      is_after = b.3;
    }

module _ (k : Lookahead) (x y : ℕ) where
  -- the sets without what is no element
  abbrev first : ℕ
  first = x % 2 ^ elements k

  abbrev second : ℕ
  second = y % 2 ^ elements k

  low : (s a : ℕ) → T (has (s % 2 ^ elements k) a) → (a < elements k) × T (has s a)
  low s a t =
      let u = rw (has_mask s (elements k) a) at t in
      (ltb→lt a (elements k) (and_l (ltb a (elements k)) (has s a) u), and_r (ltb a (elements k)) (has s a) u)

  high : (s a : ℕ) → a < elements k → T (has s a) → T (has (s % 2 ^ elements k) a)
  high s a h t = rw (has_mask s (elements k) a) (and_make (ltb a (elements k)) (has s a) (lt→ltb a (elements k) h) t)

  abbrev parts : ℕ → Bool
  parts l = ((has first l && is_long k l) || (has first (nothing k) && has second l)) || in_middle k first second l

  to : is_empty second ≡ false → (l : ℕ) → T (parts l) → T (in_concat k x y l)
  to ne l t = elim (or_cases ((has first l && is_long k l) || (has first (nothing k) && has second l)) (in_middle k first second l) t) [
    | inl u ↦ elim (or_cases (has first l && is_long k l) (has first (nothing k) && has second l) u) [
      | inl v ↦
          let a = low x l (and_l (has first l) (is_long k l) v) in
          let e = some_element second ne in
          let b = low y e.0 e.1 in
          pair_in k x y l (record
          { a = l; b = e.0; a_below = a.0; b_below = b.0; a_in = a.1; b_in = b.1; is_after = long_after k l e.0 (and_r (has first l) (is_long k l) v) })
      | inr v ↦
          let a = low x (nothing k) (and_l (has first (nothing k)) (has second l) v) in
          let b = low y l (and_r (has first (nothing k)) (has second l) v) in
          pair_in k x y l (record { a = nothing k; b = l; a_below = a.0; b_below = b.0; a_in = a.1; b_in = b.1; is_after = nothing_after k l })
    ]
    | inr u ↦
        let p = middle_elim k first second l u in
        pair_in k x y l (record {
          a = p.a;
          b = p.b;
          a_below = p.a_below;
          b_below = p.b_below;
          a_in = (low x p.a p.a_in).1;
          b_in =
              (low y p.b p.b_in).1;
          is_after = p.is_after;
        })
  ]

  from : (l : ℕ) → T (in_concat k x y l) → T (parts l)
  from l t = let p = in_pair k x y l t in go p (shape k p.a p.a_below)
    where
      left : T ((has first l && is_long k l) || (has first (nothing k) && has second l)) → T (parts l)
      left u = or_l ((has first l && is_long k l) || (has first (nothing k) && has second l)) (in_middle k first second l) u

      go : (p : Pair k x y l) → T (is_long k p.a) ⊎ ((p.a ≡ nothing k) ⊎ Between k p.a) → T (parts l)
      go p (inl u) =
          let e : p.a ≡ l = sym (long_after k p.a p.b u) ∙ p.is_after in
          left (or_l (has first l && is_long k l) (has first (nothing k) && has second l)
          (and_make (has first l) (is_long k l) (rw e at (high x p.a p.a_below p.a_in)) (rw e at u)))
      go p (inr (inl u)) =
          let e : p.b ≡ l = cc (nothing_after k p.b) in
          left (or_r (has first l && is_long k l) (has first (nothing k) && has second l)
          (and_make (has first (nothing k)) (has second l) (rw u at (high x p.a p.a_below p.a_in)) (rw e at (high y p.b p.b_below p.b_in))))
      go p (inr (inr u)) =
          or_r ((has first l && is_long k l) || (has first (nothing k) && has second l)) (in_middle k first second l)
          (middle_make k first second l p.a p.b u p.b_below (high x p.a p.a_below p.a_in)
          (high y p.b p.b_below p.b_in) p.is_after)

  -- what has the parts' elements is the concatenation
  concat_made : is_empty second ≡ false → {r : ℕ} → Has r parts → Concatenated k x y r
  concat_made ne {r} h =
      is_concat k (same_elements r (concat_numbers k x y) (λ l. h l ∙ both (parts l) (in_concat k x y l) (to ne l) (from l) ∙ sym (has_concat k x y l)))

  -- long strings stay, whatever follows
  pub concat_long : {f s : ℕ} → f ≡ first → s ≡ second → is_empty s ≡ false → AllLong k f → Concatenated k x y f
  concat_long {f} a b ne long =
      is_concat k (same_elements f (concat_numbers k x y) (λ l. both (has f l) (in_concat k x y l) (stays l) (comes l) ∙ sym (has_concat k x y l)))
    where
      stays : (l : ℕ) → T (has f l) → T (in_concat k x y l)
      stays l t =
          let p = low x l (rw a at t) in
          let e = some_element second (rw b at ne) in
          let q = low y e.0 e.1 in
          pair_in k x y l (record
          { a = l; b = e.0; a_below = p.0; b_below = q.0; a_in = p.1; b_in = q.1; is_after = long_after k l e.0 (long l t) })

      comes : (l : ℕ) → T (in_concat k x y l) → T (has f l)
      comes l t =
          let p = in_pair k x y l t in
          let u : T (has f p.a) = rw a (high x p.a p.a_below p.a_in) in
          let e : p.a ≡ l = sym (long_after k p.a p.b (long p.a u)) ∙ p.is_after in
          rw e at u

  pub concat_empty : {r : ℕ} → r ≡ second → is_empty r ≡ true → Concatenated k x y r
  concat_empty {r} d e =
      is_concat k (same_elements r (concat_numbers k x y) (λ l. empty_none r l e ∙ sym (has_concat k x y l ∙ T_none (in_concat k x y l) (none l))))
    where
      none : (l : ℕ) → T (in_concat k x y l) → ⊥
      none l t = let p = in_pair k x y l t in rw (← d, empty_none r p.b e) at (high y p.b p.b_below p.b_in)

-- with one token there are two parts, with two tokens three
module _ (k : Lookahead) (x y : ℕ) where
  abbrev two_parts : ℕ → Bool
  two_parts l = (has (x % 2 ^ elements k) l && is_long k l) || (has (x % 2 ^ elements k) (nothing k) && has (y % 2 ^ elements k) l)

  module _ {f s long before : ℕ} (a : f ≡ x % 2 ^ elements k) (b : s ≡ y % 2 ^ elements k) (e : is_empty s ≡ false)
      (g : Has long (λ l. has f l && is_long k l)) (h : Has before (λ l. has f (nothing k) && has s l)) where
    two_parts_lem : {r : ℕ} → Joined long before r → Has r two_parts
    two_parts_lem i l =
        let g' : Has long (λ l. has (x % 2 ^ elements k) l && is_long k l) = rw a at g in
        let h' : Has before (λ l. has (x % 2 ^ elements k) (nothing k) && has (y % 2 ^ elements k) l) = rw (a, b) at h in
        i.member l ∙ ap₂ ◌||◌ (g' l) (h' l)

    pub concat_one : {r : ℕ} → k ≡ One → Joined long before r → Concatenated k x y r
    concat_one o i = concat_made k x y (rw b at e) (λ l. two_parts_lem i l ∙ sym (or-false (two_parts l)) ∙ ap (two_parts l ||◌) (none k o _ _ l))
      where
        none : (k : Lookahead) → k ≡ One → (u v l : ℕ) → false ≡ in_middle k u v l
        none k o u v l = rw o refl

    pub concat_two : {r both rows : ℕ} → k ≡ Two → Joined long before both → Has rows (in_rows f s 7) → Joined both rows r → Concatenated k x y r
    concat_two {rows = rows} o i m j =
        let m' : Has rows (in_rows (x % 2 ^ elements k) (y % 2 ^ elements k) 7) = rw (a, b) at m in
        concat_made k x y (rw b at e) (λ l. j.member l ∙ ap₂ ◌||◌ (two_parts_lem i l) (m' l ∙ some k o _ _ l))
      where
        some : (k : Lookahead) → k ≡ Two → (u v l : ℕ) → in_rows u v 7 l ≡ in_middle k u v l
        some k o u v l = rw o refl
