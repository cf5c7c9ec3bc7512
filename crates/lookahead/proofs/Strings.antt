-- The strings of at most as many tokens as are looked at and the elements that stand for them, one to one, and how they follow one another.
use mathlib.Core.Path.{◌≡◌, refl, sym, ap, ap₂, ◌∙◌}
use mathlib.Core.List.{List, [], ◌∷◌, ◌++◌, append-nil, append_assoc}
use Prim.Native.Nat.{ℕ, ◌+◌, ◌-◌, ◌*◌, ◌/◌, ◌%◌, ◌≤◌, ◌<◌}
use native.Mathlib.Omega.{arith}
use native.Mathlib.Decide.{dec_lt, ℕ_discrete}
use lib.Dec.{ltb, ltb→lt, lt→ltb}
use lib.ListN.{length, take}
use lib.Seq.{take_all}
use borrow.Author.Tests.{ne_eqb, lt-ltb, le-ltb}
use Rattle.base.specs.Quantifiers.{all_of}
use Rattle.base.proofs.Booleans.{and_l, and_r, and_make}
use Rattle.base.proofs.Quantified.{all_map}
use Rattle.base.specs.Strings.{Over, Lookahead as Looked}
use Rattle.base.proofs.Strings.{take_cut}
use Rattle.base.proofs.LookaheadStrings.{cut_lookahead, cut_none}
use Rattle.lookahead.specs.declared.Lookahead.{Lookahead}
use Rattle.lookahead.specs.declared.Lookahead.TheVariants.{One, Two}
use Rattle.lookahead.specs.Lookaheads.{tokens, elements, nothing, element_of, string_of}
use Rattle.lookahead.specs.inner.Lookaheads.{alphabet, element_after}

-- with two tokens: a terminal alone, and a pair
pub two_single : (l : ℕ) → 0 < l → l < 8 → string_of Two l ≡ (l - 1) ∷ []
unfolding string_of
two_single l h b = rw (ne_eqb l 0 (λ e. omega arith), lt-ltb l 8 b)

pub two_pair : (l : ℕ) → 8 ≤ l → string_of Two l ≡ ((l - 8) / 7) ∷ ((l - 8) % 7) ∷ []
unfolding string_of
two_pair l h = rw (ne_eqb l 0 (λ e. omega arith), le-ltb l 8 h)

-- with one: a terminal
pub one_terminal : (l : ℕ) → (l ≡ 24 → ⊥) → string_of One l ≡ l ∷ []
unfolding string_of
one_terminal l h = rw (ne_eqb l 24 h)

pub string_nothing : (k : Lookahead) → string_of k (nothing k) ≡ []
unfolding string_of
string_nothing One = refl
string_nothing Two = refl

-- the element of an element's string is it
pub element_string : (k : Lookahead) (l : ℕ) → element_of k (string_of k l) ≡ l
element_string One l = go (ℕ_discrete l 24)
  where
    go : Dec (l ≡ 24) → element_of One (string_of One l) ≡ l
    go (yes e) = rw (e, string_nothing One)
    go (no ne) = rw (one_terminal l ne)
element_string Two l = go (dec_lt 0 l) (dec_lt l 8)
  where
    go : Dec (0 < l) → Dec (l < 8) → element_of Two (string_of Two l) ≡ l
    go (no h) b = let e : l ≡ 0 = omega arith in rw (e, string_nothing Two)
    go (yes h) (yes b) = rw (two_single l h b) (omega arith)
    go (yes h) (no b) = rw (two_pair l (omega arith)) (omega arith)

-- so elements with the same string are equal
pub string_same : (k : Lookahead) (a b : ℕ) → string_of k a ≡ string_of k b → a ≡ b
string_same k a b e = sym (element_string k a) ∙ ap (element_of k) e ∙ element_string k b

pub over_head : (n a : ℕ) (x : List ℕ) → Over n (a ∷ x) → a < n
unfolding all_of
over_head n a x h = ltb→lt a n (and_l (ltb a n) (all_of (λ b. ltb b n) x) h)

pub over_tail : (n a : ℕ) (x : List ℕ) → Over n (a ∷ x) → Over n x
unfolding all_of
over_tail n a x h = and_r (ltb a n) (all_of (λ b. ltb b n) x) h

pub over_none : (n : ℕ) → Over n []
unfolding all_of
over_none n = tt

over_more : (n a : ℕ) (x : List ℕ) → a < n → Over n x → Over n (a ∷ x)
unfolding all_of
over_more n a x h o = and_make (ltb a n) (all_of (λ b. ltb b n) x) (lt→ltb a n h) o

pub over_wider : (t n : ℕ) (x : List ℕ) → t ≤ n → Over t x → Over n x
over_wider t n x h = all_map (λ a. ltb a t) (λ a. ltb a n) x (λ a m u. lt→ltb a n (omega (arith, ltb→lt a t u)))

-- a string over the terminals that there may be has an element
pub string_element : (k : Lookahead) (x : List ℕ) → Looked (tokens k) (alphabet k) x → string_of k (element_of k x) ≡ x
string_element k [] l = go k
  where
    go : (k : Lookahead) → string_of k (element_of k []) ≡ []
    go One = string_nothing One
    go Two = string_nothing Two
string_element One (a ∷ []) l = let b = over_head 24 a [] l.1 in one_terminal a (λ e. omega arith)
string_element One (a ∷ b ∷ x) l = absurd (omega (arith, l.0))
string_element Two (a ∷ []) l =
    let e : 1 + a - 1 ≡ a = omega arith in
    two_single (1 + a) (omega arith) (omega (arith, over_head 7 a [] l.1)) ∙ ap (λ b. b ∷ []) e
string_element Two (a ∷ b ∷ []) l =
    let h = over_head 7 b [] (over_tail 7 a (b ∷ []) l.1) in
    let d : (8 + 7 * a + b - 8) / 7 ≡ a = omega arith in
    let m : (8 + 7 * a + b - 8) % 7 ≡ b = omega arith in
    two_pair (8 + 7 * a + b) (omega arith) ∙ ap₂ (λ c e. c ∷ e ∷ []) d m
string_element Two (a ∷ b ∷ c ∷ x) l = absurd (omega (arith, l.0))

pub element_below : (k : Lookahead) (x : List ℕ) → Looked (tokens k) (alphabet k) x → element_of k x < elements k
element_below One [] l = omega arith
element_below Two [] l = omega arith
element_below One (a ∷ x) l = omega (arith, over_head 24 a x l.1)
element_below Two (a ∷ []) l = omega (arith, over_head 7 a [] l.1)
element_below Two (a ∷ b ∷ x) l = omega (arith, over_head 7 a (b ∷ x) l.1, over_head 7 b x (over_tail 7 a (b ∷ x) l.1))

-- and an element's string is one
pub string_short : (k : Lookahead) (l : ℕ) → length (string_of k l) ≤ tokens k
string_short One l = go (ℕ_discrete l 24)
  where
    go : Dec (l ≡ 24) → length (string_of One l) ≤ 1
    go (yes e) = rw (e, string_nothing One) (omega arith)
    go (no ne) = rw (one_terminal l ne) (omega arith)
string_short Two l = go (dec_lt 0 l) (dec_lt l 8)
  where
    go : Dec (0 < l) → Dec (l < 8) → length (string_of Two l) ≤ 2
    go (no h) b = let e : l ≡ 0 = omega arith in rw (e, string_nothing Two) (omega arith)
    go (yes h) (yes b) = rw (two_single l h b) (omega arith)
    go (yes h) (no b) = rw (two_pair l (omega arith)) (omega arith)

pub string_over : (k : Lookahead) (l : ℕ) → l < elements k → Over (alphabet k) (string_of k l)
string_over One l h = go (ℕ_discrete l 24)
  where
    go : Dec (l ≡ 24) → Over 24 (string_of One l)
    go (yes e) = rw (e, string_nothing One) (over_none 24)
    go (no ne) = rw (one_terminal l ne) (over_more 24 l [] (omega arith) (over_none 24))
string_over Two l h = go (dec_lt 0 l) (dec_lt l 8)
  where
    go : Dec (0 < l) → Dec (l < 8) → Over 7 (string_of Two l)
    go (no p) b = let e : l ≡ 0 = omega arith in rw (e, string_nothing Two) (over_none 7)
    go (yes p) (yes b) = rw (two_single l p b) (over_more 7 (l - 1) [] (omega arith) (over_none 7))
    go (yes p) (no b) =
        rw (two_pair l (omega arith)) (over_more 7 ((l - 8) / 7) _ (omega arith) (over_more 7 ((l - 8) % 7) [] (omega arith) (over_none 7)))

pub string_looked : (k : Lookahead) (l : ℕ) → l < elements k → Looked (tokens k) (alphabet k) (string_of k l)
string_looked k l h = (string_short k l, string_over k l h)

-- a terminal alone
pub single_looked : (k : Lookahead) (t a : ℕ) → a < t → Looked (tokens k) t (a ∷ [])
single_looked One t a h = (omega arith, over_more t a [] h (over_none t))
single_looked Two t a h = (omega arith, over_more t a [] h (over_none t))

pub string_terminal : (k : Lookahead) (a : ℕ) → a < alphabet k → string_of k (element_of k (a ∷ [])) ≡ a ∷ []
string_terminal k a h = string_element k (a ∷ []) (single_looked k (alphabet k) a h)

-- there is a token of lookahead, and so nothing else is nothing
pub some_token : (k : Lookahead) → 0 < tokens k
some_token One = omega arith
some_token Two = omega arith

pub is_nothing : (k : Lookahead) (l : ℕ) → string_of k l ≡ [] → l ≡ nothing k
is_nothing k l e = string_same k l (nothing k) (e ∙ sym (string_nothing k))

-- strings follow one another as their elements do
module _ (k : Lookahead) (a b : ℕ) (h : a < elements k) (i : b < elements k) where
  together : Looked (tokens k) (alphabet k) (take (tokens k) (string_of k a ++ string_of k b))
  together = cut_lookahead (tokens k) (alphabet k) (string_of k a) (string_of k b) (string_over k a h) (string_over k b i)

  pub string_after : take (tokens k) (string_of k a ++ string_of k b) ≡ string_of k (element_after k a b)
  unfolding element_after
  string_after = sym (string_element k (take (tokens k) (string_of k a ++ string_of k b)) together)

  pub after_below : element_after k a b < elements k
  unfolding element_after
  after_below = element_below k (take (tokens k) (string_of k a ++ string_of k b)) together

  -- nothing is looked at only where there is nothing else
  pub after_is_nothing : element_after k a b ≡ nothing k → (a ≡ nothing k) × (b ≡ nothing k)
  after_is_nothing e =
      let n = cut_none (tokens k) (string_of k a) (string_of k b) (some_token k) (string_after ∙ ap (string_of k) e ∙ string_nothing k) in
      (is_nothing k a n.0, is_nothing k b n.1)

-- elements form a monoid, with nothing as its unit
pub nothing_after : (k : Lookahead) (b : ℕ) → element_after k (nothing k) b ≡ b
unfolding element_after
nothing_after k b = rw (string_nothing k, take_all (tokens k) (string_of k b) (string_short k b)) (element_string k b)

pub after_nothing : (k : Lookahead) (a : ℕ) → element_after k a (nothing k) ≡ a
unfolding element_after
after_nothing k a = rw (string_nothing k, append-nil (string_of k a), take_all (tokens k) (string_of k a) (string_short k a)) (element_string k a)

pub after_assoc : (k : Lookahead) (a b c : ℕ) → a < elements k → b < elements k → c < elements k
    → element_after k (element_after k a b) c ≡ element_after k a (element_after k b c)
after_assoc k a b c h i j =
    string_same k (element_after k (element_after k a b) c) (element_after k a (element_after k b c))
    (sym (string_after k (element_after k a b) c (after_below k a b h i) j)
    ∙ ap (λ x. take (tokens k) (x ++ string_of k c)) (sym (string_after k a b h i))
    ∙ first
    ∙ ap (take (tokens k)) (append_assoc (string_of k a) (string_of k b) (string_of k c))
    ∙ sym second
    ∙ ap (λ x. take (tokens k) (string_of k a ++ x)) (string_after k b c i j)
    ∙ string_after k a (element_after k b c) h (after_below k b c i j))
  where
    n : ℕ
    n = tokens k

    first : take n (take n (string_of k a ++ string_of k b) ++ string_of k c) ≡ take n ((string_of k a ++ string_of k b) ++ string_of k c)
    first = ap (λ x. take n (take n (string_of k a ++ string_of k b) ++ x)) (sym (take_all n (string_of k c) (string_short k c)))
        ∙ take_cut n n n (string_of k a ++ string_of k b) (string_of k c) (omega arith) (omega arith)

    second : take n (string_of k a ++ take n (string_of k b ++ string_of k c)) ≡ take n (string_of k a ++ (string_of k b ++ string_of k c))
    second = ap (λ x. take n (x ++ take n (string_of k b ++ string_of k c))) (sym (take_all n (string_of k a) (string_short k a)))
        ∙ take_cut n n n (string_of k a) (string_of k b ++ string_of k c) (omega arith) (omega arith)

pub nothing_below : (k : Lookahead) → nothing k < elements k
nothing_below One = omega arith
nothing_below Two = omega arith
