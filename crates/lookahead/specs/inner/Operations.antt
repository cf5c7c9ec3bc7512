-- The operations on lookahead sets, each with the number that it gives and the elements that this number has.
use Rattle.std.specs.Prelude.{◌≡◌, Bool, false, ◌&&◌, ◌||◌, [], ◌∷◌, ℕ, eqb, ltb}
use Rattle.std.specs.Int.Bits.{bit_and, bit_or}
use Rattle.base.specs.Choice.{choose}
use Rattle.base.specs.Quantifiers.{all_of, any_below}
use Rattle.lookahead.specs.declared.Lookahead.{Lookahead}
use Rattle.lookahead.specs.inner.Lookaheads.{alphabet, element_after}
use Rattle.lookahead.specs.Lookaheads.{elements, nothing, element_of, string_of}
use Rattle.lookahead.specs.Elements.{weight, has, total_weight}

abbrev pub empty_set : ℕ
empty_set = 0

unfoldable pub is_empty : ℕ → Bool
is_empty s = eqb s empty_set

pub record Empty (r : ℕ) : Type 0 where
  pub is : r ≡ empty_set
  pub member : (l : ℕ) → has r l ≡ false

-- the set of nothing alone
abbrev pub end : Lookahead → ℕ
end k = weight (nothing k)

pub record End (k : Lookahead) (r : ℕ) : Type 0 where
  pub is : r ≡ end k
  pub member : (l : ℕ) → has r l ≡ eqb l (nothing k)

-- the set of a terminal alone, empty where the number is no terminal's
unfoldable pub terminal : Lookahead → ℕ → ℕ
terminal k a = choose (ltb a (alphabet k)) (weight (element_of k (a ∷ []))) empty_set

pub record Terminal (k : Lookahead) (a r : ℕ) : Type 0 where
  pub is : r ≡ terminal k a
  pub member : (l : ℕ) → has r l ≡ (ltb a (alphabet k) && eqb l (element_of k (a ∷ [])))

-- every string of terminals below t
unfoldable pub full : Lookahead → ℕ → ℕ
full k t = total_weight (elements k) (λ l. all_of (λ a. ltb a t) (string_of k l))

pub record Full (k : Lookahead) (t r : ℕ) : Type 0 where
  pub is : r ≡ full k t
  pub member : (l : ℕ) → has r l ≡ (ltb l (elements k) && all_of (λ a. ltb a t) (string_of k l))

-- (document 01: joined)
unfoldable pub join : ℕ → ℕ → ℕ
join x y = bit_or x y

pub record Joined (x y r : ℕ) : Type 0 where
  pub is : r ≡ join x y
  pub member : (l : ℕ) → has r l ≡ (has x l || has y l)

-- (document 01: met)
unfoldable pub meet : ℕ → ℕ → ℕ
meet x y = bit_and x y

pub record SetsMet (x y r : ℕ) : Type 0 where
  pub is : r ≡ meet x y
  pub member : (l : ℕ) → has r l ≡ (has x l && has y l)

-- l is looked at where a is followed by some element of y
unfoldable pub element_behind : Lookahead → ℕ → ℕ → ℕ → Bool
element_behind k a y l = any_below (elements k) (λ b. has y b && eqb (element_after k a b) l)

-- and where some element of x is
unfoldable pub in_concat : Lookahead → ℕ → ℕ → ℕ → Bool
in_concat k x y l = any_below (elements k) (λ a. has x a && element_behind k a y l)

-- x followed by y: what is looked at in each pair of an element of x and one of y, and so nothing where either is empty (document 01: strung together)
unfoldable pub concat_numbers : Lookahead → ℕ → ℕ → ℕ
concat_numbers k x y = total_weight (elements k) (in_concat k x y)

pub record Concatenated (k : Lookahead) (x y r : ℕ) : Type 0 where
  pub is : r ≡ concat_numbers k x y
  pub member : (l : ℕ) → has r l ≡ in_concat k x y l
