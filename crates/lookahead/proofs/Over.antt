-- With t terminals, for any t: the operations on sets of strings over these terminals give such sets again.
use mathlib.Core.Path.{◌≡◌}
use mathlib.Core.List.{[], ◌∷◌}
use mathlib.Core.Logic.{inl, inr}
use Prim.Native.Nat.{ℕ, ◌^◌, ◌<◌}
use lib.Dec.{ltb, eqb, eqb→eq, ltb→lt, lt→ltb}
use mir.Facts.{and_yes, yes_and, or_yes}
use Rattle.base.specs.Quantifiers.{all_of}
use Rattle.base.proofs.LookaheadStrings.{cut_lookahead}
use Rattle.lookahead.specs.declared.Lookahead.{Lookahead}
use Rattle.lookahead.specs.Lookaheads.{tokens, elements, nothing, element_of, string_of}
use Rattle.lookahead.specs.inner.Lookaheads.{alphabet}
use Rattle.lookahead.specs.Elements.{has}
use Rattle.lookahead.specs.inner.Elements.{Subset, OverTerminals}
use Rattle.lookahead.specs.inner.Operations.{empty_set, end, terminal, full, join, meet, concat_numbers}
use Rattle.lookahead.proofs.Elements as of-numbers
use Rattle.lookahead.proofs.Strings.{string_nothing, string_terminal, single_looked, string_over, string_after, after_below, element_below}
use Rattle.lookahead.proofs.Strings.{nothing_below, over_none}
use Rattle.lookahead.proofs.Operations.{has_empty, has_end, has_terminal, has_full, has_join}
use Rattle.lookahead.proofs.Order.{subset_refl, subset_antisym, meet_left, meet_greatest}
use Rattle.lookahead.proofs.Pairs.{concat_pair}

module _ (k : Lookahead) (t : ℕ) where
  -- the sets to begin with
  pub over_empty : OverTerminals k t empty_set
  over_empty l s = absurd (rw (has_empty l) at s)

  pub over_end : OverTerminals k t (end k)
  over_end l s =
      let e : l ≡ nothing k = eqb→eq l (nothing k) (rw (has_end k l) at s) in
      rw (e, string_nothing k) (nothing_below k, over_none t)

  pub over_terminal : (a : ℕ) → a < t → OverTerminals k t (terminal k a)
  over_terminal a h l s =
      let b = and_yes (ltb a (alphabet k)) (eqb l (element_of k (a ∷ []))) (rw (has_terminal k a l) at s) in
      let i = ltb→lt a (alphabet k) b.0 in
      let e : l ≡ element_of k (a ∷ []) = eqb→eq l (element_of k (a ∷ [])) b.1 in
      rw (e, string_terminal k a i) (element_below k (a ∷ []) (single_looked k (alphabet k) a i), (single_looked k t a h).1)

  pub over_full : OverTerminals k t (full k t)
  over_full l s =
      let b = and_yes (ltb l (elements k)) (all_of (λ a. ltb a t) (string_of k l)) (rw (has_full k t l) at s) in
      (ltb→lt l (elements k) b.0, b.1)

  -- what is contained in a set over t terminals, and what the operations make of such sets
  pub over_subset : (x y : ℕ) → Subset x y → OverTerminals k t y → OverTerminals k t x
  over_subset x y f o l s = o l (f l s)

  pub over_join : (x y : ℕ) → OverTerminals k t x → OverTerminals k t y → OverTerminals k t (join x y)
  over_join x y o p l s = elim (or_yes (has x l) (has y l) (rw (has_join x y l) at s)) [ inl u ↦ o l u | inr u ↦ p l u ]

  pub over_meet : (x y : ℕ) → OverTerminals k t x → OverTerminals k t (meet x y)
  over_meet x y = over_subset (meet x y) x (meet_left x y)

  pub over_concat : (x y : ℕ) → OverTerminals k t x → OverTerminals k t y → OverTerminals k t (concat_numbers k x y)
  over_concat x y o p l s =
      let q = concat_pair k x y l s in
      let a = o q.a q.a_in in
      let b = p q.b q.b_in in
      let c = cut_lookahead (tokens k) t (string_of k q.a) (string_of k q.b) a.1 b.1 in
      rw (← q.is_after) (after_below k q.a q.b a.0 b.0, rw (string_after k q.a q.b a.0 b.0) at c.1)

  -- such a set has no digits above those of elements
  pub over_bound : (x : ℕ) → OverTerminals k t x → x < 2 ^ elements k
  over_bound x o = of-numbers.bound (elements k) x (λ l s. (o l s).0)

  -- the full set contains every set over t terminals, and to meet it changes none
  pub full_greatest : (x : ℕ) → OverTerminals k t x → Subset x (full k t)
  full_greatest x o l s =
      rw (has_full k t l) (yes_and (ltb l (elements k)) (all_of (λ a. ltb a t) (string_of k l)) (lt→ltb l (elements k) (o l s).0) (o l s).1)

  pub meet_full : (x : ℕ) → OverTerminals k t x → meet x (full k t) ≡ x
  meet_full x o =
      subset_antisym (meet x (full k t)) x (meet_left x (full k t)) (meet_greatest x (full k t) x (subset_refl x) (full_greatest x o))

-- and a number without such digits is a set over all the terminals
pub bound_over : (k : Lookahead) (x : ℕ) → x < 2 ^ elements k → OverTerminals k (alphabet k) x
bound_over k x h l s = let b = of-numbers.bounded (elements k) x l h s in (b, string_over k l b)
