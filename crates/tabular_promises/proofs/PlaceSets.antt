-- Sets of places as numbers: a place put in; a digit read; where terminals stand.
use mathlib.Core.Path.{◌≡◌, refl, sym, ap, ◌∙◌}
use mathlib.Core.Bool.{Bool, true, false, ◌&&◌, ◌||◌, or-false, or-true, and-true, and-false}
use mathlib.Core.List.{List}
use Prim.Native.Nat.{ℕ, zero, suc, ◌+◌, ◌*◌, ◌/◌, ◌%◌, ◌^◌, ◌≤◌, ◌<◌}
use native.Mathlib.Decide.{ℕ_discrete, dec_lt}
use native.Mathlib.Numerals.{add-one}
use native.Mathlib.Omega.{arith}
use lib.Bits.{bit_and, bit_or, and_mask}
use lib.Dec.{eqb, ltb}
use lib.ListN.{length, get_or, set, replicate, length-set, length-replicate, get_or-replicate}
use lib.Pow.{shl_exact}
use lib.Seq.{get_or-set_same, get_or-set_other, set_out}
use borrow.Author.Tests.{eq-eqb, ne_eqb, lt-ltb, le-ltb}
use Rattle.base.specs.Choice.{choose}
use Rattle.grammar.specs.Limits.{max_terminals, max_tabular_places}
use Rattle.lookahead.specs.Elements.{has}
use Rattle.lookahead.proofs.Elements.{has_or, has_zero}
use Rattle.lookahead.proofs.Powers.{has_pow}
use Rattle.event.specs.Events.{terminal_of, input_of}
use Rattle.event.proofs.Inputs.{input_at}
use Rattle.tabular_promises.specs.inner.Places.{only_place, has_place, with_place, PlacePut, Standing, stands_to, stands_of, InputGiven}

-- a place's weight
pub weight_64 : (k : ℕ) → k < max_tabular_places → 1 * 2 ^ k % 2 ^ 64 ≡ 2 ^ k
weight_64 k h = shl_exact 1 k 64 (omega arith) (omega arith) ∙ omega arith

pub digit : (n k : ℕ) → eqb (bit_and (n / 2 ^ k) 1) 1 ≡ has n k
unfolding has
digit n k = ap (λ (d : ℕ). eqb d 1) (and_mask (n / 2 ^ k) 1)

-- a place of an input
pub one_place : (place : ℕ) → place < max_tabular_places → only_place place ≡ 2 ^ place
unfolding only_place
one_place place h = rw (lt-ltb place max_tabular_places h)

pub has_place_lem : (set place : ℕ) → place < max_tabular_places → has_place set place ≡ has set place
unfolding has_place
has_place_lem set place h = rw (lt-ltb place max_tabular_places h)

put_in : {s place r : ℕ} {member : Bool} → member ≡ true → r ≡ bit_or s (2 ^ place) → PlacePut s place member r
put_in {s} {place} {r} {member} m e =
    record { is = λ k. rw (e, m) (has_or s (2 ^ place) k ∙ ap (has s k ||◌) (has_pow place k ∙ sym (and-true (eqb k place)))) }

put_none : {s place : ℕ} {member : Bool} → member ≡ false → PlacePut s place member s
put_none {s} {place} {member} m =
    record { is = λ k. rw m (sym (ap (has s k ||◌) (and-false (eqb k place)) ∙ or-false (has s k))) }

pub with_place_lem : {s place r : ℕ} {member : Bool} → place < max_tabular_places → r ≡ with_place s place member → PlacePut s place member r
unfolding with_place
with_place_lem {s} {place} {r} {member} h e = go member e
  where
    go : (b : Bool) → r ≡ choose b (bit_or s (only_place place)) s → PlacePut s place b r
    go true f = put_in refl (f ∙ ap (bit_or s) (one_place place h))
    go false f = rw f (put_none refl)

-- the first i tokens have been put in
record StandingTo (w l : List ℕ) (i : ℕ) : Type 0 where
  pub long : length l ≡ max_terminals
  pub within : i ≤ length w
  pub at : (a k : ℕ) → a < max_terminals → has (get_or l a 0) k ≡ (ltb k i && eqb (get_or w k 0) a)

standing_start : (w : List ℕ) (n : ℕ) → n ≡ max_terminals → StandingTo w (replicate n 0) 0
standing_start w n e = record {
  long = length-replicate {A = ℕ} n 0 ∙ e;
  within = omega arith;
  at = λ a k h. rw (get_or-replicate {A = ℕ} n a 0 0 (omega arith), le-ltb k 0 (omega arith)) (has_zero k);
}

one_more : {w l l' : List ℕ} {i r : ℕ} → StandingTo w l i → i < length w → get_or w i 0 < max_terminals
    → PlacePut (get_or l (get_or w i 0) 0) i true r → l' ≡ set l (get_or w i 0) r → StandingTo w l' (i + 1)
one_more {w} {l} {l'} {i} {r} h o t g e = record {
  long = rw (e, length-set l (get_or w i 0) r) h.long;
  within = omega arith;
  at = λ a k b. rw (e, add-one) (go a k b (ℕ_discrete a (get_or w i 0)) (ℕ_discrete k i));
}
  where
    later : (k : ℕ) → (k ≡ i → ⊥) → ltb k i ≡ ltb k (suc i)
    later k d = elim (dec_lt k i) [
      | yes p ↦ rw (lt-ltb k i p, lt-ltb k (suc i) (omega arith))
      | no p ↦ rw (le-ltb k i (omega arith), le-ltb k (suc i) (omega arith))
    ]

    go : (a k : ℕ) → a < max_terminals → Dec (a ≡ get_or w i 0) → Dec (k ≡ i)
        → has (get_or (set l (get_or w i 0) r) a 0) k ≡ (ltb k (suc i) && eqb (get_or w k 0) a)
    go a k b (yes p) (yes q) =
        rw (p, get_or-set_same l (get_or w i 0) r 0 (omega (arith, h.long)), g.is k, eq-eqb k i q, lt-ltb k (suc i) (omega arith), or-true)
        (sym (eq-eqb (get_or w k 0) (get_or w i 0) (ap (λ (n : ℕ). get_or w n 0) q)))
    go a k b (yes p) (no q) =
        rw (p, get_or-set_same l (get_or w i 0) r 0 (omega (arith, h.long)), g.is k, ne_eqb k i q, or-false, h.at (get_or w i 0) k t, later k q)
    go a k b (no p) (yes q) =
        rw (get_or-set_other l (get_or w i 0) a r 0 p, h.at a k b, le-ltb k i (omega arith), lt-ltb k (suc i) (omega arith))
        (sym (ne_eqb (get_or w k 0) a (λ d. p (sym d ∙ ap (λ (n : ℕ). get_or w n 0) q))))
    go a k b (no p) (no q) = rw (get_or-set_other l (get_or w i 0) a r 0 p, h.at a k b, later k q)

-- the tokens put in one by one
stands_long : (w : List ℕ) (n : ℕ) → length (stands_to w n) ≡ max_terminals
unfolding stands_to
stands_long w zero = length-replicate {A = ℕ} max_terminals 0
stands_long w (suc n) = length-set (stands_to w n) (get_or w n 0) _ ∙ stands_long w n

pub stands_start : (w : List ℕ) → replicate max_terminals 0 ≡ stands_to w 0
unfolding stands_to
stands_start w = refl

module _ (events : List ℕ) (i : ℕ) {a : ℕ} {l : List ℕ} (h : l ≡ stands_to (input_of events) i) (t : a ≡ terminal_of (get_or events i 0)) where
  its_token : a ≡ get_or (input_of events) i 0
  its_token = t ∙ sym (input_at events i)

  pub stands_more : {r : ℕ} → r ≡ with_place (get_or l a 0) i true → set l a r ≡ stands_to (input_of events) (i + 1)
  unfolding stands_to
  stands_more e = rw (e, h, its_token, add-one i)

  pub stands_nowhere : max_terminals ≤ a → l ≡ stands_to (input_of events) (i + 1)
  unfolding stands_to
  stands_nowhere o =
      let w = input_of events in
      h ∙ sym (rw (add-one i) (set_out (stands_to w i) (get_or w i 0) _ (omega (arith, stands_long w i, its_token))))

-- of an input that fits, that is where each terminal stands
standing_to : (w : List ℕ) → InputGiven w → (i : ℕ) → i ≤ length w → StandingTo w (stands_to w i) i
unfolding stands_to
standing_to w g zero h = standing_start w max_terminals refl
standing_to w g (suc i) h =
    rw (← add-one i) (one_more (standing_to w g i (omega arith)) h (g.terminals i h) (with_place_lem (omega (arith, g.short)) refl) refl)

pub standing_right : {w l : List ℕ} → InputGiven w → l ≡ stands_of w → Standing w l
standing_right {w} g e = rw e record { at = (standing_to w g (length w) (omega arith)).at }
