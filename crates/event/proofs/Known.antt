-- Searching for an unknown token: what is found from an index on, and that nothing is found exactly in an input over the terminals.
use Rattle.std.specs.Prelude.{None, Some}
use mathlib.Core.Path.{◌≡◌, refl, sym, ◌∙◌}
use mathlib.Core.Bool.{Bool, true, false, ◌&&◌}
use mathlib.Core.List.{List, [], ◌∷◌}
use Prim.Native.Nat.{ℕ, zero, suc, ◌+◌, ◌≤◌, ◌<◌}
use native.Mathlib.Omega.{arith}
use native.Mathlib.Numerals.{add-one}
use lib.Dec.{T, ltb, ltb→lt}
use lib.ListN.{length, get_or, drop, drop_of_length-le}
use lib.Seq.{drop-cons}
use borrow.Author.Tests.{lt-ltb, le-ltb}
use Rattle.base.specs.Choice.{choose}
use Rattle.base.specs.Quantifiers.{all_of}
use Rattle.base.proofs.Booleans.{T_true, and_l, and_r}
use Rattle.base.specs.Strings.{Over}
use Rattle.event.specs.Events.{terminal_of, input_of}
use Rattle.event.specs.Unknown.{unknown_from}
use Rattle.event.proofs.Inputs.{input_length, input_at}

-- an input is of known tokens exactly when no unknown one is found
pub known_absent : (n at : ℕ) (w : List ℕ) → Over n w → unknown_from n at w ≡ None
unfolding unknown_from all_of
known_absent n at [] h = refl
known_absent n at (a ∷ w) h = rw (T_true (ltb a n) (and_l (ltb a n) _ h)) (known_absent n (suc at) w (and_r (ltb a n) _ h))

pub absent_known : (n at : ℕ) (w : List ℕ) → unknown_from n at w ≡ None → Over n w
unfolding unknown_from all_of
absent_known n at [] e = tt
absent_known n at (a ∷ w) e = go (ltb a n) e (absent_known n (suc at) w)
  where
    go : (b : Bool) → choose b (unknown_from n (suc at) w) (Some at) ≡ None → (unknown_from n (suc at) w ≡ None → Over n w)
        → T (b && all_of (λ c. ltb c n) w)
    go true f over = over f
    go false f over = let z : ◌≡◌ {A = ℕ} 0 1 = cc in absurd (omega arith)

-- every token is a terminal of the grammar
pub token_below : (n : ℕ) (w : List ℕ) → Over n w → (i : ℕ) → i < length w → get_or w i 0 < n
unfolding all_of
token_below n [] h i l = absurd (omega arith)
token_below n (x ∷ w) h zero l = ltb→lt x n (and_l (ltb x n) _ h)
token_below n (x ∷ w) h (suc i) l = token_below n w (and_r (ltb x n) _ h) i (omega arith)

-- the search for an unknown token, by the event at an index
module _ (n : ℕ) (events : List ℕ) (at : ℕ) where
  unknown_at : at < length events
      → unknown_from n at (drop at (input_of events))
      ≡ choose (ltb (terminal_of (get_or events at 0)) n) (unknown_from n (suc at) (drop (suc at) (input_of events))) (Some at)
  unfolding unknown_from
  unknown_at h = rw (drop-cons (input_of events) at 0 (omega (arith, input_length events)), input_at events at)

  pub unknown_next : at < length events → terminal_of (get_or events at 0) < n
      → unknown_from n (at + 1) (drop (at + 1) (input_of events)) ≡ unknown_from n at (drop at (input_of events))
  unknown_next h l = sym (unknown_at h ∙ rw (lt-ltb (terminal_of (get_or events at 0)) n l, add-one at))

  pub unknown_here : at < length events → n ≤ terminal_of (get_or events at 0) → Some at ≡ unknown_from n at (drop at (input_of events))
  unknown_here h l = sym (unknown_at h ∙ rw (le-ltb (terminal_of (get_or events at 0)) n l))

  pub unknown_none : length events ≤ at → None ≡ unknown_from n at (drop at (input_of events))
  unfolding unknown_from
  unknown_none h = let past : length (input_of events) ≤ at = omega (arith, input_length events) in rw (drop_of_length-le (input_of events) past)
