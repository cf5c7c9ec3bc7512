-- The input that events are, by length and by place; and that terminals are events of their own.
use mathlib.Core.Path.{◌≡◌, refl}
use mathlib.Core.List.{List, [], ◌∷◌}
use Prim.Native.Nat.{ℕ, ◌%◌, ◌≤◌}
use native.Mathlib.Nat.{mod-eq_of_lt}
use native.Mathlib.Omega.{arith}
use lib.Dec.{ltb, ltb→lt}
use lib.ListN.{length, get_or, length-map, get_or-map}
use Rattle.base.specs.Quantifiers.{all_of}
use Rattle.base.proofs.Booleans.{and_l, and_r}
use Rattle.base.specs.Strings.{Over}
use Rattle.event.specs.Events.{terminal_of, input_of}

pub input_length : (events : List ℕ) → length (input_of events) ≡ length events
unfolding input_of
input_length events = length-map events terminal_of

pub input_at : (events : List ℕ) (at : ℕ) → get_or (input_of events) at 0 ≡ terminal_of (get_or events at 0)
unfolding input_of
input_at events at = get_or-map terminal_of events at 0

-- terminals written as events have no direction
pub input_own : (n : ℕ) → n ≤ 128 → (w : List ℕ) → Over n w → input_of w ≡ w
unfolding input_of all_of
input_own n few [] h = refl
input_own n few (a ∷ w) h =
    let l = ltb→lt a n (and_l (ltb a n) _ h) in
    let e : a % 128 ≡ a = mod-eq_of_lt (omega arith) in
    rw (e, input_own n few w (and_r (ltb a n) _ h))
