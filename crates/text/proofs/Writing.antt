-- The laws of texts put into a buffer one behind the other.
use mathlib.Core.Path.{◌≡◌, refl, sym, ap, ◌∙◌}
use mathlib.Core.List.{List, [], ◌∷◌, ◌++◌}
use Prim.Native.Nat.{ℕ, suc, ◌+◌, ◌-◌, ◌≤◌, min}
use native.Mathlib.Nat.{add-zero}
use native.Mathlib.Omega.{arith}
use native.Mathlib.Decide.{dec_le}
use lib.ListN.{length, take, drop, set, length-append}
use lib.Seq.{sets, sets-eq, set_out, take_at, length-sets}
use Rattle.text.specs.Writing.{Put}

-- what is stored behind the end of a list is lost
sets_out : (xs l : List ℕ) (i : ℕ) → length l ≤ i → sets l i xs ≡ l
sets_out [] l i h = refl
sets_out (x ∷ xs) l i h = rw (set_out l i x h) (sets_out xs l (suc i) (omega arith))

-- two runs of stores, one behind the other, are one
pub sets_append : (xs ys l : List ℕ) (i : ℕ) → sets l i (xs ++ ys) ≡ sets (sets l i xs) (i + length xs) ys
sets_append [] ys l i = rw add-zero
sets_append (x ∷ xs) ys l i =
    let e : suc i + length xs ≡ i + suc (length xs) = omega arith in
    rw (← e) (sets_append xs ys (set l i x) (suc i))

pub put_none : (l : List ℕ) (at : ℕ) → Put l at [] l at
put_none l at = record { bytes = refl; position = omega arith }

-- the buffer's length stays
pub put_length : {l : List ℕ} {at : ℕ} {x m : List ℕ} {next : ℕ} → Put l at x m next → length m ≡ length l
put_length {l} {at} {x} p = ap length p.bytes ∙ length-sets l at x

-- a text that the buffer has room for is put whole
pub put_whole : {l x m : List ℕ} {next : ℕ} → Put l 0 x m next → length x ≤ length l → take next m ≡ x
put_whole {l} {x} {m} {next} p h =
    let e : length x ≡ next = omega (arith, p.position) in
    rw (p.bytes, sets-eq x l 0 (omega arith)) (take_at x (drop (0 + length x) l) next e)

-- two texts put one behind the other are their joining put
pub put_then : {l : List ℕ} {at : ℕ} {x m : List ℕ} {next : ℕ} {y n : List ℕ} {last : ℕ} →
    Put l at x m next → Put m next y n last → Put l at (x ++ y) n last
put_then {l} {at} {x} {m} {next} {y} {n} {last} p q = record { bytes = q.bytes ∙ whole (dec_le (at + length x) (length l)); position = place }
  where
    size : length m ≡ length l
    size = put_length p

    place : last ≡ at + min (length (x ++ y)) (length l - at)
    place = omega (arith, p.position, q.position, size, length-append x y)

    whole : Dec (at + length x ≤ length l) → sets m next y ≡ sets l at (x ++ y)
    whole (yes h) =
        let e : next ≡ at + length x = omega (arith, p.position) in
        rw (e, p.bytes) (sym (sets_append x y l at))
    whole (no h) =
        let a : length m ≤ next = omega (arith, p.position, size) in
        let b : length (sets l at x) ≤ at + length x = omega (arith, length-sets l at x) in
        sets_out y m next a ∙ p.bytes ∙ sym (sets_append x y l at ∙ sets_out y (sets l at x) (at + length x) b)
