-- The laws of texts put into an output one behind the other.
use mathlib.Core.Path.{◌≡◌, refl, ◌∙◌}
use mathlib.Core.List.{List, [], ◌∷◌, ◌++◌}
use Prim.Native.Nat.{ℕ, ◌+◌, ◌≤◌, ◌<◌}
use native.Mathlib.Numerals.{add-one}
use native.Mathlib.Omega.{arith}
use lib.ListN.{length, get_or, take}
use lib.Seq.{take-suc}
use Rattle.text.specs.declared.Output.{Output}
use Rattle.text.specs.Writing.{up_to}
use Rattle.text.specs.inner.Outputs.{Puts}
use Rattle.text.proofs.Writing.{put_none, put_then}

pub puts_none : (a : Output) → Puts [] a a
puts_none a = record { same = refl; put = put_none a.bytes.now a.at }

-- two texts put one behind the other are their joining put
pub puts_then : {a b c : Output} {x y : List ℕ} → Puts x a b → Puts y b c → Puts (x ++ y) a c
puts_then p q = record { same = q.same ∙ p.same; put = put_then p.put q.put }

-- a loop that puts the bytes of a list has put one more
pub puts_more : {a b c : Output} (xs : List ℕ) (i : ℕ) → i < length xs → Puts (take i xs) a b → Puts (get_or xs i 0 ∷ []) b c → Puts (take (i + 1) xs) a c
puts_more xs i h p q = rw (add-one i, take-suc xs i 0 h) (puts_then p q)

-- a loop that puts the texts of the numbers in order begins, has put one more, and ends
pub puts_first : (text : ℕ → List ℕ) (a : Output) → Puts (up_to 0 text) a a
unfolding up_to
puts_first text a = puts_none a

pub puts_next : {a b c : Output} {y : List ℕ} (text : ℕ → List ℕ) (i : ℕ) → y ≡ text i → Puts (up_to i text) a b → Puts y b c → Puts (up_to (i + 1) text) a c
unfolding up_to
puts_next text i e p q = rw (add-one i, ← e) (puts_then p q)

pub puts_last : {a b : Output} {i n : ℕ} (text : ℕ → List ℕ) → i ≤ n → n ≤ i → Puts (up_to i text) a b → Puts (up_to n text) a b
puts_last {i = i} {n = n} text h k p = let e : i ≡ n = omega arith in rw e at p
