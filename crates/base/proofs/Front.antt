-- A list whose first i elements have been replaced by those of another: what a loop that writes one element a turn keeps.
use mathlib.Core.Path.{◌≡◌, sym, ap, ◌∙◌}
use mathlib.Core.List.{List, ◌++◌}
use Prim.Native.Nat.{ℕ, suc, ◌+◌, ◌<◌}
use native.Mathlib.Omega.{arith}
use native.Mathlib.Numerals.{add-one}
use lib.ListN.{length, take, drop, set, get_or}
use lib.Seq.{take-suc, drop-cons, set_at, append_snoc, length-take-le}

abbrev pub front : List ℕ → ℕ → List ℕ → List ℕ
front xs i d = take i xs ++ drop i d

pub front_more : (xs d e : List ℕ) (i : ℕ) → e ≡ front xs i d → i < length xs → i < length d → set e i (get_or xs i 0) ≡ front xs (i + 1) d
front_more xs d e i is h k =
    ap (λ (l : List ℕ). set l i (get_or xs i 0)) is
    ∙ ap (λ (l : List ℕ). set (take i xs ++ l) i (get_or xs i 0)) (drop-cons d i 0 k)
    ∙ set_at (take i xs) (get_or d i 0) (drop (suc i) d) (get_or xs i 0) i (length-take-le i xs (omega arith))
    ∙ sym (rw (add-one, take-suc xs i 0 h) (append_snoc (take i xs) (get_or xs i 0) (drop (suc i) d)))
