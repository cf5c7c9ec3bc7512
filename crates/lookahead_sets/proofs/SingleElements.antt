-- The sets of nothing alone and of a terminal alone, by cases as the code goes.
use mathlib.Core.Path.{◌≡◌, sym, ap, ◌∙◌}
use mathlib.Core.List.{[], ◌∷◌}
use Prim.Native.Nat.{ℕ, ◌+◌, ◌*◌, ◌%◌, ◌^◌, ◌≤◌, ◌<◌}
use native.Mathlib.Omega.{arith}
use borrow.Author.Tests.{lt-ltb, le-ltb}
use Rattle.lookahead.specs.declared.Lookahead.{Lookahead}
use Rattle.lookahead.specs.declared.Lookahead.TheVariants.{One, Two}
use Rattle.lookahead.specs.inner.Lookaheads.{alphabet, single}
use Rattle.lookahead.specs.Lookaheads.{elements, nothing, element_of}
use Rattle.lookahead.specs.Elements.{width}
use Rattle.lookahead.specs.inner.Operations.{terminal, Empty, End, Terminal}
use Rattle.lookahead.proofs.Bounds.{elements_fit}
use Rattle.lookahead.proofs.Digits.{shifted}
use Rattle.lookahead.proofs.Operations.{is_end, is_terminal}

pub singles_fit : (k : Lookahead) → single k + alphabet k < elements k + single k
singles_fit One = omega arith
singles_fit Two = omega arith

pub nothing_fits : (k : Lookahead) → nothing k < width
nothing_fits One = omega arith
nothing_fits Two = omega arith

pub single_small : (k : Lookahead) → single k ≤ 1
single_small One = omega arith
single_small Two = omega arith

pub single_of : (k : Lookahead) (a : ℕ) → element_of k (a ∷ []) ≡ single k + a
single_of One a = omega arith
single_of Two a = omega arith

-- a power of two is a set of one element
pub end_is : (k : Lookahead) {n : ℕ} → n ≡ nothing k → End k (1 * 2 ^ n % 2 ^ width)
end_is k {n} e = is_end k (rw (← e) (shifted n (omega (arith, nothing_fits k))))

pub terminal_some : (k : Lookahead) {a s : ℕ} → a < alphabet k → s ≡ single k → Terminal k a (1 * 2 ^ (s + a) % 2 ^ width)
unfolding terminal
terminal_some k {a} {s} h e =
    is_terminal k (shifted (s + a) (omega (arith, singles_fit k, elements_fit k, single_small k))
    ∙ ap (λ (n : ℕ). 2 ^ n) (ap (λ (n : ℕ). n + a) e ∙ sym (single_of k a))
    ∙ sym (rw (lt-ltb a (alphabet k) h)))

pub terminal_none : (k : Lookahead) {a r : ℕ} → alphabet k ≤ a → Empty r → Terminal k a r
unfolding terminal
terminal_none k {a} h e = is_terminal k (e.is ∙ sym (rw (le-ltb a (alphabet k) h)))
