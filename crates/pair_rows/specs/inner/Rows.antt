-- With two tokens of lookahead: first tokens, and what is looked at behind terminals alone.
use Rattle.std.specs.Prelude.{◌≡◌, Bool, ◌&&◌, ◌||◌, ℕ, suc, ◌+◌, ◌*◌, ltb}
use Rattle.base.specs.Quantifiers.{any_below}
use Rattle.lookahead.specs.declared.Lookahead.TheVariants.{Two}
use Rattle.lookahead.specs.Elements.{has}
use Rattle.lookahead.specs.inner.Operations.{element_behind}

-- the elements of s are just the numbers that pass
abbrev pub Has : ℕ → (ℕ → Bool) → Type 0
Has s p = (l : ℕ) → has s l ≡ p l

-- l is a terminal alone
abbrev pub is_single : ℕ → Bool
is_single l = ltb 0 l && ltb l 8

-- terminal r begins a string of s
unfoldable pub begins : ℕ → ℕ → Bool
begins s r = has s (suc r) || any_below 7 (λ q. has s (8 + 7 * r + q))

-- c is looked at where one of the first n terminals, alone in x, is followed by an element of y
unfoldable pub in_rows : ℕ → ℕ → ℕ → ℕ → Bool
in_rows x y n c = any_below n (λ l. has x (suc l) && element_behind Two (suc l) y c)
