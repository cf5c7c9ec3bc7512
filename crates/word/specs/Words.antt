-- What a 32-bit word of an encoded grammar stands for: a row for each kind.
use Rattle.std.specs.Prelude.{ℕ, ◌/◌, ◌%◌, ◌^◌, eqb, ltb}
use Rattle.word.specs.declared.Symbol.TheVariants.{Terminal, Nonterminal}
use Rattle.word.specs.declared.Word.{Word}
use Rattle.word.specs.declared.Word.TheVariants.{Heading, Rule, Positive, Negative, Symbol, End, Invalid}
use Rattle.base.specs.Choice.{choose}

-- the top four bits, and the other 28
abbrev pub kind : ℕ → ℕ
kind w = w / 2 ^ 28

abbrev pub payload : ℕ → ℕ
payload w = w % 2 ^ 28

-- a word whose kind has no payload
unfoldable pub bare : Word → ℕ → Word
bare w p = choose (eqb p 0) w Invalid

-- bits 0 to 7 number the nonterminals and bits 8 to 15 the terminals; the others are zero
unfoldable pub heading : ℕ → Word
heading p = choose (ltb p (2 ^ 16)) (Heading (p % 2 ^ 8) (p / 2 ^ 8)) Invalid

unfoldable pub of_kind : ℕ → ℕ → Word
of_kind k p =
    choose (eqb k 1) (heading p)
    (choose (eqb k 2) (Rule p)
    (choose (eqb k 3) (bare Positive p)
    (choose (eqb k 4) (bare Negative p)
    (choose (eqb k 5) (Symbol (Terminal p))
    (choose (eqb k 6) (Symbol (Nonterminal p))
    (choose (eqb k 7) (bare End p)
    Invalid))))))

unfoldable pub decoded : ℕ → Word
decoded w = of_kind (kind w) (payload w)
