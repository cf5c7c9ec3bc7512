-- The word that a step tells of.
use mathlib.Core.Path.{◌≡◌, ap}
use Prim.Native.Nat.{ℕ}
use native.Mathlib.Omega.{arith}
use Rattle.word.specs.declared.Symbol as grammar
use Rattle.word.specs.declared.Symbol.TheVariants as symbol
use Rattle.word.specs.declared.Word.{Word}
use Rattle.word.specs.declared.Word.TheVariants as word
use Rattle.descent_steps.specs.declared.Step.{Step}
use Rattle.descent_steps.specs.declared.Step.TheVariants.{Terminal, Nonterminal, Over}
use Rattle.descent_steps.specs.inner.Steps.{symbol_step, step_of}

-- steps are told apart by a number
abbrev step_number : Step → ℕ
step_number Over = 0
step_number (Terminal a) = 1
step_number (Nonterminal A) = 2

apart : {s s' : Step} → s ≡ s' → step_number s ≡ step_number s'
apart e = ap step_number e

number_of : Step → ℕ
number_of Over = 0
number_of (Terminal a) = a
number_of (Nonterminal A) = A

-- a step but the end is that of a symbol
terminal_symbol : (X : grammar.Symbol) (a : ℕ) → symbol_step X ≡ Terminal a → X ≡ symbol.Terminal a
unfolding number_of
terminal_symbol (symbol.Terminal b) a e = ap symbol.Terminal (ap number_of e)
terminal_symbol (symbol.Nonterminal B) a e = absurd (omega (arith, apart e))

nonterminal_symbol : (X : grammar.Symbol) (A : ℕ) → symbol_step X ≡ Nonterminal A → X ≡ symbol.Nonterminal A
unfolding number_of
nonterminal_symbol (symbol.Terminal b) A e = absurd (omega (arith, apart e))
nonterminal_symbol (symbol.Nonterminal B) A e = ap symbol.Nonterminal (ap number_of e)

pub terminal_word : (w : Word) (a : ℕ) → step_of w ≡ Terminal a → w ≡ word.Symbol (symbol.Terminal a)
terminal_word (word.Heading n t) a e = absurd (omega (arith, apart e))
terminal_word (word.Rule A) a e = absurd (omega (arith, apart e))
terminal_word word.Positive a e = absurd (omega (arith, apart e))
terminal_word word.Negative a e = absurd (omega (arith, apart e))
terminal_word (word.Symbol X) a e = ap word.Symbol (terminal_symbol X a e)
terminal_word word.End a e = absurd (omega (arith, apart e))
terminal_word word.Invalid a e = absurd (omega (arith, apart e))

pub nonterminal_word : (w : Word) (A : ℕ) → step_of w ≡ Nonterminal A → w ≡ word.Symbol (symbol.Nonterminal A)
nonterminal_word (word.Heading n t) A e = absurd (omega (arith, apart e))
nonterminal_word (word.Rule B) A e = absurd (omega (arith, apart e))
nonterminal_word word.Positive A e = absurd (omega (arith, apart e))
nonterminal_word word.Negative A e = absurd (omega (arith, apart e))
nonterminal_word (word.Symbol X) A e = ap word.Symbol (nonterminal_symbol X A e)
nonterminal_word word.End A e = absurd (omega (arith, apart e))
nonterminal_word word.Invalid A e = absurd (omega (arith, apart e))

pub symbol_step_lem : (X : grammar.Symbol) → symbol_step X ≡ Over → ⊥
symbol_step_lem (symbol.Terminal a) e = absurd (omega (arith, apart e))
symbol_step_lem (symbol.Nonterminal A) e = absurd (omega (arith, apart e))
