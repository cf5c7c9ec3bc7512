-- Nullable nonterminals, left dependence, left recursion and its lowest nonterminal, and the rank that falls where there is none.
use Rattle.std.specs.Prelude.{◌≡◌, Bool, true, false, ◌&&◌, ◌||◌, ℕ, ◌+◌, ◌*◌, T, eqb}
use mathlib.Core.List.{[], ◌∷◌, Memᴰ}
use Rattle.std.proofs.Math.Option.{Option}
use Rattle.word.specs.declared.Symbol.TheVariants.{Terminal, Nonterminal}
use Rattle.grammar.specs.Syntax.{Body, Rule, Grammar, bodies}
use Rattle.base.specs.Quantifiers.{any_of, all_of, any_below, count_below, lowest}
use Rattle.base.specs.FiniteSets.{numbers_below}
use Rattle.base.specs.Rounds.{NumberSet, least}

-- the body consists of nonterminals of the set
unfoldable pub all_nullable : NumberSet → Body → Bool
all_nullable s [] = true
all_nullable s (Terminal a ∷ b) = false
all_nullable s (Nonterminal A ∷ b) = s A && all_nullable s b

unfoldable pub null_step : Grammar → NumberSet → NumberSet
null_step G s A = any_of (λ r. eqb r.head A && all_of (all_nullable s) r.positives) G.rules

-- (document 01: maybe-empty)
unfoldable pub nullable : Grammar → NumberSet
nullable G = least eqb (numbers_below G.nonterminals) (null_step G)

-- B stands in the body after nonterminals of the set alone
pub data LeftIn (s : NumberSet) (B : ℕ) : Body → Type 0 where
  here : {b : Body} → LeftIn s B (Nonterminal B ∷ b)
  there : {C : ℕ} {b : Body} → T (s C) → LeftIn s B b → LeftIn s B (Nonterminal C ∷ b)

-- a body of A, positive or negative, has B at its left (document 01: A leans on B)
pub record LeftDepends (G : Grammar) (A B : ℕ) : Type 0 where
  pub rule : Rule
  pub body : Body
  pub listed : Memᴰ rule G.rules
  pub heads : rule.head ≡ A
  pub held : Memᴰ body (bodies rule)
  pub left : LeftIn (nullable G) B body

-- in one or more steps (document 01: a name reaches another)
pub data LeftReaches (G : Grammar) (A : ℕ) : ℕ → Type 0 where
  once : {B : ℕ} → LeftDepends G A B → LeftReaches G A B
  more : {B C : ℕ} → LeftReaches G A B → LeftDepends G B C → LeftReaches G A C

-- no nonterminal reaches itself (document 01: a card that is not left-recursive)
abbrev pub NoLeftRecursion : Grammar → Type 0
NoLeftRecursion G = (A : ℕ) → LeftReaches G A A → ⊥

-- the same as tests
unfoldable pub left_in : NumberSet → ℕ → Body → Bool
left_in s B [] = false
left_in s B (Terminal a ∷ b) = false
left_in s B (Nonterminal C ∷ b) = eqb C B || (s C && left_in s B b)

unfoldable pub left_depends : Grammar → ℕ → NumberSet
left_depends G A B = any_of (λ r. eqb r.head A && any_of (left_in (nullable G) B) (bodies r)) G.rules

unfoldable pub reach_step : Grammar → ℕ → NumberSet → NumberSet
reach_step G A s B = left_depends G A B || any_below G.nonterminals (λ C. s C && left_depends G C B)

unfoldable pub left_reaches : Grammar → ℕ → NumberSet
left_reaches G A = least eqb (numbers_below G.nonterminals) (reach_step G A)

unfoldable pub left_recursive : Grammar → NumberSet
left_recursive G A = left_reaches G A A

unfoldable pub lowest_left_recursive : Grammar → Option ℕ
lowest_left_recursive G = lowest G.nonterminals (left_recursive G)

-- how many nonterminals A left-reaches (document 01: leaning rank)
unfoldable pub rank : Grammar → ℕ → ℕ
rank G A = count_below G.nonterminals (left_reaches G A)

-- a length first, then the rank: the measure of a span, and of a call by the tokens left
unfoldable pub level : Grammar → ℕ → ℕ → ℕ
level G d A = d * G.nonterminals + rank G A
