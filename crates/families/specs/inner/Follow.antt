-- Follow sets as numbers: the families that the bodies of the rules close.
use Rattle.std.specs.Prelude.{◌≡◌, Bool, ℕ, suc, ◌<◌, length, get_or, drop}
use mathlib.Core.List.{List, [], ◌∷◌, Memᴰ}
use Rattle.word.specs.declared.Symbol.TheVariants.{Terminal, Nonterminal}
use Rattle.word.specs.declared.Word.{Word}
use Rattle.word.specs.declared.Word.TheVariants.{Heading, Rule as RuleWord, Positive, Negative, Symbol, End, Invalid}
use Rattle.grammar.specs.Syntax.{Body, Rule, bodies}
use Rattle.grammar.specs.Encoding.{Parsed, parse}
use Rattle.grammar.specs.Limits.{max_rules}
use Rattle.grammar.specs.inner.Starts.{rule_starts}
use Rattle.lookahead.specs.declared.Lookahead.{Lookahead}
use Rattle.lookahead.specs.inner.Elements.{Subset}
use Rattle.lookahead.specs.inner.Operations.{end, concat_numbers}
use Rattle.families.specs.inner.Least.{SetFamily, at, Passing}
use Rattle.families.specs.inner.First.{symbol_first, body_first}

-- behind each nonterminal of a body: the first set of what comes after it, concatenated with v, what comes behind the body
abbrev pub FollowNumbersBody : Lookahead → SetFamily → ℕ → SetFamily → Body → Type 0
FollowNumbersBody k F v L [] = Unit {0}
FollowNumbersBody k F v L (Terminal a ∷ b) = FollowNumbersBody k F v L b
FollowNumbersBody k F v L (Nonterminal A ∷ b) = Subset (concat_numbers k (body_first k F b) v) (L A) × FollowNumbersBody k F v L b

-- each body of each rule, positive or negative, adds its own; behind it comes the follow set of the head
abbrev pub FollowRules : Lookahead → SetFamily → List Rule → SetFamily → Type 0
FollowRules k F rs L = (r : Rule) → Memᴰ r rs → (b : Body) → Memᴰ b (bodies r) → FollowNumbersBody k F (L r.head) L b

-- and the end follows the start
pub record FollowNumbersClosed (k : Lookahead) (F : SetFamily) (rs : List Rule) (L : SetFamily) : Type 0 where
  pub start : Subset (end k) (L 0)
  pub follows : FollowRules k F rs L

-- what comes behind an index in a body, where v comes behind the body: with a word in front, a symbol or what ends the body before it
abbrev pub tail_before : Lookahead → SetFamily → ℕ → Word → ℕ → ℕ
tail_before k F v (Symbol X) tail = concat_numbers k (symbol_first k F X) tail
tail_before k F v Positive tail = v
tail_before k F v Negative tail = v
tail_before k F v End tail = v
tail_before k F v (RuleWord A) tail = v
tail_before k F v (Heading m n) tail = v
tail_before k F v Invalid tail = v

-- what the rest of a rule asks, where v comes behind its bodies
pub record Asked (k : Lookahead) (F : SetFamily) (v : ℕ) (p : Parsed) (L : SetFamily) : Type 0 where
  pub body : FollowNumbersBody k F v L p.body
  pub positives : (b : Body) → Memᴰ b p.positives → FollowNumbersBody k F v L b
  pub negatives : (b : Body) → Memᴰ b p.negatives → FollowNumbersBody k F v L b

-- a rule, or its bodies from one on, has its turn: what it asks is added, and met in the end
pub record FollowTurn (k : Lookahead) (F : SetFamily) (v : ℕ) (p : Parsed) (l₀ l : List ℕ) (grown : Bool) : Type 0 where
  pub passing : Passing (Asked k F v p) (λ L. Unit {0}) l₀ l grown
  pub asked : Asked k F v p (at l)

-- for each of n rules the set that came behind its bodies when it last had its turn, the empty set before
pub record LastTurns (k : Lookahead) (F : SetFamily) (words : List ℕ) (n : ℕ) (last l : List ℕ) : Type 0 where
  pub long : length last ≡ max_rules
  pub each : (q : ℕ) → q < n → Asked k F (get_or last q 0) (parse (drop (suc (get_or (rule_starts words) q 0)) words)) (at l)
