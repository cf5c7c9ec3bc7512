-- The abstract syntax of Boolean grammars: rules of positive and negative conjuncts over terminals and nonterminals.
use Rattle.std.specs.Prelude.{◌≡◌, ℕ, ◌<◌}
use mathlib.Core.List.{List, [], ◌∷◌, ◌++◌, Memᴰ}
use Rattle.word.specs.declared.Symbol.{Symbol}
use Rattle.word.specs.declared.Symbol.TheVariants.{Terminal, Nonterminal}

abbrev pub Body : Type 0
Body = List Symbol

-- the head derives what every positive conjunct derives and no negative one does (document 01: musts and must-nots)
pub record Rule : Type 0 where
  pub head : ℕ
  pub positives : List Body
  pub negatives : List Body

abbrev pub bodies : Rule → List Body
bodies r = r.positives ++ r.negatives

-- nonterminals and terminals (document 01: names and letters) are numbered from 0, and nonterminal 0 is the start
pub record Grammar : Type 0 where
  pub nonterminals : ℕ
  pub terminals : ℕ
  pub rules : List Rule

-- every nonterminal of a body is below n
abbrev pub NonterminalsBelow : ℕ → Body → Type 0
NonterminalsBelow n [] = Unit {0}
NonterminalsBelow n (Terminal a ∷ b) = NonterminalsBelow n b
NonterminalsBelow n (Nonterminal A ∷ b) = (A < n) × NonterminalsBelow n b

-- every terminal of a body is below n
abbrev pub TerminalsBelow : ℕ → Body → Type 0
TerminalsBelow n [] = Unit {0}
TerminalsBelow n (Terminal a ∷ b) = (a < n) × TerminalsBelow n b
TerminalsBelow n (Nonterminal A ∷ b) = TerminalsBelow n b

-- rules define and use only nonterminals of the grammar
pub record WellScoped (G : Grammar) : Type 0 where
  pub heads : (r : Rule) → Memᴰ r G.rules → r.head < G.nonterminals
  pub nonterminals : (r : Rule) → Memᴰ r G.rules → (b : Body) → Memᴰ b (bodies r) → NonterminalsBelow G.nonterminals b

-- every number is below the grammar's own, and each rule has a conjunct
pub record WellFormed (G : Grammar) : Type 0 where
  pub scoped : WellScoped G
  pub terminals : (r : Rule) → Memᴰ r G.rules → (b : Body) → Memᴰ b (bodies r) → TerminalsBelow G.terminals b
  pub conjunct : (r : Rule) → Memᴰ r G.rules → bodies r ≡ [] → ⊥
