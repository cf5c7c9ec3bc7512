-- FIRST and FOLLOW families for any lookahead k, what closes them under the rules, and the table that they ask for.
use Rattle.std.specs.Prelude.{◌≡◌, ◌⊎◌, ℕ, ◌≤◌, ◌<◌, length, take}
use mathlib.Core.List.{List, [], ◌∷◌, ◌++◌, Memᴰ}
use Rattle.std.proofs.Math.Option.{Option, some}
use Rattle.std.proofs.Math.ListN.{get_elem?}
use Rattle.word.specs.declared.Symbol.{Symbol}
use Rattle.word.specs.declared.Symbol.TheVariants.{Terminal, Nonterminal}
use Rattle.grammar.specs.Syntax.{Body, Rule, Grammar, bodies, TerminalsBelow}
use Rattle.base.specs.Strings.{Lookahead}

-- for each nonterminal a set of lookahead strings
abbrev pub Family : Type 1
Family = ℕ → List ℕ → Type 0

-- of strings that are at most k long
abbrev pub Short : ℕ → Family → Type 0
Short k F = (A : ℕ) (x : List ℕ) → F A x → length x ≤ k

abbrev pub FirstOf : ℕ → Family → Symbol → List ℕ → Type 0
FirstOf k F (Terminal a) x = x ≡ take k (a ∷ [])
FirstOf k F (Nonterminal A) x = F A x

-- the concatenation, cut to k, of the sets of a body's symbols (document 01, k = 1: a body strings its symbols' first sets)
abbrev pub FirstBody : ℕ → Family → Body → List ℕ → Type 0
FirstBody k F [] x = x ≡ []
FirstBody k F (X ∷ b) x = (u : List ℕ) × (y : List ℕ) × FirstOf k F X u × FirstBody k F b y × (x ≡ take k (u ++ y))

-- two sets strung together (document 01: stringing), as bodies are with one token: nothing where the second set is empty, else the terminals of the first and,
-- where the first has the empty string, all of the second
abbrev pub Strung : (List ℕ → Type 0) → (List ℕ → Type 0) → List ℕ → Type 0
Strung P Q x = ((y : List ℕ) × Q y) × ((P x × ((x ≡ []) → ⊥)) ⊎ (P [] × Q x))

-- in the set of every positive body
abbrev pub FirstRule : ℕ → Family → Rule → List ℕ → Type 0
FirstRule k F r x = (b : Body) → Memᴰ b r.positives → FirstBody k F b x

-- the meeting of the sets of a rule's positive bodies
abbrev pub Meeting : Grammar → ℕ → Family → Rule → List ℕ → Type 0
Meeting G k F r x = Lookahead k G.terminals x × FirstRule k F r x

abbrev pub FirstClosed : Grammar → ℕ → Family → Type 0
FirstClosed G k F = (r : Rule) → Memᴰ r G.rules → (x : List ℕ) → Lookahead k G.terminals x → FirstRule k F r x → F r.head x

-- after each nonterminal of a body that y follows: what its rest can begin with, then y
abbrev pub FollowBody : ℕ → Family → Family → List ℕ → Body → Type 0
FollowBody k F L y [] = Unit {0}
FollowBody k F L y (Terminal a ∷ b) = FollowBody k F L y b
FollowBody k F L y (Nonterminal A ∷ b) = ((u : List ℕ) → FirstBody k F b u → L A (take k (u ++ y))) × FollowBody k F L y b

pub record FollowClosed (G : Grammar) (k : ℕ) (F L : Family) : Type 0 where
  pub start : L 0 []
  pub follows : (r : Rule) → Memᴰ r G.rules → (b : Body) → Memᴰ b (bodies r) → (y : List ℕ) → L r.head y → FollowBody k F L y b

-- what `FollowClosed` is with one token of lookahead, by stringing: for each nonterminal in a body, what comes after it strung with what can follow the head
pub record FollowStrung (G : Grammar) (F L : Family) : Type 0 where
  pub start : L 0 []
  pub follows : (r : Rule) → Memᴰ r G.rules → (front : Body) (A : ℕ) (b : Body) → Memᴰ (front ++ (Nonterminal A ∷ b)) (bodies r)
      → (x : List ℕ) → Strung (FirstBody 1 F b) (L r.head) x → L A x

-- the terminals of the bodies are the grammar's own
abbrev pub OwnTerminals : Grammar → Type 0
OwnTerminals G = (r : Rule) → Memᴰ r G.rules → (b : Body) → Memᴰ b (bodies r) → TerminalsBelow G.terminals b

-- for a nonterminal and a lookahead string the number of a rule, or none (document 01: the cells)
abbrev pub Table : Type 0
Table = ℕ → List ℕ → Option ℕ

-- rule q of A claims the string: one that all its positive bodies can begin with, then one that can follow A, cut to k
-- (document 01: a rule claims columns)
pub record Claims (G : Grammar) (k : ℕ) (F L : Family) (q A : ℕ) (x : List ℕ) : Type 0 where
  pub rule : Rule
  pub numbered : get_elem? G.rules q ≡ some rule
  pub heads : rule.head ≡ A
  pub begins : List ℕ
  pub lookahead : Lookahead k G.terminals begins
  pub meets : FirstRule k F rule begins
  pub behind : List ℕ
  pub follows : L A behind
  pub makes : x ≡ take k (begins ++ behind)

-- two different rules claim one entry; rules differ by their numbers (document 01: two rules claim a cell)
pub record Overlap (G : Grammar) (k : ℕ) (F L : Family) (A : ℕ) (x : List ℕ) : Type 0 where
  pub one : ℕ
  pub other : ℕ
  pub different : one < other
  pub claims_one : Claims G k F L one A x
  pub claims_other : Claims G k F L other A x

-- a rule of A without positive bodies takes all that is left, yet more than the end can follow A
pub record Overrun (G : Grammar) (L : Family) (A : ℕ) : Type 0 where
  pub rule : Rule
  pub listed : Memᴰ rule G.rules
  pub heads : rule.head ≡ A
  pub alone : rule.positives ≡ []
  pub behind : List ℕ
  pub follows : L A behind
  pub more : behind ≡ [] → ⊥

-- an overlap, or such a nonterminal, which is reported as a clash in the entry of the first terminal
abbrev pub Clash : Grammar → ℕ → Family → Family → ℕ → List ℕ → Type 0
Clash G k F L A x = Overlap G k F L A x ⊎ (Overrun G L A × (x ≡ 0 ∷ []))
