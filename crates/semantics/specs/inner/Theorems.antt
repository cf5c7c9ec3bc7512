-- What this crate proves, on one page: twelve statements, of which promises cite 1, 9 and 10 (specs/Theorems.antt), and in the end what each of them
-- needs. All of it is given in proofs/Theorems.
use Rattle.std.specs.Prelude.{◌≡◌, true, ◌↔◌, ◌⊎◌, ℕ, ◌≤◌, ◌<◌, T, length, get_or, take}
use mathlib.Core.List.{List, [], ◌∷◌, ◌++◌, map, Memᴰ}
use Rattle.std.proofs.Math.Option.{none, some}
use Rattle.std.proofs.Math.ListN.{get_elem?}
use Rattle.word.specs.declared.Symbol.{Symbol}
use Rattle.word.specs.declared.Symbol.TheVariants.{Nonterminal}
use Rattle.grammar.specs.Syntax.{Body, Rule, Grammar, bodies, NonterminalsBelow, WellScoped, WellFormed}
use Rattle.base.specs.FiniteSets.{numbers_below}
use Rattle.base.specs.Rounds.{NumberSet, ◌⊆ᵇ◌}
use Rattle.semantics.specs.Valuations.{Valuation, contains, derives, Solves}
use Rattle.semantics.specs.LeftRecursion.{null_step, nullable, LeftDepends, LeftReaches, NoLeftRecursion, left_recursive, lowest_left_recursive, rank}
use Rattle.base.specs.inner.Strings.{span}
use Rattle.base.specs.Strings.{look, Over, Lookahead, strings}
use Rattle.semantics.specs.Families.{Family, Short, FirstOf, FirstBody, Strung, Meeting, FirstClosed, FollowClosed, FollowStrung, Claims, Clash, OwnTerminals}
use Rattle.semantics.specs.inner.Families.{Least, EveryEnds}
use Rattle.semantics.specs.Productive.{Unproductive, unproductive, lowest_unproductive}
use Rattle.semantics.specs.FirstFollow.{Entry, First, Follow}
use Rattle.semantics.specs.Claims.{clashes, column, table_of, every_ends}
use Rattle.semantics.specs.Choices.{Choice, table_choice}
use Rattle.semantics.specs.inner.Choices.{OwnRules}
use Rattle.semantics.specs.Descent.{End, Outcomes, run, descend, accepts}
use Rattle.semantics.specs.ComesTo.{Call, InRange}
use Rattle.semantics.specs.Calls.{all_calls}
use Rattle.semantics.specs.Memo.{memo_index, Recorded}
use Rattle.semantics.specs.inner.Memo.{EndsFit}
use Rattle.semantics.specs.inner.MemoDescent.{memo_start}
use Rattle.semantics.specs.Predictive.{Predictive}
use Rattle.semantics.specs.Theorems.{OneSolution, DescentEnds, CallsCounted}

-- 2. Left recursion is decided, with the lowest nonterminal that reaches itself; without it the rank falls along left dependence
pub record LeftRecursionDecided (G : Grammar) : Type 0 where
  pub test : (A : ℕ) → T (left_recursive G A) ↔ LeftReaches G A A
  pub lowest : (A : ℕ) → (lowest_left_recursive G ≡ some A) ↔ (LeftReaches G A A × ((B : ℕ) → B < A → LeftReaches G B B → ⊥))
  pub absent : (lowest_left_recursive G ≡ none) ↔ NoLeftRecursion G
  pub falls : NoLeftRecursion G → (A B : ℕ) → LeftDepends G A B → rank G B < rank G A
  pub below : NoLeftRecursion G → (A : ℕ) → A < G.nonterminals → rank G A < G.nonterminals

-- 3. The sets as computed are least; clashes and the table are as the rules claim
pub record LeastSets (G : Grammar) (k : ℕ) : Type 1 where
  pub nullable_closed : null_step G (nullable G) ⊆ᵇ nullable G
  pub nullable_least : (s : NumberSet) → null_step G s ⊆ᵇ s → nullable G ⊆ᵇ s
  pub first : Least (FirstClosed G k) (First G k)
  pub follow : Least (FollowClosed G k (First G k)) (Follow G k)
  pub first_lookahead : (A : ℕ) (x : List ℕ) → First G k A x → (A < G.nonterminals) × Lookahead k G.terminals x
  pub follow_lookahead : (A : ℕ) (x : List ℕ) → Follow G k A x → (A < G.nonterminals) × Lookahead k G.terminals x
  pub nothing : 0 < k → (A : ℕ) → First G k A [] ↔ T (nullable G A)
  pub clash : (A : ℕ) (x : List ℕ) → Memᴰ (A, x) (clashes G k) ↔ Clash G k (First G k) (Follow G k) A x
  pub claimed : clashes G k ≡ [] → (A : ℕ) (x : List ℕ) (q : ℕ) → (table_of G k A x ≡ some q) ↔ Claims G k (First G k) (Follow G k) q A x
  pub unclaimed : (A : ℕ) (x : List ℕ) → (table_of G k A x ≡ none) ↔ ((q : ℕ) → Claims G k (First G k) (Follow G k) q A x → ⊥)
  pub ends : T (every_ends G k) ↔ EveryEnds G k (Follow G k)

-- 4. Which nonterminals are unproductive is decided, with the lowest; where there is none, each has a string in its FIRST set
pub record ProductiveDecided (G : Grammar) (k : ℕ) : Type 0 where
  pub test : (A : ℕ) → T (unproductive G k A) ↔ Unproductive G k A
  pub lowest : (A : ℕ)
      → (lowest_unproductive G k ≡ some A) ↔ ((A < G.nonterminals) × Unproductive G k A × ((B : ℕ) → B < A → Unproductive G k B → ⊥))
  pub absent : (lowest_unproductive G k ≡ none) ↔ ((A : ℕ) → A < G.nonterminals → (x : List ℕ) × First G k A x)

-- 5. With one token of lookahead, in document 01's words: sets are strung together, and the entries of a row are its columns, terminals in order and the
-- end last; the first clash is the first by nonterminal, then by column
pub record OneToken (G : Grammar) : Type 1 where
  pub first : (X : Symbol) (b : Body) (x : List ℕ)
      → FirstBody 1 (First G 1) (X ∷ b) x ↔ Strung (FirstOf 1 (First G 1) X) (FirstBody 1 (First G 1) b) x
  pub follow : (L : Family) → Short 1 L → FollowClosed G 1 (First G 1) L ↔ FollowStrung G (First G 1) L
  pub claims : (q A : ℕ) (x : List ℕ) → Claims G 1 (First G 1) (Follow G 1) q A x
      ↔ ((r : Rule) × (get_elem? G.rules q ≡ some r) × (r.head ≡ A) × Strung (Meeting G 1 (First G 1) r) (Follow G 1 A) x)
  pub columns : strings 1 G.terminals ≡ map (λ a. a ∷ []) (numbers_below G.terminals) ++ ([] ∷ [])
  pub first_clash_lem : (A : ℕ) (x : List ℕ) (l : List Entry) → clashes G 1 ≡ (A, x) ∷ l → (B : ℕ) (y : List ℕ) → Clash G 1 (First G 1) (Follow G 1) B y
      → (A < B) ⊎ ((A ≡ B) × (column G.terminals x ≤ column G.terminals y))

-- 6. FIRST sets are sound for a solution v: a span begins as its nonterminal or body says, and what derives an empty span is nullable
pub record SoundFirst (G : Grammar) (k : ℕ) (w : List ℕ) (v : Valuation) : Type 0 where
  pub nonterminal : (A i j : ℕ) → A < G.nonterminals → i ≤ j → j ≤ length w → T (v A i j) → First G k A (take k (span w i j))
  pub body : (b : Body) → NonterminalsBelow G.nonterminals b → (i j : ℕ) → i ≤ j → j ≤ length w → T (contains v w b i j)
      → FirstBody k (First G k) b (take k (span w i j))
  pub empty : (A i : ℕ) → A < G.nonterminals → i ≤ length w → T (v A i i) → T (nullable G A)

-- A called at i ends at m, whose lookahead string can follow A, and the body's rest b runs on to j
pub record Piece (k : ℕ) (L : Family) (w : List ℕ) (v : Valuation) (c : Outcomes) (A : ℕ) (b : Body) (i m j : ℕ) : Type 0 where
  pub ends : c A i ≡ End m
  pub rest : run c w b m ≡ End j
  pub onward : (i ≤ m) × (m ≤ j)
  pub follow : L A (look k w m)
  pub derived : v A i m ≡ true

-- 7. The local verdict for a solution v, where the lookahead string at j can follow: for a nonterminal, for the rest of a body of a rule,
-- and so for each nonterminal that such a rest begins with
pub record LocalVerdict (G : Grammar) (k : ℕ) (w : List ℕ) (v : Valuation) : Type 0 where
  pub nonterminal : (A i j : ℕ) → A < G.nonterminals → i ≤ j → j ≤ length w → Follow G k A (look k w j)
      → (descend G (table_choice G k w) w A i ≡ End j) ↔ (v A i j ≡ true)
  pub rest : (r : Rule) → Memᴰ r G.rules → (front rest : Body) → Memᴰ (front ++ rest) (bodies r)
      → (i j : ℕ) → i ≤ j → j ≤ length w → Follow G k r.head (look k w j)
      → (run (descend G (table_choice G k w) w) w rest i ≡ End j) ↔ (contains v w rest i j ≡ true)
  pub piece : (r : Rule) → Memᴰ r G.rules → (front : Body) (A : ℕ) (b : Body) → Memᴰ (front ++ (Nonterminal A ∷ b)) (bodies r)
      → (i j : ℕ) → i ≤ j → j ≤ length w → Follow G k r.head (look k w j) → run (descend G (table_choice G k w) w) w (Nonterminal A ∷ b) i ≡ End j
      → (m : ℕ) × Piece k (Follow G k) w v (descend G (table_choice G k w) w) A b i m j

-- 8. The verdict for a solution v
abbrev pub VerdictByMeaning : Grammar → ℕ → List ℕ → Valuation → Type 0
VerdictByMeaning G k w v = accepts G (table_choice G k w) w ≡ v 0 0 (length w)

-- 11. The memo table changes no outcome, and in the end holds the results of the calls and nothing else; the list of all calls is in its order
pub record MemoRight (G : Grammar) (choice : Choice) (w : List ℕ) : Type 0 where
  pub outcome : (memo_start G choice w).outcome ≡ descend G choice w 0 0
  pub recorded : Recorded G choice w (memo_start G choice w).memo
  pub ordered : (x z : Call) → InRange G w x → get_or (all_calls G w) (memo_index w x) z ≡ x

-- a rule with one positive body more
abbrev pub with_positive : Body → Rule → Rule
with_positive b r = record { head = r.head; positives = b ∷ r.positives; negatives = r.negatives }

-- 13. One positive body more that takes every span, and begins with every lookahead string, changes nothing; so a rule of negatives alone means what it
-- would mean with such a body (document 02: a first must that takes every stretch)
pub record OneMore (r : Rule) (b : Body) : Type 1 where
  pub derived : (v : Valuation) (w : List ℕ) (A i j : ℕ) → contains v w b i j ≡ true → derives v w A i j (with_positive b r) ≡ derives v w A i j r
  pub meeting : (G : Grammar) (k : ℕ) (F : Family) (x : List ℕ) → FirstBody k F b x → Meeting G k F (with_positive b r) x ↔ Meeting G k F r x

-- The theorems, with what they need
pub record Theorems : Type 1 where
  pub one_solution : (G : Grammar) → WellScoped G → NoLeftRecursion G → (w : List ℕ) → OneSolution G w
  pub left_recursion_decided : (G : Grammar) → WellScoped G → LeftRecursionDecided G
  pub least_sets : (G : Grammar) → WellScoped G → OwnTerminals G → 0 < G.nonterminals → (k : ℕ) → LeastSets G k
  pub productive_decided : (G : Grammar) (k : ℕ) → ProductiveDecided G k
  -- 12. Two families that are the least closed ones are one
  pub least_unique : (Closed : Family → Type 0) (F F' : Family) → Least Closed F → Least Closed F' → (A : ℕ) (x : List ℕ) → F A x ↔ F' A x
  pub one_token : (G : Grammar) → OneToken G
  pub one_more : (r : Rule) (b : Body) → OneMore r b
  pub sound_first : (G : Grammar) → WellScoped G → NoLeftRecursion G → (k : ℕ) (w : List ℕ) → Over G.terminals w
      → (v : Valuation) → Solves G w v → SoundFirst G k w v
  pub local_verdict : (G : Grammar) (k : ℕ) → Predictive G k → (w : List ℕ) → Over G.terminals w → (v : Valuation) → Solves G w v
      → LocalVerdict G k w v
  pub verdict : (G : Grammar) (k : ℕ) → Predictive G k → (w : List ℕ) → Over G.terminals w → (v : Valuation) → Solves G w v
      → VerdictByMeaning G k w v
  pub descent_ends : (G : Grammar) → WellScoped G → NoLeftRecursion G → (choice : Choice) → OwnRules G choice → (w : List ℕ) → DescentEnds G choice w
  pub calls_counted : (G : Grammar) → WellScoped G → NoLeftRecursion G → 0 < G.nonterminals
      → (choice : Choice) → OwnRules G choice → (w : List ℕ) → CallsCounted G choice w
  pub memo_right : (G : Grammar) → WellScoped G → NoLeftRecursion G → 0 < G.nonterminals
      → (choice : Choice) → OwnRules G choice → (w : List ℕ) → EndsFit w → MemoRight G choice w
  -- the needs of 7 to 11 are met: the table's choice is of own rules, and of the well-formed grammars just those that pass are predictive
  pub own_rules : (G : Grammar) (k : ℕ) (w : List ℕ) → OwnRules G (table_choice G k w)
  pub passed : (G : Grammar) (k : ℕ) → 0 < k → WellFormed G → 0 < G.nonterminals → ((lowest_left_recursive G ≡ none) × (clashes G k ≡ [])) ↔ Predictive G k
