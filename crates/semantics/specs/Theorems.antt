-- What promises cite of this crate's twelve statements (specs/contracts/Theorems.antt): one solution, the end of the descent, and the calls.
use Rattle.std.specs.Prelude.{◌≡◌, ℕ, suc, ◌-◌, ◌*◌, ◌≤◌, ◌<◌, T, length}
use mathlib.Core.List.{List, Memᴰ}
use Rattle.grammar.specs.Syntax.{Grammar}
use Rattle.semantics.specs.Valuations.{Valuation, by_rules, Solves, solution}
use Rattle.semantics.specs.LeftRecursion.{nullable, rank, level}
use Rattle.semantics.specs.Choices.{Choice}
use Rattle.semantics.specs.Descent.{End, Outcomes, Results, descend}
use Rattle.semantics.specs.ComesTo.{Call, InRange, call_comes_to}
use Rattle.semantics.specs.Calls.{Called, Listing, calls, call_count, farthest}

-- two valuations agree on the spans within i .. j that are of a lower level than A there, and an empty one is derived from nullable nonterminals alone
abbrev pub AgreeBelow : Grammar → Valuation → Valuation → ℕ → ℕ → ℕ → Type 0
AgreeBelow G v v' A i j = (B k m : ℕ) → B < G.nonterminals → i ≤ k → k ≤ m → m ≤ j → level G (m - k) B < level G (j - i) A
    → (v B k m ≡ v' B k m) × (k ≡ m → T (v B k m) → T (nullable G B))

-- 1. Without left recursion exactly one valuation solves the grammar on an input; what the rules say of a span they say by lower levels
pub record OneSolution (G : Grammar) (w : List ℕ) : Type 0 where
  pub solves : Solves G w (solution G w)
  pub only : (v : Valuation) → Solves G w v → (A i j : ℕ) → A < G.nonterminals → i ≤ j → j ≤ length w → v A i j ≡ solution G w A i j
  pub lower : (v v' : Valuation) (A i j : ℕ) → i ≤ j → AgreeBelow G v v' A i j → by_rules G w v A i j ≡ by_rules G w v' A i j

-- 9. The descent ends: its outcomes are what the rules give and the only such ones; from each call to those it makes the tokens left fall, or else
-- the rank does
pub record DescentEnds (G : Grammar) (choice : Choice) (w : List ℕ) : Type 0 where
  pub unfolds : Results G choice w (descend G choice w)
  pub only : (c : Outcomes) → Results G choice w c → (A i : ℕ) → A < G.nonterminals → i ≤ length w → c A i ≡ descend G choice w A i
  pub forward : (A i j : ℕ) → i ≤ length w → descend G choice w A i ≡ End j → (i ≤ j) × (j ≤ length w)
  pub empty : (A i : ℕ) → i ≤ length w → descend G choice w A i ≡ End i → T (nullable G A)
  pub falls : (x : Call) → InRange G w x → (y : Call) → Memᴰ y (call_comes_to G choice w x)
      → InRange G w y × (x.place ≤ y.place) × (y.place ≡ x.place → rank G y.nonterminal < rank G x.nonterminal)

-- 10. The calls are listed, each once; any such list has their number; they are at most one for each nonterminal and place; the farthest place is a call's
pub record CallsCounted (G : Grammar) (choice : Choice) (w : List ℕ) : Type 0 where
  pub listing : Listing G choice w (calls G choice w)
  pub count : (l : List Call) → Listing G choice w l → length l ≡ call_count G choice w
  pub bounded : call_count G choice w ≤ G.nonterminals * suc (length w)
  pub farthest_most : (x : Call) → Called G choice w x → x.place ≤ farthest G choice w
  pub farthest_called : (x : Call) × Called G choice w x × (x.place ≡ farthest G choice w)
