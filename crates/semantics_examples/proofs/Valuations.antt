-- Examples: a grammar with its solution, and one that no valuation solves.
use mathlib.Core.Bool.{Bool, true, false, not, ◌&&◌, ◌||◌, true≢false, false≢true}
use mathlib.Core.List.{List, [], ◌∷◌}
use mathlib.Core.Option.{some}
use mathlib.Core.Path.{◌≡◌, refl}
use Prim.Native.Nat.{ℕ}
use native.Mathlib.Omega.{arith}
use Rattle.word.specs.declared.Symbol.TheVariants.{Terminal, Nonterminal}
use Rattle.grammar.specs.Syntax.{Grammar, WellScoped}
use Rattle.base.specs.Quantifiers.{any_of, all_of, any_below}
use Rattle.semantics.specs.Valuations.{Valuation, contains, derives, by_rules, rounds, Solves, solution}
use Rattle.semantics.specs.LeftRecursion.{NoLeftRecursion, lowest_left_recursive}
use Rattle.semantics.proofs.meaning.LeftRecursion.{lowest_left_recursive_none}
use Rattle.semantics.proofs.meaning.Unique.{solution_solves}
use Rattle.semantics_examples.proofs.Check.{below_test, scoped_test, scoped_test_sound}
use Rattle.semantics_examples.proofs.Computing.{left_recursion_computes}

-- S → T & ¬ a b, T → a T b, T → ε: the words aⁿbⁿ but for ab
abbrev pub balanced : Grammar
balanced = record {
  nonterminals = 2;
  terminals = 2;
  rules =
      record { head = 0; positives = (Nonterminal 1 ∷ []) ∷ []; negatives = (Terminal 0 ∷ Terminal 1 ∷ []) ∷ [] }
      ∷ record { head = 1; positives = (Terminal 0 ∷ Nonterminal 1 ∷ Terminal 1 ∷ []) ∷ []; negatives = [] }
      ∷ record { head = 1; positives = [] ∷ []; negatives = [] } ∷ [];
}

pub balanced_scoped : WellScoped balanced
unfolding scoped_test below_test all_of
balanced_scoped = scoped_test_sound balanced tt

-- no nonterminal is found that left-reaches itself
pub balanced_free : NoLeftRecursion balanced
unfolding left_recursion_computes
balanced_free = (lowest_left_recursive_none balanced balanced_scoped).0 refl

balanced_solves : (w : List ℕ) → Solves balanced w (solution balanced w)
balanced_solves = solution_solves balanced balanced_scoped balanced_free

-- by four rounds, the count that matters here
aabb : rounds balanced (0 ∷ 0 ∷ 1 ∷ 1 ∷ []) 4 (λ _ _ _. false) 0 0 4 ≡ true
unfolding rounds by_rules derives contains any_of all_of any_below
aabb = refl

ab : rounds balanced (0 ∷ 1 ∷ []) 4 (λ _ _ _. false) 0 0 2 ≡ false
unfolding rounds by_rules derives contains any_of all_of any_below
ab = refl

-- S → ¬ S: left-recursive by its negative body, and no valuation solves it
abbrev liar : Grammar
liar = record { nonterminals = 1; terminals = 0; rules = record { head = 0; positives = []; negatives = (Nonterminal 0 ∷ []) ∷ [] } ∷ [] }

liar_lowest : lowest_left_recursive liar ≡ some 0
unfolding left_recursion_computes
liar_lowest = refl

liar_flips : (b : Bool) → b ≡ (not (((b && true) || false) || false) || false) → ⊥
liar_flips true e = true≢false e
liar_flips false e = false≢true e

liar_none : (w : List ℕ) (v : Valuation) → Solves liar w v → ⊥
unfolding by_rules derives contains any_of all_of any_below
liar_none w v k = liar_flips (v 0 0 0) (k 0 0 0 (omega arith) (omega arith) (omega arith))

aabb_whole : solution balanced (0 ∷ 0 ∷ 1 ∷ 1 ∷ []) 0 0 4 ≡ true
unfolding solution rounds by_rules derives contains any_of all_of any_below
aabb_whole = refl

ab_whole : solution balanced (0 ∷ 1 ∷ []) 0 0 2 ≡ false
unfolding solution rounds by_rules derives contains any_of all_of any_below
ab_whole = refl

-- S → T a, T → S: both left-reach themselves, and S is the lower
abbrev circular : Grammar
circular = record {
  nonterminals = 2;
  terminals = 1;
  rules =
      record { head = 0; positives = (Nonterminal 1 ∷ Terminal 0 ∷ []) ∷ []; negatives = [] }
      ∷ record { head = 1; positives = (Nonterminal 0 ∷ []) ∷ []; negatives = [] } ∷ [];
}

circular_lowest : lowest_left_recursive circular ≡ some 0
unfolding left_recursion_computes
circular_lowest = refl
