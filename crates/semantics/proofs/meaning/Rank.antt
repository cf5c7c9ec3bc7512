-- In a grammar with no left recursion the rank falls along left dependence, and so levels fall: a shorter length, or the same and a lower rank.
use mathlib.Core.List.{List}
use mathlib.Core.Path.{◌≡◌}
use Prim.Native.Nat.{ℕ, ◌-◌, ◌≤◌, ◌<◌}
use native.Mathlib.Decide.{dec_lt}
use native.Mathlib.Nat.{mul-le-mul_right}
use native.Mathlib.Omega.{arith}
use lib.Dec.{not_T}
use lib.ListN.{length}
use Rattle.grammar.specs.Syntax.{Grammar, WellScoped}
use Rattle.semantics.specs.Valuations.{pairs}
use Rattle.semantics.specs.LeftRecursion.{LeftDepends, once, NoLeftRecursion, left_reaches, rank, level}
use Rattle.base.proofs.Quantified.{count_lt, count_short}
use Rattle.semantics.proofs.meaning.LeftRecursion.{reaches_then, target_below, left_reaches_iff}

module _ (G : Grammar) (c : WellScoped G) (free : NoLeftRecursion G) where
  -- the rank falls along left dependence
  pub rank_falls : (A B : ℕ) → LeftDepends G A B → rank G B < rank G A
  unfolding rank
  rank_falls A B d =
      count_lt G.nonterminals (left_reaches G B) (left_reaches G A)
      (λ C t. (left_reaches_iff G c A C).1 (reaches_then G A B C d ((left_reaches_iff G c B C).0 t)))
      B (target_below G c A B d)
      (not_T (left_reaches G B B) (λ t. free B ((left_reaches_iff G c B B).0 t)))
      ((left_reaches_iff G c A B).1 (once d))

  -- the rank is below the number of nonterminals
  pub rank_below : (A : ℕ) → A < G.nonterminals → rank G A < G.nonterminals
  unfolding rank
  rank_below A a = count_short G.nonterminals (left_reaches G A) A a (not_T (left_reaches G A A) (λ t. free A ((left_reaches_iff G c A A).0 t)))

  pub level_shorter : (A B d e : ℕ) → B < G.nonterminals → e < d → level G e B < level G d A
  unfolding level
  level_shorter A B d e b h = omega (arith, rank_below B b, mul-le-mul_right G.nonterminals h)

  pub level_left : (A B d : ℕ) → LeftDepends G A B → level G d B < level G d A
  unfolding level
  level_left A B d h = omega (arith, rank_falls A B h)

  -- a nonterminal met at place j after i, or at i itself at the left of a body of A, has a lower level, by what is left up to n
  pub level_onward : (A B n i j : ℕ) → B < G.nonterminals → i ≤ j → j ≤ n → (j ≡ i → LeftDepends G A B) → level G (n - j) B < level G (n - i) A
  level_onward A B n i j b ij jn left = go (dec_lt i j)
    where
      go : Dec (i < j) → level G (n - j) B < level G (n - i) A
      go (yes l) = level_shorter A B (n - i) (n - j) b (omega arith)
      go (no l) = let e : j ≡ i = omega arith in rw e (level_left A B (n - i) (left e))

  -- every level within the input is below the number of pairs
  pub level_top : (w : List ℕ) (A d : ℕ) → A < G.nonterminals → d ≤ length w → level G d A < pairs G w
  unfolding level
  level_top w A d a h = omega (arith, rank_below A a, mul-le-mul_right G.nonterminals h)
