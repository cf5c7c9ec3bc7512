-- `FollowBody` in the usual words: for every nonterminal of the body, with what stands before and after it.
use mathlib.Core.List.{List, [], ◌∷◌, ◌++◌}
use mathlib.Core.Logic.{◌↔◌}
use mathlib.Core.Path.{◌≡◌, refl, ap}
use Prim.Native.Nat.{ℕ}
use lib.ListN.{take}
use Rattle.word.specs.declared.Symbol.TheVariants.{Terminal, Nonterminal}
use Rattle.grammar.specs.Syntax.{Body}
use Rattle.semantics.specs.Families.{Family, FirstBody, FollowBody}

module _ (k : ℕ) (F L : Family) (y : List ℕ) where
  abbrev pub Cuts : Body → Type 0
  Cuts b = (μ ν : Body) (A : ℕ) → b ≡ μ ++ Nonterminal A ∷ ν → (u : List ℕ) → FirstBody k F ν u → L A (take k (u ++ y))

  follow_at : (μ ν : Body) (A : ℕ) → FollowBody k F L y (μ ++ Nonterminal A ∷ ν) → (u : List ℕ) → FirstBody k F ν u → L A (take k (u ++ y))
  follow_at [] ν A h = h.0
  follow_at (Terminal a ∷ μ) ν A h = follow_at μ ν A h
  follow_at (Nonterminal B ∷ μ) ν A h = follow_at μ ν A h.1

  cuts_follow : (b : Body) → Cuts b → FollowBody k F L y b
  cuts_follow [] h = tt
  cuts_follow (Terminal a ∷ b) h = cuts_follow b (λ μ ν A e. h (Terminal a ∷ μ) ν A (ap (λ l. Terminal a ∷ l) e))
  cuts_follow (Nonterminal B ∷ b) h = (h [] b B refl, cuts_follow b (λ μ ν A e. h (Nonterminal B ∷ μ) ν A (ap (λ l. Nonterminal B ∷ l) e)))

  -- the definition by recursion on the body and the one by cuts agree
  pub follow_cuts : (b : Body) → FollowBody k F L y b ↔ Cuts b
  follow_cuts b = (λ h μ ν A e. follow_at μ ν A (rw e at h), cuts_follow b)
