-- The lowest number that passes a test, by what the test says.
use mathlib.Core.Bool.{Bool}
use mathlib.Core.Logic.{◌↔◌}
use mathlib.Core.Option.{none, some}
use mathlib.Core.Path.{◌≡◌}
use Prim.Native.Nat.{ℕ, ◌<◌}
use lib.Dec.{T, T_not, not_T}
use Rattle.base.specs.Quantifiers.{lowest}
use Rattle.base.proofs.Quantified.{lowest_some, lowest_none}

module _ (n : ℕ) (p : ℕ → Bool) (P : ℕ → Type 0) (iff : (A : ℕ) → T (p A) ↔ P A) where
  pub lowest_decided : (A : ℕ) → (lowest n p ≡ some A) ↔ ((A < n) × P A × ((B : ℕ) → B < A → P B → ⊥))
  lowest_decided A =
      let l = lowest_some n p A in (
        λ e. let h = l.0 e in (h.0, (iff A).0 h.1, λ B b q. T_not (p B) (h.2 B b) ((iff B).1 q)),
        λ h. l.1 (h.0, (iff A).1 h.1, λ B b. not_T (p B) (λ u. h.2 B b ((iff B).0 u))),
      )

  pub none_decided : (lowest n p ≡ none) ↔ ((A : ℕ) → A < n → P A → ⊥)
  none_decided =
      let l = lowest_none n p in
      (λ e A a q. T_not (p A) (l.0 e A a) ((iff A).1 q), λ h. l.1 (λ A a. not_T (p A) (λ u. h A a ((iff A).0 u))))
