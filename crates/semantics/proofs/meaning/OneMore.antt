-- A positive body that takes every span, and begins with every lookahead string, changes nothing in a rule.
use mathlib.Core.Path.{◌≡◌}
use mathlib.Core.Bool.{true}
use mathlib.Core.List.Memᴰ
use mathlib.Core.List.{List}
use mathlib.Core.Logic.{◌↔◌, inl, inr}
use Prim.Native.Nat.{ℕ}
use Rattle.grammar.specs.Syntax.{Body, Rule, Grammar}
use Rattle.base.specs.Quantifiers.{all_of}
use Rattle.semantics.specs.Valuations.{Valuation, contains, derives}
use Rattle.semantics.specs.Families.{Family, FirstBody, Meeting}
use Rattle.semantics.specs.inner.Theorems.{with_positive}

module _ (r : Rule) (b : Body) where
  pub more_derived : (v : Valuation) (w : List ℕ) (A i j : ℕ) → contains v w b i j ≡ true → derives v w A i j (with_positive b r) ≡ derives v w A i j r
  unfolding derives all_of
  more_derived v w A i j e = rw e

  pub more_meeting : (G : Grammar) (k : ℕ) (F : Family) (x : List ℕ) → FirstBody k F b x → Meeting G k F (with_positive b r) x ↔ Meeting G k F r x
  more_meeting G k F x f = (
    λ m. (m.0, λ c n. m.1 c (Memᴰ.tail n)),
    λ m. (m.0, λ c n. elim (Memᴰ.cases_cons n) [ inl e ↦ rw e f | inr n ↦ m.1 c n ]),
  )
