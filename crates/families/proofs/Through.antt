-- A walk over an array, each set of which goes on through a nonterminal.
use mathlib.Core.Path.{◌≡◌, refl, sym, ◌∙◌}
use mathlib.Core.Bool.{Bool, true, false}
use mathlib.Core.List.{List}
use Prim.Native.Nat.{ℕ, ◌≤◌, ◌<◌}
use native.Mathlib.Omega.{arith}
use lib.ListN.{length, length-map}
use lib.Seq.{ext_get_or}
use Rattle.base.specs.Choice.{choose}
use Rattle.lookahead.specs.Elements.{has}
use Rattle.lookahead.specs.inner.Operations.{join}
use Rattle.lookahead.proofs.Order.{empty_least, join_same}
use Rattle.families.specs.inner.Least.{at}
use Rattle.families.specs.inner.Reach.{extended, through}
use Rattle.families.proofs.Closure.{through_at}

pub through_long : (B : ℕ) (l : List ℕ) → length (through B l) ≡ length l
unfolding through
through_long B l = length-map l (extended B (at l B))

-- nothing is beyond B
pub through_none : (B : ℕ) (l : List ℕ) → at l B ≡ 0 → l ≡ through B l
through_none B l e = ext_get_or 0 l (through B l) (sym (through_long B l)) (λ A h. sym (through_at B l A ∙ rw e (go (at l A) (has (at l A) B))))
  where
    go : (s : ℕ) (b : Bool) → choose b (join s 0) s ≡ s
    go s true = join_same s 0 (empty_least s)
    go s false = refl

-- a walk that has come to i
pub record Walked (B : ℕ) (l₀ l : List ℕ) (i : ℕ) : Type 0 where
  pub long : length l ≡ length l₀
  pub before : (A : ℕ) → A < i → at l A ≡ extended B (at l₀ B) (at l₀ A)
  pub from : (A : ℕ) → i ≤ A → at l A ≡ at l₀ A

module _ {B : ℕ} {l₀ l : List ℕ} {i : ℕ} (w : Walked B l₀ l i) where
  pub walked_all : length l₀ ≤ i → l ≡ through B l₀
  walked_all h = ext_get_or 0 l (through B l₀) (w.long ∙ sym (through_long B l₀)) (λ A b. w.before A (omega (arith, w.long)) ∙ sym (through_at B l₀ A))
