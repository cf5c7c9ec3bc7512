-- Passes that join sets into an array until one adds nothing: the array is then the least closed family, whatever "closed" means.
use mathlib.Core.Path.{◌≡◌, refl, ap, ◌∙◌}
use mathlib.Core.Bool.{Bool, true, false, true≢false, ◌||◌}
use mathlib.Core.List.{List, [], ◌∷◌}
use Prim.Native.Nat.{ℕ, zero, suc, ◌+◌, ◌*◌, ◌-◌, ◌%◌, ◌≤◌, ◌<◌}
use native.Mathlib.Nat.{suc-mul, mod-eq_of_lt}
use native.Mathlib.Omega.{arith}
use native.Mathlib.Decide.{ℕ_discrete}
use lib.ListN.{length, get_or, set, replicate, length-set}
use lib.Seq.{get_or-set_same, get_or-set_other, set-get_or}
use borrow.Author.Tests.{eq-eqb, ne_eqb}
use Rattle.grammar.specs.Limits.{max_nonterminals}
use Rattle.lookahead.specs.inner.Elements.{Subset}
use Rattle.lookahead.specs.inner.Operations.{join}
use Rattle.lookahead.proofs.Order.{subset_refl, join_left, join_right, empty_least, join_least, join_grows, same_join, subset_le}
use Rattle.families.specs.inner.Least.{SetFamily, at, Under, LeastNumbers, AddsToSet, sum, Passing, Passes}

-- the sum rises by what is stored
sum_set : (l : List ℕ) (n v : ℕ) → n < length l → sum (set l n v) + at l n ≡ sum l + v
unfolding sum
sum_set [] n v h = absurd (omega arith)
sum_set (x ∷ l) zero v h = omega arith
sum_set (x ∷ l) (suc n) v h = omega (arith, sum_set l n v (omega arith))

-- with numbers below m it stays below
sum_bound : (m : ℕ) (l : List ℕ) → ((n : ℕ) → at l n ≤ m) → sum l ≤ length l * m
unfolding sum
sum_bound m [] h = omega arith
sum_bound m (x ∷ l) h = omega (arith, h 0, sum_bound m l (λ n. h (suc n)), suc-mul (length l) m)

under_join : (l : List ℕ) (n v : ℕ) (G : SetFamily) → n < length l → Under (at l) G → Subset v (G n) → Under (at (set l n (join (at l n) v))) G
under_join l n v G h u s m = go (ℕ_discrete m n)
  where
    go : Dec (m ≡ n) → Subset (get_or (set l n (join (at l n) v)) m 0) (G m)
    go (yes e) = rw (e, get_or-set_same l n (join (at l n) v) 0 h) (join_least (at l n) v (G n) (u n) s)
    go (no ne) = rw (get_or-set_other l n m (join (at l n) v) 0 ne) (u m)

grown_under : (l : List ℕ) (n v : ℕ) → n < length l → Under (at l) (at (set l n (join (at l n) v)))
grown_under l n v h m = go (ℕ_discrete m n)
  where
    go : Dec (m ≡ n) → Subset (at l m) (at (set l n (join (at l n) v)) m)
    go (yes e) = rw (e, get_or-set_same l n (join (at l n) v) 0 h) (join_left (at l n) v)
    go (no ne) = rw (get_or-set_other l n m (join (at l n) v) 0 ne) (subset_refl (at l m))

-- where nothing is asked
pub passing_none : {W C : SetFamily → Type 0} (l : List ℕ) → C (at l) → Passing W C l l false
passing_none l c = record { long = refl; same = λ e. refl; risen = λ m. subset_refl (at l m); grows = omega arith; still = λ e. c; below = λ G g u. u }

-- for fewer families, and for what follows from what is asked
pub passing_on : {W W' C C' : SetFamily → Type 0} {l₀ l : List ℕ} {grown : Bool} → ((G : SetFamily) → W' G → W G) → ((G : SetFamily) → C G → C' G)
    → Passing W C l₀ l grown → Passing W' C' l₀ l grown
passing_on {l = l} fewer more p =
    record { long = p.long; same = p.same; risen = p.risen; grows = p.grows; still = λ f. more (at l) (p.still f); below = λ G c. p.below G (fewer G c) }

-- one part behind another
pub passing_then : {W C C' : SetFamily → Type 0} {l₀ l l' : List ℕ} (g g' : Bool) → Passing W C l₀ l g → Passing W C' l l' g'
    → Passing W (λ L. C L × C' L) l₀ l' (g || g')
passing_then true g' p q = record {
  long = q.long ∙ p.long;
  same = λ f. absurd (true≢false f);
  risen = λ m x t. q.risen m x (p.risen m x t);
  grows = omega (arith, p.grows, q.grows);
  still = λ f. absurd (true≢false f);
  below = λ G c u. q.below G c (p.below G c u);
}
passing_then false g' p q = record {
  long = q.long ∙ p.long;
  same = λ f. q.same f ∙ p.same refl;
  risen = λ m x t. q.risen m x (p.risen m x t);
  grows = omega (arith, p.grows, q.grows);
  still = λ f. (rw (q.same f) (p.still refl), q.still f);
  below = λ G c u. q.below G c (p.below G c u);
}

-- a store of v into the set of n: every family of W has v there, and a family that has it is closed
pub passing_add : {W C : SetFamily → Type 0} {l l' : List ℕ} {n v : ℕ} {r : Bool} → n < length l
    → ((G : SetFamily) → W G → Under (at l) G → Subset v (G n)) → (Subset v (at l n) → C (at l)) → AddsToSet l n v l' r → Passing W C l l' r
passing_add {W} {C} {l} {l'} {n} {v} {r} h value new a = go (ℕ_discrete (join (at l n) v) (at l n))
  where
    go : Dec (join (at l n) v ≡ at l n) → Passing W C l l' r
    go (yes e) =
        let list : l' ≡ l = a.list ∙ ap (λ (x : ℕ). set l n x) e ∙ set-get_or l n 0 in
        let told : r ≡ false = a.told ∙ rw (eq-eqb (join (at l n) v) (at l n) e) in
        rw (list, told) (passing_none l (new (same_join (at l n) v e)))
    go (no ne) =
        let told : r ≡ true = a.told ∙ rw (ne_eqb (join (at l n) v) (at l n) ne) in
        rw (a.list, told) (record {
          long = length-set l n (join (at l n) v);
          same = λ f. absurd (true≢false f);
          risen = grown_under l n v h;
          grows = omega (arith, sum_set l n (join (at l n) v) h, join_grows (at l n) v ne);
          still = λ f. absurd (true≢false f);
          below = λ G c u. under_join l n v G h u (value G c u);
        })

-- where numbers are counted round, a nonterminal's stays
pub added_at : {l l' : List ℕ} {n v : ℕ} {r : Bool} → n < max_nonterminals → AddsToSet l (n % max_nonterminals) v l' r → AddsToSet l n v l' r
added_at h a = rw (mod-eq_of_lt h) at a

-- what is added is there, and what was there too
pub added_risen : {l l' : List ℕ} {n v : ℕ} {r : Bool} → n < length l → AddsToSet l n v l' r → Under (at l) (at l')
added_risen {l} {n = n} {v} h a = rw a.list (grown_under l n v h)

pub added_in : {l l' : List ℕ} {n v : ℕ} {r : Bool} → n < length l → AddsToSet l n v l' r → Subset v (at l' n)
added_in {l} {n = n} {v} h a = rw (a.list, get_or-set_same l n (join (at l n) v) 0 h) (join_right (at l n) v)

pub added_below : {l l' : List ℕ} {n v : ℕ} {r : Bool} → n < length l → AddsToSet l n v l' r → (G : SetFamily) → Under (at l) G → Subset v (G n)
    → Under (at l') G
added_below {l} {n = n} {v} h a G u s = rw a.list (under_join l n v G h u s)

-- under every closed family: what holds from pass to pass
abbrev pub Below : (SetFamily → Type 0) → List ℕ → Type 0
Below C l = (G : SetFamily) → C G → Under (at l) G

-- empty sets are
pub below_none : (C : SetFamily → Type 0) (n : ℕ) → Below C (replicate n 0)
below_none C n G c m = rw (none n m) (empty_least (G m))
  where
    none : (n m : ℕ) → at (replicate n 0) m ≡ 0
    none zero m = refl
    none (suc n) zero = refl
    none (suc n) (suc m) = none n m

-- how much the arrays of a length can still grow, where no set is a greater number than m
abbrev pub missing : ℕ → List ℕ → ℕ
missing m l = length l * m - sum l

-- a pass keeps it, ends the passes if nothing has grown, and leaves less to grow if something has
module _ {C : SetFamily → Type 0} {l l' : List ℕ} {r : Bool} (p : Passes C l l' r) (b : Below C l) where
  pub below_pass : Below C l'
  below_pass G c = p.below G c (b G c)

  pub least_pass : r ≡ false → LeastNumbers C l'
  least_pass e = record { closed = p.still e; least = below_pass }

  pub missing_falls : (m : ℕ) (G : SetFamily) → C G → ((n : ℕ) → G n ≤ m) → r ≡ true → missing m l' < missing m l
  missing_falls m G c h e =
      let g = rw e at p.grows in
      let k = sum_bound m l' (λ n. omega (arith, subset_le (at l' n) (G n) (below_pass G c n), h n)) in
      rw (← p.long) (omega arith)
