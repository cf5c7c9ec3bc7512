-- A pass goes over the rules in any order: what each rule asks of a family is met in its turn, and in the end all of it.
use mathlib.Core.Path.{◌≡◌, refl}
use mathlib.Core.Bool.{Bool, true, false, ◌||◌}
use mathlib.Core.List.{List}
use Prim.Native.Nat.{ℕ, suc, ◌+◌, ◌-◌, ◌≤◌, ◌<◌}
use native.Mathlib.Decide.{ℕ_discrete}
use native.Mathlib.Numerals.{add-one}
use native.Mathlib.Omega.{arith}
use Rattle.families.specs.inner.Least.{SetFamily, Passing, Passes}
use Rattle.families.specs.inner.Rules.{turn_of}
use Rattle.families.proofs.LeastByPasses.{passing_on, passing_then}

-- every rule has its turn
pub turn_below : (forward : Bool) (n i : ℕ) → i < n → turn_of forward n i < n
turn_below true n i h = h
turn_below false n i h = omega arith

pub turn_of_lem : (forward : Bool) (n q : ℕ) → q < n → (i : ℕ) × (i < n) × (turn_of forward n i ≡ q)
turn_of_lem true n q h = (q, h, refl)
turn_of_lem false n q h = (n - suc q, omega arith, omega arith)

-- what n rules ask of a family, and what those ask that have had their turn
module _ (asks : ℕ → SetFamily → Type 0) (n : ℕ) (forward : Bool) where
  abbrev pub All : SetFamily → Type 0
  All L = (q : ℕ) → q < n → asks q L

  abbrev pub Some : ℕ → SetFamily → Type 0
  Some i L = (j : ℕ) → j < i → asks (turn_of forward n j) L

  abbrev pub Turns : List ℕ → List ℕ → Bool → ℕ → Type 0
  Turns l₀ l grown i = Passing All (Some i) l₀ l grown

  one_more : (i : ℕ) (L : SetFamily) → Some i L × asks (turn_of forward n i) L → Some (suc i) L
  one_more i L s j h = go (ℕ_discrete j i)
    where
      go : Dec (j ≡ i) → asks (turn_of forward n j) L
      go (yes e) = rw e s.1
      go (no ne) = s.0 j (omega arith)

  pub turns_next : {l₀ l l' : List ℕ} (g g' : Bool) {r : Bool} {i : ℕ} → Turns l₀ l g i → i < n → Passes (asks (turn_of forward n i)) l l' g'
      → r ≡ (g || g') → Turns l₀ l' r (i + 1)
  turns_next g g' {r} {i} p h q e =
      rw (e, add-one i) (passing_on (λ G c. c) (one_more i)
      (passing_then g g' p (passing_on (λ G c. c (turn_of forward n i) (turn_below forward n i h)) (λ G c. c) q)))

  pub turns_end : {C : SetFamily → Type 0} {l₀ l : List ℕ} {grown : Bool} {i : ℕ} → Turns l₀ l grown i → n ≤ i → ((G : SetFamily) → C G → All G)
      → ((G : SetFamily) → All G → C G) → Passes C l₀ l grown
  turns_end {i = i} p h to from = passing_on to (λ G s. from G (λ q b. met G s q b (turn_of_lem forward n q b))) p
    where
      met : (G : SetFamily) → Some i G → (q : ℕ) → q < n → (j : ℕ) × (j < n) × (turn_of forward n j ≡ q) → asks q G
      met G s q b t = rw t.2 at (s t.0 (omega (arith, t.1)))
