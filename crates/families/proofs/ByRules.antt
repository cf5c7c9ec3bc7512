-- Arrays of a number for each rule, filled rule by rule in either direction.
use mathlib.Core.Path.{◌≡◌, refl, sym, ap, ap₂, ◌∙◌}
use mathlib.Core.Bool.{Bool, true, false}
use mathlib.Core.List.{List, [], ◌∷◌, ◌++◌, map}
use mathlib.Core.Option.{some}
use Prim.Native.Nat.{ℕ, zero, suc, ◌+◌, ◌-◌, ◌≤◌, ◌<◌}
use native.Mathlib.Decide.{ℕ_discrete}
use native.Mathlib.Omega.{arith}
use lib.ListN.{length, get_or, get_elem?, set, replicate, length-set, length-map, length-replicate}
use lib.Seq.{get_or-set_same, get_or-set_other}
use Rattle.grammar.specs.Limits.{max_rules}
use Rattle.grammar.specs.Syntax.{Rule}
use Rattle.families.specs.inner.RuleLists.{by_rule}
use Rattle.families.specs.inner.Rules.{turn_of, ByRules}
use Rattle.base.proofs.Lists.{get_d_zeros}
use Rattle.families.proofs.RulePasses.{turn_below, turn_of_lem}

pub by_rules_zeros : (n : ℕ) → ByRules n (replicate max_rules 0)
by_rules_zeros n = record { long = length-replicate {A = ℕ} max_rules 0; behind = λ q h. get_d_zeros max_rules q }

-- a number is stored for rule q
module _ {n : ℕ} {l l' : List ℕ} {q : ℕ} (v : ℕ) (few : n ≤ max_rules) (room : ByRules n l) (h : q < n) (e : l' ≡ set l q v) where
  pub store_room : ByRules n l'
  store_room = record {
    long = ap length e ∙ length-set l q v ∙ room.long;
    behind = λ p b. rw e (get_or-set_other l q p v 0 (λ d. omega arith) ∙ room.behind p b);
  }

  store_here : get_or l' q 0 ≡ v
  store_here = rw e (get_or-set_same l q v 0 (omega (arith, room.long)))

  store_other : (p : ℕ) → (p ≡ q → ⊥) → get_or l' p 0 ≡ get_or l p 0
  store_other p ne = rw e (get_or-set_other l q p v 0 ne)

-- the rules that have had their turn have their numbers
pub record FilledTo (value : ℕ → ℕ) (n : ℕ) (forward : Bool) (l : List ℕ) (i : ℕ) : Type 0 where
  pub room : ByRules n l
  pub each : (j : ℕ) → j < i → get_or l (turn_of forward n j) 0 ≡ value (turn_of forward n j)

pub filled_none : (value : ℕ → ℕ) (n : ℕ) (forward : Bool) (l : List ℕ) → ByRules n l → FilledTo value n forward l 0
filled_none value n forward l room = record { room = room; each = λ j h. absurd (omega arith) }

turn_once : (forward : Bool) (n i j : ℕ) → i < n → j < n → turn_of forward n i ≡ turn_of forward n j → i ≡ j
turn_once true n i j a b e = e
turn_once false n i j a b e = omega arith

pub filled_next : {value : ℕ → ℕ} {n : ℕ} (forward : Bool) {l l' : List ℕ} {i : ℕ} (v : ℕ) → n ≤ max_rules → FilledTo value n forward l i → i < n
    → l' ≡ set l (turn_of forward n i) v → v ≡ value (turn_of forward n i) → FilledTo value n forward l' (i + 1)
filled_next {value} {n} forward {l} {l'} {i} v few f h e d =
    record { room = store_room v few f.room (turn_below forward n i h) e; each = λ j b. go j b (ℕ_discrete j i) }
  where
    go : (j : ℕ) → j < i + 1 → Dec (j ≡ i) → get_or l' (turn_of forward n j) 0 ≡ value (turn_of forward n j)
    go j b (yes s) = rw s (store_here v few f.room (turn_below forward n i h) e ∙ d)
    go j b (no ne) =
        store_other v few f.room (turn_below forward n i h) e (turn_of forward n j) (λ t. ne (turn_once forward n j i (omega arith) h t))
        ∙ f.each j (omega arith)

pub filled_each : {value : ℕ → ℕ} {n : ℕ} (forward : Bool) {l : List ℕ} {i : ℕ} → FilledTo value n forward l i → n ≤ i
    → (q : ℕ) → q < n → get_or l q 0 ≡ value q
filled_each {value} {n} forward {l} {i} f h q b = go (turn_of_lem forward n q b)
  where
    go : (j : ℕ) × (j < n) × (turn_of forward n j ≡ q) → get_or l q 0 ≡ value q
    go t = rw t.2 at (f.each t.0 (omega (arith, t.1)))

-- with all numbers it is the list of them
zeros_are : (m : ℕ) (l : List ℕ) → length l ≡ m → ((q : ℕ) → get_or l q 0 ≡ 0) → l ≡ replicate m 0
zeros_are zero [] e h = refl
zeros_are zero (x ∷ l) e h = absurd (omega arith)
zeros_are (suc m) [] e h = absurd (omega arith)
zeros_are (suc m) (x ∷ l) e h = ap₂ ◌∷◌ (h 0) (zeros_are m l (omega arith) (λ q. h (suc q)))

numbers_are : (f : Rule → ℕ) (rs : List Rule) (m : ℕ) (l : List ℕ) → length l ≡ m → length rs ≤ m → ((q : ℕ) → length rs ≤ q → get_or l q 0 ≡ 0)
    → ((q : ℕ) (r : Rule) → get_elem? rs q ≡ some r → get_or l q 0 ≡ f r) → l ≡ map f rs ++ replicate (m - length rs) 0
numbers_are f [] m l e n z h = let all : m - 0 ≡ m = omega arith in rw all (zeros_are m l e (λ q. z q (omega arith)))
numbers_are f (r ∷ rs) zero l e n z h = absurd (omega arith)
numbers_are f (r ∷ rs) (suc m) [] e n z h = absurd (omega arith)
numbers_are f (r ∷ rs) (suc m) (x ∷ l) e n z h =
    let fewer : suc m - suc (length rs) ≡ m - length rs = omega arith in
    rw fewer (ap₂ ◌∷◌ (h 0 r refl) (numbers_are f rs m l (omega arith) (omega arith) (λ q b. z (suc q) (omega arith)) (λ q s t. h (suc q) s t)))

pub by_rule_is : (f : Rule → ℕ) (rs : List Rule) {l : List ℕ} → length rs ≤ max_rules → ByRules (length rs) l
    → ((q : ℕ) (r : Rule) → get_elem? rs q ≡ some r → get_or l q 0 ≡ f r) → l ≡ by_rule (map f rs)
unfolding by_rule
by_rule_is f rs {l} few room h =
    numbers_are f rs max_rules l room.long few room.behind h ∙ ap (λ n. map f rs ++ replicate (max_rules - n) 0) (sym (length-map rs f))

-- and such a list has what its rules give
rule_at : (f : Rule → ℕ) (rs : List Rule) (z : List ℕ) (q : ℕ) (r : Rule) → get_elem? rs q ≡ some r → get_or (map f rs ++ z) q 0 ≡ f r
rule_at f [] z q r e = let n : ◌≡◌ {A = ℕ} 0 1 = cc in absurd (omega arith)
rule_at f (s ∷ rs) z zero r e = let d : s ≡ r = cc in ap f d
rule_at f (s ∷ rs) z (suc q) r e = rule_at f rs z q r e

pub by_rule_at : (f : Rule → ℕ) (rs : List Rule) (q : ℕ) (r : Rule) → get_elem? rs q ≡ some r → get_or (by_rule (map f rs)) q 0 ≡ f r
unfolding by_rule
by_rule_at f rs q r e = rule_at f rs (replicate (max_rules - length (map f rs)) 0) q r e
