-- Where the positives of each rule end, found for one rule after the other.
use mathlib.Core.Path.{◌≡◌, refl, ◌∙◌}
use mathlib.Core.Bool.{true}
use mathlib.Core.List.{List}
use Prim.Native.Nat.{ℕ, ◌+◌, ◌-◌, ◌<◌}
use native.Mathlib.Decide.{ℕ_discrete}
use native.Mathlib.Omega.{arith}
use lib.ListN.{length, get_or, set, take, drop, length-set}
use lib.Seq.{get_or-set_same, get_or-set_other}
use Rattle.grammar.specs.declared.reading.Sizes.{Sizes}
use Rattle.grammar.specs.Limits.{max_rules}
use Rattle.grammar.proofs.WellRead.{well_read}
use Rattle.families.specs.inner.Rules.{rule_end, NegativesFrom, PassGiven}
use Rattle.families.proofs.HeadPasses.{its_words}
use Rattle.families.proofs.Signs.{negatives_inside}

-- for the rules before i, of n
pub record EndsBefore (words starts : List ℕ) (n : ℕ) (ends : List ℕ) (i : ℕ) : Type 0 where
  pub long : length ends ≡ max_rules
  pub each : (q : ℕ) → q < i → NegativesFrom words (get_or starts q 0 + 1) (rule_end words starts n q) (get_or ends q 0)

module _ {words starts : List ℕ} {z : Sizes} {l₀ : List ℕ} (k : PassGiven words starts z l₀) {i end r : ℕ} (h : i < z.rules)
    (e : end ≡ rule_end words starts z.rules i)
    (f : NegativesFrom (take (end - (get_or starts i 0 + 1)) (drop (get_or starts i 0 + 1) words)) 0
    (length (take (end - (get_or starts i 0 + 1)) (drop (get_or starts i 0 + 1) words))) r) where
  here : NegativesFrom words (get_or starts i 0 + 1) end (get_or starts i 0 + 1 + r)
  here = negatives_inside (its_words k true h refl e) f

  pub ends_next : {l l' : List ℕ} → EndsBefore words starts z.rules l i → l' ≡ set l i (get_or starts i 0 + 1 + r)
      → EndsBefore words starts z.rules l' (i + 1)
  ends_next {l} {l'} b s = record { long = rw s (length-set l i (get_or starts i 0 + 1 + r)) ∙ b.long; each = λ q u. each q (ℕ_discrete q i) u }
    where
      room : i < length l
      room = omega (arith, h, b.long, (well_read words z k.read).few_rules)

      each : (q : ℕ) → Dec (q ≡ i) → q < i + 1 → NegativesFrom words (get_or starts q 0 + 1) (rule_end words starts z.rules q) (get_or l' q 0)
      each q (yes u) m = rw (u, s, get_or-set_same l i (get_or starts i 0 + 1 + r) 0 room, ← e) here
      each q (no n) m = rw (s, get_or-set_other l i q (get_or starts i 0 + 1 + r) 0 n) (b.each q (omega (arith, m, n)))
