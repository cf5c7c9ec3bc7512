-- One pass over the rules is enough where what a rule gives is the same for every family.
use mathlib.Core.Path.{◌≡◌, refl, subst, ◌∙◌}
use mathlib.Core.Bool.{Bool, true, not}
use mathlib.Core.List.{List}
use Prim.Native.Nat.{ℕ, suc, ◌+◌, ◌%◌, ◌≤◌, ◌<◌}
use native.Mathlib.Decide.{ℕ_discrete}
use native.Mathlib.Omega.{arith}
use lib.Dec.{eqb}
use lib.ListN.{length, get_or, replicate, length-set}
use Rattle.word.specs.declared.Word.{Word}
use Rattle.word.specs.Words.{decoded}
use Rattle.grammar.specs.declared.reading.Sizes.{Sizes}
use Rattle.grammar.specs.Limits.{max_nonterminals}
use Rattle.grammar.specs.Syntax.{Rule}
use Rattle.grammar.specs.Encoding.{parse}
use Rattle.grammar.specs.inner.WellRead.{head_of}
use Rattle.lookahead.specs.inner.Operations.{join}
use Rattle.families.specs.inner.Least.{at, LeastNumbers, joined_at, AddsToSet}
use Rattle.families.specs.inner.Rules.{rule_from, PassGiven}
use Rattle.families.proofs.LeastByPasses.{Below, below_none, added_at, added_risen, added_in, added_below}
use Rattle.families.proofs.RuleRanges.{rule_in, in_rules}
use Rattle.families.proofs.HeadPasses.{Closes, rule_numbered, Gives, its_head, head_below}

-- what holds behind i rules
pub record Collected (given : Rule → ℕ) (words l : List ℕ) (i : ℕ) : Type 0 where
  pub long : length l ≡ max_nonterminals
  pub have : (q : ℕ) → q < i → Gives (λ F. given) words q (at l)
  pub below : Below (Closes (λ F. given) (parse words).rules) l

pub collected_none : (given : Rule → ℕ) (words : List ℕ) → Collected given words (replicate max_nonterminals 0) 0
collected_none given words = record { long = refl; have = λ q h. absurd (omega arith); below = below_none _ max_nonterminals }

module _ {words starts : List ℕ} {z : Sizes} {l₀ : List ℕ} (k : PassGiven words starts z l₀) (given : Rule → ℕ) where
  pub collected_next : {l l' : List ℕ} {i v head : ℕ} {w : Word} → Collected given words l i → i < z.rules → v ≡ given (rule_from words (get_or starts i 0))
      → w ≡ decoded (get_or words (get_or starts i 0) 0) → head ≡ head_of w
      → l' ≡ joined_at l (head % max_nonterminals) v
      → Collected given words l' (i + 1)
  collected_next {l} {l'} {i} {v} {head} c h e f d s = record {
    long = rw s (length-set l (head % max_nonterminals) (join (at l (head % max_nonterminals)) v)) ∙ c.long;
    have = λ q b. have q (ℕ_discrete q i) (omega (arith, b));
    below = λ G g. added_below room added G (c.below G g) (λ x t. g (rule_numbered words i) (rule_in words z k.read i h) x (rw given_here at t));
  }
    where
      given_here : v ≡ given (rule_numbered words i)
      given_here = e ∙ rw k.begins

      head_here : head ≡ (rule_numbered words i).head
      head_here = its_head k true h refl f d

      room : (rule_numbered words i).head < length l
      room = omega (arith, head_here, head_below k true h refl f d, c.long)

      grown : Bool
      grown = not (eqb (join (at l (head % max_nonterminals)) v) (at l (head % max_nonterminals)))

      here : AddsToSet l head v l' grown
      here = added_at (head_below k true h refl f d) (record { list = s; told = refl })

      added : AddsToSet l (rule_numbered words i).head v l' grown
      added = subst (λ n. AddsToSet l n v l' grown) head_here here

      have : (q : ℕ) → Dec (q ≡ i) → q < suc i → Gives (λ F. given) words q (at l')
      have q (yes u) b = rw u (rw given_here at (added_in room added))
      have q (no n) b = λ x t. added_risen room added _ x (c.have q (omega (arith, n)) x t)

  pub collected_all : {l : List ℕ} {i : ℕ} → Collected given words l i → z.rules ≤ i → LeastNumbers (Closes (λ F. given) (parse words).rules) l
  collected_all c h = record {
    closed = λ r m. let n = in_rules words z k.read r m in rw n.2 (c.have n.0 (omega (arith, n.1)));
    least = c.below;
  }
