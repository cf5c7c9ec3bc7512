-- The nonterminals with a rule without positives that more than the end can follow, found by heads, positives and follow sets.
use Rattle.std.specs.Prelude.{Ok, ◌≡◌, Bool, ◌&&◌, List, map, ℕ, eqb, length, get_or}
use Rattle.base.specs.Choice.{choose}
use Rattle.base.specs.Quantifiers.{any_of}
use Rattle.grammar.specs.declared.reading.Sizes.{Sizes}
use Rattle.grammar.specs.Encoding.{grammar_of}
use Rattle.grammar.specs.Limits.{max_nonterminals}
use Rattle.grammar.specs.Reading.{reading}
use Rattle.grammar.specs.inner.Starts.{rule_starts}
use Rattle.grammar.specs.Syntax.{Rule}
use Rattle.lookahead.specs.declared.Lookahead.{Lookahead}
use Rattle.lookahead.specs.inner.Operations.{empty_set, terminal}
use Rattle.semantics.specs.Claims.{without}
use Rattle.families.specs.inner.RuleLists.{by_rule}
use Rattle.claim_steps.specs.inner.Steps.{beyond_end}

-- one of the rules is A's, and has no positives
unfoldable pub alone_in : ℕ → List Rule → Bool
alone_in A rs = any_of (λ r. eqb r.head A && without r.positives) rs

-- the set that is reported of a nonterminal: the first terminal where it overruns, else empty
abbrev pub overrun_set : Lookahead → Bool → ℕ
overrun_set k b = choose b (terminal k 0) empty_set

-- a grammar that has been read, where its rules begin, and their heads
pub record HeadsGiven (words starts heads : List ℕ) (z : Sizes) : Type 0 where
  pub read : reading words ≡ Ok z
  pub begins : starts ≡ rule_starts words
  pub own : heads ≡ by_rule (map (λ r. r.head) (grammar_of words).rules)

-- for each nonterminal the set that is reported of it, by the rules
pub record Overrunning (k : Lookahead) (rules : List Rule) (follows overruns : List ℕ) : Type 0 where
  pub long : length overruns ≡ max_nonterminals
  pub each : (A : ℕ) → get_or overruns A 0 ≡ overrun_set k (alone_in A rules && beyond_end k (get_or follows A 0))
