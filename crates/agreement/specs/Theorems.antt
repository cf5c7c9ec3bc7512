-- What is shown of two judges, on one page: a longer lookahead tells rules apart wherever a shorter one does, and verdicts are the same.
use Rattle.std.specs.Prelude.{◌≡◌, List, ℕ, ◌≤◌, ◌<◌}
use Rattle.std.proofs.Math.Option.{none}
use Rattle.grammar.specs.Syntax.{Grammar, WellScoped}
use Rattle.lookahead.specs.declared.Lookahead.TheVariants.{One, Two}
use Rattle.semantics.specs.Families.{OwnTerminals}
use Rattle.semantics.specs.Predictive.{Predictive}
use Rattle.recognizer_promises.specs.Answers.{check_fault, judge_fault}
use Rattle.agreement.specs.Widening.{Narrows, NeverConflicts}
use Rattle.agreement.specs.Agreement.{SameVerdict, SameAsTabular}

pub record Theorems : Type 0 where
  pub narrows : (G : Grammar) → WellScoped G → OwnTerminals G → 0 < G.nonterminals → (j k : ℕ) → j ≤ k → Narrows G j k
  -- where j tokens are enough, so are more
  pub enough : (G : Grammar) (j k : ℕ) → j ≤ k → Predictive G j → Predictive G k
  -- what passes with one token, in a check or in judging, is never refused 9 with two; it may be refused 13, 18 or 5
  pub passed : (words : List ℕ) (table : ℕ) → check_fault One table words ≡ none → NeverConflicts Two words
  pub judged : (words : List ℕ) (table memo : ℕ) (input : List ℕ) → judge_fault One table memo words input ≡ none → NeverConflicts Two words
  -- of two lookaheads, and of the descent with any lookahead and the tabular judge
  pub lookaheads : SameVerdict
  pub tabular : SameAsTabular
