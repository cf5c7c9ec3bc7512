-- Examples of the memo table by computation, and what a rule that stops early does not reach.
use mathlib.Core.List.{[], ◌∷◌}
use mathlib.Core.Option.{some}
use mathlib.Core.Path.{◌≡◌, refl}
use Prim.Native.Nat.{ℕ, zero, suc}
use Rattle.word.specs.declared.Symbol.TheVariants.{Terminal, Nonterminal}
use Rattle.grammar.specs.Syntax.{Body}
use Rattle.base.specs.Strings.{look}
use Rattle.semantics.specs.Families.{Table}
use Rattle.semantics.specs.Choices.{by_lookahead}
use Rattle.semantics.specs.Descent.{Failed, End, Outcomes, read, run, select}
use Rattle.semantics.specs.ComesTo.{call_at, when, body_comes_to, negatives_come_to, positives_come_to, rule_comes_to}
use Rattle.semantics.specs.Memo.{outcome_code}
use Rattle.semantics.specs.inner.Memo.{decode}
use Rattle.semantics.specs.inner.MemoDescent.{memoized, and_then, memo_run, memo_negatives, memo_positives, memo_rule, memo_obey, memo_call, memo_start, stored}
use Rattle.semantics_examples.proofs.Valuations.{balanced}

-- aⁿbⁿ but for ab, with one token
abbrev balanced_table : Table
balanced_table zero x = some 0
balanced_table (suc A) [] = some 2
balanced_table (suc A) (zero ∷ x) = some 1
balanced_table (suc A) (suc a ∷ x) = some 2

aabb : memo_start balanced (by_lookahead balanced_table 1 (0 ∷ 0 ∷ 1 ∷ 1 ∷ [])) (0 ∷ 0 ∷ 1 ∷ 1 ∷ [])
    ≡ memoized (End 4) (
    4 ∷ 65535 ∷ 65535 ∷ 65535 ∷ 65535
    ∷ 4 ∷ 3 ∷ 2 ∷ 65535 ∷ 65535 ∷ []
    )
unfolding memo_start memo_call memo_obey memo_rule memo_positives memo_negatives memo_run and_then stored outcome_code decode select look
aabb = refl

-- T ends at 2, and a b ends there: the rule fails
ab : memo_start balanced (by_lookahead balanced_table 1 (0 ∷ 1 ∷ [])) (0 ∷ 1 ∷ []) ≡ memoized Failed (65534 ∷ 65535 ∷ 65535 ∷ 2 ∷ 1 ∷ 65535 ∷ [])
unfolding memo_start memo_call memo_obey memo_rule memo_positives memo_negatives memo_run and_then stored outcome_code decode select look
ab = refl

-- results for the laws of `ruleComesTo`: 1 and 2 end at 1, 3 ends at 2, 4 fails
abbrev given : Outcomes
given zero i = Failed
given (suc zero) i = End 1
given (suc (suc zero)) i = End 1
given (suc (suc (suc zero))) i = End 2
given (suc (suc (suc (suc A)))) i = Failed

abbrev only : ℕ → Body
only A = Nonterminal A ∷ []

-- a symbol that fails is reached, and nothing after it
fails : body_comes_to given (0 ∷ 0 ∷ []) (Nonterminal 1 ∷ Nonterminal 4 ∷ Nonterminal 2 ∷ []) 0 ≡ call_at 1 0 ∷ call_at 4 1 ∷ []
unfolding body_comes_to read
fails = refl

-- a terminal that is not there
reads : body_comes_to given (0 ∷ 0 ∷ []) (Terminal 0 ∷ Nonterminal 1 ∷ Terminal 1 ∷ Nonterminal 2 ∷ []) 0 ≡ call_at 1 1 ∷ []
unfolding body_comes_to read
reads = refl

-- a positive body that ends elsewhere stops the rule
elsewhere : rule_comes_to given (0 ∷ 0 ∷ []) 2 (only 1 ∷ only 2 ∷ only 3 ∷ only 1 ∷ []) (only 4 ∷ []) 0 ≡ call_at 1 0 ∷ call_at 2 0 ∷ call_at 3 0 ∷ []
unfolding rule_comes_to positives_come_to negatives_come_to when body_comes_to run read
elsewhere = refl

-- the first positive body fails
first : rule_comes_to given (0 ∷ 0 ∷ []) 2 (only 4 ∷ only 2 ∷ []) (only 3 ∷ []) 0 ≡ call_at 4 0 ∷ []
unfolding rule_comes_to positives_come_to negatives_come_to when body_comes_to run read
first = refl

-- a negative body that fails or ends elsewhere does not stop the rule; one that ends there does
negatives : rule_comes_to given (0 ∷ 0 ∷ []) 2 (only 1 ∷ []) (only 4 ∷ only 3 ∷ only 2 ∷ only 1 ∷ []) 0 ≡ call_at 1 0 ∷ call_at 4 0 ∷ call_at 3 0 ∷ call_at 2 0
    ∷ []
unfolding rule_comes_to positives_come_to negatives_come_to when body_comes_to run read
negatives = refl

-- without a positive body the end is the length
no_positive : rule_comes_to given (0 ∷ 0 ∷ []) 2 [] (only 2 ∷ only 3 ∷ only 1 ∷ []) 0 ≡ call_at 2 0 ∷ call_at 3 0 ∷ []
unfolding rule_comes_to positives_come_to negatives_come_to when body_comes_to run read
no_positive = refl
