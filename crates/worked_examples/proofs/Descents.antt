-- Grammars that one or two tokens are enough for, and descents by their own tables, by computation.
use mathlib.Core.Bool.{Bool, true, false}
use mathlib.Core.List.{List, [], ◌∷◌}
use mathlib.Core.Path.{◌≡◌, refl}
use Prim.Native.Nat.{ℕ}
use Rattle.word.specs.declared.Symbol.TheVariants.{Terminal, Nonterminal}
use Rattle.grammar.specs.Syntax.{Grammar}
use Rattle.base.specs.Quantifiers.{any_of, all_of, any_below}
use Rattle.semantics.specs.Valuations.{contains, derives, by_rules, rounds, pairs, solution}
use Rattle.semantics.specs.Choices.{table_choice}
use Rattle.semantics.specs.Descent.{Failed, End, descend, accepts}
use Rattle.semantics.specs.ComesTo.{call_at}
use Rattle.semantics.specs.Calls.{calls_within, call_count, farthest}
use Rattle.semantics.specs.Predictive.{Predictive}
use Rattle.grammar.specs.examples.Cards.{grammar_r, grammar_m, grammar_e}
use Rattle.semantics_examples.proofs.Check.{below_test, scoped_test, terminals_test, own_test, predictive}
use Rattle.semantics_examples.proofs.Computing.{left_recursion_computes, tables_compute, descent_computes, calls_compute}
use Rattle.semantics_examples.proofs.Tables.{repeated, others}

-- with one token of lookahead: whether an input is accepted, the count and the farthest place
abbrev judged : Grammar → List ℕ → Bool × ℕ × ℕ
judged G w = (accepts G (table_choice G 1 w) w, call_count G (table_choice G 1 w) w, farthest G (table_choice G 1 w) w)

-- document 01's grammars
predictive_R : Predictive grammar_r 1
unfolding scoped_test below_test own_test terminals_test left_recursion_computes tables_compute
predictive_R = predictive grammar_r 1 tt tt tt refl refl tt

predictive_M : Predictive grammar_m 1
unfolding scoped_test below_test own_test terminals_test left_recursion_computes tables_compute
predictive_M = predictive grammar_m 1 tt tt tt refl refl tt

predictive_E : Predictive grammar_e 1
unfolding scoped_test below_test own_test terminals_test left_recursion_computes tables_compute
predictive_E = predictive grammar_e 1 tt tt tt refl refl tt

-- (ab)ⁿac but for ac, with two tokens
predictive_repeated : Predictive repeated 2
unfolding scoped_test below_test own_test terminals_test left_recursion_computes tables_compute
predictive_repeated = predictive repeated 2 tt tt tt refl refl tt

abac : descend repeated (table_choice repeated 2 (0 ∷ 1 ∷ 0 ∷ 2 ∷ [])) (0 ∷ 1 ∷ 0 ∷ 2 ∷ []) 0 0 ≡ End 4
unfolding tables_compute descent_computes
abac = refl

ac : descend repeated (table_choice repeated 2 (0 ∷ 2 ∷ [])) (0 ∷ 2 ∷ []) 0 0 ≡ Failed
unfolding tables_compute descent_computes
ac = refl

-- every word but a: a rule without positive bodies
predictive_others : Predictive others 1
unfolding scoped_test below_test own_test terminals_test left_recursion_computes tables_compute
predictive_others = predictive others 1 tt tt tt refl refl tt

a : descend others (table_choice others 1 (0 ∷ [])) (0 ∷ []) 0 0 ≡ Failed
unfolding tables_compute descent_computes
a = refl

aa : descend others (table_choice others 1 (0 ∷ 0 ∷ [])) (0 ∷ 0 ∷ []) 0 0 ≡ End 2
unfolding tables_compute descent_computes
aa = refl

-- an end is not membership: on ba the descent has A of grammar E end at 1, yet A does not derive b
ba_ends : descend grammar_e (table_choice grammar_e 1 (1 ∷ 0 ∷ [])) (1 ∷ 0 ∷ []) 1 0 ≡ End 1
unfolding tables_compute descent_computes
ba_ends = refl

ba_solution : solution grammar_e (1 ∷ 0 ∷ []) 1 0 1 ≡ false
unfolding solution rounds by_rules derives contains any_of all_of any_below
ba_solution = refl

-- S → a: on aa the start ends at 1, before the input does, and aa is rejected
abbrev single : Grammar
single = record { nonterminals = 1; terminals = 1; rules = record { head = 0; positives = (Terminal 0 ∷ []) ∷ []; negatives = [] } ∷ [] }

early_end : descend single (table_choice single 1 (0 ∷ 0 ∷ [])) (0 ∷ 0 ∷ []) 0 0 ≡ End 1
unfolding tables_compute descent_computes
early_end = refl

early_rejected : judged single (0 ∷ 0 ∷ []) ≡ (false, 1, 0)
unfolding tables_compute descent_computes calls_compute
early_rejected = refl

-- S → A & ¬ A a, A → a: on a the start reaches A at 0 twice, and the call is counted once
abbrev again : Grammar
again = record {
  nonterminals = 2;
  terminals = 1;
  rules =
      record { head = 0; positives = (Nonterminal 1 ∷ []) ∷ []; negatives = (Nonterminal 1 ∷ Terminal 0 ∷ []) ∷ [] }
      ∷ record { head = 1; positives = (Terminal 0 ∷ []) ∷ []; negatives = [] } ∷ [];
}

met_twice : calls_within again (table_choice again 1 (0 ∷ [])) (0 ∷ []) (pairs again (0 ∷ [])) (call_at 0 0) ≡ call_at 0 0 ∷ call_at 1 0 ∷ call_at 1 0 ∷ []
unfolding tables_compute descent_computes calls_compute
met_twice = refl

counted_once : judged again (0 ∷ []) ≡ (true, 2, 0)
unfolding tables_compute descent_computes calls_compute
counted_once = refl

-- S → A & B, A → a, B → a a: on aa the second positive body ends elsewhere, and no other end is searched for
abbrev apart : Grammar
apart = record {
  nonterminals = 3;
  terminals = 1;
  rules =
      record { head = 0; positives = (Nonterminal 1 ∷ []) ∷ (Nonterminal 2 ∷ []) ∷ []; negatives = [] }
      ∷ record { head = 1; positives = (Terminal 0 ∷ []) ∷ []; negatives = [] }
      ∷ record { head = 2; positives = (Terminal 0 ∷ Terminal 0 ∷ []) ∷ []; negatives = [] } ∷ [];
}

first_ends : descend apart (table_choice apart 1 (0 ∷ 0 ∷ [])) (0 ∷ 0 ∷ []) 1 0 ≡ End 1
unfolding tables_compute descent_computes
first_ends = refl

second_ends : descend apart (table_choice apart 1 (0 ∷ 0 ∷ [])) (0 ∷ 0 ∷ []) 2 0 ≡ End 2
unfolding tables_compute descent_computes
second_ends = refl

both_fail : descend apart (table_choice apart 1 (0 ∷ 0 ∷ [])) (0 ∷ 0 ∷ []) 0 0 ≡ Failed
unfolding tables_compute descent_computes
both_fail = refl

apart_rejected : judged apart (0 ∷ 0 ∷ []) ≡ (false, 3, 0)
unfolding tables_compute descent_computes calls_compute
apart_rejected = refl
