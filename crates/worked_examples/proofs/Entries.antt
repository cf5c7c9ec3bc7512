-- Entries that tell and entries that do not: document 01's grammar E with one token of lookahead, and one like it with two.
use mathlib.Core.Bool.{true, false}
use mathlib.Core.List.Memᴰ
use mathlib.Core.List.{List, [], ◌∷◌, ◌++◌}
use mathlib.Core.Logic.{inl}
use mathlib.Core.Path.{◌≡◌, refl, subst}
use Prim.Native.Nat.{ℕ}
use native.Mathlib.Omega.{arith}
use Rattle.word.specs.declared.Symbol.TheVariants.{Terminal, Nonterminal}
use Rattle.grammar.specs.Syntax.{Grammar}
use Rattle.grammar.specs.examples.Cards.{grammar_e}
use Rattle.base.specs.Quantifiers.{any_of, all_of, any_below}
use Rattle.semantics.specs.Valuations.{Valuation, contains, derives, by_rules, rounds, Solves, solution}
use Rattle.base.specs.Strings.{look, Over}
use Rattle.semantics.specs.FirstFollow.{Follow}
use Rattle.semantics.specs.Choices.{table_choice}
use Rattle.semantics.specs.Descent.{select}
use Rattle.semantics.specs.ComesTo.{call_at}
use Rattle.semantics.specs.Calls.{Called, start, more}
use Rattle.semantics.specs.Memo.{Memo, outcome_code}
use Rattle.semantics.specs.inner.Memo.{EndsFit, decode}
use Rattle.semantics.specs.inner.MemoDescent.{memo_start, memo_call, memo_obey, memo_rule, memo_positives, memo_negatives, memo_run, and_then, stored}
use Rattle.semantics.specs.Predictive.{Predictive}
use Rattle.semantics.proofs.Theorems.{theorems as semantics}
use Rattle.semantics_examples.proofs.Check.{below_test, scoped_test, terminals_test, own_test, predictive}
use Rattle.semantics_examples.proofs.Computing.{left_recursion_computes, tables_compute, descent_computes, calls_compute}
use Rattle.following.specs.Following.{MayFollow, behind, Agrees, Begins, start as nothing}
use Rattle.following.specs.Theorems.{EntriesTell}
use Rattle.following.proofs.Theorems.{theorems}
use Rattle.following.proofs.WorkedFollowing.{solved, b_follows_A}

-- the memo table of a descent, with more behind it
abbrev left : Grammar → ℕ → List ℕ → Memo
left G k w = (memo_start G (table_choice G k w) w).memo ++ (7 ∷ [])

module _ (G : Grammar) (k : ℕ) (p : Predictive G k) (w : List ℕ) (over : Over G.terminals w) (fits : EndsFit w) where
  told : EntriesTell G k w (left G k w)
  told = theorems.entries G k p w over fits _
      (semantics.memo_right G p.scoped p.unrecursive p.start (table_choice G k w) (semantics.own_rules G k w) w fits).recorded (7 ∷ [])

-- where the lookahead string is not in the FOLLOW set, no sequence that may follow agrees
unlike : (G : Grammar) (k : ℕ) → Predictive G k → (w : List ℕ) (A j : ℕ) → (Follow G k A (look k w j) → ⊥)
    → (u : List ℕ) → MayFollow G A u → Agrees k w j u → ⊥
unlike G k p w A j h u f a = h (subst (Follow G k A) ((theorems.agrees k w j u).0 a) (theorems.follow G k p A u f))

unfoldable memo_computes : Unit {0}
unfolding tables_compute memo_start memo_call memo_obey memo_rule memo_positives memo_negatives memo_run and_then stored outcome_code decode select look
memo_computes = tt

abbrev ba : List ℕ
ba = 1 ∷ 0 ∷ []

abbrev ab : List ℕ
ab = 0 ∷ 1 ∷ []

predictive_E : Predictive grammar_e 1
unfolding scoped_test below_test own_test terminals_test left_recursion_computes tables_compute
predictive_E = predictive grammar_e 1 tt tt tt refl refl tt

-- on ba the entry of A at 0 is 1, though A does not derive b
ba_entries : left grammar_e 1 ba ≡ 65534 ∷ 65535 ∷ 65535 ∷ 1 ∷ 65535 ∷ 65535 ∷ 1 ∷ 65535 ∷ 65535 ∷ 65535 ∷ 65534 ∷ 65535 ∷ 7 ∷ []
unfolding memo_computes
ba_entries = refl

b_not_in_A : (v : Valuation) → Solves grammar_e ba v → v 1 0 1 ≡ false
unfolding solution rounds by_rules derives contains any_of all_of any_below
b_not_in_A v s = solved grammar_e 1 predictive_E ba v s 1 0 1 (omega arith) (omega arith) (omega arith)

-- it tells nothing: no sequence that may follow A begins with the a at 1
ba_unlike : (u : List ℕ) → MayFollow grammar_e 1 u → Begins ba 1 u → ⊥
unfolding tables_compute look
ba_unlike u f b = unlike grammar_e 1 predictive_E ba 1 1 (λ t. t) u f ((theorems.begins ba 1 u (omega arith)).0 b)

-- on ab the entry of A at 0 is 1 too, and the b at 1 may follow A: so A derives a
A_called : Called grammar_e (table_choice grammar_e 1 ab) ab (call_at 1 0)
unfolding tables_compute descent_computes calls_compute
A_called = more start (Memᴰ.head refl)

ab_tells : (v : Valuation) → Solves grammar_e ab v → v 1 0 1 ≡ true
unfolding memo_computes
ab_tells v s =
    ((told grammar_e 1 predictive_E ab tt (omega arith)).begun refl
    v s 1 0 1 A_called (omega arith) (omega arith) (1 ∷ [], b_follows_A, inl (omega arith, [], refl))).0 refl

-- S → A b c, A → B & ¬ b C, B → a | b, C → ε: with two tokens, bc alone may follow A
abbrev longer : Grammar
longer = record {
  nonterminals = 4;
  terminals = 3;
  rules =
      record { head = 0; positives = (Nonterminal 1 ∷ Terminal 1 ∷ Terminal 2 ∷ []) ∷ []; negatives = [] }
      ∷ record { head = 1; positives = (Nonterminal 2 ∷ []) ∷ []; negatives = (Terminal 1 ∷ Nonterminal 3 ∷ []) ∷ [] }
      ∷ record { head = 2; positives = (Terminal 0 ∷ []) ∷ []; negatives = [] }
      ∷ record { head = 2; positives = (Terminal 1 ∷ []) ∷ []; negatives = [] }
      ∷ record { head = 3; positives = [] ∷ []; negatives = [] } ∷ [];
}

abbrev bba : List ℕ
bba = 1 ∷ 1 ∷ 0 ∷ []

abbrev abc : List ℕ
abc = 0 ∷ 1 ∷ 2 ∷ []

predictive_longer : Predictive longer 2
unfolding scoped_test below_test own_test terminals_test left_recursion_computes tables_compute
predictive_longer = predictive longer 2 tt tt tt refl refl tt

bc_follows_A : MayFollow longer 1 (1 ∷ 2 ∷ [])
unfolding contains all_of
bc_follows_A = behind _ (Memᴰ.head refl) [] 1 (Terminal 1 ∷ Terminal 2 ∷ []) (Memᴰ.head refl)
    (1 ∷ 2 ∷ []) (record { terminals = tt; whole = λ v s. refl }) [] nothing

-- on bba the entry of A at 0 is 1, though A does not derive b: the b at 1 begins what may follow A, and with the a behind it nothing does
bba_entries : left longer 2 bba ≡ 65534 ∷ 65535 ∷ 65535 ∷ 65535 ∷ 1 ∷ 65535 ∷ 65535 ∷ 65535 ∷ 1 ∷ 65535 ∷ 65535 ∷ 65535 ∷ 65535 ∷ 65534 ∷ 65535 ∷ 65535 ∷ 7 ∷ []
unfolding memo_computes
bba_entries = refl

b_not_in_longer : (v : Valuation) → Solves longer bba v → v 1 0 1 ≡ false
unfolding solution rounds by_rules derives contains any_of all_of any_below
b_not_in_longer v s = solved longer 2 predictive_longer bba v s 1 0 1 (omega arith) (omega arith) (omega arith)

bba_begins : Begins bba 1 (1 ∷ 2 ∷ [])
bba_begins = inl (omega arith, 2 ∷ [], refl)

bba_unlike : (u : List ℕ) → MayFollow longer 1 u → Agrees 2 bba 1 u → ⊥
unfolding tables_compute look
bba_unlike = unlike longer 2 predictive_longer bba 1 1 (λ t. t)

-- on abc it is 1 too, and bc may follow A: so A derives a
A_called_longer : Called longer (table_choice longer 2 abc) abc (call_at 1 0)
unfolding tables_compute descent_computes calls_compute
A_called_longer = more start (Memᴰ.head refl)

abc_tells : (v : Valuation) → Solves longer abc v → v 1 0 1 ≡ true
unfolding memo_computes
abc_tells v s =
    ((told longer 2 predictive_longer abc tt (omega arith)).followed
    v s 1 0 1 A_called_longer (omega arith) (omega arith) (1 ∷ 2 ∷ [], bc_follows_A, inl (omega arith, omega arith, refl))).0 refl
