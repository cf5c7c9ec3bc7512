-- What may follow in document 01's grammars M and E: through a negative body, of any length, and with what follows the head joined behind.
use mathlib.Core.Bool.{true}
use mathlib.Core.List.Memᴰ
use mathlib.Core.List.{List, [], ◌∷◌}
use mathlib.Core.Path.{◌≡◌, refl}
use Prim.Native.Nat.{ℕ, suc, ◌≤◌, ◌<◌}
use native.Mathlib.Omega.{arith}
use lib.Dec.{leb, le→leb, eqb_refl}
use lib.ListN.{length}
use Rattle.word.specs.declared.Symbol.TheVariants.{Terminal, Nonterminal}
use Rattle.grammar.specs.Syntax.{Grammar}
use Rattle.grammar.specs.examples.Cards.{grammar_m, grammar_e}
use Rattle.base.specs.Quantifiers.{any_of, all_of, any_below}
use Rattle.base.proofs.Booleans.{T_true, true_T, and_make}
use Rattle.base.proofs.Quantified.{below_make}
use Rattle.semantics.specs.Valuations.{Valuation, contains, derives, by_rules, rounds, Solves, solution}
use Rattle.semantics.specs.Predictive.{Predictive}
use Rattle.semantics.proofs.Theorems.{theorems}
use Rattle.semantics_examples.proofs.Check.{below_test, scoped_test, terminals_test, own_test, predictive}
use Rattle.semantics_examples.proofs.Computing.{left_recursion_computes, tables_compute}
use Rattle.following.specs.Following.{MayFollow, start, behind}

-- every valuation that solves a grammar on a sequence gives what the computed one gives
pub solved : (G : Grammar) (k : ℕ) → Predictive G k → (x : List ℕ) (v : Valuation) → Solves G x v
    → (A i j : ℕ) → A < G.nonterminals → i ≤ j → j ≤ length x → v A i j ≡ solution G x A i j
solved G k p x v s = (theorems.one_solution G p.scoped p.unrecursive x).only v s

-- what a nonterminal derives belongs to the body that it alone is
alone : (v : Valuation) (x : List ℕ) (A : ℕ) → v A 0 (length x) ≡ true → contains v x (Nonterminal A ∷ []) 0 (length x) ≡ true
unfolding contains
alone v x A e =
    let n : ℕ = length x in
    T_true _ (below_make (suc n) _ n (omega arith) (and_make (leb 0 n) _ (le→leb 0 n (omega arith)) (and_make (v A 0 n) _ (true_T _ e) (eqb_refl n))))

predictive_M : Predictive grammar_m 1
unfolding scoped_test below_test own_test terminals_test left_recursion_computes tables_compute
predictive_M = predictive grammar_m 1 tt tt tt refl refl tt

-- S has the negative body B C, and c belongs to C: c may follow B
c_in_C : (v : Valuation) → Solves grammar_m (2 ∷ []) v → v 3 0 1 ≡ true
unfolding solution rounds by_rules derives contains any_of all_of any_below
c_in_C v s = solved grammar_m 1 predictive_M (2 ∷ []) v s 3 0 1 (omega arith) (omega arith) (omega arith)

c_follows_B : MayFollow grammar_m 2 (2 ∷ [])
unfolding all_of
c_follows_B = behind _ (Memᴰ.head refl) [] 2 (Nonterminal 3 ∷ []) (Memᴰ.tail (Memᴰ.head refl))
    (2 ∷ []) (record { terminals = tt; whole = λ v s. alone v (2 ∷ []) 3 (c_in_C v s) }) [] start

-- S has the body A D, and bbcc belongs to D: it may follow A, though it is longer than what two tokens of lookahead see
bbcc_in_D : (v : Valuation) → Solves grammar_m (1 ∷ 1 ∷ 2 ∷ 2 ∷ []) v → v 4 0 4 ≡ true
unfolding solution rounds by_rules derives contains any_of all_of any_below
bbcc_in_D v s = solved grammar_m 1 predictive_M (1 ∷ 1 ∷ 2 ∷ 2 ∷ []) v s 4 0 4 (omega arith) (omega arith) (omega arith)

bbcc_follows_A : MayFollow grammar_m 1 (1 ∷ 1 ∷ 2 ∷ 2 ∷ [])
unfolding all_of
bbcc_follows_A = behind _ (Memᴰ.head refl) [] 1 (Nonterminal 4 ∷ []) (Memᴰ.head refl)
    (1 ∷ 1 ∷ 2 ∷ 2 ∷ []) (record { terminals = tt; whole = λ v s. alone v (1 ∷ 1 ∷ 2 ∷ 2 ∷ []) 4 (bbcc_in_D v s) }) [] start

-- S of E has the body A b: b may follow A, and so B, which is all of a body of A
pub b_follows_A : MayFollow grammar_e 1 (1 ∷ [])
unfolding contains all_of
b_follows_A = behind _ (Memᴰ.head refl) [] 1 (Terminal 1 ∷ []) (Memᴰ.head refl)
    (1 ∷ []) (record { terminals = tt; whole = λ v s. refl }) [] start

b_follows_B : MayFollow grammar_e 2 (1 ∷ [])
unfolding contains all_of
b_follows_B = behind _ (Memᴰ.tail (Memᴰ.head refl)) [] 2 [] (Memᴰ.head refl)
    [] (record { terminals = tt; whole = λ v s. refl }) (1 ∷ []) b_follows_A
