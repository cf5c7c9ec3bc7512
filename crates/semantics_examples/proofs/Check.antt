-- Tests, for grammars that are written out, that they are well scoped and that k tokens are enough.
use mathlib.Core.Bool.{Bool, true, ◌&&◌}
use mathlib.Core.List.{[], ◌∷◌, Memᴰ}
use mathlib.Core.Option.{none}
use mathlib.Core.Path.{◌≡◌}
use Prim.Native.Nat.{ℕ}
use lib.Dec.{T, ltb, ltb→lt}
use Rattle.word.specs.declared.Symbol.TheVariants.{Terminal, Nonterminal}
use Rattle.grammar.specs.Syntax.{Body, Rule, Grammar, bodies, NonterminalsBelow, TerminalsBelow, WellScoped}
use Rattle.base.specs.Quantifiers.{all_of}
use Rattle.semantics.specs.LeftRecursion.{lowest_left_recursive}
use Rattle.semantics.specs.Claims.{clashes, every_ends}
use Rattle.semantics.specs.Predictive.{Predictive}
use Rattle.base.proofs.Booleans.{and_l, and_r}
use Rattle.base.proofs.Quantified.{all_elim}
use Rattle.semantics.proofs.meaning.LeftRecursion.{lowest_left_recursive_none}

unfoldable pub below_test : ℕ → Body → Bool
below_test n [] = true
below_test n (Terminal a ∷ b) = below_test n b
below_test n (Nonterminal A ∷ b) = ltb A n && below_test n b

below_test_sound : (n : ℕ) (b : Body) → T (below_test n b) → NonterminalsBelow n b
unfolding below_test
below_test_sound n [] t = tt
below_test_sound n (Terminal a ∷ b) t = below_test_sound n b t
below_test_sound n (Nonterminal A ∷ b) t = (ltb→lt A n (and_l (ltb A n) (below_test n b) t), below_test_sound n b (and_r (ltb A n) (below_test n b) t))

unfoldable pub scoped_test : Grammar → Bool
scoped_test G = all_of (λ r. ltb r.head G.nonterminals && all_of (below_test G.nonterminals) (bodies r)) G.rules

-- a grammar that passes the test is well scoped
pub scoped_test_sound : (G : Grammar) → T (scoped_test G) → WellScoped G
unfolding scoped_test
scoped_test_sound G t =
    let at : (r : Rule) → Memᴰ r G.rules → T (ltb r.head G.nonterminals && all_of (below_test G.nonterminals) (bodies r)) =
    all_elim _ G.rules t in
    record {
      heads = λ r m. ltb→lt r.head G.nonterminals (and_l (ltb r.head G.nonterminals) _ (at r m));
      nonterminals = λ r m b n. below_test_sound G.nonterminals b
          (all_elim (below_test G.nonterminals) (bodies r) (and_r (ltb r.head G.nonterminals) _ (at r m)) b n);
    }

unfoldable pub terminals_test : ℕ → Body → Bool
terminals_test n [] = true
terminals_test n (Terminal a ∷ b) = ltb a n && terminals_test n b
terminals_test n (Nonterminal A ∷ b) = terminals_test n b

terminals_test_sound : (n : ℕ) (b : Body) → T (terminals_test n b) → TerminalsBelow n b
unfolding terminals_test
terminals_test_sound n [] t = tt
terminals_test_sound n (Terminal a ∷ b) t = (
  ltb→lt a n (and_l (ltb a n) (terminals_test n b) t),
  terminals_test_sound n b
      (and_r (ltb a n) (terminals_test n b) t),
)
terminals_test_sound n (Nonterminal A ∷ b) t = terminals_test_sound n b t

unfoldable pub own_test : Grammar → Bool
own_test G = all_of (λ r. all_of (terminals_test G.terminals) (bodies r)) G.rules

-- k tokens are enough for a grammar that passes the tests
pub predictive : (G : Grammar) (k : ℕ) → T (scoped_test G) → T (own_test G) → T (ltb 0 G.nonterminals)
    → lowest_left_recursive G ≡ none → clashes G k ≡ [] → T (every_ends G k) → Predictive G k
unfolding own_test
predictive G k scoped own start lowest clash ends = record {
  scoped = scoped_test_sound G scoped;
  terminals = λ r m b n. terminals_test_sound G.terminals b (all_elim (terminals_test G.terminals) (bodies r) (all_elim _ G.rules own r m) b n);
  start = ltb→lt 0 G.nonterminals start;
  unrecursive = (lowest_left_recursive_none G (scoped_test_sound G scoped)).0 lowest;
  clashless = clash;
  ends = ends;
}
