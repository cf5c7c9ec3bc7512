-- The strings whose first j tokens are in FIRST or FOLLOW of j tokens form a family that the rules close for k tokens, so it holds that of k, the least.
use mathlib.Core.List.{List, [], ◌∷◌, ◌++◌}
use mathlib.Core.Path.{◌≡◌, sym, ap, subst, ◌∙◌}
use Prim.Native.Nat.{ℕ, ◌≤◌, ◌<◌}
use native.Mathlib.Omega.{arith}
use lib.ListN.{take}
use lib.Seq.{take-take, take-nil}
use Rattle.word.specs.declared.Symbol.{Symbol}
use Rattle.word.specs.declared.Symbol.TheVariants.{Terminal, Nonterminal}
use Rattle.grammar.specs.Syntax.{Body, Grammar, WellScoped}
use Rattle.base.specs.Strings.{Lookahead}
use Rattle.semantics.specs.Families.{Family, FirstOf, FirstBody, FollowBody, OwnTerminals, Claims}
use Rattle.semantics.specs.FirstFollow.{First, Follow}
use Rattle.base.proofs.Strings.{take_cut, take_short, all_take}
use Rattle.semantics.proofs.families.First.{first_closed, first_smallest}
use Rattle.semantics.proofs.families.Follow.{follow_closed, follow_smallest}
use Rattle.agreement.specs.Widening.{Narrows}

module _ (j k : ℕ) (shorter : j ≤ k) where
  -- to cut a concatenation further is to concatenate what is cut further
  cut_append : (u y : List ℕ) → take j (take k (u ++ y)) ≡ take j (take j u ++ take j y)
  cut_append u y = take-take j k (u ++ y) shorter ∙ sym (take_cut j j j u y (omega arith) (omega arith))

  cut_lookahead : (n : ℕ) (x : List ℕ) → Lookahead k n x → Lookahead j n (take j x)
  cut_lookahead n x l = (take_short j x, all_take _ j x l.1)

  module _ (F F' : Family) (cut : (A : ℕ) (x : List ℕ) → F A x → F' A (take j x)) where
    first_of_cut : (X : Symbol) (x : List ℕ) → FirstOf k F X x → FirstOf j F' X (take j x)
    first_of_cut (Terminal a) x f = rw f (take-take j k (a ∷ []) shorter)
    first_of_cut (Nonterminal A) x f = cut A x f

    first_body_cut : (b : Body) (x : List ℕ) → FirstBody k F b x → FirstBody j F' b (take j x)
    first_body_cut [] x f = rw f (take-nil j)
    first_body_cut (X ∷ b) x f =
        (take j f.0, take j f.1, first_of_cut X f.0 f.2, first_body_cut b f.1 f.3, ap (take j) f.4 ∙ cut_append f.0 f.1)

    follow_body_cut : (L : Family) (y : List ℕ) (b : Body) → FollowBody j F' L (take j y) b → FollowBody k F (λ A x. L A (take j x)) y b
    follow_body_cut L y [] h = tt
    follow_body_cut L y (Terminal a ∷ b) h = follow_body_cut L y b h
    follow_body_cut L y (Nonterminal A ∷ b) h =
        (λ u f. subst (L A) (sym (cut_append u y)) (h.0 (take j u) (first_body_cut b u f)), follow_body_cut L y b h.1)

  module _ (G : Grammar) (scoped : WellScoped G) where
    first_cut : (A : ℕ) (x : List ℕ) → First G k A x → First G j A (take j x)
    first_cut = first_smallest G k (λ A x. First G j A (take j x)) (λ r m x l f.
        first_closed G j scoped r m (take j x) (cut_lookahead G.terminals x l)
        (λ b n. first_body_cut (λ A x. First G j A (take j x)) (First G j) (λ A x g. g) b x (f b n)))

    module _ (terminals : OwnTerminals G) (start : 0 < G.nonterminals) where
      follow_cut : (A : ℕ) (x : List ℕ) → Follow G k A x → Follow G j A (take j x)
      follow_cut =
          let closed = follow_closed G j scoped terminals start in
          follow_smallest G k (λ A x. Follow G j A (take j x)) (record {
            start = subst (Follow G j 0) (sym (take-nil j)) closed.start;
            follows = λ r m b n y l. follow_body_cut (First G k) (First G j) first_cut (Follow G j) y b (closed.follows r m b n (take j y) l);
          })

      claims_cut : (q A : ℕ) (x : List ℕ) → Claims G k (First G k) (Follow G k) q A x → Claims G j (First G j) (Follow G j) q A (take j x)
      claims_cut q A x c = record {
        rule = c.rule;
        numbered = c.numbered;
        heads = c.heads;
        begins = take j c.begins;
        lookahead = cut_lookahead G.terminals c.begins c.lookahead;
        meets = λ b n. first_body_cut (First G k) (First G j) first_cut b c.begins (c.meets b n);
        behind = take j c.behind;
        follows = follow_cut A c.behind c.follows;
        makes = ap (take j) c.makes ∙ cut_append c.begins c.behind;
      }

      pub narrows : Narrows G j k
      narrows = record {
        first = first_cut;
        follow = follow_cut;
        claims = claims_cut;
        overlap = λ A x o. record {
          one = o.one;
          other = o.other;
          different = o.different;
          claims_one = claims_cut o.one A x o.claims_one;
          claims_other = claims_cut o.other A x o.claims_other;
        };
      }
