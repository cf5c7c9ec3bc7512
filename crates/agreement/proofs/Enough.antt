-- Where j tokens are enough, so are more: an overlap of k tokens, cut to j, would be one of j, and what follows a rule without positives is the end.
use mathlib.Core.List.Memᴰ
use mathlib.Core.List.{List, [], ◌∷◌, append-nil, Memᴰ}
use mathlib.Core.Logic.{inl, inr}
use mathlib.Core.Path.{◌≡◌, refl, ap, ◌∙◌}
use Prim.Native.Nat.{ℕ, ◌≤◌}
use native.Mathlib.Omega.{arith}
use lib.ListN.{take}
use Rattle.grammar.specs.Syntax.{Grammar}
use Rattle.semantics.specs.Families.{Clash}
use Rattle.semantics.specs.inner.Families.{EveryEnds}
use Rattle.semantics.specs.FirstFollow.{First, Follow, Entry}
use Rattle.semantics.specs.Claims.{clashes}
use Rattle.semantics.specs.Predictive.{Predictive}
use Rattle.base.proofs.LookaheadStrings.{cut_none}
use Rattle.semantics.proofs.families.Claims.{clashes_elim, clashes_make, every_ends_elim, every_ends_make}
use Rattle.agreement.specs.Widening.{Narrows}
use Rattle.agreement.proofs.Narrowing.{narrows}

none_listed : (l : List Entry) → ((e : Entry) → Memᴰ e l → ⊥) → l ≡ []
none_listed [] h = refl
none_listed (e ∷ l) h = absurd (h e (Memᴰ.head refl))

pub enough : (G : Grammar) (j k : ℕ) → j ≤ k → Predictive G j → Predictive G k
enough G j k shorter p = record {
  scoped = p.scoped;
  terminals = p.terminals;
  start = p.start;
  unrecursive = p.unrecursive;
  clashless = none_listed (clashes G k) (λ e m. no_clash e.0 e.1 (clashes_elim G k e.0 e.1 m));
  ends = every_ends_make G k ends;
}
  where
    cut : Narrows G j k
    cut = narrows j k shorter G p.scoped p.terminals p.start

    ends : EveryEnds G k (Follow G k)
    ends r m alone =
        let e = every_ends_elim G j p.ends r m alone in
        (omega (arith, e.0), λ y f. (cut_none j y [] e.0 (ap (take j) (append-nil y) ∙ e.1 (take j y) (cut.follow r.head y f))).0)

    no_clash : (A : ℕ) (x : List ℕ) → Clash G k (First G k) (Follow G k) A x → ⊥
    no_clash A x (inl o) = Memᴰ.not-nil (rw p.clashless at (clashes_make G j A (take j x) (inl (cut.overlap A x o))))
    no_clash A x (inr (o, _)) = o.more ((ends o.rule o.listed o.alone).1 o.behind (rw o.heads o.follows))
