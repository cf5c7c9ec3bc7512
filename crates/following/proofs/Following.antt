-- What may follow a nonterminal begins, as far as k tokens go, with a string of its FOLLOW set.
use mathlib.Core.Path.{◌≡◌, refl, sym, ap, subst, ◌∙◌}
use mathlib.Core.List.{List, ◌∷◌, ◌++◌}
use Prim.Native.Nat.{ℕ, ◌-◌}
use native.Mathlib.Omega.{arith}
use lib.ListN.{length, take}
use lib.Seq.{take-nil, take-length}
use Rattle.word.specs.declared.Symbol.TheVariants.{Nonterminal}
use Rattle.grammar.specs.Syntax.{Body, Grammar}
use Rattle.base.proofs.Booleans.{true_T}
use Rattle.semantics.specs.Valuations.{solution}
use Rattle.base.specs.inner.Strings.{span}
use Rattle.semantics.specs.FirstFollow.{First, Follow}
use Rattle.semantics.specs.Predictive.{Predictive}
use Rattle.semantics.proofs.Theorems.{theorems}
use Rattle.base.proofs.Strings.{take_cut}
use Rattle.semantics.proofs.families.FollowCuts.{follow_cuts}
use Rattle.semantics.proofs.descent.BodyVerdict.{below_rest}
use Rattle.following.specs.Following.{MayFollow, start, behind}

span_whole : (x : List ℕ) → span x 0 (length x) ≡ x
unfolding span
span_whole x = let e : length x - 0 ≡ length x = omega arith in rw e (take-length x)

-- FIRST is sound for the rest, on the sequence itself, and FOLLOW is closed
pub may_follow : (G : Grammar) (k : ℕ) → Predictive G k → (A : ℕ) (u : List ℕ) → MayFollow G A u → Follow G k A (take k u)
may_follow G k p A u start =
    subst (Follow G k 0) (sym (take-nil k)) (theorems.least_sets G p.scoped p.terminals p.start k).follow.closed.start
may_follow G k p A u (behind r listed front _ b held x belongs y follows) =
    let body : Body = front ++ (Nonterminal A ∷ b) in
    let closed = (theorems.least_sets G p.scoped p.terminals p.start k).follow.closed in
    let solves = (theorems.one_solution G p.scoped p.unrecursive x).solves in
    let named = (below_rest G.nonterminals front (Nonterminal A ∷ b) (p.scoped.nonterminals r listed body held)).1 in
    let begins = (theorems.sound_first G p.scoped p.unrecursive k x belongs.terminals (solution G x) solves).body b named 0 (length x)
    (omega arith) (omega arith) (true_T _ (belongs.whole (solution G x) solves)) in
    let on = closed.follows r listed body held (take k y) (may_follow G k p r.head y follows) in
    let cut = (follow_cuts k (First G k) (Follow G k) (take k y) body).0 on front b A refl (take k (span x 0 (length x))) begins in
    let joined : take k (take k (span x 0 (length x)) ++ take k y) ≡ take k (x ++ y) =
    take_cut k k k (span x 0 (length x)) y (omega arith) (omega arith) ∙ ap (λ z. take k (z ++ y)) (span_whole x) in
    subst (Follow G k A) joined cut
