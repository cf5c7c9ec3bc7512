-- A body whose calls have the right verdict ends just where it contains the span.
use mathlib.Core.Bool.{Bool, ◌&&◌}
use mathlib.Core.List.{List, [], ◌∷◌, ◌++◌}
use mathlib.Core.Path.{◌≡◌, refl, sym, ◌∙◌}
use Prim.Native.Nat.{ℕ, suc, ◌≤◌, ◌<◌}
use native.Mathlib.Omega.{arith}
use lib.Dec.{T, leb, ltb, eqb, leb→le, le→leb, ltb→lt, lt→ltb}
use lib.ListN.{length, get_or, take}
use Rattle.word.specs.declared.Symbol.TheVariants.{Terminal, Nonterminal}
use Rattle.grammar.specs.Syntax.{Body, Grammar, NonterminalsBelow}
use Rattle.base.specs.Quantifiers.{any_below}
use Rattle.semantics.specs.Valuations.{Valuation, contains}
use Rattle.semantics.specs.LeftRecursion.{nullable, LeftIn, here, there}
use Rattle.base.specs.inner.Strings.{span}
use Rattle.base.specs.Strings.{look}
use Rattle.semantics.specs.Families.{Family, FollowBody}
use Rattle.semantics.specs.Descent.{Outcome, ends_at, onward, Outcomes, read, run}
use Rattle.base.proofs.Booleans.{T_subst, both, and_l, and_r, and_make, and_cong, and_twist}
use Rattle.base.proofs.Quantified.{below_cong, below_elim, below_make}
use Rattle.semantics.proofs.meaning.Unique.{NullSound}
use Rattle.base.proofs.Strings.{look_split}
use Rattle.semantics.proofs.families.FirstSound.{FirstSound, contains_first}
use Rattle.semantics.proofs.descent.Outcomes.{onward_elim, onward_make, onward_guard}
use Rattle.semantics.proofs.descent.Ends.{Forward, run_forward, EmptyNull}

-- to go on from where o ends is to go on from some place between
onward_below : (o : Outcome) (f : ℕ → Outcome) (i j : ℕ) → ((m : ℕ) → T (ends_at o m) → T (ends_at (f m) j) → (i ≤ m) × (m ≤ j))
    → ends_at (onward o f) j ≡ any_below (suc j) (λ m. leb i m && (ends_at o m && ends_at (f m) j))
onward_below o f i j h = both _ _
    (λ t.
    let s = onward_elim o f j t in
    let b : (i ≤ s.0) × (s.0 ≤ j) = h s.0 s.1 s.2 in
    below_make (suc j) _ s.0 (omega arith)
    (and_make (leb i s.0) _ (le→leb i s.0 b.0) (and_make (ends_at o s.0) (ends_at (f s.0) j) s.1 s.2)))
    (λ t.
    let s = below_elim (suc j) _ t in
    let u : T (ends_at o s.0 && ends_at (f s.0) j) = and_r (leb i s.0) _ s.2 in
    onward_make o f j s.0 (and_l (ends_at o s.0) _ u) (and_r (ends_at o s.0) _ u))

-- A body run from places at or after `start`, that ends at j. H: the calls that it makes have the right verdict, those at `start` if
-- they are of nonterminals in Left, which all at the left of the body are
module _ (G : Grammar) (k : ℕ) (F L : Family) (w : List ℕ) (v : Valuation) (c : Outcomes)
    (first : FirstSound G k F w v) (null : NullSound G w v) (forward : Forward w c) (empty : EmptyNull G w c)
    (Left : ℕ → Type 0) (start j : ℕ) (jw : j ≤ length w)
    (H : (A i m : ℕ) → A < G.nonterminals → start ≤ i → i ≤ m → m ≤ length w → (i ≡ start → Left A) → L A (look k w m)
    → ends_at (c A i) m ≡ v A i m) where
  pub run_contains : (b : Body) (i : ℕ) → start ≤ i → i ≤ j → NonterminalsBelow G.nonterminals b → FollowBody k F L (look k w j) b
      → (i ≡ start → (A : ℕ) → LeftIn (nullable G) A b → Left A)
      → ends_at (run c w b i) j ≡ contains v w b i j
  unfolding contains run read
  run_contains [] i si ij scoped follow front = refl
  run_contains (Terminal a ∷ b) i si ij scoped follow front =
      let x : Bool = eqb (get_or w i 0) a in
      let next : suc i ≤ j → ends_at (run c w b (suc i)) j ≡ contains v w b (suc i) j =
      λ l. run_contains b (suc i) (omega arith) l scoped follow (λ e. absurd (omega arith)) in
      onward_guard (ltb i (length w) && x) (suc i) (λ m. run c w b m) j ∙ both _ _
      (λ t.
      let p = and_l (ltb i (length w) && x) _ t in
      let r = and_r (ltb i (length w) && x) (ends_at (run c w b (suc i)) j) t in
      let l : i < length w = ltb→lt i (length w) (and_l (ltb i (length w)) _ p) in
      let d : suc i ≤ j = (run_forward w c forward b (suc i) j l r).0 in
      and_make (ltb i j) _ (lt→ltb i j d) (and_make x _ (and_r (ltb i (length w)) _ p) (T_subst (next d) r)))
      (λ t.
      let d : i < j = ltb→lt i j (and_l (ltb i j) _ t) in
      let p : T (x && contains v w b (suc i) j) = and_r (ltb i j) _ t in
      and_make (ltb i (length w) && x) _ (and_make (ltb i (length w)) x (lt→ltb i (length w) (omega arith)) (and_l x _ p))
      (T_subst (sym (next d)) (and_r x _ p)))
  run_contains (Nonterminal A ∷ b) i si ij scoped follow front =
      onward_below (c A i) (λ m. run c w b m) i j
      (λ m t u.
      let p : (i ≤ m) × (m ≤ length w) = forward A i m (omega arith) t in
      (p.0, (run_forward w c forward b m j p.1 u).0))
      ∙ below_cong (suc j) _ _ (λ m mj. and_cong (leb i m) (leb i m) _ _ refl (λ t.
      let im : i ≤ m = leb→le i m t in
      let rest : (i ≡ m → T (nullable G A)) → ends_at (run c w b m) j ≡ contains v w b m j =
      λ n. run_contains b m (omega arith) (omega arith) scoped.1 follow.1 (λ e C l. front (omega arith) C (there (n (omega arith)) l)) in
      and_twist (ends_at (c A i) m) (v A i m) (ends_at (run c w b m) j) (contains v w b m j)
      (λ u. rest (λ e. empty A i m (omega arith) e u))
      (λ u. rest (λ e. null A i m scoped.0 im (omega arith) u e))
      (λ u.
      let x = contains_first G k F w v first b m j (omega arith) jw scoped.1 u in
      H A i m scoped.0 si im (omega arith) (λ e. front e A here) (rw (look_split k w m j (omega arith)) (follow.0 (take k (span w m j)) x)))))

pub follow_rest : (k : ℕ) (F L : Family) (y : List ℕ) (a b : Body) → FollowBody k F L y (a ++ b) → FollowBody k F L y b
follow_rest k F L y [] b h = h
follow_rest k F L y (Terminal x ∷ a) b h = follow_rest k F L y a b h
follow_rest k F L y (Nonterminal A ∷ a) b h = follow_rest k F L y a b h.1

pub below_rest : (n : ℕ) (a b : Body) → NonterminalsBelow n (a ++ b) → NonterminalsBelow n b
below_rest n [] b h = h
below_rest n (Terminal x ∷ a) b h = below_rest n a b h
below_rest n (Nonterminal A ∷ a) b h = below_rest n a b h.1
