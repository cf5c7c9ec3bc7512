-- Exactly one valuation solves a grammar with no left recursion.
use mathlib.Core.Bool.{false, ◌&&◌}
use mathlib.Core.List.Memᴰ
use mathlib.Core.List.{List, [], ◌∷◌, Memᴰ}
use mathlib.Core.Path.{◌≡◌, refl, sym, ap, ◌∙◌}
use Prim.Native.Nat.{ℕ, zero, suc, ◌-◌, ◌≤◌, ◌<◌}
use native.Mathlib.Decide.{dec_lt}
use native.Mathlib.Omega.{arith}
use lib.Dec.{T, leb, ltb, eqb, leb→le, ltb→lt, eqb→eq}
use lib.ListN.{length, get_or}
use Rattle.word.specs.declared.Symbol.TheVariants.{Terminal, Nonterminal}
use Rattle.grammar.specs.Syntax.{Body, Rule, Grammar, bodies, NonterminalsBelow, WellScoped}
use Rattle.base.specs.Quantifiers.{all_of}
use Rattle.semantics.specs.Valuations.{Valuation, contains, derives, by_rules, rounds, Solves, pairs, solution}
use Rattle.semantics.specs.LeftRecursion.{all_nullable, null_step, nullable, LeftIn, here, there, LeftDepends, NoLeftRecursion, level}
use Rattle.semantics.specs.Theorems.{AgreeBelow}
use Rattle.base.proofs.Booleans.{and_l, and_r, and_make, and_cong}
use Rattle.base.proofs.Quantified.{any_cong, all_cong, all_map, any_map, below_cong, below_elim}
use Rattle.semantics.proofs.meaning.Nullable.{nullable_closed}
use Rattle.semantics.proofs.meaning.Rank.{level_shorter, level_left, level_top}

-- Two valuations that agree on each piece that a body's reading of i .. j can ask for read the body alike. H's last premise: a piece that is the
-- whole span is one on which A left-depends. Its result: they agree there, and what derives an empty span is nullable
module _ (G : Grammar) (w : List ℕ) (v v' : Valuation) (A i j : ℕ)
    (H : (B k m : ℕ) → B < G.nonterminals → i ≤ k → k ≤ m → m ≤ j → (k ≡ i → m ≡ j → LeftDepends G A B)
    → (v B k m ≡ v' B k m) × (k ≡ m → T (v B k m) → T (nullable G B))) where
  contains_same : (b : Body) (k : ℕ) → i ≤ k → k ≤ j → NonterminalsBelow G.nonterminals b
      → (k ≡ i → (B : ℕ) → LeftIn (nullable G) B b → LeftDepends G A B)
      → contains v w b k j ≡ contains v' w b k j
  unfolding contains
  contains_same [] k ik kj scoped front = refl
  contains_same (Terminal a ∷ b) k ik kj scoped front =
      and_cong (ltb k j) (ltb k j) _ _ refl (λ t.
      let l : k < j = ltb→lt k j t in
      ap (eqb (get_or w k 0) a &&◌) (contains_same b (suc k) (omega arith) (omega arith) scoped (λ e. absurd (omega arith))))
  contains_same (Nonterminal B ∷ b) k ik kj scoped front =
      below_cong (suc j) _ _ (λ m mj. and_cong (leb k m) (leb k m) _ _ refl (λ t.
      let km : k ≤ m = leb→le k m t in
      let same = H B k m scoped.0 ik km (omega arith) (λ e _. front e B here) in
      and_cong (v B k m) (v' B k m) _ _ same.0 (λ u.
      contains_same b m (omega arith) (omega arith) scoped.1 (λ e C l.
      front (omega arith) C (there (same.1 (omega arith) u) l)))))

  -- a body that an empty span holds is one of nullable nonterminals
  contains_all_nullable : i ≡ j → (b : Body) (k : ℕ) → i ≤ k → k ≤ j → NonterminalsBelow G.nonterminals b
      → ((B : ℕ) → LeftIn (nullable G) B b → LeftDepends G A B) → T (contains v w b k j) → T (all_nullable (nullable G) b)
  unfolding contains all_nullable
  contains_all_nullable ij [] k ik kj scoped front t = tt
  contains_all_nullable ij (Terminal a ∷ b) k ik kj scoped front t = absurd (omega (arith, ltb→lt k j (and_l (ltb k j) _ t)))
  contains_all_nullable ij (Nonterminal B ∷ b) k ik kj scoped front t =
      let r = below_elim (suc j) _ t in
      let m : ℕ = r.0 in
      let mj : m < suc j = r.1 in
      let km : k ≤ m = leb→le k m (and_l (leb k m) _ r.2) in
      let rest : T (v B k m && contains v w b m j) = and_r (leb k m) _ r.2 in
      let null : T (nullable G B) = (H B k m scoped.0 ik km (omega arith) (λ e _. front B here)).1 (omega arith) (and_l (v B k m) _ rest) in
      and_make (nullable G B) (all_nullable (nullable G) b) null
      (contains_all_nullable ij b m (omega arith) (omega arith) scoped.1 (λ C l. front C (there null l)) (and_r (v B k m) _ rest))

  module _ (c : WellScoped G) (ij : i ≤ j) where
    dependence : (r : Rule) → Memᴰ r G.rules → T (eqb r.head A) → (b : Body) → Memᴰ b (bodies r)
        → (B : ℕ) → LeftIn (nullable G) B b → LeftDepends G A B
    dependence r m t b n B l = record { rule = r; body = b; listed = m; heads = eqb→eq r.head A t; held = n; left = l }

    by_rules_same : by_rules G w v A i j ≡ by_rules G w v' A i j
    unfolding by_rules derives
    by_rules_same = any_cong _ _ G.rules (λ r m. and_cong (eqb r.head A) (eqb r.head A) _ _ refl (λ t.
        let read : (b : Body) → Memᴰ b (bodies r) → contains v w b i j ≡ contains v' w b i j =
        λ b n. contains_same b i (omega arith) ij (c.nonterminals r m b n) (λ _ B l. dependence r m t b n B l) in
        let p = all_cong (λ b. contains v w b i j) (λ b. contains v' w b i j) r.positives (λ b n. read b (Memᴰ.append_left r.negatives n)) in
        let q = any_cong (λ b. contains v w b i j) (λ b. contains v' w b i j) r.negatives (λ b n. read b (Memᴰ.append_right r.positives n)) in
        cc))

    by_rules_null : i ≡ j → T (by_rules G w v A i j) → T (null_step G (nullable G) A)
    unfolding by_rules derives null_step
    by_rules_null e t = any_map _ _ G.rules (λ r m u.
        let named = and_l (eqb r.head A) _ u in
        and_make (eqb r.head A) (all_of (all_nullable (nullable G)) r.positives) named
        (all_map (λ b. contains v w b i j) (all_nullable (nullable G)) r.positives (λ b n h.
        let n' = Memᴰ.append_left r.negatives n in
        contains_all_nullable e b i (omega arith) ij (c.nonterminals r m b n') (dependence r m named b n') h)
        (and_l (all_of (λ b. contains v w b i j) r.positives) _ (and_r (eqb r.head A) _ u)))) t

rounds_by_rules : (G : Grammar) (w : List ℕ) (n : ℕ) (v : Valuation) → rounds G w n (by_rules G w v) ≡ by_rules G w (rounds G w n v)
unfolding rounds
rounds_by_rules G w zero v = refl
rounds_by_rules G w (suc n) v = ap (by_rules G w) (rounds_by_rules G w n v)

-- what derives an empty span is nullable
abbrev pub NullSound : Grammar → List ℕ → Valuation → Type 0
NullSound G w v = (A i j : ℕ) → A < G.nonterminals → i ≤ j → j ≤ length w → T (v A i j) → i ≡ j → T (nullable G A)

module _ (G : Grammar) (c : WellScoped G) (free : NoLeftRecursion G) (w : List ℕ) where
  -- what two valuations share below a level, a span's length counting first
  Same : ℕ → Valuation → Valuation → Type 0
  Same n v v' = (A i j : ℕ) → A < G.nonterminals → i ≤ j → j ≤ length w → level G (j - i) A < n
      → (v A i j ≡ v' A i j) × (i ≡ j → T (v A i j) → T (nullable G A))

  -- each piece of i .. j that a rule of A asks for is of a lower level
  pieces : (v v' : Valuation) (A i j : ℕ) → i ≤ j → AgreeBelow G v v' A i j
      → (B k m : ℕ) → B < G.nonterminals → i ≤ k → k ≤ m → m ≤ j → (k ≡ i → m ≡ j → LeftDepends G A B)
      → (v B k m ≡ v' B k m) × (k ≡ m → T (v B k m) → T (nullable G B))
  pieces v v' A i j ij h B k m b ik km mj left = h B k m b ik km mj (go (dec_lt (m - k) (j - i)))
    where
      go : Dec (m - k < j - i) → level G (m - k) B < level G (j - i) A
      go (yes d) = level_shorter G c free A B (j - i) (m - k) b d
      go (no d) =
          let e : k ≡ i = omega arith in
          let f : m ≡ j = omega arith in
          rw (e, f) (level_left G c free A B (j - i) (left e f))

  -- so what the rules say of a span they say by lower levels
  pub rules_lower : (v v' : Valuation) (A i j : ℕ) → i ≤ j → AgreeBelow G v v' A i j → by_rules G w v A i j ≡ by_rules G w v' A i j
  rules_lower v v' A i j ij h = by_rules_same G w v v' A i j (pieces v v' A i j ij h) c ij

  climb : (n : ℕ) (v v' : Valuation) → Same n v v' → Same (suc n) (by_rules G w v) (by_rules G w v')
  unfolding Same
  climb n v v' h A i j a ij jw l =
      (rules_lower v v' A i j ij lower, λ e t. nullable_closed G c A (by_rules_null G w v v' A i j (pieces v v' A i j ij lower) c ij e t))
    where
      lower : AgreeBelow G v v' A i j
      lower B k m b ik km mj s = h B k m b km (omega arith) (omega arith)

  -- two solutions are the same below every level
  solutions_agree : (n : ℕ) (v v' : Valuation) → Solves G w v → Solves G w v' → Same n v v'
  unfolding Same
  solutions_agree zero v v' k k' A i j a ij jw l = absurd (omega arith)
  solutions_agree (suc n) v v' k k' A i j a ij jw l =
      let e = k A i j a ij jw in
      let e' = k' A i j a ij jw in
      let h = climb n v v' (solutions_agree n v v' k k') A i j a ij jw l in
      (e ∙ h.0 ∙ sym e', λ ij' t. h.1 ij' (rw e at t))

  -- after n rounds from any two valuations they are the same below level n
  rounds_agree : (n : ℕ) (v v' : Valuation) → Same n (rounds G w n v) (rounds G w n v')
  unfolding Same rounds
  rounds_agree zero v v' = λ A i j a ij jw l. absurd (omega arith)
  rounds_agree (suc n) v v' = climb n (rounds G w n v) (rounds G w n v') (rounds_agree n v v')

  -- the computed valuation solves the grammar
  pub solution_solves : Solves G w (solution G w)
  unfolding Same solution
  solution_solves A i j a ij jw =
      let n = pairs G w in
      let v : Valuation = λ _ _ _. false in
      let e = (rounds_agree n v (by_rules G w v) A i j a ij jw (level_top G c free w A (j - i) a (omega arith))).0 in
      e ∙ ap (λ (u : Valuation). u A i j) (rounds_by_rules G w n v)

  -- every two solutions agree on all spans of the input
  pub solution_unique : (v v' : Valuation) → Solves G w v → Solves G w v' → (A i j : ℕ) → A < G.nonterminals → i ≤ j → j ≤ length w
      → v A i j ≡ v' A i j
  unfolding Same
  solution_unique v v' k k' A i j a ij jw = (solutions_agree (pairs G w) v v' k k' A i j a ij jw (level_top G c free w A (j - i) a (omega arith))).0

  -- what derives an empty span is nullable
  pub solution_null : (v : Valuation) → Solves G w v → NullSound G w v
  unfolding Same
  solution_null v k A i j a ij jw t e = (solutions_agree (pairs G w) v v k k A i j a ij jw (level_top G c free w A (j - i) a (omega arith))).1 e t
