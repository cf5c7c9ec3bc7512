-- The computed claims are the ones defined, clashes are decided, and without clash the table has exactly the claiming rules.
use mathlib.Core.Bool.{Bool, true, not, ◌&&◌, ◌||◌}
use mathlib.Core.List.Memᴰ
use mathlib.Core.List.{List, [], ◌∷◌, Memᴰ}
use mathlib.Core.Logic.{◌↔◌, ◌⊎◌, inl, inr}
use mathlib.Core.Option.{Option, none, some}
use mathlib.Core.Path.{◌≡◌, refl, sym, ap, subst}
use Prim.Native.Nat.{ℕ, ◌<◌}
use native.Mathlib.Decide.{dec_lt}
use native.Mathlib.Omega.{arith}
use lib.ListN.{length}
use lib.Dec.{T, T_not, not_T, eqb, ltb, eqb→eq, eqb_refl, ltb→lt, lt→ltb}
use Rattle.grammar.specs.Syntax.{Body, Rule, Grammar}
use Rattle.base.specs.Quantifiers.{any_of, all_of}
use Rattle.semantics.specs.Families.{Claims, Overlap, Overrun, Clash}
use Rattle.semantics.specs.inner.Families.{TableRight, EveryEnds}
use Rattle.base.specs.Strings.{strings, same_string}
use Rattle.semantics.specs.FirstFollow.{entries, first_sets, first_rule, First, follow_sets, Follow}
use Rattle.semantics.specs.Claims.{several, meeting, claimed, claims, overruns, clashing, clashes, table_of, without, every_ends}
use Rattle.base.proofs.Booleans.{and_l, and_r, and_make, or_cases, or_l, or_r}
use Rattle.base.proofs.Quantified.{any_elim, any_make, all_elim, all_make}
use Rattle.base.proofs.FiniteSets.{member_mem, mem_member, keep_make, keep_elim}
use Rattle.base.proofs.LookaheadStrings.{strings_equality, strings_make, strings_elim, cut_lookahead}
use Rattle.semantics.proofs.families.LookaheadSets.{entries_make, concat_make, concat_elim}
use Rattle.semantics.proofs.families.First.{In, first_body_mono, first_rule_make, first_rule_elim, in_first, first_in}
use Rattle.semantics.proofs.families.Follow.{follow_lookahead, in_follow, follow_in}
use Rattle.semantics.proofs.families.Positions.{PassesAt, several_elim, several_make, position_some, position_none}

none_without : (l : List Body) → T (without l) → l ≡ []
none_without [] t = refl
none_without (b ∷ l) t = absurd t

cons_nil : (a : ℕ) (y : List ℕ) → a ∷ y ≡ [] → ⊥
cons_nil a y e = let n = ap length e in omega arith

module _ (G : Grammar) (k : ℕ) where
  -- rule q claims the string for A, by FIRST_k and FOLLOW_k of the grammar
  abbrev pub ClaimsAt : ℕ → ℕ → List ℕ → Type 0
  ClaimsAt = Claims G k (First G k) (Follow G k)

  abbrev pub ClashAt : ℕ → List ℕ → Type 0
  ClashAt = Clash G k (First G k) (Follow G k)

  pub claims_make : (q A : ℕ) (x : List ℕ) → ClaimsAt q A x → PassesAt (claims G k (A, x)) G.rules q
  unfolding claims claimed meeting
  claims_make q A x c =
      let r : Rule = c.rule in
      let u : T (first_rule k (first_sets G k) r c.begins) =
      first_rule_make k (first_sets G k) r c.begins (λ b m. first_body_mono k (First G k) (In (first_sets G k)) (in_first G k) b c.begins (c.meets b m)) in
      let m = keep_make (first_rule k (first_sets G k) r) (strings k G.terminals) c.begins (strings_make k G.terminals c.begins c.lookahead) u in
      let n : In (follow_sets G k) r.head c.behind = rw c.heads (in_follow G k A c.behind c.follows) in
      let i = concat_make k (meeting G k r) (follow_sets G k r.head) c.begins c.behind m n in
      let named : T (eqb r.head A) = rw c.heads (eqb_refl A) in
      (r, c.numbered, and_make (eqb r.head A) _ named (mem_member same_string strings_equality (claimed G k r) x (Memᴰ.cast c.makes i)))

  pub claims_elim : (q A : ℕ) (x : List ℕ) → PassesAt (claims G k (A, x)) G.rules q → ClaimsAt q A x
  unfolding claims claimed meeting
  claims_elim q A x h =
      let r : Rule = h.0 in
      let e : r.head ≡ A = eqb→eq r.head A (and_l (eqb r.head A) _ h.2) in
      let i = member_mem same_string strings_equality (claimed G k r) x (and_r (eqb r.head A) _ h.2) in
      let c = concat_elim k (meeting G k r) (follow_sets G k r.head) x i in
      let m = keep_elim (first_rule k (first_sets G k) r) (strings k G.terminals) c.0 c.2 in
      record {
        rule = r;
        numbered = h.1;
        heads = e;
        begins = c.0;
        lookahead = strings_elim k G.terminals c.0 m.0;
        meets = λ b n. first_body_mono k (In (first_sets G k)) (First G k) (first_in G k) b c.0 (first_rule_elim k (first_sets G k) r c.0 m.1 b n);
        behind = c.1;
        follows = subst (λ B. Follow G k B c.1) e (follow_in G k r.head c.1 c.3);
        makes = c.4;
      }

  -- what is claimed is an entry of the grammar
  claims_entry : (q A : ℕ) (x : List ℕ) → ClaimsAt q A x → Memᴰ (A, x) (entries G k)
  claims_entry q A x c =
      let l = follow_lookahead G k A c.behind c.follows in
      entries_make G k A x l.0 (rw c.makes (cut_lookahead k G.terminals c.begins c.behind c.lookahead.1 l.1.1))

  -- a nonterminal that overruns is found, and its entry is one of the grammar
  pub overruns_elim : (A : ℕ) → T (overruns G k A) → Overrun G (Follow G k) A
  unfolding overruns
  overruns_elim A t =
      let alone : Rule → Bool = λ r. eqb r.head A && without r.positives in
      let more : List ℕ → Bool = λ y. not (same_string [] y) in
      let r = any_elim alone G.rules (and_l (any_of alone G.rules) (any_of more (follow_sets G k A)) t) in
      let y = any_elim more (follow_sets G k A) (and_r (any_of alone G.rules) (any_of more (follow_sets G k A)) t) in
      record {
        rule = r.0;
        listed = r.1;
        heads = eqb→eq r.0.head A (and_l (eqb r.0.head A) _ r.2);
        alone = none_without r.0.positives (and_r (eqb r.0.head A) _ r.2);
        behind = y.0;
        follows = follow_in G k A y.0 y.1;
        more = λ e. T_not (same_string [] y.0) y.2 (rw e (strings_equality.itself []));
      }

  pub overruns_make : (A : ℕ) → Overrun G (Follow G k) A → T (overruns G k A)
  unfolding overruns
  overruns_make A o =
      and_make (any_of (λ r. eqb r.head A && without r.positives) G.rules) (any_of (λ y. not (same_string [] y)) (follow_sets G k A))
      (any_make (λ r. eqb r.head A && without r.positives) G.rules o.rule o.listed
      (and_make (eqb o.rule.head A) (without o.rule.positives) (rw o.heads (eqb_refl A)) (rw o.alone tt)))
      (any_make (λ y. not (same_string [] y)) (follow_sets G k A) o.behind (in_follow G k A o.behind o.follows)
      (not_T (same_string [] o.behind) (λ t. o.more (sym (strings_equality.equal [] o.behind t)))))

  overrun_entry : (A : ℕ) → Overrun G (Follow G k) A → Memᴰ (A, 0 ∷ []) (entries G k)
  unfolding all_of
  overrun_entry A o = go o.behind refl
    where
      go : (y : List ℕ) → o.behind ≡ y → Memᴰ (A, 0 ∷ []) (entries G k)
      go [] e = absurd (o.more e)
      go (a ∷ y) e =
          let l = follow_lookahead G k A (a ∷ y) (rw (← e) o.follows) in
          let letters : 0 < G.terminals = omega (arith, ltb→lt a G.terminals (and_l (ltb a G.terminals) _ l.1.1)) in
          entries_make G k A (0 ∷ []) l.0 (omega (arith, l.1.0), and_make (ltb 0 G.terminals) true (lt→ltb 0 G.terminals letters) tt)

  -- the clashes are the entries that two different rules claim, and those of the nonterminals that overrun
  pub clashing_elim : (A : ℕ) (x : List ℕ) → T (clashing G k (A, x)) → ClashAt A x
  clashing_elim A x m = go (or_cases (several (claims G k (A, x)) G.rules) _ m)
    where
      go : T (several (claims G k (A, x)) G.rules) ⊎ T (overruns G k A && same_string (0 ∷ []) x) → ClashAt A x
      go (inl t) =
          let r = several_elim (claims G k (A, x)) G.rules t in
          inl (record { one = r.0; other = r.1; different = r.2; claims_one = claims_elim r.0 A x r.3; claims_other = claims_elim r.1 A x r.4 })
      go (inr t) =
          inr (overruns_elim A (and_l (overruns G k A) _ t), sym (strings_equality.equal (0 ∷ []) x (and_r (overruns G k A) _ t)))

  pub clashes_elim : (A : ℕ) (x : List ℕ) → Memᴰ (A, x) (clashes G k) → ClashAt A x
  unfolding clashes
  clashes_elim A x m = clashing_elim A x (keep_elim (clashing G k) (entries G k) (A, x) m).1

  overlap_clash : (A : ℕ) (x : List ℕ) → Overlap G k (First G k) (Follow G k) A x → Memᴰ (A, x) (clashes G k)
  unfolding clashes
  overlap_clash A x c =
      let one = claims_make c.one A x c.claims_one in
      let other = claims_make c.other A x c.claims_other in
      keep_make _ (entries G k) (A, x) (claims_entry c.one A x c.claims_one)
      (or_l (several (claims G k (A, x)) G.rules) (overruns G k A && same_string (0 ∷ []) x)
      (several_make (claims G k (A, x)) G.rules c.one c.other c.different one other))

  overrun_clash : (A : ℕ) → Overrun G (Follow G k) A → Memᴰ (A, 0 ∷ []) (clashes G k)
  unfolding clashes
  overrun_clash A o =
      keep_make _ (entries G k) (A, 0 ∷ []) (overrun_entry A o)
      (or_r (several (claims G k (A, 0 ∷ [])) G.rules) (overruns G k A && same_string (0 ∷ []) (0 ∷ []))
      (and_make (overruns G k A) (same_string (0 ∷ []) (0 ∷ [])) (overruns_make A o) (strings_equality.itself (0 ∷ []))))

  pub clashes_make : (A : ℕ) (x : List ℕ) → ClashAt A x → Memᴰ (A, x) (clashes G k)
  clashes_make A x (inl c) = overlap_clash A x c
  clashes_make A x (inr o) = subst (λ y. Memᴰ (A, y) (clashes G k)) (sym o.1) (overrun_clash A o.0)

  -- no rule claims an entry that the table lacks
  pub table_none : (A : ℕ) (x : List ℕ) → (table_of G k A x ≡ none) ↔ ((q : ℕ) → ClaimsAt q A x → ⊥)
  unfolding table_of
  table_none A x = (λ e q c. position_none (claims G k (A, x)) G.rules e q (claims_make q A x c), back (table_of G k A x) refl)
    where
      back : (o : Option ℕ) → table_of G k A x ≡ o → ((q : ℕ) → ClaimsAt q A x → ⊥) → o ≡ none
      back none e h = refl
      back (some q) e h = absurd (h q (claims_elim q A x (position_some (claims G k (A, x)) G.rules q e)))

  pub table_claims : (A : ℕ) (x : List ℕ) (q : ℕ) → table_of G k A x ≡ some q → ClaimsAt q A x
  unfolding table_of
  table_claims A x q e = claims_elim q A x (position_some (claims G k (A, x)) G.rules q e)

  module _ (free : clashes G k ≡ []) where
    no_clash : (A : ℕ) (x : List ℕ) → ClashAt A x → ⊥
    no_clash A x c = Memᴰ.not-nil (rw free at (clashes_make A x c))

    -- so nothing but the end follows a rule without positive bodies
    pub clashless_ends : 0 < k → EveryEnds G k (Follow G k)
    clashless_ends token r m e = (token, ends)
      where
        ends : (y : List ℕ) → Follow G k r.head y → y ≡ []
        ends [] f = refl
        ends (a ∷ y) f =
            absurd (no_clash r.head (0 ∷ [])
            (inr (record { rule = r; listed = m; heads = refl; alone = e; behind = a ∷ y; follows = f; more = cons_nil a y }, refl)))

    claims_once : (q q' A : ℕ) (x : List ℕ) → ClaimsAt q A x → ClaimsAt q' A x → q ≡ q'
    claims_once q q' A x c d = go (dec_lt q q') (dec_lt q' q)
      where
        go : Dec (q < q') → Dec (q' < q) → q ≡ q'
        go (yes l) m = absurd (no_clash A x (inl (record { one = q; other = q'; different = l; claims_one = c; claims_other = d })))
        go (no l) (yes m) = absurd (no_clash A x (inl (record { one = q'; other = q; different = m; claims_one = d; claims_other = c })))
        go (no l) (no m) = omega arith

    -- without clash each entry of the table is exactly the rule that claims it
    pub table_some : (A : ℕ) (x : List ℕ) (q : ℕ) → (table_of G k A x ≡ some q) ↔ ClaimsAt q A x
    table_some A x q = (table_claims A x q, λ c. go (table_of G k A x) refl c)
      where
        go : (o : Option ℕ) → table_of G k A x ≡ o → ClaimsAt q A x → o ≡ some q
        go none e c = absurd ((table_none A x).0 e q c)
        go (some m) e c = ap some (claims_once m q A x (table_claims A x m e) c)

    pub table_right : TableRight G k (First G k) (Follow G k) (table_of G k)
    table_right = record {
      chooses = λ q A x c. (table_some A x q).1 c;
      chosen = λ A x q e. let c = table_claims A x q e in (c.rule, c.numbered, c.heads);
    }

  -- the condition on rules without positive bodies is decided
  pub every_ends_elim : T (every_ends G k) → EveryEnds G k (Follow G k)
  unfolding every_ends
  every_ends_elim t r m e = go (or_cases (not (without r.positives)) (ltb 0 k && all_of (same_string []) ys) (all_elim _ G.rules t r m))
    where
      ys : List (List ℕ)
      ys = follow_sets G k r.head

      go : T (not (without r.positives)) ⊎ T (ltb 0 k && all_of (same_string []) ys) → (0 < k) × ((y : List ℕ) → Follow G k r.head y → y ≡ [])
      go (inl n) = absurd (rw e at n)
      go (inr u) =
          let only = all_elim (same_string []) ys (and_r (ltb 0 k) (all_of (same_string []) ys) u) in
          (ltb→lt 0 k (and_l (ltb 0 k) _ u), λ y f. sym (strings_equality.equal [] y (only y (in_follow G k r.head y f))))

  pub every_ends_make : EveryEnds G k (Follow G k) → T (every_ends G k)
  unfolding every_ends
  every_ends_make h = all_make _ G.rules (λ r m. go r r.positives refl (h r m))
    where
      go : (r : Rule) (ps : List Body) → r.positives ≡ ps → (r.positives ≡ [] → (0 < k) × ((y : List ℕ) → Follow G k r.head y → y ≡ []))
          → T (not (without ps) || (ltb 0 k && all_of (same_string []) (follow_sets G k r.head)))
      go r [] e f = and_make (ltb 0 k) _ (lt→ltb 0 k (f e).0) (all_make (same_string []) (follow_sets G k r.head) (λ y n.
          let d : y ≡ [] = (f e).1 y (follow_in G k r.head y n) in
          rw d (strings_equality.itself [])))
      go r (b ∷ ps) e f = tt
