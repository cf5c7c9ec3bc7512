-- FOLLOW_k, computed in rounds, is the least family that the rules close over FIRST_k.
use mathlib.Core.Bool.{Bool, true, false}
use mathlib.Core.List.Memᴰ
use mathlib.Core.List.{List, [], ◌∷◌, ◌++◌, Memᴰ}
use mathlib.Core.Logic.{◌⊎◌, inl, inr}
use mathlib.Core.Path.{◌≡◌, refl, ap}
use Prim.Native.Nat.{ℕ, ◌<◌}
use native.Mathlib.Omega.{arith}
use lib.Dec.{T, eqb, ltb, eqb→eq, eqb_refl, lt→ltb}
use lib.ListN.{take}
use Rattle.word.specs.declared.Symbol.TheVariants.{Terminal, Nonterminal}
use Rattle.grammar.specs.Syntax.{Body, Rule, Grammar, bodies, NonterminalsBelow, TerminalsBelow, WellScoped}
use Rattle.base.specs.Quantifiers.{all_of}
use Rattle.base.specs.Rounds.{◌⊆ᵇ◌}
use Rattle.base.specs.Strings.{Over, Lookahead, same_string}
use Rattle.semantics.specs.Families.{Family, FirstBody, FollowBody, FollowClosed, OwnTerminals}
use Rattle.semantics.specs.inner.Families.{Least}
use Rattle.semantics.specs.FirstFollow.{concat_strings, Entry, same_entry, Sets, sets_of, first_body, first_sets, First}
use Rattle.semantics.specs.FirstFollow.{behind, follow_step, follow, follow_sets, Follow}
use Rattle.base.proofs.Booleans.{true_T, and_make, or_cases, or_l, or_r}
use Rattle.base.proofs.Quantified.{any_elim, any_make}
use Rattle.base.proofs.FiniteSets.{member_mem, mem_member}
use Rattle.base.proofs.Strings.{all_take}
use Rattle.base.proofs.LookaheadStrings.{strings_equality, cut_lookahead}
use Rattle.semantics.proofs.families.LookaheadSets.{entries_equality, sets_elim, sets_mono, concat_make, concat_elim}
use Rattle.semantics.proofs.families.LookaheadSets.{entry_lookahead, entry_sets, entry_kept, entry_closed}
use Rattle.semantics.proofs.families.First.{In, first_body_mono, first_body_make, first_body_elim, first_lookahead, in_first, first_in}

-- a string of the set of a body over n terminals is one over n terminals
first_body_over : (k n : ℕ) (F : Family) → ((A : ℕ) (x : List ℕ) → F A x → Over n x) → (b : Body) → TerminalsBelow n b
    → (x : List ℕ) → FirstBody k F b x → Over n x
unfolding all_of
first_body_over k n F h [] t x f = rw f tt
first_body_over k n F h (Terminal a ∷ b) t x f =
    let u : Over n f.0 = rw f.2 (all_take _ k (a ∷ []) (and_make (ltb a n) _ (lt→ltb a n t.0) tt)) in
    rw f.4 (cut_lookahead k n f.0 f.1 u (first_body_over k n F h b t.1 f.1 f.3)).1
first_body_over k n F h (Nonterminal A ∷ b) t x f =
    rw f.4 (cut_lookahead k n f.0 f.1 (h A f.0 f.2) (first_body_over k n F h b t f.1 f.3)).1

module _ (k : ℕ) (s : Sets) (ys : List (List ℕ)) where
  behind_here : (A : ℕ) (b : Body) (x : List ℕ) → Memᴰ x (concat_strings k (first_body k s b) ys)
      → Memᴰ x (behind k s A ys (Nonterminal A ∷ b))
  unfolding behind
  behind_here A b x m = go (eqb A A) (eqb_refl A)
    where
      go : (t : Bool) → T t → Memᴰ x (elim t [ true ↦ concat_strings k (first_body k s b) ys ++ behind k s A ys b | false ↦ behind k s A ys b ])
      go true t = Memᴰ.append_left (behind k s A ys b) m
      go false t = absurd t

  behind_there : (A B : ℕ) (b : Body) (x : List ℕ) → Memᴰ x (behind k s A ys b) → Memᴰ x (behind k s A ys (Nonterminal B ∷ b))
  unfolding behind
  behind_there A B b x m = go (eqb A B)
    where
      go : (t : Bool) → Memᴰ x (elim t [ true ↦ concat_strings k (first_body k s b) ys ++ behind k s A ys b | false ↦ behind k s A ys b ])
      go true = Memᴰ.append_right (concat_strings k (first_body k s b) ys) m
      go false = m

  behind_elim : (A B : ℕ) (b : Body) (x : List ℕ) → Memᴰ x (behind k s A ys (Nonterminal B ∷ b))
      → ((A ≡ B) × Memᴰ x (concat_strings k (first_body k s b) ys)) ⊎ Memᴰ x (behind k s A ys b)
  unfolding behind
  behind_elim A B b x m = go (eqb A B) refl m
    where
      go : (t : Bool) → eqb A B ≡ t
          → Memᴰ x (elim t [ true ↦ concat_strings k (first_body k s b) ys ++ behind k s A ys b | false ↦ behind k s A ys b ])
          → ((A ≡ B) × Memᴰ x (concat_strings k (first_body k s b) ys)) ⊎ Memᴰ x (behind k s A ys b)
      go true e n = elim (Memᴰ.append_cases (concat_strings k (first_body k s b) ys) n) [ inl i ↦ inl (eqb→eq A B (true_T (eqb A B) e), i) | inr i ↦ inr i ]
      go false e n = inr n

  -- a family that holds what stands after the nonterminals of a body has what `FollowBody` asks
  behind_follow : (L : Family) (n N : ℕ) → ((A : ℕ) (x : List ℕ) → In s A x → Over n x) → ((y : List ℕ) → Memᴰ y ys → Over n y)
      → (b : Body) → NonterminalsBelow N b → TerminalsBelow n b
      → ((A : ℕ) (x : List ℕ) → A < N → Lookahead k n x → Memᴰ x (behind k s A ys b) → L A x)
      → (y : List ℕ) → Memᴰ y ys → FollowBody k (In s) L y b
  unfolding behind
  behind_follow L n N o p [] c t h y m = tt
  behind_follow L n N o p (Terminal a ∷ b) c t h y m = behind_follow L n N o p b c t.1 h y m
  behind_follow L n N o p (Nonterminal A ∷ b) c t h y m = (
    λ u f. h A (take k (u ++ y)) c.0 (cut_lookahead k n u y (first_body_over k n (In s) o b t u f) (p y m))
        (behind_here A b _ (concat_make k (first_body k s b) ys u y (first_body_make k s b u f) m)),
    behind_follow L n N o p b c.1 t (λ B x i l j. h B x i l (behind_there B A b x j)) y m,
  )

  -- and back
  follow_behind : (F L : Family) → ((A : ℕ) (x : List ℕ) → In s A x → F A x) → (b : Body) → ((y : List ℕ) → Memᴰ y ys → FollowBody k F L y b)
      → (A : ℕ) (x : List ℕ) → Memᴰ x (behind k s A ys b) → L A x
  unfolding behind
  follow_behind F L h [] f A x m = absurd (Memᴰ.not-nil m)
  follow_behind F L h (Terminal a ∷ b) f A x m = follow_behind F L h b f A x m
  follow_behind F L h (Nonterminal B ∷ b) f A x m = go (behind_elim A B b x m) (follow_behind F L h b (λ y i. (f y i).1) A x)
    where
      go : ((A ≡ B) × Memᴰ x (concat_strings k (first_body k s b) ys)) ⊎ Memᴰ x (behind k s A ys b)
          → (Memᴰ x (behind k s A ys b) → L A x) → L A x
      go (inr i) g = g i
      go (inl i) g =
          let r = concat_elim k (first_body k s b) ys x i.1 in
          rw (i.0, r.4) ((f r.1 r.3).0 r.0 (first_body_mono k (In s) F h b r.0 (first_body_elim k s b r.0 r.2)))

behind_mono : (k : ℕ) (s : Sets) (ys zs : List (List ℕ)) → ((y : List ℕ) → Memᴰ y ys → Memᴰ y zs)
    → (A : ℕ) (b : Body) (x : List ℕ) → Memᴰ x (behind k s A ys b) → Memᴰ x (behind k s A zs b)
unfolding behind
behind_mono k s ys zs h A [] x m = m
behind_mono k s ys zs h A (Terminal a ∷ b) x m = behind_mono k s ys zs h A b x m
behind_mono k s ys zs h A (Nonterminal B ∷ b) x m = go (behind_elim k s ys A B b x m) (behind_mono k s ys zs h A b x)
  where
    go : ((A ≡ B) × Memᴰ x (concat_strings k (first_body k s b) ys)) ⊎ Memᴰ x (behind k s A ys b)
        → (Memᴰ x (behind k s A ys b) → Memᴰ x (behind k s A zs b)) → Memᴰ x (behind k s A zs (Nonterminal B ∷ b))
    go (inr i) f = behind_there k s zs A B b x (f i)
    go (inl i) f =
        let r = concat_elim k (first_body k s b) ys x i.1 in
        rw (← i.0) (behind_here k s zs A b x (Memᴰ.cast r.4 (concat_make k (first_body k s b) zs r.0 r.1 r.2 (h r.1 r.3))))

module _ (G : Grammar) (k : ℕ) where
  -- an entry stands after a nonterminal of some body, over the entries that pass
  pub record Behind (p : Entry → Bool) (A : ℕ) (x : List ℕ) : Type 0 where
    pub rule : Rule
    pub body : Body
    pub listed : Memᴰ rule G.rules
    pub held : Memᴰ body (bodies rule)
    pub stands : Memᴰ x (behind k (first_sets G k) A (sets_of G k p rule.head) body)

  follow_step_elim : (p : Entry → Bool) (A : ℕ) (x : List ℕ) → T (follow_step G k p (A, x)) → (◌≡◌ {A = Entry} (A, x) (0, [])) ⊎ Behind p A x
  unfolding follow_step
  follow_step_elim p A x t = elim (or_cases (same_entry (A, x) (0, [])) _ t) [
    | inl u ↦ inl (entries_equality.equal (A, x) (0, []) u)
    | inr u ↦
        let r = any_elim _ G.rules u in
        let b = any_elim _ (bodies r.0) r.2 in
        inr (record { rule = r.0; body = b.0; listed = r.1; held = b.1; stands = member_mem same_string strings_equality _ x b.2 })
  ]

  follow_step_start : (p : Entry → Bool) → T (follow_step G k p (0, []))
  unfolding follow_step
  follow_step_start p = or_l (same_entry (0, []) (0, [])) _ (entries_equality.itself (0, []))

  follow_step_make : (p : Entry → Bool) (A : ℕ) (x : List ℕ) → Behind p A x → T (follow_step G k p (A, x))
  unfolding follow_step
  follow_step_make p A x d =
      or_r (same_entry (A, x) (0, [])) _ (any_make _ G.rules d.rule d.listed (any_make _ (bodies d.rule) d.body d.held
      (mem_member same_string strings_equality _ x d.stands)))

  follow_step_mono : (p q : Entry → Bool) → p ⊆ᵇ q → follow_step G k p ⊆ᵇ follow_step G k q
  follow_step_mono p q h e t = elim (follow_step_elim p e.0 e.1 t) [
    | inl d ↦ rw d (follow_step_start q)
    | inr d ↦ follow_step_make q e.0 e.1 (record {
      rule = d.rule;
      body = d.body;
      listed = d.listed;
      held = d.held;
      stands = behind_mono k (first_sets G k) _ _ (sets_mono G k p q h d.rule.head) e.0 d.body e.1 d.stands;
    })
  ]

  -- the members are lookahead strings of the grammar's nonterminals
  pub follow_lookahead : (A : ℕ) (x : List ℕ) → Follow G k A x → (A < G.nonterminals) × Lookahead k G.terminals x
  unfolding follow
  follow_lookahead = entry_lookahead G k (follow_step G k)

  pub in_follow : (A : ℕ) (x : List ℕ) → Follow G k A x → In (follow_sets G k) A x
  unfolding follow_sets follow
  in_follow = entry_sets G k (follow_step G k)

  pub follow_in : (A : ℕ) (x : List ℕ) → In (follow_sets G k) A x → Follow G k A x
  unfolding follow_sets
  follow_in A x m = (sets_elim G k (follow G k) A x m).1

  follow_mono : (F F' L : Family) → ((A : ℕ) (x : List ℕ) → F A x → F' A x) → (y : List ℕ) (b : Body) → FollowBody k F' L y b → FollowBody k F L y b
  follow_mono F F' L h y [] f = tt
  follow_mono F F' L h y (Terminal a ∷ b) f = follow_mono F F' L h y b f
  follow_mono F F' L h y (Nonterminal A ∷ b) f = (λ u i. f.0 u (first_body_mono k F F' h b u i), follow_mono F F' L h y b f.1)

  module _ (c : WellScoped G) (own : OwnTerminals G) (n : 0 < G.nonterminals) where
    follow_start : Follow G k 0 []
    unfolding follow all_of
    follow_start = entry_closed G k (follow_step G k) follow_step_mono 0 [] n (omega arith, tt) (follow_step_start (follow G k))

    follow_follows : (r : Rule) → Memᴰ r G.rules → (b : Body) → Memᴰ b (bodies r) → (y : List ℕ) → Follow G k r.head y
        → FollowBody k (First G k) (Follow G k) y b
    unfolding follow follow_sets
    follow_follows r m b i y l =
        follow_mono (First G k) (In (first_sets G k)) (Follow G k) (in_first G k) y b
        (behind_follow k (first_sets G k) (follow_sets G k r.head) (Follow G k) G.terminals G.nonterminals
        (λ A x j. (first_lookahead G k A x (first_in G k A x j)).1.1) (λ x j. (follow_lookahead r.head x (follow_in r.head x j)).1.1)
        b (c.nonterminals r m b i) (own r m b i) stands y (in_follow r.head y l))
      where
        stands : (A : ℕ) (x : List ℕ) → A < G.nonterminals → Lookahead k G.terminals x
            → Memᴰ x (behind k (first_sets G k) A (follow_sets G k r.head) b) → Follow G k A x
        stands A x a v j =
            entry_closed G k (follow_step G k) follow_step_mono A x a v
            (follow_step_make (follow G k) A x (record { rule = r; body = b; listed = m; held = i; stands = j }))

    pub follow_closed : FollowClosed G k (First G k) (Follow G k)
    follow_closed = record { start = follow_start; follows = follow_follows }

  pub follow_smallest : (L : Family) → FollowClosed G k (First G k) L → (A : ℕ) (x : List ℕ) → Follow G k A x → L A x
  unfolding follow
  follow_smallest L closed = entry_kept G k (follow_step G k) L (λ p h A x l t. elim (follow_step_elim p A x t) [
    | inl d ↦ rw (ap {B = ℕ} (λ e. e.0) d, ap {B = List ℕ} (λ e. e.1) d) closed.start
    | inr d ↦
        let ys = sets_of G k p d.rule.head in
        follow_behind k (first_sets G k) ys (First G k) L (first_in G k) d.body
        (λ y i. closed.follows d.rule d.listed d.body d.held y (h d.rule.head y i)) A x d.stands
  ])

  -- FOLLOW_k is the least family that is closed under the rules over FIRST_k
  pub follow_least : WellScoped G → OwnTerminals G → 0 < G.nonterminals → Least (FollowClosed G k (First G k)) (Follow G k)
  follow_least c own n = record { closed = follow_closed c own n; smallest = follow_smallest }
