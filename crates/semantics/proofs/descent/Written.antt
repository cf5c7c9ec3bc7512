-- The memo table changes no outcome, and is written at just the calls made.
use mathlib.Core.Bool.{Bool, true, false, not}
use mathlib.Core.List.{List, [], ◌∷◌, Memᴰ}
use mathlib.Core.Logic.{◌⊎◌, inl, inr}
use mathlib.Core.Option.{Option}
use mathlib.Core.Path.{◌≡◌, refl, sym, ap, ◌∙◌}
use Prim.Native.Nat.{ℕ, zero, suc, ◌≤◌, ◌<◌}
use native.Mathlib.Decide.{ℕ_discrete}
use native.Mathlib.Omega.{arith}
use lib.Dec.{T, not_T, eqb, eqb→eq, eqb_refl}
use lib.ListN.{length, set, length-set}
use lib.Seq.{get_or-set_same, get_or-set_other}
use Rattle.grammar.specs.Codes.{failed_code, uncalled_code}
use Rattle.grammar.specs.Syntax.{Rule, Grammar, WellScoped}
use Rattle.base.specs.Choice.{choose}
use Rattle.semantics.specs.Valuations.{pairs}
use Rattle.semantics.specs.LeftRecursion.{NoLeftRecursion}
use Rattle.semantics.specs.Choices.{Choice}
use Rattle.semantics.specs.inner.Choices.{OwnRules}
use Rattle.semantics.specs.Descent.{Outcome, Failed, End, ends_at, Outcomes, select, by_choice, descend}
use Rattle.semantics.specs.ComesTo.{Call, call_at, InRange, call_comes_to}
use Rattle.semantics.specs.inner.ComesTo.{measure}
use Rattle.semantics.specs.Memo.{Memo, outcome_code, memo_index, entry, written}
use Rattle.semantics.specs.inner.Memo.{decode, EndsFit}
use Rattle.semantics.specs.inner.MemoDescent.{Memoized, memoized, memo_obey, memo_call, stored}
use Rattle.base.proofs.Booleans.{T_true, T_false, test}
use Rattle.semantics.proofs.descent.Plan.{Plan, Done, Ask, value, asked, through, plan, plan_value, plan_asked, plan_through}
use Rattle.semantics.proofs.descent.Ends.{descend_forward}
use Rattle.semantics.proofs.descent.Results.{descend_results}
use Rattle.semantics.proofs.descent.Measure.{measure_falls}
use Rattle.semantics.proofs.descent.Range.{index_injective, index_range}

-- a call's entry is written
abbrev pub Has : Grammar → List ℕ → Memo → Call → Type 0
Has G w m x = InRange G w x × T (written w m x)

-- each written entry is the code of its call's result, and its call is one of P
pub record Sound (G : Grammar) (w : List ℕ) (c : Outcomes) (P : Call → Type 0) (m : Memo) : Type 0 where
  pub size : length m ≡ pairs G w
  pub right : (x : Call) → Has G w m x → (entry w m x ≡ outcome_code (c x.nonterminal x.place)) × P x

encode_written : (n : ℕ) (o : Outcome) → n < failed_code → ((j : ℕ) → T (ends_at o j) → j ≤ n) → T (not (eqb (outcome_code o) uncalled_code))
unfolding outcome_code
encode_written n Failed s h = tt
encode_written n (End j) s h = not_T (eqb j uncalled_code) (λ t. absurd (omega (arith, eqb→eq j uncalled_code t, h j (eqb_refl j))))

decode_encode : (n : ℕ) (o : Outcome) → n < failed_code → ((j : ℕ) → T (ends_at o j) → j ≤ n) → decode (outcome_code o) ≡ o
unfolding outcome_code decode
decode_encode n Failed s h = refl
decode_encode n (End j) s h = go (eqb j failed_code) (eqb→eq j failed_code)
  where
    go : (b : Bool) → (T b → j ≡ failed_code) → choose b Failed (End j) ≡ End j
    go true f = absurd (omega (arith, f tt, h j (eqb_refl j)))
    go false f = refl

-- a store into the entry of x
module _ (G : Grammar) (w : List ℕ) (m : Memo) (size : length m ≡ pairs G w) (x : Call) (ranged : InRange G w x)
    (v : ℕ) (real : T (not (eqb v uncalled_code))) where
  abbrev after : Memo
  after = set m (memo_index w x) v

  this : entry w after x ≡ v
  this = let l = index_range G w x ranged in get_or-set_same m (memo_index w x) v uncalled_code (omega arith)

  store_this : Has G w after x
  store_this = (ranged, rw this real)

  -- what is written is x or was written before
  store_back : (y : Call) → Has G w after y → (y ≡ x) ⊎ (Has G w m y × (entry w after y ≡ entry w m y))
  store_back y h = elim (ℕ_discrete (memo_index w y) (memo_index w x)) [
    | yes e ↦ inl (index_injective w y x h.0.1 ranged.1 e)
    | no e ↦ let s = get_or-set_other m (memo_index w x) (memo_index w y) v uncalled_code e in inr ((h.0, rw s at h.1), s)
  ]

  store_stays : (y : Call) → Has G w m y → Has G w after y
  store_stays y h = elim (ℕ_discrete (memo_index w y) (memo_index w x)) [
    | yes e ↦ let d : y ≡ x = index_injective w y x h.0.1 ranged.1 e in rw d store_this
    | no e ↦ let s = get_or-set_other m (memo_index w x) (memo_index w y) v uncalled_code e in (h.0, rw s h.1)
  ]

module _ (G : Grammar) (choice : Choice) (w : List ℕ) (scoped : WellScoped G) (free : NoLeftRecursion G) (own : OwnRules G choice) (fits : EndsFit w) where
  abbrev pub result : Call → Outcome
  result x = descend G choice w x.nonterminal x.place

  result_small : (x : Call) → InRange G w x → (j : ℕ) → T (ends_at (result x) j) → j ≤ length w
  result_small x h j u = (descend_forward G choice w own x.nonterminal x.place j h.1 u).1

  -- from m to m': what was written stays; what is new is below b, and all that it reaches is written
  pub record Grows (b : ℕ) (m m' : Memo) : Type 0 where
    pub stays : (x : Call) → Has G w m x → Has G w m' x
    pub fresh : (x : Call) → Has G w m' x → Has G w m x ⊎ ((measure G w x < b) × ((y : Call) → Memᴰ y (call_comes_to G choice w x) → Has G w m' y))

  grows_same : (b : ℕ) (m : Memo) → Grows b m m
  grows_same b m = record { stays = λ x h. h; fresh = λ x h. inl h }

  grows_more : (b b' : ℕ) (m m' : Memo) → b ≤ b' → Grows b m m' → Grows b' m m'
  grows_more b b' m m' l g = record {
    stays = g.stays;
    fresh = λ x h. elim (g.fresh x h) [ inl a ↦ inl a | inr a ↦ inr (omega (arith, a.0), a.1) ];
  }

  grows_then : (b : ℕ) (m m' m'' : Memo) → Grows b m m' → Grows b m' m'' → Grows b m m''
  grows_then b m m' m'' g g' = record {
    stays = λ x h. g'.stays x (g.stays x h);
    fresh = λ x h. elim (g'.fresh x h) [
      | inl a ↦ elim (g.fresh x a) [ inl a ↦ inl a | inr a ↦ inr (a.0, λ y n. g'.stays y (a.1 y n)) ]
      | inr a ↦ inr a
    ];
  }

  -- P: a property of calls that goes over to what they reach
  module _ (P : Call → Type 0) (onward : (x : Call) → InRange G w x → P x → (y : Call) → Memᴰ y (call_comes_to G choice w x) → P y) where
    -- what a run from m gave: the outcome o, with the calls of l written
    pub record Good (b : ℕ) (o : Outcome) (l : List Call) (m : Memo) (r : Memoized) : Type 0 where
      pub tells : r.outcome ≡ o
      pub sound : Sound G w (descend G choice w) P r.memo
      pub grows : Grows b m r.memo
      pub holds : (x : Call) → Memᴰ x l → Has G w r.memo x

    abbrev pub GoodCalls : ℕ → Type 0
    GoodCalls n = (x : Call) (m : Memo) → InRange G w x → measure G w x < n → Sound G w (descend G choice w) P m → P x
        → Good (suc (measure G w x)) (result x) (x ∷ []) m (memo_call G choice w n x.nonterminal x.place m)

    through_good : (n b : ℕ) → b ≤ n → GoodCalls n → (p : Plan) (m : Memo) → Sound G w (descend G choice w) P m
        → ((x : Call) → Memᴰ x (asked (descend G choice w) p) → InRange G w x × (measure G w x < b) × P x)
        → Good b (value (descend G choice w) p) (asked (descend G choice w) p) m (through (memo_call G choice w n) p m)
    unfolding value asked through
    through_good n b bn good (Done o) m s h =
        record { tells = refl; sound = s; grows = grows_same b m; holds = λ x n. absurd (mathlib.Core.List.Memᴰ.not-nil n) }
    through_good n b bn good (Ask A i q) m s h =
        let a = h (call_at A i) (mathlib.Core.List.Memᴰ.head refl) in
        let g = good (call_at A i) m a.0 (omega (arith, a.1)) s a.2 in
        let m₁ = (memo_call G choice w n A i m).memo in
        let r = through_good n b bn good (q (descend G choice w A i)) m₁ g.sound (λ x n. h x (mathlib.Core.List.Memᴰ.tail n)) in
        rw g.tells (record {
          tells = r.tells;
          sound = r.sound;
          grows = grows_then b m m₁ _ (grows_more _ b m m₁ a.1 g.grows) r.grows;
          holds = λ x n. elim (mathlib.Core.List.Memᴰ.cases_cons n) [
            | inl e ↦ r.grows.stays x (g.holds x (mathlib.Core.List.Memᴰ.head e))
            | inr n ↦ r.holds x n
          ];
        })

    -- a new call: the rule was run, and the outcome is stored
    store_good : (x : Call) (m : Memo) (r : Memoized) → InRange G w x → P x
        → Good (measure G w x) (result x) (call_comes_to G choice w x) m r
        → Good (suc (measure G w x)) (result x) (x ∷ []) m (stored (memo_index w x) r)
    unfolding stored
    store_good x m r ranged p g =
        let v = outcome_code r.outcome in
        let m₁ = r.memo in
        let size = g.sound.size in
        let is : v ≡ outcome_code (result x) = ap outcome_code g.tells in
        let real : T (not (eqb v uncalled_code)) = rw is (encode_written (length w) (result x) fits (result_small x ranged)) in
        let keep = store_stays G w m₁ size x ranged v real in
        let has = store_this G w m₁ size x ranged v real in
        let back = store_back G w m₁ size x ranged v real in
        record {
          tells = g.tells;
          sound = record {
            size = length-set m₁ (memo_index w x) v ∙ size;
            right = λ y h. elim (back y h) [
              | inl e ↦ rw e (this G w m₁ size x ranged v real ∙ is, p)
              | inr a ↦ let s = g.sound.right y a.0 in (a.1 ∙ s.0, s.1)
            ];
          };
          grows = record {
            stays = λ y h. keep y (g.grows.stays y h);
            fresh = λ y h. elim (back y h) [
              | inl e ↦ inr (rw e (omega arith, λ z n. keep z (g.holds z n)))
              | inr a ↦ elim (g.grows.fresh y a.0) [
                | inl b ↦ inl b
                | inr b ↦ inr (omega (arith, b.0), λ z n. keep z (b.1 z n))
              ]
            ];
          };
          holds = λ y n. elim (mathlib.Core.List.Memᴰ.cases_cons n) [ inl e ↦ rw e has | inr n ↦ absurd (mathlib.Core.List.Memᴰ.not-nil n) ];
        }

    pub good_calls : (n : ℕ) → GoodCalls n
    unfolding call_comes_to memo_call by_choice
    good_calls zero x m ranged l s p = absurd (omega arith)
    good_calls (suc n) x m ranged l s p = go (test (eqb (entry w m x) uncalled_code)) (good_calls n)
      where
        o : Option Rule
        o = select G (choice x.nonterminal x.place)

        found : T (not (eqb (entry w m x) uncalled_code)) → Good (suc (measure G w x)) (result x) (x ∷ []) m (memoized (decode (entry w m x)) m)
        found u = record {
          tells = rw (s.right x (ranged, u)).0 (decode_encode (length w) (result x) fits (result_small x ranged));
          sound = s;
          grows = grows_same _ m;
          holds = λ y n. elim (mathlib.Core.List.Memᴰ.cases_cons n) [ inl e ↦ rw e (ranged, u) | inr n ↦ absurd (mathlib.Core.List.Memᴰ.not-nil n) ];
        }

        ran : GoodCalls n → Good (measure G w x) (result x) (call_comes_to G choice w x) m (memo_obey (memo_call G choice w n) w o x.place m)
        ran good =
            let c : Outcomes = descend G choice w in
            let g = through_good n (measure G w x) (omega arith) good (plan w o x.place) m s (λ y a.
            let a' : Memᴰ y (call_comes_to G choice w x) = rw (plan_asked c w o x.place) at a in
            let d = measure_falls G choice w scoped own free x ranged y a' in
            (d.0, d.1, onward x ranged p y a')) in
            let e : value c (plan w o x.place) ≡ result x =
            plan_value c w o x.place ∙ sym (descend_results G choice w scoped free own x.nonterminal x.place ranged.0 ranged.1) in
            rw (plan_asked c w o x.place, plan_through (memo_call G choice w n) w o x.place m, e) at g

        go : T (eqb (entry w m x) uncalled_code) ⊎ T (not (eqb (entry w m x) uncalled_code)) → GoodCalls n
            → Good (suc (measure G w x)) (result x) (x ∷ []) m (memo_call G choice w (suc n) x.nonterminal x.place m)
        go (inl u) good = rw (T_true (eqb (entry w m x) uncalled_code) u) (store_good x m _ ranged p (ran good))
        go (inr u) good = rw (T_false (eqb (entry w m x) uncalled_code) u) (found u)
