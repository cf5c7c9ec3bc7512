-- An entry that two rules claim has more than one claimant; neither such an entry nor a nonterminal that overruns is there exactly when
-- there is no clash.
use mathlib.Core.Path.{◌≡◌, refl}
use mathlib.Core.Bool.{Bool, true, false, ◌&&◌, ◌||◌}
use mathlib.Core.List.{List, [], ◌∷◌, Memᴰ}
use mathlib.Core.Logic.{◌↔◌, ◌⊎◌, inl, inr}
use mathlib.Core.Option.{Option, none, some}
use Prim.Native.Nat.{ℕ, ◌+◌, ◌≤◌}
use native.Mathlib.Omega.{arith}
use lib.Dec.{T}
use lib.ListN.{length, get_elem?}
use Rattle.base.specs.Quantifiers.{any_of, one, count_below}
use Rattle.base.proofs.Booleans.{T_none, or_cases}
use Rattle.base.proofs.Quantified.{count_first}
use Rattle.grammar.specs.Encoding.{grammar_of}
use Rattle.grammar.specs.Syntax.{Rule, Grammar}
use Rattle.semantics.specs.Claims.{several, claims, overruns, clashes}
use Rattle.semantics.specs.Families.{Claims}
use Rattle.semantics.specs.FirstFollow.{Entry, entries, First, Follow}
use Rattle.base.specs.Strings.{same_string}
use Rattle.semantics.proofs.families.Claims.{claims_make, claims_elim, overruns_make, overruns_elim, clashes_make}
use Rattle.base.proofs.FiniteSets.{keep_elim}
use Rattle.semantics.proofs.families.LookaheadSets.{entries_elim}
use Rattle.semantics.proofs.families.Positions.{several_elim}
use Rattle.lookahead.specs.declared.Lookahead.TheVariants.{One}
use Rattle.families.specs.Analysis.{sets_fault}
use Rattle.table_promises.specs.Analysis.{fault}
use Rattle.table_promises.proofs.GrammarFaults.{fault_clashless}
use Rattle.gaps_text_promises.specs.Gaps.{on_rule, claims_by, claimants, NoneShown, LinesTell}
use Rattle.gaps_text_promises.proofs.Entries.{count_kept, entries_once, overruns_once}

-- how many rules of a list pass
module _ (p : Rule → Bool) where
  abbrev passing : List Rule → ℕ
  passing l = count_below (length l) (λ q. on_rule (get_elem? l q) p)

  passing_cons : (r : Rule) (l : List Rule) → passing (r ∷ l) ≡ one (p r) + passing l
  passing_cons r l = count_first (length l) (λ q. on_rule (get_elem? (r ∷ l) q) p)

  none_pass : (l : List Rule) → (any_of p l ≡ false) ↔ (passing l ≡ 0)
  unfolding any_of count_below
  none_pass [] = (λ e. refl, λ e. refl)
  none_pass (r ∷ l) = rw (passing_cons r l) (go (p r) (none_pass l))
    where
      go : (b : Bool) → (any_of p l ≡ false) ↔ (passing l ≡ 0) → ((b || any_of p l) ≡ false) ↔ (one b + passing l ≡ 0)
      go true h = (λ e. let z : ◌≡◌ {A = ℕ} 0 1 = cc in absurd (omega arith), λ e. absurd (omega arith))
      go false h = (λ e. omega (arith, h.0 e), λ e. h.1 (omega arith))

  few_pass : (l : List Rule) → (several p l ≡ false) ↔ (passing l ≤ 1)
  unfolding several count_below
  few_pass [] = (λ e. omega arith, λ e. refl)
  few_pass (r ∷ l) = rw (passing_cons r l) (go (p r) (any_of p l) (none_pass l) (few_pass l))
    where
      go : (b c : Bool) → (c ≡ false) ↔ (passing l ≡ 0) → (several p l ≡ false) ↔ (passing l ≤ 1)
          → (((b && c) || several p l) ≡ false) ↔ (one b + passing l ≤ 1)
      go true true h k = (
        λ e. let z : ◌≡◌ {A = ℕ} 0 1 = cc in absurd (omega arith),
        λ e. let z = h.1 (omega arith) in let y : ◌≡◌ {A = ℕ} 0 1 = cc in absurd (omega arith),
      )
      go true false h k = (λ e. omega (arith, h.0 refl), λ e. k.1 (omega arith))
      go false c h k = (λ e. omega (arith, k.0 e), λ e. k.1 (omega arith))

  -- a rule of that number passes
  on_rule_lem : (o : Option Rule) → T (on_rule o p) ↔ ((r : Rule) × (o ≡ some r) × T (p r))
  on_rule_lem none = (λ t. absurd t, λ h. let e = h.1 in let z : ◌≡◌ {A = ℕ} 0 1 = cc in absurd (omega arith))
  on_rule_lem (some r) = (λ t. (r, refl, t), λ h. let e = h.1 in let d : r ≡ h.0 = cc in rw d h.2)

module _ (G : Grammar) where
  overlapping : (e : Entry) → (several (claims G 1 e) G.rules ≡ false) ↔ (length (claimants G e) ≤ 1)
  unfolding claimants claims_by
  overlapping e = rw (← count_kept (length G.rules) (claims_by G e)) (few_pass (claims G 1 e) G.rules)

  claimed_by : (e : Entry) (q : ℕ) → T (claims_by G e q) ↔ Claims G 1 (First G 1) (Follow G 1) q e.0 e.1
  unfolding claims_by
  claimed_by e q =
      let o = on_rule_lem (claims G 1 e) (get_elem? G.rules q) in
      (λ t. claims_elim G 1 q e.0 e.1 (o.0 t), λ k. o.1 (claims_make G 1 q e.0 e.1 k))

  -- without clash none is shown
  clashless_none : clashes G 1 ≡ [] → NoneShown G
  clashless_none free = record {
    overlap = λ e m. (overlapping e).0 (T_none _ (λ t. mathlib.Core.List.Memᴰ.not-nil (rw free at (overlap_listed e t))));
    overrun = λ A a. T_none _ (λ t. mathlib.Core.List.Memᴰ.not-nil (rw free at (clashes_make G 1 A (0 ∷ []) (inr (overruns_elim G 1 A t, refl)))));
  }
    where
      overlap_listed : (e : Entry) → T (several (claims G 1 e) G.rules) → Memᴰ e (clashes G 1)
      overlap_listed e t =
          let r = several_elim (claims G 1 e) G.rules t in
          clashes_make G 1 e.0 e.1 (inl (record {
            one = r.0;
            other = r.1;
            different = r.2;
            claims_one = claims_elim G 1 r.0 e.0 e.1 r.3;
            claims_other = claims_elim G 1 r.1 e.0 e.1 r.4;
          }))

  -- where none is shown there is no clash
  none_clashless : NoneShown G → clashes G 1 ≡ []
  unfolding clashes
  none_clashless n = absent (clashes G 1) refl
    where
      unlike : (d : Entry) → Memᴰ d (entries G 1)
          → T (several (claims G 1 d) G.rules) ⊎ T (overruns G 1 d.0 && same_string (0 ∷ []) d.1) → ⊥
      unlike d m (inl t) = rw ((overlapping d).1 (n.overlap d m)) at t
      unlike d m (inr t) = rw (n.overrun d.0 (entries_elim G 1 d m).0) at t

      absent : (l : List Entry) → clashes G 1 ≡ l → clashes G 1 ≡ []
      absent [] e = e
      absent (d ∷ l) e =
          let m : Memᴰ d (clashes G 1) = rw e (mathlib.Core.List.Memᴰ.head refl) in
          let k = keep_elim (λ e. several (claims G 1 e) G.rules || (overruns G 1 e.0 && same_string (0 ∷ []) e.1)) (entries G 1) d m in
          absurd (unlike d k.0 (or_cases (several (claims G 1 d) G.rules) _ k.1))

-- of a grammar clear of the errors 3 to 8: nothing of the kind is shown exactly when 9 is not given
nine_told : (words : List ℕ) → sets_fault One words ≡ none → NoneShown (grammar_of words) ↔ (fault One words ≡ none)
nine_told words f =
    let G = grammar_of words in
    let d = fault_clashless One words f in
    (λ n. d.1 (none_clashless G n), λ e. clashless_none G (d.0 e))

pub lines_tell : (words : List ℕ) → LinesTell words
lines_tell words = record {
  entries_once = entries_once (grammar_of words);
  overruns_once = overruns_once (grammar_of words);
  claimed = claimed_by (grammar_of words);
  overrun = λ A. (overruns_elim (grammar_of words) 1 A, overruns_make (grammar_of words) 1 A);
  nine = nine_told words;
}
