-- The descent with a memo table gives the start's result, and its memo in the end records just the calls made.
use mathlib.Core.Bool.{Bool, true, false, true≢false, false≢true}
use mathlib.Core.List.{List, [], ◌∷◌, Memᴰ}
use mathlib.Core.Logic.{inl, inr}
use mathlib.Core.Path.{◌≡◌, refl, ap}
use Prim.Native.Nat.{ℕ, suc, ◌-◌, ◌≤◌, ◌<◌}
use native.Mathlib.Omega.{arith}
use lib.Dec.{T_not, eqb, eqb→eq}
use lib.ListN.{length, length-replicate, get_or-replicate}
use Rattle.grammar.specs.Codes.{uncalled_code}
use Rattle.grammar.specs.Syntax.{Grammar, WellScoped}
use Rattle.base.specs.FiniteSets.{keep}
use Rattle.semantics.specs.Valuations.{pairs}
use Rattle.semantics.specs.LeftRecursion.{NoLeftRecursion}
use Rattle.semantics.specs.Choices.{Choice}
use Rattle.semantics.specs.inner.Choices.{OwnRules}
use Rattle.semantics.specs.Descent.{descend}
use Rattle.semantics.specs.ComesTo.{Call, call_at}
use Rattle.semantics.specs.inner.ComesTo.{measure}
use Rattle.semantics.specs.Calls.{Called, start, more, all_calls, calls}
use Rattle.semantics.specs.Memo.{Memo, memo_index, entry, Recorded}
use Rattle.semantics.specs.inner.Memo.{blank, EndsFit}
use Rattle.semantics.specs.inner.MemoDescent.{memo_call, memo_start}
use Rattle.base.proofs.Booleans.{both, test}
use Rattle.semantics.proofs.meaning.Rank.{level_top}
use Rattle.semantics.proofs.descent.Range.{index_range, all_range}
use Rattle.semantics.proofs.descent.Called.{called_test}
use Rattle.semantics.proofs.descent.Written.{Has, Sound, Good, good_calls}

-- tests that agree on a list keep the same of it
keep_cong : (p q : Call → Bool) (l : List Call) → ((x : Call) → Memᴰ x l → p x ≡ q x) → keep p l ≡ keep q l
unfolding keep
keep_cong p q [] h = refl
keep_cong p q (x ∷ l) h = go (p x) (q x) (h x (Memᴰ.head refl)) (keep_cong p q l (λ y m. h y (Memᴰ.tail m)))
  where
    go : (b c : Bool) → b ≡ c → keep p l ≡ keep q l
        → ◌≡◌ {A = List Call} (elim b [ true ↦ x ∷ keep p l | false ↦ keep p l ]) (elim c [ true ↦ x ∷ keep q l | false ↦ keep q l ])
    go true true e r = ap {B = List Call} (λ s. x ∷ s) r
    go true false e r = absurd (true≢false e)
    go false true e r = absurd (false≢true e)
    go false false e r = r

module _ (G : Grammar) (choice : Choice) (w : List ℕ) (scoped : WellScoped G) (free : NoLeftRecursion G) (own : OwnRules G choice) (fits : EndsFit w) where
  -- the memo table changes no outcome: from entries that hold results, a call gives its result and leaves such entries
  pub transparent : (n A i : ℕ) (m : Memo) → A < G.nonterminals → i ≤ length w → measure G w (call_at A i) < n
      → Sound G w (descend G choice w) (λ _. Unit {0}) m
      → ((memo_call G choice w n A i m).outcome ≡ descend G choice w A i) × Sound G w (descend G choice w) (λ _. Unit {0}) (memo_call G choice w n A i m).memo
  transparent n A i m a iw l s =
      let g = good_calls G choice w scoped free own fits (λ _. Unit {0}) (λ _ _ _ _ _. tt) n (call_at A i) m (a, iw) l s tt in
      (g.tells, g.sound)

  blank_none : (x : Call) → Has G w (blank G w) x → ⊥
  blank_none x h =
      let e : entry w (blank G w) x ≡ uncalled_code = get_or-replicate (pairs G w) (memo_index w x) uncalled_code uncalled_code (index_range G w x h.0) in
      T_not (eqb (entry w (blank G w) x) uncalled_code) h.1 (rw e tt)

  module _ (nonempty : 0 < G.nonterminals) (n : ℕ) (deep : measure G w (call_at 0 0) < n) where
    abbrev last : Memo
    last = (memo_call G choice w n 0 0 (blank G w)).memo

    good : Good G choice w scoped free own fits (Called G choice w) (λ x _ h y m. more h m)
        (suc (measure G w (call_at 0 0))) (descend G choice w 0 0) (call_at 0 0 ∷ []) (blank G w) (memo_call G choice w n 0 0 (blank G w))
    good = good_calls G choice w scoped free own fits (Called G choice w) (λ x _ h y m. more h m) n (call_at 0 0) (blank G w) (nonempty, omega arith) deep
        (record { size = length-replicate (pairs G w) uncalled_code; right = λ x h. absurd (blank_none x h) }) start

    written_called : (x : Call) → Has G w last x → Called G choice w x
    written_called x h = (good.sound.right x h).1

    called_written : (x : Call) → Called G choice w x → Has G w last x
    called_written x start = good.holds (call_at 0 0) (Memᴰ.head refl)
    called_written y (more {x = x} h m) = elim (good.grows.fresh x (called_written x h)) [ inl a ↦ absurd (blank_none x a) | inr a ↦ a.1 y m ]

    -- with any depth that is enough the start gives its result, and the memo in the end records just the calls made
    pub memo_recorded_within : ((memo_call G choice w n 0 0 (blank G w)).outcome ≡ descend G choice w 0 0) × Recorded G choice w last
    unfolding calls
    memo_recorded_within = (
      good.tells,
      record {
        size = good.sound.size;
        called = λ x h. (good.sound.right x (called_written x h)).0;
        uncalled = λ x ranged h. elim (test (eqb (entry w last x) uncalled_code)) [
          | inl u ↦ eqb→eq (entry w last x) uncalled_code u
          | inr u ↦ absurd (h (written_called x (ranged, u)))
        ];
        scanned = keep_cong _ _ (all_calls G w) (λ x m.
            let iff = called_test G choice w scoped free own nonempty x in
            both _ _ (λ u. iff.1 (written_called x ((all_range G w x).0 m, u))) (λ u. (called_written x (iff.0 u)).1));
      },
    )

  -- the descent with a memo table gives the start's result and records just the calls made
  pub memo_recorded : 0 < G.nonterminals
      → ((memo_start G choice w).outcome ≡ descend G choice w 0 0) × Recorded G choice w (memo_start G choice w).memo
  unfolding memo_start measure
  memo_recorded nonempty = memo_recorded_within nonempty (pairs G w) (level_top G scoped free w 0 (length w - 0) nonempty (omega arith))
