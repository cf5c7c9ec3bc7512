-- The computed list of the calls holds just the calls, each once; its length is that of any such list, and its farthest place that of a call.
use mathlib.Core.List.{List, [], ◌∷◌, Memᴰ}
use mathlib.Core.Logic.{◌↔◌, inl, inr}
use mathlib.Core.Path.{◌≡◌, refl}
use Prim.Native.Nat.{ℕ, zero, suc, ◌-◌, ◌≤◌, ◌<◌}
use native.Mathlib.Decide.{dec_lt}
use native.Mathlib.Omega.{arith}
use lib.Dec.{T}
use lib.ListN.{length}
use Rattle.grammar.specs.Syntax.{Grammar, WellScoped}
use Rattle.base.specs.FiniteSets.{member}
use Rattle.semantics.specs.Valuations.{pairs}
use Rattle.semantics.specs.LeftRecursion.{NoLeftRecursion}
use Rattle.semantics.specs.Choices.{Choice}
use Rattle.semantics.specs.inner.Choices.{OwnRules}
use Rattle.semantics.specs.ComesTo.{Call, call_at, InRange, call_comes_to}
use Rattle.semantics.specs.inner.ComesTo.{measure}
use Rattle.semantics.specs.Calls.{Called, start, more, Listing, calls_within, same_call, all_calls, calls, call_count, greatest_place, farthest}
use Rattle.base.proofs.FiniteSets.{member_mem, mem_member, keep_make, keep_elim}
use Rattle.base.proofs.FlatMaps.{flat_map_elim, flat_map_make}
use Rattle.semantics.proofs.meaning.Rank.{level_top}
use Rattle.semantics.proofs.descent.Measure.{measure_falls}
use Rattle.base.proofs.Distinct.{distinct_length, distinct_keep}
use Rattle.semantics.proofs.descent.Range.{calls_equality, all_range, all_distinct, all_length}

greatest_most : (l : List Call) (x : Call) → Memᴰ x l → x.place ≤ greatest_place l
unfolding greatest_place
greatest_most [] x x3 = elim x3 [ ]
greatest_most (y ∷ l) x (mathlib.Core.List.Memᴰ.head e) = rw e (omega arith)
greatest_most (y ∷ l) x (mathlib.Core.List.Memᴰ.tail m) = omega (arith, greatest_most l x m)

greatest_attained : (l : List Call) (x : Call) → Memᴰ x l → (y : Call) × Memᴰ y l × (y.place ≡ greatest_place l)
unfolding greatest_place
greatest_attained [] x m = absurd (mathlib.Core.List.Memᴰ.not-nil m)
greatest_attained (z ∷ []) x m = (z, mathlib.Core.List.Memᴰ.head refl, omega arith)
greatest_attained (z ∷ u ∷ l) x m =
    let r = greatest_attained (u ∷ l) u (mathlib.Core.List.Memᴰ.head refl) in
    elim (dec_lt (greatest_place (u ∷ l)) z.place) [
      | yes h ↦ (z, mathlib.Core.List.Memᴰ.head refl, omega arith)
      | no h ↦ (r.0, mathlib.Core.List.Memᴰ.tail r.1, omega (arith, r.2))
    ]

module _ (G : Grammar) (choice : Choice) (w : List ℕ) where
  within_called : (n : ℕ) (x y : Call) → Called G choice w x → Memᴰ y (calls_within G choice w n x) → Called G choice w y
  unfolding calls_within
  within_called zero x y h m = absurd (mathlib.Core.List.Memᴰ.not-nil m)
  within_called (suc n) x y h m = elim (mathlib.Core.List.Memᴰ.cases_cons m) [
    | inl e ↦ rw e h
    | inr k' ↦
        let r = flat_map_elim (calls_within G choice w n) (call_comes_to G choice w x) y k' in
        within_called n r.0 y (more h r.1) r.2
  ]

  within_self : (n : ℕ) (x : Call) → 0 < n → Memᴰ x (calls_within G choice w n x)
  unfolding calls_within
  within_self zero x h = absurd (omega arith)
  within_self (suc n) x h = mathlib.Core.List.Memᴰ.head refl

  module _ (scoped : WellScoped G) (free : NoLeftRecursion G) (own : OwnRules G choice) where
    -- deeper than the measure, all that a call reaches is there
    within_closed : (n : ℕ) (x y z : Call) → InRange G w x → measure G w x < n
        → Memᴰ y (calls_within G choice w n x) → Memᴰ z (call_comes_to G choice w y) → Memᴰ z (calls_within G choice w n x)
    unfolding calls_within
    within_closed zero x y z h l m n = absurd (omega arith)
    within_closed (suc n) x y z h l m c = elim (mathlib.Core.List.Memᴰ.cases_cons m) [
      | inl e ↦
          let c' : Memᴰ z (call_comes_to G choice w x) = rw e at c in
          let f = measure_falls G choice w scoped own free x h z c' in
          mathlib.Core.List.Memᴰ.tail (flat_map_make (calls_within G choice w n) (call_comes_to G choice w x) z z c' (within_self n z (omega (arith, f.1))))
      | inr k' ↦
          let r = flat_map_elim (calls_within G choice w n) (call_comes_to G choice w x) y k' in
          let f = measure_falls G choice w scoped own free x h r.0 r.1 in
          mathlib.Core.List.Memᴰ.tail (flat_map_make (calls_within G choice w n) (call_comes_to G choice w x) r.0 z r.1
          (within_closed n r.0 y z f.0 (omega (arith, f.1)) r.2 c))
    ]

    module _ (nonempty : 0 < G.nonterminals) where
      -- every call is of the grammar and within the input
      pub called_range : (x : Call) → Called G choice w x → InRange G w x
      called_range x start = (nonempty, omega arith)
      called_range y (more {x = x} h m) = (measure_falls G choice w scoped own free x (called_range x h) y m).0

      all_within : (x : Call) → Called G choice w x → Memᴰ x (calls_within G choice w (pairs G w) (call_at 0 0))
      unfolding measure
      all_within x start = within_self (pairs G w) (call_at 0 0) (omega (arith, level_top G scoped free w 0 (length w) nonempty (omega arith)))
      all_within y (more {x = x} h m) =
          within_closed (pairs G w) (call_at 0 0) x y (nonempty, omega arith) (level_top G scoped free w 0 (length w - 0) nonempty (omega arith))
          (all_within x h) m

      -- the test by which the computed list is made passes just the calls
      pub called_test : (x : Call) → T (member same_call (calls_within G choice w (pairs G w) (call_at 0 0)) x) ↔ Called G choice w x
      called_test x =
          let made = calls_within G choice w (pairs G w) (call_at 0 0) in (
            λ u. within_called (pairs G w) (call_at 0 0) x start (member_mem same_call calls_equality made x u),
            λ h. mem_member same_call calls_equality made x (all_within x h),
          )

      -- the computed list holds just the calls, each once
      pub calls_listing : Listing G choice w (calls G choice w)
      unfolding calls
      calls_listing = record {
        distinct = distinct_keep _ (all_calls G w) (all_distinct G w);
        sound = λ x m. (called_test x).0 (keep_elim _ (all_calls G w) x m).1;
        full = λ x h. keep_make _ (all_calls G w) x ((all_range G w x).1 (called_range x h)) ((called_test x).1 h);
      }

      -- any list of just the calls, each once, is as long as the count
      pub count_listing : (l : List Call) → Listing G choice w l → length l ≡ call_count G choice w
      unfolding call_count
      count_listing l h =
          let c = calls_listing in
          let a = distinct_length l (calls G choice w) h.distinct (λ x m. c.full x (h.sound x m)) in
          let b = distinct_length (calls G choice w) l c.distinct (λ x m. h.full x (c.sound x m)) in
          omega arith

      -- at most one call for each nonterminal and place
      pub count_bound : call_count G choice w ≤ pairs G w
      unfolding call_count
      count_bound =
          let c = calls_listing in
          let h = distinct_length (calls G choice w) (all_calls G w) c.distinct (λ x m. (all_range G w x).1 (called_range x (c.sound x m))) in
          omega (arith, all_length G w)

      -- no call is beyond the farthest place
      pub farthest_most : (x : Call) → Called G choice w x → x.place ≤ farthest G choice w
      unfolding farthest
      farthest_most x h = greatest_most (calls G choice w) x (calls_listing.full x h)

      -- the farthest place is that of a call
      pub farthest_called : (x : Call) × Called G choice w x × (x.place ≡ farthest G choice w)
      unfolding farthest
      farthest_called =
          let r = greatest_attained (calls G choice w) (call_at 0 0) (calls_listing.full (call_at 0 0) start) in
          (r.0, calls_listing.sound r.0 r.1, r.2)
