-- Sums over the clients, one client more at a time: no sum of counters of 32 bits wraps.
use mathlib.Core.Path.{◌≡◌, refl, ◌∙◌}
use mathlib.Core.List.{List}
use Prim.Native.Nat.{ℕ, zero, suc, ◌+◌, ◌*◌, ◌<◌}
use native.Mathlib.Numerals.{add-one}
use native.Mathlib.Omega.{arith}
use Rattle.usage.specs.declared.Usage.{Usage}
use Rattle.usage.specs.Counters.{counter_limit, saturated}
use Rattle.client_records.specs.declared.totals.Totals.{Totals}
use Rattle.client_records.specs.Usages.{clients, usage_of_client, sum_below}
use Rattle.client_records.specs.Sums.{totals_of}
use Rattle.client_records.specs.inner.Sums.{TotalsSmall, AddsUsage, SummedUp}

pub nothing_summed : (us : List Usage) → SummedUp us 0 (totals_of 0 0 0 0)
unfolding sum_below
nothing_summed us = record {
  few = omega arith;
  sums = refl;
  within = record { calls = omega arith; refusals = omega arith; acceptances = omega arith; called = omega arith };
}

module _ {us : List Usage} {n : ℕ} {t : Totals} (s : SummedUp us n t) where
  pub small : n < clients → TotalsSmall t
  small h = record {
    calls = omega (arith, s.within.calls);
    refusals = omega (arith, s.within.refusals);
    acceptances = omega (arith, s.within.acceptances);
    called = omega (arith, s.within.called);
  }

  pub one_more : {r : Totals} → n < clients → AddsUsage t (usage_of_client us n) r → SummedUp us (n + 1) r
  unfolding sum_below
  one_more {r} h a =
      let w = a.within (n * counter_limit) s.within in
      record {
        few = omega arith;
        sums = rw (add-one n) (a.sums ∙ rw s.sums);
        within = record {
          calls = omega (arith, w.calls);
          refusals = omega (arith, w.refusals);
          acceptances = omega (arith, w.acceptances);
          called = omega (arith, w.called);
        };
      }

-- sums of numbers that are alike
pub sum_alike : (n : ℕ) (f g : ℕ → ℕ) → ((k : ℕ) → f k ≡ g k) → sum_below n f ≡ sum_below n g
unfolding sum_below
sum_alike zero f g e = refl
sum_alike (suc n) f g e = omega (arith, sum_alike n f g e, e n)

-- sums of numbers that are cut at different times stop alike
pub sums_stop : (n : ℕ) (f g : ℕ → ℕ) → ((k : ℕ) → k < n → saturated (f k) ≡ saturated (g k)) → saturated (sum_below n f) ≡ saturated (sum_below n g)
unfolding sum_below
sums_stop zero f g e = refl
sums_stop (suc n) f g e = omega (arith, sums_stop n f g (λ k h. e k (omega arith)), e n (omega arith))
