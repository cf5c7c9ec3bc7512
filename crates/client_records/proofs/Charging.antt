-- One answer: whose records it changes, and how; and the test of an allowance.
use mathlib.Core.Path.{◌≡◌, refl, sym, ap, ◌∙◌}
use mathlib.Core.Bool.{Bool, true, false, ◌&&◌, true≢false}
use mathlib.Core.List.{List}
use Prim.Native.Nat.{ℕ, ◌<◌}
use native.Mathlib.Omega.{arith}
use lib.Dec.{leb, ltb}
use lib.ListN.{length, set}
use lib.Seq.{get_or-set_same, get_or-set_other}
use borrow.Author.Tests.{le-leb, leb-true, lt-ltb}
use Rattle.answer.specs.declared.Answer.{Answer}
use Rattle.base.specs.Choice.{choose}
use Rattle.usage.specs.declared.Usage.{Usage}
use Rattle.usage.specs.Counters.{unused}
use Rattle.usage.specs.Histories.{counted_answer}
use Rattle.client_records.specs.Usages.{clients, usage_of_client, sum_below, charged, exhausted, UsedUp, Charges}

-- what the test of an allowance tells
module _ (client share limit : ℕ) (f : ℕ → ℕ) where
  pub used_up : client < clients → exhausted (f client) share (sum_below clients f) limit ≡ true → UsedUp client share limit f
  used_up h e = go (leb share (f client)) (leb limit (sum_below clients f)) refl refl e
    where
      go : (a b : Bool) → leb share (f client) ≡ a → leb limit (sum_below clients f) ≡ b → a && b ≡ true → UsedUp client share limit f
      go true true p q e = (h, leb-true share (f client) p, leb-true limit (sum_below clients f) q)
      go true false p q e = absurd (true≢false (sym e))
      go false b p q e = absurd (true≢false (sym e))

  pub exhausted_true : UsedUp client share limit f → exhausted (f client) share (sum_below clients f) limit ≡ true
  exhausted_true (h, s, t) = rw (le-leb share (f client) s, le-leb limit (sum_below clients f) t)

-- an answer to a client
module _ (client : ℕ) (x : Answer) (us : List Usage) where
  charged_own : client < clients → length us ≡ clients → usage_of_client (charged client x us) client ≡ counted_answer (usage_of_client us client) x
  unfolding charged
  charged_own h e = rw (lt-ltb client clients h) (get_or-set_same us client _ unused (omega arith))

  charged_other : (k : ℕ) → (client ≡ k → ⊥) → usage_of_client (charged client x us) k ≡ usage_of_client us k
  unfolding charged
  charged_other k d = go (ltb client clients)
    where
      go : (b : Bool) → usage_of_client (choose b (set us client (counted_answer (usage_of_client us client) x)) us) k ≡ usage_of_client us k
      go true = get_or-set_other us client k _ unused (λ e. d (sym e))
      go false = refl

  pub charges : {vs : List Usage} → length us ≡ clients → vs ≡ charged client x us → Charges client x us vs
  charges eight e = record {
    whole = e;
    own = λ h. ap (λ (l : List Usage). usage_of_client l client) e ∙ charged_own h eight;
    others = λ k d. ap (λ (l : List Usage). usage_of_client l k) e ∙ charged_other k d;
  }
