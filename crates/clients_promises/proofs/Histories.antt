-- One answer more at the end of a history, and what its exact sums are against counters that stop.
use mathlib.Core.Path.{◌≡◌, refl, sym, ap, ◌∙◌}
use mathlib.Core.Bool.{Bool, true, false}
use mathlib.Core.List.{List, [], ◌∷◌, ◌++◌}
use Prim.Native.Nat.{ℕ, ◌+◌, ◌≤◌, ◌<◌}
use native.Mathlib.Omega.{arith}
use lib.Dec.{eqb}
use lib.ListN.{get_or-replicate}
use borrow.Author.Tests.{eqb-true, eqb-false}
use Rattle.answer.specs.declared.Answer.{Answer}
use Rattle.base.specs.Choice.{choose}
use Rattle.usage.specs.declared.Usage.{Usage}
use Rattle.usage.specs.Counters.{counter_limit, saturated, unused, called_of, each_counter}
use Rattle.usage.specs.Histories.{counted_answer, record_of, total_of}
use Rattle.usage.proofs.Histories.{from_any, from_unused, record_append}
use Rattle.client_records.specs.Usages.{clients, nobody, usage_of_client, called_by, UsedUp, Charges}
use Rattle.clients_promises.specs.Histories.{Reply, reply, answers_to, Continues, OfTheDay, called_exactly}
use Rattle.client_records.proofs.Sums.{sums_stop}

-- the exact sums are those of the counters
pub continued : {first us : List Usage} {h : List Reply} → ((k : ℕ) → k < clients → usage_of_client us k ≡ record_of (usage_of_client first k) (answers_to k h))
    → Continues first h us
continued {first} {us} {h} e = record { one_by_one = e; by_sums = λ k b r. e k b ∙ from_any (usage_of_client first k) r (answers_to k h) }

-- of the empty records
pub nobody_unused : (k : ℕ) → k < clients → usage_of_client nobody k ≡ unused
nobody_unused k h = get_or-replicate clients k unused unused h

pub of_nobody : {h : List Reply} {us : List Usage} → Continues nobody h us → OfTheDay h us
of_nobody {h} c k b = c.one_by_one k b ∙ ap (λ (u : Usage). record_of u (answers_to k h)) (nobody_unused k b) ∙ from_unused (answers_to k h)

pub day_continues : {h : List Reply} {us : List Usage} → OfTheDay h us → Continues nobody h us
day_continues {h} d = continued (λ k b. d k b ∙ sym (from_unused (answers_to k h)) ∙ ap (λ (u : Usage). record_of u (answers_to k h)) (sym (nobody_unused k b)))

-- a reply at the end is its client's last
answers_append : (k : ℕ) (h : List Reply) (s : Reply) → answers_to k (h ++ s ∷ []) ≡ choose (eqb s.client k) (answers_to k h ++ s.answer ∷ []) (answers_to k h)
unfolding answers_to
answers_append k [] s = refl
answers_append k (t ∷ h) s = go (eqb t.client k) (eqb s.client k) (answers_append k h s)
  where
    go : (a b : Bool) → answers_to k (h ++ s ∷ []) ≡ choose b (answers_to k h ++ s.answer ∷ []) (answers_to k h)
        → choose a (t.answer ∷ answers_to k (h ++ s ∷ [])) (answers_to k (h ++ s ∷ []))
        ≡ choose b (choose a (t.answer ∷ answers_to k h) (answers_to k h) ++ s.answer ∷ []) (choose a (t.answer ∷ answers_to k h) (answers_to k h))
    go true true e = ap (λ l. t.answer ∷ l) e
    go true false e = ap (λ l. t.answer ∷ l) e
    go false true e = e
    go false false e = e

-- records in which one client's answer is counted, and all else is as it was
module _ {us vs : List Usage} {client : ℕ} {x : Answer} (charges : Charges client x us vs) where
  -- of any client
  pub of_each : (k : ℕ) → k < clients → usage_of_client vs k ≡ choose (eqb client k) (counted_answer (usage_of_client us k) x) (usage_of_client us k)
  of_each k h = go (eqb client k) refl
    where
      go : (b : Bool) → eqb client k ≡ b → usage_of_client vs k ≡ choose b (counted_answer (usage_of_client us k) x) (usage_of_client us k)
      go true q = let z : client ≡ k = eqb-true client k q in rw (← z) (charges.own (rw z h))
      go false q = charges.others k (eqb-false client k q)

  pub continues_with : (first : List Usage) (h : List Reply) → Continues first h us → Continues first (h ++ reply client x ∷ []) vs
  continues_with first h c =
      continued (λ k b. of_each k b ∙ go k (eqb client k) (c.one_by_one k b)
      ∙ ap (record_of (usage_of_client first k)) (sym (answers_append k h (reply client x))))
    where
      go : (k : ℕ) (b : Bool) → usage_of_client us k ≡ record_of (usage_of_client first k) (answers_to k h)
          → choose b (counted_answer (usage_of_client us k) x) (usage_of_client us k)
          ≡ record_of (usage_of_client first k) (choose b (answers_to k h ++ x ∷ []) (answers_to k h))
      go k true e = ap (λ (u : Usage). counted_answer u x) e ∙ sym (record_append (usage_of_client first k) (answers_to k h) x)
      go k false e = e

  pub of_the_day_with : (h : List Reply) → OfTheDay h us → OfTheDay (h ++ reply client x ∷ []) vs
  of_the_day_with h d = of_nobody (continues_with nobody h (day_continues d))

-- a counter that stops on the way and the exact sum are cut at the same number
pub called_stops : (u : Usage) (l : List Answer) → saturated (record_of u l).called ≡ saturated (u.called + total_of called_of l)
unfolding record_of total_of counted_answer each_counter
called_stops u [] = omega arith
called_stops u (x ∷ l) = omega (arith, called_stops (counted_answer u x) l)

pub exactly_stops : {first us : List Usage} {h : List Reply} → Continues first h us → (k : ℕ) → k < clients
    → saturated (called_by us k) ≡ saturated (called_exactly first h k)
exactly_stops {first} {us} {h} c k b = ap (λ (u : Usage). saturated u.called) (c.one_by_one k b) ∙ called_stops (usage_of_client first k) (answers_to k h)

-- so a share and a limit of 32 bits are reached by both or by neither
pub used_up_alike : (f g : ℕ → ℕ) (client share limit : ℕ) → share ≤ counter_limit → limit ≤ counter_limit
    → ((k : ℕ) → k < clients → saturated (f k) ≡ saturated (g k)) → UsedUp client share limit f → UsedUp client share limit g
used_up_alike f g client share limit s l e (h, own, all) = (h, omega (arith, e client h), omega (arith, sums_stop clients f g e))
