-- A call by the tests before it: no such client, an allowance that is used up, or judged; each keeps the promise.
use mathlib.Core.Path.{◌≡◌, refl, sym, ap, ◌∙◌}
use mathlib.Core.Bool.{Bool, true, false, true≢false}
use mathlib.Core.List.{List, [], ◌∷◌}
use mathlib.Core.Logic.{◌↔◌}
use mathlib.Core.Option.{Option, none, some}
use Prim.Native.Nat.{ℕ, ◌≤◌, ◌<◌}
use native.Mathlib.Omega.{arith}
use lib.Dec.{leb}
use lib.ListN.{length}
use borrow.Author.Tests.{le-leb, lt-leb, leb-true, leb-false}
use Rattle.std.specs.Prelude.{Result, Ok, Err}
use Rattle.answer.specs.declared.Error.{Error}
use Rattle.answer.specs.declared.Error.TheVariants.{UnknownClient, QuotaReached}
use Rattle.answer.specs.declared.Answer.{Answer}
use Rattle.answer.specs.declared.Answer.TheVariants.{Refused}
use Rattle.answer.specs.Faults.{first_fault}
use Rattle.answer.proofs.Apart.{answer_number_lem}
use Rattle.base.specs.Choice.{choose}
use Rattle.grammar.specs.Encoding.{grammar_of}
use Rattle.lookahead.specs.declared.Lookahead.TheVariants.{One}
use Rattle.table_promises.specs.Layout.{table_words}
use Rattle.recognizer_promises.specs.Answers.{judge_fault, verdict_of}
use Rattle.promises.specs.Leaving.{lent, Leaves}
use Rattle.promises.specs.Directions.{DirectionsIgnored}
use Rattle.promises.proofs.Leaving.{leaves_alike, leaves_refused}
use Rattle.promises.proofs.Directions.{pair_same, directions_ignored}
use Rattle.recognizer_promises.specs.Memory.{memo_words}
use Rattle.recognizer_promises.specs.Properties.{Judges}
use Rattle.usage.specs.declared.Usage.{Usage}
use Rattle.client_records.specs.declared.Served.{Served}
use Rattle.client_records.specs.Usages.{clients, called_by, sum_below, charged, exhausted, UsedUp}
use Rattle.client_records.specs.inner.Charges.{allowed_by, served_with}
use Rattle.clients_promises.specs.Histories.{called_exactly}
use Rattle.clients_promises.specs.Properties.{client_fault, JudgesFor}
use Rattle.clients_promises.proofs.Codes.{never_judged}
use Rattle.client_records.proofs.Charging.{used_up, exhausted_true, charges}
use Rattle.clients_promises.proofs.Histories.{exactly_stops, used_up_alike, continues_with, of_the_day_with}

err_no_ok : {r : Result (Unit {0}) Error} {x : Error} → r ≡ Err x → r ≡ Ok tt → ⊥
err_no_ok p q = cc

alone : (f : Option Error) → first_fault (f ∷ []) ≡ f
alone none = refl
alone (some e) = refl

-- the first fault, by what holds
module _ (client share limit : ℕ) (f : ℕ → ℕ) (table memo : ℕ) (words input : List ℕ) where
  abbrev fault : Option Error
  fault = client_fault client share limit f table memo words input

  abbrev reached : Bool
  reached = exhausted (f client) share (sum_below clients f) limit

  pub first_unknown : clients ≤ client → fault ≡ some UnknownClient
  unfolding client_fault
  first_unknown h = rw (le-leb clients client h)

  module _ (h : client < clients) where
    pub first_quota : reached ≡ true → fault ≡ some QuotaReached
    unfolding client_fault
    first_quota e = rw (lt-leb clients client h, e)

    pub then_judged : reached ≡ false → fault ≡ judge_fault One table memo words input
    unfolding client_fault
    then_judged e = rw (lt-leb clients client h, e) (alone (judge_fault One table memo words input))

module _ (client share limit : ℕ) (us : List Usage) (eight : length us ≡ clients) (words input table memo : List ℕ) where
  abbrev Before : Option Error
  Before = client_fault client share limit (called_by us) (length table) (length memo) words input

  -- what follows from the answer and the record
  serves : {r : Served} {table' memo' : List ℕ}
      → Leaves Before (verdict_of One (grammar_of words) input) r.answer
      (lent table (table_words One (grammar_of words)) table' ∷ lent memo (memo_words One (grammar_of words) input) memo' ∷ [])
      → (client < clients → (UsedUp client share limit (called_by us) → ⊥) → Judges One words input table memo r.answer table' memo')
      → (r.answer ≡ Refused UnknownClient) ↔ (clients ≤ client)
      → (r.answer ≡ Refused QuotaReached) ↔ UsedUp client share limit (called_by us)
      → r.usages ≡ charged client r.answer us
      → JudgesFor client share limit words input table memo us r table' memo'
  serves {r} left let_through unknown turned e =
      let counted_once = charges client r.answer us eight e in
      record {
        leaves = left;
        let_through = let_through;
        unknown = unknown;
        turned_away = turned;
        under_share = λ h q. omega (arith, (turned.0 q).1);
        charges = counted_once;
        continues = continues_with counted_once;
        of_the_day = of_the_day_with counted_once;
        by_exact_sums = λ first history c s l. (
          λ q. used_up_alike (called_by us) (called_exactly first history) client share limit s l (exactly_stops c) (turned.0 q),
          λ u. turned.1 (used_up_alike (called_exactly first history) (called_by us) client share limit s l (λ k b. sym (exactly_stops c k b)) u),
        );
      }

  unknown_client : clients ≤ client → JudgesFor client share limit words input table memo us (served_with client (Refused UnknownClient) us) table memo
  unknown_client h = serves
      (leaves_refused (first_unknown client share limit (called_by us) (length table) (length memo) words input h) (refl, (refl, tt)))
      (λ b _. absurd (omega arith))
      (λ _. h, λ _. refl)
      (λ q. absurd (omega (arith, answer_number_lem q)), λ u. absurd (omega (arith, u.0)))
      refl

  abbrev reached_before : Bool
  reached_before = exhausted (called_by us client) share (sum_below clients (called_by us)) limit

  quota_reached : client < clients → reached_before ≡ true
      → JudgesFor client share limit words input table memo us (served_with client (Refused QuotaReached) us) table memo
  quota_reached h e =
      let used = used_up client share limit (called_by us) h e in
      serves
      (leaves_refused (first_quota client share limit (called_by us) (length table) (length memo) words input h e) (refl, (refl, tt)))
      (λ _ n. absurd (n used))
      (λ q. absurd (omega (arith, answer_number_lem q)), λ k. absurd (omega arith))
      (λ _. used, λ _. refl)
      refl

  judged : {a : Answer} {table' memo' : List ℕ} → client < clients → reached_before ≡ false → Judges One words input table memo a table' memo'
      → JudgesFor client share limit words input table memo us (served_with client a us) table' memo'
  judged {a = a} h e j = serves
      (leaves_alike (then_judged client share limit (called_by us) (length table) (length memo) words input h e) j.leaves)
      (λ _ _. j)
      (λ q. absurd (never_judged UnknownClient (omega arith) j q), λ k. absurd (omega arith)) (
        λ q. absurd (never_judged QuotaReached (omega arith) j q),
        λ u. absurd (true≢false (sym (exhausted_true client share limit (called_by us) u) ∙ e)),
      )
      refl

  -- by what is answered before it is judged
  module _ {allowed : Result (Unit {0}) Error} (e : allowed ≡ allowed_by client share limit us) where
    pub turned_away_served : {x : Error} {r : Served} → allowed ≡ Err x → r ≡ served_with client (Refused x) us
        → JudgesFor client share limit words input table memo us r table memo
    turned_away_served {x} {r} t d = go (leb clients client) reached_before refl refl e
      where
        go : (u q : Bool) → leb clients client ≡ u → reached_before ≡ q
            → allowed ≡ choose u (Err UnknownClient) (choose q (Err QuotaReached) (Ok tt))
            → JudgesFor client share limit words input table memo us r table memo
        go true q h b z =
            let unknown : x ≡ UnknownClient = cc in
            rw (d, unknown) (unknown_client (leb-true clients client h))
        go false true h b z =
            let quota : x ≡ QuotaReached = cc in
            rw (d, quota) (quota_reached (leb-false clients client h) b)
        go false false h b z = absurd (err_no_ok t z)

    pub let_through_served : {a : Answer} {r : Served} {table' memo' : List ℕ} → ((x : Error) → allowed ≡ Err x → ⊥)
        → Judges One words input table memo a table' memo' → r ≡ served_with client a us
        → JudgesFor client share limit words input table memo us r table' memo'
    let_through_served {a} {r} {table'} {memo'} t j d = go (leb clients client) reached_before refl refl e
      where
        go : (u q : Bool) → leb clients client ≡ u → reached_before ≡ q
            → allowed ≡ choose u (Err UnknownClient) (choose q (Err QuotaReached) (Ok tt))
            → JudgesFor client share limit words input table memo us r table' memo'
        go true q h b z = absurd (t UnknownClient z)
        go false true h b z = absurd (t QuotaReached z)
        go false false h b z = rw d (judged (leb-false clients client h) b j)

-- the answer, both memories and the records handed back are settled by the input, so directions change nothing
module _ (client share limit : ℕ) (words table memo : List ℕ) (us : List Usage) where
  abbrev Left : Type 0
  Left = Served × (List ℕ × List ℕ)

  abbrev Promise : List ℕ → Left → Type 0
  Promise input l = JudgesFor client share limit words input table memo us l.0 l.1.0 l.1.1

  served_same : (r s : Served) → r.answer ≡ s.answer → r.usages ≡ s.usages → r ≡ s
  served_same r s a u =
      let z : ◌≡◌ {A = Served} (record { answer = r.answer; usages = r.usages }) (record { answer = s.answer; usages = s.usages }) = rw (a, u) in z

  settled : (w : List ℕ) (l m : Left) → Promise w l → Promise w m → l ≡ m
  settled w l m p q =
      let a = p.leaves.answer ∙ sym q.leaves.answer in
      pair_same (served_same l.0 m.0 a (p.charges.whole ∙ ap (λ x. charged client x us) a ∙ sym q.charges.whole))
      (pair_same (p.leaves.memory.0 ∙ sym q.leaves.memory.0) (p.leaves.memory.1.0 ∙ sym q.leaves.memory.1.0))

  pub serving_ignores : DirectionsIgnored Promise
  serving_ignores = directions_ignored Promise settled
