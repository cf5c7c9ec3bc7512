-- Any run of calls: each client's record is that of its own answers, and every answer is the one by exact sums.
use mathlib.Core.Path.{◌≡◌, refl, ap, ◌∙◌}
use mathlib.Core.Bool.{Bool, true, false}
use mathlib.Core.List.{List, ◌∷◌, map}
use Prim.Native.Nat.{ℕ, zero, suc, ◌+◌, ◌≤◌, ◌<◌}
use native.Mathlib.Omega.{arith}
use lib.Dec.{leb, ltb, eqb}
use lib.ListN.{length}
use borrow.Author.Tests.{le-leb, lt-leb, leb-true, leb-false, lt-ltb, le-ltb, ltb-true, ltb-false, eqb-true, eqb-false}
use Rattle.lookahead.specs.declared.Lookahead.TheVariants.{One}
use Rattle.answer.specs.declared.Answer.{Answer}
use Rattle.answer.specs.Faults.{refused_or}
use Rattle.base.specs.Choice.{choose}
use Rattle.grammar.specs.Encoding.{grammar_of}
use Rattle.recognizer_promises.specs.Answers.{verdict_of}
use Rattle.usage.specs.declared.Usage.{Usage}
use Rattle.usage.specs.Counters.{counter_limit, saturated, called_of, each_counter}
use Rattle.usage.specs.Histories.{counted_answer, record_of, total_of}
use Rattle.client_records.specs.Usages.{clients, nobody, usage_of_client, called_by, sum_below, exhausted, Charges}
use Rattle.clients_promises.specs.Histories.{Reply, reply, answers_to, Continues, OfTheDay}
use Rattle.clients_promises.specs.Properties.{client_fault}
use Rattle.clients_promises.specs.Runs.{ClientCall, ClientRun, idle, next, reply_by, called_with, replies_by, RunsCounted}
use Rattle.client_records.proofs.Sums.{sum_alike, sums_stop}
use Rattle.clients_promises.proofs.Histories.{continued, of_nobody, of_each}

-- counted one by one
run_counts : {us vs : List Usage} {l : List ClientCall} {h : List Reply} → ClientRun us l h vs → (k : ℕ) → k < clients
    → usage_of_client vs k ≡ record_of (usage_of_client us k) (answers_to k h)
unfolding record_of answers_to
run_counts idle k b = refl
run_counts (next {us = us} {c = c} {h = h} r table' memo' j rest) k b =
    run_counts rest k b ∙ ap (λ (u : Usage). record_of u (answers_to k h)) (of_each j.charges k b) ∙ go (eqb c.client k)
  where
    go : (q : Bool) → record_of (choose q (counted_answer (usage_of_client us k) r.answer) (usage_of_client us k)) (answers_to k h)
        ≡ record_of (usage_of_client us k) (choose q (r.answer ∷ answers_to k h) (answers_to k h))
    go true = refl
    go false = refl

from_any : {us vs : List Usage} {l : List ClientCall} {h : List Reply} → ClientRun us l h vs → Continues us h vs
from_any run = continued (run_counts run)

from_nobody : {vs : List Usage} {l : List ClientCall} {h : List Reply} → ClientRun nobody l h vs → OfTheDay h vs
from_nobody run = of_nobody (from_any run)

-- numbers that are cut alike
abbrev Alike : (ℕ → ℕ) → (ℕ → ℕ) → Type 0
Alike f g = (k : ℕ) → k < clients → saturated (f k) ≡ saturated (g k)

-- a number of 32 bits is reached by both or by neither
reached_alike : (bound m n : ℕ) → bound ≤ counter_limit → saturated m ≡ saturated n → leb bound m ≡ leb bound n
reached_alike bound m n h e = go (leb bound n) refl
  where
    go : (b : Bool) → leb bound n ≡ b → leb bound m ≡ b
    go true q = le-leb bound m (omega (arith, leb-true bound n q))
    go false q = lt-leb bound m (omega (arith, leb-false bound n q))

exhausted_alike : (f g : ℕ → ℕ) → Alike f g → (client share limit : ℕ) → client < clients → share ≤ counter_limit → limit ≤ counter_limit
    → exhausted (f client) share (sum_below clients f) limit ≡ exhausted (g client) share (sum_below clients g) limit
exhausted_alike f g e client share limit h s l =
    rw (reached_alike share (f client) (g client) s (e client h), reached_alike limit (sum_below clients f) (sum_below clients g) l (sums_stop clients f g e))

-- so the first fault of a call is one
fault_alike : (f g : ℕ → ℕ) → Alike f g → (c : ClientCall)
    → client_fault c.client c.share c.limit f (length c.table) (length c.memo) c.words c.input
    ≡ client_fault c.client c.share c.limit g (length c.table) (length c.memo) c.words c.input
unfolding client_fault
fault_alike f g e c = go (leb clients c.client) refl
  where
    go : (b : Bool) → leb clients c.client ≡ b
        → client_fault c.client c.share c.limit f (length c.table) (length c.memo) c.words c.input
        ≡ client_fault c.client c.share c.limit g (length c.table) (length c.memo) c.words c.input
    go true q = rw q
    go false q = rw (q, exhausted_alike f g e c.client c.share c.limit (leb-false clients c.client q) c.share_fits c.limit_fits)

-- and what has been called with its answer is cut alike again
called_alike : {us vs : List Usage} {client : ℕ} {x : Answer} (f : ℕ → ℕ) → Alike (called_by us) f → Charges client x us vs
    → Alike (called_by vs) (called_with f (reply client x))
unfolding counted_answer each_counter
called_alike {us} {client = client} {x} f e charges k b = ap (λ (u : Usage). saturated u.called) (of_each charges k b) ∙ go (eqb client k) (e k b)
  where
    go : (q : Bool) → saturated (called_by us k) ≡ saturated (f k)
        → saturated (choose q (counted_answer (usage_of_client us k) x) (usage_of_client us k)).called ≡ saturated (choose q (f k + called_of x) (f k))
    go true d = omega arith
    go false d = d

exact : {us vs : List Usage} {l : List ClientCall} {h : List Reply} → ClientRun us l h vs → (f : ℕ → ℕ) → Alike (called_by us) f → h ≡ replies_by f l
unfolding replies_by reply_by
exact idle f e = refl
exact (next {us = us} {c = c} {l = l} {h = h} r table' memo' j rest) f e =
    let same : reply c.client r.answer ≡ reply_by f c =
    ap (reply c.client) (j.leaves.answer ∙ ap (λ g. refused_or g (verdict_of One (grammar_of c.words) c.input)) (fault_alike (called_by us) f e c)) in
    let behind : h ≡ replies_by (called_with f (reply c.client r.answer)) l = exact rest _ (called_alike f e j.charges) in
    ap (λ (t : List Reply). reply c.client r.answer ∷ t) behind ∙ ap (λ (s : Reply). s ∷ replies_by (called_with f s) l) same

by_exact_sums : {us vs : List Usage} {l : List ClientCall} {h : List Reply} → ClientRun us l h vs → h ≡ replies_by (called_by us) l
by_exact_sums {us} run = exact run (called_by us) (λ k b. refl)

-- a number added for one client
added_once : (n c x : ℕ) (g : ℕ → ℕ) → sum_below n (λ k. choose (eqb c k) (x + g k) (g k)) ≡ choose (ltb c n) x 0 + sum_below n g
unfolding sum_below
added_once zero c x g = rw (le-ltb c 0 (omega arith)) refl
added_once (suc n) c x g = go (eqb c n) (ltb c n) refl refl (added_once n c x g)
  where
    go : (a b : Bool) → eqb c n ≡ a → ltb c n ≡ b → sum_below n (λ k. choose (eqb c k) (x + g k) (g k)) ≡ choose (ltb c n) x 0 + sum_below n g
        → sum_below n (λ k. choose (eqb c k) (x + g k) (g k)) + choose a (x + g n) (g n) ≡ choose (ltb c (suc n)) x 0 + (sum_below n g + g n)
    go true b q h i =
        let z : c ≡ n = eqb-true c n q in
        let e = rw (le-ltb c n (omega arith)) at i in
        rw (lt-ltb c (suc n) (omega arith)) (omega arith)
    go false true q h i =
        let e = rw h at i in
        rw (lt-ltb c (suc n) (omega (arith, ltb-true c n h))) (omega arith)
    go false false q h i =
        let e = rw h at i in
        let d : c ≡ n → ⊥ = eqb-false c n q in
        rw (le-ltb c (suc n) (omega (arith, ltb-false c n h))) (omega arith)

-- one reply more
exact_more : (s : Reply) (l : List Reply) (k : ℕ)
    → total_of called_of (answers_to k (s ∷ l))
    ≡ choose (eqb s.client k) (called_of s.answer + total_of called_of (answers_to k l)) (total_of called_of (answers_to k l))
unfolding answers_to total_of
exact_more s l k = go (eqb s.client k)
  where
    go : (b : Bool) → total_of called_of (choose b (s.answer ∷ answers_to k l) (answers_to k l))
        ≡ choose b (called_of s.answer + total_of called_of (answers_to k l)) (total_of called_of (answers_to k l))
    go true = refl
    go false = refl

all_called : {us vs : List Usage} {l : List ClientCall} {h : List Reply} → ClientRun us l h vs
    → sum_below clients (λ k. total_of called_of (answers_to k h)) ≡ total_of called_of (map (λ (s : Reply). s.answer) h)
unfolding sum_below answers_to total_of
all_called idle = refl
all_called (next {us = us} {c = c} {h = h} r table' memo' j rest) =
    let s : Reply = reply c.client r.answer in
    let g : ℕ → ℕ = λ k. total_of called_of (answers_to k h) in
    let more = sum_alike clients (λ k. total_of called_of (answers_to k (s ∷ h)))
    (λ k. choose (eqb c.client k) (called_of r.answer + g k) (g k)) (exact_more s h) in
    omega (arith, more, added_once clients c.client (called_of r.answer) g, counts (ltb c.client clients) refl, all_called rest)
  where
    -- an answer to no client has no calls
    counts : (b : Bool) → ltb c.client clients ≡ b → choose (ltb c.client clients) (called_of r.answer) 0 ≡ called_of r.answer
    counts true q = rw q
    counts false q = rw (q, j.unknown.1 (ltb-false c.client clients q))

pub runs_counted : RunsCounted
runs_counted = record { from_any = from_any; from_nobody = from_nobody; by_exact_sums = by_exact_sums; all_called = all_called }
