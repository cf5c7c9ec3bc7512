-- Any run of calls for clients, each with the records that the one before it handed back, and what is promised of it.
use Rattle.std.specs.Prelude.{◌≡◌, List, [], ◌∷◌, map, ℕ, ◌+◌, ◌≤◌, eqb, length}
use Rattle.lookahead.specs.declared.Lookahead.TheVariants.{One}
use Rattle.answer.specs.Faults.{refused_or}
use Rattle.base.specs.Choice.{choose}
use Rattle.grammar.specs.Encoding.{grammar_of}
use Rattle.recognizer_promises.specs.Answers.{verdict_of}
use Rattle.usage.specs.declared.Usage.{Usage}
use Rattle.usage.specs.Counters.{counter_limit, called_of}
use Rattle.usage.specs.Histories.{total_of}
use Rattle.client_records.specs.declared.Served.{Served}
use Rattle.client_records.specs.Usages.{clients, nobody, called_by, sum_below}
use Rattle.clients_promises.specs.Histories.{Reply, reply, answers_to, Continues, OfTheDay}
use Rattle.clients_promises.specs.Properties.{client_fault, JudgesFor}

-- what is handed in and lent at a call; share and limit are numbers of 32 bits
pub record ClientCall : Type 0 where
  pub client : ℕ
  pub share : ℕ
  pub limit : ℕ
  pub words : List ℕ
  pub input : List ℕ
  pub table : List ℕ
  pub memo : List ℕ
  pub share_fits : share ≤ counter_limit
  pub limit_fits : limit ≤ counter_limit

-- from records by these calls, with these replies, to records; the memory lent at a call may be any
pub data ClientRun : List Usage → List ClientCall → List Reply → List Usage → Type 0 where
  idle : {us : List Usage} → ClientRun us [] [] us
  next : {us vs : List Usage} {c : ClientCall} {l : List ClientCall} {h : List Reply} (r : Served) (table' memo' : List ℕ)
      → JudgesFor c.client c.share c.limit c.words c.input c.table c.memo us r table' memo'
      → ClientRun r.usages l h vs → ClientRun us (c ∷ l) (reply c.client r.answer ∷ h) vs

-- the reply to a call where the descents for each client have called exactly so many
unfoldable pub reply_by : (ℕ → ℕ) → ClientCall → Reply
reply_by called c =
    reply c.client
    (refused_or (client_fault c.client c.share c.limit called (length c.table) (length c.memo) c.words c.input)
    (verdict_of One (grammar_of c.words) c.input))

-- and how many they have called with it
abbrev pub called_with : (ℕ → ℕ) → Reply → ℕ → ℕ
called_with called s k = choose (eqb s.client k) (called k + called_of s.answer) (called k)

-- a run of calls by exact sums alone: no number in it stops
unfoldable pub replies_by : (ℕ → ℕ) → List ClientCall → List Reply
replies_by called [] = []
replies_by called (c ∷ l) = reply_by called c ∷ replies_by (called_with called (reply_by called c)) l

pub record RunsCounted : Type 0 where
  -- each client's record is what its own answers make of it; from empty records its exact sums, cut
  pub from_any : {us vs : List Usage} {l : List ClientCall} {h : List Reply} → ClientRun us l h vs → Continues us h vs
  pub from_nobody : {vs : List Usage} {l : List ClientCall} {h : List Reply} → ClientRun nobody l h vs → OfTheDay h vs
  -- every call of a run gets the answer that it gets by exact sums: that counters stop changes none
  pub by_exact_sums : {us vs : List Usage} {l : List ClientCall} {h : List Reply} → ClientRun us l h vs → h ≡ replies_by (called_by us) l
  -- what the clients' descents have called adds up to what those of the whole run have
  pub all_called : {us vs : List Usage} {l : List ClientCall} {h : List Reply} → ClientRun us l h vs
      → sum_below clients (λ k. total_of called_of (answers_to k h)) ≡ total_of called_of (map (λ (s : Reply). s.answer) h)
