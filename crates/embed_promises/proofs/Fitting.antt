-- Each answer of the calls fits the fields.
use mathlib.Core.Path.{◌≡◌, refl, ap, ◌∙◌}
use mathlib.Core.Bool.{Bool, true, false}
use mathlib.Core.List.{List}
use mathlib.Core.Option.{Option, none, some}
use Prim.Native.Nat.{ℕ, suc, ◌≤◌, ◌<◌}
use native.Mathlib.Decide.{dec_lt, dec_le}
use native.Mathlib.Nat.{mul-le-mul}
use native.Mathlib.Omega.{arith}
use lib.ListN.{length}
use Rattle.answer.specs.declared.Error.{Error}
use Rattle.answer.specs.declared.Error.TheVariants.{TableTooShort, MemoTooShort, Length, Heading, UnexpectedWord, OutOfRange, TooManyRules, LeftRecursive}
use Rattle.answer.specs.declared.Error.TheVariants.{Unproductive, Conflict, ConflictOfTwo, InputTooLong, UnknownToken}
use Rattle.answer.specs.declared.Error.TheVariants.{SpansTooShort, TreeTooShort, TableOfTwoTooShort, BufferTooShort, UnknownClient, QuotaReached}
use Rattle.answer.specs.declared.Error.TheVariants.{TooManyTerminals, UnknownMark, MarkNotSet, InputFull, TooManyInputs}
use Rattle.answer.specs.declared.Calls.{Calls}
use Rattle.answer.specs.declared.Answer.{Answer}
use Rattle.answer.specs.declared.Answer.TheVariants.{Refused, Passed, Rejected, Accepted}
use Rattle.answer.specs.Numbers.{coded, numbers}
use Rattle.base.specs.Choice.{choose}
use Rattle.grammar.specs.Limits.{max_words, max_nonterminals, max_places, max_memo_entries}
use Rattle.grammar.specs.Encoding.{grammar_of}
use Rattle.semantics.specs.Choices.{table_choice}
use Rattle.semantics.specs.Descent.{accepts}
use Rattle.semantics.specs.Valuations.{solution}
use Rattle.semantics.proofs.descent.Called.{called_range}
use Rattle.semantics.proofs.Theorems.{theorems}
use Rattle.answer.specs.Faults.{refused_or}
use Rattle.answer.proofs.Faults.{OfFault}
use Rattle.lookahead.specs.declared.Lookahead.{Lookahead}
use Rattle.lookahead.specs.declared.Lookahead.TheVariants.{One}
use Rattle.lookahead.specs.Lookaheads.{tokens}
use Rattle.recognizer_promises.specs.Answers.{check_fault, judge_fault, calls_of, verdict_of}
use Rattle.recognizer_promises.specs.Properties.{Checks, Judges}
use Rattle.recognizer_promises.proofs.Checking.{passed_fault, passed_encodes, passed_free}
use Rattle.recognizer_promises.proofs.JudgeFaults.{judged_readable}
use Rattle.recognizer_promises.proofs.Judged.{verdict_unrefused}
use Rattle.recognizer_promises.proofs.RefusalErrors.{check_each, judge_each, costliest_each}
use Rattle.recognizer_promises.specs.CostliestInput.{costliest_input, costliest_fault}
use Rattle.recognizer_promises.specs.Costliest.{JudgesCostliest}
use Rattle.usage.specs.declared.Usage.{Usage}
use Rattle.client_records.specs.declared.Served.{Served}
use Rattle.client_records.specs.Usages.{clients, called_by, sum_below}
use Rattle.clients_promises.specs.Properties.{JudgesFor}
use Rattle.tree_writer_promises.specs.declared.Shown.{Shown}
use Rattle.tree_writer_promises.specs.Properties.{Shows}
use Rattle.tree_writer_promises.proofs.Showing.{short_refused}
use Rattle.embed_promises.specs.inner.Packing.{NumbersFit}
use Rattle.tabular_promises.specs.Answers.{tabular_fault, no_calls, tabular_verdict}
use Rattle.tabular_promises.specs.Properties.{TabularJudges}
use Rattle.tabular_promises.proofs.TabularFaults.{tabular_each}
use Rattle.embed_promises.proofs.Places.{Low, sets_low, input_low, judge_low}

code_low : (e : Error) → (coded e).code < 256
code_low TableTooShort = omega arith
code_low MemoTooShort = omega arith
code_low Length = omega arith
code_low Heading = omega arith
code_low (UnexpectedWord at) = omega arith
code_low (OutOfRange at) = omega arith
code_low (TooManyRules at) = omega arith
code_low (LeftRecursive A) = omega arith
code_low (Unproductive A) = omega arith
code_low (Conflict A c) = omega arith
code_low (ConflictOfTwo A c) = omega arith
code_low InputTooLong = omega arith
code_low (UnknownToken at) = omega arith
code_low SpansTooShort = omega arith
code_low TreeTooShort = omega arith
code_low TableOfTwoTooShort = omega arith
code_low BufferTooShort = omega arith
code_low UnknownClient = omega arith
code_low QuotaReached = omega arith
code_low TooManyTerminals = omega arith
code_low UnknownMark = omega arith
code_low MarkNotSet = omega arith
code_low InputFull = omega arith
code_low TooManyInputs = omega arith

refused_fits : (e : Error) → (coded e).position ≤ max_words → NumbersFit (numbers (Refused e))
refused_fits e h = record { verdict = omega arith; code = code_low e; position = omega arith; count = omega arith; farthest = omega arith }

pub passed_fits : NumbersFit (numbers Passed)
passed_fits = record { verdict = omega arith; code = omega arith; position = omega arith; count = omega arith; farthest = omega arith }

-- an answer with a fault, and one without
pub fits_by : (f : Option Error) (v : Answer) {a : Answer} → a ≡ refused_or f v → OfFault Low f → (f ≡ none → NumbersFit (numbers a)) → NumbersFit (numbers a)
fits_by none v e low h = h refl
fits_by (some x) v e low h = rw e (refused_fits x (low x refl))

-- a check
pub check_fits : {k : Lookahead} {words before after : List ℕ} {a : Answer} → Checks k words before a after → NumbersFit (numbers a)
check_fits {k} {words} {before} c =
    let low = judge_low k words in
    fits_by (check_fault k (length before) words) Passed c.leaves.answer (check_each low.short_table low.grammar (length before))
    (λ q. rw (c.leaves.answer, q) passed_fits)

-- the calls of a descent are few, and none is far
calls_fit : (k : Lookahead) (words input : List ℕ) (table memo : ℕ) → judge_fault k table memo words input ≡ none
    → ((calls_of k (grammar_of words) input).count < 65536) × ((calls_of k (grammar_of words) input).farthest < 65536)
calls_fit k words input table memo e =
    let G = grammar_of words in
    let h = judged_readable k words input table memo e in
    let p = passed_fault k words h.0 in
    let r = passed_encodes words p in
    let free = passed_free words p in
    let some_nonterminal_lem : 0 < G.nonterminals = r.limited.some_nonterminal in
    let own = theorems.own_rules G (tokens k) input in
    let c = theorems.calls_counted G r.formed.scoped free some_nonterminal_lem (table_choice G (tokens k) input) own input in
    let m = mul-le-mul {n₁ = G.nonterminals} {m₁ = suc (length input)} {n₂ = max_nonterminals} {m₂ = max_places}
    r.limited.few_nonterminals (omega (arith, h.1)) in
    let far = c.farthest_called in
    let within = called_range G (table_choice G (tokens k) input) input r.formed.scoped free own some_nonterminal_lem far.0 far.1 in
    (omega (arith, c.bounded), omega (arith, far.2, within.1, h.1))

-- a verdict with its calls
verdict_fits : (b : Bool) (c : Calls) → (c.count < 65536) × (c.farthest < 65536) → NumbersFit (numbers (choose b (Accepted c) (Rejected c)))
verdict_fits true c h = record { verdict = omega arith; code = omega arith; position = omega arith; count = h.0; farthest = h.1 }
verdict_fits false c h = record { verdict = omega arith; code = omega arith; position = omega arith; count = h.0; farthest = h.1 }

-- a judgement
pub judge_fits : {k : Lookahead} {words input table memo table' memo' : List ℕ} {a : Answer} → Judges k words input table memo a table' memo'
    → NumbersFit (numbers a)
unfolding verdict_of
judge_fits {k} {words} {input} {table} {memo} j =
    let G = grammar_of words in
    fits_by (judge_fault k (length table) (length memo) words input) (verdict_of k G input) j.leaves.answer
    (judge_each (judge_low k words) (length table) (length memo) input)
    (λ q. rw (j.leaves.answer, q)
    (verdict_fits (accepts G (table_choice G (tokens k) input) input) (calls_of k G input) (calls_fit k words input (length table) (length memo) q)))

-- one of the costliest input
pub costliest_fits : {words : List ℕ} {k : ℕ} {log table memo log' table' memo' : List ℕ} {a : Answer}
    → JudgesCostliest words k log table memo a log' table' memo'
    → NumbersFit (numbers a)
costliest_fits {words} {k} {log} {table} {memo} j =
    fits_by (costliest_fault (length log) (length table) (length memo) words k)
    (verdict_of One (grammar_of words) (costliest_input (grammar_of words) k)) j.leaves.answer
    (costliest_each (judge_low One words) (omega arith) (omega arith) (length log) (length table) (length memo) k)
    (λ q. judge_fits (j.searched
    (verdict_unrefused One (grammar_of words) (costliest_input (grammar_of words) k)
    (j.leaves.answer ∙ ap (λ f. refused_or f (verdict_of One (grammar_of words) (costliest_input (grammar_of words) k))) q))).judges)

-- one for a client: turned away at place 0, or judged
pub served_fits : {client share limit : ℕ} {words input table memo table' memo' : List ℕ} {us : List Usage} {x : Served}
    → JudgesFor client share limit words input table memo us x table' memo' → NumbersFit (numbers x.answer)
served_fits {client} {share} {limit} {us =
    us} {x = x} j = go (dec_lt client clients) (dec_le share (called_by us client)) (dec_le limit (sum_below clients (called_by us)))
  where
    go : Dec (client < clients) → Dec (share ≤ called_by us client) → Dec (limit ≤ sum_below clients (called_by us)) → NumbersFit (numbers x.answer)
    go (no h) s l = rw (j.unknown.1 (omega (arith, h))) (refused_fits UnknownClient (omega arith))
    go (yes h) (yes s) (yes l) = rw (j.turned_away.1 (h, s, l)) (refused_fits QuotaReached (omega arith))
    go (yes h) (no s) l = judge_fits (j.let_through h (λ u. s u.1))
    go (yes h) (yes s) (no l) = judge_fits (j.let_through h (λ u. l u.2))

-- one by tabulation
pub tabular_fits : {words input before after : List ℕ} {a : Answer} → TabularJudges words input before a after → NumbersFit (numbers a)
unfolding tabular_verdict
tabular_fits {words} {input} {before} j =
    fits_by (tabular_fault (length before) words input) (tabular_verdict (grammar_of words) input) j.leaves.answer
    (tabular_each (sets_low One) (omega arith) input_low (length before) words input)
    (λ q. rw (j.leaves.answer, q) (verdict_fits (solution (grammar_of words) input 0 0 (length input)) no_calls (omega arith, omega arith)))

-- a judgement with a tree
pub tree_fits : {words input table memo tree table' memo' tree' : List ℕ} {x : Shown} → Shows words input table memo tree x table' memo' tree'
    → NumbersFit (numbers x.answer)
tree_fits {words} {input} {table} {memo} {tree} {x = x} s = go (dec_lt (length tree) max_memo_entries)
  where
    go : Dec (length tree < max_memo_entries) → NumbersFit (numbers x.answer)
    go (yes h) =
        let k = short_refused words input table memo (length tree) h in
        rw (s.leaves.answer ∙ ap (λ f. refused_or f (verdict_of One (grammar_of words) input)) k.1) (refused_fits k.0 (omega (arith, k.2)))
    go (no h) = judge_fits (s.judges (omega (arith, h)))
