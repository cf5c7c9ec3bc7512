-- The table that is lent of what was found while judging: that of the grammar, or nothing where judging is refused.
use Rattle.std.specs.Prelude.{Ok}
use mathlib.Core.Path.{◌≡◌, refl, sym, ap, ◌∙◌}
use mathlib.Core.List.{List}
use mathlib.Core.Option.{Option, none, some}
use Prim.Native.Nat.{ℕ, ◌≤◌}
use lib.ListN.{length}
use Rattle.answer.specs.declared.Error.{Error}
use Rattle.answer.specs.declared.Answer.{Answer}
use Rattle.grammar.specs.Encoding.{grammar_of}
use Rattle.event.specs.Events.{input_of}
use Rattle.event.proofs.Inputs.{input_length}
use Rattle.lookahead.specs.declared.Lookahead.{Lookahead}
use Rattle.lookahead.specs.declared.Lookahead.TheVariants.{One}
use Rattle.table.specs.declared.Found.{Found}
use Rattle.table_promises.specs.Layout.{table_words, table_room}
use Rattle.table_promises.specs.Analysis.{fault}
use Rattle.table.specs.inner.Analysis.{found_of}
use Rattle.table.proofs.Analyzing.{entries_told}
use Rattle.lending.specs.inner.Lending.{lent_of}
use Rattle.lending.proofs.WordsLaid.{lent_table, lent_nothing}
use Rattle.promises.specs.Memory.{lent_back}
use Rattle.recognizer_promises.specs.inner.Judging.{memo_fault, found_unless, DescendsWords}
use Rattle.recognizer_promises.specs.inner.Search.{search_fault, SearchesWords}
use Rattle.recognizer_promises.specs.Properties.{Judges}
use Rattle.recognizer_promises.specs.Costliest.{JudgesCostliest}
use Rattle.recognizer_promises.specs.CostliestInput.{costliest_input}
use Rattle.recognizer_promises.proofs.Checking.{found_passed}
use Rattle.recognizer_promises.proofs.Judged.{judged_by_words, judged_faultless}
use Rattle.recognizer_promises.proofs.CostliestFaults.{costliest_by_words, search_faultless}
use Rattle.judge_answers.specs.inner.Answers.{answer_of}
use Rattle.judge_answers.proofs.Answered.{answered}

lent_found : (k : Lookahead) (words : List ℕ) (o : Option Error) {r : Found} → r ≡ found_unless o (found_of k words) → (o ≡ none → fault k words ≡ none)
    → (table : List ℕ) → table_room k ≤ length table → lent_of k r table ≡ lent_back o (table_words k (grammar_of words)) table
lent_found k words (some x) {r} e f table long = lent_nothing k r table (ap (λ y. y.finding) e)
lent_found k words none {r} e f table long =
    let passed = found_passed k words (f refl) in
    let p : r.finding ≡ Ok passed.0 = ap (λ y. y.finding) e ∙ passed.1 in
    lent_table (entries_told k words e p) table long p

-- so what is promised of judging, and of judging the costliest input, holds
pub judge_lent : (k : Lookahead) (words events table memo : List ℕ) → table_room k ≤ length table → {r : Found} {memo' : List ℕ}
    → DescendsWords k words (input_of events) memo r memo' → {table' : List ℕ} → table' ≡ lent_of k r table
    → {a : Answer} → a ≡ answer_of r.finding (length events) memo'
    → Judges k words (input_of events) table memo a table' memo'
judge_lent k words events table memo long j t v =
    let input = input_of events in
    let f = memo_fault k (length memo) words input in
    let faultless = judged_faultless words input table memo long j in
    judged_by_words words input table memo long j
    (v ∙ answered k words input memo (length events) f (λ n. ((faultless n).0, (faultless n).1, sym (input_length events))) j.grammar j.lent)
    (t ∙ lent_found k words f j.grammar (λ n. (faultless n).0) table long)

pub costliest_lent : (words : List ℕ) (k : ℕ) (log table memo : List ℕ) → table_room One ≤ length table → {r : Found} {log' memo' : List ℕ}
    → SearchesWords words k log memo r log' memo' → {table' : List ℕ} → table' ≡ lent_of One r table
    → {a : Answer} → a ≡ answer_of r.finding k memo'
    → JudgesCostliest words k log table memo a log' table' memo'
costliest_lent words k log table memo long s t v =
    let f = search_fault (length log) (length memo) words k in
    let faultless = search_faultless words k log table memo long s in
    costliest_by_words words k log table memo long s
    (v ∙ answered One words (costliest_input (grammar_of words) k) memo k f faultless s.grammar s.lent_memo)
    (t ∙ lent_found One words f s.grammar (λ n. (faultless n).0) table long)
