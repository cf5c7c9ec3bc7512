-- What judging answers and leaves in the lent memories, by the first fault.
use Rattle.std.specs.Prelude.{Err, Ok, Result}
use mathlib.Core.Path.{◌≡◌, refl, sym, ap, ◌∙◌}
use mathlib.Core.Bool.{Bool, true, false}
use mathlib.Core.List.{List, [], ◌∷◌, ◌++◌}
use mathlib.Core.Option.{Option, none, some}
use Prim.Native.Nat.{ℕ, ◌+◌, ◌*◌, ◌≤◌}
use native.Mathlib.Nat.{mul-le-mul}
use native.Mathlib.Numerals.{add-one}
use native.Mathlib.Omega.{arith}
use lib.Dec.{ltb}
use lib.ListN.{length, take, drop, length-map}
use lib.Seq.{length-take-le}
use Rattle.answer.specs.declared.Error.{Error}
use Rattle.answer.specs.declared.Error.TheVariants.{MemoTooShort}
use Rattle.answer.specs.Numbers.{Verdict, refused, passed, rejected, accepted, numbers}
use Rattle.answer.specs.Faults.{first_fault, refused_or}
use Rattle.answer.specs.declared.Answer.{Answer}
use Rattle.answer.specs.declared.Answer.TheVariants.{Refused, Accepted, Rejected}
use Rattle.base.specs.Choice.{choose}
use Rattle.grammar.specs.Limits.{max_memo_entries, max_tokens, max_nonterminals, max_places}
use Rattle.grammar.specs.Syntax.{Grammar}
use Rattle.grammar.specs.Encoding.{grammar_of}
use Rattle.grammar.specs.inner.WellRead.{WellRead}
use Rattle.grammar.specs.declared.reading.Sizes.{Sizes}
use Rattle.grammar.proofs.WellRead.{well_read}
use Rattle.lookahead.specs.declared.Lookahead.{Lookahead}
use Rattle.lookahead.specs.Lookaheads.{tokens}
use Rattle.families.proofs.FewTerminals.{admitted_read}
use Rattle.semantics.specs.Valuations.{pairs}
use Rattle.semantics.specs.Descent.{accepts}
use Rattle.semantics.specs.Calls.{all_calls}
use Rattle.semantics.proofs.descent.Range.{all_length}
use Rattle.table_promises.specs.Layout.{table_words, table_room}
use Rattle.table_promises.specs.Analysis.{fault}
use Rattle.table.specs.inner.Analysis.{found_of}
use Rattle.table.specs.declared.Found.{Found}
use Rattle.promises.specs.Memory.{lent_back}
use Rattle.promises.specs.Leaving.{lent, Leaves}
use Rattle.promises.proofs.Leaving.{leaves, leaves_alike, leaves_refused, unrefused}
use Rattle.promises.proofs.Inputs.{PassedWith, RefusedWith, by_grammar, by_faults, with_passed, with_refused}
use Rattle.promises.proofs.Inputs.{RoomRefused, too_short, enough, room_passed, room_refused}
use Rattle.promises.proofs.Places.{judge_tells}
use Rattle.recognizer_promises.specs.Memory.{memo_word, memo_words}
use Rattle.event.specs.Events.{input_of}
use Rattle.event.specs.Unknown.{unknown_from}
use Rattle.event.proofs.Inputs.{input_length}
use Rattle.recognizer_promises.specs.Answers.{choice_of, judge_fault, input_faults, calls_of, verdict_of}
use Rattle.recognizer_promises.specs.inner.Answers.{with_input, with_memo}
use Rattle.recognizer_promises.specs.inner.Judging.{memo_fault, refound, found_unless, DescendsWords, EntriesFound, PassedGiven, DescendGiven}
use Rattle.recognizer_promises.specs.Properties.{Room, Judgeable, Judges}
use Rattle.recognizer_promises.proofs.Words.{understood}
use Rattle.recognizer_promises.proofs.Checking.{fits_few, passed_fault, passed_free, fault_passed, Told, told, found as found_entries, found_fault}
use Rattle.recognizer_promises.proofs.Places.{fault_encoded, places}
use Rattle.recognizer_promises.proofs.JudgeFaults.{judge_fault_long, input_fault, judge_table_long, memo_fault_short, memo_fault_long, judged_readable}
use Rattle.recognizer_promises.proofs.JudgeFaults.{readable_faultless, faultless_readable, judged_checked}
use Rattle.recognizer_promises.proofs.Meaning.{meaning}

-- a verdict is no refusal
pub verdict_unrefused : (k : Lookahead) (G : Grammar) (w : List ℕ) {r : Answer} → r ≡ verdict_of k G w → (numbers r).verdict ≡ refused → ⊥
unfolding verdict_of
verdict_unrefused k G w {r} e = go (accepts G (choice_of k G w) w) e
  where
    told_apart : Verdict → ℕ
    told_apart refused = 0
    told_apart passed = 1
    told_apart rejected = 2
    told_apart accepted = 3

    go : (b : Bool) → r ≡ choose b (Accepted (calls_of k G w)) (Rejected (calls_of k G w)) → (numbers r).verdict ≡ refused → ⊥
    go true q h = absurd (omega (arith, ap told_apart (sym (ap (λ (a : Answer). (numbers a).verdict) q) ∙ h)))
    go false q h = absurd (omega (arith, ap told_apart (sym (ap (λ (a : Answer). (numbers a).verdict) q) ∙ h)))

-- memories that are long enough, a passed grammar and a readable input: there is no fault
faultless : (k : Lookahead) (words input table memo : List ℕ) → Room k table memo → Judgeable k words input
    → judge_fault k (length table) (length memo) words input ≡ none
faultless k words input table memo room h =
    input_fault k words input table memo room.long_table room.long_memo (fault_passed words h.passed)
    (readable_faultless (grammar_of words).terminals input h.short h.known)

-- the promise from the answer and the memories
pub judges : {k : Lookahead} {words input table memo table' memo' : List ℕ} {r : Answer}
    → Leaves (judge_fault k (length table) (length memo) words input) (verdict_of k (grammar_of words) input) r
    (lent table (table_words k (grammar_of words)) table' ∷ lent memo (memo_words k (grammar_of words) input) memo' ∷ [])
    → Judges k words input table memo r table' memo'
unfolding verdict_of
judges {k} {words} {input} {table} {memo} l = record {
  understood = understood k words;
  leaves = l;
  places = λ room few G e fits.
      let H = grammar_of words in
      places k G e.formed.scoped (fits_few k G e fits)
      (judge_tells _ (ltb max_tokens (length input)) (unknown_from H.terminals 0 input) (accepts H (choice_of k H input) input) (calls_of k H input)
      (l.answer ∙ ap (λ f. refused_or f (verdict_of k H input))
      (judge_fault_long k words input table memo room.long_table room.long_memo (fault_encoded k words G few e fits))));
  as_checked = λ n c checked q.
      let e = unrefused l n in
      l.memory.0 ∙ ap (λ y. lent_back y (table_words k (grammar_of words)) table) (e ∙ sym (judged_checked k words input (length table) (length memo) e))
      ∙ sym q.leaves.memory.0;
  recognizes = λ room h.
      let f = faultless k words input table memo room h in
      let written = memo_words k (grammar_of words) input in
      meaning k words input h (drop (length written) memo) (l.answer ∙ ap (λ y. refused_or y (verdict_of k (grammar_of words) input)) f)
      (l.memory.1.0 ∙ ap (λ y. lent_back y written memo) f);
}

pub judge_refused : {k : Lookahead} {words input table memo : List ℕ} {x : Error} → judge_fault k (length table) (length memo) words input ≡ some x
    → Judges k words input table memo (Refused x) table memo
judge_refused f = judges (leaves_refused f (refl, (refl, tt)))

pub memo_count : (k : Lookahead) (G : Grammar) (input : List ℕ) → length (memo_words k G input) ≡ pairs G input
unfolding memo_words
memo_count k G input = length-map (all_calls G input) (memo_word k G input) ∙ all_length G input

-- a grammar that has passed, and an input of its terminals
module _ {k : Lookahead} {words starts entries memo : List ℕ} {z : Sizes} (events : List ℕ)
    (g : PassedGiven k words z starts entries (input_of events) memo) where
  abbrev input : List ℕ
  input = input_of events

  r : WellRead words z
  r = well_read words z (admitted_read k words g.ready.taken)

  -- so many entries are needed, and there are
  pub needed_few : z.nonterminals * (length events + 1) ≤ max_memo_entries
  needed_few =
      let m = mul-le-mul {n₁ = z.nonterminals} {m₁ = length events + 1} {n₂ = max_nonterminals} {m₂ = max_places} r.few_nonterminals
      (omega (arith, g.ready.short, input_length events)) in
      omega arith

  pub needed_room : z.nonterminals * (length events + 1) ≤ length memo
  needed_room = omega (arith, needed_few, g.room)

  needed : z.nonterminals * (length events + 1) ≡ pairs (grammar_of words) input
  needed = rw (r.nonterminals, sym (input_length events), add-one (length input))

  pub descend_given : DescendGiven k words z starts entries input (take (z.nonterminals * (length events + 1)) memo)
  descend_given = record { ready = g.ready; size = length-take-le (z.nonterminals * (length events + 1)) memo needed_room ∙ needed }

  -- the entries in front of what was there
  pub front_left : {part : List ℕ} → part ≡ memo_words k (grammar_of words) input
      → part ++ drop (z.nonterminals * (length events + 1)) memo
      ≡ memo_words k (grammar_of words) input ++ drop (length (memo_words k (grammar_of words) input)) memo
  front_left d =
      let written = memo_words k (grammar_of words) input in
      let n : z.nonterminals * (length events + 1) ≡ length written = needed ∙ sym (memo_count k (grammar_of words) input) in
      ap (λ y. y ++ drop (z.nonterminals * (length events + 1)) memo) d ∙ ap (λ y. written ++ drop y memo) n

-- faults that go by the number of terminals are reported by that which was found
pub same_terminals : (k : Lookahead) (words : List ℕ) (faults : ℕ → List (Option Error)) {z : Sizes} {starts entries : List ℕ} {o : Option Error}
    → EntriesFound k words z starts entries → first_fault (faults z.terminals) ≡ o → first_fault (faults (grammar_of words).terminals) ≡ o
same_terminals k words faults {z} m h = rw (← (well_read words z (admitted_read k words m.taken)).terminals) h

-- what is found of the memo table, a grammar and an input decides
module _ (k : Lookahead) (words input memo : List ℕ) {found : Found}
    (e : found ≡ refound (found_of k words) (with_memo (length memo) (found_of k words).finding input)) where
  abbrev faults : ℕ → List (Option Error)
  faults n = input_faults n input

  abbrev grammar_found : Result Sizes Error
  grammar_found = (found_of k words).finding

  abbrev known : Told k words grammar_found (found_of k words).starts (found_of k words).entries
  known = told k words refl

  finding_is : found.finding ≡ with_memo (length memo) grammar_found input
  finding_is = ap (λ y. y.finding) e

  pub words_refused : {x : Error} → found.finding ≡ Err x → DescendsWords k words input memo found memo
  words_refused {x} p =
      let f = go (room_refused (length memo) max_memo_entries MemoTooShort (with_input grammar_found input) (sym finding_is ∙ p)) in
      record {
        grammar = e ∙ ap (refound (found_of k words)) (sym finding_is ∙ p) ∙ sym (ap (λ y. found_unless y (found_of k words)) f);
        lent = sym (ap (λ y. lent_back y (memo_words k (grammar_of words) input) memo) f);
      }
    where
      behind : max_memo_entries ≤ length memo → RefusedWith grammar_found faults x → memo_fault k (length memo) words input ≡ some x
      behind room (by_grammar h) = memo_fault_long k words input memo room (found_fault known h)
      behind room (by_faults z h i) =
          let m = found_entries known h in
          memo_fault_long k words input memo room m.faultless ∙ same_terminals k words faults m i

      go : RoomRefused (length memo) max_memo_entries MemoTooShort (with_input grammar_found input) x → memo_fault k (length memo) words input ≡ some x
      go (too_short h s) = memo_fault_short k words input memo h ∙ ap some s
      go (enough room i) = behind room (with_refused grammar_found faults i)

  module _ {z : Sizes} (p : found.finding ≡ Ok z) where
    long : (max_memo_entries ≤ length memo) × (with_input grammar_found input ≡ Ok z)
    long = room_passed (length memo) max_memo_entries MemoTooShort (with_input grammar_found input) (sym finding_is ∙ p)

    both : PassedWith grammar_found faults z
    both = with_passed grammar_found faults long.1

    entries_found : EntriesFound k words z found.starts found.entries
    entries_found = rw e (found_entries known both.grammar)

    unfaulty : first_fault (input_faults (grammar_of words).terminals input) ≡ none
    unfaulty = same_terminals k words faults entries_found both.faultless

    pub passed_given : PassedGiven k words z found.starts found.entries input memo
    passed_given =
        let m = entries_found in
        let s = faultless_readable (grammar_of words).terminals input unfaulty in
        record {
          ready = record {
            taken = m.taken;
            free = passed_free words (passed_fault k words m.faultless);
            begins = m.begins;
            entered = m.entered;
            tokens = s.1;
            short = s.0;
          };
          room = long.0;
        }

    pub words_descended : {memo' : List ℕ}
        → memo' ≡ memo_words k (grammar_of words) input ++ drop (length (memo_words k (grammar_of words) input)) memo
        → DescendsWords k words input memo found memo'
    words_descended d =
        let n : memo_fault k (length memo) words input ≡ none = memo_fault_long k words input memo long.0 entries_found.faultless ∙ unfaulty in
        record {
          grammar = e ∙ ap (refound (found_of k words)) (sym finding_is ∙ p ∙ sym both.grammar) ∙ sym (ap (λ y. found_unless y (found_of k words)) n);
          lent = d ∙ sym (ap (λ y. lent_back y (memo_words k (grammar_of words) input) memo) n);
        }

-- and with a table that is lent, and long enough, and holds the words of what is found
module _ {k : Lookahead} (words input table memo : List ℕ) (long : table_room k ≤ length table) {r : Found} {memo' : List ℕ}
    (j : DescendsWords k words input memo r memo') where
  same_fault : judge_fault k (length table) (length memo) words input ≡ memo_fault k (length memo) words input
  same_fault = judge_table_long k (length table) (length memo) words input long

  pub judged_by_words : {a : Answer} {table' : List ℕ} → a ≡ refused_or (memo_fault k (length memo) words input) (verdict_of k (grammar_of words) input)
      → table' ≡ lent_back (memo_fault k (length memo) words input) (table_words k (grammar_of words)) table
      → Judges k words input table memo a table' memo'
  judged_by_words v t = judges (leaves_alike same_fault (leaves v (t, (j.lent, tt))))

  pub judged_faultless : memo_fault k (length memo) words input ≡ none → (fault k words ≡ none) × (length input ≤ max_tokens)
  judged_faultless n = judged_readable k words input (length table) (length memo) (same_fault ∙ n)
