-- What judging the costliest input answers and leaves in the lent memories, by the first fault.
use Rattle.std.specs.Prelude.{Err, Ok, Result}
use mathlib.Core.Path.{◌≡◌, refl, sym, ap, ◌∙◌}
use mathlib.Core.List.{List, [], ◌∷◌, ◌++◌}
use mathlib.Core.Option.{Option, none, some}
use Prim.Native.Nat.{ℕ, ◌^◌, ◌≤◌, ◌<◌}
use native.Mathlib.Omega.{arith}
use lib.Dec.{ltb, ltb→lt, lt→ltb}
use lib.ListN.{length, take, drop}
use lib.Seq.{length-take-le}
use borrow.Author.Tests.{lt-ltb, le-ltb, ltb-false}
use Rattle.answer.specs.declared.Error.{Error}
use Rattle.answer.specs.declared.Error.TheVariants.{TableTooShort, MemoTooShort, BufferTooShort, InputTooLong, TooManyInputs}
use Rattle.answer.specs.declared.Answer.{Answer}
use Rattle.answer.specs.declared.Answer.TheVariants.{Refused}
use Rattle.answer.specs.Faults.{fault_if, first_fault, refused_or}
use Rattle.answer.proofs.Faults.{Faultless, fault_none, each_none, first_none, first_nested}
use Rattle.base.proofs.Quantified.{all_map}
use Rattle.grammar.specs.Limits.{max_tokens, max_table_words, max_memo_entries}
use Rattle.grammar.specs.Syntax.{Grammar}
use Rattle.grammar.specs.Encoding.{grammar_of}
use Rattle.encoding.specs.Encode.{Encodes}
use Rattle.grammar.specs.inner.WellRead.{WellRead}
use Rattle.grammar.specs.declared.reading.Sizes.{Sizes}
use Rattle.grammar.proofs.WellRead.{well_read}
use Rattle.lookahead.specs.declared.Lookahead.TheVariants.{One}
use Rattle.inputs.specs.Inputs.{max_inputs}
use Rattle.inputs.specs.Costliest.{CostliestOf}
use Rattle.inputs.proofs.Greatest.{costliest_of}
use Rattle.families.proofs.FewTerminals.{admitted_read}
use Rattle.base.specs.Strings.{Over}
use Rattle.semantics.specs.Descent.{accepts}
use Rattle.table_promises.specs.Layout.{table_words}
use Rattle.table_promises.specs.Analysis.{grammar_faults, fault}
use Rattle.table.specs.inner.Analysis.{found_of}
use Rattle.table.specs.declared.Found.{Found}
use Rattle.promises.specs.Lengths.{length_faults}
use Rattle.promises.specs.inner.Lengths.{with_length, with_log, with_search}
use Rattle.promises.specs.Memory.{lent_back}
use Rattle.promises.specs.Leaving.{lent, Leaves}
use Rattle.promises.proofs.Leaving.{leaves, leaves_alike, leaves_refused, unrefused}
use Rattle.promises.proofs.Places.{costliest_tells}
use Rattle.promises.proofs.Inputs.{PassedWith, RefusedWith, by_grammar, by_faults, with_passed, with_refused}
use Rattle.promises.proofs.Inputs.{RoomRefused, too_short, enough, room_passed, room_refused}
use Rattle.recognizer_promises.specs.Memory.{memo_words}
use Rattle.recognizer_promises.specs.Answers.{choice_of, judge_fault, calls_of, verdict_of}
use Rattle.recognizer_promises.specs.inner.Judging.{refound, found_unless, EntriesFound}
use Rattle.recognizer_promises.specs.Properties.{Room}
use Rattle.recognizer_promises.specs.CostliestInput.{calls_on, costliest_input, costliest_fault}
use Rattle.recognizer_promises.specs.Costliest.{Searchable, JudgesCostliest}
use Rattle.recognizer_promises.specs.inner.Search.{search_fault, SearchesWords, SearchGiven, BestLeft}
use Rattle.recognizer_promises.proofs.Words.{understood}
use Rattle.recognizer_promises.proofs.Places.{fault_encoded, places}
use Rattle.recognizer_promises.proofs.Checking.{fits_few, passed_fault, fault_passed, passed_encodes, passed_free, Told, told, found as found_entries}
use Rattle.recognizer_promises.proofs.Checking.{found_fault}
use Rattle.recognizer_promises.proofs.JudgeFaults.{input_fault, readable_faultless}
use Rattle.recognizer_promises.proofs.Judged.{verdict_unrefused, judges, same_terminals}

-- the rows of the search, with the grammar's faults as one
abbrev search_rows : ℕ → ℕ → List ℕ → ℕ → List (Option Error)
search_rows log memo words k =
    fault_if (ltb memo max_memo_entries) MemoTooShort
    ∷ fault_if (ltb log max_tokens) BufferTooShort
    ∷ fault One words
    ∷ length_faults (grammar_of words).terminals k

search_rows_lem : (log memo : ℕ) (words : List ℕ) (k : ℕ) → search_fault log memo words k ≡ first_fault (search_rows log memo words k)
unfolding search_fault fault
search_rows_lem log memo words k =
    first_nested (fault_if (ltb memo max_memo_entries) MemoTooShort ∷ fault_if (ltb log max_tokens) BufferTooShort ∷ []) (grammar_faults One words)
    (length_faults (grammar_of words).terminals k)

-- a length without a fault is not too great, and of so many inputs there are not too many
faultless_length : (n k : ℕ) → first_fault (length_faults n k) ≡ none → (k ≤ max_tokens) × (n ^ k ≤ max_inputs)
faultless_length n k e =
    let f = each_none (length_faults n k) e in (
      ltb-false max_tokens k (fault_none (ltb max_tokens k) InputTooLong f.0),
      ltb-false max_inputs (n ^ k) (fault_none (ltb max_inputs (n ^ k)) TooManyInputs f.1.0),
    )

-- the search in the log and the memo table alone: the first fault, by what holds
module _ (words : List ℕ) (k : ℕ) (log memo : List ℕ) where
  abbrev fault_found : Option Error
  fault_found = search_fault (length log) (length memo) words k

  by_grammar_lem : max_memo_entries ≤ length memo → max_tokens ≤ length log → {f : Option Error} → fault One words ≡ f
      → fault_found ≡ first_fault (f ∷ length_faults (grammar_of words).terminals k)
  by_grammar_lem room space e =
      search_rows_lem (length log) (length memo) words k ∙ rw (le-ltb (length memo) max_memo_entries room, le-ltb (length log) max_tokens space, e)

  memo_first : length memo < max_memo_entries → fault_found ≡ some MemoTooShort
  unfolding search_fault
  memo_first h = rw (lt-ltb (length memo) max_memo_entries h)

  log_first : max_memo_entries ≤ length memo → length log < max_tokens → fault_found ≡ some BufferTooShort
  unfolding search_fault
  log_first room h = rw (le-ltb (length memo) max_memo_entries room, lt-ltb (length log) max_tokens h)

  -- what is found of the memories, a grammar and a length decides
  module _ {found : Found} (e : found ≡ refound (found_of One words) (with_search (length log) (length memo) (found_of One words).finding k)) where
    abbrev faults : ℕ → List (Option Error)
    faults n = length_faults n k

    abbrev grammar_found : Result Sizes Error
    grammar_found = (found_of One words).finding

    abbrev known : Told One words grammar_found (found_of One words).starts (found_of One words).entries
    known = told One words refl

    finding_is : found.finding ≡ with_search (length log) (length memo) grammar_found k
    finding_is = ap (λ y. y.finding) e

    abbrev behind_memo : Result Sizes Error
    behind_memo = with_log (length log) grammar_found k

    abbrev behind_log : Result Sizes Error
    behind_log = with_length grammar_found k

    pub search_refused : {x : Error} → found.finding ≡ Err x → SearchesWords words k log memo found log memo
    search_refused {x} p =
        let G = grammar_of words in
        let w = costliest_input G k in
        let f = by_memo (room_refused (length memo) max_memo_entries MemoTooShort behind_memo (sym finding_is ∙ p)) in
        record {
          grammar = e ∙ ap (refound (found_of One words)) (sym finding_is ∙ p) ∙ sym (ap (λ y. found_unless y (found_of One words)) f);
          lent_log = sym (ap (λ y. lent_back y w log) f);
          lent_memo = sym (ap (λ y. lent_back y (memo_words One G w) memo) f);
        }
      where
        by_length : max_memo_entries ≤ length memo → max_tokens ≤ length log → RefusedWith grammar_found faults x → fault_found ≡ some x
        by_length room space (by_grammar h) = by_grammar_lem room space (found_fault known h)
        by_length room space (by_faults z h i) =
            let m = found_entries known h in
            by_grammar_lem room space m.faultless ∙ same_terminals One words faults m i

        by_log : max_memo_entries ≤ length memo → RoomRefused (length log) max_tokens BufferTooShort behind_log x → fault_found ≡ some x
        by_log room (too_short h s) = log_first room h ∙ ap some s
        by_log room (enough space i) = by_length room space (with_refused grammar_found faults i)

        by_memo : RoomRefused (length memo) max_memo_entries MemoTooShort behind_memo x → fault_found ≡ some x
        by_memo (too_short h s) = memo_first h ∙ ap some s
        by_memo (enough room i) = by_log room (room_refused (length log) max_tokens BufferTooShort behind_log i)

    module _ {z : Sizes} (p : found.finding ≡ Ok z) where
      long_memo : (max_memo_entries ≤ length memo) × (behind_memo ≡ Ok z)
      long_memo = room_passed (length memo) max_memo_entries MemoTooShort behind_memo (sym finding_is ∙ p)

      long_log : (max_tokens ≤ length log) × (behind_log ≡ Ok z)
      long_log = room_passed (length log) max_tokens BufferTooShort behind_log long_memo.1

      both : PassedWith grammar_found faults z
      both = with_passed grammar_found faults long_log.1

      entries_found : EntriesFound One words z found.starts found.entries
      entries_found = rw e (found_entries known both.grammar)

      read : WellRead words z
      read = well_read words z (admitted_read One words entries_found.taken)

      fits : (k ≤ max_tokens) × (z.terminals ^ k ≤ max_inputs)
      fits = faultless_length z.terminals k both.faultless

      pub part_fits : k ≤ length log
      part_fits = omega (arith, fits.0, long_log.0)

      pub part_length : length (take k log) ≡ k
      part_length = length-take-le k log part_fits

      pub search_given : SearchGiven words z found.starts found.entries (take k log) memo
      search_given = record {
        taken = entries_found.taken;
        free = passed_free words (passed_fault One words entries_found.faultless);
        begins = entries_found.begins;
        entered = entries_found.entered;
        short = omega (arith, part_length, fits.0);
        few = rw part_length fits.1;
        room = long_memo.0;
      }

      none_found : fault_found ≡ none
      none_found = by_grammar_lem long_memo.0 long_log.0 entries_found.faultless ∙ same_terminals One words faults entries_found both.faultless

      pub search_done : {part memo' : List ℕ} → BestLeft words (take k log) memo part memo' → SearchesWords words k log memo found (part ++ drop k log) memo'
      search_done {part} {memo'} d =
          let G = grammar_of words in
          let w = costliest_input G k in
          let o = costliest_of (calls_on G) G.terminals (omega (arith, read.terminals, read.some_terminal)) k in
          let s : part ≡ w = d.written ∙ ap (costliest_input G) part_length in
          let left : memo' ≡ memo_words One G w ++ drop (length (memo_words One G w)) memo = rw s at d.entries in
          record {
            grammar =
                e ∙ ap (refound (found_of One words)) (sym finding_is ∙ p ∙ sym both.grammar)
                ∙ sym (ap (λ y. found_unless y (found_of One words)) none_found);
            lent_log =
                ap (λ y. y ++ drop k log) s ∙ ap (λ i. w ++ drop i log) (sym o.long) ∙ sym (ap (λ y. lent_back y w log) none_found);
            lent_memo = left ∙ sym (ap (λ y. lent_back y (memo_words One G w) memo) none_found);
          }

-- and with a table that is lent: the rows of the call
abbrev costliest_rows : ℕ → ℕ → ℕ → List ℕ → ℕ → List (Option Error)
costliest_rows log table memo words n = fault_if (ltb table max_table_words) TableTooShort ∷ search_rows log memo words n

costliest_rows_lem : (log table memo : ℕ) (words : List ℕ) (n : ℕ)
    → costliest_fault log table memo words n ≡ first_fault (costliest_rows log table memo words n)
unfolding costliest_fault fault
costliest_rows_lem log table memo words n =
    first_nested (fault_if (ltb table max_table_words) TableTooShort ∷ fault_if (ltb memo max_memo_entries) MemoTooShort
    ∷ fault_if (ltb log max_tokens) BufferTooShort ∷ [])
    (grammar_faults One words) (length_faults (grammar_of words).terminals n)

module _ (words : List ℕ) (n : ℕ) (log table memo : List ℕ) where
  abbrev G : Grammar
  G = grammar_of words

  abbrev w : List ℕ
  w = costliest_input G n

  abbrev why : Option Error
  why = costliest_fault (length log) (length table) (length memo) words n

  -- with memories that are long enough, by the grammar and the length
  long_fault : max_tokens ≤ length log → Room One table memo → {f : Option Error} → fault One words ≡ f → why ≡ first_fault (f ∷ length_faults G.terminals n)
  long_fault space room e =
      costliest_rows_lem (length log) (length table) (length memo) words n
      ∙ rw (
        le-ltb (length table) max_table_words room.long_table,
        le-ltb (length memo) max_memo_entries room.long_memo,
        le-ltb (length log) max_tokens space,
        e,
      )

  no_fault : max_tokens ≤ length log → Room One table memo → Searchable words n → why ≡ none
  no_fault space room h =
      long_fault space room (fault_passed words h.passed) ∙ rw (le-ltb max_tokens n h.short, le-ltb max_inputs (G.terminals ^ n) h.few)

  -- without a fault the costliest input is judged
  module _ (e : why ≡ none) where
    each : Faultless (costliest_rows (length log) (length table) (length memo) words n)
    each =
        each_none (costliest_rows (length log) (length table) (length memo) words n)
        (sym (costliest_rows_lem (length log) (length table) (length memo) words n) ∙ e)

    encoded : Encodes words G
    encoded = passed_encodes words (passed_fault One words each.1.1.1.0)

    length_fits_n : (n ≤ max_tokens) × (G.terminals ^ n ≤ max_inputs)
    length_fits_n = faultless_length G.terminals n (first_none (length_faults G.terminals n) each.1.1.1.1)

    costliest : CostliestOf (calls_on G) G.terminals n w
    costliest = costliest_of (calls_on G) G.terminals encoded.limited.some_terminal n

    judged : judge_fault One (length table) (length memo) words w ≡ none
    judged =
        input_fault One words w table memo (ltb-false (length table) max_table_words (fault_none (ltb (length table) max_table_words) TableTooShort each.0))
        (ltb-false (length memo) max_memo_entries (fault_none (ltb (length memo) max_memo_entries) MemoTooShort each.1.0)) each.1.1.1.0
        (readable_faultless G.terminals w (omega (arith, costliest.long, length_fits_n.0)) costliest.tokens)

    undirected : Over 128 w
    undirected =
        all_map (λ a. ltb a G.terminals) (λ a. ltb a 128) w
        (λ a _ h. lt→ltb a 128 (omega (arith, ltb→lt a G.terminals h, encoded.limited.few_terminals))) costliest.tokens

  -- the promise from the answer and the memories
  judges_costliest : {r : Answer} {log' table' memo' : List ℕ}
      → Leaves why (verdict_of One G w) r (lent log w log' ∷ lent table (table_words One G) table' ∷ lent memo (memo_words One G w) memo' ∷ [])
      → JudgesCostliest words n log table memo r log' table' memo'
  unfolding verdict_of
  judges_costliest l = record {
    understood = understood One words;
    leaves = l;
    places = λ space room few H e.
        places One H e.formed.scoped (fits_few One H e tt)
        (costliest_tells _ (ltb max_tokens n) (ltb max_inputs (G.terminals ^ n)) (accepts G (choice_of One G w) w) (calls_of One G w)
        (l.answer ∙ ap (λ f. refused_or f (verdict_of One G w)) (long_fault space room (fault_encoded One words H few e tt))));
    taken = λ space room h. verdict_unrefused One G w (l.answer ∙ ap (λ f. refused_or f (verdict_of One G w)) (no_fault space room h));
    searched = λ u.
        let e = unrefused l u in
        record {
          judges = judges (leaves_alike (judged e ∙ sym e) (leaves l.answer (l.memory.1.0, (l.memory.1.1.0, tt))));
          costliest = costliest e;
          undirected = undirected e;
        };
  }

  -- a table that is too short
  short_first : length table < max_table_words → why ≡ some TableTooShort
  unfolding costliest_fault
  short_first h = rw (lt-ltb (length table) max_table_words h)

  pub table_refused : length table < max_table_words → JudgesCostliest words n log table memo (Refused TableTooShort) log table memo
  table_refused h = judges_costliest (leaves_refused (short_first h) (refl, (refl, (refl, tt))))

  -- or long enough, with the words of what is found
  module _ (long : max_table_words ≤ length table) {r : Found} {log' memo' : List ℕ} (s : SearchesWords words n log memo r log' memo') where
    same_fault : why ≡ search_fault (length log) (length memo) words n
    unfolding costliest_fault search_fault
    same_fault = rw (le-ltb (length table) max_table_words long)

    pub search_faultless : search_fault (length log) (length memo) words n ≡ none
        → (fault One words ≡ none) × (length w ≤ max_tokens) × (n ≡ length w)
    search_faultless e =
        let q = same_fault ∙ e in
        let long = (costliest q).long in
        ((each q).1.1.1.0, omega (arith, long, (length_fits_n q).0), sym long)

    pub costliest_by_words : {a : Answer} {table' : List ℕ} → a ≡ refused_or (search_fault (length log) (length memo) words n) (verdict_of One G w)
        → table' ≡ lent_back (search_fault (length log) (length memo) words n) (table_words One G) table
        → JudgesCostliest words n log table memo a log' table' memo'
    costliest_by_words v t = judges_costliest (leaves_alike same_fault (leaves v (s.lent_log, (t, (s.lent_memo, tt)))))
