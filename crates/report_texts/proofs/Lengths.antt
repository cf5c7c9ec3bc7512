-- Every sheet and every judgement has room in the buffers that the programs lend.
use Rattle.std.specs.Prelude.{Err, Ok, Result}
use Rattle.grammar.specs.declared.reading.Sizes.{Sizes}
use mathlib.Core.Path.{◌≡◌, refl}
use mathlib.Core.Bool.{Bool, true, false}
use mathlib.Core.List.{List, [], ◌∷◌, ◌++◌, map, Memᴰ}
use mathlib.Core.Option.{Option, none, some}
use Prim.Native.Nat.{ℕ, zero, suc, ◌*◌, ◌≤◌, ◌<◌}
use native.Mathlib.Omega.{arith}
use lib.ListN.{length, get_or, drop, replicate, length-append}
use Rattle.answer.specs.declared.Error.{Error}
use Rattle.answer.specs.declared.Answer.TheVariants.{Rejected, Accepted}
use Rattle.base.specs.Choice.{choose}
use Rattle.grammar.specs.Codes.{uncalled_code}
use Rattle.grammar.specs.Limits.{max_memo_entries, max_table_words}
use Rattle.grammar.specs.Syntax.{Grammar}
use Rattle.grammar.specs.Encoding.{grammar_of}
use Rattle.grammar.specs.Reading.{reading}
use Rattle.grammar.proofs.WellRead.{well_read}
use Rattle.base.specs.FiniteSets.{member}
use Rattle.semantics.specs.Choices.{table_choice}
use Rattle.semantics.specs.Descent.{Outcome, Failed, End, descend, accepts}
use Rattle.semantics.specs.ComesTo.{Call}
use Rattle.semantics.specs.Calls.{same_call, all_calls, calls}
use Rattle.semantics.specs.Memo.{outcome_code}
use Rattle.semantics.proofs.descent.Range.{all_range}
use Rattle.lookahead.specs.declared.Lookahead.TheVariants.{One}
use Rattle.semantics.proofs.Theorems.{theorems}
use Rattle.table_promises.specs.Layout.{table_words}
use Rattle.answer.specs.Faults.{refused_or}
use Rattle.recognizer_promises.specs.Answers.{check_fault, judge_fault, calls_of, verdict_of}
use Rattle.promises.specs.Memory.{lent_back}
use Rattle.recognizer_promises.specs.Memory.{memo_word, memo_words}
use Rattle.recognizer_promises.proofs.Checking.{passed_fault, passed_encodes, passed_free}
use Rattle.recognizer_promises.proofs.JudgeFaults.{judged_readable}
use Rattle.refusal_text.proofs.Lines.{refusal_most}
use Rattle.families.specs.Analysis.{finding_of}
use Rattle.sheet_text.specs.Sheet.{check_text}
use Rattle.sheet_text.proofs.Lengths.{sheet_most}
use Rattle.calls_text.specs.Calls.{calls_text}
use Rattle.judgement_text.specs.Judgement.{verdict_line, judgement_text}
use Rattle.calls_text.proofs.Lengths.{calls_most}
use Rattle.judgement_text.proofs.Lengths.{verdict_most}
use Rattle.sheet_text.specs.Room.{sheet_room}
use Rattle.calls_text.specs.Room.{call_room}
use Rattle.judgement_text.specs.Room.{judgement_room}
use Rattle.report_texts.specs.Texts.{blank_table, blank_memo, checked_text, judged_text}

pub checked_short : (words : List ℕ) → length (checked_text words) ≤ sheet_room
unfolding checked_text
checked_short words = go (check_fault One max_table_words words) (reading words) refl
  where
    table : Option Error → List ℕ
    table f = lent_back f (table_words One (grammar_of words)) blank_table

    go : (f : Option Error) (o : Result Sizes Error) → reading words ≡ o → length (check_text (finding_of f o) (table f)) ≤ sheet_room
    go (some e) o r = omega (arith, refusal_most e)
    go none (Err e) r = omega (arith, refusal_most e)
    go none (Ok z) r =
        let k = well_read words z r in sheet_most (table none) (record { few_nonterminals = k.few_nonterminals; few_terminals = k.few_terminals })

-- lists of numbers of at most five digits
abbrev Each : List ℕ → Type 0
Each [] = Unit {0}
Each (x ∷ l) = (x < 100000) × Each l

each_append : (l m : List ℕ) → Each l → Each m → Each (l ++ m)
each_append [] m h k = k
each_append (x ∷ l) m h k = (h.0, each_append l m h.1 k)

each_drop : (n : ℕ) (l : List ℕ) → Each l → Each (drop n l)
each_drop zero l h = h
each_drop (suc n) [] h = h
each_drop (suc n) (x ∷ l) h = each_drop n l h.1

each_replicate : (n x : ℕ) → x < 100000 → Each (replicate n x)
each_replicate zero x h = tt
each_replicate (suc n) x h = (h, each_replicate n x h)

each_map : (f : Call → ℕ) (l : List Call) → ((x : Call) → Memᴰ x l → f x < 100000) → Each (map f l)
each_map f [] h = tt
each_map f (x ∷ l) h = (h x (Memᴰ.head refl), each_map f l (λ y m. h y (Memᴰ.tail m)))

each_at : (l : List ℕ) (k d : ℕ) → d < 100000 → Each l → get_or l k d < 100000
each_at [] k d h e = h
each_at (x ∷ l) zero d h e = e.0
each_at (x ∷ l) (suc k) d h e = each_at l k d h e.1

-- the entries of a memo table are ends within the input, or codes
module _ (words input : List ℕ) (table memo : ℕ) (e : judge_fault One table memo words input ≡ none) where
  abbrev G : Grammar
  G = grammar_of words

  entry_low : (x : Call) → Memᴰ x (all_calls G input) → memo_word One G input x < 100000
  unfolding memo_word outcome_code
  entry_low x m = go (member same_call (calls G (table_choice G 1 input) input) x) (descend G (table_choice G 1 input) input x.nonterminal x.place) refl
    where
      go : (b : Bool) (o : Outcome) → descend G (table_choice G 1 input) input x.nonterminal x.place ≡ o
          → choose b (outcome_code o) uncalled_code < 100000
      go false o q = omega arith
      go true Failed q = omega arith
      go true (End j) q =
          let k = judged_readable One words input table memo e in
          let p = passed_fault One words k.0 in
          let r = passed_encodes words p in
          let within = (all_range G input x).0 m in
          let f = (theorems.descent_ends G r.formed.scoped (passed_free words p) (table_choice G 1 input) (theorems.own_rules G 1 input) input).forward
          x.nonterminal x.place j within.1 q in
          omega (arith, f.1, k.1)

  memo_each : Each (lent_back none (memo_words One G input) blank_memo)
  unfolding memo_words blank_memo
  memo_each =
      let front = map (memo_word One G input) (all_calls G input) in
      let behind = replicate max_memo_entries uncalled_code in
      each_append front (drop (length front) behind) (each_map (memo_word One G input) (all_calls G input) entry_low)
      (each_drop (length front) behind (each_replicate max_memo_entries uncalled_code (omega arith)))

  calls_short : length (calls_text G.nonterminals (length input) (lent_back none (memo_words One G input) blank_memo)) ≤ max_memo_entries * call_room
  calls_short =
      let k = judged_readable One words input table memo e in
      let r = passed_encodes words (passed_fault One words k.0) in
      calls_most G.nonterminals (length input) (lent_back none (memo_words One G input) blank_memo) r.limited.few_nonterminals k.1
      (λ i. each_at (lent_back none (memo_words One G input) blank_memo) i uncalled_code (omega arith) memo_each)

pub judged_short : (words input : List ℕ) → length (judged_text words input) ≤ judgement_room
unfolding judged_text judgement_text verdict_of
judged_short words input = go (judge_fault One max_table_words max_memo_entries words input) refl
  where
    text : Option Error → List ℕ
    text f =
        judgement_text (refused_or f (verdict_of One (grammar_of words) input)) (grammar_of words).nonterminals (length input)
        (lent_back f (memo_words One (grammar_of words) input) blank_memo)

    go : (f : Option Error) → judge_fault One max_table_words max_memo_entries words input ≡ f → length (text f) ≤ judgement_room
    go (some x) e = omega (arith, refusal_most x)
    go none e = verdict (accepts (grammar_of words) (table_choice (grammar_of words) 1 input) input)
        (calls_short words input max_table_words max_memo_entries e)
      where
        made : List ℕ
        made = calls_text (grammar_of words).nonterminals (length input) (lent_back none (memo_words One (grammar_of words) input) blank_memo)

        verdict : (b : Bool) → length made ≤ max_memo_entries * call_room
            → length (judgement_text (choose b (Accepted (calls_of One (grammar_of words) input)) (Rejected (calls_of One (grammar_of words) input)))
            (grammar_of words).nonterminals
            (length input) (lent_back none (memo_words One (grammar_of words) input) blank_memo)) ≤ judgement_room
        verdict true h =
            omega (
              arith,
              length-append (verdict_line "accepted " (calls_of One (grammar_of words) input)) made,
              verdict_most "accepted " (calls_of One (grammar_of words) input),
            )
        verdict false h =
            omega (
              arith,
              length-append (verdict_line "rejected " (calls_of One (grammar_of words) input)) made,
              verdict_most "rejected " (calls_of One (grammar_of words) input),
            )
