-- What is printed of words that are checked and of an input that is judged, from what is found of the words and what is lent.
use Rattle.std.specs.Prelude.{Err, Ok, Result}
use Rattle.grammar.specs.declared.reading.Sizes.{Sizes}
use mathlib.Core.Path.{◌≡◌, refl, sym, ap, ap₂, subst, ◌∙◌}
use mathlib.Core.List.{List}
use mathlib.Core.Option.{Option, none, some}
use Prim.Native.Nat.{ℕ}
use native.Mathlib.Omega.{arith}
use lib.ListN.{length}
use borrow.Author.Tests.{le-leb}
use Rattle.answer.specs.declared.Error.{Error}
use Rattle.answer.specs.declared.Answer.{Answer}
use Rattle.event.specs.Events.{input_of}
use Rattle.event.proofs.Inputs.{input_length}
use Rattle.grammar.specs.Limits.{max_tokens, max_memo_entries, max_table_words}
use Rattle.grammar.specs.Encoding.{grammar_of}
use Rattle.grammar.specs.Reading.{reading}
use Rattle.grammar.proofs.WellRead.{well_read}
use Rattle.lookahead.specs.declared.Lookahead.TheVariants.{One}
use Rattle.families.specs.Analysis.{finding_of}
use Rattle.table.specs.declared.Found.{Found}
use Rattle.table_promises.specs.Analysis.{fault}
use Rattle.table.specs.inner.Analysis.{found_of}
use Rattle.table_promises.specs.Layout.{table_words}
use Rattle.table.proofs.Analyzing.{entries_told}
use Rattle.lending.specs.inner.Lending.{lent_of}
use Rattle.lending.proofs.WordsLaid.{lent_table, lent_nothing}
use Rattle.answer.specs.Faults.{refused_or}
use Rattle.recognizer_promises.specs.Answers.{check_fault, judge_fault, verdict_of}
use Rattle.recognizer_promises.specs.inner.Judging.{memo_fault, found_unless, DescendsWords}
use Rattle.promises.specs.Memory.{lent_back}
use Rattle.recognizer_promises.specs.Memory.{memo_words}
use Rattle.recognizer_promises.proofs.JudgeFaults.{judge_table_long, judged_readable}
use Rattle.recognizer_promises.proofs.Checking.{told, found_fault, check_fault_long, passed_fault, passed_read}
use Rattle.judge_answers.specs.inner.Answers.{answer_of}
use Rattle.judge_answers.proofs.Answered.{answered}
use Rattle.text.specs.Writing.{Put}
use Rattle.sheet_text.specs.Sheet.{check_text}
use Rattle.sheet_text.specs.inner.Limited.{limited_finding}
use Rattle.sheet_text.proofs.Limited.{limited_same}
use Rattle.judgement_text.specs.Judgement.{judgement_text}
use Rattle.report_texts.specs.Texts.{blank_table, checked_table, blank_memo, checked_text, judged_text}
use Rattle.judgement_text.specs.inner.Sizes.{nonterminals_of, token_count}

-- the sizes that are read are within the limits
limited_found : (words : List ℕ) (f : Option Error) → limited_finding (finding_of f (reading words)) ≡ finding_of f (reading words)
limited_found words f = go f (reading words) refl
  where
    go : (f : Option Error) (o : Result Sizes Error) → reading words ≡ o → limited_finding (finding_of f o) ≡ finding_of f o
    go (some x) o r = refl
    go none (Err x) r = refl
    go none (Ok z) r = let k = well_read words z r in limited_same (record { few_nonterminals = k.few_nonterminals; few_terminals = k.few_terminals })

-- what checking finds and lends
module _ (words : List ℕ) (size : length blank_table ≡ max_table_words) {r : Found} (e : r ≡ found_of One words) where
  fault_long : check_fault One max_table_words words ≡ fault One words
  fault_long = check_fault_long One max_table_words words (omega arith)

  found_checked : r.finding ≡ finding_of (check_fault One max_table_words words) (reading words)
  found_checked = (told One words e).finding ∙ ap (λ f. finding_of f (reading words)) (sym fault_long)

  lent_by : {f : Option Error} → fault One words ≡ f → {table : List ℕ} → table ≡ lent_back f (table_words One (grammar_of words)) blank_table
      → table ≡ checked_table words
  lent_by q t = t ∙ ap (λ f. lent_back f (table_words One (grammar_of words)) blank_table) (sym (fault_long ∙ q))

  lent_checked : lent_of One r blank_table ≡ checked_table words
  lent_checked = go r.finding refl
    where
      go : (f : Result Sizes Error) → r.finding ≡ f → lent_of One r blank_table ≡ checked_table words
      go (Ok z) p = let m = entries_told One words e p in lent_by m.faultless (lent_table m blank_table (omega arith) p)
      go (Err x) p = lent_by (found_fault (told One words e) p) (lent_nothing One r blank_table p)

-- there are as many tokens as events
tokens_same : (events : List ℕ) → token_count events ≡ token_count (input_of events)
unfolding token_count
tokens_same events = rw (input_length events)

-- the numbers of nonterminals and tokens are those printed, wherever judging is not refused
found_nonterminals : (words : List ℕ) → fault One words ≡ none → nonterminals_of (found_of One words).finding ≡ (grammar_of words).nonterminals
unfolding found_of
found_nonterminals words e = ap₂ (λ f o. nonterminals_of (finding_of f o)) e (passed_read words (passed_fault One words e))

abbrev judged_nonterminals : List ℕ → Option Error → ℕ
judged_nonterminals words f = nonterminals_of (found_unless f (found_of One words)).finding

module _ (words input memo : List ℕ) (v : Answer) where
  abbrev f : Option Error
  f = judge_fault One max_table_words max_memo_entries words input

  same_sizes : (g : Option Error) → f ≡ g
      → judgement_text (refused_or f v) (judged_nonterminals words f) (token_count input) memo
      ≡ judgement_text (refused_or f v) (grammar_of words).nonterminals (length input) memo
  unfolding judgement_text token_count
  same_sizes (some x) e = rw e
  same_sizes none e =
      let k = judged_readable One words input max_table_words max_memo_entries e in
      let n : judged_nonterminals words f ≡ (grammar_of words).nonterminals = ap (judged_nonterminals words) e ∙ found_nonterminals words k.0 in
      let t : token_count input ≡ length input = rw (le-leb (length input) max_tokens k.1) in
      ap₂ (λ a b. judgement_text (refused_or f v) a b memo) n t

module _ {l m : List ℕ} {k : ℕ} where
  pub put_checked_text : (words : List ℕ) {table : List ℕ} {r : Found} → length blank_table ≡ max_table_words → r ≡ found_of One words
      → table ≡ lent_of One r blank_table → Put l 0 (check_text (limited_finding r.finding) table) m k → Put l 0 (checked_text words) m k
  unfolding checked_text
  put_checked_text words size e t p =
      let f = check_fault One max_table_words words in
      let a = ap limited_finding (found_checked words size e) ∙ limited_found words f in
      subst (λ x. Put l 0 x m k) (ap₂ check_text a (t ∙ lent_checked words size e)) p

  pub put_judged_text : {words memo : List ℕ} (events : List ℕ) {r : Found} {a : Answer} {nonterminals tokens : ℕ} → length blank_memo ≡ max_memo_entries
      → nonterminals ≡ nonterminals_of r.finding → tokens ≡ token_count events → DescendsWords One words (input_of events) blank_memo r memo
      → a ≡ answer_of r.finding (length events) memo
      → Put l 0 (judgement_text a nonterminals tokens memo) m k → Put l 0 (judged_text words (input_of events)) m k
  unfolding judged_text
  put_judged_text {words} {memo} events {r} {a} room n w j v p =
      let input = input_of events in
      let G = grammar_of words in
      let g = judge_fault One max_table_words max_memo_entries words input in
      let same : memo_fault One (length blank_memo) words input ≡ g =
      ap (λ b. memo_fault One b words input) room ∙ sym (judge_table_long One max_table_words max_memo_entries words input (omega arith)) in
      let readable = judged_readable One words input max_table_words max_memo_entries in
      let b : memo ≡ lent_back g (memo_words One G input) blank_memo = j.lent ∙ ap (λ y. lent_back y (memo_words One G input) blank_memo) same in
      let c : r ≡ found_unless g (found_of One words) = j.grammar ∙ ap (λ y. found_unless y (found_of One words)) same in
      let told : a ≡ refused_or g (verdict_of One G input) =
      v ∙ answered One words input blank_memo (length events) g (λ q. ((readable q).0, (readable q).1, sym (input_length events))) c b in
      let n' = n ∙ ap (λ y. nonterminals_of y.finding) c in
      let t = ap₂ (λ x y. judgement_text x (judged_nonterminals words g) (token_count input) y) told b
      ∙ same_sizes words input (lent_back g (memo_words One G input) blank_memo) (verdict_of One G input) g refl in
      subst (λ x. Put l 0 x m k) t (rw (n', w ∙ tokens_same events) at p)
