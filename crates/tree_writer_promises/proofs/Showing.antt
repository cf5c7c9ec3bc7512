-- From the answer of judging to the tree that is written, and the promise of the call.
use Rattle.std.specs.Prelude.{None, Option, Some}
use mathlib.Core.Path.{◌≡◌, refl, sym, ap, ◌∙◌}
use mathlib.Core.Bool.{Bool, true, false}
use mathlib.Core.List.{List, [], ◌∷◌, ◌++◌}
use mathlib.Core.Option.{Option as Maybe, none, some}
use denote.Enum.Declared.{tag_of}
use Prim.Native.Nat.{ℕ, suc, ◌+◌, ◌*◌, ◌≤◌, ◌<◌}
use native.Mathlib.Decide.{dec_lt}
use native.Mathlib.Nat.{mul-le-mul}
use native.Mathlib.Omega.{arith}
use lib.Dec.{T, ltb}
use lib.Arith.{digits_lt}
use lib.ListN.{length, get_or, drop, length-append, length-drop, length-map, get_or-append}
use borrow.Author.Tests.{lt-ltb, le-ltb, ltb-false}
use Rattle.answer.specs.Faults.{fault_if, first_fault, refused_or}
use Rattle.answer.specs.Numbers.{refused, coded, numbers}
use Rattle.answer.specs.declared.Error.{Error}
use Rattle.answer.specs.declared.Error.TheVariants.{TableTooShort, MemoTooShort, TreeTooShort}
use Rattle.answer.specs.declared.Calls.{Calls}
use Rattle.answer.specs.declared.Answer.{Answer}
use Rattle.answer.specs.declared.Answer.TheVariants.{Refused, Passed, Rejected, Accepted}
use Rattle.answer.specs.contracts.Answer.{the_type}
use Rattle.answer.proofs.Apart.{answer_number_lem, refusal_number}
use Rattle.answer.proofs.Faults.{Faultless, none_some, fault_none, each_none}
use Rattle.base.specs.Choice.{choose}
use Rattle.base.proofs.Booleans.{true_T}
use Rattle.grammar.specs.Codes.{uncalled_code}
use Rattle.grammar.specs.Limits.{max_nonterminals, max_tokens, max_places, max_table_words, max_memo_entries}
use Rattle.grammar.specs.Syntax.{Grammar}
use Rattle.grammar.specs.Encoding.{grammar_of}
use Rattle.event.specs.Unknown.{unknown_from, unknown_fault}
use Rattle.event.proofs.Known.{absent_known}
use Rattle.semantics.specs.Valuations.{solution}
use Rattle.base.specs.Strings.{Over}
use Rattle.semantics.specs.Descent.{accepts, descend}
use Rattle.semantics.specs.ComesTo.{Call}
use Rattle.semantics.specs.Calls.{Called}
use Rattle.semantics.specs.Memo.{outcome_code, memo_index}
use Rattle.semantics.specs.Predictive.{Predictive}
use Rattle.semantics.proofs.descent.Called.{called_range}
use Rattle.semantics.proofs.descent.Range.{index_range}
use Rattle.semantics.proofs.Theorems.{theorems}
use Rattle.lookahead.specs.declared.Lookahead.TheVariants.{One}
use Rattle.columns.specs.Columns.{columns}
use Rattle.table_promises.specs.Layout.{table_words}
use Rattle.table_promises.proofs.Words.{table_entry, table_length}
use Rattle.recognizer_promises.specs.Answers.{judge_fault, calls_of, verdict_of}
use Rattle.promises.specs.Memory.{lent_back}
use Rattle.promises.proofs.Leaving.{leaves, leaves_alike, leaves_refused, unrefused}
use Rattle.recognizer_promises.specs.Memory.{memo_words}
use Rattle.recognizer_promises.specs.Properties.{Judgeable, Judges, PassedGrammar}
use Rattle.recognizer_promises.proofs.Checking.{passed_fault, passed_encodes, passed_read, no_clashes, not_left_recursive}
use Rattle.recognizer_promises.proofs.JudgeFaults.{judge_rows, judged_rows, judged_readable, table_short, memo_short}
use Rattle.recognizer_promises.proofs.Judged.{verdict_unrefused, judge_refused}
use Rattle.memo_table.proofs.Entries.{get_d_any}
use Rattle.tree.specs.Writing.{vertex_at, vertex_word, tree_calls, tree_of, tree_words, InTree}
use Rattle.tree.specs.Theorems.{Told}
use Rattle.tree.proofs.Lists.{map_elim}
use Rattle.tree.proofs.Trees.{tree_right, vertex_within}
use Rattle.tree.proofs.Words.{told as word_told}
use Rattle.tree_writer_promises.specs.inner.Writer as writer
use Rattle.tree_writer_promises.specs.inner.Writer.{choice_of, Entries, TreeGiven, TreeDone}
use Rattle.tree_writer_promises.specs.inner.Room.{JudgesWithRoom}
use Rattle.tree_writer_promises.specs.Properties.{tree_fault, words_of, TreeTold, Shows}

-- acceptance, by its tag
pub is_accepted : (a : Answer) → tag_of the_type a ≡ 3 → (c : Calls) × (a ≡ Accepted c)
is_accepted (Refused e) t = absurd (omega arith)
is_accepted Passed t = absurd (omega arith)
is_accepted (Rejected c) t = absurd (omega arith)
is_accepted (Accepted c) t = (c, refl)

-- an answer that is acceptance is no refusal and tells that the descent accepts
accepted_tells : (f : Maybe Error) (b : Bool) (c d : Calls) → Accepted d ≡ refused_or f (choose b (Accepted c) (Rejected c)) → (f ≡ none) × (b ≡ true)
accepted_tells (some e) b c d q = absurd (omega (arith, ap refusal_number q))
accepted_tells none true c d q = (refl, refl)
accepted_tells none false c d q = absurd (omega (arith, answer_number_lem q))

-- and one that is not, tells that the call is refused or the descent rejects
other_tells : (f : Maybe Error) (b : Bool) (c : Calls) → (Accepted c ≡ refused_or f (choose b (Accepted c) (Rejected c)) → ⊥) → (f ≡ none → b ≡ false)
other_tells (some e) b c n q = absurd (none_some (sym q))
other_tells none true c n q = absurd (n refl)
other_tells none false c n q = refl

-- how many words are written: a refusal gives none
abbrev written_or : Maybe Error → ℕ → ℕ
written_or (some e) n = 0
written_or none n = n

alone : (f : Maybe Error) → first_fault (f ∷ []) ≡ f
alone none = refl
alone (some e) = refl

-- the first fault of the call, by what holds, with so many words for the tree
module _ (words input table memo : List ℕ) (room : ℕ) where
  abbrev judged : Maybe Error
  judged = judge_fault One (length table) (length memo) words input

  abbrev showing : Maybe Error
  showing = tree_fault (length table) (length memo) room words input

  first_table : length table < max_table_words → showing ≡ some TableTooShort
  unfolding tree_fault
  first_table h = rw (lt-ltb (length table) max_table_words h) refl

  module _ (long : max_table_words ≤ length table) where
    first_memo : length memo < max_memo_entries → showing ≡ some MemoTooShort
    unfolding tree_fault
    first_memo h = rw (le-ltb (length table) max_table_words long, lt-ltb (length memo) max_memo_entries h) refl

    module _ (noted : max_memo_entries ≤ length memo) where
      first_tree : room < max_memo_entries → showing ≡ some TreeTooShort
      unfolding tree_fault
      first_tree h = rw (le-ltb (length table) max_table_words long, le-ltb (length memo) max_memo_entries noted, lt-ltb room max_memo_entries h) refl

      -- then as judging
      then_judged : max_memo_entries ≤ room → showing ≡ judged
      unfolding tree_fault
      then_judged h =
          rw (le-ltb (length table) max_table_words long, le-ltb (length memo) max_memo_entries noted, le-ltb room max_memo_entries h) (alone judged)

  -- tree memory that is too short is refused, if not for another memory's length
  pub short_refused : room < max_memo_entries → (x : Error) × (showing ≡ some x) × ((coded x).position ≡ 0)
  short_refused h = go (dec_lt (length table) max_table_words) (dec_lt (length memo) max_memo_entries)
    where
      go : Dec (length table < max_table_words) → Dec (length memo < max_memo_entries) → (x : Error) × (showing ≡ some x) × ((coded x).position ≡ 0)
      go (yes t) m = (TableTooShort, first_table t, refl)
      go (no t) (yes m) = (MemoTooShort, first_memo (omega arith) m, refl)
      go (no t) (no m) = (TreeTooShort, first_tree (omega arith) (omega arith) h, refl)

  -- judging, by the lengths
  refused_judged : {x : Error} → showing ≡ some x → (max_memo_entries ≤ room → judged ≡ some x)
      → JudgesWithRoom words input table memo room (Refused x) table memo
  refused_judged e k = record { leaves = leaves_refused e (refl, (refl, tt)); judges = λ h. judge_refused (k h) }

  pub short_table : length table < max_table_words → JudgesWithRoom words input table memo room (Refused TableTooShort) table memo
  short_table h = refused_judged (first_table h) (λ _. table_short One words input table memo h)

  pub short_memo : max_table_words ≤ length table → length memo < max_memo_entries
      → JudgesWithRoom words input table memo room (Refused MemoTooShort) table memo
  short_memo long h = refused_judged (first_memo long h) (λ _. memo_short One words input table memo long h)

  pub judged_with_room : {a : Answer} {table' memo' : List ℕ} → max_table_words ≤ length table → max_memo_entries ≤ length memo → max_memo_entries ≤ room
      → Judges One words input table memo a table' memo' → JudgesWithRoom words input table memo room a table' memo'
  judged_with_room long noted h j = record { leaves = leaves_alike (then_judged long noted h) j.leaves; judges = λ _. j }

-- what judging leaves, and the memory lent for the tree
module _ {words input table memo : List ℕ} (tree : List ℕ) {a : Answer} {table' memo' : List ℕ}
    (j : JudgesWithRoom words input table memo (length tree) a table' memo') where
  abbrev G : Grammar
  G = grammar_of words

  abbrev fault : Maybe Error
  fault = tree_fault (length table) (length memo) (length tree) words input

  -- the promise from the words that are written
  shows : {n : ℕ} {tree' : List ℕ} → n ≡ written_or fault (length (words_of words input)) → tree' ≡ lent_back fault (words_of words input) tree
      → n ≤ max_memo_entries
      → (a ≡ Accepted (calls_of One G input) → TreeTold words input)
      → Shows words input table memo tree (record { answer = a; written = n }) table' memo' tree'
  shows w l f t = record {
    leaves = leaves j.leaves.answer (j.leaves.memory.0, (j.leaves.memory.1.0, (l, tt)));
    unwritten = λ q. w ∙ none_written fault refl q;
    written = λ u. w ∙ ap (λ f. written_or f (length (words_of words input))) (unrefused j.leaves u);
    few = f;
    judges = j.judges;
    tells = t;
  }
    where
      none_written : (g : Maybe Error) → fault ≡ g → (numbers a).verdict ≡ refused → written_or g (length (words_of words input)) ≡ 0
      none_written (some e) h q = refl
      none_written none h q = absurd (verdict_unrefused One G input (j.leaves.answer ∙ ap (λ f. refused_or f (verdict_of One G input)) h) q)

  -- no word is written for an answer that is no acceptance
  pub shows_none : ((c : Calls) → a ≡ Accepted c → ⊥) → Shows words input table memo tree (record { answer = a; written = 0 }) table' memo' tree
  unfolding verdict_of tree_words
  shows_none n =
      let t = other_tells fault (accepts G (choice_of words input) input) (calls_of One G input) (λ e. n (calls_of One G input) (j.leaves.answer ∙ sym e)) in
      shows (count fault t) (back fault t) (omega arith) (λ q. absurd (n (calls_of One G input) q))
    where
      count : (f : Maybe Error) → (f ≡ none → accepts G (choice_of words input) input ≡ false) → 0 ≡ written_or f (length (words_of words input))
      count (some e) h = refl
      count none h = rw (h refl) refl

      back : (f : Maybe Error) → (f ≡ none → accepts G (choice_of words input) input ≡ false) → tree ≡ lent_back f (words_of words input) tree
      back (some e) h = refl
      back none h = rw (h refl) refl

  module _ (c : Calls) (q : a ≡ Accepted c) where
    told : (fault ≡ none) × (accepts G (choice_of words input) input ≡ true)
    unfolding verdict_of
    told = accepted_tells fault (accepts G (choice_of words input) input) (calls_of One G input) c (sym q ∙ j.leaves.answer)

    -- the memories are long enough, and judging has no fault
    abbrev rows : List (Maybe Error)
    rows =
        fault_if (ltb (length table) max_table_words) TableTooShort
        ∷ fault_if (ltb (length memo) max_memo_entries) MemoTooShort
        ∷ fault_if (ltb (length tree) max_memo_entries) TreeTooShort
        ∷ judge_fault One (length table) (length memo) words input
        ∷ []

    faultless : Faultless rows
    unfolding tree_fault
    faultless = each_none rows told.0

    long : max_table_words ≤ length table
    long = ltb-false (length table) max_table_words (fault_none (ltb (length table) max_table_words) TableTooShort faultless.0)

    noted : max_memo_entries ≤ length memo
    noted = ltb-false (length memo) max_memo_entries (fault_none (ltb (length memo) max_memo_entries) MemoTooShort faultless.1.0)

    high : max_memo_entries ≤ length tree
    high = ltb-false (length tree) max_memo_entries (fault_none (ltb (length tree) max_memo_entries) TreeTooShort faultless.1.1.0)

    unfaulted : judge_fault One (length table) (length memo) words input ≡ none
    unfaulted = faultless.1.1.1.0

    passed : PassedGrammar One words
    passed = passed_fault One words (judged_readable One words input (length table) (length memo) unfaulted).0

    short : length input ≤ max_tokens
    short = (judged_readable One words input (length table) (length memo) unfaulted).1

    absent : (u : Option ℕ) → unknown_fault u ≡ none → u ≡ None
    absent None e = refl
    absent (Some i) e = absurd (none_some (sym e))

    tokens : Over G.terminals input
    tokens =
        let rows = each_none (judge_rows One (length table) (length memo) words input)
        (sym (judged_rows One (length table) (length memo) words input) ∙ unfaulted) in
        absent_known G.terminals 0 input (absent (unknown_from G.terminals 0 input) rows.1.1.1.1.0)

    predictive : Predictive G 1
    predictive =
        let k = passed_encodes words passed in
        (theorems.passed G 1 (omega arith) k.formed k.limited.some_nonterminal).0 (not_left_recursive words passed, no_clashes words passed)

    accepted : writer.Accepted words input
    accepted = record {
      sizes = _;
      read = passed_read words passed;
      predictive = predictive;
      tokens = tokens;
      short = short;
      accepted = true_T _ told.1;
    }

    table_is : table' ≡ table_words One G ++ drop (length (table_words One G)) table
    table_is = j.leaves.memory.0 ∙ ap (λ f. lent_back f (table_words One G) table) told.0

    memo_is : memo' ≡ memo_words One G input ++ drop (length (memo_words One G input)) memo
    memo_is = j.leaves.memory.1.0 ∙ ap (λ f. lent_back f (memo_words One G input) memo) told.0

    -- the lent table has the grammar's entries
    entries : Entries G table'
    entries A k named low =
        let i : ℕ = 2 * G.nonterminals + A * columns One G + k in
        let within : A * columns One G + k < G.nonterminals * columns One G = digits_lt named low in
        let b : i < length (table_words One G) = omega (arith, table_length One G) in
        ap (λ l. get_or l i 0) table_is ∙ get_or-append (table_words One G) (drop (length (table_words One G)) table) 0 i b ∙ table_entry One G A k named low

    -- the lent memo table has the outcomes of the calls
    recorded : (x : Call) → Called G (choice_of words input) input x
        → get_or memo' (memo_index input x) 0 ≡ outcome_code (descend G (choice_of words input) input x.nonterminal x.place)
    recorded x k =
        let readable : Judgeable One words input = record { passed = passed; short = short; known = tokens } in
        let m = ((j.judges high).recognizes (record { long_table = long; long_memo = noted }) readable).memo in
        let own = theorems.own_rules G 1 input in
        let range = called_range G (choice_of words input) input predictive.scoped predictive.unrecursive own predictive.start x k in
        let b : memo_index input x < length (memo_words One G input) = omega (arith, index_range G input x range, m.size) in
        ap (λ l. get_or l (memo_index input x) 0) memo_is
        ∙ get_or-append (memo_words One G input) (drop (length (memo_words One G input)) memo) 0 (memo_index input x) b
        ∙ get_d_any (memo_words One G input) (memo_index input x) 0 uncalled_code b ∙ m.called x k

    as_long : (new old : List ℕ) → length old ≤ length (new ++ drop (length new) old)
    as_long new old = omega (arith, length-append new (drop (length new) old), length-drop (length new) old)

    pub show_given : TreeGiven words input table' memo' tree
    show_given = record {
      accepted = accepted;
      entries = entries;
      recorded = recorded;
      long_table = omega (arith, long, ap length table_is, as_long (table_words One G) table);
      long_memo = omega (arith, noted, ap length memo_is, as_long (memo_words One G input) memo);
      long_tree = high;
    }

    -- what the words tell
    tells : TreeTold words input
    unfolding tree_of
    tells = record {
      told = λ y m.
          let e = map_elim (vertex_at G (choice_of words input) input) (tree_calls G (choice_of words input) input) y m in
          let solves = (theorems.one_solution G predictive.scoped predictive.unrecursive input).solves in
          let h = (tree_right G 1 input predictive tokens (solution G input) solves (true_T _ told.1)).written.sound e.0 e.1 in
          rw e.2 (vertex_told predictive tokens short (true_T _ told.1) e.0 h);
      right = λ v solves. tree_right G 1 input predictive tokens v solves (true_T _ told.1);
    }
      where
        few : length G.rules ≤ 128
        few = let k = passed_encodes words passed in omega (arith, k.limited.few_rules)

        vertex_told : (p : Predictive G 1) (over : Over G.terminals input) → length input ≤ max_tokens → (t : T (accepts G (choice_of words input) input))
            → (x : Call) → InTree G (choice_of words input) input x → Told (vertex_at G (choice_of words input) input x)
        vertex_told p over s t x h =
            let solves = (theorems.one_solution G p.scoped p.unrecursive input).solves in
            let low = vertex_within G 1 input p over (solution G input) solves t x h in
            word_told _ (omega (arith, low.0, few)) (omega (arith, low.1)) (omega (arith, low.2))

    -- no more words than there are calls
    few : length (words_of words input) ≤ max_memo_entries
    unfolding tree_words
    few =
        let v = (theorems.one_solution G predictive.scoped predictive.unrecursive input).solves in
        let vertices = (tree_of G (choice_of words input) input).vertices in
        let a = (tells.right (solution G input) v).written.few in
        let b = (theorems.calls_counted G predictive.scoped predictive.unrecursive predictive.start (choice_of words input)
        (theorems.own_rules G 1 input) input).bounded in
        let k = mul-le-mul {n₁ = G.nonterminals} {m₁ = suc (length input)} {n₂ = max_nonterminals} {m₂ = max_places}
        (passed_encodes words passed).limited.few_nonterminals (omega (arith, short)) in
        rw told.1 (omega (arith, length-map vertices vertex_word))

    pub shows_tree : {n : ℕ} {tree' : List ℕ} → TreeDone words input tree n tree'
        → Shows words input table memo tree (record { answer = a; written = n }) table' memo' tree'
    shows_tree {n} {tree'} d = shows
        (d.number ∙ sym (ap (λ f. written_or f (length (words_of words input))) told.0))
        (d.written ∙ ap (λ m. words_of words input ++ drop m tree) d.number ∙ sym (ap (λ f. lent_back f (words_of words input) tree) told.0))
        (omega (arith, d.number, few))
        (λ _. tells)
