-- What judging by tabulation answers and leaves in the lent words, by the first fault; and what the answer means.
use Rattle.std.specs.Prelude.{Err, None, Ok, Option, Result, Some}
use mathlib.Core.Path.{◌≡◌, refl, sym, ap, ◌∙◌}
use mathlib.Core.Bool.{Bool, true, false}
use mathlib.Core.List.{List, [], ◌∷◌, ◌++◌}
use mathlib.Core.Logic.{◌↔◌}
use mathlib.Core.Option.{Option as Maybe, none, some}
use Prim.Native.Nat.{ℕ, ◌≤◌, ◌<◌}
use native.Mathlib.Omega.{arith}
use lib.Dec.{ltb}
use lib.ListN.{length, get_or, drop, get_or-append}
use borrow.Author.Tests.{lt-ltb, le-ltb, ltb-false}
use Rattle.answer.specs.declared.Error.{Error}
use Rattle.answer.specs.declared.Error.TheVariants.{InputTooLong, SpansTooShort}
use Rattle.answer.specs.declared.Answer.{Answer}
use Rattle.answer.specs.declared.Answer.TheVariants.{Accepted, Rejected}
use Rattle.answer.specs.declared.Answer.TheVariants as answer
use Rattle.answer.specs.Numbers.{Numbers, coded, numbers}
use Rattle.answer.specs.Faults.{first_fault, refused_or, told_or}
use Rattle.answer.proofs.Faults.{Faultless, none_some, fault_none, each_none}
use Rattle.event.specs.Unknown.{unknown_from, unknown_fault}
use Rattle.event.proofs.Known.{known_absent, absent_known, token_below}
use Rattle.grammar.specs.Limits.{max_words, max_nonterminals, max_tabular_tokens, max_span_words}
use Rattle.grammar.specs.Syntax.{Grammar}
use Rattle.grammar.specs.Encoding.{grammar_of}
use Rattle.grammar.specs.Reading.{reading}
use Rattle.grammar.specs.declared.reading.Sizes.{Sizes}
use Rattle.grammar.proofs.WellRead.{well_read}
use Rattle.encoding.specs.Encode.{Encodes}
use Rattle.encoding.proofs.Decoding.{encodes_grammar}
use Rattle.encoding.proofs.Faithful.{faithful}
use Rattle.encoding.proofs.ReadingEncodes.{encodes_read, read_encodes}
use Rattle.lookahead.specs.declared.Lookahead.TheVariants.{One}
use Rattle.lookahead.specs.Elements.{has}
use Rattle.lookahead.proofs.Weights.{has_total}
use Rattle.semantics.specs.Valuations.{Valuation, Solves, solution}
use Rattle.semantics.specs.LeftRecursion.{NoLeftRecursion, lowest_left_recursive}
use Rattle.semantics.specs.Productive.{lowest_unproductive}
use Rattle.semantics.proofs.Theorems.{theorems}
use Rattle.families.specs.Analysis.{sets_faults, sets_fault}
use Rattle.families.specs.inner.Analysis.{sets_if, first_families_of, families_of}
use Rattle.base.specs.Lists.{listed}
use Rattle.families.specs.inner.Sets.{reach_number}
use Rattle.families.proofs.Findings.{FoundFirsts, families_told, families_refused}
use Rattle.promises.specs.Inputs.{input_faults_to}
use Rattle.promises.specs.inner.Inputs.{with_input_to}
use Rattle.promises.proofs.Inputs.{PassedWith, RefusedWith, by_grammar, by_faults, with_passed, with_refused}
use Rattle.promises.proofs.Inputs.{RoomRefused, too_short, enough, room_passed, room_refused}
use Rattle.promises.specs.Leaving.{lent, Leaves}
use Rattle.promises.specs.Directions.{DirectionsIgnored}
use Rattle.promises.proofs.Memory.{faultless_lends}
use Rattle.promises.proofs.Leaving.{leaves, leaves_alike, leaves_refused}
use Rattle.promises.proofs.Directions.{pair_same, directions_ignored}
use Rattle.promises.proofs.Verdicts.{verdict_tells}
use Rattle.promises.proofs.Places.{Tells, Other, judge_tells, none_left, fault_by, lowest_recursive, lowest_unproductive_lem}
use Rattle.tabular_promises.specs.Spans.{span_index, span_words, solution_word}
use Rattle.tabular_promises.specs.Answers.{tabular_fault, no_calls, told, tabular_verdict, tabular_words}
use Rattle.tabular_promises.specs.inner.Judging.{TabulateGiven, Tabulated, FoundGiven}
use Rattle.tabular_promises.specs.Properties.{FreeGrammar, Tabulates, TabularJudges}
use Rattle.tabular_promises.proofs.TabularFaults.{spans_short, fault_long, no_fault, fault_other}
use Rattle.tabular_promises.proofs.Writing.{index_low, words_long, words_at}

-- a grammar that is taken is the one that is read, so the promises are about that
module _ (words : List ℕ) (p : FreeGrammar words) where
  same_grammar : p.grammar ≡ grammar_of words
  same_grammar = sym (encodes_grammar words p.grammar p.encodes)

  free_encodes : Encodes words (grammar_of words)
  free_encodes = rw (← same_grammar) p.encodes

  free_free : NoLeftRecursion (grammar_of words)
  free_free = rw (← same_grammar) p.free

  free_faultless : sets_fault One words ≡ none
  unfolding sets_fault
  free_faultless =
      rw (
        encodes_read words (grammar_of words) p.short free_encodes,
        (theorems.left_recursion_decided (grammar_of words) free_encodes.formed.scoped).absent.1 free_free,
        (theorems.productive_decided (grammar_of words) 1).absent.1 (rw (← same_grammar) p.productive),
      )

none_unknown : (u : Option ℕ) → unknown_fault u ≡ none → u ≡ None
none_unknown None q = refl
none_unknown (Some i) q = absurd (none_some (sym q))

-- without a fault there is no left recursion
faultless_free : (words : List ℕ) (z : Sizes) → reading words ≡ Ok z → sets_fault One words ≡ none → NoLeftRecursion (grammar_of words)
unfolding sets_fault
faultless_free words z r e =
    (theorems.left_recursion_decided (grammar_of words) (read_encodes words z r).1.formed.scoped).absent.0
    (none_left (lowest_left_recursive (grammar_of words)) (each_none (sets_faults One words) e).1.0)

-- the fault of a grammar that has been read
fault_encoded : (words : List ℕ) (G : Grammar) → length words ≤ max_words → Encodes words G
    → sets_fault One words ≡ fault_by [] (lowest_left_recursive G) (lowest_unproductive G 1)
unfolding sets_fault
fault_encoded words G short e = rw (encodes_read words G short e, encodes_grammar words G e)

-- the lent words of the spans
module _ (words input before : List ℕ) {after : List ℕ}
    (m : after ≡ tabular_words (grammar_of words) input ++ drop (length (tabular_words (grammar_of words) input)) before) where
  word_of : (i j : ℕ) → i ≤ j → j ≤ length input → get_or after (span_index (length input) i j) 0 ≡ solution_word (grammar_of words) input i j
  unfolding tabular_words
  word_of i j h k =
      let G = grammar_of words in
      rw m (get_or-append (span_words (length input) (solution_word G input)) _ 0 (span_index (length input) i j)
      (omega (arith, index_low (length input) i j h k, words_long (length input) (solution_word G input)))
      ∙ words_at (length input) (solution_word G input) i j h k)

  bit_of : (i j : ℕ) → i ≤ j → j ≤ length input → (A : ℕ) → A < (grammar_of words).nonterminals
      → has (get_or after (span_index (length input) i j) 0) A ≡ solution (grammar_of words) input A i j
  unfolding solution_word
  bit_of i j h k A a =
      rw (
        word_of i j h k,
        has_total (grammar_of words).nonterminals (λ B. solution (grammar_of words) input B i j) A,
        lt-ltb A (grammar_of words).nonterminals a,
      )

  other_of : (i j : ℕ) → i ≤ j → j ≤ length input → (A : ℕ) → (grammar_of words).nonterminals ≤ A
      → has (get_or after (span_index (length input) i j) 0) A ≡ false
  unfolding solution_word
  other_of i j h k A a =
      rw (
        word_of i j h k,
        has_total (grammar_of words).nonterminals (λ B. solution (grammar_of words) input B i j) A,
        le-ltb A (grammar_of words).nonterminals a,
      )

-- what the answer and the words mean
module _ (words input before : List ℕ) {after : List ℕ} {r : Answer} (p : FreeGrammar words)
    (a : r ≡ tabular_verdict (grammar_of words) input)
    (m : after ≡ tabular_words (grammar_of words) input ++ drop (length (tabular_words (grammar_of words) input)) before) where
  abbrev whole : Valuation → Bool
  whole v = v 0 0 (length input)

  start : 0 < (grammar_of words).nonterminals
  start = (free_encodes words p).limited.some_nonterminal

  one : (v : Valuation) → Solves (grammar_of words) input v → (A i j : ℕ) → A < (grammar_of words).nonterminals → i ≤ j → j ≤ length input
      → v A i j ≡ solution (grammar_of words) input A i j
  one v s A i j b ij jn = (theorems.one_solution (grammar_of words) (free_encodes words p).formed.scoped (free_free words p) input).only v s A i j b ij jn

  tells : (v : Valuation) → Solves (grammar_of words) input v → ((r ≡ Accepted no_calls) ↔ (whole v ≡ true)) × ((r ≡ Rejected no_calls) ↔ (whole v ≡ false))
  unfolding tabular_verdict
  tells v s = verdict_tells {r = r} (whole v) no_calls (a ∙ ap told (sym (one v s 0 0 (length input) start (omega arith) (omega arith))))

  tabulates : Tabulates (grammar_of words) input r after
  tabulates = record {
    one_solution = theorems.one_solution (grammar_of words) (free_encodes words p).formed.scoped (free_free words p) input;
    accepted = λ v s. (tells v s).0;
    rejected = λ v s. (tells v s).1;
    span = λ v s i j ij jn A b. bit_of words input before m i j ij jn A b ∙ sym (one v s A i j b ij jn);
    others = other_of words input before m;
  }

-- a code that no row tells is not told, nor is it that of a verdict
never_told : (f : Maybe Error) (b : Bool) (r : Answer) (c : ℕ) → 0 < c → ((e : Error) → f ≡ some e → (coded e).code ≡ c → ⊥)
    → numbers r ≡ told_or f (numbers (told b)) → (numbers r).code ≡ c → ⊥
never_told (some x) b r c positive h e q = h x refl (sym (ap (λ (n : Numbers). n.code) e) ∙ q)
never_told none true r c positive h e q = absurd (omega (arith, ap (λ (n : Numbers). n.code) e, q))
never_told none false r c positive h e q = absurd (omega (arith, ap (λ (n : Numbers). n.code) e, q))

-- the promise from the answer and the memory
judges : {words input spans spans' : List ℕ} {r : Answer}
    → Leaves (tabular_fault (length spans) words input) (tabular_verdict (grammar_of words) input) r
    (lent spans (tabular_words (grammar_of words) input) spans' ∷ [])
    → TabularJudges words input spans r spans'
unfolding tabular_verdict
judges {words} {input} {spans} {spans'} {r} l = record {
  faithful = faithful words;
  leaves = l;
  places = λ room short G e. record {
    recursive = lowest_recursive [] none_behind One G e.formed.scoped (tells room short G e);
    unproductive = lowest_unproductive_lem [] none_behind One G e.formed.scoped (tells room short G e);
  };
  never =
      let why = tabular_fault (length spans) words input in
      let b = solution (grammar_of words) input 0 0 (length input) in
      let o = fault_other (length spans) words input in (
        never_told why b r 1 (omega arith) (λ e q. (o e q).not_table) l.told,
        never_told why b r 2 (omega arith) (λ e q. (o e q).not_memo) l.told,
        never_told why b r 9 (omega arith) (λ e q. (o e q).not_entry) l.told,
      );
  tabulates = λ room h.
      let f = no_fault words input spans room (free_faultless words h.taken) h.short (known_absent (grammar_of words).terminals 0 input h.known) in
      tabulates words input spans h.taken (l.answer ∙ ap (λ y. refused_or y (tabular_verdict (grammar_of words) input)) f)
      (l.memory.0 ∙ faultless_lends (tabular_words (grammar_of words) input) spans f);
}
  where
    -- behind 8 and 13 no fault of the grammar is reported
    none_behind : (e : Error) → first_fault [] ≡ some e → Other e
    none_behind e q = absurd (none_some q)

    -- where the lent words are enough, the answer tells the grammar's fault
    tells : max_span_words ≤ length spans → length words ≤ max_words → (G : Grammar) → Encodes words G
        → Tells (fault_by [] (lowest_left_recursive G) (lowest_unproductive G 1)) r
    tells room short G e =
        judge_tells _ (ltb max_tabular_tokens (length input)) (unknown_from (grammar_of words).terminals 0 input)
        (solution (grammar_of words) input 0 0 (length input)) no_calls
        (l.answer ∙ ap (λ y. refused_or y (tabular_verdict (grammar_of words) input)) (fault_long words input spans room (fault_encoded words G short e)))

pub judge_refused : {words input before : List ℕ} {x : Error} → tabular_fault (length before) words input ≡ some x
    → TabularJudges words input before (answer.Refused x) before
judge_refused f = judges (leaves_refused f (refl, tt))

judge_faulty : (words input before : List ℕ) {x : Error} → max_span_words ≤ length before → sets_fault One words ≡ some x
    → TabularJudges words input before (answer.Refused x) before
judge_faulty words input before room f = judge_refused (fault_long words input before room f)

-- by what is found of the grammar and the input
module _ {words input spans starts reaches : List ℕ} {f : Result Sizes Error} (g : FoundGiven words f starts reaches input spans) where
  abbrev faults : ℕ → List (Maybe Error)
  faults n = input_faults_to max_tabular_tokens n input

  abbrev behind : Result Sizes Error
  behind = with_input_to max_tabular_tokens g.families.finding input

  -- of a grammar that passed: its sizes, no fault, and what its nonterminals left-reach
  module _ {z : Sizes} (p : g.families.finding ≡ Ok z) where
    told_sets : FoundFirsts One words z g.families
    told_sets = (families_told One words g.found p).firsts

    terminals : z.terminals ≡ (grammar_of words).terminals
    terminals = (well_read words z told_sets.read).terminals

    found_reaches : reaches ≡ listed max_nonterminals (reach_number (grammar_of words))
    unfolding families_of first_families_of
    found_reaches =
        g.reached ∙ ap (λ x. x.reaches) g.found ∙ ap (λ o. sets_if o (listed max_nonterminals (reach_number (grammar_of words)))) told_sets.faultless

    by_input : max_span_words ≤ length spans → {o : Maybe Error} → first_fault (faults z.terminals) ≡ o → tabular_fault (length spans) words input ≡ o
    by_input room e = fault_long words input spans room told_sets.faultless ∙ rw (← terminals) e

  pub judge_found_refused : {x : Error} → f ≡ Err x → TabularJudges words input spans (answer.Refused x) spans
  judge_found_refused {x} q = by_room (room_refused (length spans) max_span_words SpansTooShort behind (sym g.finding ∙ q))
    where
      go : max_span_words ≤ length spans → RefusedWith g.families.finding faults x → TabularJudges words input spans (answer.Refused x) spans
      go room (by_grammar h) = judge_faulty words input spans room (families_refused One words g.found h)
      go room (by_faults z h i) = judge_refused (by_input h room i)

      by_room : RoomRefused (length spans) max_span_words SpansTooShort behind x → TabularJudges words input spans (answer.Refused x) spans
      by_room (too_short h s) = judge_refused (spans_short words input spans h ∙ ap some s)
      by_room (enough room i) = go room (with_refused g.families.finding faults i)

  module _ {z : Sizes} (q : f ≡ Ok z) where
    long : (max_span_words ≤ length spans) × (behind ≡ Ok z)
    long = room_passed (length spans) max_span_words SpansTooShort behind (sym g.finding ∙ q)

    both : PassedWith g.families.finding faults z
    both = with_passed g.families.finding faults long.1

    unfaulty : Faultless (faults z.terminals)
    unfaulty = each_none (faults z.terminals) both.faultless

    pub tabulate_given : TabulateGiven words starts z reaches input spans
    tabulate_given =
        let read = (told_sets both.grammar).read in
        let k = well_read words z read in
        let known = absent_known z.terminals 0 input (none_unknown (unknown_from z.terminals 0 input) unfaulty.1.0) in
        record {
          given = record {
            rules = record { read = read; begins = g.begins ∙ (told_sets both.grammar).begins };
            free = faultless_free words z read (told_sets both.grammar).faultless;
            reached = found_reaches both.grammar;
            input = record {
              short = ltb-false max_tabular_tokens (length input) (fault_none (ltb max_tabular_tokens (length input)) InputTooLong unfaulty.0);
              terminals = λ i l. omega (arith, token_below z.terminals input known i l, k.few_terminals);
            };
          };
          room = long.0;
        }

    pub judge_done : {after : List ℕ} {r : Answer} → Tabulated words input spans r after → TabularJudges words input spans r after
    unfolding tabular_words
    judge_done {after} {r} t =
        let G = grammar_of words in
        judges (leaves_alike (by_input both.grammar long.0 both.faultless) (leaves t.verdict (
          t.memory
              ∙ ap (λ (n : ℕ). span_words (length input) (solution_word G input) ++ drop n spans) (sym (words_long (length input) (solution_word G input))),
          tt,
        )))

-- what judging leaves is settled by the input, so directions change nothing: the answer and the words of the spans
module _ (words spans : List ℕ) where
  abbrev Left : Type 0
  Left = Answer × List ℕ

  abbrev Promise : List ℕ → Left → Type 0
  Promise input l = TabularJudges words input spans l.0 l.1

  settled : (w : List ℕ) (l m : Left) → Promise w l → Promise w m → l ≡ m
  settled w l m p q = pair_same (p.leaves.answer ∙ sym q.leaves.answer) (p.leaves.memory.0 ∙ sym q.leaves.memory.0)

  pub tabular_ignores : DirectionsIgnored Promise
  tabular_ignores = directions_ignored Promise settled
