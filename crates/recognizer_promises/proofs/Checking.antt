-- What checking answers and leaves in the lent table, by what is found of the grammar; and what it means to pass.
use Rattle.std.specs.Prelude.{None, Option, Some, Err, Ok, Result}
use mathlib.Core.Path.{◌≡◌, refl, sym, ap, ◌∙◌}
use mathlib.Core.List.Memᴰ
use mathlib.Core.List.{List, [], ◌∷◌, ◌++◌}
use mathlib.Core.Option.{Option as Maybe, none, some}
use Prim.Native.Nat.{ℕ, ◌≤◌, ◌<◌}
use lib.ListN.{length, drop}
use borrow.Author.Tests.{lt-ltb, le-ltb}
use Rattle.answer.proofs.Apart.{refused_ne_passed}
use Rattle.answer.specs.declared.Error.{Error}
use Rattle.answer.specs.Numbers.{coded}
use Rattle.answer.specs.Faults.{refused_or}
use Rattle.answer.proofs.Faults.{none_some, each_none}
use Rattle.answer.specs.declared.Answer.{Answer}
use Rattle.answer.specs.declared.Answer.TheVariants.{Refused, Passed}
use Rattle.grammar.specs.Syntax.{Grammar}
use Rattle.grammar.specs.Encoding.{grammar_of}
use Rattle.grammar.specs.inner.Starts.{rule_starts}
use Rattle.grammar.specs.Reading.{reading}
use Rattle.grammar.specs.declared.reading.Sizes.{Sizes}
use Rattle.encoding.specs.Encode.{sizes_of, Encodes}
use Rattle.encoding.proofs.Decoding.{encodes_grammar}
use Rattle.encoding.proofs.ReadingEncodes.{read_encodes, encodes_read}
use Rattle.lookahead.specs.declared.Lookahead.{Lookahead}
use Rattle.lookahead.specs.declared.Lookahead.TheVariants.{One, Two}
use Rattle.lookahead.specs.Lookaheads.{tokens}
use Rattle.lookahead.specs.inner.Lookaheads.{alphabet}
use Rattle.lookahead.proofs.Strings.{some_token}
use Rattle.admission.specs.Admission.{Fits, admission}
use Rattle.admission.proofs.Admitted.{admitted}
use Rattle.semantics.specs.LeftRecursion.{NoLeftRecursion, lowest_left_recursive}
use Rattle.semantics.specs.Productive.{lowest_unproductive}
use Rattle.semantics.specs.Claims.{clashes}
use Rattle.semantics.specs.Predictive.{Predictive}
use Rattle.semantics.proofs.Theorems.{theorems}
use Rattle.families.proofs.FewTerminals.{few_terminals_lem}
use Rattle.table.specs.declared.Found.{Found}
use Rattle.table_promises.specs.Layout.{table_words, table_room}
use Rattle.table.specs.inner.Entries.{entries_of}
use Rattle.families.specs.Analysis.{sets_fault, finding_of}
use Rattle.families.specs.inner.Analysis.{starts_if}
use Rattle.families.proofs.Findings.{read_some, told_passed, told_refused}
use Rattle.table_promises.specs.Analysis.{clash_fault, grammar_faults, fault}
use Rattle.table.specs.inner.Analysis.{entries_if, found_of}
use Rattle.table_promises.specs.Conflicts.{first_clash}
use Rattle.table_promises.proofs.FirstClash.{clash_absent}
use Rattle.table_promises.proofs.GrammarFaults.{none_sets}
use Rattle.promises.specs.Leaving.{lent, Leaves}
use Rattle.promises.proofs.Leaving.{leaves, leaves_alike, leaves_refused}
use Rattle.recognizer_promises.specs.Answers.{table_too_short, check_fault}
use Rattle.recognizer_promises.specs.inner.Judging.{EntriesFound}
use Rattle.recognizer_promises.specs.Properties.{PassedGrammar, Checks}
use Rattle.promises.proofs.Places.{check_tells, none_left, none_unproductive}
use Rattle.recognizer_promises.proofs.Words.{least_sets, clash_none, understood}
use Rattle.recognizer_promises.proofs.Places.{encodes_taken, fault_encoded, places}

none_clash : (k : Lookahead) (r : Option (ℕ × ℕ)) → clash_fault k r ≡ none → r ≡ None
none_clash k None e = refl
none_clash k (Some (A, c)) e = absurd (none_some (sym e))

-- a grammar that fits has no more terminals than its lookahead allows
pub fits_few : (k : Lookahead) {words : List ℕ} (G : Grammar) → Encodes words G → Fits k G → G.terminals ≤ alphabet k
fits_few One G e f = e.limited.few_terminals
fits_few Two G e f = f.0

-- a grammar without a fault passes
pub passed_fault : (k : Lookahead) (words : List ℕ) → fault k words ≡ none → PassedGrammar k words
unfolding fault
passed_fault k words e =
    let G = grammar_of words in
    let n = tokens k in
    let f = each_none (grammar_faults k words) e in
    let z = read_some (admission k words) f.0 in
    let t = (admitted k words z.0).0 z.1 in
    let r = read_encodes words z.0 t.0 in
    let none-clashes : clashes G n ≡ [] =
    (clash_absent k G (few_terminals_lem k words z.1)).0 (none_clash k (first_clash k G) f.1.1.1.0) in
    record {
      short = r.0;
      grammar = G;
      encodes = r.1;
      fits = t.1;
      free = (theorems.left_recursion_decided G r.1.formed.scoped).absent.0 (none_left (lowest_left_recursive G) f.1.0);
      productive = (theorems.productive_decided G n).absent.0 (none_unproductive (lowest_unproductive G n) f.1.1.0);
      clashless = λ A x c. Memᴰ.not-nil (rw none-clashes at (((least_sets G r.1 n).clash A x).1 c));
    }

-- a grammar that passes is the one that is read, so its promises are about that
module _ {k : Lookahead} (words : List ℕ) (p : PassedGrammar k words) where
  abbrev n : ℕ
  n = tokens k

  same_grammar : p.grammar ≡ grammar_of words
  same_grammar = sym (encodes_grammar words p.grammar p.encodes)

  pub passed_encodes : Encodes words (grammar_of words)
  passed_encodes = rw (← same_grammar) p.encodes

  passed_fits : Fits k (grammar_of words)
  passed_fits = rw (← same_grammar) p.fits

  pub passed_free : NoLeftRecursion (grammar_of words)
  passed_free = rw (← same_grammar) p.free

  pub no_clashes : clashes (grammar_of words) n ≡ []
  no_clashes = rw (← same_grammar) (clash_none p.grammar p.encodes k p.clashless)

  pub not_left_recursive : lowest_left_recursive (grammar_of words) ≡ none
  not_left_recursive = (theorems.left_recursion_decided (grammar_of words) passed_encodes.formed.scoped).absent.1 passed_free

  pub passed_predictive : Predictive (grammar_of words) n
  passed_predictive =
      (theorems.passed (grammar_of words) n (some_token k) passed_encodes.formed passed_encodes.limited.some_nonterminal).0
      (not_left_recursive, no_clashes)

  pub all_productive : lowest_unproductive (grammar_of words) n ≡ none
  all_productive = (theorems.productive_decided (grammar_of words) n).absent.1 (rw (← same_grammar) p.productive)

  pub passed_read : reading words ≡ Ok (sizes_of (grammar_of words))
  passed_read = encodes_read words (grammar_of words) p.short passed_encodes

  -- and has no fault
  pub fault_passed : fault k words ≡ none
  unfolding fault
  fault_passed =
      let few = fits_few k (grammar_of words) passed_encodes passed_fits in
      rw (
        encodes_taken k words (grammar_of words) p.short passed_encodes passed_fits,
        not_left_recursive,
        all_productive,
        (clash_absent k (grammar_of words) few).1 no_clashes,
      )

-- with a table that is long enough only the grammar's faults are left
pub check_fault_long : (k : Lookahead) (n : ℕ) (words : List ℕ) → table_room k ≤ n → check_fault k n words ≡ fault k words
unfolding check_fault fault
check_fault_long k n words h = rw (le-ltb n (table_room k) h)

refused_passed : (f : Maybe Error) → refused_or f Passed ≡ Passed → f ≡ none
refused_passed none e = refl
refused_passed (some x) e = absurd (refused_ne_passed e)

-- a table that is too short is reported as 1, and with two tokens of lookahead as 17
pub short_told : ((coded (table_too_short One)).code ≡ 1) × ((coded (table_too_short Two)).code ≡ 17)
short_told = (refl, refl)

short_first : (k : Lookahead) (table : ℕ) (words : List ℕ) → table < table_room k → check_fault k table words ≡ some (table_too_short k)
unfolding check_fault
short_first k table words h = rw (lt-ltb table (table_room k) h)

module _ (k : Lookahead) where
  -- the promise from the answer and the table
  checks : {words table table' : List ℕ} {r : Answer}
      → Leaves (check_fault k (length table) words) Passed r (lent table (table_words k (grammar_of words)) table' ∷ []) → Checks k words table r table'
  checks {words} {table} l = record {
    understood = understood k words;
    leaves = l;
    passed = λ long.
        let f = check_fault_long k (length table) words long in (
          λ p. passed_fault k words (sym f ∙ refused_passed (check_fault k (length table) words) (sym l.answer ∙ p)),
          λ p. l.answer ∙ rw (f, fault_passed words p),
        );
    places = λ long short G e fits.
        places k G e.formed.scoped (fits_few k G e fits)
        (check_tells _ (l.answer ∙ ap (λ f. refused_or f Passed) (check_fault_long k (length table) words long ∙ fault_encoded k words G short e fits)));
  }

  pub check_short : {words table : List ℕ} → length table < table_room k → Checks k words table (Refused (table_too_short k)) table
  check_short {words} {table} h = checks (leaves_refused first (refl, tt))
    where
      first : check_fault k (length table) words ≡ some (table_too_short k)
      first = short_first k (length table) words h

-- what is found of an encoded grammar tells
pub record Told (k : Lookahead) (words : List ℕ) (f : Result Sizes Error) (starts entries : List ℕ) : Type 0 where
  pub finding : f ≡ finding_of (fault k words) (admission k words)
  pub begins : starts ≡ starts_if (sets_fault k words) (rule_starts words)
  pub entered : entries ≡ entries_if (fault k words) (entries_of k (grammar_of words))

pub told : (k : Lookahead) (words : List ℕ) {r : Found} → r ≡ found_of k words → Told k words r.finding r.starts r.entries
unfolding found_of
told k words e = record { finding = ap (λ y. y.finding) e; begins = ap (λ y. y.starts) e; entered = ap (λ y. y.entries) e }

module _ {k : Lookahead} {words : List ℕ} {f : Result Sizes Error} {starts entries : List ℕ} (t : Told k words f starts entries) where
  -- where no fault is found, the sizes, the starts of the rules and the entries are
  pub found : {z : Sizes} → f ≡ Ok z → EntriesFound k words z starts entries
  found q =
      let m = told_passed (fault k words) (admission k words) (sym t.finding ∙ q) in
      record {
        taken = m.1;
        faultless = m.0;
        begins = t.begins ∙ ap (λ y. starts_if y (rule_starts words)) (none_sets k words m.0);
        entered = t.entered ∙ ap (λ y. entries_if y (entries_of k (grammar_of words))) m.0;
      }

  pub found_fault : {x : Error} → f ≡ Err x → fault k words ≡ some x
  unfolding fault
  found_fault q = told_refused (fault k words) (admission k words) (λ y e. rw e) (sym t.finding ∙ q)

pub check_passed : {k : Lookahead} (words table : List ℕ) → table_room k ≤ length table → fault k words ≡ none → {table' : List ℕ}
    → table' ≡ table_words k (grammar_of words) ++ drop (length (table_words k (grammar_of words))) table → Checks k words table Passed table'
check_passed {k} words table long f l = checks k (leaves_alike (check_fault_long k (length table) words long ∙ f) (leaves refl (l, tt)))

pub check_refused : {k : Lookahead} (words table : List ℕ) → table_room k ≤ length table → {x : Error} → fault k words ≡ some x
    → Checks k words table (Refused x) table
check_refused {k} words table long f = checks k (leaves_refused (check_fault_long k (length table) words long ∙ f) (refl, tt))

-- a grammar without a fault is found to pass
pub found_passed : (k : Lookahead) (words : List ℕ) → fault k words ≡ none → (z : Sizes) × ((found_of k words).finding ≡ Ok z)
unfolding fault found_of
found_passed k words e =
    let z = read_some (admission k words) (each_none (grammar_faults k words) e).0 in
    (z.0, ap (λ o. finding_of o (admission k words)) e ∙ ap (finding_of none) z.1)
