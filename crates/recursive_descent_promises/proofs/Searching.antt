-- The search for the costliest input: the descents on all inputs go by the same choices in the same memory, and the one on the costliest is the last.
use Rattle.std.specs.Prelude.{Err, Ok, Result}
use mathlib.Core.Path.{◌≡◌, refl, sym, ap, ◌∙◌}
use mathlib.Core.Bool.{Bool, true, false}
use mathlib.Core.List.{List, ◌++◌}
use Prim.Native.Nat.{ℕ, suc, ◌+◌, ◌-◌, ◌*◌, ◌%◌, ◌^◌, ◌≤◌, ◌<◌, min}
use native.Mathlib.Nat.{mul-le-mul}
use native.Mathlib.Numerals.{add-one}
use native.Mathlib.Omega.{arith}
use lib.Dec.{ltb}
use lib.ListN.{length, take, drop}
use lib.Seq.{length-take-le}
use borrow.Author.Tests.{ltb-true, ltb-false}
use Rattle.base.specs.Choice.{choose}
use Rattle.grammar.specs.Limits.{max_nonterminals, max_tokens, max_places}
use Rattle.grammar.specs.Syntax.{Grammar}
use Rattle.grammar.specs.Encoding.{grammar_of}
use Rattle.grammar.specs.inner.WellRead.{WellRead}
use Rattle.grammar.specs.declared.reading.Sizes.{Sizes}
use Rattle.grammar.proofs.WellRead.{well_read}
use Rattle.lookahead.specs.declared.Lookahead.TheVariants.{One}
use Rattle.families.proofs.FewTerminals.{admitted_read}
use Rattle.base.specs.Strings.{Over}
use Rattle.event.specs.Events.{input_of}
use Rattle.event.proofs.Inputs.{input_own}
use Rattle.inputs.specs.Inputs.{max_inputs}
use Rattle.inputs.specs.inner.Inputs.{input_at, no_trials, tried_next}
use Rattle.inputs.proofs.Numbers.{at_long, at_over}
use Rattle.inputs.proofs.Counting.{count_exact}
use Rattle.inputs.proofs.Searching.{Searched, searched_none, searched_more, searched_less, searched_all}
use Rattle.inputs.proofs.Greatest.{costliest_of}
use Rattle.inputs.specs.declared.Trials.{Trials}
use Rattle.memo_table.specs.inner.Tally.{recorded_below}
use Rattle.memo_table.proofs.Tallying.{count_recorded}
use Rattle.descent_choices.specs.inner.Choices.{memo_entries}
use Rattle.descent_choices.proofs.ChoiceRows.{entries_fit}
use Rattle.descent_tokens.specs.inner.Tokens.{tokens_of}
use Rattle.descent_preparation.specs.declared.PreparedSearch.{PreparedSearch}
use Rattle.descent_preparation.specs.inner.Preparation.{sizes_of, SearchPrepared, TrialPrepared}
use Rattle.recognizer_promises.specs.Memory.{memo_words}
use Rattle.recognizer_promises.specs.CostliestInput.{calls_on}
use Rattle.answer.specs.declared.Error.{Error}
use Rattle.recognizer_promises.specs.inner.Search.{SearchesWords, SearchGiven}
use Rattle.recognizer_promises.proofs.CostliestFaults.{search_refused, part_fits, part_length, search_given, search_done}
use Rattle.recognizer_promises.proofs.Judged.{memo_count}
use Rattle.recursive_descent_promises.specs.inner.Descent.{CallRequires, CallEnsures}
use Rattle.recursive_descent_promises.specs.inner.Judging.{JudgeGiven}
use Rattle.recursive_descent_promises.proofs.Deciding.{start_given, recorded, entries_left}
use Rattle.recursive_descent_promises.specs.inner.Search.{TrialGiven, TrialsGiven, Tried, CostliestLeft}

-- the input of a number, as it is written
module _ {words choices : List ℕ} {last : ℕ} {events memo : List ℕ} (g : TrialGiven words choices last events memo) where
  abbrev G : Grammar
  G = grammar_of words

  abbrev n : ℕ
  n = G.terminals

  abbrev k : ℕ
  k = length events

  read : WellRead words g.sizes
  read = well_read words g.sizes (admitted_read One words g.taken)

  some_token : 0 < n
  some_token = omega (arith, read.terminals, read.some_terminal)

  all_terminals : last + 1 ≡ n
  all_terminals = g.highest ∙ read.terminals

  module _ (number : ℕ) {e tokens blanked : List ℕ} (m : TrialPrepared last k number memo e tokens blanked) where
    named : e ≡ input_at n k number
    named = m.written ∙ ap (λ m. input_at m k number) all_terminals

    over : Over n e
    over = rw named (at_over n some_token k number)

    own : input_of e ≡ e
    own = input_own n (omega (arith, read.terminals, read.few_terminals)) e over

    long : length (input_of e) ≡ k
    long = ap length own ∙ ap length named ∙ at_long n k number

    judged : JudgeGiven One words g.sizes choices (input_of e) memo
    judged = record {
      given = record {
        ready = record {
          taken = g.taken;
          free = g.free;
          begins = refl;
          entered = refl;
          tokens = rw own over;
          short = omega (arith, long, g.short);
        };
        size = rw long g.size;
      };
      made = rw long g.made;
    }

    made : tokens ≡ tokens_of One g.sizes.terminals (input_of e)
    made = m.made ∙ ap (λ n. tokens_of One n (input_of e)) g.highest

    pub trial_start : CallRequires words choices tokens blanked 0 0
    trial_start = start_given e judged made m.blank

    pub trial_done : {entry r : ℕ} {memo' : List ℕ} → CallEnsures words choices tokens blanked 0 0 entry memo' → r ≡ recorded_below memo' (length memo')
        → Tried words k number r e memo'
    trial_done d c = record {
      written = named;
      entries = entries_left e judged made m.blank d ∙ ap (memo_words One G) own;
      counted = count_recorded (recorded e judged made m.blank d) c ∙ ap (calls_on G) own;
    }

-- the search, in the memory of now
pub record Searching (words events₀ memo₀ events memo : List ℕ) (t : Trials) : Type 0 where
  pub searched : Searched (calls_on (grammar_of words)) (grammar_of words).terminals (length events₀) t.next t.best t.calls
  pub same_length : length events ≡ length events₀
  pub same_memo : length memo ≡ length memo₀

module _ {words choices : List ℕ} {last inputs : ℕ} {events memo : List ℕ} (a : TrialsGiven words choices last inputs events memo) where
  abbrev g : TrialGiven words choices last events memo
  g = a.trial

  pub searching_start : {t : Trials} → t ≡ no_trials → Searching words events memo events memo t
  searching_start e = record { searched = rw e (searched_none (calls_on (G g)) (n g) (some_token g) (length events)); same_length = refl; same_memo = refl }

  exact : inputs ≡ g.sizes.terminals ^ length events
  exact = a.counted ∙ count_exact g.sizes.terminals (length events) g.few

  -- all inputs are tried
  all_counted : inputs ≡ n g ^ length events
  all_counted = exact ∙ ap (λ t. t ^ length events) (read g).terminals

  few_inputs : inputs ≤ max_inputs
  few_inputs = omega (arith, exact, g.few)

  module _ {events₁ memo₁ : List ℕ} {t : Trials} (s : Searching words events memo events₁ memo₁ t) where
    pub searching_next : t.next < inputs → {calls : ℕ} {t' : Trials} {events₂ memo₂ : List ℕ} → Tried words (length events₁) t.next calls events₂ memo₂
        → length events₂ ≡ length events₁ → length memo₂ ≡ length memo₁
        → t' ≡ tried_next t calls
        → Searching words events memo events₂ memo₂ t'
    searching_next h {calls} {t'} d same-events same_memo q = record {
      searched = rw (q, one_more) (go (ltb t.calls calls) refl);
      same_length = same-events ∙ s.same_length;
      same_memo = same_memo ∙ s.same_memo;
    }
      where
        low : t.next < n g ^ length events
        low = omega (arith, all_counted)

        one_more : t.next % max_inputs + 1 ≡ t.next + 1
        one_more = omega (arith, few_inputs)

        counted : calls ≡ calls_on (G g) (input_at (n g) (length events) t.next)
        counted = d.counted ∙ ap (calls_on (G g)) (d.written ∙ ap (λ j. input_at (n g) j t.next) s.same_length)

        go : (b : Bool) → ltb t.calls calls ≡ b
            → Searched (calls_on (G g)) (n g) (length events) (t.next + 1) (choose b t.next t.best) (choose b calls t.calls)
        go true f = searched_more (calls_on (G g)) (n g) (some_token g) (length events) s.searched low counted (ltb-true t.calls calls f)
        go false f = searched_less (calls_on (G g)) (n g) (some_token g) (length events) s.searched low counted (ltb-false t.calls calls f)

    -- so fewer are left to try
    pub searching_less : t.next < inputs → (calls : ℕ) {t' : Trials} → t' ≡ tried_next t calls → inputs - t'.next < inputs - t.next
    searching_less h calls q = rw q (omega (arith, few_inputs))

    -- the costliest is tried last
    pub searching_done : inputs ≤ t.next → {calls : ℕ} {events₂ memo₂ : List ℕ} → Tried words (length events₁) t.best calls events₂ memo₂
        → CostliestLeft words (length events) events₂ memo₂
    searching_done h d =
        let found = searched_all (calls_on (G g)) (n g) (some_token g) (length events) s.searched (omega (arith, all_counted)) in
        record {
          written = d.written ∙ ap (λ j. input_at (n g) j t.best) s.same_length ∙ found;
          entries = d.entries;
        }

-- what is prepared for a search: where it is refused no entry, and else those that each descent needs
module _ {words : List ℕ} {k : ℕ} (log memo : List ℕ) {p : PreparedSearch} (m : SearchPrepared words k (length log) (length memo) p) where
  abbrev needed : ℕ
  needed = p.entries

  -- a grammar that passes
  module _ {z : Sizes} (q : p.found.finding ≡ Ok z) where
    f : SearchGiven words z p.found.starts p.found.entries (take k log) memo
    f = search_given words k log memo m.finds q

    front_long : length (take k log) ≡ k
    front_long = part_length words k log memo m.finds q

    sizes : WellRead words z
    sizes = well_read words z (admitted_read One words f.taken)

    needed_is : needed ≡ (grammar_of words).nonterminals * suc k
    needed_is =
        m.needs ∙ ap (λ f. memo_entries (sizes_of f).nonterminals k) q
        ∙ entries_fit z.nonterminals k sizes.few_nonterminals (omega (arith, f.short, front_long))
        ∙ rw (sizes.nonterminals, add-one k)

    needed_some : 0 < needed
    needed_some =
        let l = mul-le-mul {n₁ = 1} {m₁ = 1} {n₂ = (grammar_of words).nonterminals} {m₂ = suc k}
        (omega (arith, sizes.nonterminals, sizes.some_nonterminal)) (omega arith) in
        omega (arith, needed_is, l)

    passed_fits : needed ≤ length memo
    passed_fits =
        let l = mul-le-mul {n₁ = (grammar_of words).nonterminals} {m₁ = suc k} {n₂ = max_nonterminals} {m₂ = max_places}
        (omega (arith, sizes.nonterminals, sizes.few_nonterminals)) (omega (arith, f.short, front_long)) in
        omega (arith, needed_is, l, f.room)

    shorter : min k max_tokens ≡ k
    shorter = omega (arith, f.short, front_long)

    passed_trials : TrialsGiven words p.choices p.last p.inputs (take k log) (take needed memo)
    passed_trials = record {
      trial = record {
        sizes = z;
        taken = f.taken;
        highest = rw (m.highest, q) (omega (arith, sizes.some_terminal, sizes.few_terminals));
        free = f.free;
        made = m.choices ∙ rw (q, front_long, f.begins, f.entered);
        size = length-take-le needed memo passed_fits ∙ needed_is ∙ rw front_long;
        short = f.short;
        few = f.few;
      };
      counted = m.counted ∙ rw (q, front_long, shorter);
    }

    passed_searched : {part left : List ℕ} → CostliestLeft words (length (take k log)) part left
        → SearchesWords words k log memo p.found (part ++ drop k log) (left ++ drop needed memo)
    passed_searched {part} {left} d =
        let written = memo_words One (grammar_of words) part in
        let some : 0 < (grammar_of words).terminals = omega (arith, sizes.terminals, sizes.some_terminal) in
        let same : length part ≡ k =
        ap length d.written ∙ (costliest_of (calls_on (grammar_of words)) (grammar_of words).terminals some (length (take k log))).long ∙ front_long in
        let e : needed ≡ length written =
        needed_is ∙ ap (λ j. (grammar_of words).nonterminals * suc j) (sym same) ∙ sym (memo_count One (grammar_of words) part) in
        search_done words k log memo m.finds q
        (record {
          written = d.written;
          entries = ap (λ y. y ++ drop needed memo) d.entries ∙ ap (λ y. written ++ drop y memo) e;
        })

  -- without an entry it is refused
  pub prepared_refused : needed ≡ 0 → SearchesWords words k log memo p.found log memo
  prepared_refused e = go p.found.finding refl
    where
      go : (f : Result Sizes Error) → p.found.finding ≡ f → SearchesWords words k log memo p.found log memo
      go (Ok z) q = absurd (omega (arith, needed_some q, e))
      go (Err x) q = search_refused words k log memo m.finds q

  -- with entries the search can begin
  module _ (some : needed ≡ 0 → ⊥) where
    none : {x : Error} → p.found.finding ≡ Err x → needed ≡ 0
    unfolding memo_entries
    none q = let e = m.needs ∙ ap (λ f. memo_entries (sizes_of f).nonterminals k) q in omega (arith, e)

    passed : (z : Sizes) × (p.found.finding ≡ Ok z)
    passed = go p.found.finding refl
      where
        go : (f : Result Sizes Error) → p.found.finding ≡ f → (z : Sizes) × (p.found.finding ≡ Ok z)
        go (Ok z) q = (z, q)
        go (Err x) q = absurd (some (none q))

    pub log_fits : k ≤ length log
    log_fits = part_fits words k log memo m.finds passed.1

    pub memo_fits : needed ≤ length memo
    memo_fits = passed_fits passed.1

    pub prepared_trials : TrialsGiven words p.choices p.last p.inputs (take k log) (take needed memo)
    prepared_trials = passed_trials passed.1

    pub prepared_searched : {part left : List ℕ} → CostliestLeft words (length (take k log)) part left
        → SearchesWords words k log memo p.found (part ++ drop k log) (left ++ drop needed memo)
    prepared_searched d = passed_searched passed.1 d
