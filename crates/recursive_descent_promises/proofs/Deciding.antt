-- From what is found of a grammar and an input to a descent, and from the descent to what the memo table then holds.
use Rattle.std.specs.Prelude.{Err, Ok, Result}
use mathlib.Core.Path.{◌≡◌, refl, sym, ap, ◌∙◌}
use mathlib.Core.List.{List, ◌++◌}
use Prim.Native.Nat.{ℕ, ◌+◌, ◌*◌, ◌≤◌, ◌<◌, min}
use native.Mathlib.Nat.{mul-le-mul}
use native.Mathlib.Numerals.{add-one}
use native.Mathlib.Omega.{arith}
use lib.ListN.{length, replicate, take, drop, length-replicate, get_or-replicate}
use lib.Seq.{length-take-le, take_at, drop_at}
use Rattle.grammar.specs.Codes.{uncalled_code}
use Rattle.grammar.specs.Syntax.{Grammar}
use Rattle.grammar.specs.Encoding.{grammar_of}
use Rattle.grammar.specs.inner.Starts.{rule_starts}
use Rattle.grammar.specs.inner.WellRead.{WellRead}
use Rattle.grammar.specs.declared.reading.Sizes.{Sizes}
use Rattle.grammar.proofs.WellRead.{well_read}
use Rattle.semantics.specs.Valuations.{pairs}
use Rattle.semantics.specs.Choices.{Choice, table_choice}
use Rattle.semantics.specs.Memo.{memo_index, Recorded}
use Rattle.semantics.specs.inner.Memo.{blank}
use Rattle.semantics.proofs.descent.Range.{index_range}
use Rattle.semantics.proofs.Theorems.{theorems}
use Rattle.lookahead.specs.declared.Lookahead.{Lookahead}
use Rattle.lookahead.specs.Lookaheads.{tokens}
use Rattle.families.proofs.FewTerminals.{admitted_read, few_terminals_lem}
use Rattle.columns.specs.Columns.{column_count}
use Rattle.table.specs.inner.Entries.{entries_of}
use Rattle.recognizer_promises.specs.Memory.{memo_words}
use Rattle.answer.specs.declared.Error.{Error}
use Rattle.recognizer_promises.specs.inner.Judging.{Ready, PassedGiven, DescendsWords}
use Rattle.recognizer_promises.proofs.Judged.{needed_room, descend_given, front_left, words_refused, passed_given, words_descended}
use Rattle.recognizer_promises.proofs.MemoWords.{words_recorded}
use Rattle.event.specs.Events.{input_of}
use Rattle.event.proofs.Inputs.{input_length}
use Rattle.descent_arrays.specs.inner.Arrays.{held_tokens, row_at}
use Rattle.descent_choices.specs.inner.Choices.{memo_entries}
use Rattle.descent_tokens.specs.inner.Tokens.{tokens_of}
use Rattle.descent_tokens.proofs.TokenWords.{TokensGiven, TokensHold, column_few, tokens_hold}
use Rattle.descent_choices.proofs.ChoiceRows.{Filled, entries_fit}
use Rattle.descent_preparation.specs.declared.Prepared.{Prepared}
use Rattle.descent_preparation.specs.inner.Preparation.{sizes_of, InputPrepared}
use Rattle.recursive_descent_promises.specs.inner.Descent.{MemoSound, CallGiven, CallRequires, CallEnsures}
use Rattle.recursive_descent_promises.specs.inner.Judging.{JudgeGiven}
use Rattle.recursive_descent_promises.proofs.TableChoices.{rows_filled, choices_hold}
use Rattle.recursive_descent_promises.proofs.Descending.{start_recorded}

-- a memo table in which no call is recorded is sound
pub blank_sound : (choice : Choice) (words input : List ℕ) → MemoSound choice words input (blank (grammar_of words) input)
blank_sound choice words input = record {
  size = length-replicate (pairs (grammar_of words) input) uncalled_code;
  right = λ x h n. absurd
      (n (get_or-replicate (pairs (grammar_of words) input) (memo_index input x) uncalled_code uncalled_code (index_range (grammar_of words) input x h)));
}

-- an input and the choices for its length
module _ {k : Lookahead} {words : List ℕ} {z : Sizes} {choices memo : List ℕ} (events : List ℕ) (g : JudgeGiven k words z choices (input_of events) memo) where
  abbrev input : List ℕ
  input = input_of events

  ready : Ready k words z (rule_starts words) (entries_of k (grammar_of words)) input
  ready = g.given.ready

  r : WellRead words z
  r = well_read words z (admitted_read k words ready.taken)

  abbrev G : Grammar
  G = grammar_of words

  abbrev n : ℕ
  n = tokens k

  -- the choice that the descent goes by
  abbrev choice : Choice
  choice = table_choice G n input

  some_nonterminal_lem : 0 < G.nonterminals
  some_nonterminal_lem = omega (arith, r.nonterminals, r.some_nonterminal)

  tokens_given : TokensGiven k input z.terminals
  tokens_given = record { short = ready.short; few = rw r.terminals (few_terminals_lem k words ready.taken); known = rw r.terminals ready.tokens }

  f : Filled (rule_starts words) z.nonterminals (column_count k z.terminals) (entries_of k G) (length input) choices
  f = rw g.made (rows_filled ready)

  -- the arrays hold that choice and the input
  module _ {tokens : List ℕ} (w : tokens ≡ tokens_of k z.terminals input) where
    t : TokensHold k z.terminals input tokens
    t = rw w (tokens_hold tokens_given)

    begun : CallGiven choice words choices tokens input (blank G input) 0 0
    unfolding row_at
    begun = record {
      given = record {
        sizes = z;
        read = admitted_read k words ready.taken;
        free = ready.free;
        own = theorems.own_rules G n input;
        rows = λ A a. f.rows A (omega (arith, r.nonterminals)) ∙ ap (λ n. A * n) (add-one (length input));
        ends = λ A a. f.ends A (omega (arith, r.nonterminals));
        columns = λ i h. omega (arith, t.columns i h, column_few tokens_given i);
        firsts = choices_hold ready f (rw (← r.terminals) t);
        terminals = t.terminals;
        end = t.end;
        short = ready.short;
        sound = blank_sound choice words input;
      };
      named = some_nonterminal_lem;
      placed = omega arith;
    }

    -- and no entry is written
    module _ {blanked : List ℕ} (b : blanked ≡ replicate (length memo) uncalled_code) where
      blank_is : blanked ≡ blank G input
      blank_is = b ∙ ap (λ n. replicate n uncalled_code) g.given.size

      begun_held : CallGiven choice words choices tokens (held_tokens tokens) blanked 0 0
      begun_held = rw (t.input, blank_is) begun

      pub start_given : CallRequires words choices tokens blanked 0 0
      start_given = (choice, begun_held)

      module _ {entry : ℕ} {memo' : List ℕ} (ensured : CallEnsures words choices tokens blanked 0 0 entry memo') where
        pub recorded : Recorded G choice input memo'
        recorded = start_recorded begun (rw (t.input, blank_is) at (ensured choice begun_held))

        pub entries_left : memo' ≡ memo_words k G input
        entries_left = words_recorded k G input r.formed.scoped ready.free some_nonterminal_lem recorded

-- what is prepared for an input: where it is refused no entry, and else those that the descent needs
module _ {k : Lookahead} {words events memo : List ℕ} {p : Prepared} {memo₁ : List ℕ} (m : InputPrepared k words events memo p memo₁) where
  abbrev needed : ℕ
  needed = p.entries

  needed_fits : needed ≤ length memo
  needed_fits = omega (arith, m.fitting)

  blank_long : length (replicate needed uncalled_code) ≡ needed
  blank_long = length-replicate needed uncalled_code

  part_is : take needed memo₁ ≡ replicate (length (take needed memo)) uncalled_code
  part_is =
      ap (take needed) m.blank ∙ take_at (replicate needed uncalled_code) (drop needed memo) needed blank_long
      ∙ ap (λ n. replicate n uncalled_code) (sym (length-take-le needed memo needed_fits))

  rest_is : drop needed memo₁ ≡ drop needed memo
  rest_is = ap (drop needed) m.blank ∙ drop_at (replicate needed uncalled_code) (drop needed memo) needed blank_long

  -- a grammar that passes, in the front of the memo table
  module _ {z : Sizes} (q : p.found.finding ≡ Ok z) where
    g : PassedGiven k words z p.found.starts p.found.entries (input_of events) memo
    g = passed_given k words (input_of events) memo m.finds q

    r₁ : WellRead words z
    r₁ = well_read words z (admitted_read k words g.ready.taken)

    entries_is : memo_entries z.nonterminals (length events) ≡ z.nonterminals * (length events + 1)
    entries_is = entries_fit z.nonterminals (length events) r₁.few_nonterminals (omega (arith, g.ready.short, input_length events))

    needed_is : needed ≡ z.nonterminals * (length events + 1)
    needed_is =
        let e : needed ≡ min (memo_entries z.nonterminals (length events)) (length memo) =
        m.fitting ∙ ap (λ f. min (memo_entries (sizes_of f).nonterminals (length events)) (length memo)) q in
        omega (arith, e, entries_is, needed_room events g)

    needed_some : 0 < needed
    needed_some = let l = mul-le-mul {n₁ = 1} {m₁ = 1} {n₂ = z.nonterminals} {m₂ = length events + 1} r₁.some_nonterminal (omega arith) in
        omega (arith, needed_is, l)

    judge_given : JudgeGiven k words z p.choices (input_of events) (take needed memo)
    judge_given = record {
      given = record {
        ready = record {
          taken = g.ready.taken;
          free = g.ready.free;
          begins = refl;
          entered = refl;
          tokens = g.ready.tokens;
          short = g.ready.short;
        };
        size = rw needed_is (descend_given events g).size;
      };
      made = m.choices ∙ rw (q, g.ready.begins, g.ready.entered, input_length events);
    }

    read : p.tokens ≡ tokens_of k z.terminals (input_of events)
    read = m.tokens ∙ ap (λ f. tokens_of k (sizes_of f).terminals (input_of events)) q

    passed_start : CallRequires words p.choices p.tokens (take needed memo₁) 0 0
    passed_start = start_given events judge_given read part_is

    passed_done : {entry : ℕ} {part : List ℕ} → CallEnsures words p.choices p.tokens (take needed memo₁) 0 0 entry part
        → DescendsWords k words (input_of events) memo p.found (part ++ drop needed memo₁)
    passed_done {entry} {part} d =
        words_descended k words (input_of events) memo m.finds q
        (ap (λ y. part ++ y) rest_is ∙ rw needed_is (front_left events g (entries_left events judge_given read part_is d)))

  -- without an entry it is refused, and nothing is changed
  pub prepared_refused : needed ≡ 0 → DescendsWords k words (input_of events) memo p.found memo₁
  prepared_refused e = go p.found.finding refl
    where
      same : memo₁ ≡ memo
      same = m.blank ∙ ap (λ n. replicate n uncalled_code ++ drop n memo) e

      go : (f : Result Sizes Error) → p.found.finding ≡ f → DescendsWords k words (input_of events) memo p.found memo₁
      go (Ok z) q = absurd (omega (arith, needed_some q, e))
      go (Err x) q = rw same (words_refused k words (input_of events) memo m.finds q)

  -- with entries the start can be called
  module _ (some : needed ≡ 0 → ⊥) where
    none : {x : Error} → p.found.finding ≡ Err x → needed ≡ 0
    unfolding memo_entries
    none q = let e = m.fitting ∙ ap (λ f. min (memo_entries (sizes_of f).nonterminals (length events)) (length memo)) q in omega (arith, e)

    passed : (z : Sizes) × (p.found.finding ≡ Ok z)
    passed = go p.found.finding refl
      where
        go : (f : Result Sizes Error) → p.found.finding ≡ f → (z : Sizes) × (p.found.finding ≡ Ok z)
        go (Ok z) q = (z, q)
        go (Err x) q = absurd (some (none q))

    pub prepared_start : CallRequires words p.choices p.tokens (take needed memo₁) 0 0
    prepared_start = passed_start passed.1

    pub prepared_done : {entry : ℕ} {part : List ℕ} → CallEnsures words p.choices p.tokens (take needed memo₁) 0 0 entry part
        → DescendsWords k words (input_of events) memo p.found (part ++ drop needed memo₁)
    prepared_done d = passed_done passed.1 d
