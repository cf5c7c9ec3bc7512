-- The arrays made of the entries of a grammar's own table hold the choice by lookahead: here alone the descent is tied to it.
use mathlib.Core.Path.{◌≡◌, refl, ap, ◌∙◌}
use mathlib.Core.List.{List}
use mathlib.Core.Option.{Option, none, some}
use Prim.Native.Nat.{ℕ, ◌+◌, ◌*◌, ◌%◌, ◌≤◌, ◌<◌}
use native.Mathlib.Omega.{arith}
use lib.Dec.{ltb}
use lib.ListN.{length, get_or}
use borrow.Author.Tests.{lt-ltb}
use Rattle.base.specs.Choice.{choose}
use Rattle.grammar.specs.Limits.{max_words, max_rules}
use Rattle.grammar.specs.Syntax.{Grammar}
use Rattle.grammar.specs.Encoding.{grammar_of}
use Rattle.grammar.specs.inner.Starts.{rule_starts}
use Rattle.grammar.specs.inner.WellRead.{WellRead}
use Rattle.grammar.specs.declared.reading.Sizes.{Sizes}
use Rattle.grammar.proofs.WellRead.{well_read}
use Rattle.semantics.specs.Claims.{table_of}
use Rattle.semantics.specs.Choices.{table_choice}
use Rattle.semantics.proofs.descent.Outcomes.{nth_below}
use Rattle.semantics.proofs.descent.Predictive.{table_own}
use Rattle.columns.specs.Columns.{column_count, column_string}
use Rattle.columns.specs.inner.Columns.{column_at}
use Rattle.table.specs.inner.Entries.{rule_byte, byte_at}
use Rattle.columns.proofs.ColumnStrings.{column_count_lem}
use Rattle.table.proofs.EntriesFilled.{entries_at}
use Rattle.lookahead.specs.declared.Lookahead.{Lookahead}
use Rattle.lookahead.specs.Lookaheads.{tokens}
use Rattle.families.proofs.FewTerminals.{admitted_read, few_terminals_lem}
use Rattle.descent_arrays.specs.inner.Arrays.{choice_columns, first_at}
use Rattle.recursive_descent_promises.specs.inner.Descent.{first_conjunct}
use Rattle.descent_choices.specs.inner.Choices.{entry_of, first_word, choices_of}
use Rattle.descent_tokens.proofs.TokenWords.{TokensHold}
use Rattle.descent_choices.proofs.ChoiceRows.{Filled, choices_filled}
use Rattle.recognizer_promises.specs.inner.Judging.{Ready}
use Rattle.columns.proofs.Columns.{column_right}

module _ {k : Lookahead} {words : List ℕ} {z : Sizes} {starts entries input : List ℕ} (g : Ready k words z starts entries input) where
  abbrev G : Grammar
  G = grammar_of words

  abbrev n : ℕ
  n = tokens k

  r : WellRead words z
  r = well_read words z (admitted_read k words g.taken)

  -- an entry is that of the grammar's table
  entry_is : (A c : ℕ) → A < z.nonterminals → c < column_count k z.terminals
      → entry_of (column_count k z.terminals) entries A c ≡ rule_byte (table_of G n A (column_string k G.terminals c))
  unfolding byte_at
  entry_is A c a h = rw (r.terminals, g.entered) (entries_at k G A c (omega (arith, r.nonterminals)) (rw r.terminals at h))

  -- the number of a rule is no byte for no rule
  rule_low : (A q : ℕ) (x : List ℕ) → table_of G n A x ≡ some q → q < z.rules
  rule_low A q x e = let m = table_own G n A x q e in omega (arith, nth_below G.rules q m.0 m.1, r.rules)

  -- rows for these sizes are within the limits
  pub rows_filled : Filled (rule_starts words) z.nonterminals (column_count k z.terminals) entries (length input)
      (choices_of (rule_starts words) z.nonterminals (column_count k z.terminals) entries (length input))
  rows_filled =
      choices_filled (rule_starts words) entries r.few_nonterminals
      (rw r.terminals (column_count_lem k G.terminals (few_terminals_lem k words g.taken))) g.short

  first_is : (A : ℕ) (x : List ℕ) → first_word (rule_starts words) (rule_byte (table_of G n A x)) ≡ first_conjunct words (table_of G n A x)
  unfolding first_word
  first_is A x = go (table_of G n A x) refl
    where
      go : (o : Option ℕ) → table_of G n A x ≡ o
          → choose (ltb (rule_byte o) max_rules) (get_or (rule_starts words) (rule_byte o) 0 % max_words + 1) 0 ≡ first_conjunct words o
      go none e = refl
      go (some q) e =
          let l = rule_low A q x e in
          let low : get_or (rule_starts words) q 0 % max_words ≡ get_or (rule_starts words) q 0 = omega (arith, (r.begun q l).high, r.short) in
          rw (lt-ltb q max_rules (omega (arith, r.few_rules)), low)

  -- the rows and the tokens together hold the choice by lookahead
  pub choices_hold : {choices tokens : List ℕ} → Filled (rule_starts words) z.nonterminals (column_count k z.terminals) entries (length input) choices
      → TokensHold k G.terminals input tokens → (A i : ℕ) → A < G.nonterminals → i ≤ length input
      → first_at choices tokens A i ≡ first_conjunct words (table_choice G n input A i)
  unfolding first_at
  choices_hold {choices} f t A i a h =
      let m = column_right k G.terminals input i (few_terminals_lem k words g.taken) g.tokens in
      let c : ℕ = column_at k G.terminals input i in
      let named : A < z.nonterminals = omega (arith, r.nonterminals) in
      let low : c < column_count k z.terminals = rw r.terminals m.low in
      ap (λ e. get_or choices (A * choice_columns + e) 0) (t.columns i h)
      ∙ f.entered A c named low
      ∙ ap (first_word (rule_starts words)) (entry_is A c named low)
      ∙ first_is A (column_string k G.terminals c)
      ∙ ap (λ x. first_conjunct words (table_of G n A x)) m.string
