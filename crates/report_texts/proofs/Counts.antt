-- The sets that a sheet tells are FIRST and FOLLOW, and each size is how many strings the set has.
use mathlib.Core.Path.{◌≡◌, sym, ap, subst, ◌∙◌}
use mathlib.Core.List.{List, ◌++◌}
use Prim.Native.Nat.{ℕ, ◌+◌, ◌*◌, ◌/◌, ◌%◌, ◌≤◌, ◌<◌}
use native.Mathlib.Omega.{arith}
use lib.ListN.{length, drop, length-append, get_or-append}
use Rattle.grammar.specs.Codes.{no_entry}
use Rattle.grammar.specs.Limits.{max_table_words}
use Rattle.grammar.specs.Syntax.{Grammar}
use Rattle.grammar.specs.Encoding.{grammar_of}
use Rattle.lookahead.specs.declared.Lookahead.TheVariants.{One}
use Rattle.lookahead.specs.Lookaheads.{nothing}
use Rattle.lookahead.specs.Elements.{size}
use Rattle.semantics.specs.FirstFollow.{first, follow, First, Follow}
use Rattle.base.specs.Lists.{listed}
use Rattle.families.specs.Sets.{first_number, follow_number, Members}
use Rattle.base.proofs.Lists.{listed_long, listed_at}
use Rattle.families.proofs.Members.{members}
use Rattle.columns.specs.Columns.{columns}
use Rattle.table_promises.specs.Layout.{set_word, row_word, table_words}
use Rattle.recognizer_promises.specs.Properties.{PassedGrammar}
use Rattle.recognizer_promises.proofs.Words.{least_sets}
use Rattle.recognizer_promises.proofs.Checking.{passed_encodes, fault_passed, check_fault_long}
use Rattle.memo_table.proofs.Entries.{get_d_any}
use Rattle.file_words.specs.Words.{words_of}
use Rattle.sheet_text.specs.Room.{sheet_room}
use Rattle.sheet_lines.specs.Lines.{sheet_word_at}
use Rattle.report_texts.specs.Texts.{blank_table, checked_table, sheet_of}
use Rattle.report_texts.specs.Report.{Printed, SetsTold, SheetPrinted}

-- a word of the sets in the table of a grammar
set_at : (G : Grammar) (i : ℕ) (behind : List ℕ) → i < 2 * G.nonterminals → sheet_word_at (table_words One G ++ behind) i ≡ set_word One G i
unfolding table_words
set_at G i behind h =
    let sets = listed (2 * G.nonterminals) (set_word One G) in
    let rows = listed (G.nonterminals * columns One G) (row_word One G) in
    let n = listed_long (2 * G.nonterminals) (set_word One G) in
    get_or-append (sets ++ rows) behind no_entry i (omega (arith, length-append sets rows))
    ∙ get_or-append sets rows no_entry i (omega arith)
    ∙ get_d_any sets i no_entry 0 (omega arith)
    ∙ listed_at (2 * G.nonterminals) (set_word One G) i h

first_word : (G : Grammar) (A : ℕ) → set_word One G (2 * A) ≡ first_number One G A
unfolding set_word
first_word G A = let even : 2 * A % 2 ≡ 0 = omega arith in let half : 2 * A / 2 ≡ A = omega arith in rw (even, half)

follow_word : (G : Grammar) (A : ℕ) → set_word One G (2 * A + 1) ≡ follow_number One G A
unfolding set_word
follow_word G A = let odd : (2 * A + 1) % 2 ≡ 1 = omega arith in let half : (2 * A + 1) / 2 ≡ A = omega arith in rw (odd, half)

module _ (words : List ℕ) (p : PassedGrammar One words) where
  abbrev G : Grammar
  G = grammar_of words

  lent : checked_table words ≡ table_words One G ++ drop (length (table_words One G)) blank_table
  lent = rw (check_fault_long One max_table_words words (omega arith), fault_passed words p)

  -- the sizes of the two numbers
  module _ (A : ℕ) where
    few : G.terminals ≤ nothing One
    few = (passed_encodes words p).limited.few_terminals

    first_size : Members (First G 1 A) (size (first_number One G A))
    unfolding first_number
    first_size = members One G.terminals few (λ x. first G 1 (A, x)) (λ x t. ((least_sets G (passed_encodes words p) 1).first_lookahead A x t).1)

    follow_size : Members (Follow G 1 A) (size (follow_number One G A))
    unfolding follow_number
    follow_size = members One G.terminals few (λ x. follow G 1 (A, x)) (λ x t. ((least_sets G (passed_encodes words p) 1).follow_lookahead A x t).1)

    sets_told : A < G.nonterminals → SetsTold words A
    sets_told h =
        let behind = drop (length (table_words One G)) blank_table in
        let one : sheet_word_at (checked_table words) (2 * A) ≡ first_number One G A =
        ap (λ t. sheet_word_at t (2 * A)) lent ∙ set_at G (2 * A) behind (omega arith) ∙ first_word G A in
        let two : sheet_word_at (checked_table words) (2 * A + 1) ≡ follow_number One G A =
        ap (λ t. sheet_word_at t (2 * A + 1)) lent ∙ set_at G (2 * A + 1) behind (omega arith) ∙ follow_word G A in
        record {
          first = one;
          first_members = subst (λ n. Members (First G 1 A) (size n)) (sym one) first_size;
          follow = two;
          follow_members = subst (λ n. Members (Follow G 1 A) (size n)) (sym two) follow_size;
        }

pub sheet_printed : (bytes : List ℕ) {before after : List ℕ} {n : ℕ} → Printed sheet_room (sheet_of bytes) before after n
    → SheetPrinted bytes before after n
sheet_printed bytes r = record { printed = r; sets = λ p A h. sets_told (words_of bytes) p A h }
