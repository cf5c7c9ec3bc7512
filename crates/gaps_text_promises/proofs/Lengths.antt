-- How long the sheet of gaps and overlaps can be: each rule stands in one row, that of its head.
use Rattle.std.specs.Prelude.{Err, Ok, Result}
use Rattle.answer.specs.declared.Error.{Error}
use mathlib.Core.Path.{◌≡◌, refl}
use mathlib.Core.Bool.{Bool, true, false, not}
use mathlib.Core.List.{List, [], ◌++◌}
use mathlib.Core.Option.{Option, none, some}
use Prim.Native.Nat.{ℕ, zero, suc, ◌+◌, ◌*◌, ◌≤◌, ◌<◌}
use native.Mathlib.Decide.{dec_lt, ℕ_discrete}
use native.Mathlib.Nat.{mul-le-mul_right}
use native.Mathlib.Omega.{arith}
use borrow.Author.Tests.{eq-eqb, ne_eqb, lt-ltb, le-ltb}
use lib.Dec.{T, eqb, ltb, eqb→eq}
use lib.ListN.{length, get_elem?, length-append}
use Rattle.base.specs.Quantifiers.{one, count_below}
use Rattle.base.proofs.Booleans.{true_T, and_l}
use Rattle.base.proofs.Quantified.{count_le, count_mono}
use Rattle.grammar.specs.Encoding.{grammar_of}
use Rattle.grammar.specs.Limits.{max_nonterminals, max_terminals, max_columns, max_rules}
use Rattle.grammar.specs.declared.reading.Sizes.{Sizes}
use Rattle.grammar.specs.Reading.{reading}
use Rattle.grammar.specs.Syntax.{Rule, Grammar}
use Rattle.grammar.proofs.WellRead.{well_read}
use Rattle.lookahead.specs.declared.Lookahead.TheVariants.{One}
use Rattle.semantics.specs.Claims.{claims, overruns}
use Rattle.families.specs.Analysis.{sets_fault, finding_of}
use Rattle.families.proofs.Findings.{told_passed}
use Rattle.columns.specs.Columns.{column_string}
use Rattle.text.specs.Ascii.{ascii}
use Rattle.text.specs.Decimal.{decimal, labelled}
use Rattle.text.specs.Writing.{up_to}
use Rattle.text.proofs.Lengths.{choose_most, decimal_few, up_to_most}
use Rattle.refusal_text.proofs.Lines.{refusal_most}
use Rattle.gaps_text_promises.specs.Room.{rule_room, gap_room, overrun_room, gaps_room}
use Rattle.gaps_text_promises.specs.Gaps.{on_rule, claims_by, overrun_text, found_text, gaps_text}
use Rattle.gaps_text_promises.specs.inner.Steps.{claimant_text, numbers_text, claimants_text, entry_line, row_text, overrun_line, overruns_text, lines_text}
use Rattle.gaps_text_promises.specs.inner.Steps.{claims_at}
use Rattle.gaps_text_promises.proofs.Entries.{lines_are}

claimant_most : (b : Bool) (q : ℕ) → q < 1000 → length (claimant_text b q) ≤ one b * rule_room
unfolding claimant_text
claimant_most true q h = omega (arith, decimal_few 2 q h)
claimant_most false q h = omega arith

numbers_most : (rules : ℕ) (p : ℕ → Bool) → rules ≤ 1000 → length (numbers_text rules p) ≤ count_below rules p * rule_room
unfolding numbers_text up_to count_below
numbers_most zero p h = omega arith
numbers_most (suc n) p h =
    omega (
      arith,
      length-append (up_to n (λ q. claimant_text (p q) q)) (claimant_text (p n) n),
      numbers_most n p (omega arith),
      claimant_most (p n) n (omega arith),
    )

claimants_most : (rules : ℕ) (p : ℕ → Bool) → rules ≤ max_rules → length (claimants_text rules p) ≤ count_below rules p * rule_room + 2
unfolding claimants_text
claimants_most rules p h =
    choose_most (eqb (count_below rules p) 0) (ascii " -") (numbers_text rules p) (count_below rules p * rule_room + 2) (omega arith)
    (omega (arith, numbers_most rules p (omega arith)))

-- a line has room for as many rules as claim the entry, which are n at most
line_most : (rules : ℕ) (p : ℕ → Bool) (A c n : ℕ) → rules ≤ max_rules → A < 100 → c < 100 → count_below rules p ≤ n
    → length (entry_line rules p A c) ≤ gap_room + n * rule_room
unfolding entry_line
line_most rules p A c n h a b k =
    choose_most (not (eqb (count_below rules p) 1)) (decimal A ++ labelled " " c ++ claimants_text rules p ++ ascii "\n") [] (gap_room + n * rule_room)
    (simp length-append (omega (arith, decimal_few 1 A a, decimal_few 1 c b, claimants_most rules p h))) (omega arith)

row_most : (z : Sizes) (p : ℕ → ℕ → ℕ → Bool) (A n : ℕ) → z.rules ≤ max_rules → z.terminals ≤ max_terminals → A < 100
    → ((c : ℕ) → count_below z.rules (p A c) ≤ n) → length (row_text z p A) ≤ max_columns * (gap_room + n * rule_room)
unfolding row_text
row_most z p A n h k a own =
    omega (
      arith,
      up_to_most (z.terminals + 1) (gap_room + n * rule_room) (λ c. entry_line z.rules (p A c) A c)
          (λ c l. line_most z.rules (p A c) A c n h a (omega arith) (own c)),
      mul-le-mul_right {m = z.terminals + 1} {n = max_columns} (gap_room + n * rule_room) (omega arith),
    )

overrun_most : (b : Bool) (A : ℕ) → A < 100 → length (overrun_line b A) ≤ overrun_room
unfolding overrun_line overrun_text
overrun_most true A h = simp length-append (omega (arith, decimal_few 1 A h))
overrun_most false A h = omega arith

-- the rules with a head below n, and those of n, are those with a head below n + 1
heads_next : (rules n : ℕ) (h : ℕ → ℕ)
    → count_below rules (λ q. ltb (h q) n) + count_below rules (λ q. eqb (h q) n) ≤ count_below rules (λ q. ltb (h q) (suc n))
unfolding count_below
heads_next zero n h = omega arith
heads_next (suc r) n h = omega (arith, go (dec_lt (h r) n) (ℕ_discrete (h r) n), heads_next r n h)
  where
    go : Dec (h r < n) → Dec (h r ≡ n) → one (ltb (h r) n) + one (eqb (h r) n) ≤ one (ltb (h r) (suc n))
    go (yes l) d = rw (lt-ltb (h r) n l, ne_eqb (h r) n (λ e. omega arith), lt-ltb (h r) (suc n) (omega arith)) (omega arith)
    go (no l) (yes e) = rw (le-ltb (h r) n (omega arith), eq-eqb (h r) n e, lt-ltb (h r) (suc n) (omega arith)) (omega arith)
    go (no l) (no d) = rw (le-ltb (h r) n (omega arith), ne_eqb (h r) n d, le-ltb (h r) (suc n) (omega arith)) (omega arith)

-- where a rule claims entries of its head alone
module _ (z : Sizes) (p : ℕ → ℕ → ℕ → Bool) (o : ℕ → Bool) (h : ℕ → ℕ) (own : (A c q : ℕ) → T (p A c q) → h q ≡ A)
    (few : z.nonterminals ≤ max_nonterminals) (r : z.rules ≤ max_rules) (t : z.terminals ≤ max_terminals) where
  rows_most : (n : ℕ) → n ≤ max_nonterminals
      → length (up_to n (row_text z p)) ≤ n * (max_columns * gap_room) + max_columns * (count_below z.rules (λ q. ltb (h q) n) * rule_room)
  unfolding up_to
  rows_most zero l = omega arith
  rows_most (suc n) l =
      omega (
        arith,
        length-append (up_to n (row_text z p)) (row_text z p n),
        rows_most n (omega arith),
        row_most z p n (count_below z.rules (λ q. eqb (h q) n)) r t (omega arith)
            (λ c. count_mono z.rules (p n c) (λ q. eqb (h q) n) (λ q u. true_T (eqb (h q) n) (eq-eqb (h q) n (own n c q u)))),
        heads_next z.rules n h,
      )

  lines_most : length (lines_text z p o) ≤ gaps_room
  unfolding lines_text overruns_text
  lines_most =
      omega (
        arith,
        length-append (up_to z.nonterminals (row_text z p)) (up_to z.nonterminals (λ A. overrun_line (o A) A)),
        rows_most z.nonterminals few,
        count_le z.rules (λ q. ltb (h q) z.nonterminals),
        up_to_most z.nonterminals overrun_room (λ A. overrun_line (o A) A) (λ A l. overrun_most (o A) A (omega arith)),
      )

-- a rule of the grammar claims entries of its head alone
abbrev head_at : Option Rule → ℕ
head_at none = 0
head_at (some r) = r.head

claims_own : (G : Grammar) (A c q : ℕ) → T (claims_at G A c q) → head_at (get_elem? G.rules q) ≡ A
unfolding claims_by claims
claims_own G A c q = go (get_elem? G.rules q)
  where
    go : (o : Option Rule) → T (on_rule o (claims G 1 (A, column_string One G.terminals c))) → head_at o ≡ A
    go none u = absurd u
    go (some r) u = eqb→eq r.head A (and_l (eqb r.head A) _ u)

pub gaps_most : (words : List ℕ) → length (gaps_text words) ≤ gaps_room
unfolding gaps_text
gaps_most words = go (finding_of (sets_fault One words) (reading words)) refl
  where
    go : (f : Result Sizes Error) → finding_of (sets_fault One words) (reading words) ≡ f
        → length (found_text f (grammar_of words)) ≤ gaps_room
    go (Err e) q = omega (arith, refusal_most e)
    go (Ok z) q =
        let r = well_read words z (told_passed (sets_fault One words) (reading words) q).1 in
        let G = grammar_of words in
        rw (← lines_are G z r.nonterminals r.terminals r.rules)
        (lines_most z (claims_at G) (overruns G 1) (λ q. head_at (get_elem? G.rules q)) (claims_own G) r.few_nonterminals r.few_rules r.few_terminals)
