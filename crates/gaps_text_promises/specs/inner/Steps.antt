-- The lines as the code puts them: row by row, by a test for the rules that claim an entry and one for the nonterminals that overrun.
use Rattle.std.specs.Prelude.{Err, Ok, Result, Bool, not, ◌&&◌, List, [], ◌++◌, ℕ, ◌+◌, ◌≤◌, eqb, leb, get_or}
use Rattle.answer.specs.declared.Error.{Error}
use Rattle.base.specs.Choice.{choose}
use Rattle.base.specs.Quantifiers.{count_below}
use Rattle.grammar.specs.declared.reading.Sizes.{Sizes}
use Rattle.grammar.specs.Limits.{max_nonterminals, max_terminals, max_rules}
use Rattle.grammar.specs.Syntax.{Grammar}
use Rattle.lookahead.specs.declared.Lookahead.TheVariants.{One}
use Rattle.lookahead.specs.inner.Operations.{is_empty}
use Rattle.claims.specs.inner.Claims.{claimant}
use Rattle.columns.specs.inner.Columns.{column_element}
use Rattle.columns.specs.Columns.{column_string}
use Rattle.text.specs.Ascii.{ascii}
use Rattle.text.specs.Decimal.{decimal, labelled}
use Rattle.refusal_text.specs.Refusal.{refusal_text}
use Rattle.text.specs.Writing.{Put, up_to}
use Rattle.gaps_text_promises.specs.Gaps.{claims_by, overrun_text}

-- a rule's number where it claims the entry
unfoldable pub claimant_text : Bool → ℕ → List ℕ
claimant_text b q = choose b (labelled " " q) []

unfoldable pub numbers_text : ℕ → (ℕ → Bool) → List ℕ
numbers_text rules p = up_to rules (λ q. claimant_text (p q) q)

unfoldable pub claimants_text : ℕ → (ℕ → Bool) → List ℕ
claimants_text rules p = choose (eqb (count_below rules p) 0) (ascii " -") (numbers_text rules p)

-- the line of an entry; none for one that just one rule claims
unfoldable pub entry_line : ℕ → (ℕ → Bool) → ℕ → ℕ → List ℕ
entry_line rules p A c =
    choose (not (eqb (count_below rules p) 1)) (decimal A ++ labelled " " c ++ claimants_text rules p ++ ascii "\n") []

unfoldable pub row_text : Sizes → (ℕ → ℕ → ℕ → Bool) → ℕ → List ℕ
row_text z p A = up_to (z.terminals + 1) (λ c. entry_line z.rules (p A c) A c)

-- the line of a nonterminal; none for one that does not overrun
unfoldable pub overrun_line : Bool → ℕ → List ℕ
overrun_line b A = choose b (overrun_text A) []

unfoldable pub overruns_text : ℕ → (ℕ → Bool) → List ℕ
overruns_text n o = up_to n (λ A. overrun_line (o A) A)

unfoldable pub lines_text : Sizes → (ℕ → ℕ → ℕ → Bool) → (ℕ → Bool) → List ℕ
lines_text z p o = up_to z.nonterminals (row_text z p) ++ overruns_text z.nonterminals o

-- rule q claims the entry of A in column c: by the grammar, and by heads and claims
abbrev pub claims_at : Grammar → ℕ → ℕ → ℕ → Bool
claims_at G A c = claims_by G (A, column_string One G.terminals c)

abbrev pub claimant_at : (heads sets : List ℕ) (terminals : ℕ) → ℕ → ℕ → ℕ → Bool
claimant_at heads sets terminals A c = claimant heads sets A (column_element One terminals c)

-- by the set that is reported of a nonterminal: it overruns
abbrev pub overruns_by : ℕ → Bool
overruns_by set = not (is_empty set)

abbrev pub overruns_in : List ℕ → ℕ → Bool
overruns_in sets A = overruns_by (get_or sets A 0)

-- no more of each than a grammar may have
unfoldable pub within_limits : Sizes → Bool
within_limits z = leb z.nonterminals max_nonterminals && (leb z.terminals max_terminals && leb z.rules max_rules)

pub record WithinLimits (z : Sizes) : Type 0 where
  pub nonterminals : z.nonterminals ≤ max_nonterminals
  pub terminals : z.terminals ≤ max_terminals
  pub rules : z.rules ≤ max_rules

-- what is put by what is found of a grammar, of its rules and of its nonterminals; nothing of sizes beyond the limits
abbrev pub gaps_by : Result Sizes Error → (heads sets overruns : List ℕ) → List ℕ
gaps_by (Err e) heads sets overruns = refusal_text e
gaps_by (Ok z) heads sets overruns = choose (within_limits z) (lines_text z (claimant_at heads sets z.terminals) (overruns_in overruns)) []

pub record GapsPutBy (f : Result Sizes Error) (heads sets overruns before after : List ℕ) (n : ℕ) : Type 0 where
  pub put : Put before 0 (gaps_by f heads sets overruns) after n
