-- The sheet of gaps and overlaps (document 02, P3): a line for each entry that no rule claims and for each that two or more claim, and
-- then one for each nonterminal that overruns.
use Rattle.std.specs.Prelude.{Err, Ok, Result, ◌≡◌, Bool, false, not, ◌↔◌, ℕ, ◌≤◌, ◌<◌, T, eqb, length}
use Rattle.answer.specs.declared.Error.{Error}
use Rattle.grammar.specs.declared.reading.Sizes.{Sizes}
use mathlib.Core.List.{List, [], ◌∷◌, ◌++◌, flat_map, Memᴰ}
use Rattle.std.proofs.Math.Option.{Option, none, some}
use Rattle.std.proofs.Math.ListN.{get_elem?}
use Rattle.grammar.specs.Encoding.{grammar_of}
use Rattle.grammar.specs.Reading.{reading}
use Rattle.grammar.specs.Syntax.{Rule, Grammar}
use Rattle.lookahead.specs.declared.Lookahead.TheVariants.{One}
use Rattle.base.specs.FiniteSets.{Distinct, keep, numbers_below}
use Rattle.semantics.specs.Claims.{claims, overruns, column}
use Rattle.semantics.specs.Families.{Claims, Overrun}
use Rattle.semantics.specs.FirstFollow.{Entry, entries, First, Follow}
use Rattle.families.specs.Analysis.{sets_fault, finding_of}
use Rattle.table_promises.specs.Analysis.{fault}
use Rattle.text.specs.Ascii.{ascii}
use Rattle.text.specs.Decimal.{decimal, labelled}
use Rattle.refusal_text.specs.Refusal.{refusal_text}

abbrev pub on_rule : Option Rule → (Rule → Bool) → Bool
on_rule none p = false
on_rule (some r) p = p r

-- rule q claims an entry
unfoldable pub claims_by : Grammar → Entry → ℕ → Bool
claims_by G e q = on_rule (get_elem? G.rules q) (claims G 1 e)

-- the numbers of the rules that claim it, in order
unfoldable pub claimants : Grammar → Entry → List ℕ
claimants G e = keep (claims_by G e) (numbers_below (length G.rules))

-- numbers behind spaces, or a dash where there are none
abbrev pub rules_text : List ℕ → List ℕ
rules_text [] = ascii " -"
rules_text (q ∷ qs) = flat_map (labelled " ") (q ∷ qs)

-- the line of an entry: nonterminal, column, and the rules that claim it
unfoldable pub gap_text : Grammar → Entry → List ℕ
gap_text G e = decimal e.0 ++ labelled " " (column G.terminals e.1) ++ rules_text (claimants G e) ++ ascii "\n"

-- the line of a nonterminal that overruns
unfoldable pub overrun_text : ℕ → List ℕ
overrun_text A = decimal A ++ ascii "\n"

abbrev pub is_listed : List ℕ → Bool
is_listed qs = not (eqb (length qs) 1)

-- the entries that not just one rule claims, by nonterminal, then column, the end's column last
unfoldable pub listed_entries : Grammar → List Entry
listed_entries G = keep (λ e. is_listed (claimants G e)) (entries G 1)

-- the nonterminals that overrun, the lowest first
unfoldable pub listed_overruns : Grammar → List ℕ
listed_overruns G = keep (overruns G 1) (numbers_below G.nonterminals)

unfoldable pub gaps_lines : Grammar → List ℕ
gaps_lines G = flat_map (gap_text G) (listed_entries G) ++ flat_map overrun_text (listed_overruns G)

abbrev pub found_text : Result Sizes Error → Grammar → List ℕ
found_text (Ok z) G = gaps_lines G
found_text (Err e) G = refusal_text e

-- what is printed of an encoded grammar; only the errors 3 to 8 and 13 are refusals
unfoldable pub gaps_text : List ℕ → List ℕ
gaps_text words = found_text (finding_of (sets_fault One words) (reading words)) (grammar_of words)

-- no entry has two rules, and no nonterminal overruns
pub record NoneShown (G : Grammar) : Type 0 where
  pub overlap : (e : Entry) → Memᴰ e (entries G 1) → length (claimants G e) ≤ 1
  pub overrun : (A : ℕ) → A < G.nonterminals → overruns G 1 A ≡ false

-- what the lines of a grammar tell: each entry and each nonterminal is listed once; which rules claim an entry and which nonterminals
-- overrun, by the FIRST and FOLLOW sets; and neither an overlap nor such a nonterminal is shown exactly when 9 would not be given
-- need not be believed: claims_by (claimed); overruns (overrun)
pub record LinesTell (words : List ℕ) : Type 0 where
  pub entries_once : Distinct (listed_entries (grammar_of words))
  pub overruns_once : Distinct (listed_overruns (grammar_of words))
  pub claimed : (e : Entry) (q : ℕ) → T (claims_by (grammar_of words) e q)
      ↔ Claims (grammar_of words) 1 (First (grammar_of words) 1) (Follow (grammar_of words) 1) q e.0 e.1
  pub overrun : (A : ℕ) → T (overruns (grammar_of words) 1 A) ↔ Overrun (grammar_of words) (Follow (grammar_of words) 1) A
  pub nine : sets_fault One words ≡ none → NoneShown (grammar_of words) ↔ (fault One words ≡ none)
