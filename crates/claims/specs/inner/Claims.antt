-- What each rule claims, as a number: found once, so that conflicts, entries and the table's words are read off it.
use Rattle.std.specs.Prelude.{Ok, Result, ◌≡◌, Bool, ◌&&◌, List, map, ℕ, ◌≤◌, ◌<◌, eqb, get_or, replicate}
use Rattle.std.proofs.Math.Option.{Option, none, some}
use Rattle.answer.specs.declared.Error.{Error}
use Rattle.grammar.specs.declared.reading.Sizes.{Sizes}
use Rattle.grammar.specs.Encoding.{grammar_of}
use Rattle.grammar.specs.Limits.{max_nonterminals, max_rules}
use Rattle.grammar.specs.inner.Starts.{rule_starts}
use Rattle.grammar.specs.Syntax.{Rule, Grammar}
use Rattle.lookahead.specs.declared.Lookahead.{Lookahead}
use Rattle.lookahead.specs.Lookaheads.{tokens}
use Rattle.lookahead.specs.Elements.{has}
use Rattle.base.specs.FiniteSets.{member}
use Rattle.base.specs.Strings.{same_string}
use Rattle.semantics.specs.Claims.{claimed, overruns}
use Rattle.admission.specs.Admission.{admission}
use Rattle.families.specs.Analysis.{sets_fault, finding_of}
use Rattle.families.specs.inner.Analysis.{starts_if, by_rule_if, sets_if}
use Rattle.base.specs.Lists.{listed}
use Rattle.families.specs.inner.RuleLists.{by_rule}
use Rattle.families.specs.Sets.{set_number, first_number, follow_number}
use Rattle.families.specs.inner.Sets.{meet_numbers}
use Rattle.claims.specs.inner.Overruns.{overrun_set}

-- the strings that a rule claims for its head, as a number (document 01: the columns that a rule claims)
unfoldable pub claim_number : Lookahead → Grammar → Rule → ℕ
claim_number k G r = set_number k (member same_string (claimed G (tokens k) r))

abbrev pub heads_of : Grammar → List ℕ
heads_of G = map (λ r. r.head) G.rules

abbrev pub claim_numbers : Lookahead → Grammar → List ℕ
claim_numbers k G = map (claim_number k G) G.rules

-- for each nonterminal the first terminal's set where it overruns, else the empty one
abbrev pub overruns_of : Lookahead → Grammar → List ℕ
overruns_of k G = listed max_nonterminals (λ A. overrun_set k (overruns G (tokens k) A))

abbrev pub overruns_if : Option Error → List ℕ → List ℕ
overruns_if none l = l
overruns_if (some e) l = replicate max_nonterminals 0

-- its finding, where its rules begin, its sets; for each rule its head and what it claims, and for each nonterminal what is reported of it
pub record Claims : Type 0 where
  pub finding : Result Sizes Error
  pub starts : List ℕ
  pub firsts : List ℕ
  pub follows : List ℕ
  pub heads : List ℕ
  pub sets : List ℕ
  pub overruns : List ℕ

abbrev pub claims_with : Result Sizes Error → List ℕ → List ℕ → List ℕ → List ℕ → List ℕ → List ℕ → Claims
claims_with f starts firsts follows heads sets told =
    record { finding = f; starts = starts; firsts = firsts; follows = follows; heads = heads; sets = sets; overruns = told }

-- what is found of an encoded grammar: the first fault among the errors 3 to 8, 13 and 18, or its sizes, where its rules begin, its sets, the head
-- and the claim of each rule, and the nonterminals that overrun
unfoldable pub claims_of : Lookahead → List ℕ → Claims
claims_of k words =
    claims_with (finding_of (sets_fault k words) (admission k words)) (starts_if (sets_fault k words) (rule_starts words))
    (sets_if (sets_fault k words) (listed max_nonterminals (first_number k (grammar_of words))))
    (sets_if (sets_fault k words) (listed max_nonterminals (follow_number k (grammar_of words))))
    (by_rule_if (sets_fault k words) (heads_of (grammar_of words)))
    (by_rule_if (sets_fault k words) (claim_numbers k (grammar_of words))) (overruns_if (sets_fault k words) (overruns_of k (grammar_of words)))

-- by heads and claims: rule q claims an element for A
unfoldable pub claimant : (heads sets : List ℕ) → ℕ → ℕ → ℕ → Bool
claimant heads sets A l q = eqb (get_or heads q 0) A && has (get_or sets q 0) l

-- the heads of so many rules are nonterminals
pub record Headed (heads : List ℕ) (rules nonterminals : ℕ) : Type 0 where
  pub few : rules ≤ max_rules
  pub own : (q : ℕ) → q < rules → get_or heads q 0 < nonterminals
  pub allowed : nonterminals ≤ max_nonterminals

-- a grammar that is admitted, where its rules begin, what the positives of each can all begin with, and its follow sets
pub record FamiliesGiven (k : Lookahead) (words : List ℕ) (z : Sizes) (starts meets follows : List ℕ) : Type 0 where
  pub read : admission k words ≡ Ok z
  pub begins : starts ≡ rule_starts words
  pub met : meets ≡ by_rule (meet_numbers k (grammar_of words))
  pub follow : follows ≡ listed max_nonterminals (follow_number k (grammar_of words))

-- the heads and the claims of all rules are kept
pub record AllKept (k : Lookahead) (G : Grammar) (heads sets : List ℕ) : Type 0 where
  pub own : heads ≡ by_rule (heads_of G)
  pub claims : sets ≡ by_rule (claim_numbers k G)
