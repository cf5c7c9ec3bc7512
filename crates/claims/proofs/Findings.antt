-- What is found of an encoded grammar, by its families, by the heads and the claims of its rules and by the nonterminals that overrun, and what that tells.
use Rattle.std.specs.Prelude.{Err, Ok}
use mathlib.Core.Path.{◌≡◌, sym, ap, ◌∙◌}
use mathlib.Core.List.{List}
use mathlib.Core.Option.{none}
use Prim.Native.Nat.{ℕ}
use lib.ListN.{replicate}
use Rattle.answer.specs.declared.Error.{Error}
use Rattle.grammar.specs.Encoding.{grammar_of}
use Rattle.grammar.specs.Limits.{max_nonterminals, max_rules}
use Rattle.grammar.specs.inner.Starts.{rule_starts}
use Rattle.grammar.specs.declared.reading.Sizes.{Sizes}
use Rattle.lookahead.specs.declared.Lookahead.{Lookahead}
use Rattle.admission.specs.Admission.{admission}
use Rattle.families.specs.declared.Families.{Families}
use Rattle.families.specs.Analysis.{sets_fault}
use Rattle.families.specs.inner.Analysis.{starts_if, by_rule_if, sets_if, first_families_of, families_of}
use Rattle.base.specs.Lists.{listed}
use Rattle.families.specs.inner.RuleLists.{by_rule}
use Rattle.families.specs.Sets.{first_number, follow_number}
use Rattle.base.proofs.Lists.{listed_is}
use Rattle.families.proofs.FewTerminals.{admitted_read}
use Rattle.families.proofs.Findings.{FoundFamilies, told_passed, families_refused}
use Rattle.claims.specs.inner.Claims.{heads_of, claim_numbers, overruns_of, overruns_if, Claims, claims_with, claims_of, FamiliesGiven, AllKept}
use Rattle.claims.specs.inner.Overruns.{HeadsGiven, Overrunning}
use Rattle.claims.proofs.OverrunSets.{overruns_told}

-- the families that are found: a grammar to go on with, or a refusal
pub given : {k : Lookahead} {words : List ℕ} {z : Sizes} {r : Families} → FoundFamilies k words z r
    → FamiliesGiven k words z r.starts r.meets r.follows
given f = let g = f.firsts in record { read = g.read; begins = g.begins; met = g.met; follow = f.follow }

pub refused_claims : (k : Lookahead) (words : List ℕ) {r : Families} {x : Error} → r ≡ families_of k words → r.finding ≡ Err x
    → claims_with r.finding r.starts r.firsts r.follows (replicate max_rules 0) (replicate max_rules 0) (replicate max_nonterminals 0)
    ≡ claims_of k words
unfolding claims_of families_of first_families_of
refused_claims k words {r} e q = rw (e, families_refused k words e q)

pub heads_given : {k : Lookahead} {words : List ℕ} {z : Sizes} {r : Families} {heads sets : List ℕ} → FoundFamilies k words z r
    → AllKept k (grammar_of words) heads sets → HeadsGiven words r.starts heads z
heads_given {k} {words} f p = record { read = admitted_read k words f.firsts.read; begins = f.firsts.begins; own = p.own }

pub all_claims : {k : Lookahead} {words : List ℕ} {z : Sizes} {r : Families} {heads sets told : List ℕ} → FoundFamilies k words z r
    → AllKept k (grammar_of words) heads sets → Overrunning k (grammar_of words).rules r.follows told
    → claims_with (Ok z) r.starts r.firsts r.follows heads sets told ≡ claims_of k words
unfolding claims_of
all_claims {told = told} f p o =
    let g = f.firsts in
    rw (g.read, g.faultless, g.begins, g.first, f.follow, p.own, p.claims, listed_is max_nonterminals _ told o.long (overruns_told (given f) o))

-- what claims that are found tell
pub record Claimed (k : Lookahead) (words : List ℕ) (z : Sizes) (r : Claims) : Type 0 where
  pub read : admission k words ≡ Ok z
  pub faultless : sets_fault k words ≡ none
  pub begins : r.starts ≡ rule_starts words
  pub first : r.firsts ≡ listed max_nonterminals (first_number k (grammar_of words))
  pub follow : r.follows ≡ listed max_nonterminals (follow_number k (grammar_of words))
  pub own : r.heads ≡ by_rule (heads_of (grammar_of words))
  pub claims : r.sets ≡ by_rule (claim_numbers k (grammar_of words))
  pub told : r.overruns ≡ overruns_of k (grammar_of words)

pub claims_told : (k : Lookahead) (words : List ℕ) {r : Claims} → r ≡ claims_of k words → {z : Sizes} → r.finding ≡ Ok z → Claimed k words z r
unfolding claims_of
claims_told k words e q =
    let p = told_passed (sets_fault k words) (admission k words) (sym (ap (λ x. x.finding) e) ∙ q) in
    let G = grammar_of words in
    record {
      read = p.1;
      faultless = p.0;
      begins = ap (λ x. x.starts) e ∙ ap (λ f. starts_if f (rule_starts words)) p.0;
      first = ap (λ x. x.firsts) e ∙ ap (λ f. sets_if f (listed max_nonterminals (first_number k G))) p.0;
      follow = ap (λ x. x.follows) e ∙ ap (λ f. sets_if f (listed max_nonterminals (follow_number k G))) p.0;
      own = ap (λ x. x.heads) e ∙ ap (λ f. by_rule_if f (heads_of G)) p.0;
      claims = ap (λ x. x.sets) e ∙ ap (λ f. by_rule_if f (claim_numbers k G)) p.0;
      told = ap (λ x. x.overruns) e ∙ ap (λ f. overruns_if f (overruns_of k G)) p.0;
    }
