-- The rules are gone over from the first on: each has its head and its claim kept.
use Rattle.std.specs.Prelude.{Ok}
use mathlib.Core.Path.{◌≡◌, refl, sym, ap, ◌∙◌}
use mathlib.Core.Bool.{true}
use mathlib.Core.List.{List, map}
use mathlib.Core.Option.{some}
use Prim.Native.Nat.{ℕ, ◌+◌, ◌≤◌, ◌<◌}
use native.Mathlib.Omega.{arith}
use lib.ListN.{length, get_or, set}
use Rattle.word.specs.declared.Word.{Word}
use Rattle.word.specs.Words.{decoded}
use Rattle.grammar.specs.declared.reading.Sizes.{Sizes}
use Rattle.grammar.specs.Limits.{max_nonterminals, max_rules}
use Rattle.grammar.specs.Syntax.{Rule}
use Rattle.grammar.specs.Encoding.{grammar_of}
use Rattle.grammar.specs.Reading.{reading}
use Rattle.grammar.specs.inner.Starts.{rule_starts}
use Rattle.admission.specs.Admission.{admission}
use Rattle.grammar.specs.inner.WellRead.{head_of, WellRead}
use Rattle.grammar.proofs.WellRead.{well_read}
use Rattle.lookahead.specs.declared.Lookahead.{Lookahead}
use Rattle.lookahead.specs.Lookaheads.{tokens}
use Rattle.lookahead.specs.inner.Lookaheads.{alphabet}
use Rattle.lookahead.specs.inner.Operations.{concat_numbers}
use Rattle.semantics.specs.FirstFollow.{follow}
use Rattle.semantics.proofs.families.Follow.{follow_lookahead}
use Rattle.semantics.proofs.descent.Outcomes.{nth_below, nth_mem}
use Rattle.families.specs.inner.RuleLists.{by_rule}
use Rattle.families.specs.inner.Rules.{ByRules, PassGiven}
use Rattle.families.specs.Sets.{follow_number}
use Rattle.families.specs.inner.Sets.{meet_number}
use Rattle.families.proofs.ByRules.{FilledTo, filled_next, filled_each, by_rule_is, by_rule_at}
use Rattle.families.proofs.FewTerminals.{admitted_read, few_terminals_lem}
use Rattle.families.proofs.HeadPasses.{rule_numbered, pass_first, its_head as pass_head, its_start, head_below}
use Rattle.base.proofs.Lists.{listed_long}
use Rattle.families.proofs.Numbers.{array_at}
use Rattle.claims.specs.inner.Claims.{claim_number, FamiliesGiven, AllKept}
use Rattle.claims.proofs.RuleClaims.{claim_found}

-- what is kept of rule q
abbrev pub head_by : List ℕ → ℕ → ℕ
head_by words q = (rule_numbered words q).head

abbrev pub claim_by : Lookahead → List ℕ → ℕ → ℕ
claim_by k words q = claim_number k (grammar_of words) (rule_numbered words q)

-- where a rule and its head stand, each fact on numbers by itself
module _ (k : Lookahead) (words : List ℕ) (z : Sizes) (read : admission k words ≡ Ok z) where
  pub few_rules : z.rules ≤ max_rules
  few_rules = (well_read words z (admitted_read k words read)).few_rules

  module _ (starts : List ℕ) (rule : ℕ) (begins : starts ≡ rule_starts words) (h : rule < z.rules) where
    pub start_inside : get_or starts rule 0 < length words
    start_inside = its_start (pass_first (admitted_read k words read) begins) true h refl

    pub head_few : (w : Word) (head : ℕ) → w ≡ decoded (get_or words (get_or starts rule 0) 0) → head ≡ head_of w → head < max_nonterminals
    head_few w head e f = head_below (pass_first (admitted_read k words read) begins) true h refl e f

-- the invariant: the rules before i have had their heads and claims kept
pub record Keeping (k : Lookahead) (words : List ℕ) (n : ℕ) (heads sets : List ℕ) (i : ℕ) : Type 0 where
  pub own : FilledTo (head_by words) n true heads i
  pub claims : FilledTo (claim_by k words) n true sets i

module _ {k : Lookahead} {words : List ℕ} {z : Sizes} {starts meets follows : List ℕ} (g : FamiliesGiven k words z starts meets follows) where
  pub read : reading words ≡ Ok z
  read = admitted_read k words g.read

  known : WellRead words z
  known = well_read words z read

  pub few : (grammar_of words).terminals ≤ alphabet k
  few = few_terminals_lem k words g.read

  pub follow_is : (A : ℕ) → get_or follows A 0 ≡ follow_number k (grammar_of words) A
  unfolding follow_number
  follow_is A =
      let G = grammar_of words in
      let many : G.nonterminals ≤ max_nonterminals = omega (arith, known.few_nonterminals, known.nonterminals) in
      rw g.follow (array_at k G few (follow G (tokens k)) (follow_lookahead G (tokens k)) many A)

  pub pass : PassGiven words starts z follows
  pass = record { read = read; begins = g.begins; long = ap length g.follow ∙ listed_long max_nonterminals (follow_number k (grammar_of words)) }

  -- the rule that has its turn
  module _ {i : ℕ} (h : i < z.rules) where
    module _ {w : Word} {head : ℕ} (e : w ≡ decoded (get_or words (get_or starts i 0) 0)) (f : head ≡ head_of w) where
      its_head : head ≡ head_by words i
      its_head = pass_head pass true h refl e f

      -- its claim, by what its positives can all begin with and by what may follow its head
      its_claim : {claim : ℕ} → claim ≡ concat_numbers k (get_or meets i 0) (get_or follows head 0) → claim ≡ claim_by k words i
      its_claim c =
          let G = grammar_of words in
          let r = rule_numbered words i in
          let begins = known.begins i h in
          let meet : get_or meets i 0 ≡ meet_number k G r = rw g.met (by_rule_at (meet_number k G) G.rules i r begins) in
          c ∙ rw (meet, follow_is head, its_head) (claim_found k G known.formed few r (nth_mem G.rules i r begins))

      pub keeping_next : {heads sets heads' sets' : List ℕ} {claim : ℕ} → Keeping k words z.rules heads sets i
          → claim ≡ concat_numbers k (get_or meets i 0) (get_or follows head 0) → heads' ≡ set heads i head → sets' ≡ set sets i claim
          → Keeping k words z.rules heads' sets' (i + 1)
      keeping_next {claim = claim} v c a b = record {
        own = filled_next true head known.few_rules v.own h a its_head;
        claims = filled_next true claim known.few_rules v.claims h b (its_claim c);
      }

  -- all rules have had their turn
  pub keeping_end : {heads sets : List ℕ} {i : ℕ} → Keeping k words z.rules heads sets i → z.rules ≤ i → AllKept k (grammar_of words) heads sets
  keeping_end {heads} {sets} v h = record {
    own = all (λ r. r.head) v.own.room (λ q b. filled_each true v.own h q b);
    claims = all (claim_number k (grammar_of words)) v.claims.room (λ q b. filled_each true v.claims h q b);
  }
    where
      same : {x y : Rule} → some x ≡ some y → x ≡ y
      same e = cc

      all : (f : Rule → ℕ) {l : List ℕ} → ByRules z.rules l → ((q : ℕ) → q < z.rules → get_or l q 0 ≡ f (rule_numbered words q))
          → l ≡ by_rule (map f (grammar_of words).rules)
      all f room each =
          by_rule_is f (grammar_of words).rules (omega (arith, known.rules, known.few_rules)) (rw known.rules at room)
          (λ q r s.
          let low : q < z.rules = omega (arith, nth_below (grammar_of words).rules q r s, known.rules) in
          each q low ∙ ap f (same (sym (known.begins q low) ∙ s)))
