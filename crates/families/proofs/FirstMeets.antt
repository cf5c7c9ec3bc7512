-- A pass that adds nothing to the first sets has kept, for each rule, what its positives can all begin with by these sets.
use Rattle.std.specs.Prelude.{Ok}
use mathlib.Core.Path.{◌≡◌, refl, sym, fun_ext, ◌∙◌}
use mathlib.Core.Bool.{Bool, true, false, true≢false, ◌||◌}
use mathlib.Core.List.{List}
use mathlib.Core.Option.{some}
use Prim.Native.Nat.{ℕ, ◌+◌, ◌≤◌, ◌<◌}
use native.Mathlib.Omega.{arith}
use lib.ListN.{get_or, get_elem?, set}
use Rattle.grammar.specs.declared.reading.Sizes.{Sizes}
use Rattle.grammar.specs.Limits.{max_nonterminals, max_rules}
use Rattle.grammar.specs.Syntax.{Rule}
use Rattle.grammar.specs.Encoding.{grammar_of}
use Rattle.grammar.specs.inner.WellRead.{WellRead}
use Rattle.grammar.proofs.WellRead.{well_read}
use Rattle.admission.specs.Admission.{admission}
use Rattle.lookahead.specs.declared.Lookahead.{Lookahead}
use Rattle.lookahead.specs.Lookaheads.{tokens}
use Rattle.semantics.specs.FirstFollow.{first}
use Rattle.semantics.proofs.families.First.{first_lookahead}
use Rattle.semantics.proofs.descent.Outcomes.{nth_below, nth_mem}
use Rattle.families.specs.inner.First.{rule_first, RulesMet}
use Rattle.families.specs.inner.Least.{at}
use Rattle.base.specs.Lists.{listed}
use Rattle.families.specs.inner.RuleLists.{by_rule}
use Rattle.families.specs.inner.Rules.{turn_of, rule_from, ByRules, PassGiven}
use Rattle.families.specs.Sets.{first_number}
use Rattle.families.specs.inner.Sets.{meet_number, meet_numbers}
use Rattle.families.proofs.ByRules.{FilledTo, filled_next, filled_each, store_room, by_rule_is}
use Rattle.families.proofs.FewTerminals.{admitted_read, few_terminals_lem}
use Rattle.families.proofs.FirstPasses.{rule_gives}
use Rattle.families.proofs.HeadPasses.{rule_numbered}
use Rattle.families.proofs.Numbers.{array_at}
use Rattle.families.proofs.RulePasses.{turn_below}
use Rattle.families.proofs.StringLists.{meet_number_lem}

-- what rule q gives by an array of sets
abbrev pub given_by : Lookahead → ℕ → List ℕ → List ℕ → ℕ → ℕ
given_by k t words l q = rule_gives k t (at l) (rule_numbered words q)

-- in a pass over n rules: nothing is reported of what is kept once a set has grown
pub record Meeting (k : Lookahead) (t : ℕ) (words : List ℕ) (n : ℕ) (forward : Bool) (l₀ meets : List ℕ) (grown : Bool) (i : ℕ) : Type 0 where
  pub room : ByRules n meets
  pub kept : grown ≡ false → FilledTo (given_by k t words l₀) n forward meets i

module _ {words starts : List ℕ} {z : Sizes} {l₀ : List ℕ} (p : PassGiven words starts z l₀) (forward : Bool) where
  few : z.rules ≤ max_rules
  few = (well_read words z p.read).few_rules

  pub meeting_next : {k : Lookahead} {t : ℕ} {l meets meets' : List ℕ} (g g' : Bool) {r : Bool} {i rule v : ℕ}
      → Meeting k t words z.rules forward l₀ meets g i
      → (g ≡ false → l ≡ l₀) → i < z.rules → rule ≡ turn_of forward z.rules i → v ≡ rule_gives k t (at l) (rule_from words (get_or starts rule 0))
      → meets' ≡ set meets rule v → r ≡ (g || g') → Meeting k t words z.rules forward l₀ meets' r (i + 1)
  meeting_next {k} {t} {l} {meets} {meets'} g g' {r} {i} {rule} {v} m same h turn e store told =
      record { room = store_room v few m.room (turn_below forward z.rules i h) here; kept = λ f. go g m same (sym told ∙ f) }
    where
      here : meets' ≡ set meets (turn_of forward z.rules i) v
      here = rw turn at store

      go : (g : Bool) → Meeting k t words z.rules forward l₀ meets g i → (g ≡ false → l ≡ l₀) → (g || g') ≡ false
          → FilledTo (given_by k t words l₀) z.rules forward meets' (i + 1)
      go true m same f = absurd (true≢false f)
      go false m same f =
          filled_next forward v few (m.kept refl) h here (e ∙ rw (same refl, p.begins, turn))

  pub meeting_end : {k : Lookahead} {t : ℕ} {l meets : List ℕ} {grown : Bool} {i : ℕ} → Meeting k t words z.rules forward l₀ meets grown i → z.rules ≤ i
      → (grown ≡ false → l ≡ l₀) → RulesMet k t words z.rules l meets grown
  meeting_end m h same = record { room = m.room; each = λ f q b. rw (same f) (filled_each forward (m.kept f) h q b) }

-- by the first sets of a grammar that is admitted these are the numbers of its meetings
module _ (k : Lookahead) (words : List ℕ) (z : Sizes) (taken : admission k words ≡ Ok z) {firsts : List ℕ}
    (f : firsts ≡ listed max_nonterminals (first_number k (grammar_of words))) where
  known : WellRead words z
  known = well_read words z (admitted_read k words taken)

  firsts_are : at firsts ≡ first_number k (grammar_of words)
  unfolding first_number
  firsts_are =
      let G = grammar_of words in
      let many : G.nonterminals ≤ max_nonterminals = omega (arith, known.few_nonterminals, known.nonterminals) in
      rw f (fun_ext (array_at k G (few_terminals_lem k words taken) (first G (tokens k)) (first_lookahead G (tokens k)) many))

  rule_meets : (q : ℕ) (r : Rule) → get_elem? (grammar_of words).rules q ≡ some r
      → rule_first k z.terminals (at firsts) (rule_numbered words q).positives ≡ meet_number k (grammar_of words) r
  rule_meets q r s =
      let G = grammar_of words in
      let low : q < z.rules = omega (arith, nth_below G.rules q r s, known.rules) in
      let is : rule_numbered words q ≡ r = same (sym (known.begins q low) ∙ s) in
      rw (known.terminals, firsts_are, is) (meet_number_lem k G known.formed (few_terminals_lem k words taken) r (nth_mem G.rules q r s))
    where
      same : {x y : Rule} → some x ≡ some y → x ≡ y
      same e = cc

  pub meets_listed : {meets : List ℕ} {grown : Bool} → grown ≡ false → RulesMet k z.terminals words z.rules firsts meets grown
      → meets ≡ by_rule (meet_numbers k (grammar_of words))
  meets_listed e m =
      let G = grammar_of words in
      by_rule_is (meet_number k G) G.rules (omega (arith, known.rules, known.few_rules)) (rw known.rules at m.room)
      (λ q r s. m.each e q (omega (arith, nth_below G.rules q r s, known.rules)) ∙ rule_meets q r s)
