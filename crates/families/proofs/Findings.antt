-- What is found of an encoded grammar, by what its parts find.
use Rattle.std.specs.Prelude.{Err, None, Ok, Option, Result, Some}
use mathlib.Core.Path.{◌≡◌, refl, sym, ap, ◌∙◌}
use mathlib.Core.List.{List}
use mathlib.Core.Option.{Option as Maybe, none, some}
use Prim.Native.Nat.{ℕ, min}
use lib.ListN.{replicate}
use native.Mathlib.Omega.{arith}
use Rattle.answer.specs.declared.Error.{Error}
use Rattle.answer.specs.declared.Error.TheVariants.{LeftRecursive, Unproductive}
use Rattle.answer.proofs.Faults.{none_some}
use Rattle.base.specs.Quantifiers.{lowest}
use Rattle.grammar.specs.Limits.{max_nonterminals}
use Rattle.grammar.specs.Encoding.{grammar_of}
use Rattle.grammar.specs.inner.Starts.{rule_starts}
use Rattle.lookahead.specs.declared.Lookahead.{Lookahead}
use Rattle.admission.specs.Admission.{admission}
use Rattle.grammar.specs.declared.reading.Sizes.{Sizes}
use Rattle.families.specs.declared.Families.{Families}
use Rattle.families.specs.declared.Flaw.TheVariants as flaw
use Rattle.base.specs.Lists.{listed}
use Rattle.families.specs.inner.RuleLists.{by_rule}
use Rattle.families.specs.inner.Flaws.{flaw_in, lowest_of, finding_in}
use Rattle.families.specs.Sets.{first_number, follow_number}
use Rattle.families.specs.inner.Sets.{meet_numbers, reach_number}
use Rattle.families.specs.Analysis.{reading_fault, sets_fault, finding_of}
use Rattle.families.specs.inner.Analysis.{starts_if, by_rule_if, sets_if, families, refused_by, with_follows, first_families_of, families_of}

-- a reading without a fault is read
pub read_some : (o : Result Sizes Error) → reading_fault o ≡ none → (z : Sizes) × (o ≡ Ok z)
read_some (Ok z) e = (z, refl)
read_some (Err x) e = absurd (none_some (sym e))

pub firsts_faulty : (k : Lookahead) (words : List ℕ) {e : Error} {o : Result Sizes Error} → o ≡ admission k words → o ≡ Err e
    → refused_by e ≡ first_families_of k words
unfolding first_families_of sets_fault
firsts_faulty k words r f = rw (sym r ∙ f)

-- the lowest nonterminal that is reported
lowest_none : (o : Maybe ℕ) {l : Option ℕ} → l ≡ lowest_of o → l ≡ None → o ≡ none
lowest_none none e a = refl
lowest_none (some A) e a = let z : ◌≡◌ {A = ℕ} 0 1 = cc in absurd (omega arith)

lowest_some : (o : Maybe ℕ) {l : Option ℕ} {A : ℕ} → l ≡ lowest_of o → l ≡ Some A → o ≡ some A
lowest_some none e a = let z : ◌≡◌ {A = ℕ} 0 1 = cc in absurd (omega arith)
lowest_some (some B) {l} {A} e a = let z : B ≡ A = cc in ap some z

-- what is found by the lowest nonterminals with each flaw
module _ (z : Sizes) (firsts reaches : List ℕ) {n : ℕ} {l m : Option ℕ} (all : n ≡ min z.nonterminals max_nonterminals)
    (e : l ≡ lowest_of (lowest n (flaw_in flaw.LeftRecursive firsts reaches))) (d : m ≡ lowest_of (lowest n (flaw_in flaw.Unproductive firsts reaches))) where
  abbrev recursive : Maybe ℕ
  recursive = lowest (min z.nonterminals max_nonterminals) (flaw_in flaw.LeftRecursive firsts reaches)

  abbrev unproductive : Maybe ℕ
  unproductive = lowest (min z.nonterminals max_nonterminals) (flaw_in flaw.Unproductive firsts reaches)

  pub found_recursive : {A : ℕ} → l ≡ Some A → Err (LeftRecursive A) ≡ finding_in z firsts reaches
  found_recursive a = rw (lowest_some recursive (rw all at e) a)

  pub found_unproductive : {A : ℕ} → l ≡ None → m ≡ Some A → Err (Unproductive A) ≡ finding_in z firsts reaches
  found_unproductive a b = rw (lowest_none recursive (rw all at e) a, lowest_some unproductive (rw all at d) b)

  pub found_flawless : l ≡ None → m ≡ None → Ok z ≡ finding_in z firsts reaches
  found_flawless a b = rw (lowest_none recursive (rw all at e) a, lowest_none unproductive (rw all at d) b)

-- where first sets are found there is no fault, and what is found is the grammar's
pub record FoundFirsts (k : Lookahead) (words : List ℕ) (z : Sizes) (r : Families) : Type 0 where
  pub read : admission k words ≡ Ok z
  pub faultless : sets_fault k words ≡ none
  pub begins : r.starts ≡ rule_starts words
  pub first : r.firsts ≡ listed max_nonterminals (first_number k (grammar_of words))
  pub met : r.meets ≡ by_rule (meet_numbers k (grammar_of words))

-- so with follow sets
pub record FoundFamilies (k : Lookahead) (words : List ℕ) (z : Sizes) (r : Families) : Type 0 where
  pub firsts : FoundFirsts k words z r
  pub follow : r.follows ≡ listed max_nonterminals (follow_number k (grammar_of words))

-- a finding without an error tells that there is no fault
pub told_passed : (f : Maybe Error) (o : Result Sizes Error) {z : Sizes} → finding_of f o ≡ Ok z → (f ≡ none) × (o ≡ Ok z)
told_passed none (Ok y) {z} q = let e : y ≡ z = cc in (refl, ap Ok e)
told_passed none (Err x) q = let n : ◌≡◌ {A = ℕ} 0 1 = cc in absurd (omega arith)
told_passed (some x) o q = let n : ◌≡◌ {A = ℕ} 0 1 = cc in absurd (omega arith)

pub firsts_told : (k : Lookahead) (words : List ℕ) {r : Families} {z : Sizes} → r ≡ first_families_of k words → r.finding ≡ Ok z
    → FoundFirsts k words z r
unfolding first_families_of
firsts_told k words {r} {z} e q =
    let t = told_passed (sets_fault k words) (admission k words) (sym (ap (λ x. x.finding) e) ∙ q) in
    record {
      read = t.1;
      faultless = t.0;
      begins = ap (λ x. x.starts) e ∙ ap (λ f. starts_if f (rule_starts words)) t.0;
      first = ap (λ x. x.firsts) e ∙ ap (λ f. sets_if f (listed max_nonterminals (first_number k (grammar_of words)))) t.0;
      met = ap (λ x. x.meets) e ∙ ap (λ f. by_rule_if f (meet_numbers k (grammar_of words))) t.0;
    }

pub firsts_unfollowed : (k : Lookahead) (words : List ℕ) {r : Families} → r ≡ first_families_of k words → r.follows ≡ replicate max_nonterminals 0
unfolding first_families_of
firsts_unfollowed k words e = ap (λ x. x.follows) e

pub families_told : (k : Lookahead) (words : List ℕ) {r : Families} {z : Sizes} → r ≡ families_of k words → r.finding ≡ Ok z
    → FoundFamilies k words z r
unfolding families_of
families_told k words {r} {z} e q =
    let firsts = firsts_told k words {z = z} refl (sym (ap (λ x. x.finding) e) ∙ q) in
    record {
      firsts = rw e (record { read = firsts.read; faultless = firsts.faultless; begins = firsts.begins; first = firsts.first; met = firsts.met });
      follow = ap (λ x. x.follows) e ∙ ap (λ f. sets_if f (listed max_nonterminals (follow_number k (grammar_of words)))) firsts.faultless;
    }

-- and a refusal is the fault, wherever a faulty reading is the first fault
pub told_refused : (f : Maybe Error) (o : Result Sizes Error) {x : Error} → ((e : Error) → o ≡ Err e → f ≡ some e) → finding_of f o ≡ Err x → f ≡ some x
told_refused (some y) o {x} first q = let e : y ≡ x = cc in ap some e
told_refused none (Ok z) first q = let n : ◌≡◌ {A = ℕ} 0 1 = cc in absurd (omega arith)
told_refused none (Err e) first q = let n : ◌≡◌ {A = ℕ} 0 1 = cc (first e refl) in absurd (omega arith)

-- a faulty reading is
found_fault : (k : Lookahead) (words : List ℕ) {x : Error} → finding_of (sets_fault k words) (admission k words) ≡ Err x → sets_fault k words ≡ some x
unfolding sets_fault
found_fault k words q = told_refused (sets_fault k words) (admission k words) (λ y f. rw f) q

firsts_refused : (k : Lookahead) (words : List ℕ) {r : Families} {x : Error} → r ≡ first_families_of k words
    → r.finding ≡ Err x → sets_fault k words ≡ some x
unfolding first_families_of
firsts_refused k words e q = found_fault k words (sym (ap (λ x. x.finding) e) ∙ q)

pub families_refused : (k : Lookahead) (words : List ℕ) {r : Families} {x : Error} → r ≡ families_of k words
    → r.finding ≡ Err x → sets_fault k words ≡ some x
unfolding families_of
families_refused k words e q = firsts_refused k words refl (sym (ap (λ x. x.finding) e) ∙ q)

-- so for what is found of a grammar, first sets alone
module _ (k : Lookahead) (words : List ℕ) {f : Result Sizes Error} (e : f ≡ finding_of (sets_fault k words) (admission k words)) where
  pub firsts_flawed : {x : Error} → f ≡ Err x → refused_by x ≡ first_families_of k words
  unfolding first_families_of
  firsts_flawed q = rw (found_fault k words (sym e ∙ q))

  pub firsts_found : {z : Sizes} {starts firsts meets reaches : List ℕ} → f ≡ Ok z → starts ≡ rule_starts words
      → firsts ≡ listed max_nonterminals (first_number k (grammar_of words)) → meets ≡ by_rule (meet_numbers k (grammar_of words))
      → reaches ≡ listed max_nonterminals (reach_number (grammar_of words))
      → families f starts firsts meets (replicate max_nonterminals 0) reaches ≡ first_families_of k words
  unfolding first_families_of
  firsts_found q s a n c = let t = told_passed (sets_fault k words) (admission k words) (sym e ∙ q) in rw (e, t.0, s, a, n, c)

-- and with follow sets, if it is not refused
module _ (k : Lookahead) (words : List ℕ) {r : Families} (e : r ≡ first_families_of k words) where
  pub families_flawed : {x : Error} → r.finding ≡ Err x → r ≡ families_of k words
  unfolding families_of first_families_of
  families_flawed q = e ∙ rw (firsts_refused k words e q)

  pub families_found : {z : Sizes} {follows : List ℕ} → r.finding ≡ Ok z → follows ≡ listed max_nonterminals (follow_number k (grammar_of words))
      → with_follows r follows ≡ families_of k words
  unfolding families_of
  families_found {z} q b = rw (e, (firsts_told k words {z = z} e q).faultless, b)
