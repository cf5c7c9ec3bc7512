-- From what is found of each rule and of each nonterminal to the text of the grammar.
use Rattle.std.specs.Prelude.{Err, Ok, Result}
use mathlib.Core.Path.{◌≡◌, refl, sym, ap, ap₂, ◌∙◌}
use mathlib.Core.Bool.{Bool, true, false}
use mathlib.Core.List.{List, ◌++◌}
use mathlib.Core.Option.{none, some}
use Prim.Native.Nat.{ℕ, suc, ◌+◌, ◌≤◌, ◌<◌}
use native.Mathlib.Omega.{arith}
use lib.ListN.{get_elem?}
use borrow.Author.Tests.{le-leb}
use Rattle.answer.specs.declared.Error.{Error}
use Rattle.base.proofs.Quantified.{count_cong}
use Rattle.grammar.specs.Encoding.{grammar_of}
use Rattle.grammar.specs.Limits.{max_nonterminals, max_terminals, max_rules}
use Rattle.grammar.specs.declared.reading.Sizes.{Sizes}
use Rattle.grammar.specs.Reading.{reading}
use Rattle.grammar.specs.Syntax.{Rule, Grammar}
use Rattle.grammar.specs.inner.WellRead.{WellRead}
use Rattle.grammar.proofs.WellRead.{well_read}
use Rattle.lookahead.specs.declared.Lookahead.TheVariants.{One}
use Rattle.lookahead.specs.inner.Lookaheads.{alphabet}
use Rattle.lookahead.specs.inner.Operations.{is_empty, terminal}
use Rattle.semantics.specs.Claims.{overruns}
use Rattle.families.specs.Analysis.{sets_fault}
use Rattle.families.specs.inner.Analysis.{by_rule_if}
use Rattle.families.specs.inner.RuleLists.{by_rule}
use Rattle.families.proofs.Findings.{told_passed, told_refused}
use Rattle.base.proofs.Lists.{listed_at}
use Rattle.claims.specs.inner.Claims.{heads_of, claim_numbers, overruns_of, overruns_if, Claims, claims_of}
use Rattle.columns.specs.inner.Columns.{column_element}
use Rattle.claims.specs.inner.Overruns.{overrun_set}
use Rattle.claims.proofs.Claimants.{claims_alike, told as rules_told}
use Rattle.columns.proofs.ColumnStrings.{column_string_lem, element_small}
use Rattle.refusal_text.specs.Refusal.{refusal_text}
use Rattle.text.specs.Writing.{Put}
use Rattle.gaps_text_promises.specs.Gaps.{claims_by, gaps_text}
use Rattle.gaps_text_promises.specs.inner.Gaps.{GapsPut}
use Rattle.gaps_text_promises.specs.inner.Steps.{claimant_text, numbers_text, claimants_text, entry_line, row_text, overrun_line, overruns_text, lines_text}
use Rattle.gaps_text_promises.specs.inner.Steps.{claims_at, claimant_at, overruns_by, overruns_in, within_limits, gaps_by, GapsPutBy}
use Rattle.gaps_text_promises.proofs.Entries.{up_to_same, lines_are}
use Rattle.gaps_text_promises.proofs.Overlaps.{lines_tell}

-- texts by tests that agree
line_same : (rules A c : ℕ) (p q : ℕ → Bool) → ((i : ℕ) → i < rules → p i ≡ q i) → entry_line rules p A c ≡ entry_line rules q A c
unfolding entry_line claimants_text numbers_text
line_same rules A c p q h =
    let n = count_cong rules p q h in
    let u = up_to_same rules (λ i. claimant_text (p i) i) (λ i. claimant_text (q i) i) (λ i l. ap (λ b. claimant_text b i) (h i l)) in
    rw (n, u)

lines_same : (z : Sizes) (p q : ℕ → ℕ → ℕ → Bool) (o u : ℕ → Bool) → ((A c i : ℕ) → c < suc z.terminals → i < z.rules → p A c i ≡ q A c i)
    → ((A : ℕ) → A < z.nonterminals → o A ≡ u A) → lines_text z p o ≡ lines_text z q u
unfolding lines_text row_text overruns_text
lines_same z p q o u h k =
    ap₂ ◌++◌
    (up_to_same z.nonterminals _ _ (λ A l.
    up_to_same (z.terminals + 1) _ _ (λ c b. line_same z.rules A c (p A c) (q A c) (λ i m. h A c i (omega arith) m))))
    (up_to_same z.nonterminals _ _ (λ A l. ap (λ b. overrun_line b A) (k A l)))

-- heads and claims tell which rules claim an entry
claimant_same : (G : Grammar) {heads sets : List ℕ} → heads ≡ by_rule (heads_of G) → sets ≡ by_rule (claim_numbers One G) → G.terminals ≤ alphabet One
    → (A c q : ℕ) (r : Rule) → c < suc G.terminals → get_elem? G.rules q ≡ some r
    → claimant_at heads sets G.terminals A c q ≡ claims_at G A c q
unfolding claims_by
claimant_same G h s few A c q r b e =
    let t = G.terminals in
    let k = claims_alike (rules_told One G h s (column_element One t c) (element_small One t c few b)) A q r e in
    let n : 0 + q ≡ q = omega arith in
    rw (e, ← column_string_lem One t c few b) (rw n at k)

-- the set that is reported of a nonterminal tells whether it overruns
overrun_same : (b : Bool) → overruns_by (overrun_set One b) ≡ b
unfolding is_empty terminal
overrun_same true = refl
overrun_same false = refl

module _ (words : List ℕ) {r : Claims} (e : r ≡ claims_of One words) where
  module _ {z : Sizes} (q : r.finding ≡ Ok z) where
    told : (sets_fault One words ≡ none) × (reading words ≡ Ok z)
    unfolding claims_of
    told = told_passed (sets_fault One words) (reading words) (sym (ap (λ y. y.finding) e) ∙ q)

    read : WellRead words z
    read = well_read words z told.1

    -- sizes that are reported are within the limits
    sizes_within : within_limits z ≡ true
    unfolding within_limits
    sizes_within =
        rw (
          le-leb z.nonterminals max_nonterminals read.few_nonterminals,
          le-leb z.terminals max_terminals read.few_terminals,
          le-leb z.rules max_rules read.few_rules,
        )

    lines_put : {l m : List ℕ} {n : ℕ}
        → Put l 0 (lines_text z (claimant_at r.heads r.sets z.terminals) (overruns_in r.overruns)) m n
        → GapsPut words l m n
    unfolding gaps_text claims_of
    lines_put {l} {m} {n} p =
        let G = grammar_of words in
        let hs : r.heads ≡ by_rule (heads_of G) = ap (λ y. y.heads) e ∙ ap (λ y. by_rule_if y (heads_of G)) told.0 in
        let cs : r.sets ≡ by_rule (claim_numbers One G) = ap (λ y. y.sets) e ∙ ap (λ y. by_rule_if y (claim_numbers One G)) told.0 in
        let os : r.overruns ≡ overruns_of One G = ap (λ y. y.overruns) e ∙ ap (λ y. overruns_if y (overruns_of One G)) told.0 in
        let few : G.terminals ≤ alphabet One = omega (arith, read.few_terminals, read.terminals) in
        let t : lines_text z (claimant_at r.heads r.sets z.terminals) (overruns_in r.overruns) ≡ lines_text z (claims_at G) (overruns G 1) =
        lines_same z _ (claims_at G) _ (overruns G 1)
        (λ A c i k j. rw read.terminals (claimant_same G hs cs few A c i _ (omega (arith, read.terminals)) (read.begins i j)))
        (λ A k.
        ap (λ l. overruns_in l A) os ∙ ap overruns_by (listed_at max_nonterminals (λ A. overrun_set One (overruns G 1 A)) A
        (omega (arith, read.few_nonterminals)))
        ∙ overrun_same (overruns G 1 A)) in
        let u = lines_are G z read.nonterminals read.terminals read.rules in
        record { put = rw (told.0, told.1) (rw (t ∙ u) at p); tells = lines_tell words }

  refusal_put : {x : Error} → r.finding ≡ Err x → {l m : List ℕ} {n : ℕ} → Put l 0 (refusal_text x) m n → GapsPut words l m n
  unfolding gaps_text claims_of sets_fault
  refusal_put {x} q p =
      let f : sets_fault One words ≡ some x = told_refused (sets_fault One words) (reading words) (λ y f. rw f) (sym (ap (λ y. y.finding) e) ∙ q) in
      record { put = rw f p; tells = lines_tell words }

  pub gaps_put : {l m : List ℕ} {n : ℕ} → GapsPutBy r.finding r.heads r.sets r.overruns l m n → GapsPut words l m n
  gaps_put {l} {m} {n} p = go r.finding refl p.put
    where
      go : (f : Result Sizes Error) → r.finding ≡ f → Put l 0 (gaps_by f r.heads r.sets r.overruns) m n → GapsPut words l m n
      go (Ok z) q d = lines_put q (rw (sizes_within q) at d)
      go (Err x) q d = refusal_put q d
