-- What is found of an encoded grammar, by its claims and by the first clash.
use Rattle.std.specs.Prelude.{None, Option, Some, Err, Ok}
use mathlib.Core.Path.{◌≡◌, sym, ap, ◌∙◌}
use mathlib.Core.List.{List}
use mathlib.Core.Option.{none, some}
use Prim.Native.Nat.{ℕ, ◌≤◌, ◌<◌}
use native.Mathlib.Omega.{arith}
use lib.ListN.{length, get_or}
use Rattle.answer.specs.declared.Error.{Error}
use Rattle.grammar.specs.Encoding.{grammar_of}
use Rattle.grammar.specs.inner.Starts.{rule_starts}
use Rattle.grammar.specs.Limits.{max_nonterminals}
use Rattle.grammar.specs.declared.reading.Sizes.{Sizes}
use Rattle.grammar.specs.inner.WellRead.{WellRead}
use Rattle.grammar.proofs.WellRead.{well_read}
use Rattle.lookahead.specs.declared.Lookahead.{Lookahead}
use Rattle.lookahead.specs.Lookaheads.{tokens}
use Rattle.lookahead.specs.inner.Lookaheads.{alphabet}
use Rattle.admission.specs.Admission.{admission}
use Rattle.base.specs.FiniteSets.{numbers_below}
use Rattle.semantics.specs.Claims.{overruns}
use Rattle.semantics.proofs.descent.Outcomes.{nth_mem}
use Rattle.families.specs.Analysis.{sets_fault}
use Rattle.families.specs.inner.Analysis.{starts_if, sets_if}
use Rattle.base.specs.Lists.{listed}
use Rattle.families.specs.Sets.{first_number, follow_number}
use Rattle.base.proofs.Lists.{listed_at, listed_long}
use Rattle.families.proofs.Findings.{told_passed, told_refused}
use Rattle.table.specs.declared.Found.{Found}
use Rattle.claims.specs.inner.Claims.{Claims, claims_of, Headed}
use Rattle.claims.specs.inner.Overruns.{overrun_set}
use Rattle.table_promises.specs.Conflicts.{first_clash}
use Rattle.table.specs.inner.Conflicts.{conflict_of}
use Rattle.table.specs.inner.Entries.{rows_of, FilledRows, no_rules, entries_of}
use Rattle.table_promises.specs.Analysis.{conflict_error, fault}
use Rattle.table.specs.inner.Analysis.{entries_if, found_with, found_of}
use Rattle.claims.proofs.Claimants.{heads_own}
use Rattle.families.proofs.FewTerminals.{admitted_read, few_terminals_lem}
use Rattle.claims.proofs.Findings.{Claimed}
use Rattle.table_promises.proofs.GrammarFaults.{fault_sets, sets_first, none_sets}
use Rattle.table.proofs.ConflictScan.{clash_found}
use Rattle.table.proofs.EntriesFilled.{entries_filled}

module _ (k : Lookahead) (words : List ℕ) {r : Claims} (e : r ≡ claims_of k words) where
  -- a refusal goes on
  pub found_refused : {x : Error} → r.finding ≡ Err x → found_with r.finding r.starts r.firsts r.follows no_rules ≡ found_of k words
  unfolding claims_of found_of
  found_refused {x} q =
      let f : sets_fault k words ≡ some x = told_refused (sets_fault k words) (admission k words) (sets_first k words) (sym (ap (λ x. x.finding) e) ∙ q) in
      rw (e, fault_sets k words, f)

module _ {k : Lookahead} {words : List ℕ} {z : Sizes} {r : Claims} (f : Claimed k words z r) where
  known : WellRead words z
  known = well_read words z (admitted_read k words f.read)

  pub headed : Headed r.heads z.rules z.nonterminals
  headed = record {
    few = known.few_rules;
    own = λ q b.
        let s = known.begins q b in
        let h = heads_own k (grammar_of words) f.own f.claims q _ s in
        omega (arith, known.nonterminals, known.formed.scoped.heads _ (nth_mem (grammar_of words).rules q _ s));
    allowed = known.few_nonterminals;
  }

  grammar_few : (grammar_of words).terminals ≤ alphabet k
  grammar_few = few_terminals_lem k words f.read

  pub sizes_few : z.terminals ≤ alphabet k
  sizes_few = rw known.terminals grammar_few

  pub overruns_long : length r.overruns ≡ max_nonterminals
  overruns_long = ap length f.told ∙ listed_long max_nonterminals _

  each_told : (A : ℕ) → A < (grammar_of words).nonterminals → get_or r.overruns A 0 ≡ overrun_set k (overruns (grammar_of words) (tokens k) A)
  each_told A h =
      ap (λ l. get_or l A 0) f.told
      ∙ listed_at max_nonterminals (λ A. overrun_set k (overruns (grammar_of words) (tokens k) A)) A (omega (arith, known.nonterminals, known.few_nonterminals))

  module _ {v : Option (ℕ × ℕ)} (d : v ≡ conflict_of k z r.heads r.sets r.overruns) where
    clash : v ≡ first_clash k (grammar_of words)
    clash =
        (rw (known.nonterminals, known.terminals, known.rules) at d)
        ∙ clash_found k (grammar_of words) grammar_few r.overruns f.own f.claims each_told

    -- a clash refuses the grammar
    pub found_clash : {A c : ℕ} {x : Error} → v ≡ Some (A, c) → x ≡ conflict_error k A c
        → found_with (Err x) r.starts r.firsts r.follows no_rules ≡ found_of k words
    unfolding found_of
    found_clash t d = rw (d, fault_sets k words, f.read, f.faultless, ← clash, t, f.begins, f.first, f.follow)

    -- else its entries are found
    pub found_passed : {entries : List ℕ} → v ≡ None
        → FilledRows (rows_of k z.nonterminals z.terminals) r.heads r.sets 0 (numbers_below z.rules) no_rules entries
        → found_with (Ok z) r.starts r.firsts r.follows entries ≡ found_of k words
    unfolding found_of
    found_passed t w =
        let G = grammar_of words in
        let n : G.nonterminals ≤ max_nonterminals = omega (arith, known.few_nonterminals, known.nonterminals) in
        let l = entries_filled k G n grammar_few f.own f.claims (rw (known.nonterminals, known.terminals, known.rules) at w) in
        rw (fault_sets k words, f.read, f.faultless, ← clash, t, f.begins, f.first, f.follow, l)

-- what entries that are found tell
pub record FoundEntries (k : Lookahead) (words : List ℕ) (z : Sizes) (r : Found) : Type 0 where
  pub read : admission k words ≡ Ok z
  pub faultless : fault k words ≡ none
  pub begins : r.starts ≡ rule_starts words
  pub first : r.firsts ≡ listed max_nonterminals (first_number k (grammar_of words))
  pub follow : r.follows ≡ listed max_nonterminals (follow_number k (grammar_of words))
  pub entries : r.entries ≡ entries_of k (grammar_of words)

module _ (k : Lookahead) (words : List ℕ) {r : Found} (e : r ≡ found_of k words) where
  pub entries_told : {z : Sizes} → r.finding ≡ Ok z → FoundEntries k words z r
  unfolding found_of
  entries_told q =
      let p = told_passed (fault k words) (admission k words) (sym (ap (λ x. x.finding) e) ∙ q) in
      let s = none_sets k words p.0 in
      let G = grammar_of words in
      record {
        read = p.1;
        faultless = p.0;
        begins = ap (λ x. x.starts) e ∙ ap (λ f. starts_if f (rule_starts words)) s;
        first = ap (λ x. x.firsts) e ∙ ap (λ f. sets_if f (listed max_nonterminals (first_number k G))) s;
        follow = ap (λ x. x.follows) e ∙ ap (λ f. sets_if f (listed max_nonterminals (follow_number k G))) s;
        entries = ap (λ x. x.entries) e ∙ ap (λ f. entries_if f (entries_of k G)) p.0;
      }
