-- The flaws that are found in the arrays of a grammar's sets are those of the grammar: left recursion, and empty first sets.
use Rattle.std.specs.Prelude.{Ok, Result}
use Rattle.answer.specs.declared.Error.{Error}
use mathlib.Core.Path.{◌≡◌, ◌∙◌}
use mathlib.Core.List.{List}
use Prim.Native.Nat.{ℕ, ◌≤◌, ◌<◌, min}
use native.Mathlib.Nat.{min-eq_left}
use native.Mathlib.Omega.{arith}
use lib.Dec.{ltb, lt→ltb}
use Rattle.base.specs.Quantifiers.{lowest}
use Rattle.base.proofs.Booleans.{T_true, T_none, true_T, both}
use Rattle.grammar.specs.Encoding.{grammar_of}
use Rattle.grammar.specs.Limits.{max_nonterminals}
use Rattle.grammar.specs.Reading.{reading}
use Rattle.admission.specs.Admission.{admission}
use Rattle.grammar.specs.declared.reading.Sizes.{Sizes}
use Rattle.grammar.proofs.WellRead.{well_read}
use Rattle.lookahead.specs.declared.Lookahead.{Lookahead}
use Rattle.lookahead.specs.Lookaheads.{tokens, string_of}
use Rattle.lookahead.specs.inner.Lookaheads.{alphabet}
use Rattle.lookahead.specs.Elements.{has}
use Rattle.lookahead.specs.inner.Operations.{is_empty}
use Rattle.lookahead.proofs.Emptiness.{empty_none, none_empty}
use Rattle.lookahead.proofs.Weights.{has_total}
use Rattle.semantics.specs.FirstFollow.{first}
use Rattle.semantics.specs.LeftRecursion.{left_reaches, left_recursive, lowest_left_recursive}
use Rattle.semantics.specs.Productive.{unproductive, lowest_unproductive}
use Rattle.semantics.proofs.families.First.{first_lookahead}
use Rattle.semantics.proofs.families.Productive.{unproductive_iff}
use Rattle.families.specs.declared.Flaw.TheVariants.{LeftRecursive, Unproductive}
use Rattle.base.specs.Lists.{listed}
use Rattle.families.specs.Sets.{first_number}
use Rattle.families.specs.inner.Sets.{reach_number}
use Rattle.families.specs.Analysis.{sets_fault, finding_of}
use Rattle.families.specs.inner.Flaws.{flaw_in, finding_in}
use Rattle.families.proofs.FewTerminals.{admitted_read, few_terminals_lem}
use Rattle.base.proofs.Lists.{listed_at}
use Rattle.families.proofs.Numbers.{in_number, element_passes}
use Rattle.families.proofs.LowestTold.{lowest_cong}

-- the words of a grammar that is admitted, with its first sets and what its nonterminals left-reach
module _ (k : Lookahead) (words : List ℕ) {firsts reaches : List ℕ} {z : Sizes} (taken : admission k words ≡ Ok z)
    (f : firsts ≡ listed max_nonterminals (first_number k (grammar_of words))) (g : reaches ≡ listed max_nonterminals (reach_number (grammar_of words))) where
  read : reading words ≡ Ok z
  read = admitted_read k words taken

  many : (grammar_of words).nonterminals ≤ max_nonterminals
  many = let w = well_read words z read in omega (arith, w.few_nonterminals, w.nonterminals)

  few : (grammar_of words).terminals ≤ alphabet k
  few = few_terminals_lem k words taken

  -- a nonterminal is in its own set just where it is left-recursive
  own_reached : (A : ℕ) → A < (grammar_of words).nonterminals → flaw_in LeftRecursive firsts reaches A ≡ left_recursive (grammar_of words) A
  unfolding left_recursive reach_number
  own_reached A h =
      let G = grammar_of words in
      let n = T_true (ltb A G.nonterminals) (lt→ltb A G.nonterminals h) in
      rw (g, listed_at max_nonterminals (reach_number G) A (omega (arith, many))) (has_total G.nonterminals (left_reaches G A) A ∙ rw n)

  -- a first set is empty as a number just where it is
  empty_first : (A : ℕ) → is_empty (first_number k (grammar_of words) A) ≡ unproductive (grammar_of words) (tokens k) A
  unfolding first_number
  empty_first A =
      let G = grammar_of words in
      let set = first_number k G A in
      let test = unproductive_iff G (tokens k) A in
      both (is_empty set) (unproductive G (tokens k) A)
      (λ t. test.1 (λ x b. let i = in_number k G few (first G (tokens k)) (first_lookahead G (tokens k)) A x b in
      absurd (rw (empty_none set i.0 (T_true (is_empty set) t)) at i.2)))
      (λ t. true_T (is_empty set)
      (none_empty set (λ l. T_none (has set l)
      (λ e. test.0 t (string_of k l) (element_passes k G few (first G (tokens k)) (first_lookahead G (tokens k)) A l e)))))

  empty_found : (A : ℕ) → A < (grammar_of words).nonterminals → flaw_in Unproductive firsts reaches A ≡ unproductive (grammar_of words) (tokens k) A
  empty_found A h = rw (f, listed_at max_nonterminals (first_number k (grammar_of words)) A (omega (arith, many))) (empty_first A)

  -- so the lowest are the same
  lowest_recursive : lowest z.nonterminals (flaw_in LeftRecursive firsts reaches) ≡ lowest_left_recursive (grammar_of words)
  unfolding lowest_left_recursive
  lowest_recursive =
      let G = grammar_of words in
      rw ((well_read words z read).nonterminals, lowest_cong G.nonterminals (flaw_in LeftRecursive firsts reaches) (left_recursive G) own_reached)

  lowest_unproductive_lem : lowest z.nonterminals (flaw_in Unproductive firsts reaches) ≡ lowest_unproductive (grammar_of words) (tokens k)
  unfolding lowest_unproductive
  lowest_unproductive_lem =
      let G = grammar_of words in
      rw ((well_read words z read).nonterminals, lowest_cong G.nonterminals (flaw_in Unproductive firsts reaches) (unproductive G (tokens k)) empty_found)

  -- and what is found by them is what is found of the grammar
  pub flaws_found : {r : Result Sizes Error} → r ≡ finding_in z firsts reaches → r ≡ finding_of (sets_fault k words) (admission k words)
  unfolding sets_fault
  flaws_found e =
      let all : min z.nonterminals max_nonterminals ≡ z.nonterminals = min-eq_left (well_read words z read).few_nonterminals in
      e ∙ rw (all, taken, lowest_recursive, lowest_unproductive_lem)
