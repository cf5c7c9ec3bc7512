-- A family of lookahead strings as one of numbers, and when the least family of numbers is it.
use mathlib.Core.Path.{◌≡◌, sym, ◌∙◌}
use mathlib.Core.Bool.{Bool}
use mathlib.Core.List.{List}
use Prim.Native.Nat.{ℕ, ◌≤◌, ◌<◌}
use native.Mathlib.Decide.{dec_lt}
use native.Mathlib.Omega.{arith}
use lib.Dec.{T}
use lib.ListN.{get_or-eq_default}
use Rattle.grammar.specs.Limits.{max_nonterminals}
use Rattle.grammar.specs.Syntax.{Grammar}
use Rattle.base.specs.Strings.{Lookahead as Looked}
use Rattle.semantics.specs.FirstFollow.{Entry}
use Rattle.lookahead.specs.declared.Lookahead.{Lookahead}
use Rattle.lookahead.specs.Lookaheads.{tokens, element_of, string_of}
use Rattle.lookahead.specs.inner.Lookaheads.{alphabet}
use Rattle.lookahead.specs.Elements.{has}
use Rattle.lookahead.proofs.Order.{subset_antisym, empty_least}
use Rattle.families.specs.inner.Least.{SetFamily, at, LeastNumbers}
use Rattle.base.specs.Lists.{listed}
use Rattle.families.specs.Sets.{set_number}
use Rattle.base.proofs.Lists.{listed_long, listed_at}
use Rattle.families.proofs.Strings.{lookahead_string, lookahead_bound, StringIn, in_string, number_has, has_number}

-- the sets of strings that pass, by nonterminal
abbrev pub numbers_of : Lookahead → (Entry → Bool) → SetFamily
numbers_of k p A = set_number k (λ x. p (A, x))

module _ (k : Lookahead) (G : Grammar) (few : G.terminals ≤ alphabet k) (p : Entry → Bool)
    (within : (A : ℕ) (x : List ℕ) → T (p (A, x)) → (A < G.nonterminals) × Looked (tokens k) G.terminals x) where
  -- the numbers hold these strings and no others
  pub number_string : (A : ℕ) (x : List ℕ) → StringIn k (numbers_of k p A) x → T (p (A, x))
  number_string A x i = rw i.3 (number_has k (λ x. p (A, x)) i.0 i.2)

  pub string_number : (A l : ℕ) → T (p (A, string_of k l)) → T (has (numbers_of k p A) l)
  string_number A l t = has_number k (λ x. p (A, x)) l (lookahead_bound k G.terminals l few (within A (string_of k l) t).1) t

  pub in_number : (A : ℕ) (x : List ℕ) → T (p (A, x)) → StringIn k (numbers_of k p A) x
  in_number A x t =
      let s = lookahead_string k G.terminals x few (within A x t).1 in
      (element_of k x, s.below, string_number A (element_of k x) (rw s.is at t), s.is)

  -- an element of a number is a string that passes
  pub element_passes : (A l : ℕ) → T (has (numbers_of k p A) l) → T (p (A, string_of k l))
  element_passes A l s = number_has k (λ x. p (A, x)) l s

  -- a number that is no nonterminal's has the empty set
  pub number_outside : (A : ℕ) → G.nonterminals ≤ A → numbers_of k p A ≡ 0
  number_outside A h =
      subset_antisym (numbers_of k p A) 0 (λ l s. absurd (omega (arith, (within A (string_of k l) (element_passes A l s)).0))) (empty_least (numbers_of k p A))

  -- where the numbers are closed and the strings are in every closed array, the least array has the numbers
  pub least_numbers : (Closed : SetFamily → Type 0) → Closed (numbers_of k p) → (l : List ℕ) → LeastNumbers Closed l
      → ((A : ℕ) (x : List ℕ) → T (p (A, x)) → StringIn k (at l A) x) → (A : ℕ) → at l A ≡ numbers_of k p A
  least_numbers Closed closed l least strings A =
      subset_antisym (at l A) (numbers_of k p A) (least.least (numbers_of k p) closed A)
      (λ m s. in_string k (at l A) m (strings A (string_of k m) (element_passes A m s)))

  -- and so an array of them that is long enough has all of them
  pub array_at : G.nonterminals ≤ max_nonterminals → (A : ℕ) → at (listed max_nonterminals (numbers_of k p)) A ≡ numbers_of k p A
  array_at many A = go (dec_lt A max_nonterminals)
    where
      go : Dec (A < max_nonterminals) → at (listed max_nonterminals (numbers_of k p)) A ≡ numbers_of k p A
      go (yes h) = listed_at max_nonterminals (numbers_of k p) A h
      go (no h) =
          get_or-eq_default (listed max_nonterminals (numbers_of k p)) 0 (omega (arith, listed_long max_nonterminals (numbers_of k p)))
          ∙ sym (number_outside A (omega arith))
