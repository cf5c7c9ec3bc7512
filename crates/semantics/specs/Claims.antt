-- What a rule claims, the entries that two rules claim, and the table of a grammar.
use Rattle.std.specs.Prelude.{Bool, true, false, not, ◌&&◌, ◌||◌, List, [], ◌∷◌, ℕ, suc, eqb, ltb}
use Rattle.std.proofs.Math.Option.{Option, none, some}
use Rattle.grammar.specs.Syntax.{Body, Rule, Grammar}
use Rattle.base.specs.Quantifiers.{any_of, all_of}
use Rattle.base.specs.FiniteSets.{member, keep}
use Rattle.semantics.specs.Families.{Table}
use Rattle.base.specs.Strings.{strings, same_string}
use Rattle.semantics.specs.FirstFollow.{concat_strings, Entry, entries, first_sets, first_rule, follow_sets}

module _ {X : Type 0} (p : X → Bool) where
  -- two members at different places pass
  unfoldable pub several : List X → Bool
  several [] = false
  several (x ∷ l) = (p x && any_of p l) || several l

  -- the place of the first member that passes
  unfoldable pub position : List X → Option ℕ
  position [] = none
  position (x ∷ l) = elim (p x) [ true ↦ some 0 | false ↦ elim (position l) [ none ↦ none | some q ↦ some (suc q) ] ]

-- the meeting of the sets of a rule's positive bodies
unfoldable pub meeting : Grammar → ℕ → Rule → List (List ℕ)
meeting G k r = keep (first_rule k (first_sets G k) r) (strings k G.terminals)

-- the strings that a rule claims for its head (document 01: a rule claims columns)
unfoldable pub claimed : Grammar → ℕ → Rule → List (List ℕ)
claimed G k r = concat_strings k (meeting G k r) (follow_sets G k r.head)

unfoldable pub claims : Grammar → ℕ → Entry → Rule → Bool
claims G k e r = eqb r.head e.0 && member same_string (claimed G k r) e.1

abbrev pub without : List Body → Bool
without [] = true
without (b ∷ l) = false

-- a nonterminal with a rule without positives that more than the end can follow
unfoldable pub overruns : Grammar → ℕ → ℕ → Bool
overruns G k A = any_of (λ r. eqb r.head A && without r.positives) G.rules && any_of (λ y. not (same_string [] y)) (follow_sets G k A)

-- two rules claim an entry, or it is that of the first terminal for such a nonterminal
abbrev pub clashing : Grammar → ℕ → Entry → Bool
clashing G k e = several (claims G k e) G.rules || (overruns G k e.0 && same_string (0 ∷ []) e.1)

-- these entries, by nonterminal, then in the order of `strings` (document 01, k = 1: by name, then column)
unfoldable pub clashes : Grammar → ℕ → List Entry
clashes G k = keep (clashing G k) (entries G k)

-- where an entry stands in its row of n terminals, for one token of lookahead: the terminals in order, then the end (document 01: the column)
abbrev pub column : ℕ → List ℕ → ℕ
column n [] = n
column n (a ∷ x) = a

-- the number of the first rule that claims an entry; where nothing clashes it is the only one
unfoldable pub table_of : Grammar → ℕ → Table
table_of G k A x = position (claims G k (A, x)) G.rules

-- a head of a rule without positives is followed by the end alone
unfoldable pub every_ends : Grammar → ℕ → Bool
every_ends G k = all_of (λ r. not (without r.positives) || (ltb 0 k && all_of (same_string []) (follow_sets G k r.head))) G.rules
