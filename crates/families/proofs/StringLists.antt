-- Listed strings and the number that has their elements; what the positives of a rule can all begin with, as both.
use mathlib.Core.Path.{◌≡◌}
use mathlib.Core.List.{List, Memᴰ}
use mathlib.Core.Logic.{◌↔◌}
use Prim.Native.Nat.{ℕ, ◌≤◌, ◌<◌}
use lib.Dec.{T}
use Rattle.grammar.specs.Syntax.{Rule, Grammar, WellFormed}
use Rattle.lookahead.specs.declared.Lookahead.{Lookahead}
use Rattle.lookahead.specs.Lookaheads.{tokens, elements, string_of}
use Rattle.lookahead.specs.inner.Lookaheads.{alphabet}
use Rattle.lookahead.specs.Elements.{has}
use Rattle.lookahead.proofs.Order.{subset_antisym}
use Rattle.base.specs.Strings.{Lookahead as Looked, strings, same_string}
use Rattle.semantics.specs.Families.{FirstRule}
use Rattle.base.specs.FiniteSets.{member}
use Rattle.semantics.specs.FirstFollow.{first_sets, first_rule, First}
use Rattle.semantics.specs.Claims.{meeting}
use Rattle.base.proofs.FiniteSets.{member_mem, mem_member, keep_make, keep_elim}
use Rattle.base.proofs.LookaheadStrings.{strings_equality, strings_make, strings_elim}
use Rattle.semantics.proofs.families.First.{In, first_body_mono, first_rule_make, first_rule_elim, first_in, in_first}
use Rattle.families.specs.Sets.{set_number, first_number}
use Rattle.families.specs.inner.Sets.{meet_number}
use Rattle.families.specs.inner.First.{rule_first}
use Rattle.families.proofs.Strings.{lookahead_bound, StringIn, string_in, in_string, number_has, has_number}
use Rattle.families.proofs.FirstTie.{rule_begins, begins_rule}

-- the number s has the elements of the strings that are listed
abbrev pub Lists : Lookahead → List (List ℕ) → ℕ → Type 0
Lists k us s = (x : List ℕ) → Memᴰ x us ↔ StringIn k s x

-- so it is theirs, if it has elements alone
pub lists_number : (k : Lookahead) (us : List (List ℕ)) (s : ℕ) → Lists k us s → ((l : ℕ) → T (has s l) → l < elements k)
    → s ≡ set_number k (member same_string us)
lists_number k us s lists low =
    let listed = member same_string us in
    subset_antisym s (set_number k listed)
    (λ l h. has_number k listed l (low l h) (mem_member same_string strings_equality us (string_of k l)
    ((lists (string_of k l)).1 (string_in k s l (low l h) h))))
    (λ l h. in_string k s l ((lists (string_of k l)).0 (member_mem same_string strings_equality us (string_of k l) (number_has k listed l h))))

module _ (k : Lookahead) (G : Grammar) (formed : WellFormed G) (few : G.terminals ≤ alphabet k) (r : Rule) (m : Memᴰ r G.rules) where
  abbrev t : ℕ
  t = G.terminals

  abbrev n : ℕ
  n = tokens k

  pub meeting_lists : Lists k (meeting G n r) (rule_first k t (first_number k G) r.positives)
  unfolding meeting
  meeting_lists x = (
    λ h.
        let d = keep_elim (first_rule n (first_sets G n) r) (strings n t) x h in
        begins_rule k G formed few r m x (strings_elim n t x d.0)
        (λ b h. first_body_mono n (In (first_sets G n)) (First G n) (first_in G n) b x (first_rule_elim n (first_sets G n) r x d.1 b h)),
    λ i.
        let d : Looked n t x × FirstRule n (First G n) r x = rw i.3 (rule_begins k G formed few r i.0 i.2) in
        keep_make (first_rule n (first_sets G n) r) (strings n t) x (strings_make n t x d.0)
        (first_rule_make n (first_sets G n) r x (λ b h. first_body_mono n (First G n) (In (first_sets G n)) (in_first G n) b x (d.1 b h))),
  )

  pub meet_number_lem : rule_first k t (first_number k G) r.positives ≡ meet_number k G r
  unfolding meet_number
  meet_number_lem =
      lists_number k (meeting G n r) (rule_first k t (first_number k G) r.positives) meeting_lists
      (λ l h. lookahead_bound k t l few (rule_begins k G formed few r l h).0)
