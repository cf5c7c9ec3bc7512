-- The number of what a rule claims: what the code finds, and the elements that it has.
use mathlib.Core.Path.{◌≡◌, refl, sym, ap, ap₂, ◌∙◌}
use mathlib.Core.List.Memᴰ
use mathlib.Core.List.{List, ◌++◌, Memᴰ}
use Prim.Native.Nat.{ℕ, ◌≤◌, ◌<◌}
use borrow.Author.Tests.{lt-ltb}
use lib.Dec.{T}
use lib.ListN.{take}
use Rattle.grammar.specs.Syntax.{Rule, Grammar, WellFormed}
use Rattle.lookahead.specs.declared.Lookahead.{Lookahead}
use Rattle.lookahead.specs.Lookaheads.{tokens, elements, string_of}
use Rattle.lookahead.specs.inner.Lookaheads.{alphabet, element_after}
use Rattle.lookahead.specs.Elements.{has}
use Rattle.lookahead.specs.inner.Operations.{concat_numbers}
use Rattle.lookahead.proofs.Strings.{string_after, after_below}
use Rattle.lookahead.proofs.Pairs.{Pair, pair_concat, concat_pair}
use Rattle.lookahead.proofs.Weights.{has_total}
use Rattle.base.specs.FiniteSets.{member}
use Rattle.base.specs.Strings.{same_string}
use Rattle.semantics.specs.FirstFollow.{concat_strings, follow, follow_sets}
use Rattle.semantics.specs.Claims.{meeting, claimed}
use Rattle.semantics.proofs.families.LookaheadSets.{sets_make, sets_elim, concat_make, concat_elim}
use Rattle.semantics.proofs.families.Follow.{follow_lookahead}
use Rattle.families.specs.Sets.{set_number, follow_number}
use Rattle.families.specs.inner.Sets.{meet_number}
use Rattle.families.proofs.Strings.{string_in}
use Rattle.families.proofs.Numbers.{number_string, in_number}
use Rattle.families.proofs.StringLists.{Lists, lists_number, meeting_lists, meet_number_lem}
use Rattle.claims.specs.inner.Claims.{claim_number}

-- a concatenation lists what the concatenation of the numbers has
concat_lists : (k : Lookahead) (us ys : List (List ℕ)) (s t : ℕ) → Lists k us s → Lists k ys t
    → Lists k (concat_strings (tokens k) us ys) (concat_numbers k s t)
concat_lists k us ys s t f g x = (
  λ m.
      let r = concat_elim (tokens k) us ys x m in
      let i = (f r.0).0 r.2 in
      let j = (g r.1).0 r.3 in
      let p : Pair k s t (element_after k i.0 j.0) =
      record { a = i.0; b = j.0; a_below = i.1; b_below = j.1; a_in = i.2; b_in = j.2; is_after = refl } in (
        element_after k i.0 j.0,
        after_below k i.0 j.0 i.1 j.1,
        pair_concat k s t (element_after k i.0 j.0) p,
        r.4 ∙ ap₂ (λ u y. take (tokens k) (u ++ y)) i.3 j.3 ∙ string_after k i.0 j.0 i.1 j.1,
      ),
  λ i.
      let p = concat_pair k s t i.0 i.2 in
      Memᴰ.cast (i.3 ∙ ap (string_of k) (sym p.is_after) ∙ sym (string_after k p.a p.b p.a_below p.b_below))
      (concat_make (tokens k) us ys (string_of k p.a) (string_of k p.b) ((f _).1 (string_in k s p.a p.a_below p.a_in))
      ((g _).1 (string_in k t p.b p.b_below p.b_in))),
)

-- what the concatenation of two numbers has is an element
concat_element : (k : Lookahead) (s t l : ℕ) → T (has (concat_numbers k s t) l) → l < elements k
concat_element k s t l h = let p = concat_pair k s t l h in rw (← p.is_after) (after_below k p.a p.b p.a_below p.b_below)

module _ (k : Lookahead) (G : Grammar) (formed : WellFormed G) (few : G.terminals ≤ alphabet k) where
  abbrev n : ℕ
  n = tokens k

  pub follow_lists : (A : ℕ) → Lists k (follow_sets G n A) (follow_number k G A)
  unfolding follow_sets follow_number
  follow_lists A x = (
    λ m. in_number k G few (follow G n) (follow_lookahead G n) A x (sets_elim G n (follow G n) A x m).1,
    λ i. let f = number_string k G few (follow G n) (follow_lookahead G n) A x i in sets_make G n (follow G n) A x (follow_lookahead G n A x f).1 f,
  )

  -- the number that the code finds is that of the strings that a rule claims
  pub claim_found : (r : Rule) → Memᴰ r G.rules → concat_numbers k (meet_number k G r) (follow_number k G r.head) ≡ claim_number k G r
  unfolding claimed claim_number
  claim_found r m =
      let meets = meet_number k G r in
      let follow = follow_number k G r.head in
      let lists : Lists k (meeting G n r) (meet_number k G r) = rw (meet_number_lem k G formed few r m) at (meeting_lists k G formed few r m) in
      lists_number k (claimed G n r) (concat_numbers k meets follow)
      (concat_lists k (meeting G n r) (follow_sets G n r.head) meets follow lists (follow_lists r.head)) (λ l s. concat_element k meets follow l s)

-- the number of a rule's claim has the elements of the strings that it claims
pub claim_has : (k : Lookahead) (G : Grammar) (r : Rule) (l : ℕ) → l < elements k
    → has (claim_number k G r) l ≡ member same_string (claimed G (tokens k) r) (string_of k l)
unfolding claim_number set_number
claim_has k G r l h = has_total (elements k) (λ l. member same_string (claimed G (tokens k) r) (string_of k l)) l ∙ rw (lt-ltb l (elements k) h)
