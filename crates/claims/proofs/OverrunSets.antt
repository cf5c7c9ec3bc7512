-- What is reported of the nonterminals by the rules is that they overrun, as the semantics has it.
use mathlib.Core.Path.{◌≡◌, refl, sym, ap, ◌∙◌}
use mathlib.Core.Bool.{Bool, true, false, not, ◌&&◌}
use mathlib.Core.List.{List, [], Memᴰ}
use Prim.Native.Nat.{ℕ, ◌≤◌, ◌<◌}
use borrow.Author.Tests.{eq-eqb, ne_eqb}
use lib.Dec.{T, T_not, eqb, eqb→eq, eqb_refl}
use lib.ListN.{get_or}
use Rattle.base.specs.Quantifiers.{any_of}
use Rattle.base.proofs.Quantified.{any_elim, any_make}
use Rattle.grammar.specs.declared.reading.Sizes.{Sizes}
use Rattle.grammar.specs.Encoding.{grammar_of}
use Rattle.grammar.specs.Syntax.{Grammar, WellFormed}
use Rattle.grammar.proofs.WellRead.{well_read}
use Rattle.lookahead.specs.declared.Lookahead.{Lookahead}
use Rattle.lookahead.specs.Lookaheads.{tokens, elements, nothing, string_of}
use Rattle.lookahead.specs.inner.Lookaheads.{alphabet}
use Rattle.lookahead.specs.Elements.{has}
use Rattle.lookahead.specs.inner.Elements.{Subset}
use Rattle.lookahead.specs.inner.Operations.{end, join}
use Rattle.lookahead.proofs.Operations.{has_end}
use Rattle.lookahead.proofs.Order.{join_same, same_join}
use Rattle.lookahead.proofs.Strings.{string_nothing, is_nothing}
use Rattle.base.specs.Strings.{same_string}
use Rattle.semantics.specs.FirstFollow.{follow_sets}
use Rattle.semantics.specs.Claims.{overruns}
use Rattle.base.proofs.LookaheadStrings.{strings_equality}
use Rattle.families.specs.Sets.{follow_number}
use Rattle.families.proofs.Strings.{string_in, number_element}
use Rattle.claims.specs.inner.Claims.{FamiliesGiven}
use Rattle.claim_steps.specs.inner.Steps.{beyond_end}
use Rattle.claims.specs.inner.Overruns.{alone_in, overrun_set, Overrunning}
use Rattle.claims.proofs.RuleClaims.{follow_lists}
use Rattle.claims.proofs.KeptClaims.{read, follow_is, few}

-- more than the end can follow a nonterminal just where its follow set has more than nothing
module _ (k : Lookahead) (G : Grammar) (formed : WellFormed G) (few : G.terminals ≤ alphabet k) (A : ℕ) where
  abbrev more : List ℕ → Bool
  more y = not (same_string [] y)

  abbrev set : ℕ
  set = follow_number k G A

  -- nothing alone is the end's set
  ends_subset : Subset set (end k) → T (any_of more (follow_sets G (tokens k) A)) → ⊥
  ends_subset s t =
      let y = any_elim more (follow_sets G (tokens k) A) t in
      let i = (follow_lists k G formed few A y.0).0 y.1 in
      let l : i.0 ≡ nothing k = eqb→eq i.0 (nothing k) (rw (has_end k i.0) at (s i.0 i.2)) in
      let e : y.0 ≡ [] = i.3 ∙ ap (string_of k) l ∙ string_nothing k in
      T_not (same_string [] y.0) y.2 (rw e (strings_equality.itself []))

  follow_element : (l : ℕ) → T (has set l) → l < elements k
  unfolding follow_number
  follow_element l s = number_element k _ l s

  none_subset : any_of more (follow_sets G (tokens k) A) ≡ false → Subset set (end k)
  none_subset e l s = go (same_string [] (string_of k l)) refl
    where
      x : List ℕ
      x = string_of k l

      listed : Memᴰ (string_of k l) (follow_sets G (tokens k) A)
      listed = (follow_lists k G formed few A (string_of k l)).1 (string_in k set l (follow_element l s) s)

      go : (b : Bool) → same_string [] (string_of k l) ≡ b → T (has (end k) l)
      go true d =
          let n : l ≡ nothing k = is_nothing k l (sym (strings_equality.equal [] x (rw d tt))) in
          rw (has_end k l, n) (eqb_refl (nothing k))
      go false d = absurd (rw e at (any_make more (follow_sets G (tokens k) A) x listed (rw d tt)))

  beyond_follow : beyond_end k (follow_number k G A) ≡ any_of more (follow_sets G (tokens k) A)
  unfolding beyond_end
  beyond_follow = go (any_of more (follow_sets G (tokens k) A)) refl
    where
      go : (b : Bool) → any_of more (follow_sets G (tokens k) A) ≡ b → not (eqb (join (end k) set) (end k)) ≡ b
      go true e = rw (ne_eqb (join (end k) set) (end k) (λ d. ends_subset (same_join (end k) set d) (rw e tt)))
      go false e = rw (eq-eqb (join (end k) set) (end k) (join_same (end k) set (none_subset e)))

-- so the sets that are reported are those of the nonterminals that overrun
pub overruns_told : {k : Lookahead} {words : List ℕ} {z : Sizes} {starts meets follows told : List ℕ} (g : FamiliesGiven k words z starts meets follows)
    → Overrunning k (grammar_of words).rules follows told → (A : ℕ) → get_or told A 0 ≡ overrun_set k (overruns (grammar_of words) (tokens k) A)
unfolding overruns alone_in
overruns_told {k} {words} {z} g o A =
    o.each A
    ∙ ap (λ more. overrun_set k (alone_in A (grammar_of words).rules && more))
    (ap (beyond_end k) (follow_is g A) ∙ beyond_follow k (grammar_of words) (well_read words z (read g)).formed (few g) A)
