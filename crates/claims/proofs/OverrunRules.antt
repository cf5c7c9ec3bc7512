-- The rules are gone over from the last on: each without positives has the first terminal told of its head if that overruns.
use Rattle.std.specs.Prelude.{Ok}
use mathlib.Core.Path.{subst, ◌≡◌, refl, sym, ap, ◌∙◌}
use mathlib.Core.Bool.{Bool, true, false, ◌&&◌, ◌||◌}
use mathlib.Core.List.{List, [], ◌∷◌, map}
use mathlib.Core.Option.{some}
use Prim.Native.Nat.{ℕ, zero, suc, ◌+◌, ◌-◌, ◌≤◌, ◌<◌}
use native.Mathlib.Decide.{ℕ_discrete}
use native.Mathlib.Omega.{arith}
use borrow.Author.Tests.{eq-eqb, ne_eqb}
use lib.ListN.{length, get_or, get_elem?, drop, set, replicate, length-set, length-replicate, drop_of_length-le}
use lib.Seq.{get_or-set_same, get_or-set_other}
use Rattle.base.specs.Choice.{choose}
use Rattle.base.specs.Quantifiers.{any_of}
use Rattle.word.specs.declared.Word.{Word}
use Rattle.word.specs.Words.{decoded}
use Rattle.grammar.specs.declared.reading.Sizes.{Sizes}
use Rattle.grammar.specs.Limits.{max_nonterminals}
use Rattle.grammar.specs.Syntax.{Rule}
use Rattle.grammar.specs.Encoding.{grammar_of}
use Rattle.grammar.specs.Reading.{reading}
use Rattle.grammar.specs.inner.Starts.{rule_starts}
use Rattle.families.specs.inner.RuleLists.{by_rule}
use Rattle.grammar.proofs.WellRead.{well_read}
use Rattle.admission.specs.Admission.{begins_negative}
use Rattle.lookahead.specs.declared.Lookahead.{Lookahead}
use Rattle.lookahead.specs.inner.Operations.{terminal}
use Rattle.semantics.specs.Claims.{without}
use Rattle.semantics.proofs.descent.Outcomes.{nth_mem}
use Rattle.families.proofs.ByRules.{by_rule_at}
use Rattle.families.proofs.HeadPasses.{rule_numbered}
use Rattle.base.proofs.Lists.{get_d_zeros}
use Rattle.claim_steps.specs.inner.Steps.{beyond_end}
use Rattle.claims.specs.inner.Overruns.{alone_in, overrun_set, HeadsGiven, Overrunning}
use Rattle.claims.proofs.FirstConjuncts.{first_conjunct}

-- no rule, nothing told
overrun_none : (k : Lookahead) (follows : List ℕ) → Overrunning k [] follows (replicate max_nonterminals 0)
unfolding alone_in any_of
overrun_none k follows = record { long = length-replicate {A = ℕ} max_nonterminals 0; each = λ A. get_d_zeros max_nonterminals A }

-- one rule more
one_more : (k : Lookahead) (alone more others : Bool)
    → choose (alone && more) (terminal k 0) (overrun_set k (others && more)) ≡ overrun_set k ((alone || others) && more)
one_more k true true others = refl
one_more k true false true = refl
one_more k true false false = refl
one_more k false more others = refl

overrun_rule : {k : Lookahead} (r : Rule) {rules : List Rule} {follows before after : List ℕ} → Overrunning k rules follows before → r.head < max_nonterminals
    → after ≡ set before r.head (choose (without r.positives && beyond_end k (get_or follows r.head 0)) (terminal k 0) (get_or before r.head 0))
    → Overrunning k (r ∷ rules) follows after
unfolding alone_in any_of
overrun_rule {k} r {rules} {follows} {before} {after} o own e = record {
  long = ap length e ∙ length-set before head now ∙ o.long;
  each = λ A. rw e (go A (ℕ_discrete A head));
}
  where
    head : ℕ
    head = r.head

    more : ℕ → Bool
    more A = beyond_end k (get_or follows A 0)

    now : ℕ
    now = choose (without r.positives && beyond_end k (get_or follows r.head 0)) (terminal k 0) (get_or before r.head 0)

    go : (A : ℕ) → Dec (A ≡ head)
        → get_or (set before r.head (choose (without r.positives && beyond_end k (get_or follows r.head 0)) (terminal k 0) (get_or before r.head 0))) A 0
        ≡ overrun_set k (alone_in A (r ∷ rules) && beyond_end k (get_or follows A 0))
    go A (yes d) =
        let P : ℕ → Type 0 = λ A. get_or (set before r.head now) A 0 ≡ overrun_set k (alone_in A (r ∷ rules) && beyond_end k (get_or follows A 0)) in
        subst P (sym d) (rw (get_or-set_same before head now 0 (omega (arith, o.long)), eq-eqb r.head r.head refl, o.each r.head)
        (one_more k (without r.positives) (more head) (alone_in head rules)))
    go A (no d) = rw (get_or-set_other before head A now 0 d, ne_eqb r.head A (λ x. d (sym x))) (o.each A)

-- the list from a member on
nth_drop : (l : List Rule) (q : ℕ) (r : Rule) → get_elem? l q ≡ some r → drop q l ≡ r ∷ drop (suc q) l
nth_drop [] q r e = let n : ◌≡◌ {A = ℕ} 0 1 = cc in absurd (omega arith)
nth_drop (x ∷ l) zero r e = let s : x ≡ r = cc in ap (λ y. y ∷ l) s
nth_drop (x ∷ l) (suc q) r e = nth_drop l q r e

-- the rules are gone over from the last on: those from i on have told what they tell
pub record Telling (k : Lookahead) (words follows overruns : List ℕ) (i : ℕ) : Type 0 where
  pub told : Overrunning k (drop i (grammar_of words).rules) follows overruns

-- where a rule and its head stand, each fact on numbers by itself
module _ (words starts : List ℕ) (z : Sizes) (rule : ℕ) (read : reading words ≡ Ok z) where
  pub conjunct_inside : starts ≡ rule_starts words → rule < z.rules → get_or starts rule 0 + 1 < length words
  conjunct_inside b h = rw b (first_conjunct words read rule h).0

  numbered : rule < z.rules → get_elem? (grammar_of words).rules rule ≡ some (rule_numbered words rule)
  numbered h = (well_read words z read).begins rule h

  its_head : (heads : List ℕ) → heads ≡ by_rule (map (λ r. r.head) (grammar_of words).rules) → rule < z.rules
      → get_or heads rule 0 ≡ (rule_numbered words rule).head
  its_head heads o h = rw o (by_rule_at (λ r. r.head) (grammar_of words).rules rule _ (numbered h))

  pub head_few : (heads : List ℕ) → heads ≡ by_rule (map (λ r. r.head) (grammar_of words).rules) → rule < z.rules
      → get_or heads rule 0 < max_nonterminals
  head_few heads o h =
      let known = well_read words z read in
      let m = nth_mem (grammar_of words).rules rule _ (numbered h) in
      omega (arith, its_head heads o h, known.formed.scoped.heads _ m, known.few_nonterminals, known.nonterminals)

module _ {words starts heads : List ℕ} {z : Sizes} (g : HeadsGiven words starts heads z) where
  -- the rule that has its turn
  pub telling_turn : {i : ℕ} → 0 < i → i ≤ z.rules → {k : Lookahead} {follows before after : List ℕ} {w : Word} {alone : Bool} {v : ℕ}
      → Telling k words follows before i
      → w ≡ decoded (get_or words (get_or starts (i - 1) 0 + 1) 0) → alone ≡ begins_negative w
      → v ≡ choose (alone && beyond_end k (get_or follows (get_or heads (i - 1) 0) 0)) (terminal k 0) (get_or before (get_or heads (i - 1) 0) 0)
      → after ≡ set before (get_or heads (i - 1) 0) v → Telling k words follows after (i - 1)
  telling_turn {i} h b {k} {follows} {before} {after} {w} {alone} {v} t e a d s =
      let low : i - 1 < z.rules = omega arith in
      let r = rule_numbered words (i - 1) in
      let next : suc (i - 1) ≡ i = omega arith in
      let rules : drop (i - 1) (grammar_of words).rules ≡ r ∷ drop i (grammar_of words).rules =
      nth_drop (grammar_of words).rules (i - 1) r (numbered words starts z (i - 1) g.read low) ∙ ap (λ n. r ∷ drop n (grammar_of words).rules) next in
      let negative : alone ≡ without r.positives = a ∙ rw (e, g.begins) (first_conjunct words g.read (i - 1) low).1 in
      let its = its_head words starts z (i - 1) g.read heads g.own low in
      let own : r.head < max_nonterminals = omega (arith, head_few words starts z (i - 1) g.read heads g.own low, its) in
      record { told = rw rules (overrun_rule r t.told own (s ∙ rw (d, negative, its))) }

  pub telling_start : (k : Lookahead) (follows : List ℕ) → Telling k words follows (replicate max_nonterminals 0) z.rules
  telling_start k follows =
      record { told = rw (drop_of_length-le (grammar_of words).rules {i = z.rules} (omega (arith, (well_read words z g.read).rules))) (overrun_none k follows) }
