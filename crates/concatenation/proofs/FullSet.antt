-- The full set is nothing, the single terminals, and these followed by one another.
use mathlib.Core.Path.{◌≡◌, refl, sym, ap, ap₂, ◌∙◌}
use mathlib.Core.List.{List, [], ◌∷◌, ◌++◌}
use Prim.Native.Nat.{ℕ, ◌≤◌, ◌<◌}
use native.Mathlib.Omega.{arith}
use lib.Dec.{T, eqb_refl}
use lib.ListN.{length, take}
use lib.Seq.{take_all}
use Rattle.base.specs.Strings.{Over}
use Rattle.lookahead.specs.declared.Lookahead.{Lookahead}
use Rattle.lookahead.specs.declared.Lookahead.TheVariants.{One, Two}
use Rattle.lookahead.specs.Lookaheads.{tokens, nothing, element_of, string_of}
use Rattle.lookahead.specs.inner.Lookaheads.{alphabet, element_after}
use Rattle.lookahead.specs.Elements.{has}
use Rattle.lookahead.specs.inner.Elements.{Subset, OverTerminals}
use Rattle.lookahead.specs.inner.Operations.{end, full, join, concat_numbers, End, Full, Joined, Concatenated}
use Rattle.concatenation.specs.inner.Computing.{Singles}
use Rattle.lookahead.proofs.Strings.{element_string, string_same, string_short, string_over, string_terminal, single_looked, string_after, element_below}
use Rattle.lookahead.proofs.Strings.{is_nothing, over_head, over_tail}
use Rattle.lookahead.proofs.Operations.{has_end, is_full}
use Rattle.lookahead.proofs.Order.{subset_antisym, join_left, join_right}
use Rattle.lookahead.proofs.Concat.{paired}
use Rattle.lookahead.proofs.Over.{over_end, over_join, over_concat, over_full, full_greatest}

tokens_few : (k : Lookahead) → tokens k ≤ 2
tokens_few One = omega arith
tokens_few Two = omega arith

module _ (k : Lookahead) (t s : ℕ) (singles : Singles k t s) where
  over_singles : OverTerminals k t s
  over_singles l h =
      let i = (singles.member l).0 h in
      rw (i.3, string_terminal k i.0 i.2) (element_below k (i.0 ∷ []) (single_looked k (alphabet k) i.0 i.2), (single_looked k t i.0 i.1).1)

  abbrev whole : ℕ
  whole = join (end k) (join s (concat_numbers k s s))

  contained : Subset whole (full k t)
  contained = full_greatest k t whole (over_join k t (end k) (join s (concat_numbers k s s)) (over_end k t)
      (over_join k t s (concat_numbers k s s) over_singles (over_concat k t s s over_singles over_singles)))

  contains : Subset (full k t) whole
  contains l h = let o = over_full k t l h in go (string_of k l) refl (string_short k l) o.1 (string_over k l o.0)
    where
      single : (a : ℕ) → a < t → a < alphabet k → T (has s (element_of k (a ∷ [])))
      single a i j = (singles.member (element_of k (a ∷ []))).1 (a, i, j, refl)

      go : (x : List ℕ) → string_of k l ≡ x → length x ≤ tokens k → Over t x → Over (alphabet k) x → T (has whole l)
      go [] e n o p = join_left (end k) _ l (rw (is_nothing k l e, has_end k (nothing k)) (eqb_refl (nothing k)))
      go (a ∷ []) e n o p =
          let d : element_of k (a ∷ []) ≡ l = ap (element_of k) (sym e) ∙ element_string k l in
          join_right (end k) _ l (join_left s (concat_numbers k s s) l (rw d at (single a (over_head t a [] o) (over_head (alphabet k) a [] p))))
      go (a ∷ b ∷ []) e n o p =
          let ia = over_head (alphabet k) a (b ∷ []) p in
          let ib = over_head (alphabet k) b [] (over_tail (alphabet k) a (b ∷ []) p) in
          let ea = element_below k (a ∷ []) (single_looked k (alphabet k) a ia) in
          let eb = element_below k (b ∷ []) (single_looked k (alphabet k) b ib) in
          let d : element_after k (element_of k (a ∷ [])) (element_of k (b ∷ [])) ≡ l =
          string_same k (element_after k (element_of k (a ∷ [])) (element_of k (b ∷ []))) l
          (sym (string_after k (element_of k (a ∷ [])) (element_of k (b ∷ [])) ea eb)
          ∙ ap₂ (λ u v. take (tokens k) (u ++ v)) (string_terminal k a ia) (string_terminal k b ib) ∙ take_all (tokens k) (a ∷ b ∷ []) n ∙ sym e) in
          join_right (end k) _ l (join_right s (concat_numbers k s s) l (rw d at (paired k s s (element_of k (a ∷ [])) (element_of k (b ∷ [])) ea eb
          (single a (over_head t a (b ∷ []) o) ia) (single b (over_head t b [] (over_tail t a (b ∷ []) o)) ib))))
      go (a ∷ b ∷ c ∷ x) e n o p = absurd (omega (arith, tokens_few k))

  pub full_is : {e l m r : ℕ} → End k e → Concatenated k s s l → Joined s l m → Joined e m r → Full k t r
  full_is ends longer joined is =
      is_full k (is.is ∙ ap₂ join ends.is (joined.is ∙ ap (join s) longer.is) ∙ subset_antisym whole (full k t) contained contains)
