-- The size of a set's number is how many strings the set has.
use mathlib.Core.Path.{◌≡◌, refl, sym, ap, ◌∙◌}
use mathlib.Core.Bool.{Bool, true, false}
use mathlib.Core.List.Memᴰ
use mathlib.Core.List.{List, [], ◌∷◌, map}
use Prim.Native.Nat.{ℕ, zero, suc, ◌+◌, ◌≤◌}
use native.Mathlib.Omega.{arith}
use lib.Dec.{T}
use lib.ListN.{length, length-map}
use borrow.Author.Tests.{lt-ltb}
use Rattle.base.specs.FiniteSets.{Distinct, keep, numbers_from, numbers_below}
use Rattle.base.specs.Strings.{Lookahead as Looked}
use Rattle.base.proofs.FiniteSets.{keep_make, keep_elim, numbers_make}
use Rattle.base.proofs.Distinct.{distinct_keep, distinct_numbers}
use Rattle.base.specs.Quantifiers.{one, count_below}
use Rattle.lookahead.specs.declared.Lookahead.{Lookahead}
use Rattle.lookahead.specs.Lookaheads.{tokens, elements, element_of, string_of}
use Rattle.lookahead.specs.inner.Lookaheads.{alphabet}
use Rattle.lookahead.specs.Elements.{has, size}
use Rattle.lookahead.proofs.Strings.{string_same}
use Rattle.lookahead.proofs.Bounds.{elements_fit}
use Rattle.lookahead.proofs.Size.{count_cong, count_first, size_below}
use Rattle.lookahead.proofs.Weights.{has_total}
use Rattle.families.specs.Sets.{set_number, Members}
use Rattle.families.proofs.Strings.{lookahead_string, number_below}

-- how many members of a list pass
module _ {X : Type 0} (p : X → Bool) where
  kept_more : (x : X) (l : List X) → length (keep p (x ∷ l)) ≡ one (p x) + length (keep p l)
  unfolding keep
  kept_more x l = go (p x)
    where
      go : (b : Bool) → length {A = X} (elim b [ true ↦ x ∷ keep p l | false ↦ keep p l ]) ≡ one b + length (keep p l)
      go true = omega arith
      go false = omega arith

kept_numbers : (p : ℕ → Bool) (a n : ℕ) → length (keep p (numbers_from a n)) ≡ count_below n (λ l. p (a + l))
unfolding numbers_from count_below keep
kept_numbers p a zero = refl
kept_numbers p a (suc n) =
    kept_more p a (numbers_from (suc a) n)
    ∙ ap (λ k. one (p a) + k) (kept_numbers p (suc a) n ∙ count_cong n (λ l. p (suc a + l)) (λ l. p (a + suc l)) (λ l h. ap p (omega arith)))
    ∙ ap (λ b. one (p b) + count_below n (λ l. p (a + suc l))) (omega arith)
    ∙ sym (count_first n (λ l. p (a + l)))

distinct_map : {X Y : Type 0} (f : X → Y) → ((x y : X) → f x ≡ f y → x ≡ y) → (l : List X) → Distinct l → Distinct (map f l)
distinct_map f same [] d = tt
distinct_map f same (x ∷ l) d = (λ m. let n = Memᴰ.of_map f l m in d.0 (rw (same n.0 x n.2) at n.1), distinct_map f same l d.1)

-- over t terminals, for any t that there may be
module _ (k : Lookahead) (t : ℕ) (few : t ≤ alphabet k) (p : List ℕ → Bool) (within : (x : List ℕ) → T (p x) → Looked (tokens k) t x) where
  abbrev passes : ℕ → Bool
  passes l = p (string_of k l)

  size_strings : size (set_number k p) ≡ length (keep passes (numbers_below (elements k)))
  unfolding set_number numbers_below
  size_strings =
      size_below (elements k) (set_number k p) (omega (arith, elements_fit k)) (number_below k p)
      ∙ count_cong (elements k) (has (set_number k p)) (λ l. passes (0 + l))
      (λ l h. has_total (elements k) passes l ∙ rw (lt-ltb l (elements k) h) (ap passes (omega arith)))
      ∙ sym (kept_numbers passes 0 (elements k))

  pub members : Members (λ x. T (p x)) (size (set_number k p))
  members = record {
    list = map (string_of k) (keep passes (numbers_below (elements k)));
    once = distinct_map (string_of k) (string_same k) (keep passes (numbers_below (elements k)))
        (distinct_keep passes (numbers_below (elements k)) (distinct_numbers (elements k)));
    just = λ x. (
      λ m. let n = Memᴰ.of_map (string_of k) (keep passes (numbers_below (elements k))) m in
          rw n.2 at (keep_elim passes (numbers_below (elements k)) n.0 n.1).1,
      λ h.
          let s = lookahead_string k t x few (within x h) in
          Memᴰ.cast s.is (Memᴰ.map (string_of k)
          (keep_make passes (numbers_below (elements k)) (element_of k x) (numbers_make (elements k) (element_of k x) s.below) (rw s.is at h))),
    );
    long = length-map (keep passes (numbers_below (elements k))) (string_of k) ∙ sym size_strings;
  }
