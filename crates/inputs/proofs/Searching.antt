-- A search that goes through the inputs by their numbers and keeps the first that costs the most.
use mathlib.Core.Path.{◌≡◌, refl, sym, ap, ◌∙◌}
use mathlib.Core.Bool.{Bool, true, false}
use mathlib.Core.List.{List, [], ◌∷◌}
use mathlib.Core.Logic.{◌⊎◌, inl, inr}
use Prim.Native.Nat.{ℕ, suc, ◌+◌, ◌^◌, ◌≤◌, ◌<◌}
use native.Mathlib.Numerals.{add-one}
use native.Mathlib.Omega.{arith}
use lib.Dec.{ltb}
use lib.ListN.{length, get_or, drop, drop_of_length-le}
use lib.Seq.{drop-cons}
use borrow.Author.Tests.{lt-ltb, le-ltb}
use Rattle.base.specs.Choice.{choose}
use Rattle.inputs.specs.Inputs.{inputs}
use Rattle.inputs.specs.inner.Inputs.{input_at}
use Rattle.inputs.specs.Costliest.{costliest_from, first_costliest, costliest}
use Rattle.inputs.proofs.Numbers.{inputs_count, some_input, inputs_at}

-- the inputs below a number have been tried; of these the one of number `best` is kept, and what it costs
pub record Searched (cost : List ℕ → ℕ) (n k number best most : ℕ) : Type 0 where
  pub within : number ≤ n ^ k
  pub rest : costliest_from cost (input_at n k best) (drop number (inputs n k)) ≡ costliest cost n k
  pub kept : ((number ≡ 0) × (best ≡ 0) × (most ≡ 0)) ⊎ (most ≡ cost (input_at n k best))

choose_same : {A : Type 0} (b : Bool) (x : A) → choose b x x ≡ x
choose_same true x = refl
choose_same false x = refl

module _ (cost : List ℕ → ℕ) (n : ℕ) (some_terminal : 0 < n) (k : ℕ) where
  pub searched_none : Searched cost n k 0 0 0
  unfolding costliest costliest_from
  searched_none = record {
    within = omega arith;
    rest = rw (← inputs_at n some_terminal k 0 (some_input n some_terminal k))
        (go (inputs n k) (omega (arith, inputs_count n k, some_input n some_terminal k)));
    kept = inl (refl, refl, refl);
  }
    where
      go : (l : List (List ℕ)) → 0 < length l → costliest_from cost (get_or l 0 []) l ≡ first_costliest cost l
      go [] h = absurd (omega arith)
      go (x ∷ l) h = ap (λ y. costliest_from cost y l) (choose_same (ltb (cost x) (cost x)) x)

  module _ {number best most : ℕ} (s : Searched cost n k number best most) (h : number < n ^ k) {count : ℕ} (e : count ≡ cost (input_at n k number)) where
    next : costliest_from cost (choose (ltb (cost (input_at n k best)) count) (input_at n k number) (input_at n k best)) (drop (number + 1) (inputs n k))
        ≡ costliest cost n k
    unfolding costliest_from
    next =
        let d = drop-cons (inputs n k) number [] (omega (arith, inputs_count n k))
        ∙ ap (λ x. x ∷ drop (suc number) (inputs n k)) (inputs_at n some_terminal k number h) in
        rw (e, add-one number) (sym (ap (costliest_from cost (input_at n k best)) d) ∙ s.rest)

    -- it costs more than the one that is kept
    pub searched_more : most < count → Searched cost n k (number + 1) number count
    searched_more l = record { within = omega arith; rest = go s.kept; kept = inr e }
      where
        go : ((number ≡ 0) × (best ≡ 0) × (most ≡ 0)) ⊎ (most ≡ cost (input_at n k best))
            → costliest_from cost (input_at n k number) (drop (number + 1) (inputs n k)) ≡ costliest cost n k
        go (inl z) =
            let q : best ≡ number = z.1 ∙ sym z.0 in
            ap (λ x. costliest_from cost x (drop (number + 1) (inputs n k)))
            (sym (choose_same (ltb (cost (input_at n k best)) count) (input_at n k number))
            ∙ ap (λ b. choose (ltb (cost (input_at n k best)) count) (input_at n k number) (input_at n k b)) (sym q))
            ∙ next
        go (inr z) =
            ap (λ b. costliest_from cost (choose b (input_at n k number) (input_at n k best)) (drop (number + 1) (inputs n k)))
            (sym (lt-ltb (cost (input_at n k best)) count (omega arith)))
            ∙ next

    -- or not
    pub searched_less : count ≤ most → Searched cost n k (number + 1) best most
    searched_less l = go s.kept
      where
        go : ((number ≡ 0) × (best ≡ 0) × (most ≡ 0)) ⊎ (most ≡ cost (input_at n k best)) → Searched cost n k (number + 1) best most
        go (inl z) =
            let q : best ≡ number = z.1 ∙ sym z.0 in
            record {
              within = omega arith;
              rest =
                  ap (λ x. costliest_from cost x (drop (number + 1) (inputs n k)))
                  (sym (choose_same (ltb (cost (input_at n k best)) count) (input_at n k best))
                  ∙ ap (λ b. choose (ltb (cost (input_at n k best)) count) (input_at n k b) (input_at n k best)) q)
                  ∙ next;
              kept = inr (let m : most ≡ count = omega (arith, z.2) in m ∙ e ∙ ap (λ b. cost (input_at n k b)) (sym q));
            }
        go (inr z) = record {
          within = omega arith;
          rest =
              ap (λ b. costliest_from cost (choose b (input_at n k number) (input_at n k best)) (drop (number + 1) (inputs n k)))
              (sym (le-ltb (cost (input_at n k best)) count (omega arith)))
              ∙ next;
          kept = inr z;
        }

  -- all have been tried
  pub searched_all : {number best most : ℕ} → Searched cost n k number best most → n ^ k ≤ number → input_at n k best ≡ costliest cost n k
  unfolding costliest_from
  searched_all {number} {best} s h =
      sym (ap (costliest_from cost (input_at n k best)) (drop_of_length-le (inputs n k) {i = number} (omega (arith, inputs_count n k)))) ∙ s.rest
