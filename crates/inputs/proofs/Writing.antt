-- Writing the input of a number from its last token on: the input of what is left of the number, and behind it what is written, stays the input asked
-- for.
use mathlib.Core.Path.{◌≡◌, sym, ap, ◌∙◌}
use mathlib.Core.List.{List, [], ◌∷◌, ◌++◌, append_assoc}
use Prim.Native.Nat.{ℕ, suc, ◌-◌, ◌/◌, ◌%◌, ◌≤◌, ◌<◌}
use native.Mathlib.Omega.{arith}
use lib.ListN.{length, take, drop, set, length-set}
use lib.Seq.{set_split, drop_at, length-take-le}
use Rattle.inputs.specs.inner.Inputs.{input_at}

pub record Writing (n number : ℕ) (entry now : List ℕ) (rest at : ℕ) : Type 0 where
  pub same_length : length now ≡ length entry
  pub written : input_at n at rest ++ drop at now ≡ input_at n (length entry) number

drop_set : (l : List ℕ) (i v : ℕ) → i < length l → drop i (set l i v) ≡ v ∷ drop (suc i) l
drop_set l i v h = ap (drop i) (set_split l i v h) ∙ drop_at (take i l) (v ∷ drop (suc i) l) i (length-take-le i l (omega arith))

module _ {n number : ℕ} {entry now : List ℕ} {rest at : ℕ} (w : Writing n number entry now rest at) where
  pub writing_next : 0 < at → at ≤ length entry → Writing n number entry (set now (at - 1) (rest % n)) (rest / n) (at - 1)
  unfolding input_at
  writing_next h i =
      let a = at - 1 in
      let x = rest % n in
      let e : at ≡ suc a = omega arith in
      let l : a < length now = omega (arith, w.same_length) in
      record {
        same_length = length-set now a x ∙ w.same_length;
        written =
            ap (λ y. input_at n a (rest / n) ++ y) (drop_set now a x l)
            ∙ sym (append_assoc (input_at n a (rest / n)) (x ∷ []) (drop (suc a) now))
            ∙ sym (ap (λ b. input_at n b rest ++ drop b now) e)
            ∙ w.written;
      }

  pub writing_done : at ≤ 0 → now ≡ input_at n (length entry) number
  unfolding input_at
  writing_done h = let e : at ≡ 0 = omega arith in sym (ap (λ b. input_at n b rest ++ drop b now) e) ∙ w.written
