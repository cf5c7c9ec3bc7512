-- To agree with what is left of an input is to have its lookahead string; with one token, to begin with the next token or to be empty at the end.
use mathlib.Core.Path.{◌≡◌, refl, sym, ap, ◌∙◌}
use mathlib.Core.List.{List, [], ◌∷◌}
use mathlib.Core.Logic.{◌↔◌, inl, inr}
use Prim.Native.Nat.{ℕ, ◌≤◌, ◌<◌}
use native.Mathlib.Decide.{dec_lt}
use native.Mathlib.Omega.{arith}
use lib.ListN.{length, get_or, take, drop, length-take}
use lib.Seq.{take_all, drop-cons, drop-length}
use Rattle.base.specs.Strings.{look}
use Rattle.following.specs.Following.{SameFirst, Agrees, Begins}

-- cut to k, two sequences are equal just where they have the same first k tokens or, one of them being shorter, are equal
same_first : (k : ℕ) (u y : List ℕ) → SameFirst k u y ↔ (take k u ≡ take k y)
same_first k u y = (there, λ e. back e (dec_lt (length u) k))
  where
    there : SameFirst k u y → take k u ≡ take k y
    there (inl s) = s.2
    there (inr s) = ap (take k) s.1

    back : take k u ≡ take k y → Dec (length u < k) → SameFirst k u y
    back e (yes l) =
        let short : length y ≤ k = omega (arith, length-take k u, length-take k y, ap length e) in
        inr (inl l, sym (take_all k u (omega arith)) ∙ e ∙ take_all k y short)
    back e (no l) = inl (omega arith, omega (arith, length-take k u, length-take k y, ap length e), e)

pub agrees : (k : ℕ) (w : List ℕ) (j : ℕ) (u : List ℕ) → Agrees k w j u ↔ (take k u ≡ look k w j)
unfolding look
agrees k w j u = same_first k u (drop j w)

pub begins : (w : List ℕ) (j : ℕ) (u : List ℕ) → j ≤ length w → Begins w j u ↔ Agrees 1 w j u
begins w j u h = (λ b. (same_first 1 u (drop j w)).1 (there b), λ a. back (dec_lt j (length w)) u ((same_first 1 u (drop j w)).0 a))
  where
    there : Begins w j u → take 1 u ≡ take 1 (drop j w)
    there (inl s) = ap (take 1) s.2 ∙ sym (ap (take 1) (drop-cons w j 0 s.0))
    there (inr s) = ap (take 1) (s.1 ∙ sym (ap (λ n. drop n w) s.0 ∙ drop-length w))

    token : j < length w → (u : List ℕ) → take 1 u ≡ get_or w j 0 ∷ [] → Begins w j u
    token l [] e = absurd (omega (arith, ap length e))
    token l (a ∷ y) e = inl (l, y, ap (λ z. get_or z 0 0 ∷ y) e)

    end : j ≡ length w → (u : List ℕ) → take 1 u ≡ [] → Begins w j u
    end l [] e = inr (l, refl)
    end l (a ∷ y) e = absurd (omega (arith, ap length e))

    back : Dec (j < length w) → (u : List ℕ) → take 1 u ≡ take 1 (drop j w) → Begins w j u
    back (yes l) u e = token l u (e ∙ ap (take 1) (drop-cons w j 0 l))
    back (no l) u e = let d : j ≡ length w = omega arith in end d u (e ∙ ap (take 1) (ap (λ n. drop n w) d ∙ drop-length w))
