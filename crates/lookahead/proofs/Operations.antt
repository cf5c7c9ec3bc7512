-- The elements of each operation's result.
use mathlib.Core.Path.{◌≡◌, refl, ap, ◌∙◌}
use mathlib.Core.Bool.{Bool, true, false, ◌&&◌, ◌||◌}
use mathlib.Core.List.{[], ◌∷◌}
use Prim.Native.Nat.{ℕ, ◌<◌}
use lib.Dec.{T, eqb, ltb, eqb→eq, lt→ltb}
use mir.Facts.{and_yes, yes_and}
use Rattle.base.specs.Choice.{choose}
use Rattle.base.specs.Quantifiers.{all_of}
use Rattle.base.proofs.Booleans.{both}
use Rattle.base.proofs.Quantified.{below_elim}
use Rattle.lookahead.specs.declared.Lookahead.{Lookahead}
use Rattle.lookahead.specs.inner.Lookaheads.{alphabet, element_after}
use Rattle.lookahead.specs.Lookaheads.{elements, nothing, element_of, string_of}
use Rattle.lookahead.specs.Elements.{weight, has}
use Rattle.lookahead.specs.inner.Operations.{empty_set, end, terminal, full, join, meet, element_behind, in_concat, concat_numbers}
use Rattle.lookahead.specs.inner.Operations.{Empty, End, Terminal, Full, Joined, SetsMet, Concatenated}
use Rattle.lookahead.proofs.Elements as of-numbers
use Rattle.lookahead.proofs.Powers as powers
use Rattle.lookahead.proofs.Strings.{after_below}
use Rattle.lookahead.proofs.Weights.{has_total}

-- the elements that the operations' definitions give
pub has_empty : (l : ℕ) → has empty_set l ≡ false
has_empty = of-numbers.has_zero

pub has_end : (k : Lookahead) (l : ℕ) → has (end k) l ≡ eqb l (nothing k)
has_end k = powers.has_pow (nothing k)

pub has_choose : (b : Bool) (x l : ℕ) → has (choose b x empty_set) l ≡ (b && has x l)
has_choose true x l = refl
has_choose false x l = has_empty l

pub has_terminal : (k : Lookahead) (a l : ℕ) → has (terminal k a) l ≡ (ltb a (alphabet k) && eqb l (element_of k (a ∷ [])))
unfolding terminal
has_terminal k a l =
    has_choose (ltb a (alphabet k)) (weight (element_of k (a ∷ []))) l
    ∙ ap (λ (b : Bool). ltb a (alphabet k) && b) (powers.has_pow (element_of k (a ∷ [])) l)

pub has_full : (k : Lookahead) (t l : ℕ) → has (full k t) l ≡ (ltb l (elements k) && all_of (λ a. ltb a t) (string_of k l))
unfolding full
has_full k t l = has_total (elements k) (λ l. all_of (λ a. ltb a t) (string_of k l)) l

pub has_join : (x y l : ℕ) → has (join x y) l ≡ (has x l || has y l)
unfolding join
has_join = of-numbers.has_or

pub has_meet : (x y l : ℕ) → has (meet x y) l ≡ (has x l && has y l)
unfolding meet
has_meet = of-numbers.has_and

-- what is looked at in a pair is an element again
concat_below : (k : Lookahead) (x y l : ℕ) → T (in_concat k x y l) → l < elements k
unfolding in_concat element_behind
concat_below k x y l t =
    let a = below_elim (elements k) (λ a. has x a && element_behind k a y l) t in
    let b = below_elim (elements k) (λ b. has y b && eqb (element_after k a.0 b) l) (and_yes (has x a.0) (element_behind k a.0 y l) a.2).1 in
    let e : element_after k a.0 b.0 ≡ l =
    eqb→eq (element_after k a.0 b.0) l (and_yes (has y b.0) (eqb (element_after k a.0 b.0) l) b.2).1 in
    rw e at (after_below k a.0 b.0 a.1 b.1)

pub has_concat : (k : Lookahead) (x y l : ℕ) → has (concat_numbers k x y) l ≡ in_concat k x y l
unfolding concat_numbers
has_concat k x y l =
    has_total (elements k) (in_concat k x y) l
    ∙ both (ltb l (elements k) && in_concat k x y l) (in_concat k x y l) (λ t. (and_yes (ltb l (elements k)) (in_concat k x y l) t).1)
    (λ t. yes_and (ltb l (elements k)) (in_concat k x y l) (lt→ltb l (elements k) (concat_below k x y l t)) t)

-- a number that is an operation's result has the elements that the operation's record names
pub is_empty_lem : {r : ℕ} → r ≡ empty_set → Empty r
is_empty_lem e = record { is = e; member = λ l. rw e (has_empty l) }

pub is_end : (k : Lookahead) {r : ℕ} → r ≡ end k → End k r
is_end k e = record { is = e; member = λ l. rw e (has_end k l) }

pub is_terminal : (k : Lookahead) {a r : ℕ} → r ≡ terminal k a → Terminal k a r
is_terminal k {a} e = record { is = e; member = λ l. rw e (has_terminal k a l) }

pub is_full : (k : Lookahead) {t r : ℕ} → r ≡ full k t → Full k t r
is_full k {t} e = record { is = e; member = λ l. rw e (has_full k t l) }

pub is_join : {x y r : ℕ} → r ≡ join x y → Joined x y r
is_join {x} {y} e = record { is = e; member = λ l. rw e (has_join x y l) }

pub is_meet : {x y r : ℕ} → r ≡ meet x y → SetsMet x y r
is_meet {x} {y} e = record { is = e; member = λ l. rw e (has_meet x y l) }

pub is_concat : (k : Lookahead) {x y r : ℕ} → r ≡ concat_numbers k x y → Concatenated k x y r
is_concat k {x} {y} e = record { is = e; member = λ l. rw e (has_concat k x y l) }
