-- An agreement with one body more: it is open no more, and its end is no farther than the bodies' ends. As an entry it tells what it is.
use mathlib.Core.Path.{◌≡◌, refl, sym, ap, ◌∙◌}
use mathlib.Core.Bool.{Bool, true, false, false≢true}
use Prim.Native.Nat.{ℕ, ◌≤◌, ◌<◌}
use native.Mathlib.Omega.{arith}
use lib.Dec.{eqb}
use borrow.Author.Tests.{eqb-true, eqb-false, ne_eqb}
use Rattle.base.specs.Choice.{choose}
use Rattle.grammar.specs.Codes.{failed_code, uncalled_code}
use Rattle.semantics.specs.Descent as semantics
use Rattle.semantics.specs.Descent.{ends_at}
use Rattle.semantics.specs.Memo.{outcome_code}
use Rattle.semantics.specs.inner.Memo.{decode}
use Rattle.rule.specs.declared.Sign.{Sign}
use Rattle.rule.specs.declared.Sign.TheVariants.{Positive, Negative, Neither}
use Rattle.rule.specs.inner.Rule.{Agreement, Open, At, Failed, agreement_code, agreement_of, opening_by, goes_on, has_failed, kept_by, joined_by, concluded}

-- agreements are told apart by a number
abbrev agreement_number : Agreement → ℕ
agreement_number Open = 0
agreement_number (At e) = 1
agreement_number Failed = 2

agreement_number_lem : {a b : Agreement} → a ≡ b → agreement_number a ≡ agreement_number b
agreement_number_lem e = ap agreement_number e

-- before the first body
pub opening_ends : (s : Sign) (n e : ℕ) → opening_by s n ≡ At e → e ≤ n
opening_ends Positive n e q = absurd (omega (arith, agreement_number_lem q))
opening_ends Negative n e q = let z : n ≡ e = cc in omega arith
opening_ends Neither n e q = absurd (omega (arith, agreement_number_lem q))

pub opening_open : (s : Sign) (n : ℕ) → opening_by s n ≡ Open → s ≡ Negative → ⊥
opening_open s n q e = omega (arith, agreement_number_lem (sym (ap (λ t. opening_by t n) e) ∙ q))

-- an agreement that is joined to is open no more, and ends where the body or the bodies before it did
pub opens_no_more : (s : Sign) (g : Agreement) (o : semantics.Outcome) → goes_on s g ≡ true → joined_by s g o ≡ Open → ⊥
opens_no_more s Open semantics.Failed t e = omega (arith, agreement_number_lem e)
opens_no_more s Open (semantics.End x) t e = omega (arith, agreement_number_lem e)
opens_no_more Positive (At x) o t e = go (ends_at o x) e
  where
    go : (b : Bool) → choose b (At x) Failed ≡ Open → ⊥
    go true e = omega (arith, agreement_number_lem e)
    go false e = omega (arith, agreement_number_lem e)
opens_no_more Negative (At x) o t e = go (ends_at o x) e
  where
    go : (b : Bool) → choose b Failed (At x) ≡ Open → ⊥
    go true e = omega (arith, agreement_number_lem e)
    go false e = omega (arith, agreement_number_lem e)
opens_no_more Neither (At x) o t e = false≢true t
opens_no_more s Failed o t e = false≢true t

pub ends_joined : (n : ℕ) (s : Sign) (g : Agreement) (o : semantics.Outcome) → ((e : ℕ) → g ≡ At e → e ≤ n) → ((e : ℕ) → o ≡ semantics.End e → e ≤ n)
    → (e : ℕ) → joined_by s g o ≡ At e → e ≤ n
ends_joined n s Open semantics.Failed h k e q = absurd (omega (arith, agreement_number_lem q))
ends_joined n s Open (semantics.End x) h k e q = let z : x ≡ e = cc in omega (arith, k x refl)
ends_joined n Positive (At x) o h k e q = go (ends_at o x) q
  where
    go : (b : Bool) → choose b (At x) Failed ≡ At e → e ≤ n
    go true q = let z : x ≡ e = cc in omega (arith, h x refl)
    go false q = absurd (omega (arith, agreement_number_lem q))
ends_joined n Negative (At x) o h k e q = go (ends_at o x) q
  where
    go : (b : Bool) → choose b Failed (At x) ≡ At e → e ≤ n
    go true q = absurd (omega (arith, agreement_number_lem q))
    go false q = let z : x ≡ e = cc in omega (arith, h x refl)
ends_joined n Neither (At x) o h k e q = absurd (omega (arith, agreement_number_lem q))
ends_joined n s Failed o h k e q = absurd (omega (arith, agreement_number_lem q))

-- the entry of an agreement tells it, where its end is none of the codes
pub code_told : (a : Agreement) → ((e : ℕ) → a ≡ At e → e < failed_code) → agreement_of (agreement_code a) ≡ a
unfolding agreement_of
code_told Open h = refl
code_told (At e) h = let l = h e refl in rw (ne_eqb e uncalled_code (λ q. omega (arith, l, q)), ne_eqb e failed_code (λ q. omega (arith, l, q)))
code_told Failed h = refl

pub failed_told : (a : ℕ) → a ≡ failed_code → has_failed (agreement_of a) ≡ true
unfolding agreement_of
failed_told a e = rw e

pub lives_told : (a : ℕ) → (a ≡ failed_code → ⊥) → has_failed (agreement_of a) ≡ false
unfolding agreement_of
lives_told a n = rw (ne_eqb a failed_code n) (go (eqb a uncalled_code))
  where
    go : (b : Bool) → has_failed (choose b Open (At a)) ≡ false
    go true = refl
    go false = refl

-- once it is not open it is the entry of what the rule comes to
pub concluded_told : (a : ℕ) → (agreement_of a ≡ Open → ⊥) → a ≡ outcome_code (concluded (agreement_of a))
unfolding agreement_of outcome_code
concluded_told a n = go (eqb a uncalled_code) (eqb a failed_code) refl n
  where
    go : (u f : Bool) → eqb a failed_code ≡ f → (choose u Open (choose f Failed (At a)) ≡ Open → ⊥)
        → a ≡ outcome_code (concluded (choose u Open (choose f Failed (At a))))
    go true f e n = absurd (n refl)
    go false true e n = eqb-true a failed_code e
    go false false e n = refl

-- the first body's entry is the agreement, and another agreement is kept by whether the body's entry is the same
pub joined_open : (s : Sign) (entry : ℕ) → entry ≡ agreement_code (joined_by s (agreement_of uncalled_code) (decode entry))
unfolding agreement_of decode
joined_open s entry = go (eqb entry failed_code) refl
  where
    go : (b : Bool) → eqb entry failed_code ≡ b → entry ≡ agreement_code (joined_by s Open (choose b semantics.Failed (semantics.End entry)))
    go true e = eqb-true entry failed_code e
    go false e = refl

same_end : (entry a : ℕ) → (a ≡ failed_code → ⊥) → eqb entry a ≡ ends_at (decode entry) a
unfolding decode
same_end entry a n = go (eqb entry failed_code) refl
  where
    go : (b : Bool) → eqb entry failed_code ≡ b → eqb entry a ≡ ends_at (choose b semantics.Failed (semantics.End entry)) a
    go true e = ne_eqb entry a (λ q. n (sym q ∙ eqb-true entry failed_code e))
    go false e = refl

kept_failed : (s : Sign) (there : Bool) → agreement_code (kept_by s failed_code there) ≡ failed_code
kept_failed Positive true = refl
kept_failed Positive false = refl
kept_failed Negative true = refl
kept_failed Negative false = refl
kept_failed Neither there = refl

pub joined_kept : (s : Sign) (a entry : ℕ) → (a ≡ uncalled_code → ⊥)
    → agreement_code (kept_by s a (eqb entry a)) ≡ agreement_code (joined_by s (agreement_of a) (decode entry))
unfolding agreement_of
joined_kept s a entry n = rw (ne_eqb a uncalled_code n) (go (eqb a failed_code) refl)
  where
    go : (b : Bool) → eqb a failed_code ≡ b
        → agreement_code (kept_by s a (eqb entry a)) ≡ agreement_code (joined_by s (choose b Failed (At a)) (decode entry))
    go true e = let q = eqb-true a failed_code e in ap (λ x. agreement_code (kept_by s x (eqb entry a))) q ∙ kept_failed s (eqb entry a)
    go false e = ap (λ x. agreement_code (kept_by s a x)) (same_end entry a (eqb-false a failed_code e))
