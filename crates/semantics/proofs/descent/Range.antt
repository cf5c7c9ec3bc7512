-- The calls in range: all of them are listed, each once, and each has an entry of its own in the memo table.
use mathlib.Core.List.{List, Memᴰ}
use mathlib.Core.Logic.{◌↔◌}
use mathlib.Core.Path.{◌≡◌, refl, sym, ap, ◌∙◌}
use Prim.Native.Nat.{ℕ, suc, ◌/◌, ◌%◌, ◌≤◌, ◌<◌}
use native.Mathlib.Omega.{arith}
use lib.Arith.{digits_div, digits_mod, digits_lt}
use lib.Dec.{eqb, eqb→eq, eqb_refl}
use lib.ListN.{length, get_or}
use Rattle.grammar.specs.Syntax.{Grammar}
use Rattle.base.specs.FiniteSets.{numbers_below, Distinct}
use Rattle.semantics.specs.Valuations.{pairs}
use Rattle.semantics.specs.ComesTo.{Call, call_at, InRange}
use Rattle.semantics.specs.Calls.{same_call, all_calls}
use Rattle.semantics.specs.Memo.{memo_index}
use Rattle.base.proofs.Booleans.{and_l, and_r, and_make}
use Rattle.base.proofs.FiniteSets.{Equality, numbers_make, numbers_elim, numbers_length, combine_make, combine_elim}
use Rattle.base.proofs.CombinedAt.{numbers_at, combine_at}
use Rattle.base.proofs.Distinct.{distinct_numbers, distinct_combine, combine_length}

call_same : (x y : Call) → x.nonterminal ≡ y.nonterminal → x.place ≡ y.place → x ≡ y
call_same x y a b = let s : call_at x.nonterminal x.place ≡ call_at y.nonterminal y.place = cc in s

pub calls_equality : Equality same_call
calls_equality = record {
  equal = λ x y t. call_same x y
      (eqb→eq x.nonterminal y.nonterminal (and_l (eqb x.nonterminal y.nonterminal) _ t))
      (eqb→eq x.place y.place (and_r (eqb x.nonterminal y.nonterminal) (eqb x.place y.place) t));
  itself = λ x. and_make (eqb x.nonterminal x.nonterminal) (eqb x.place x.place) (eqb_refl x.nonterminal) (eqb_refl x.place);
}

module _ (G : Grammar) (w : List ℕ) where
  pub all_range : (x : Call) → Memᴰ x (all_calls G w) ↔ InRange G w x
  unfolding all_calls
  all_range x = (
    λ m.
        let r = combine_elim call_at (numbers_below G.nonterminals) (numbers_below (suc (length w))) x m in
        let a = numbers_elim G.nonterminals r.0 r.2 in
        let b : r.1 ≤ length w = omega (arith, numbers_elim (suc (length w)) r.1 r.3) in
        rw r.4 (a, b),
    λ h.
        combine_make call_at (numbers_below G.nonterminals) (numbers_below (suc (length w))) x.nonterminal x.place
        (numbers_make G.nonterminals x.nonterminal h.0) (numbers_make (suc (length w)) x.place (omega (arith, h.1))),
  )

  pub all_distinct : Distinct (all_calls G w)
  unfolding all_calls
  all_distinct = distinct_combine call_at (λ A B i j e. ap (λ (x : Call). x.nonterminal) e) (λ A B i j e. ap (λ (x : Call). x.place) e)
      (numbers_below G.nonterminals) (numbers_below (suc (length w))) (distinct_numbers G.nonterminals) (distinct_numbers (suc (length w)))

  pub all_length : length (all_calls G w) ≡ pairs G w
  unfolding all_calls
  all_length =
      combine_length call_at (numbers_below G.nonterminals) (numbers_below (suc (length w)))
      ∙ rw (numbers_length G.nonterminals, numbers_length (suc (length w)))

  pub index_range : (x : Call) → InRange G w x → memo_index w x < pairs G w
  index_range x h = digits_lt h.0 (omega (arith, h.1))

-- no two calls within the input have the same index
pub index_injective : (w : List ℕ) (x y : Call) → x.place ≤ length w → y.place ≤ length w → memo_index w x ≡ memo_index w y → x ≡ y
index_injective w x y h h' e = call_same x y
    (sym (digits_div x.nonterminal (omega arith)) ∙ ap (λ z. z / suc (length w)) e ∙ digits_div y.nonterminal (omega arith))
    (sym (digits_mod x.nonterminal (omega arith)) ∙ ap (λ z. z % suc (length w)) e ∙ digits_mod y.nonterminal (omega arith))

-- the list of all calls is in the order of the memo table: the call of each entry stands at the entry's index
pub all_ordered : (G : Grammar) (w : List ℕ) (x z : Call) → InRange G w x → get_or (all_calls G w) (memo_index w x) z ≡ x
unfolding all_calls
all_ordered G w x z h =
    combine_at call_at (suc (length w)) (numbers_below G.nonterminals) x.nonterminal x.place z 0
    (omega (arith, h.0, numbers_length G.nonterminals)) (omega (arith, h.1))
    ∙ call_same (call_at (get_or (numbers_below G.nonterminals) x.nonterminal 0) x.place) x (numbers_at G.nonterminals x.nonterminal 0 h.0) refl
