-- The set of a nonterminal alone, by cases, as the code goes.
use mathlib.Core.Path.{◌≡◌, sym, ap, ◌∙◌}
use mathlib.Core.Bool.{Bool, ◌&&◌}
use Prim.Native.Nat.{ℕ, ◌*◌, ◌%◌, ◌^◌, ◌≤◌, ◌<◌}
use native.Mathlib.Omega.{arith}
use lib.Dec.{ltb}
use lib.Pow.{shl_exact}
use borrow.Author.Tests.{lt-ltb, le-ltb}
use Rattle.grammar.specs.Limits.{max_nonterminals}
use Rattle.lookahead.specs.Elements.{weight}
use Rattle.lookahead.specs.inner.Operations.{Empty}
use Rattle.lookahead.proofs.Operations.{has_choose}
use Rattle.lookahead.proofs.Powers.{has_pow}
use Rattle.families.specs.inner.Nonterminals.{alone, Alone}

is_alone : {A r : ℕ} → r ≡ alone A → Alone A r
unfolding alone
is_alone {A} e = record {
  is = e;
  member = λ B. rw e (has_choose (ltb A max_nonterminals) (weight A) B ∙ ap (λ (b : Bool). ltb A max_nonterminals && b) (has_pow A B));
}

-- one, shifted to the nonterminal's place, is its weight
pub alone_some : {A : ℕ} → A < max_nonterminals → Alone A (1 * 2 ^ A % 2 ^ max_nonterminals)
unfolding alone
alone_some {A} h =
    let shifted : 1 * 2 ^ A % 2 ^ max_nonterminals ≡ weight A = shl_exact 1 A max_nonterminals (omega arith) (omega arith) ∙ omega arith in
    is_alone (shifted ∙ sym (rw (lt-ltb A max_nonterminals h)))

pub alone_none : {A r : ℕ} → max_nonterminals ≤ A → Empty r → Alone A r
unfolding alone
alone_none {A} h e = is_alone (e.is ∙ sym (rw (le-ltb A max_nonterminals h)))
