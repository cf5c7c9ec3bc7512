-- The start's call in a blank memo table.
use mathlib.Core.Path.{ap, subst}
use mathlib.Core.List.{List}
use Prim.Native.Nat.{ℕ, suc, ◌<◌}
use native.Mathlib.Omega.{arith}
use Rattle.grammar.specs.Syntax.{Grammar}
use Rattle.grammar.specs.Encoding.{grammar_of}
use Rattle.grammar.specs.inner.WellRead.{WellRead}
use Rattle.grammar.proofs.WellRead.{well_read}
use Rattle.semantics.specs.Choices.{Choice}
use Rattle.semantics.specs.inner.Memo.{EndsFit, blank}
use Rattle.semantics.specs.Memo.{Recorded}
use Rattle.semantics.proofs.descent.Memo.{memo_recorded_within}
use Rattle.recursive_descent_promises.specs.inner.Descent.{CallGiven, CallDone}
use Rattle.recursive_descent_promises.proofs.Running.{level}

module _ {choice : Choice} {words choices tokens input : List ℕ} (g : CallGiven choice words choices tokens input (blank (grammar_of words) input) 0 0) where
  abbrev G : Grammar
  G = grammar_of words

  read : WellRead words g.given.sizes
  read = well_read words g.given.sizes g.given.read

  fits : EndsFit input
  fits = omega (arith, g.given.short)

  -- it leaves the entries of the calls made, and no others
  pub start_recorded : {entry : ℕ} {memo' : List ℕ} → CallDone choice words input (blank G input) 0 0 entry memo' → Recorded G choice input memo'
  start_recorded d =
      let n = suc (level words input 0 0) in
      let l : level words input 0 0 < n = omega arith in
      let e = memo_recorded_within G choice input read.formed.scoped g.given.free g.given.own fits g.named n l in
      subst (λ x. Recorded G choice input x) (ap (λ x. x.memo) (d.model n l)) e.1
