-- A grammar that is admitted has been read, and has no more terminals than its lookahead allows.
use Rattle.std.specs.Prelude.{Ok}
use mathlib.Core.Path.{◌≡◌}
use mathlib.Core.List.{List}
use Prim.Native.Nat.{ℕ, ◌≤◌}
use native.Mathlib.Omega.{arith}
use Rattle.grammar.specs.declared.reading.Sizes.{Sizes}
use Rattle.grammar.specs.Encoding.{grammar_of}
use Rattle.grammar.specs.Reading.{reading}
use Rattle.grammar.proofs.WellRead.{well_read}
use Rattle.lookahead.specs.declared.Lookahead.{Lookahead}
use Rattle.lookahead.specs.declared.Lookahead.TheVariants.{One, Two}
use Rattle.lookahead.specs.inner.Lookaheads.{alphabet}
use Rattle.admission.specs.Admission.{admission, Fits}
use Rattle.admission.proofs.Admitted.{admitted}

module _ (k : Lookahead) (words : List ℕ) {z : Sizes} (e : admission k words ≡ Ok z) where
  pub admitted_read : reading words ≡ Ok z
  admitted_read = ((admitted k words z).0 e).0

  pub few_terminals_lem : (grammar_of words).terminals ≤ alphabet k
  few_terminals_lem = fits k ((admitted k words z).0 e).1
    where
      fits : (k : Lookahead) → Fits k (grammar_of words) → (grammar_of words).terminals ≤ alphabet k
      fits One f = let w = well_read words z admitted_read in omega (arith, w.few_terminals, w.terminals)
      fits Two f = f.0
