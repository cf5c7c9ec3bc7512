-- Sizes within the limits: what the test for them tells, and what is put by them.
use Rattle.std.specs.Prelude.{Ok, Result}
use mathlib.Core.Path.{◌≡◌, sym, ◌∙◌}
use mathlib.Core.Bool.{Bool, true, ◌&&◌}
use mathlib.Core.List.{List}
use Prim.Native.Nat.{ℕ}
use lib.Dec.{leb, leb→le}
use Rattle.answer.specs.declared.Error.{Error}
use Rattle.base.proofs.Booleans.{true_T, and_l, and_r}
use Rattle.grammar.specs.Limits.{max_nonterminals, max_terminals, max_rules}
use Rattle.grammar.specs.declared.reading.Sizes.{Sizes}
use Rattle.text.specs.Writing.{Put}
use Rattle.gaps_text_promises.specs.inner.Steps.{lines_text, claimant_at, overruns_in, within_limits, WithinLimits, GapsPutBy}

-- what that they are within means
pub limits : (z : Sizes) → within_limits z ≡ true → WithinLimits z
unfolding within_limits
limits z e =
    let n = leb z.nonterminals max_nonterminals in
    let t = leb z.terminals max_terminals in
    let r = leb z.rules max_rules in
    let all = true_T (n && (t && r)) e in
    let later = and_r n (t && r) all in
    record {
      nonterminals = leb→le _ _ (and_l n (t && r) all);
      terminals = leb→le _ _ (and_l t r later);
      rules = leb→le _ _ (and_r t r later);
    }

-- what is put, by what is found
module _ {f : Result Sizes Error} {heads sets overruns l m : List ℕ} {n : ℕ} where
  pub lines_are_put : {z : Sizes} {b : Bool} → f ≡ Ok z → b ≡ within_limits z → b ≡ true
      → Put l 0 (lines_text z (claimant_at heads sets z.terminals) (overruns_in overruns)) m n → GapsPutBy f heads sets overruns l m n
  lines_are_put e w h p = record { put = rw (e, sym w ∙ h) p }
