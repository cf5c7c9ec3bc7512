-- Words that begin an encoding, with its heading, are completed by no more than a positive and the end.
use Rattle.std.specs.Prelude.{Ok}
use mathlib.Core.Path.{◌≡◌, ◌∙◌}
use mathlib.Core.Bool.{Bool, true, ◌&&◌}
use mathlib.Core.List.{List, [], ◌∷◌, ◌++◌}
use Prim.Native.Nat.{ℕ, suc, ◌+◌}
use native.Mathlib.Omega.{arith}
use lib.ListN.{length}
use Rattle.word.specs.Words.{decoded}
use Rattle.grammar.specs.declared.reading.State.{State}
use Rattle.grammar.specs.declared.reading.Sizes.{Sizes}
use Rattle.grammar.specs.declared.reading.Progress.{Progress}
use Rattle.grammar.specs.Encoding.{declared_by}
use Rattle.grammar.specs.Limits.{max_nonterminals, max_terminals}
use Rattle.grammar.specs.Reading.{stepped, on_step, scan, opened, headed, fresh, is_within}
use Rattle.grammar.proofs.WellFormed.{onward}
use Rattle.grammar.proofs.WellRead.{chosen}
use Rattle.encoding.specs.Encode.{sizes_of}
use Rattle.encoding.specs.Diagnosis.{BeginsEncoding}
use Rattle.encoding.proofs.ReadingEncodes.{encodes_opened}
use Rattle.encoding.proofs.Faults.{completion, complete, goes_anywhere}

-- words in front of others that are read lead to `come` whatever follows them
record Passes (p : Progress) (ws : List ℕ) : Type 0 where
  come : Progress
  through : (us : List ℕ) (j : ℕ) → scan p j (ws ++ us) ≡ scan come (j + length ws) us

passes : (p : Progress) (at : ℕ) (ws us : List ℕ) (z : Sizes) → scan p at (ws ++ us) ≡ Ok z → Passes p ws
unfolding scan on_step
passes p at [] us z e = record { come = p; through = λ vs j. let n : j + 0 ≡ j = omega arith in rw n }
passes p at (w ∷ ws) us z e =
    let g = onward (stepped (decoded w) p at) (λ q. scan q (suc at) (ws ++ us)) z e in
    let h = passes g.0 (suc at) ws us z g.2 in
    record {
      come = h.come;
      through = λ vs j. let n : j + suc (length ws) ≡ suc j + length ws = omega arith in
          rw (n, goes_anywhere (decoded w) p g.0 at j g.1) (h.through vs (suc j));
    }

pub record Completed (words : List ℕ) : Type 0 where
  pub state : State
  pub sizes : Sizes
  pub reads : opened (words ++ completion state) ≡ Ok sizes

pub completed : (w : ℕ) (ws : List ℕ) → BeginsEncoding (w ∷ ws) → Completed (w ∷ ws)
unfolding opened headed
completed w ws b =
    let c = chosen ok (scan (fresh y) 1 (ws ++ b.rest)) (sizes_of b.grammar) (encodes_opened (w ∷ ws ++ b.rest) b.grammar b.encodes) in
    headed_by c.0 (passes (fresh y) 1 ws b.rest (sizes_of b.grammar) c.1)
  where
    y : Sizes
    y = declared_by (decoded w)

    ok : Bool
    ok = is_within y.nonterminals max_nonterminals && is_within y.terminals max_terminals

    headed_by : ok ≡ true → Passes (fresh y) ws → Completed (w ∷ ws)
    headed_by c h = record {
      state = h.come.state;
      sizes = h.come.sizes;
      reads = rw c (h.through (completion h.come.state) 1 ∙ complete h.come.state h.come.sizes (1 + length ws));
    }
