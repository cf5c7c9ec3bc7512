-- A reading without a fault goes on from each word to the next.
use Rattle.std.specs.Prelude.{Ok}
use mathlib.Core.Path.{◌≡◌, sym, ◌∙◌}
use mathlib.Core.List.{List, [], ◌∷◌}
use Prim.Native.Nat.{ℕ, zero, suc, ◌+◌, ◌≤◌, ◌<◌}
use native.Mathlib.Omega.{arith}
use native.Mathlib.Numerals.{add-one}
use lib.ListN.{length, get_or, drop}
use Rattle.word.specs.Words.{decoded}
use Rattle.grammar.specs.declared.reading.Sizes.{Sizes}
use Rattle.grammar.specs.declared.reading.Progress.{Progress}
use Rattle.grammar.specs.Encoding.{declared_by}
use Rattle.grammar.specs.Reading.{fresh, stepped, scan, reading}
use Rattle.grammar.proofs.Scanning.{scan_here}
use Rattle.grammar.proofs.WellFormed.{Passed, step_passed, onward}
use Rattle.grammar.proofs.EachIndex.{read_opened}

-- the progress behind the word at an index, and the reading from there
pub record Next (words : List ℕ) (at : ℕ) (p : Progress) (z : Sizes) : Type 0 where
  pub progress : Progress
  pub passed : Passed (decoded (get_or words at 0)) p progress
  pub reads : scan progress (at + 1) (drop (at + 1) words) ≡ Ok z

pub scan_next : (words : List ℕ) (at : ℕ) (p : Progress) (z : Sizes) → at < length words → scan p at (drop at words) ≡ Ok z → Next words at p z
scan_next words at p z h e =
    let w = decoded (get_or words at 0) in
    let g = onward (stepped w p at) (λ q. scan q (suc at) (drop (suc at) words)) z (sym (scan_here words p at at h) ∙ e) in
    record { progress = g.0; passed = step_passed w p g.0 at g.1; reads = rw (add-one at) g.2 }

-- a reading that has reached an index
pub record Reached (words : List ℕ) (at : ℕ) (z : Sizes) : Type 0 where
  pub progress : Progress
  pub reads : scan progress at (drop at words) ≡ Ok z

-- a reading without a fault reaches every index behind the heading
pub read_reaches : (words : List ℕ) (z : Sizes) → reading words ≡ Ok z → (i : ℕ) → suc i ≤ length words → Reached words (suc i) z
read_reaches [] z e i h = absurd (omega arith)
read_reaches (w ∷ ws) z e zero h = let o = read_opened w ws z e in record { progress = fresh (declared_by (decoded w)); reads = o.rest }
read_reaches (w ∷ ws) z e (suc i) h =
    let r = read_reaches (w ∷ ws) z e i (omega arith) in
    let n = scan_next (w ∷ ws) (suc i) r.progress z (omega arith) r.reads in
    record { progress = n.progress; reads = rw (add-one (suc i)) at n.reads }
