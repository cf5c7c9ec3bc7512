-- The gaps of the words loaded are reported, and bytes that are no words are refused.
use Prim.Native.Nat.{ℕ}
use lib.ListN.{length-replicate}
use Rattle.grammar.specs.Limits.{max_words}
use Rattle.report_texts.proofs.Files.{found, not_found, gaps_refused, gaps_told}
use Rattle.report.proofs.gaps.Goals as goal

pub slice_bounds-words-end : goal.slice_bounds-words-end
slice_bounds-words-end c = (found c.load-loaded.ensures c.in-Some.is (length-replicate {A = ℕ} max_words 0)).few

pub slice_bounds-put_claimed-end : goal.slice_bounds-put_claimed-end
slice_bounds-put_claimed-end c =
    (found c.load-loaded.ensures c.in-Some.is (length-replicate {A = ℕ} max_words 0)).part

pub returns-in-Some : goal.returns-in-Some
returns-in-Some c =
    gaps_told (found c.load-loaded.ensures c.in-Some.is (length-replicate {A = ℕ} max_words 0))
    c.put_claimed.ensures

pub returns-in-None : goal.returns-in-None
returns-in-None c =
    gaps_refused c.args.bytes.now (not_found c.load-loaded.ensures c.in-None.is) c.put_refusal.ensures
