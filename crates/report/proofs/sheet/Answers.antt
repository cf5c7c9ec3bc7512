-- The words loaded are checked, and bytes that are no words are refused.
use Prim.Native.Nat.{ℕ}
use lib.ListN.{length-replicate}
use Rattle.grammar.specs.Limits.{max_words}
use Rattle.report_texts.proofs.Files.{found, not_found, sheet_refused, sheet_checked}
use Rattle.report_texts.proofs.Counts.{sheet_printed}
use Rattle.report.proofs.sheet.Goals as goal

pub slice_bounds-words-end : goal.slice_bounds-words-end
slice_bounds-words-end c = (found c.load-loaded.ensures c.in-Some.is (length-replicate {A = ℕ} max_words 0)).few

pub slice_bounds-put_checked-end : goal.slice_bounds-put_checked-end
slice_bounds-put_checked-end c =
    (found c.load-loaded.ensures c.in-Some.is (length-replicate {A = ℕ} max_words 0)).part

pub returns-in-Some : goal.returns-in-Some
returns-in-Some c =
    sheet_printed c.args.bytes.now
    (sheet_checked (found c.load-loaded.ensures c.in-Some.is (length-replicate {A = ℕ} max_words 0))
    c.put_checked.ensures)

pub returns-in-None : goal.returns-in-None
returns-in-None c =
    sheet_printed c.args.bytes.now
    (sheet_refused c.args.bytes.now (not_found c.load-loaded.ensures c.in-None.is) c.put_refusal.ensures)
