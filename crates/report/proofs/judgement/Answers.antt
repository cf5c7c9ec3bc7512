-- The words loaded are judged by, and bytes that are no words are refused.
use Prim.Native.Nat.{ℕ}
use lib.ListN.{length-replicate}
use Rattle.grammar.specs.Limits.{max_words}
use Rattle.report_texts.proofs.Files.{found, not_found, judgement_refused, judgement_judged}
use Rattle.report.proofs.judgement.Goals as goal

pub slice_bounds-words-end : goal.slice_bounds-words-end
slice_bounds-words-end c = (found c.load-loaded.ensures c.in-Some.is (length-replicate {A = ℕ} max_words 0)).few

pub slice_bounds-put_judged-end : goal.slice_bounds-put_judged-end
slice_bounds-put_judged-end c =
    (found c.load-loaded.ensures c.in-Some.is (length-replicate {A = ℕ} max_words 0)).part

pub returns-in-Some : goal.returns-in-Some
returns-in-Some c =
    judgement_judged (found c.load-loaded.ensures c.in-Some.is (length-replicate {A = ℕ} max_words 0)) c.args.events.now
    c.put_judged.ensures

pub returns-in-None : goal.returns-in-None
returns-in-None c =
    judgement_refused c.args.bytes.now c.args.events.now (not_found c.load-loaded.ensures c.in-None.is)
    c.put_refusal.ensures
