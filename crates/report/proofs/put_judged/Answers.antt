-- What is printed follows from what the descent finds and leaves.
use Prim.Native.Nat.{ℕ}
use lib.ListN.{length-replicate}
use Rattle.grammar.specs.Codes.{uncalled_code}
use Rattle.grammar.specs.Limits.{max_memo_entries}
use Rattle.report_texts.specs.Texts.{blank_memo}
use Rattle.report_texts.proofs.Answers.{put_judged_text}
use Rattle.report.proofs.put_judged.Goals as goal

pub returns : goal.returns
unfolding blank_memo
returns c =
    put_judged_text c.args.events.now (length-replicate {A = ℕ} max_memo_entries uncalled_code) c.nonterminals.ensures
    c.tokens.ensures c.descend_words-found.ensures c.answer-answered.ensures c.put_judgement.ensures
