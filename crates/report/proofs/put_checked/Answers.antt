-- What is printed follows from what is found of the grammar and lent of its table.
use Prim.Native.Nat.{ℕ}
use lib.ListN.{length-replicate}
use Rattle.grammar.specs.Codes.{no_entry}
use Rattle.grammar.specs.Limits.{max_table_words}
use Rattle.report_texts.specs.Texts.{blank_table}
use Rattle.report_texts.proofs.Answers.{put_checked_text}
use Rattle.report.proofs.put_checked.Goals as goal

pub returns : goal.returns
unfolding blank_table
returns c =
    put_checked_text _ (length-replicate {A = ℕ} max_table_words no_entry) c.find_into-finding.ensures c.lend.ensures
    c.put_check.ensures
