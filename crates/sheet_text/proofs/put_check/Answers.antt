-- By what is found: a refusal, or the sheet of sizes within the limits.
use Rattle.sheet_text.proofs.Limited.{limited_sizes_lem}
use Rattle.sheet_text.proofs.put_check.Goals as goal

pub put_sheet-requires : goal.put_sheet-requires
put_sheet-requires c = rw c.limited_sizes.ensures (limited_sizes_lem _)
