-- Sizes that are within the limits are what the lines require.
use mathlib.Core.Path.{sym, ◌∙◌}
use Rattle.gaps_text_promises.proofs.Limits.{limits}
use Rattle.gaps_text.proofs.put_gaps.Goals as goal

pub put_lines-requires : goal.put_lines-requires
put_lines-requires c = limits _ (sym c.within_limits.ensures ∙ c.if-not-within_limits.false)
