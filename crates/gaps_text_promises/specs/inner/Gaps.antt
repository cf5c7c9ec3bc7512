-- What putting the sheet of gaps and overlaps ensures.
use Rattle.std.specs.Prelude.{List, ℕ}
use Rattle.text.specs.Writing.{Put}
use Rattle.gaps_text_promises.specs.Gaps.{gaps_text, LinesTell}

pub record GapsPut (words before after : List ℕ) (n : ℕ) : Type 0 where
  pub put : Put before 0 (gaps_text words) after n
  pub tells : LinesTell words
