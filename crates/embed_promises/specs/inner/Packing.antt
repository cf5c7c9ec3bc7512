-- When the numbers of an answer fit into their fields, and what they are cut to.
use Rattle.std.specs.Prelude.{ℕ, ◌%◌, ◌<◌}
use Rattle.answer.specs.Numbers.{Numbers, answered}
use Rattle.embed_promises.specs.Packing.{verdict_number}

-- each number cut to the bits of its field
abbrev pub cut : Numbers → Numbers
cut n = answered n.verdict (n.code % 256) (n.position % 65536) (n.count % 65536) (n.farthest % 65536)

-- each field is within its bits
pub record Fit (v n p c f : ℕ) : Type 0 where
  pub verdict : v < 256
  pub code : n < 256
  pub position : p < 65536
  pub count : c < 65536
  pub farthest : f < 65536

abbrev pub NumbersFit : Numbers → Type 0
NumbersFit n = Fit (verdict_number n.verdict) n.code n.position n.count n.farthest
