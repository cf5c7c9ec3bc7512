-- An answer as one number of 64 bits: bits 0 to 7 the verdict, 8 to 15 the code of an error, 16 to 31 its position, 32 to 47 the count, 48 to 63 the
-- farthest place.
use Rattle.std.specs.Prelude.{◌≡◌, ℕ, ◌+◌, ◌*◌, ◌/◌, ◌%◌}
use Rattle.answer.specs.declared.Answer.{Answer}
use Rattle.answer.specs.Numbers.{Verdict, refused, passed, rejected, accepted, Numbers, numbers}

abbrev pub verdict_number : Verdict → ℕ
verdict_number refused = 0
verdict_number passed = 1
verdict_number rejected = 2
verdict_number accepted = 3

abbrev pub joined : ℕ → ℕ → ℕ → ℕ → ℕ → ℕ
joined verdict code position count farthest = verdict + code * 256 + position * 65536 + count * 4294967296 + farthest * 281474976710656

unfoldable pub packed : Numbers → ℕ
packed n = joined (verdict_number n.verdict) n.code n.position n.count n.farthest

-- the bits of a packed answer give it back
pub record Unpacks (r : ℕ) (n : Numbers) : Type 0 where
  pub verdict : r % 256 ≡ verdict_number n.verdict
  pub code : r / 256 % 256 ≡ n.code
  pub position : r / 65536 % 65536 ≡ n.position
  pub count : r / 4294967296 % 65536 ≡ n.count
  pub farthest : r / 281474976710656 ≡ n.farthest

-- the number is the answer packed, and its bits give the answer back
pub record Packs (r : ℕ) (a : Answer) : Type 0 where
  pub number : r ≡ packed (numbers a)
  pub fields : Unpacks r (numbers a)
