-- The loop keeps: the words of the bytes passed are put.
use mathlib.Core.Path.{◌≡◌}
use Prim.Native.Nat.{◌/◌}
use native.Mathlib.Omega.{arith}
use lib.ListN.{length}
use Rattle.file_words.specs.Words.{bytes_of_word}
use Rattle.file_words.proofs.Fours.{one_more, all_loaded}
use Rattle.file_words.proofs.load.Goals as goal

pub loop-i-preserved : goal.loop-i-preserved
loop-i-preserved c = one_more _ _ _ c.loop-i-test.true c.loop-i.invariant c.word_at.ensures

pub returns : goal.returns
returns c =
    let all : c.loop-i.i ≡ length c.args.bytes.now / bytes_of_word = omega arith in
    rw (← all) (all_loaded _ _ c.if-bytes.false c.if-bytes-ne0.false _ (omega arith) c.loop-i-test.false c.loop-i.invariant)
