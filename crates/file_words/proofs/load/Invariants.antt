-- The loop keeps: the words of the bytes passed are put.
use mathlib.Core.Path.{◌≡◌}
use lib.ListN.{take}
use lib.Seq.{sets}
use Rattle.file_words.specs.Words.{words_of}
use Rattle.file_words.proofs.load.Given as goal

abbrev pub invariant-loop-i : goal.invariant-loop-i
invariant-loop-i l = l.words ≡ sets l.initial.words 0 (take l.i (words_of l.bytes))
