-- The words that are left, gone through from their end, give what all words do.
use Rattle.std.specs.Prelude.{◌≡◌}
use Rattle.std.specs.Iterator.Adapters.{rev_source}
use Rattle.std.specs.Slice.Iter.{iter_rest}
use Rattle.families.specs.inner.First.{no_rest, inside_word}
use Rattle.families.specs.inner.Least.{lookup}
use Rattle.families.specs.inner.Rules.{fold_from_end}
use Rattle.rests.proofs.rule_first.Given as goal

abbrev pub invariant-loop-bits : goal.invariant-loop-bits
invariant-loop-bits l =
    let f = inside_word l.lookahead (lookup l.firsts) in
    fold_from_end f l.rest (iter_rest (rev_source l.bits-iterator)) ≡ fold_from_end f (no_rest l.lookahead l.terminals) l.words
