-- The words that are left, gone through from their end, give what all words do.
use Rattle.std.specs.Prelude.{◌≡◌}
use Rattle.std.specs.Iterator.Adapters.{rev_source}
use Rattle.std.specs.Slice.Iter.{iter_rest}
use Rattle.families.specs.inner.Least.{at as family}
use Rattle.families.specs.inner.Left.{empty_in, lefts, inside_left}
use Rattle.families.specs.inner.Rules.{fold_from_end}
use Rattle.lefts.proofs.rule_left.Given as goal

abbrev pub invariant-loop-bits : goal.invariant-loop-bits
invariant-loop-bits l =
    let f = inside_left (empty_in l.lookahead (family l.firsts)) in
    fold_from_end f l.left (iter_rest (rev_source l.bits-iterator)) ≡ fold_from_end f (lefts 0 0) l.words
