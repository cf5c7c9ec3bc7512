-- The loop has written the words before the one that it stands at.
use mathlib.Core.Path.{◌≡◌}
use Prim.Native.Nat.{◌%◌, ◌^◌}
use Rattle.base.specs.Lists.{listed}
use Rattle.lending.specs.inner.Lending.{table_word_at}
use Rattle.base.proofs.Front.{front}
use Rattle.lending.proofs.Lent.lay_out.Given as goal

abbrev pub invariant-loop-at : goal.invariant-loop-at
invariant-loop-at l =
    let lent = l.self in
    let word = table_word_at lent.sizes.nonterminals lent.firsts.now lent.follows.now lent.entries.now in
    l.words ≡ front (listed l.at-end (λ i. word i % 2 ^ 32)) l.at l.initial.words
