-- The loop has written the words before the one that it stands at.
use mathlib.Core.Path.{ap}
use Prim.Native.Nat.{ℕ}
use native.Mathlib.Omega.{arith}
use lib.ListN.{length, length-replicate}
use Rattle.grammar.specs.Codes.{no_entry}
use Rattle.grammar.specs.Limits.{max_table_words}
use Rattle.lookahead.specs.declared.Lookahead.TheVariants.{One}
use Rattle.lending.proofs.Laying.{count_room, front_next, words_made}
use Rattle.lending.proofs.Lent.lay_out.Goals as goal

pub loop-at-preserved : goal.loop-at-preserved
loop-at-preserved c =
    let self = c.args.self.now in
    let room = count_room One self.sizes self.given in
    front_next _ _ _ _ _ _ c.loop-at.invariant c.loop-at-test.true
    (omega (arith, c.word_count-at-end.ensures, room, ap length c.requires, length-replicate {A = ℕ} max_table_words no_entry))
    (rw c.word.ensures)

pub returns : goal.returns
returns c =
    words_made c.args.self.now.sizes _ _ _ c.loop-at.auto.at-end c.loop-at-test.false c.word_count-at-end.ensures
    (rw c.requires at c.loop-at.invariant)
