-- The loop keeps the word of the nonterminals gone through.
use mathlib.Core.Path.{◌≡◌, ◌∙◌}
use native.Mathlib.Omega.{arith}
use Rattle.tabular_promises.proofs.Charts.{word_more, word_of_many, word_beyond, word_within}
use Rattle.span_words.proofs.word_at.Goals as goal

pub returns-then-nonterminals-gt-NONTERMINALS : goal.returns-then-nonterminals-gt-NONTERMINALS
returns-then-nonterminals-gt-NONTERMINALS c = word_of_many _ _ _ _ c.if-nonterminals-gt-NONTERMINALS.true

pub returns-then-end-ge-TABULAR_PLACES : goal.returns-then-end-ge-TABULAR_PLACES
returns-then-end-ge-TABULAR_PLACES c = word_beyond _ _ _ _ c.if-nonterminals-gt-NONTERMINALS.false c.if-end-ge-TABULAR_PLACES.true

pub loop-at-preserved : goal.loop-at-preserved
loop-at-preserved c = word_more _ _ _ _ _ _ _ (omega arith) c.loop-at.invariant c.contains-there.ensures c.found_by-word.ensures

pub returns : goal.returns
returns c =
    let e : c.loop-at.at ≡ c.args.nonterminals = omega arith in
    rw e at c.loop-at.invariant ∙ word_within _ _ _ _ c.if-nonterminals-gt-NONTERMINALS.false c.if-end-ge-TABULAR_PLACES.false
