-- Where there are no such words, or the nonterminal is found already, the rule adds nothing; else it is read at the span.
use Rattle.tabular_promises.proofs.RuleRanks.{asked_beyond, asked_nothing}
use Rattle.rule_scan.proofs.ask.Goals as goal

pub returns-then-words-to : goal.returns-then-words-to
returns-then-words-to c =
    let a = c.args in
    asked_beyond a.words.now a.starts.now a.sizes.rules a.rule a.stands.now a.chart.now a.start a.end a.found.bits
    c.end_of-to.ensures c.if-words-to.true

pub returns-then-to-from : goal.returns-then-to-from
returns-then-to-from c =
    let a = c.args in
    asked_nothing a.words.now a.starts.now a.sizes.rules a.rule a.stands.now a.chart.now a.start a.end a.found.bits
    c.end_of-to.ensures c.if-words-to.false c.if-to-from.true
