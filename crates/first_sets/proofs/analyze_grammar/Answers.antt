-- A grammar that has been read: by whether a flaw is found.
use mathlib.Core.Path.{◌∙◌}
use Rattle.families.proofs.ByRules.{by_rules_zeros}
use Rattle.families.proofs.Findings.{firsts_flawed, firsts_found}
use Rattle.families.proofs.Flawed.{flaws_found}
use Rattle.first_sets.proofs.analyze_grammar.Goals as goal

pub first_sets-requires : goal.first_sets-requires
first_sets-requires c = (c.requires, c.rule_starts.ensures, by_rules_zeros _)

pub returns-in-Err : goal.returns-in-Err
returns-in-Err c =
    let lookahead = c.args.lookahead in
    let words = c.args.words.now in
    let finding = flaws_found lookahead words c.requires c.first_sets.ensures.0 c.reached-families.ensures c.finding_of-families.ensures in
    c.refused.ensures ∙ firsts_flawed lookahead words finding c.in-Err.is

pub returns-in_default : goal.returns-in_default
returns-in_default c =
    let lookahead = c.args.lookahead in
    let words = c.args.words.now in
    let finding = flaws_found lookahead words c.requires c.first_sets.ensures.0 c.reached-families.ensures c.finding_of-families.ensures in
    firsts_found lookahead words finding c.in_default.is c.rule_starts.ensures c.first_sets.ensures.0
    c.first_sets.ensures.1 c.reached-families.ensures
