-- The definitions that things compute by, to be named together: `unfolding tables-compute` for sets, clashes and tables, and so on.
use mathlib.Core.List.{flat_map}
use Rattle.base.specs.Quantifiers.{any_of, all_of, any_below, lowest}
use Rattle.base.specs.FiniteSets.{member, keep, distinct, numbers_from, numbers_below, combine}
use Rattle.base.specs.Rounds.{round, settle, members, least}
use Rattle.semantics.specs.LeftRecursion.{all_nullable, null_step, nullable, left_in, left_depends, reach_step, left_reaches, left_recursive}
use Rattle.semantics.specs.LeftRecursion.{lowest_left_recursive}
use Rattle.base.specs.Strings.{look, strings, same_string}
use Rattle.semantics.specs.FirstFollow.{concat_strings, same_entry, entries, sets_of, first_of_symbol, first_body, first_rule, first_step}
use Rattle.semantics.specs.FirstFollow.{first, first_sets, behind, follow_step, follow, follow_sets}
use Rattle.semantics.specs.Productive.{unproductive, lowest_unproductive}
use Rattle.semantics.specs.Claims.{several, position, meeting, claimed, claims, overruns, clashes, table_of, every_ends}
use Rattle.semantics.specs.Descent.{read, run, agrees, confirm, conclude, obey, select, by_choice, within, descend, accepts}
use Rattle.semantics.specs.ComesTo.{when, body_comes_to, negatives_come_to, positives_come_to, rule_comes_to, selected_comes_to, call_comes_to}
use Rattle.semantics.specs.Calls.{calls_within, all_calls, calls, call_count, greatest_place, farthest}

unfoldable pub tables_compute : Unit {0}
unfolding any_of all_of member keep distinct numbers_from numbers_below combine round settle members least strings same_string concat_strings same_entry
    entries sets_of
    first_of_symbol first_body first_rule first_step first first_sets behind follow_step follow follow_sets several position meeting claimed
    claims overruns clashes table_of every_ends
tables_compute = tt

unfoldable pub productive_computes : Unit {0}
unfolding tables_compute any_below lowest unproductive lowest_unproductive
productive_computes = tt

unfoldable pub left_recursion_computes : Unit {0}
unfolding any_of all_of any_below lowest member keep numbers_from numbers_below round settle members least nullable null_step all_nullable
    left_in left_depends reach_step left_reaches left_recursive lowest_left_recursive
left_recursion_computes = tt

unfoldable pub descent_computes : Unit {0}
unfolding any_of all_of look read run agrees confirm conclude obey select by_choice within descend accepts
descent_computes = tt

unfoldable pub calls_compute : Unit {0}
unfolding any_of member keep numbers_from numbers_below combine when body_comes_to negatives_come_to positives_come_to rule_comes_to
    selected_comes_to call_comes_to flat_map calls_within
    all_calls calls call_count greatest_place farthest
calls_compute = tt
