-- The worked rows come out by the definitions, from the words of their grammars on, by computation.
use mathlib.Core.Path.{◌≡◌, refl}
use mathlib.Core.List.{map}
use Rattle.base.specs.Quantifiers.{any_of, all_of, any_below}
use Rattle.event.specs.Unknown.{unknown_from}
use Rattle.word.specs.Words.{bare, heading, of_kind, decoded}
use Rattle.grammar.specs.Encoding.{on_word, parse, grammar_of}
use Rattle.grammar.specs.Reading.{counted, stepped, on_step, finished, scan, is_within, headed, opened, reading}
use Rattle.lookahead.specs.Elements.{total_weight}
use Rattle.semantics.specs.Valuations.{contains, derives, by_rules, rounds, solution}
use Rattle.semantics.specs.Productive.{unproductive, lowest_unproductive}
use Rattle.semantics_examples.proofs.Computing.{left_recursion_computes, tables_compute}
use Rattle.base.specs.Lists.{listed}
use Rattle.tabular_promises.specs.Spans.{solution_word, rows, span_words}
use Rattle.tabular_promises.specs.Answers.{tabular_fault, tabular_verdict, tabular_words}
use Rattle.tabular_promises.specs.examples.Rows.{worked, judged, lent}

pub worked_answers : map (λ r. judged r.words r.input) worked ≡ map (λ r. r.told) worked
unfolding judged tabular_fault tabular_verdict unknown_from reading opened headed is_within scan finished on_step stepped counted
    grammar_of parse on_word decoded of_kind heading bare left_recursion_computes tables_compute lowest_unproductive unproductive
    solution rounds by_rules derives contains any_of all_of any_below
worked_answers = refl

pub worked_words : map (λ r. lent r.words r.input) worked ≡ map (λ r. r.spans) worked
unfolding lent tabular_fault tabular_words span_words rows listed solution_word total_weight unknown_from reading opened headed
    is_within scan finished on_step stepped counted
    grammar_of parse on_word decoded of_kind heading bare left_recursion_computes tables_compute lowest_unproductive unproductive
    solution rounds by_rules derives contains any_of all_of any_below
worked_words = refl
