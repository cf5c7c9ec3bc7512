-- Each starred row of document 01 comes out by the definitions, from the words of its card on, by computation.
use mathlib.Core.Path.{◌≡◌, refl, ap, ap₂, ◌∙◌}
use mathlib.Core.List.{List, [], ◌∷◌, map}
use mathlib.Core.Option.{none}
use Rattle.answer.specs.Faults.{first_fault, refused_or}
use Rattle.answer.specs.Numbers.{Numbers, numbers}
use Rattle.word.specs.Words.{bare, heading, of_kind, decoded}
use Rattle.grammar.specs.examples.Cards.{words_r, words_m, words_e}
use Rattle.grammar.specs.Encoding.{on_word, parse, grammar_of}
use Rattle.grammar.specs.Limits.{max_table_words, max_memo_entries}
use Rattle.grammar.specs.Reading.{counted, stepped, on_step, finished, scan, is_within, headed, opened, reading}
use Rattle.lookahead.specs.declared.Lookahead.TheVariants.{One}
use Rattle.semantics_examples.proofs.Computing.{left_recursion_computes, tables_compute, descent_computes, calls_compute}
use Rattle.semantics.specs.Productive.{unproductive, lowest_unproductive}
use Rattle.table_promises.specs.Analysis.{fault}
use Rattle.columns.specs.Columns.{column_string}
use Rattle.table_promises.specs.Conflicts.{row_conflict, conflict_from, first_clash}
use Rattle.event.specs.Unknown.{unknown_from}
use Rattle.recognizer_promises.specs.Answers.{input_faults, verdict_of}
use Rattle.worked_examples.specs.examples.Rows.{Row, starred, judged}
use Rattle.recognizer_promises.proofs.JudgeFaults.{judged_rows}

-- the three cards pass
passes : (fault One words_r ≡ none) × (fault One words_m ≡ none) × (fault One words_e ≡ none)
unfolding fault first_clash conflict_from row_conflict column_string reading opened headed is_within scan finished on_step stepped counted
    grammar_of parse on_word decoded of_kind heading bare lowest_unproductive unproductive left_recursion_computes tables_compute
passes = (refl, refl, refl)

-- what is reported of an input once the card has passed
abbrev told : Row → Numbers
told r = numbers (refused_or (first_fault (input_faults (grammar_of r.words).terminals r.input)) (verdict_of One (grammar_of r.words) r.input))

abbrev AllPass : List Row → Type 0
AllPass [] = Unit {0}
AllPass (r ∷ l) = (fault One r.words ≡ none) × AllPass l

judged_told : (r : Row) → fault One r.words ≡ none → judged r.words r.input ≡ told r
unfolding judged
judged_told r p =
    ap (λ f. numbers (refused_or f (verdict_of One (grammar_of r.words) r.input)))
    (judged_rows One max_table_words max_memo_entries r.words r.input ∙ ap (λ f. first_fault (f ∷ input_faults (grammar_of r.words).terminals r.input)) p)

all_told : (l : List Row) → AllPass l → map (λ r. judged r.words r.input) l ≡ map told l
all_told [] h = refl
all_told (r ∷ l) h = ap₂ ◌∷◌ (judged_told r h.0) (all_told l h.1)

starred_told : map told starred ≡ map (λ r. r.told) starred
unfolding verdict_of unknown_from grammar_of parse on_word decoded of_kind heading bare tables_compute descent_computes calls_compute
starred_told = refl

pub starred_rows : map (λ r. judged r.words r.input) starred ≡ map (λ r. r.told) starred
starred_rows =
    let R = passes.0 in
    let M = passes.1 in
    let E = passes.2 in
    all_told starred (R, (R, (M, (M, (M, (M, (M, (M, (E, (E, tt)))))))))) ∙ starred_told
