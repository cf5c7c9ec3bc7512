-- Where two judges both judge an input, they have the same verdict, as each goes by the one meaning.
use Rattle.std.specs.Prelude.{◌≡◌, List, ℕ, ◌≤◌, length}
use Rattle.answer.specs.Numbers.{numbers}
use Rattle.answer.specs.declared.Answer.{Answer}
use Rattle.grammar.specs.Limits.{max_tabular_tokens, max_span_words}
use Rattle.grammar.specs.Syntax.{Grammar}
use Rattle.lookahead.specs.declared.Lookahead.{Lookahead}
use Rattle.recognizer_promises.specs.Properties.{Room, Judgeable, Recognizes, Judges}
use Rattle.tabular_promises.specs.Properties.{TabularJudges}

-- two lookaheads
abbrev pub SameVerdict : Type 0
SameVerdict =
    (k l : Lookahead) (G : Grammar) (input : List ℕ) (r s : Answer) (memo' memo'' : List ℕ) → Recognizes k G input r memo' → Recognizes l G input s memo''
    → (numbers r).verdict ≡ (numbers s).verdict

-- the descent with a lookahead and the tabular judge, where the grammar passes with that lookahead, the input is short enough for the
-- tabular judge, and the lent memories are enough
abbrev pub SameAsTabular : Type 0
SameAsTabular =
    (k : Lookahead) (words input : List ℕ) → Judgeable k words input → length input ≤ max_tabular_tokens
    → (table memo table' memo' : List ℕ) (d : Answer) → Room k table memo → Judges k words input table memo d table' memo'
    → (spans spans' : List ℕ) (r : Answer) → max_span_words ≤ length spans → TabularJudges words input spans r spans'
    → (numbers d).verdict ≡ (numbers r).verdict
