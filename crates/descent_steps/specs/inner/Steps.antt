-- What a body does at a word, and how a rule goes from conjunct to conjunct.
use Rattle.std.specs.Prelude.{Bool, not, ◌&&◌, List, ℕ, ◌+◌, ◌%◌, ltb, eqb, length, get_or}
use Rattle.base.specs.Choice.{choose}
use Rattle.word.specs.declared.Symbol.{Symbol}
use Rattle.word.specs.declared.Symbol.TheVariants as symbol
use Rattle.word.specs.declared.Word.{Word}
use Rattle.word.specs.declared.Word.TheVariants as word
use Rattle.grammar.specs.Codes.{failed_code}
use Rattle.semantics.specs.Descent as semantics
use Rattle.rule.specs.declared.Sign.{Sign}
use Rattle.rule.specs.declared.Sign.TheVariants.{Positive, Negative}
use Rattle.semantics.specs.inner.Memo.{decode}
use Rattle.word.specs.Words.{decoded}
use Rattle.rule.specs.inner.Rule.{body_end, sign_of, begins_body, opening_by, joined_by, agreement_code, agreement_of}
use Rattle.descent_arrays.specs.inner.Arrays.{column_weight, end_at}
use Rattle.descent_steps.specs.declared.entry.Outcome as code
use Rattle.descent_steps.specs.declared.entry.Outcome.TheVariants as outcome
use Rattle.descent_steps.specs.declared.state.RuleState.{RuleState}
use Rattle.descent_steps.specs.declared.Step.{Step}
use Rattle.descent_steps.specs.declared.Step.TheVariants.{Terminal, Nonterminal, Over}

-- the outcome that a value of the code stands for
abbrev pub meant : code.Outcome → semantics.Outcome
meant outcome.Failed = semantics.Failed
meant (outcome.End e) = semantics.End e

abbrev pub symbol_step : Symbol → Step
symbol_step (symbol.Terminal a) = Terminal a
symbol_step (symbol.Nonterminal A) = Nonterminal A

abbrev pub step_of : Word → Step
step_of (word.Symbol X) = symbol_step X
step_of word.Positive = Over
step_of word.Negative = Over
step_of (word.Rule A) = Over
step_of word.End = Over
step_of (word.Heading n t) = Over
step_of word.Invalid = Over

-- one place on where a token, by its word, is this terminal, else the code of a failure; places are counted in 16 bits
unfoldable pub end_behind : ℕ → ℕ → ℕ → ℕ
end_behind token terminal place = choose (eqb (token % column_weight) terminal) ((place + 1) % 65536) failed_code

-- the word at an index; where the words end, one that begins nothing
unfoldable pub word_at : List ℕ → ℕ → ℕ
word_at words at = choose (ltb at (length words)) (get_or words at 0) 0

-- the word that begins a negative conjunct
abbrev pub negative_word : ℕ
negative_word = 1073741824

-- what a word that begins a conjunct begins
unfoldable pub conjunct_sign : ℕ → Sign
conjunct_sign bits = choose (eqb bits negative_word) Negative Positive

-- where the next conjunct is, or the rule ends, when a body has stopped at an index with an entry for its outcome
unfoldable pub next_conjunct : List ℕ → ℕ → ℕ → ℕ
next_conjunct words entry at = choose (eqb entry failed_code) (body_end words at) at

-- a rule that has failed, by an index and a word
abbrev pub failed_at : ℕ → ℕ → RuleState
failed_at at word = record { at = at; word = word; agreement = failed_code }

-- a rule that has reached an index
abbrev pub reached : List ℕ → ℕ → ℕ → RuleState
reached words at agreed = record { at = at; word = word_at words at; agreement = agreed }

-- before the first body of the rule whose first conjunct stands at an index, or without a rule
unfoldable pub first_state : List ℕ → List ℕ → ℕ → RuleState
first_state words choices at =
    choose (eqb at 0) (failed_at at 0) (reached words at (agreement_code (opening_by (conjunct_sign (word_at words at)) (end_at choices 0))))

-- whether a further body is run
unfoldable pub goes_further : RuleState → Bool
goes_further s = not (eqb s.agreement failed_code) && begins_body (sign_of (decoded s.word))

-- what the bodies agree on, with one more that has this entry
abbrev pub agreed_with : RuleState → ℕ → ℕ
agreed_with s entry = agreement_code (joined_by (conjunct_sign s.word) (agreement_of s.agreement) (decode entry))

-- when that body has stopped at an index
unfoldable pub next_state : List ℕ → RuleState → ℕ → ℕ → RuleState
next_state words s entry at =
    choose (eqb (agreed_with s entry) failed_code) (failed_at at s.word) (reached words (next_conjunct words entry at) (agreed_with s entry))
