-- Worked rows of words: the cards of document 01, and a row for each way to be faulty.
use Rattle.std.specs.Prelude.{Err, Ok, Result, List, [], ◌∷◌, ℕ, zero, suc}
use Rattle.answer.specs.declared.Error.{Error}
use Rattle.grammar.specs.declared.reading.Sizes.{Sizes}
use Rattle.answer.specs.declared.Error.TheVariants.{Heading as HeadingFault, UnexpectedWord, OutOfRange, TooManyRules}
use Rattle.grammar.specs.Encoding.{sizes}
use Rattle.grammar.specs.examples.Cards.{words_r, words_m, words_e}

pub record Example : Type 0 where
  pub words : List ℕ
  pub outcome : Result Sizes Error

abbrev example : List ℕ → Result Sizes Error → Example
example ws o = record { words = ws; outcome = o }

-- n rules of one empty positive conjunct, and then the words ws
unfoldable pub empty_rules : ℕ → List ℕ → List ℕ
empty_rules zero ws = ws
empty_rules (suc n) ws = 0x20000000 ∷ 0x30000000 ∷ empty_rules n ws

unfoldable pub examples : List Example
examples =
    example words_r (Ok (sizes 1 1 2))
    ∷ example words_m (Ok (sizes 5 3 9))
    ∷ example words_e (Ok (sizes 4 2 5))
    -- no rules
    ∷ example (0x10000101 ∷ 0x70000000 ∷ []) (Ok (sizes 1 1 0))
    ∷ example (0x10001820 ∷ 0x70000000 ∷ []) (Ok (sizes 32 24 0))
    -- the heading: none, of another kind, a number out of its limits, a high bit
    ∷ example [] (Err HeadingFault)
    ∷ example (0x20000101 ∷ 0x70000000 ∷ []) (Err HeadingFault)
    ∷ example (0x10000100 ∷ 0x70000000 ∷ []) (Err HeadingFault)
    ∷ example (0x10000121 ∷ 0x70000000 ∷ []) (Err HeadingFault)
    ∷ example (0x10000001 ∷ 0x70000000 ∷ []) (Err HeadingFault)
    ∷ example (0x10001901 ∷ 0x70000000 ∷ []) (Err HeadingFault)
    ∷ example (0x10010101 ∷ 0x70000000 ∷ []) (Err HeadingFault)
    -- the end missing, and a word behind the end
    ∷ example (0x10000101 ∷ []) (Err (UnexpectedWord 1))
    ∷ example (0x10000101 ∷ 0x20000000 ∷ []) (Err (UnexpectedWord 2))
    ∷ example (0x10000101 ∷ 0x70000000 ∷ 0x70000000 ∷ []) (Err (UnexpectedWord 2))
    -- a rule without a conjunct, and one that begins with a negative conjunct
    ∷ example (0x10000101 ∷ 0x20000000 ∷ 0x70000000 ∷ []) (Err (UnexpectedWord 2))
    ∷ example (0x10000101 ∷ 0x20000000 ∷ 0x40000000 ∷ 0x70000000 ∷ []) (Ok (sizes 1 1 1))
    -- a positive conjunct behind a negative one
    ∷ example (0x10000101 ∷ 0x20000000 ∷ 0x30000000 ∷ 0x40000000 ∷ 0x30000000 ∷ 0x70000000 ∷ []) (Err (UnexpectedWord 4))
    -- a payload where there is none to be, and a kind that is none
    ∷ example (0x10000101 ∷ 0x20000000 ∷ 0x30000001 ∷ 0x70000000 ∷ []) (Err (UnexpectedWord 2))
    ∷ example (0x10000101 ∷ 0x70000001 ∷ []) (Err (UnexpectedWord 1))
    ∷ example (0x10000101 ∷ 0x80000000 ∷ 0x70000000 ∷ []) (Err (UnexpectedWord 1))
    -- numbers out of range, however large; where the word may not stand, that comes first
    ∷ example (0x10000101 ∷ 0x20000001 ∷ 0x30000000 ∷ 0x70000000 ∷ []) (Err (OutOfRange 1))
    ∷ example (0x10000101 ∷ 0x20000000 ∷ 0x30000000 ∷ 0x5fffffff ∷ 0x70000000 ∷ []) (Err (OutOfRange 3))
    ∷ example (0x10000101 ∷ 0x20000000 ∷ 0x30000000 ∷ 0x60000001 ∷ 0x70000000 ∷ []) (Err (OutOfRange 3))
    ∷ example (0x10000101 ∷ 0x20000000 ∷ 0x50000001 ∷ 0x70000000 ∷ []) (Err (UnexpectedWord 2))
    -- 128 rules, and a 129th: last of all that can be wrong with its word
    ∷ example (0x10000101 ∷ empty_rules 128 (0x70000000 ∷ [])) (Ok (sizes 1 1 128))
    ∷ example (0x10000101 ∷ empty_rules 129 (0x70000000 ∷ [])) (Err (TooManyRules 257))
    ∷ example (0x10000101 ∷ empty_rules 128 (0x20000001 ∷ [])) (Err (OutOfRange 257))
    -- the first faulty word decides
    ∷ example (0x10000101 ∷ 0x20000001 ∷ 0x20000000 ∷ []) (Err (OutOfRange 1)) ∷ []
