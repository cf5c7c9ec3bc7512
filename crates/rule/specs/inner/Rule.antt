-- How the bodies of a rule, run one after the other, come to agree on an end.
use Rattle.std.specs.Prelude.{Bool, true, false, List, [], ◌∷◌, ℕ, suc, ◌+◌, ltb, eqb, length, get_or, drop}
use Rattle.base.specs.Choice.{choose}
use Rattle.word.specs.Words.{decoded}
use Rattle.word.specs.declared.Word.{Word}
use Rattle.word.specs.declared.Word.TheVariants as word
use Rattle.grammar.specs.Codes.{failed_code, uncalled_code}
use Rattle.semantics.specs.Descent as semantics
use Rattle.semantics.specs.Descent.{ends_at}
use Rattle.rule.specs.declared.Sign.{Sign}
use Rattle.rule.specs.declared.Sign.TheVariants.{Positive, Negative, Neither}

-- where the bodies of a rule that have run agree to end
pub data Agreement : Type 0 where
  Open : Agreement
  At : ℕ → Agreement
  Failed : Agreement

-- as an entry of the memo table; Open is that of a call that was not made
abbrev pub agreement_code : Agreement → ℕ
agreement_code Open = uncalled_code
agreement_code (At e) = e
agreement_code Failed = failed_code

unfoldable pub agreement_of : ℕ → Agreement
agreement_of entry = choose (eqb entry uncalled_code) Open (choose (eqb entry failed_code) Failed (At entry))

abbrev pub sign_of : Word → Sign
sign_of word.Positive = Positive
sign_of word.Negative = Negative
sign_of (word.Rule A) = Neither
sign_of (word.Symbol X) = Neither
sign_of word.End = Neither
sign_of (word.Heading n t) = Neither
sign_of word.Invalid = Neither

-- what begins at an index
unfoldable pub sign_at : List ℕ → ℕ → Sign
sign_at words at = choose (ltb at (length words)) (sign_of (decoded (get_or words at 0))) Neither

abbrev pub is_symbol : Word → Bool
is_symbol word.Positive = false
is_symbol word.Negative = false
is_symbol (word.Rule A) = false
is_symbol (word.Symbol X) = true
is_symbol word.End = false
is_symbol (word.Heading n t) = false
is_symbol word.Invalid = false

-- how many words of symbols come first
unfoldable pub symbols_first : List ℕ → ℕ
symbols_first [] = 0
symbols_first (x ∷ words) = choose (is_symbol (decoded x)) (suc (symbols_first words)) 0

-- where the body at an index ends
abbrev pub body_end : List ℕ → ℕ → ℕ
body_end words from = from + symbols_first (drop from words)

abbrev pub begins_body : Sign → Bool
begins_body Positive = true
begins_body Negative = true
begins_body Neither = false

abbrev pub goes_on : Sign → Agreement → Bool
goes_on s Open = begins_body s
goes_on s (At e) = begins_body s
goes_on s Failed = false

abbrev pub has_failed : Agreement → Bool
has_failed Open = false
has_failed (At e) = false
has_failed Failed = true

-- before the first body: a rule that begins with a negative conjunct has no positive one, and takes all up to the input's end
abbrev pub opening_by : Sign → ℕ → Agreement
opening_by Positive end = Open
opening_by Negative end = At end
opening_by Neither end = Open

-- the first body sets the end
abbrev pub opened_by : semantics.Outcome → Agreement
opened_by semantics.Failed = Failed
opened_by (semantics.End e) = At e

-- a later positive body has to end there, and a negative one must not
abbrev pub kept_by : Sign → ℕ → Bool → Agreement
kept_by Positive e there = choose there (At e) Failed
kept_by Negative e there = choose there Failed (At e)
kept_by Neither e there = Failed

abbrev pub joined_by : Sign → Agreement → semantics.Outcome → Agreement
joined_by s Open o = opened_by o
joined_by s (At e) o = kept_by s e (ends_at o e)
joined_by s Failed o = Failed

abbrev pub concluded : Agreement → semantics.Outcome
concluded Open = semantics.Failed
concluded (At e) = semantics.End e
concluded Failed = semantics.Failed
