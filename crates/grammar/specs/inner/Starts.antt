-- Where the rules of an encoded grammar begin.
use Rattle.std.specs.Prelude.{◌≡◌, ◌&&◌, List, [], ◌∷◌, ◌++◌, ℕ, suc, ◌+◌, ltb, take, replicate, set}
use Rattle.word.specs.declared.Word.{Word}
use Rattle.base.specs.Choice.{choose}
use Rattle.word.specs.Words.{decoded}
use Rattle.grammar.specs.Limits.{max_rules}
use Rattle.grammar.specs.Reading.{begins_rule}

-- the indices of the words that begin a rule, of a row whose first word has the index `at`
unfoldable pub starts : ℕ → List ℕ → List ℕ
starts at [] = []
starts at (w ∷ ws) = choose (begins_rule (decoded w)) (at ∷ starts (suc at) ws) (starts (suc at) ws)

-- as many as there may be, and zeros behind them
unfoldable pub rule_starts : List ℕ → List ℕ
rule_starts words = take max_rules (starts 0 words ++ replicate max_rules 0)

-- a rule that begins at an index is noted behind those noted before, while there is room
pub record StartNoted (before : List ℕ) (rules at : ℕ) (w : Word) (after : List ℕ) (noted : ℕ) : Type 0 where
  pub list : after ≡ choose (begins_rule w && ltb rules max_rules) (set before rules at) before
  pub number : noted ≡ choose (begins_rule w && ltb rules max_rules) (rules + 1) rules
