-- The rules of a grammar that has been read, as passes over them go: in which order, and where the words of each stand.
use Rattle.std.specs.Prelude.{Ok, ◌≡◌, Bool, true, false, List, [], ◌∷◌, ℕ, suc, ◌+◌, ◌-◌, ◌%◌, ◌≤◌, ◌<◌, ltb, length, get_or, drop}
use Rattle.base.specs.Choice.{choose}
use Rattle.word.specs.declared.Word.{Word}
use Rattle.word.specs.declared.Word.TheVariants.{Heading, Rule as RuleWord, Positive, Negative, Symbol, End, Invalid}
use Rattle.word.specs.Words.{decoded}
use Rattle.grammar.specs.declared.reading.Sizes.{Sizes}
use Rattle.grammar.specs.Limits.{max_nonterminals, max_rules}
use Rattle.grammar.specs.Syntax.{Rule}
use Rattle.grammar.specs.Encoding.{Parsed, parse}
use Rattle.grammar.specs.Reading.{reading}
use Rattle.grammar.specs.inner.Starts.{rule_starts}
use Rattle.grammar.specs.inner.WellRead.{rule_read}

-- the rule that a pass reaches behind others, from the first on or from the last on
abbrev pub turn_of : Bool → ℕ → ℕ → ℕ
turn_of true rules passed = passed
turn_of false rules passed = rules - suc passed

-- the rule that begins at an index
abbrev pub rule_from : List ℕ → ℕ → Rule
rule_from words start = rule_read (drop start words)

-- where the words of a rule end: at the next rule, or behind the last word; rules are counted round
abbrev pub rule_end : List ℕ → List ℕ → ℕ → ℕ → ℕ
rule_end words starts rules q =
    choose (ltb (q % max_rules + 1) rules) (get_or starts ((q % max_rules + 1) % max_rules) 0) (length words)

-- a row of words gone through from its end
unfoldable pub fold_from_end : {X : Type 0} → (Word → X → X) → X → List ℕ → X
fold_from_end f x [] = x
fold_from_end f x (w ∷ ws) = f (decoded w) (fold_from_end f x ws)

-- of a rule that began before, nothing is left
pub record Ended (p : Parsed) : Type 0 where
  pub body : p.body ≡ []
  pub positives : p.positives ≡ []
  pub negatives : p.negatives ≡ []

-- behind the begin of a rule stand symbols, the begins of conjuncts and, in the end, the end
abbrev pub Inside : Word → Type 0
Inside (Symbol X) = Unit {0}
Inside Positive = Unit {0}
Inside Negative = Unit {0}
Inside End = Unit {0}
Inside (RuleWord A) = ⊥
Inside (Heading n t) = ⊥
Inside Invalid = ⊥

-- the words of the rule that begins at an index
pub record RuleWords (words : List ℕ) (start end : ℕ) : Type 0 where
  pub sizes : Sizes
  pub read : reading words ≡ Ok sizes
  pub some : start < end
  pub within : end ≤ length words
  pub ended : Ended (parse (drop end words))
  pub inside : (i : ℕ) → start < i → i < end → Inside (decoded (get_or words i 0))

-- the words of a rule from one body on to another, or to the end
pub record BodyWords (words : List ℕ) (from to : ℕ) : Type 0 where
  pub sizes : Sizes
  pub read : reading words ≡ Ok sizes
  pub some : from ≤ to
  pub within : to ≤ length words
  pub whole : (parse (drop to words)).body ≡ []
  pub inside : (i : ℕ) → from ≤ i → i < to → Inside (decoded (get_or words i 0))

-- where the negatives begin among words of a rule, or their end, if there is none
pub record NegativesFrom (words : List ℕ) (from end r : ℕ) : Type 0 where
  pub low : from ≤ r
  pub high : r ≤ end
  pub here : r < end → decoded (get_or words r 0) ≡ Negative
  pub before : (i : ℕ) → from ≤ i → i < r → decoded (get_or words i 0) ≡ Negative → ⊥

-- for each of n rules, where its positives end: at its first negative, or at its end
abbrev pub PositiveEnds : List ℕ → List ℕ → ℕ → List ℕ → Type 0
PositiveEnds words starts n ends = (q : ℕ) → q < n → NegativesFrom words (get_or starts q 0 + 1) (rule_end words starts n q) (get_or ends q 0)

-- an array of a number for each of n rules: zeros follow them
pub record ByRules (n : ℕ) (l : List ℕ) : Type 0 where
  pub long : length l ≡ max_rules
  pub behind : (q : ℕ) → n ≤ q → get_or l q 0 ≡ 0

-- what a pass over the rules of a grammar that has been read needs
pub record PassGiven (words starts : List ℕ) (z : Sizes) (sets : List ℕ) : Type 0 where
  pub read : reading words ≡ Ok z
  pub begins : starts ≡ rule_starts words
  pub long : length sets ≡ max_nonterminals
