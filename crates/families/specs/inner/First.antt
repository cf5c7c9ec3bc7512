-- First sets as numbers: of a symbol, a body and a rule, and the families that the rules close.
use Rattle.std.specs.Prelude.{◌≡◌, Bool, false, ℕ, ◌<◌, get_or}
use mathlib.Core.List.{List, [], ◌∷◌, Memᴰ}
use Rattle.word.specs.declared.Symbol.{Symbol as GrammarSymbol}
use Rattle.word.specs.declared.Symbol.TheVariants.{Terminal, Nonterminal}
use Rattle.word.specs.declared.Word.{Word}
use Rattle.word.specs.declared.Word.TheVariants.{Heading, Rule as RuleWord, Positive, Negative, Symbol, End, Invalid}
use Rattle.grammar.specs.Syntax.{Body, Rule}
use Rattle.grammar.specs.Encoding.{Parsed}
use Rattle.grammar.specs.inner.Starts.{rule_starts}
use Rattle.lookahead.specs.declared.Lookahead.{Lookahead}
use Rattle.lookahead.specs.inner.Elements.{Subset}
use Rattle.lookahead.specs.inner.Operations.{end, terminal, full, meet, concat_numbers}
use Rattle.families.specs.declared.Rest.{Rest}
use Rattle.families.specs.inner.Least.{SetFamily, at}
use Rattle.families.specs.inner.Rules.{rule_from, ByRules}

unfoldable pub symbol_first : Lookahead → SetFamily → GrammarSymbol → ℕ
symbol_first k F (Terminal a) = terminal k a
symbol_first k F (Nonterminal A) = F A

-- (document 01: a body strings its symbols' first sets)
unfoldable pub body_first : Lookahead → SetFamily → Body → ℕ
body_first k F [] = end k
body_first k F (X ∷ b) = concat_numbers k (symbol_first k F X) (body_first k F b)

-- (document 01: the meeting of the must bodies), over t terminals
unfoldable pub rule_first : Lookahead → ℕ → SetFamily → List Body → ℕ
rule_first k t F [] = full k t
rule_first k t F (b ∷ bs) = meet (body_first k F b) (rule_first k t F bs)

-- each rule's set is contained in its head's
abbrev pub FirstNumbersClosed : Lookahead → ℕ → List Rule → SetFamily → Type 0
FirstNumbersClosed k t rs F = (r : Rule) → Memᴰ r rs → Subset (rule_first k t F r.positives) (F r.head)

abbrev pub sets : ℕ → ℕ → Rest
sets b m = record { body = record { bits = b }; meet = record { bits = m } }

-- the sets of what is left of a body and of a rule's positives
abbrev pub rest_of : Lookahead → ℕ → SetFamily → Parsed → Rest
rest_of k t F p = sets (body_first k F p.body) (rule_first k t F p.positives)

abbrev pub no_rest : Lookahead → ℕ → Rest
no_rest k t = sets (end k) (full k t)

-- a body ends: if it is a positive, its first set goes into the meet
abbrev pub closed_meet : Word → ℕ → ℕ → ℕ
closed_meet Positive b m = meet b m
closed_meet (Symbol X) b m = m
closed_meet Negative b m = m
closed_meet End b m = m
closed_meet (RuleWord A) b m = m
closed_meet (Heading n t) b m = m
closed_meet Invalid b m = m

-- the rest with a word inside a rule in front: a symbol, or what ends the body before it
abbrev pub inside_word : Lookahead → SetFamily → Word → Rest → Rest
inside_word k F (Symbol X) rest = sets (concat_numbers k (symbol_first k F X) rest.body.bits) rest.meet.bits
inside_word k F Positive rest = sets (end k) (meet rest.body.bits rest.meet.bits)
inside_word k F Negative rest = sets (end k) rest.meet.bits
inside_word k F End rest = sets (end k) rest.meet.bits
inside_word k F (RuleWord A) rest = sets (end k) rest.meet.bits
inside_word k F (Heading m n) rest = sets (end k) rest.meet.bits
inside_word k F Invalid rest = sets (end k) rest.meet.bits

-- what a pass leaves for n rules: where no set has grown, what the positives of each can all begin with
pub record RulesMet (k : Lookahead) (t : ℕ) (words : List ℕ) (n : ℕ) (firsts meets : List ℕ) (grown : Bool) : Type 0 where
  pub room : ByRules n meets
  pub each : grown ≡ false → (q : ℕ) → q < n → get_or meets q 0 ≡ rule_first k t (at firsts) (rule_from words (get_or (rule_starts words) q 0)).positives
