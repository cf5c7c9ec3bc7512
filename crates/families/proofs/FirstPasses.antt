-- What the positives of a rule can all begin with, by its words from their end, and the more the larger the family.
use mathlib.Core.Path.{◌≡◌, refl, ◌∙◌}
use mathlib.Core.List.{List, [], ◌∷◌}
use Prim.Native.Nat.{ℕ, ◌+◌, ◌-◌}
use native.Mathlib.Omega.{arith}
use lib.ListN.{take, drop}
use lib.Seq.{drop-cons}
use Rattle.word.specs.declared.Symbol.{Symbol as GrammarSymbol}
use Rattle.word.specs.declared.Symbol.TheVariants.{Terminal, Nonterminal}
use Rattle.word.specs.declared.Word.{Word}
use Rattle.word.specs.declared.Word.TheVariants.{Heading, Rule as RuleWord, Positive, Negative, Symbol, End, Invalid}
use Rattle.grammar.specs.Syntax.{Body, Rule}
use Rattle.grammar.specs.Encoding.{Parsed, on_word}
use Rattle.grammar.specs.inner.WellRead.{rule_read}
use Rattle.grammar.proofs.EachIndex.{Behind}
use Rattle.lookahead.specs.declared.Lookahead.{Lookahead}
use Rattle.lookahead.specs.inner.Elements.{Subset}
use Rattle.lookahead.specs.inner.Operations.{end, terminal, full}
use Rattle.lookahead.proofs.Order.{subset_refl, meet_mono}
use Rattle.lookahead.proofs.Concat.{concat_mono}
use Rattle.families.specs.inner.Least.{SetFamily, at, lookup, Under}
use Rattle.families.specs.inner.Naming.{Indexed}
use Rattle.families.specs.inner.First.{symbol_first, body_first, rule_first, rest_of, no_rest, inside_word}
use Rattle.families.specs.inner.Rules.{fold_from_end, rule_from, Inside, RuleWords, NegativesFrom}
use Rattle.families.proofs.ArrayLookup.{symbol_lookup}
use Rattle.families.proofs.HeadPasses.{Larger}
use Rattle.families.proofs.Inner.{made_between}
use Rattle.families.proofs.Signs.{no_positives_there, positive_words}

-- larger families give larger first sets
module _ (k : Lookahead) (F G : SetFamily) (u : Under F G) where
  symbol_mono : (X : GrammarSymbol) → Subset (symbol_first k F X) (symbol_first k G X)
  unfolding symbol_first
  symbol_mono (Terminal a) = subset_refl (terminal k a)
  symbol_mono (Nonterminal A) = u A

  pub body_mono : (b : Body) → Subset (body_first k F b) (body_first k G b)
  unfolding body_first
  body_mono [] = subset_refl (end k)
  body_mono (X ∷ b) = concat_mono k (symbol_first k F X) (body_first k F b) (symbol_first k G X) (body_first k G b) (symbol_mono X) (body_mono b)

  pub rule_mono : (t : ℕ) (bs : List Body) → Subset (rule_first k t F bs) (rule_first k t G bs)
  unfolding rule_first
  rule_mono t [] = subset_refl (full k t)
  rule_mono t (b ∷ bs) = meet_mono (body_first k F b) (rule_first k t F bs) (body_first k G b) (rule_first k t G bs) (body_mono b) (rule_mono t bs)

-- inside a rule it is enough to tell symbols and positives
inside_word_lem : (k : Lookahead) (t : ℕ) (l : List ℕ) (w : Word) (p : Parsed) → Inside w → Indexed w → Behind w p
    → inside_word k (lookup l) w (rest_of k t (at l) p) ≡ rest_of k t (at l) (on_word w p)
unfolding on_word body_first rule_first
inside_word_lem k t l (Symbol X) p i n b = rw (symbol_lookup k l X n)
inside_word_lem k t l Positive p i n b = refl
inside_word_lem k t l Negative p i n b = refl
inside_word_lem k t l End p i n b = rw b.positives
inside_word_lem k t l (RuleWord A) p i n b = absurd i
inside_word_lem k t l (Heading m z) p i n b = absurd i
inside_word_lem k t l Invalid p i n b = absurd i

-- what a rule gives, the more the larger the family
abbrev pub rule_gives : Lookahead → ℕ → SetFamily → Rule → ℕ
rule_gives k t F r = rule_first k t F r.positives

pub rule_larger : (k : Lookahead) (t : ℕ) → Larger (rule_gives k t)
rule_larger k t F G u r = rule_mono k F G u t r.positives

-- the words of a rule's positives, from their end: what `rule_first` returns
pub rule_given : {words : List ℕ} {start end n : ℕ} → RuleWords words start end → NegativesFrom words (start + 1) end n
    → (k : Lookahead) (t : ℕ) (l : List ℕ) {v : ℕ}
    → v ≡ (fold_from_end (inside_word k (lookup l)) (no_rest k t) (take (n - (start + 1)) (drop (start + 1) words))).meet.bits
    → v ≡ rule_gives k t (at l) (rule_from words start)
unfolding rule_read body_first rule_first
rule_given {words} {start} g f k t l e =
    e ∙ rw (
      made_between (inside_word k (lookup l)) (rest_of k t (at l)) (inside_word_lem k t l) start (positive_words g f) {x₀ = no_rest k t}
          (rw ((positive_words g f).whole, no_positives_there g f)),
      drop-cons words start 0 (omega (arith, g.some, g.within)),
    )
