-- What is at the left of a rule's bodies, by its words from their end.
use mathlib.Core.Path.{◌≡◌, refl, ap, ◌∙◌}
use mathlib.Core.Bool.{true, false}
use mathlib.Core.List.{List, [], ◌∷◌, ◌++◌}
use Prim.Native.Nat.{ℕ, ◌+◌, ◌-◌, ◌<◌}
use native.Mathlib.Omega.{arith}
use lib.ListN.{take, drop}
use lib.Seq.{drop-cons}
use borrow.Author.Tests.{lt-ltb}
use Rattle.word.specs.declared.Symbol.{Symbol as GrammarSymbol}
use Rattle.word.specs.declared.Symbol.TheVariants.{Terminal, Nonterminal}
use Rattle.word.specs.declared.Word.{Word}
use Rattle.word.specs.declared.Word.TheVariants.{Heading, Rule as RuleWord, Positive, Negative, Symbol, End, Invalid}
use Rattle.grammar.specs.Limits.{max_nonterminals}
use Rattle.grammar.specs.Syntax.{Body}
use Rattle.grammar.specs.Encoding.{Parsed, on_word}
use Rattle.grammar.specs.inner.WellRead.{rule_read}
use Rattle.grammar.proofs.EachIndex.{Behind}
use Rattle.lookahead.specs.Elements.{weight}
use Rattle.lookahead.specs.inner.Elements.{Subset}
use Rattle.lookahead.specs.inner.Operations.{empty_set, join, Joined}
use Rattle.lookahead.proofs.Order.{subset_refl, subset_antisym, join_left, join_right, join_least, join_same}
use Rattle.base.specs.Rounds.{NumberSet}
use Rattle.families.specs.inner.Left.{symbol_left, body_left, bodies_left, rule_left, lefts, left_of, own_left, inside_left}
use Rattle.families.specs.inner.Naming.{IndexedSymbol, Indexed}
use Rattle.families.specs.inner.Nonterminals.{alone, Alone}
use Rattle.families.specs.inner.Rules.{fold_from_end, rule_from, Inside, RuleWords}
use Rattle.families.proofs.Inner.{made_inside}

-- a body may be joined before or behind others
join_swap : (x y z : ℕ) → join x (join y z) ≡ join y (join x z)
join_swap x y z = subset_antisym (join x (join y z)) (join y (join x z)) (half x y z) (half y x z)
  where
    half : (x y z : ℕ) → Subset (join x (join y z)) (join y (join x z))
    half x y z =
        join_least x (join y z) (join y (join x z)) (λ l t. join_right y (join x z) l (join_left x z l t))
        (join_least y z (join y (join x z)) (join_left y (join x z)) (λ l t. join_right y (join x z) l (join_right x z l t)))

bodies_between : (s : NumberSet) (ps : List Body) (b : Body) (ns : List Body)
    → join (body_left s b) (bodies_left s (ps ++ ns)) ≡ bodies_left s (ps ++ (b ∷ ns))
unfolding bodies_left
bodies_between s [] b ns = refl
bodies_between s (p ∷ ps) b ns = join_swap (body_left s b) (body_left s p) (bodies_left s (ps ++ ns)) ∙ ap (join (body_left s p)) (bodies_between s ps b ns)

-- what `symbol_left` returns
pub left_alone : {A x : ℕ} → Alone A x → A < max_nonterminals → x ≡ weight A
unfolding alone
left_alone {A} a h = a.is ∙ rw (lt-ltb A max_nonterminals h)

module _ (s : NumberSet) {X : GrammarSymbol} (behind : ℕ) where
  module _ {A a : ℕ} (e : X ≡ Nonterminal A) (i : A < max_nonterminals) (alone : Alone A a) where
    pub left_on : {r : ℕ} → s A ≡ true → Joined a behind r → r ≡ own_left s X behind
    unfolding symbol_left
    left_on t k = k.is ∙ rw (e, lt-ltb A max_nonterminals i, left_alone alone i, t)

    pub left_stop : s A ≡ false → a ≡ own_left s X behind
    unfolding symbol_left
    left_stop t = left_alone alone i ∙ rw (e, lt-ltb A max_nonterminals i, t)

-- a symbol that is named has a set
own_symbol : (s : NumberSet) (X : GrammarSymbol) (behind : ℕ) → IndexedSymbol X → own_left s X behind ≡ symbol_left s X behind
unfolding symbol_left
own_symbol s (Terminal a) behind i = refl
own_symbol s (Nonterminal A) behind i = rw (lt-ltb A max_nonterminals i)

-- inside a rule it is enough to tell symbols
inside_left_lem : (s : NumberSet) (w : Word) (p : Parsed) → Inside w → Indexed w → Behind w p → inside_left s w (left_of s p) ≡ left_of s (on_word w p)
unfolding on_word body_left bodies_left
inside_left_lem s (Symbol X) p i n b = ap (λ x. lefts x (bodies_left s (p.positives ++ p.negatives))) (own_symbol s X (body_left s p.body) n)
inside_left_lem s Positive p i x b = refl
inside_left_lem s Negative p i x b = ap (lefts 0) (bodies_between s p.positives p.body p.negatives)
inside_left_lem s End p i x b = rw (b.body, b.positives, b.negatives) (ap (lefts 0) (join_same empty_set empty_set (subset_refl empty_set)))
inside_left_lem s (RuleWord A) p i x b = absurd i
inside_left_lem s (Heading m n) p i x b = absurd i
inside_left_lem s Invalid p i x b = absurd i

-- what `rule_left` returns: the words of a rule, from their end
pub rule_given : {words : List ℕ} {start end : ℕ} → RuleWords words start end → (s : NumberSet) {v : ℕ}
    → v ≡ (fold_from_end (inside_left s) (lefts empty_set empty_set) (take (end - (start + 1)) (drop (start + 1) words))).rule.bits
    → v ≡ rule_left s (rule_from words start)
unfolding rule_read body_left bodies_left
rule_given {words} {start} g s e =
    e ∙ rw (
      made_inside (inside_left s) (left_of s) (inside_left_lem s) g {x₀ = lefts empty_set empty_set}
          (rw (g.ended.body, g.ended.positives, g.ended.negatives)),
      drop-cons words start 0 (omega (arith, g.some, g.within)),
    )
