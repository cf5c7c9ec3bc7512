-- The words of a well-formed grammar within the limits are read without a fault.
use Rattle.std.specs.Prelude.{Ok}
use mathlib.Core.Path.{◌≡◌, refl, ap, ◌∙◌}
use mathlib.Core.Bool.{true, false}
use mathlib.Core.List.Memᴰ
use mathlib.Core.List.{List, [], ◌∷◌, ◌++◌}
use Prim.Native.Nat.{ℕ, suc, ◌+◌, ◌^◌, ◌≤◌, ◌<◌}
use native.Mathlib.Omega.{arith}
use lib.ListN.{length}
use borrow.Author.Tests.{lt-ltb, lt-leb, le-leb}
use Rattle.word.specs.declared.Symbol.TheVariants.{Terminal, Nonterminal}
use Rattle.word.specs.declared.Symbol as symbol
use Rattle.word.specs.declared.Word.{Word}
use Rattle.word.specs.declared.Word.TheVariants.{Rule as RuleWord, Positive, Negative, Symbol, End}
use Rattle.word.specs.Words.{decoded}
use Rattle.grammar.specs.declared.reading.State.{State}
use Rattle.grammar.specs.declared.reading.State.TheVariants.{Before, Opened, InPositive, InNegative, Closed}
use Rattle.grammar.specs.declared.reading.Sizes.{Sizes}
use Rattle.grammar.specs.declared.reading.Progress.{Progress}
use Rattle.grammar.specs.Limits.{max_nonterminals, max_terminals, max_rules}
use Rattle.grammar.specs.Syntax.{Body, Rule, Grammar, WellFormed}
use Rattle.grammar.specs.Encoding.{sizes}
use Rattle.grammar.specs.Reading.{row, allows, in_range, symbol_in_range, begins_rule, state_after, progress, one_more, counted, on_step, finished, scan}
use Rattle.grammar.specs.Reading.{is_within, headed, opened}
use Rattle.encoding.specs.Encode.{symbol_word, rule_word, positive_word, negative_word, end_word, body_words, conjunct_words, rule_words, rules_words, encode}
use Rattle.encoding.specs.Encode.{sizes_of, WithinLimits}
use Rattle.grammar.proofs.WellFormed.{Each, InRange, RuleFits}
use Rattle.grammar.proofs.Scanning.{stepped_rule, stepped_other}
use Rattle.encoding.proofs.Words.{decoded_heading, decoded_rule, decoded_positive, decoded_negative, decoded_end}
use Rattle.encoding.proofs.Decoding.{each_rest, symbol_of, rest_of, rules_fit}

-- the words are read without a fault, wherever they stand
abbrev pub Goes : Progress → List ℕ → Sizes → Type 0
Goes p ws z = (at : ℕ) → scan p at ws ≡ Ok z

-- one word that begins no rule, and one that begins a rule
pub goes_word : (w : ℕ) (v : Word) (s : State) (y z : Sizes) (ws : List ℕ) → decoded w ≡ v → allows v s ≡ true → in_range v y ≡ true
    → begins_rule v ≡ false
    → Goes (progress (state_after v s) y) ws z → Goes (progress s y) (w ∷ ws) z
unfolding scan on_step
goes_word w v s y z ws e a i b g at = rw (e, stepped_other v (progress s y) at a i b) (g (suc at))

goes_rule : (w : ℕ) (v : Word) (s : State) (y z : Sizes) (ws : List ℕ) → decoded w ≡ v → allows v s ≡ true → in_range v y ≡ true → begins_rule v ≡ true
    → y.rules < max_rules → Goes (progress (state_after v s) (one_more y)) ws z → Goes (progress s y) (w ∷ ws) z
unfolding scan on_step counted
goes_rule w v s y z ws e a i b l g at = rw (e, stepped_rule v (progress s y) at a i b, lt-leb max_rules y.rules l) (g (suc at))

-- within a conjunct, and where a rule may begin
abbrev pub Within : State → Type 0
Within s = row false false true true false s ≡ true

abbrev pub Between : State → Type 0
Between s = row true false true true false s ≡ true

pub within_between : (s : State) → Within s → Between s
within_between Before h = refl
within_between Opened h = h
within_between InPositive h = refl
within_between InNegative h = refl
within_between Closed h = h

within_negative : (s : State) → Within s → allows Negative s ≡ true
within_negative Before h = h
within_negative Opened h = refl
within_negative InPositive h = refl
within_negative InNegative h = refl
within_negative Closed h = h

pub closed_goes : (y : Sizes) → Goes (progress Closed y) [] y
unfolding scan finished
closed_goes y at = refl

pub end_goes : (s : State) (y : Sizes) → Between s → Goes (progress s y) (end_word ∷ []) y
end_goes s y h = goes_word end_word End s y y [] decoded_end h refl refl (closed_goes y)

module _ (n t : ℕ) (few_nonterminals : n < 2 ^ 8) (few_terminals : t < 2 ^ 8) where
  symbol_ranged : (X : symbol.Symbol) (b : Body) (k : ℕ) → InRange (sizes n t 0) (X ∷ b) → symbol_in_range X (sizes n t k) ≡ true
  symbol_ranged (Terminal a) b k h = lt-ltb a t h.1.0
  symbol_ranged (Nonterminal A) b k h = lt-ltb A n h.0.0

  body_goes : (b : Body) (s : State) (k : ℕ) (z : Sizes) (ws : List ℕ) → Within s → InRange (sizes n t 0) b → Goes (progress s (sizes n t k)) ws z
      → Goes (progress s (sizes n t k)) (body_words b ws) z
  unfolding body_words
  body_goes [] s k z ws w h g = g
  body_goes (X ∷ b) s k z ws w h g =
      goes_word (symbol_word X) (Symbol X) s (sizes n t k) z (body_words b ws) (symbol_of n t few_nonterminals few_terminals X b h) w
      (symbol_ranged X b k h) refl
      (body_goes b s k z ws w (rest_of n t few_nonterminals few_terminals X b h) g)

  negatives_go : (ns : List Body) (s : State) (k : ℕ) (z : Sizes) (ws : List ℕ) → Within s → Each (InRange (sizes n t 0)) ns
      → ((s : State) → Within s → Goes (progress s (sizes n t k)) ws z) → Goes (progress s (sizes n t k)) (conjunct_words negative_word ns ws) z
  unfolding conjunct_words
  negatives_go [] s k z ws w h g = g s w
  negatives_go (b ∷ ns) s k z ws w h g =
      goes_word negative_word Negative s (sizes n t k) z _ decoded_negative (within_negative s w) refl refl
      (body_goes b InNegative k z _ refl (h b (Memᴰ.head refl)) (negatives_go ns InNegative k z ws refl (each_rest _ b ns h) g))

  positives_go : (ps : List Body) (k : ℕ) (z : Sizes) (ws : List ℕ) → Each (InRange (sizes n t 0)) ps
      → Goes (progress InPositive (sizes n t k)) ws z → Goes (progress InPositive (sizes n t k)) (conjunct_words positive_word ps ws) z
  unfolding conjunct_words
  positives_go [] k z ws h g = g
  positives_go (b ∷ ps) k z ws h g =
      goes_word positive_word Positive InPositive (sizes n t k) z _ decoded_positive refl refl refl
      (body_goes b InPositive k z _ refl (h b (Memᴰ.head refl)) (positives_go ps k z ws (each_rest _ b ps h) g))

  -- here alone it matters that a rule has a conjunct
  conjuncts_go : (ps ns : List Body) (k : ℕ) (z : Sizes) (ws : List ℕ) → (ps ++ ns ≡ [] → ⊥) → Each (InRange (sizes n t 0)) ps
      → Each (InRange (sizes n t 0)) ns
      → ((s : State) → Within s → Goes (progress s (sizes n t k)) ws z)
      → Goes (progress Opened (sizes n t k)) (conjunct_words positive_word ps (conjunct_words negative_word ns ws)) z
  unfolding conjunct_words
  conjuncts_go [] [] k z ws some hp hn g = absurd (some refl)
  conjuncts_go [] (b ∷ ns) k z ws some hp hn g =
      goes_word negative_word Negative Opened (sizes n t k) z _ decoded_negative refl refl refl
      (body_goes b InNegative k z _ refl (hn b (Memᴰ.head refl)) (negatives_go ns InNegative k z ws refl (each_rest _ b ns hn) g))
  conjuncts_go (b ∷ ps) ns k z ws some hp hn g =
      goes_word positive_word Positive Opened (sizes n t k) z _ decoded_positive refl refl refl
      (body_goes b InPositive k z _ refl (hp b (Memᴰ.head refl))
      (positives_go ps k z _ (each_rest _ b ps hp) (negatives_go ns InPositive k z ws refl hn g)))

  rule_goes : (r : Rule) (s : State) (k : ℕ) (z : Sizes) (ws : List ℕ) → Between s → k < max_rules → RuleFits (sizes n t 0) r
      → ((s : State) → Between s → Goes (progress s (sizes n t (k + 1))) ws z) → Goes (progress s (sizes n t k)) (rule_words r ws) z
  unfolding rule_words
  rule_goes r s k z ws b l h g =
      goes_rule (rule_word r.head) (RuleWord r.head) s (sizes n t k) z _
      (decoded_rule r.head (omega (arith, h.head))) b (lt-ltb r.head n h.head) refl l
      (conjuncts_go r.positives r.negatives (k + 1) z ws h.conjunct
      (λ x m. h.in_range x (Memᴰ.append_left r.negatives m)) (λ x m. h.in_range x (Memᴰ.append_right r.positives m))
      (λ s w. g s (within_between s w)))

  rules_go : (rs : List Rule) (s : State) (k : ℕ) → Between s → k + length rs ≤ max_rules → Each (RuleFits (sizes n t 0)) rs
      → Goes (progress s (sizes n t k)) (rules_words rs (end_word ∷ [])) (sizes n t (k + length rs))
  unfolding rules_words
  rules_go [] s k b l h = let e : k + 0 ≡ k = omega arith in rw e (end_goes s (sizes n t k) b)
  rules_go (r ∷ rs) s k b l h =
      let e : k + suc (length rs) ≡ k + 1 + length rs = omega arith in
      rw e (rule_goes r s k _ _ b (omega arith) (h r (Memᴰ.head refl)) (λ s c. rules_go rs s (k + 1) c (omega arith) (each_rest _ r rs h)))

within_true : (n m : ℕ) → 0 < n → n ≤ m → is_within n m ≡ true
unfolding is_within
within_true n m l h = rw (lt-ltb 0 n l, le-leb n m h)

-- all, but for the limit on the number of words
pub encode_opened : (G : Grammar) → WellFormed G → WithinLimits G → opened (encode G) ≡ Ok (sizes_of G)
unfolding opened headed encode
encode_opened G f l =
    let n : G.nonterminals < 2 ^ 8 = omega (arith, l.few_nonterminals) in
    let t : G.terminals < 2 ^ 8 = omega (arith, l.few_terminals) in
    rw (
      decoded_heading G.nonterminals G.terminals n t,
      within_true G.nonterminals max_nonterminals l.some_nonterminal l.few_nonterminals,
      within_true G.terminals max_terminals l.some_terminal l.few_terminals,
    )
    (rules_go G.nonterminals G.terminals n t G.rules Before 0 refl (omega (arith, l.few_rules)) (rules_fit G f) 1
    ∙ ap (λ k. Ok (sizes G.nonterminals G.terminals k)) (none (length G.rules)))
  where
    none : (k : ℕ) → 0 + k ≡ k
    none k = omega arith
