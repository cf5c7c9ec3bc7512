-- Rules begin where their begins are found, whatever the words.
use mathlib.Core.Path.{◌≡◌, refl, ap}
use mathlib.Core.Bool.{Bool, true, false}
use mathlib.Core.List.{List, [], ◌∷◌}
use mathlib.Core.Option.{Option, some}
use Prim.Native.Nat.{ℕ, zero, suc, ◌+◌, ◌-◌, ◌≤◌, ◌<◌}
use native.Mathlib.Omega.{arith}
use lib.ListN.{length, get_or, drop, get_elem?}
use Rattle.word.specs.declared.Word.{Word}
use Rattle.word.specs.declared.Word.TheVariants.{Heading, Rule as RuleWord, Positive, Negative, Symbol, End, Invalid}
use Rattle.base.specs.Choice.{choose}
use Rattle.word.specs.Words.{decoded}
use Rattle.grammar.specs.Syntax.{Rule}
use Rattle.grammar.specs.Encoding.{Parsed, rule_of, on_word, parse}
use Rattle.grammar.specs.Reading.{begins_rule}
use Rattle.grammar.specs.inner.Starts.{starts}
use Rattle.grammar.specs.inner.WellRead.{head_of, rule_read}

rules_on : (w : Word) (p : Parsed) → (on_word w p).rules ≡ choose (begins_rule w) (rule_of (head_of w) p ∷ p.rules) p.rules
unfolding on_word
rules_on (RuleWord A) p = refl
rules_on Positive p = refl
rules_on Negative p = refl
rules_on (Symbol X) p = refl
rules_on End p = refl
rules_on (Heading n t) p = refl
rules_on Invalid p = refl

-- the rule that begins at the index i of a row whose first word has the index `at`
pub record Begins (at i : ℕ) (ws : List ℕ) (r : Option Rule) : Type 0 where
  pub low : at ≤ i
  pub high : i < at + length ws
  pub word : begins_rule (decoded (get_or ws (i - at) 0)) ≡ true
  pub rule : r ≡ some (rule_read (drop (i - at) ws))

begins_here : (at w : ℕ) (ws : List ℕ) (r : Option Rule) → begins_rule (decoded w) ≡ true → r ≡ some (rule_of (head_of (decoded w)) (parse ws))
    → Begins at at (w ∷ ws) r
unfolding rule_read
begins_here at w ws r b e =
    let z : at - at ≡ 0 = omega arith in
    record { low = omega arith; high = omega arith; word = rw z b; rule = rw z e }

begins_later : (at i w : ℕ) (ws : List ℕ) (r : Option Rule) → Begins (suc at) i ws r → Begins at i (w ∷ ws) r
begins_later at i w ws r b = record {
  low = omega (arith, b.low);
  high = omega (arith, b.high);
  word = let z : i - at ≡ suc (i - suc at) = omega (arith, b.low) in rw z b.word;
  rule = let z : i - at ≡ suc (i - suc at) = omega (arith, b.low) in rw z b.rule;
}

pub begins : (at : ℕ) (ws : List ℕ) (q : ℕ) → q < length (starts at ws) → Begins at (get_or (starts at ws) q 0) ws (get_elem? (parse ws).rules q)
unfolding starts parse
begins at [] q h = absurd (omega arith)
begins at (w ∷ ws) q h = rw (rules_on (decoded w) (parse ws)) (go (begins_rule (decoded w)) refl q h (begins (suc at) ws))
  where
    later : List Rule
    later = (parse ws).rules

    go : (b : Bool) → begins_rule (decoded w) ≡ b → (q : ℕ) → q < length (choose b (at ∷ starts (suc at) ws) (starts (suc at) ws))
        → ((q : ℕ) → q < length (starts (suc at) ws) → Begins (suc at) (get_or (starts (suc at) ws) q 0) ws (get_elem? later q))
        → Begins at (get_or (choose b (at ∷ starts (suc at) ws) (starts (suc at) ws)) q 0) (w ∷ ws)
        (get_elem? (choose b (rule_of (head_of (decoded w)) (parse ws) ∷ later) later) q)
    go true b zero h f = begins_here at w ws _ b refl
    go true b (suc q) h f = begins_later at _ w ws _ (f q (omega arith))
    go false b q h f = begins_later at _ w ws _ (f q h)

pub as_many : (at : ℕ) (ws : List ℕ) → length (starts at ws) ≡ length (parse ws).rules
unfolding starts parse
as_many at [] = refl
as_many at (w ∷ ws) = rw (rules_on (decoded w) (parse ws)) (go (begins_rule (decoded w)) (as_many (suc at) ws))
  where
    go : (b : Bool) → length (starts (suc at) ws) ≡ length (parse ws).rules
        → length (choose b (at ∷ starts (suc at) ws) (starts (suc at) ws))
        ≡ length (choose b (rule_of (head_of (decoded w)) (parse ws) ∷ (parse ws).rules) (parse ws).rules)
    go true e = ap suc e
    go false e = e
