-- One turn of a scan: what a row of words says from an index on, by the word at the index.
use Rattle.std.specs.Prelude.{Err, Ok, Result}
use mathlib.Core.Path.{◌≡◌, refl}
use mathlib.Core.Bool.{Bool, true, false}
use mathlib.Core.List.{List}
use Prim.Native.Nat.{ℕ, suc, ◌+◌, ◌≤◌, ◌<◌}
use native.Mathlib.Numerals.{add-one}
use lib.Dec.{leb}
use lib.ListN.{length, get_or, drop, drop_of_length-le}
use lib.Seq.{drop-cons}
use borrow.Author.Tests.{leb-true, leb-false}
use Rattle.answer.specs.declared.Error.{Error}
use Rattle.answer.specs.declared.Error.TheVariants.{UnexpectedWord, OutOfRange, TooManyRules}
use Rattle.word.specs.declared.Word.{Word}
use Rattle.base.specs.Choice.{choose}
use Rattle.word.specs.Words.{decoded}
use Rattle.grammar.specs.declared.reading.State.{State}
use Rattle.grammar.specs.declared.reading.Progress.{Progress}
use Rattle.grammar.specs.Limits.{max_rules}
use Rattle.grammar.specs.Reading.{allows, in_range, begins_rule, state_after, progress, one_more, counted, stepped, on_step, finished, scan}

-- the words from one on, which has the index i: it, and the rest
pub scan_here : (words : List ℕ) (p : Progress) (at i : ℕ) → at < length words
    → scan p i (drop at words) ≡ on_step (stepped (decoded (get_or words at 0)) p i) (λ q. scan q (suc i) (drop (suc at) words))
unfolding scan
scan_here words p at i h = rw (drop-cons words at 0 h)

module _ (words : List ℕ) (p : Progress) (at i : ℕ) {w : Word} {r : Result Progress Error} (h : at < length words)
    (e : w ≡ decoded (get_or words at 0)) (s : r ≡ stepped w p i) where
  pub scan_go : {q : Progress} → r ≡ Ok q → scan p i (drop at words) ≡ scan q (i + 1) (drop (at + 1) words)
  unfolding on_step
  scan_go g = rw (scan_here words p at i h, ← e, ← s, g, add-one i, add-one at)

  pub scan_stop : {x : Error} → r ≡ Err x → scan p i (drop at words) ≡ Err x
  unfolding on_step
  scan_stop g = rw (scan_here words p at i h, ← e, ← s, g)

pub scan_over : (words : List ℕ) (p : Progress) (at i : ℕ) → length words ≤ at → scan p i (drop at words) ≡ finished p i
unfolding scan
scan_over words p at i h = rw (drop_of_length-le words h)

-- the word at an index, by the tests that it passes
module _ (w : Word) (p : Progress) (at : ℕ) (a : allows w p.state ≡ true) (i : in_range w p.sizes ≡ true) where
  pub stepped_rule : begins_rule w ≡ true → stepped w p at ≡ counted (state_after w p.state) p.sizes at
  unfolding stepped
  stepped_rule b = rw (a, i, b)

  pub stepped_other : begins_rule w ≡ false → stepped w p at ≡ Ok (progress (state_after w p.state) p.sizes)
  unfolding stepped
  stepped_other b = rw (a, i, b)

-- what the word at an index does, by those tests
pub data Stepped (w : Word) (p : Progress) (at : ℕ) : Result Progress Error → Type 0 where
  unexpected : allows w p.state ≡ false → Stepped w p at (Err (UnexpectedWord at))
  out_of_range : allows w p.state ≡ true → in_range w p.sizes ≡ false → Stepped w p at (Err (OutOfRange at))
  too_many : allows w p.state ≡ true → in_range w p.sizes ≡ true → begins_rule w ≡ true → max_rules ≤ p.sizes.rules
      → Stepped w p at (Err (TooManyRules at))
  rule : allows w p.state ≡ true → in_range w p.sizes ≡ true → begins_rule w ≡ true → p.sizes.rules < max_rules
      → Stepped w p at (Ok (progress (state_after w p.state) (one_more p.sizes)))
  other : allows w p.state ≡ true → in_range w p.sizes ≡ true → begins_rule w ≡ false
      → Stepped w p at (Ok (progress (state_after w p.state) p.sizes))

pub stepping : (w : Word) (p : Progress) (at : ℕ) → Stepped w p at (stepped w p at)
unfolding stepped counted
stepping w p at = go (allows w p.state) refl (in_range w p.sizes) refl (begins_rule w) refl (leb max_rules p.sizes.rules) refl
  where
    next : State
    next = state_after w p.state

    go : (a : Bool) → allows w p.state ≡ a → (i : Bool) → in_range w p.sizes ≡ i → (b : Bool) → begins_rule w ≡ b → (f : Bool)
        → leb max_rules p.sizes.rules ≡ f
        → Stepped w p at (choose a
        (choose i (choose b (choose f (Err (TooManyRules at)) (Ok (progress next (one_more p.sizes)))) (Ok (progress next p.sizes)))
        (Err (OutOfRange at))) (Err (UnexpectedWord at)))
    go false ea i ei b eb f ef = Stepped.unexpected ea
    go true ea false ei b eb f ef = Stepped.out_of_range ea ei
    go true ea true ei true eb true ef = Stepped.too_many ea ei eb (leb-true max_rules p.sizes.rules ef)
    go true ea true ei true eb false ef = Stepped.rule ea ei eb (leb-false max_rules p.sizes.rules ef)
    go true ea true ei false eb f ef = Stepped.other ea ei eb
