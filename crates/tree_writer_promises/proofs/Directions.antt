-- What judging with a tree leaves is settled by the input, so directions change nothing.
use mathlib.Core.Path.{◌≡◌, refl, sym, ap, ◌∙◌}
use mathlib.Core.List.{List}
use mathlib.Core.Option.{Option, none, some}
use Prim.Native.Nat.{ℕ}
use lib.ListN.{length}
use Rattle.answer.specs.declared.Answer.{Answer}
use Rattle.answer.specs.declared.Error.{Error}
use Rattle.answer.specs.Numbers.{numbers}
use Rattle.answer.specs.Faults.{refused_or}
use Rattle.grammar.specs.Encoding.{grammar_of}
use Rattle.lookahead.specs.declared.Lookahead.TheVariants.{One}
use Rattle.promises.specs.Directions.{DirectionsIgnored}
use Rattle.promises.proofs.Directions.{pair_same, directions_ignored}
use Rattle.recognizer_promises.specs.Answers.{verdict_of}
use Rattle.recognizer_promises.proofs.Judged.{verdict_unrefused}
use Rattle.tree_writer_promises.specs.declared.Shown.{Shown}
use Rattle.tree_writer_promises.specs.Properties.{tree_fault, words_of, Shows}

-- the answer with the number of words, and all three memories
abbrev Left : Type 0
Left = Shown × (List ℕ × (List ℕ × List ℕ))

shown_same : (r s : Shown) → r.answer ≡ s.answer → r.written ≡ s.written → r ≡ s
shown_same r s a n =
    let z : ◌≡◌ {A = Shown} (record { answer = r.answer; written = r.written }) (record { answer = s.answer; written = s.written }) = rw (a, n) in z

module _ (words table memo tree : List ℕ) where
  abbrev Promise : List ℕ → Left → Type 0
  Promise input l = Shows words input table memo tree l.0 l.1.0 l.1.1.0 l.1.1.1

  -- how many words, by whether the call is refused
  abbrev count : Option Error → List ℕ → ℕ
  count (some x) w = 0
  count none w = length (words_of words w)

  counted : (w : List ℕ) (l : Left) → Promise w l → (f : Option Error) → tree_fault (length table) (length memo) (length tree) words w ≡ f
      → l.0.written ≡ count f w
  counted w l p (some x) e =
      p.unwritten (ap (λ (a : Answer). (numbers a).verdict) (p.leaves.answer ∙ ap (λ f. refused_or f (verdict_of One (grammar_of words) w)) e))
  counted w l p none e =
      p.written (verdict_unrefused One (grammar_of words) w (p.leaves.answer ∙ ap (λ f. refused_or f (verdict_of One (grammar_of words) w)) e))

  settled : (w : List ℕ) (l m : Left) → Promise w l → Promise w m → l ≡ m
  settled w l m p q =
      pair_same (shown_same l.0 m.0 (p.leaves.answer ∙ sym q.leaves.answer) (counted w l p _ refl ∙ sym (counted w m q _ refl)))
      (pair_same (p.leaves.memory.0 ∙ sym q.leaves.memory.0)
      (pair_same (p.leaves.memory.1.0 ∙ sym q.leaves.memory.1.0) (p.leaves.memory.1.1.0 ∙ sym q.leaves.memory.1.1.0)))

  pub shows_ignores : DirectionsIgnored Promise
  shows_ignores = directions_ignored Promise settled
