-- A conjunct follows the begin of each rule of a grammar that has been read, and the rule has no positives just where it is negative.
use Rattle.std.specs.Prelude.{Ok}
use mathlib.Core.Path.{◌≡◌, refl, ◌∙◌}
use mathlib.Core.Bool.{true, false≢true}
use mathlib.Core.List.{List, []}
use Prim.Native.Nat.{ℕ, suc, ◌+◌, ◌-◌, ◌<◌}
use native.Mathlib.Decide.{dec_lt}
use native.Mathlib.Numerals.{add-one}
use native.Mathlib.Omega.{arith}
use lib.ListN.{length, get_or, drop}
use Rattle.word.specs.declared.Word.{Word}
use Rattle.word.specs.declared.Word.TheVariants.{Heading, Rule as RuleWord, Positive, Negative, Symbol, End, Invalid}
use Rattle.word.specs.Words.{decoded}
use Rattle.grammar.specs.declared.reading.State.{State}
use Rattle.grammar.specs.declared.reading.State.TheVariants.{Opened}
use Rattle.grammar.specs.declared.reading.Sizes.{Sizes}
use Rattle.grammar.specs.Encoding.{Parsed, on_word, parse}
use Rattle.grammar.specs.Reading.{allows, begins_rule, state_after, reading}
use Rattle.grammar.specs.inner.Starts.{rule_starts}
use Rattle.grammar.proofs.Suffixes.{Reached, scan_next, read_reaches}
use Rattle.grammar.proofs.WellFormed.{Shape, reads}
use Rattle.grammar.proofs.WellRead.{well_read}
use Rattle.admission.specs.Admission.{begins_negative}
use Rattle.semantics.specs.Claims.{without}
use Rattle.families.proofs.HeadPasses.{rule_numbered}
use Rattle.families.proofs.RuleRanges.{rule_is}
use Rattle.families.proofs.Words.{parse_here, parse_over}

-- behind the begin of a rule
opened_after : (w : Word) (s : State) → begins_rule w ≡ true → state_after w s ≡ Opened
opened_after (RuleWord A) s e = refl
opened_after Positive s e = absurd (false≢true e)
opened_after Negative s e = absurd (false≢true e)
opened_after (Symbol X) s e = absurd (false≢true e)
opened_after End s e = absurd (false≢true e)
opened_after (Heading n t) s e = absurd (false≢true e)
opened_after Invalid s e = absurd (false≢true e)

none_opened : Shape Opened (parse []) → ⊥
unfolding parse
none_opened s = s.1 refl

-- a word that may stand there, by what the words behind it are
negative_alone : (w : Word) (p : Parsed) → allows w Opened ≡ true → Shape (state_after w Opened) p → begins_negative w ≡ without (on_word w p).positives
unfolding on_word
negative_alone Positive p a s = refl
negative_alone Negative p a s = rw s
negative_alone (RuleWord A) p a s = absurd (false≢true a)
negative_alone (Symbol X) p a s = absurd (false≢true a)
negative_alone End p a s = absurd (false≢true a)
negative_alone (Heading n t) p a s = absurd (false≢true a)
negative_alone Invalid p a s = absurd (false≢true a)

module _ (words : List ℕ) {z : Sizes} (read : reading words ≡ Ok z) where
  -- behind a word that begins a rule
  behind_begin : (i : ℕ) → 0 < i → i < length words → begins_rule (decoded (get_or words i 0)) ≡ true
      → (i + 1 < length words) × (begins_negative (decoded (get_or words (i + 1) 0)) ≡ without (parse (drop (i + 1) words)).positives)
  behind_begin i low high begun =
      let here : suc (i - 1) ≡ i = omega arith in
      let r : Reached words i z = rw here at (read_reaches words z read (i - 1) (omega arith)) in
      let n = scan_next words i r.progress z high r.reads in
      let opened : n.progress.state ≡ Opened = n.passed.state ∙ opened_after (decoded (get_or words i 0)) r.progress.state begun in
      let shape : Shape Opened (parse (drop (i + 1) words)) = rw opened at (reads n.progress (i + 1) (drop (i + 1) words) z n.reads).fits.shape in
      let inside : i + 1 < length words = go (dec_lt (i + 1) (length words)) shape in
      let m = scan_next words (i + 1) n.progress z inside n.reads in
      let allowed : allows (decoded (get_or words (i + 1) 0)) Opened ≡ true = rw opened at m.passed.allowed in
      let behind : Shape (state_after (decoded (get_or words (i + 1) 0)) Opened) (parse (drop (suc (i + 1)) words)) =
      rw (m.passed.state, opened, add-one (i + 1)) at (reads m.progress (i + 1 + 1) (drop (i + 1 + 1) words) z m.reads).fits.shape in
      (inside, negative_alone (decoded (get_or words (i + 1) 0)) (parse (drop (suc (i + 1)) words)) allowed behind ∙ rw (parse_here words (i + 1) inside))
    where
      go : Dec (i + 1 < length words) → Shape Opened (parse (drop (i + 1) words)) → i + 1 < length words
      go (yes h) s = h
      go (no h) s = absurd (none_opened (rw (parse_over words (i + 1) (omega arith)) at s))

  pub first_conjunct : (q : ℕ) → q < z.rules
      → (get_or (rule_starts words) q 0 + 1 < length words)
      × (begins_negative (decoded (get_or words (get_or (rule_starts words) q 0 + 1) 0)) ≡ without (rule_numbered words q).positives)
  first_conjunct q h =
      let b = (well_read words z read).begun q h in
      let c = behind_begin (get_or (rule_starts words) q 0) b.low b.high b.word in
      (c.0, c.1 ∙ rw (rule_is words z read q h, add-one (get_or (rule_starts words) q 0)))
