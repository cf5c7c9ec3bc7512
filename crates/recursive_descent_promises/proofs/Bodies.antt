-- Skipping the symbols of a body leaves the rest of its rule as it is, and ends where the body does.
use Rattle.std.specs.Prelude.{Err, Ok, Result}
use Rattle.answer.specs.declared.Error.{Error}
use mathlib.Core.Path.{◌≡◌, refl, sym, ap, ◌∙◌}
use mathlib.Core.Bool.{Bool, true, false, true≢false}
use mathlib.Core.List.{List}
use Prim.Native.Nat.{ℕ, zero, suc, ◌+◌, ◌-◌, ◌≤◌, ◌<◌}
use native.Mathlib.Omega.{arith}
use native.Mathlib.Numerals.{add-one}
use native.Mathlib.Decide.{dec_lt}
use lib.ListN.{length, get_or, drop, drop_of_length-le}
use Rattle.word.specs.declared.Symbol as grammar
use Rattle.word.specs.declared.Word.TheVariants.{Symbol}
use Rattle.word.specs.Words.{decoded}
use Rattle.grammar.specs.declared.reading.Sizes.{Sizes}
use Rattle.grammar.specs.declared.reading.Progress.{Progress}
use Rattle.grammar.specs.Encoding.{on_word, parse}
use Rattle.grammar.specs.Reading.{scan, finished}
use Rattle.grammar.proofs.Suffixes.{scan_next}
use Rattle.families.proofs.Words.{parse_here as parse_first}
use Rattle.rule.specs.inner.Rule.{is_symbol, body_end}
use Rattle.rule.proofs.Bodies.{tested_symbol, body_on, body_stops, body_over}
use Rattle.recursive_descent_promises.specs.inner.Descent.{is_closed, Skipped}

-- the row from an index on: its first word, and the rest
pub parse_here : (words : List ℕ) (at : ℕ) → at < length words
    → parse (drop at words) ≡ on_word (decoded (get_or words at 0)) (parse (drop (at + 1) words))
parse_here words at h = rw (add-one at) (parse_first words at h)

-- a symbol leaves the progress of a reading as it is
pub symbol_reads : (words : List ℕ) (at : ℕ) (p : Progress) (z : Sizes) (X : grammar.Symbol) → at < length words
    → decoded (get_or words at 0) ≡ Symbol X
    → scan p at (drop at words) ≡ Ok z → scan p (at + 1) (drop (at + 1) words) ≡ Ok z
symbol_reads words at p z X h x e =
    let n = scan_next words at p z h e in
    let k = rw x at n.passed in
    let r : n.progress.sizes.rules ≡ p.sizes.rules = omega (arith, k.rules) in
    let same : ◌≡◌ {A = Progress}
    (record {
      state = n.progress.state;
      sizes =
          record { nonterminals = n.progress.sizes.nonterminals; terminals = n.progress.sizes.terminals; rules = n.progress.sizes.rules };
    })
    (record { state = p.state; sizes = record { nonterminals = p.sizes.nonterminals; terminals = p.sizes.terminals; rules = p.sizes.rules } }) =
    cc (k.state, k.nonterminals, k.terminals, r) in
    rw (same) at n.reads

-- a reading that has not met the end's word is within the words
pub read_within : (words : List ℕ) (at : ℕ) (p : Progress) (z : Sizes) → at ≤ length words → scan p at (drop at words) ≡ Ok z
    → is_closed p.state ≡ false → at < length words
unfolding scan finished
read_within words at p z h e c = go (dec_lt at (length words))
  where
    read_number : Result Sizes Error → ℕ
    read_number (Ok s) = 0
    read_number (Err x) = 1

    go : Dec (at < length words) → at < length words
    go (yes l) = l
    go (no l) =
        let over = rw (drop_of_length-le words {i = at} (omega arith), c) at e in
        absurd (omega (arith, ap read_number over))

pub skipped_none : (words : List ℕ) (from : ℕ) → from ≤ length words → Skipped words from from
skipped_none words from h = record { on = omega arith; within = h; positives = refl; negatives = refl; reads = λ p z e. e }

module _ {words : List ℕ} {from at : ℕ} (s : Skipped words from at) where
  pub skipped_symbol : {X : grammar.Symbol} → at < length words → decoded (get_or words at 0) ≡ Symbol X → Skipped words from (at + 1)
  unfolding on_word
  skipped_symbol {X} h x =
      let here : parse (drop at words) ≡ on_word (Symbol X) (parse (drop (at + 1) words)) =
      parse_here words at h ∙ ap (λ y. on_word y (parse (drop (at + 1) words))) x in
      record {
        on = omega (arith, s.on);
        within = omega arith;
        positives = sym (ap (λ q. q.positives) here) ∙ s.positives;
        negatives = sym (ap (λ q. q.negatives) here) ∙ s.negatives;
        reads = λ p z r. symbol_reads words at p z X h x (s.reads p z r);
      }

  -- further symbols
  pub skipped_on : {r : ℕ} → Skipped words at r → Skipped words from r
  skipped_on t = record {
    on = omega (arith, s.on, t.on);
    within = t.within;
    positives = t.positives ∙ s.positives;
    negatives = t.negatives ∙ s.negatives;
    reads = λ p z r. t.reads p z (s.reads p z r);
  }

-- where a body ends no symbol stands
pub record BodyEnd (words : List ℕ) (from at : ℕ) : Type 0 where
  pub skipped : Skipped words from at
  pub boundary : (X : grammar.Symbol) → at < length words → decoded (get_or words at 0) ≡ Symbol X → ⊥

-- by how many words are left
body_ends : (left : ℕ) (words : List ℕ) (from : ℕ) → length words ≡ from + left → BodyEnd words from (body_end words from)
body_ends zero words from l =
    rw (body_over words from (omega arith)) (record { skipped = skipped_none words from (omega arith); boundary = λ X h. absurd (omega arith) })
body_ends (suc left) words from l = go (is_symbol (decoded (get_or words from 0))) refl (body_ends left words (from + 1) (omega arith))
  where
    here : from < length words
    here = omega arith

    start : Skipped words from from
    start = skipped_none words from (omega arith)

    go : (b : Bool) → is_symbol (decoded (get_or words from 0)) ≡ b → BodyEnd words (from + 1) (body_end words (from + 1))
        → BodyEnd words from (body_end words from)
    go true e r =
        rw (body_on words from here e)
        (record { skipped = skipped_on (skipped_symbol start here (tested_symbol (decoded (get_or words from 0)) e).1) r.skipped; boundary = r.boundary })
    go false e r =
        rw (body_stops words from here e) (record { skipped = start; boundary = λ X h x. true≢false (sym (ap is_symbol x) ∙ e) })

pub body_ended : {words : List ℕ} {from at : ℕ} → from ≤ length words → at ≡ body_end words from → BodyEnd words from at
body_ended {words} {from} h e = rw e (body_ends (length words - from) words from (omega arith))
