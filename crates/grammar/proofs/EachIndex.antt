-- What stands at each index of a row that is read: a word whose number is in range, and behind it what may stand there.
use Rattle.std.specs.Prelude.{Err, Ok}
use mathlib.Core.Path.{◌≡◌, refl, sym, ◌∙◌}
use mathlib.Core.Bool.{true, ◌&&◌}
use mathlib.Core.List.{List, [], ◌∷◌}
use Prim.Native.Nat.{ℕ, zero, suc, ◌<◌}
use native.Mathlib.Omega.{arith}
use lib.Dec.{ltb}
use lib.ListN.{length, get_or, drop}
use Rattle.answer.specs.declared.Error.TheVariants.{Heading as HeadingFault}
use Rattle.word.specs.declared.Word.{Word}
use Rattle.word.specs.declared.Word.TheVariants.{Heading, Rule as RuleWord, Positive, Negative, Symbol, End, Invalid}
use Rattle.word.specs.Words.{decoded}
use Rattle.grammar.specs.declared.reading.State.{State}
use Rattle.grammar.specs.declared.reading.Sizes.{Sizes}
use Rattle.grammar.specs.declared.reading.Progress.{Progress}
use Rattle.grammar.specs.Limits.{max_words, max_nonterminals, max_terminals}
use Rattle.grammar.specs.Encoding.{Parsed, on_word, parse, declared_by, grammar_of}
use Rattle.grammar.specs.Reading.{in_range, state_after, fresh, stepped, scan, is_within, headed, opened, reading}
use Rattle.grammar.proofs.WellFormed.{faulty, Empty, Shape, reads, step_passed, onward, in_range_same}
use Rattle.grammar.proofs.WellRead.{chosen, refused, both, within_limits}

-- behind a rule's begin no body stands open, behind a negative's no positive comes, and behind the end nothing does
abbrev pub Behind : Word → Parsed → Type 0
Behind (RuleWord A) p = p.body ≡ []
Behind End p = Empty p
Behind Positive p = Unit {0}
Behind Negative p = p.positives ≡ []
Behind (Symbol X) p = Unit {0}
Behind (Heading n t) p = Unit {0}
Behind Invalid p = Unit {0}

-- a word, and what the words behind it say
pub record Place (z : Sizes) (w : Word) (p : Parsed) : Type 0 where
  pub ranged : in_range w z ≡ true
  pub behind : Behind w p

behind_after : (w : Word) (s : State) (p : Parsed) → Shape (state_after w s) p → Behind w p
behind_after (RuleWord A) s p h = h.0
behind_after End s p h = h
behind_after Positive s p h = tt
behind_after Negative s p h = h
behind_after (Symbol X) s p h = tt
behind_after (Heading n t) s p h = tt
behind_after Invalid s p h = tt

places : (p : Progress) (at : ℕ) (ws : List ℕ) (z : Sizes) → scan p at ws ≡ Ok z
    → (i : ℕ) → i < length ws → Place z (decoded (get_or ws i 0)) (parse (drop (suc i) ws))
unfolding scan
places p at [] z e i h = absurd (omega arith)
places p at (w ∷ ws) z e zero h =
    let g = onward (stepped (decoded w) p at) (λ q. scan q (suc at) ws) z e in
    let k = step_passed (decoded w) p g.0 at g.1 in
    let r = reads g.0 (suc at) ws z g.2 in
    record {
      ranged = sym (in_range_same (decoded w) p.sizes z (r.nonterminals ∙ k.nonterminals) (r.terminals ∙ k.terminals)) ∙ k.ranged;
      behind = behind_after (decoded w) p.state (parse ws) (rw k.state at r.fits.shape);
    }
places p at (w ∷ ws) z e (suc i) h =
    let g = onward (stepped (decoded w) p at) (λ q. scan q (suc at) ws) z e in
    places g.0 (suc at) ws z g.2 i (omega arith)

-- a word that declares nonterminals is a heading
heading_place : (w : Word) (z : Sizes) (p : Parsed) → 0 < (declared_by w).nonterminals → Place z w p × (on_word w p ≡ p)
unfolding on_word
heading_place (Heading n t) z p h = (record { ranged = refl; behind = tt }, refl)
heading_place (RuleWord A) z p h = absurd (omega arith)
heading_place Positive z p h = absurd (omega arith)
heading_place Negative z p h = absurd (omega arith)
heading_place (Symbol X) z p h = absurd (omega arith)
heading_place End z p h = absurd (omega arith)
heading_place Invalid z p h = absurd (omega arith)

-- the heading, and the reading of the words behind it
pub record Opened (w : ℕ) (ws : List ℕ) (z : Sizes) : Type 0 where
  pub some : 0 < (declared_by (decoded w)).nonterminals
  pub rest : scan (fresh (declared_by (decoded w))) 1 ws ≡ Ok z

pub read_opened : (w : ℕ) (ws : List ℕ) (z : Sizes) → reading (w ∷ ws) ≡ Ok z → Opened w ws z
unfolding reading opened headed
read_opened w ws z e =
    let s = refused (ltb max_words (length (w ∷ ws))) (opened (w ∷ ws)) z e in
    let d = declared_by (decoded w) in
    let c = chosen (is_within d.nonterminals max_nonterminals && is_within d.terminals max_terminals) (scan (fresh d) 1 ws) z s.1 in
    let b = both (is_within d.nonterminals max_nonterminals) (is_within d.terminals max_terminals) c.0 in
    record { some = (within_limits d.nonterminals max_nonterminals b.0).some; rest = c.1 }

pub read_none : (z : Sizes) → reading [] ≡ Ok z → ⊥
unfolding reading opened
read_none z e = faulty HeadingFault z (refused (ltb max_words 0) (Err HeadingFault) z e).1

-- at every index of a row that is read the word is in range, and what may follow it does
pub read_place : (words : List ℕ) (z : Sizes) → reading words ≡ Ok z → (i : ℕ) → i < length words
    → Place z (decoded (get_or words i 0)) (parse (drop (suc i) words))
read_place [] z e i h = absurd (read_none z e)
read_place (w ∷ ws) z e zero h = (heading_place (decoded w) z (parse ws) (read_opened w ws z e).some).0
read_place (w ∷ ws) z e (suc i) h = let o = read_opened w ws z e in places (fresh (declared_by (decoded w))) 1 ws z o.rest i (omega arith)

-- of the whole row: its rules are the grammar's, and nothing stands outside them
pub record Whole (words : List ℕ) : Type 0 where
  pub rules : (grammar_of words).rules ≡ (parse words).rules
  pub empty : Empty (parse words)

pub read_whole : (words : List ℕ) (z : Sizes) → reading words ≡ Ok z → Whole words
unfolding grammar_of parse
read_whole [] z e = absurd (read_none z e)
read_whole (w ∷ ws) z e =
    let o = read_opened w ws z e in
    headed_whole (heading_place (decoded w) z (parse ws) o.some).1 (reads (fresh (declared_by (decoded w))) 1 ws z o.rest).fits.shape
  where
    headed_whole : on_word (decoded w) (parse ws) ≡ parse ws → Empty (parse ws) → Whole (w ∷ ws)
    headed_whole same empty = record { rules = rw same; empty = rw same empty }
