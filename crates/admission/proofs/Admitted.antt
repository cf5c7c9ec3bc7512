-- Admission by what reading finds, one law for each way through the code; then what an admitted row of words is.
use Rattle.std.specs.Prelude.{Err, None, Ok, Option, Result, Some}
use mathlib.Core.Path.{◌≡◌, refl}
use mathlib.Core.Bool.{Bool, true, false, ◌&&◌, false≢true}
use mathlib.Core.Logic.{◌↔◌}
use mathlib.Core.Option.{Option as Maybe, none, some}
use mathlib.Core.List.{List, [], ◌∷◌}
use Prim.Native.Nat.{ℕ, ◌≤◌, ◌<◌}
use native.Mathlib.Omega.{arith}
use lib.ListN.{length, get_or}
use lib.Dec.{ltb}
use borrow.Author.Tests.{lt-ltb, le-ltb, ltb-false}
use Rattle.answer.specs.declared.Error.{Error}
use Rattle.answer.specs.declared.Error.TheVariants.{UnexpectedWord, TooManyTerminals}
use Rattle.answer.specs.Numbers.{coded}
use Rattle.answer.specs.Faults.{fault_if, first_fault}
use Rattle.lookahead.specs.declared.Lookahead.{Lookahead}
use Rattle.lookahead.specs.declared.Lookahead.TheVariants.{One, Two}
use Rattle.word.specs.Words.{decoded}
use Rattle.grammar.specs.declared.reading.Sizes.{Sizes}
use Rattle.grammar.specs.Encoding.{declared_by, grammar_of}
use Rattle.grammar.specs.Limits.{max_words, max_nonterminals, max_terminals, max_terminals_of_two}
use Rattle.grammar.specs.Reading.{begins_rule, reading, opened, headed, scan, fresh, is_within}
use Rattle.grammar.proofs.WellFormed.{Each, none_in, faulty}
use Rattle.grammar.proofs.WellRead.{chosen, refused, both, within_limits, heading_begins_none}
use Rattle.admission.proofs.WithoutPositives.{Positives, none_found, found_none}
use Rattle.admission.specs.Admission.{Fits, alone_from, first_alone, of_heading, word_fault, two_tokens_fault, faulty_or, admission}

pub no_terminals : (words : List ℕ) → length words ≡ 0 → 0 ≡ (grammar_of words).terminals
unfolding grammar_of
no_terminals [] e = refl
no_terminals (w ∷ ws) e = let z : ◌≡◌ {A = ℕ} 0 1 = cc in absurd (omega arith)

pub terminals_declared : (words : List ℕ) → 0 < length words → (declared_by (decoded (get_or words 0 0))).terminals ≡ (grammar_of words).terminals
unfolding grammar_of
terminals_declared [] h = absurd (omega arith)
terminals_declared (w ∷ ws) h = refl

pub none_alone : (o : Result Sizes Error) {a : Option ℕ} → a ≡ None → o ≡ faulty_or (word_fault o a) o
none_alone (Ok z) e = rw e
none_alone (Err x) e = rw e

pub alone_read : {o : Result Sizes Error} {a : Option ℕ} {z : Sizes} {i : ℕ} → o ≡ Ok z → a ≡ Some i → Err (UnexpectedWord i) ≡ faulty_or (word_fault o a) o
alone_read e f = rw (e, f)

module _ {o : Result Sizes Error} {a : Option ℕ} {x : Error} {i : ℕ} (e : o ≡ Err x) (f : a ≡ Some i) where
  pub alone_before : i < (coded x).position → Err (UnexpectedWord i) ≡ faulty_or (word_fault o a) o
  alone_before l = rw (e, f, lt-ltb i (coded x).position l)

  pub alone_behind : (coded x).position ≤ i → Err x ≡ faulty_or (word_fault o a) o
  alone_behind l = rw (e, f, le-ltb i (coded x).position l)

last_fault : (f : Maybe Error) (o : Result Sizes Error) → faulty_or f o ≡ faulty_or (first_fault (f ∷ [])) o
last_fault none o = refl
last_fault (some e) o = refl

module _ (o : Result Sizes Error) (words : List ℕ) where
  pub heading_first : of_heading o ≡ true → o ≡ faulty_or (two_tokens_fault o words) o
  unfolding two_tokens_fault
  heading_first t = go o refl t
    where
      go : (p : Result Sizes Error) → o ≡ p → of_heading p ≡ true → p ≡ faulty_or (two_tokens_fault p words) p
      go (Ok z) e h = absurd (false≢true h)
      go (Err x) e h = rw h

  pub many_terminals : of_heading o ≡ false → max_terminals_of_two < (grammar_of words).terminals
      → Err TooManyTerminals ≡ faulty_or (two_tokens_fault o words) o
  unfolding two_tokens_fault
  many_terminals h l = go o h
    where
      go : (p : Result Sizes Error) → of_heading p ≡ false → Err TooManyTerminals ≡ faulty_or (two_tokens_fault p words) p
      go (Ok z) h = rw (lt-ltb max_terminals_of_two (grammar_of words).terminals l)
      go (Err x) h = rw (h, lt-ltb max_terminals_of_two (grammar_of words).terminals l)

  pub words_then : of_heading o ≡ false → (grammar_of words).terminals ≤ max_terminals_of_two
      → faulty_or (word_fault o (first_alone words)) o ≡ faulty_or (two_tokens_fault o words) o
  unfolding two_tokens_fault
  words_then h l = go o h
    where
      go : (p : Result Sizes Error) → of_heading p ≡ false → faulty_or (word_fault p (first_alone words)) p ≡ faulty_or (two_tokens_fault p words) p
      go (Ok z) h = rw (le-ltb max_terminals_of_two (grammar_of words).terminals l) (last_fault (word_fault (Ok z) (first_alone words)) (Ok z))
      go (Err x) h = rw (h, le-ltb max_terminals_of_two (grammar_of words).terminals l) (last_fault (word_fault (Err x) (first_alone words)) (Err x))

-- the words behind the heading of a row that is read
record Headed (w : ℕ) (ws : List ℕ) (z : Sizes) : Type 0 where
  quiet : begins_rule (decoded w) ≡ false
  scanned : scan (fresh (declared_by (decoded w))) 1 ws ≡ Ok z

behind_heading : (w : ℕ) (ws : List ℕ) (z : Sizes) → opened (w ∷ ws) ≡ Ok z → Headed w ws z
unfolding opened headed
behind_heading w ws z e =
    let y = declared_by (decoded w) in
    let b = chosen (is_within y.nonterminals max_nonterminals && is_within y.terminals max_terminals) (scan (fresh y) 1 ws) z e in
    let c = both (is_within y.nonterminals max_nonterminals) (is_within y.terminals max_terminals) b.0 in
    record { quiet = heading_begins_none (decoded w) (within_limits y.nonterminals max_nonterminals c.0).some; scanned = b.1 }

-- in a row that is read, however long, none is found exactly when each rule has a positive
pub none_alone_positives : (words : List ℕ) (z : Sizes) → opened words ≡ Ok z → first_alone words ≡ None → Each Positives (grammar_of words).rules
unfolding grammar_of alone_from
none_alone_positives [] z e n = none_in Positives
none_alone_positives (w ∷ ws) z e n = let h = behind_heading w ws z e in (none_found (fresh (declared_by (decoded w))) 1 ws z h.scanned (rw h.quiet at n)).0

pub positives_none_alone : (words : List ℕ) (z : Sizes) → opened words ≡ Ok z → Each Positives (grammar_of words).rules → first_alone words ≡ None
unfolding grammar_of alone_from
positives_none_alone [] z e r = refl
positives_none_alone (w ∷ ws) z e r =
    let h = behind_heading w ws z e in rw h.quiet (found_none (fresh (declared_by (decoded w))) 1 ws z h.scanned r tt)

opened_read : (words : List ℕ) (z : Sizes) → reading words ≡ Ok z → opened words ≡ Ok z
unfolding reading
opened_read words z e = (refused (ltb max_words (length words)) (opened words) z e).1

fault_none : (f : Maybe Error) (o : Result Sizes Error) (z : Sizes) → faulty_or f o ≡ Ok z → (f ≡ none) × (o ≡ Ok z)
fault_none none o z e = (refl, e)
fault_none (some x) o z e = absurd (faulty x z e)

-- with two tokens, where reading finds no fault
two_none : (words : List ℕ) (z : Sizes) → two_tokens_fault (Ok z) words ≡ none
    → ((grammar_of words).terminals ≤ max_terminals_of_two) × (first_alone words ≡ None)
unfolding two_tokens_fault
two_none words z e = go (ltb max_terminals_of_two (grammar_of words).terminals) refl (first_alone words) e
  where
    go : (b : Bool) → ltb max_terminals_of_two (grammar_of words).terminals ≡ b → (a : Option ℕ)
        → first_fault (none ∷ fault_if b TooManyTerminals ∷ word_fault (Ok z) a ∷ []) ≡ none
        → ((grammar_of words).terminals ≤ max_terminals_of_two) × (a ≡ None)
    go true l a e = let n : ◌≡◌ {A = ℕ} 0 1 = cc in absurd (omega arith)
    go false l None e = (ltb-false max_terminals_of_two (grammar_of words).terminals l, refl)
    go false l (Some i) e = let n : ◌≡◌ {A = ℕ} 0 1 = cc in absurd (omega arith)

none_two : (words : List ℕ) (z : Sizes) → (grammar_of words).terminals ≤ max_terminals_of_two → first_alone words ≡ None
    → two_tokens_fault (Ok z) words ≡ none
unfolding two_tokens_fault
none_two words z l a = rw (le-ltb max_terminals_of_two (grammar_of words).terminals l, a)

-- just those that are read and fit are admitted
pub admitted : (k : Lookahead) (words : List ℕ) (z : Sizes) → (admission k words ≡ Ok z) ↔ ((reading words ≡ Ok z) × Fits k (grammar_of words))
admitted One words z = (λ e. (e, tt), λ f. f.0)
admitted Two words z = (to, from)
  where
    to : admission Two words ≡ Ok z → (reading words ≡ Ok z) × Fits Two (grammar_of words)
    to e =
        let f = fault_none (two_tokens_fault (reading words) words) (reading words) z e in
        let n = two_none words z (rw f.1 at f.0) in
        (f.1, (n.0, none_alone_positives words z (opened_read words z f.1) n.1))

    from : (reading words ≡ Ok z) × Fits Two (grammar_of words) → admission Two words ≡ Ok z
    from (e, f) = rw (e, none_two words z f.0 (positives_none_alone words z (opened_read words z e) f.1))
