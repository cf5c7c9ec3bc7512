-- What loading a file tells of its words, and what is printed by whether there are any.
use Rattle.std.specs.Prelude.{None, Option, Some}
use mathlib.Core.Path.{◌≡◌, refl, sym, ap, ap₂, ◌∙◌}
use mathlib.Core.Bool.{Bool, true, false}
use mathlib.Core.List.{List}
use Prim.Native.Nat.{ℕ, ◌+◌, ◌*◌, ◌/◌, ◌%◌, ◌≤◌}
use native.Mathlib.Omega.{arith}
use lib.Dec.{leb, eqb}
use lib.ListN.{length, take, drop, length-replicate}
use lib.Seq.{sets, sets-eq, length-sets, take_at, length-take-le}
use borrow.Author.Tests.{leb-true}
use Rattle.base.proofs.Booleans.{and_first}
use Rattle.answer.specs.declared.Error.TheVariants.{Length}
use Rattle.event.specs.Events.{input_of}
use Rattle.grammar.specs.Codes.{no_entry, uncalled_code}
use Rattle.grammar.specs.Limits.{max_words, max_table_words, max_memo_entries}
use Rattle.lookahead.specs.declared.Lookahead.TheVariants.{One}
use Rattle.promises.proofs.Leaving.{leaves, leaves_alike}
use Rattle.promises.proofs.Directions.{directions_ignored}
use Rattle.base.specs.Choice.{choose}
use Rattle.recognizer_promises.specs.Answers.{judge_fault}
use Rattle.recognizer_promises.specs.Properties.{Judges}
use Rattle.recognizer_promises.proofs.Judged.{judges}
use Rattle.file_words.specs.Words.{bytes_of_word, words_of, are_words}
use Rattle.file_words.specs.inner.Words.{Loading}
use Rattle.text.specs.Writing.{Put}
use Rattle.refusal_text.specs.Refusal.{refusal_text}
use Rattle.file_words.proofs.Fours.{length_words}
use Rattle.refusal_text.proofs.Lines.{refusal_most}
use Rattle.text.proofs.Writing.{put_length, put_whole}
use Rattle.sheet_text.specs.Room.{sheet_room}
use Rattle.gaps_text_promises.specs.inner.Gaps.{GapsPut}
use Rattle.gaps_text_promises.proofs.Lengths.{gaps_most}
use Rattle.gaps_text_promises.proofs.Overlaps.{lines_tell}
use Rattle.report_texts.specs.Texts.{blank_table, checked_text, sheet_of, blank_memo, judged_answer, judged_table, judged_memo, judged_text, judgement_of}
use Rattle.report_texts.specs.Texts.{gaps_of}
use Rattle.report_texts.specs.Report.{Printed, JudgementPrinted, GapsPrinted}
use Rattle.report_texts.proofs.Lengths.{checked_short, judged_short}

-- the words of a file that was loaded
pub record FoundWords (bytes after : List ℕ) (n : ℕ) : Type 0 where
  pub are : are_words bytes ≡ true
  pub few : n ≤ length after
  pub part : n ≡ length (take n after)
  pub words : take n after ≡ words_of bytes

pub found : {bytes before after : List ℕ} {r : Option ℕ} {n : ℕ} → Loading bytes before r after → r ≡ Some n → length before ≡ max_words
    → FoundWords bytes after n
unfolding are_words
found {bytes} {before} {after} {r} {n} l told size = go (are_words bytes) refl
  where
    go : (b : Bool) → are_words bytes ≡ b → FoundWords bytes after n
    go true e =
        let m : n ≡ length bytes / bytes_of_word = cc (rw e at l.told) in
        let w : after ≡ sets before 0 (words_of bytes) = rw e at l.words in
        let k : length bytes ≤ bytes_of_word * max_words =
        leb-true _ _ (and_first (leb (length bytes) (bytes_of_word * max_words)) (eqb (length bytes % bytes_of_word) 0) e) in
        let j : length (words_of bytes) ≡ n = length_words bytes ∙ sym m in
        let a : length after ≡ length before = ap length w ∙ length-sets before 0 (words_of bytes) in
        record {
          are = e;
          few = omega arith;
          part = sym (length-take-le n after (omega arith));
          words = rw (w, sets-eq (words_of bytes) before 0 (omega arith)) (take_at (words_of bytes) (drop (0 + length (words_of bytes)) before) n j);
        }
    go false e = let z : ◌≡◌ {A = ℕ} 0 1 = cc (rw e at l.told) in absurd (omega arith)

pub not_found : {bytes before after : List ℕ} {r : Option ℕ} → Loading bytes before r after → r ≡ None → are_words bytes ≡ false
not_found {bytes} {before} {after} {r} l told = go (are_words bytes) refl
  where
    go : (b : Bool) → are_words bytes ≡ b → are_words bytes ≡ false
    go true e = let z : ◌≡◌ {A = ℕ} 0 1 = cc (rw e at l.told) in absurd (omega arith)
    go false e = e

-- what is printed is judged with blank memories
blank_table_lem : length blank_table ≡ max_table_words
unfolding blank_table
blank_table_lem = length-replicate {A = ℕ} max_table_words no_entry

blank_memo_lem : length blank_memo ≡ max_memo_entries
unfolding blank_memo
blank_memo_lem = length-replicate {A = ℕ} max_memo_entries uncalled_code

judged_blank : (words input : List ℕ)
    → Judges One words input blank_table blank_memo (judged_answer words input) (judged_table words input) (judged_memo words input)
judged_blank words input =
    judges (leaves_alike (ap₂ (λ a b. judge_fault One a b words input) blank_table_lem blank_memo_lem) (leaves refl (refl, (refl, tt))))

-- what is printed of a log goes by the input that its events are, so directions change nothing
pub judgement_ignores : (bytes events turned : List ℕ) → input_of events ≡ input_of turned → judgement_of bytes events ≡ judgement_of bytes turned
unfolding judgement_of
judgement_ignores bytes events turned e =
    directions_ignored (λ input text. text ≡ choose (are_words bytes) (judged_text (words_of bytes) input) (refusal_text Length)) (λ w l m p q. p ∙ sym q)
    events turned e _ _ refl refl

module _ {l m : List ℕ} {k : ℕ} where
  pub printed : {room : ℕ} {text : List ℕ} → length text ≤ room → Put l 0 text m k → Printed room text l m k
  printed {room} {text} short p =
      let h : k ≤ length m = omega (arith, p.position, put_length p) in
      record { put = p; fits = h; part = sym (length-take-le k m h); whole = λ r. put_whole p (omega arith) }

  -- by whether a file's bytes are words
  pub sheet_refused : (bytes : List ℕ) → are_words bytes ≡ false → Put l 0 (refusal_text Length) m k → Printed sheet_room (sheet_of bytes) l m k
  unfolding sheet_of
  sheet_refused bytes e p = rw e (printed (omega (arith, refusal_most Length)) p)

  pub sheet_checked : {bytes words : List ℕ} {n : ℕ} → FoundWords bytes words n → Put l 0 (checked_text (take n words)) m k
      → Printed sheet_room (sheet_of bytes) l m k
  unfolding sheet_of
  sheet_checked f p = rw (f.are, ← f.words) (printed (checked_short _) p)

  pub judgement_refused : (bytes events : List ℕ) → are_words bytes ≡ false → Put l 0 (refusal_text Length) m k → JudgementPrinted bytes events l m k
  unfolding judgement_of
  judgement_refused bytes events e p = record {
    printed = rw e (printed (omega (arith, refusal_most Length)) p);
    judges = judged_blank (words_of bytes) (input_of events);
  }

  pub judgement_judged : {bytes words : List ℕ} {n : ℕ} → FoundWords bytes words n → (events : List ℕ)
      → Put l 0 (judged_text (take n words) (input_of events)) m k
      → JudgementPrinted bytes events l m k
  unfolding judgement_of
  judgement_judged {bytes} f events p = record {
    printed = rw (f.are, ← f.words) (printed (judged_short _ (input_of events)) p);
    judges = judged_blank (words_of bytes) (input_of events);
  }

  pub gaps_refused : (bytes : List ℕ) → are_words bytes ≡ false → Put l 0 (refusal_text Length) m k → GapsPrinted bytes l m k
  unfolding gaps_of
  gaps_refused bytes e p = record { printed = rw e (printed (omega (arith, refusal_most Length)) p); tells = lines_tell (words_of bytes) }

  pub gaps_told : {bytes words : List ℕ} {n : ℕ} → FoundWords bytes words n → GapsPut (take n words) l m k → GapsPrinted bytes l m k
  unfolding gaps_of
  gaps_told f p = record { printed = rw (f.are, ← f.words) (printed (gaps_most _) p.put); tells = rw f.words at p.tells }
