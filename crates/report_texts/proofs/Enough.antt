-- What is printed of a file and an input cut to one past their limits is what is printed of the whole.
use mathlib.Core.Path.{◌≡◌, refl, sym, ap, ◌∙◌}
use mathlib.Core.Bool.{false}
use mathlib.Core.List.{List}
use mathlib.Core.Option.{Option, none, some}
use Prim.Native.Nat.{ℕ, ◌*◌, ◌<◌}
use native.Mathlib.Omega.{arith}
use native.Mathlib.Decide.{dec_lt}
use lib.ListN.{length, take}
use lib.Seq.{length-take-le, take_all}
use borrow.Author.Tests.{lt-ltb, lt-leb}
use Rattle.answer.specs.declared.Error.{Error}
use Rattle.answer.specs.declared.Error.TheVariants.{Length, InputTooLong}
use Rattle.base.specs.Choice.{choose}
use Rattle.event.specs.Events.{input_of}
use Rattle.event.proofs.Inputs.{input_length}
use Rattle.grammar.specs.Limits.{max_words, max_tokens, max_memo_entries, max_table_words}
use Rattle.file_words.specs.Words.{bytes_of_word, words_of, are_words}
use Rattle.refusal_text.specs.Refusal.{refusal_text}
use Rattle.lookahead.specs.declared.Lookahead.TheVariants.{One}
use Rattle.table_promises.specs.Analysis.{fault}
use Rattle.judgement_text.specs.Judgement.{judgement_text}
use Rattle.recognizer_promises.specs.Answers.{judge_fault}
use Rattle.recognizer_promises.proofs.JudgeFaults.{judged_rows}
use Rattle.report_texts.specs.Texts.{sheet_of, judged_text, judgement_of, gaps_of, enough_read}
use Rattle.report_texts.specs.Report.{Enough}

-- a function that does not tell lists longer than a limit apart is the same of a list cut past the limit
cut : {B : Type 0} (f : List ℕ → B) (limit n : ℕ) → limit < n → ((l m : List ℕ) → limit < length l → limit < length m → f l ≡ f m)
    → (l : List ℕ) → f (take n l) ≡ f l
cut f limit n h same l = go (dec_lt limit (length l))
  where
    go : Dec (limit < length l) → f (take n l) ≡ f l
    go (yes k) = same (take n l) l (longer (dec_lt n (length l))) k
      where
        longer : Dec (n < length l) → limit < length (take n l)
        longer (yes j) = omega (arith, length-take-le n l (omega arith))
        longer (no u) = rw (take_all n l (omega arith)) k
    go (no u) = ap f (take_all n l (omega arith))

-- a file that is too long is no row of words
not_words : (bytes : List ℕ) → bytes_of_word * max_words < length bytes → are_words bytes ≡ false
unfolding are_words
not_words bytes h = rw (lt-leb (length bytes) (bytes_of_word * max_words) h)

-- what is reported of an input that is too long: the grammar's fault, or else its length
abbrev or_long : Option Error → Error
or_long none = InputTooLong
or_long (some e) = e

long_fault : (words input : List ℕ) → max_tokens < length input → (f : Option Error) → fault One words ≡ f
    → judge_fault One max_table_words max_memo_entries words input ≡ some (or_long f)
long_fault words input h (some x) e = rw (judged_rows One max_table_words max_memo_entries words input, e)
long_fault words input h none e = rw (judged_rows One max_table_words max_memo_entries words input, e, lt-ltb max_tokens (length input) h)

long_text : (words events : List ℕ) → max_tokens < length events → judged_text words (input_of events) ≡ refusal_text (or_long (fault One words))
unfolding judged_text judgement_text
long_text words events h = rw (long_fault words (input_of events) (omega (arith, input_length events)) (fault One words) refl)

-- what is refused as no row of words is the same of every file that is too long
file_cut : (f : List ℕ → List ℕ) (file : ℕ) → bytes_of_word * max_words < file
    → ((l : List ℕ) → are_words l ≡ false → f l ≡ refusal_text Length) → (bytes : List ℕ) → f (take file bytes) ≡ f bytes
file_cut f file long same = cut f (bytes_of_word * max_words) file long (λ l m h k. same l (not_words l h) ∙ sym (same m (not_words m k)))

module _ (file tokens : ℕ) (long : bytes_of_word * max_words < file) (over : max_tokens < tokens) where
  pub sheet_enough : (bytes : List ℕ) → sheet_of (take file bytes) ≡ sheet_of bytes
  unfolding sheet_of
  sheet_enough = file_cut sheet_of file long (λ l e. rw e)

  pub gaps_enough : (bytes : List ℕ) → gaps_of (take file bytes) ≡ gaps_of bytes
  unfolding gaps_of
  gaps_enough = file_cut gaps_of file long (λ l e. rw e)

  pub judgement_enough : (bytes events : List ℕ) → judgement_of (take file bytes) (take tokens events) ≡ judgement_of bytes events
  unfolding judgement_of
  judgement_enough bytes events =
      file_cut (λ b. judgement_of b (take tokens events)) file long (λ l e. rw e) bytes
      ∙ ap (λ t. choose (are_words bytes) t (refusal_text Length))
      (cut (λ l. judged_text (words_of bytes) (input_of l)) max_tokens tokens over
      (λ l m h k. long_text (words_of bytes) l h ∙ sym (long_text (words_of bytes) m k)) events)

pub enough : Enough enough_read
enough = record {
  lengths = refl;
  sheet = sheet_enough enough_read.file enough_read.input (omega arith) (omega arith);
  judgement = judgement_enough enough_read.file enough_read.input (omega arith) (omega arith);
  gaps = gaps_enough enough_read.file enough_read.input (omega arith) (omega arith);
}
