-- What printing promises, on one page: of the sheet, the judgement and the gaps of a file's words, and of how much of a file is read.
use Rattle.std.specs.Prelude.{◌≡◌, List, ℕ, ◌+◌, ◌*◌, ◌≤◌, ◌<◌, length, take}
use Rattle.event.specs.Events.{input_of}
use Rattle.grammar.specs.Encoding.{grammar_of}
use Rattle.lookahead.specs.declared.Lookahead.TheVariants.{One}
use Rattle.lookahead.specs.Elements.{size}
use Rattle.semantics.specs.FirstFollow.{First, Follow}
use Rattle.families.specs.Sets.{first_number, follow_number, Members}
use Rattle.recognizer_promises.specs.Properties.{PassedGrammar, Judges}
use Rattle.report_texts.specs.declared.Reads.{Reads}
use Rattle.file_words.specs.Words.{words_of}
use Rattle.text.specs.Writing.{Put}
use Rattle.sheet_text.specs.Room.{sheet_room}
use Rattle.judgement_text.specs.Room.{judgement_room}
use Rattle.gaps_text_promises.specs.Room.{gaps_room}
use Rattle.sheet_lines.specs.Lines.{sheet_word_at}
use Rattle.gaps_text_promises.specs.Gaps.{LinesTell}
use Rattle.report_texts.specs.Texts.{blank_table, checked_table, sheet_of, blank_memo, judged_answer, judged_table, judged_memo, judgement_of, gaps_of}
use Rattle.report_texts.specs.Texts.{enough_read}

-- a text put from the buffer's front on, of which so many bytes stand there: all of them where the buffer has the room
pub record Printed (room : ℕ) (text before after : List ℕ) (n : ℕ) : Type 0 where
  pub put : Put before 0 text after n
  pub fits : n ≤ length after
  pub part : n ≡ length (take n after)
  pub whole : room ≤ length before → take n after ≡ text

-- the sets of a nonterminal in the sheet of a passed grammar: FIRST and FOLLOW as numbers, and the size that is printed is how many strings they have
pub record SetsTold (words : List ℕ) (A : ℕ) : Type 0 where
  pub first : sheet_word_at (checked_table words) (2 * A) ≡ first_number One (grammar_of words) A
  pub first_members : Members (First (grammar_of words) 1 A) (size (sheet_word_at (checked_table words) (2 * A)))
  pub follow : sheet_word_at (checked_table words) (2 * A + 1) ≡ follow_number One (grammar_of words) A
  pub follow_members : Members (Follow (grammar_of words) 1 A) (size (sheet_word_at (checked_table words) (2 * A + 1)))

pub record SheetPrinted (bytes before after : List ℕ) (n : ℕ) : Type 0 where
  pub printed : Printed sheet_room (sheet_of bytes) before after n
  pub sets : PassedGrammar One (words_of bytes) → (A : ℕ) → A < (grammar_of (words_of bytes)).nonterminals → SetsTold (words_of bytes) A

-- the answer and the memo table of which it is printed are those of judging, with all that judging promises of them
pub record JudgementPrinted (bytes events before after : List ℕ) (n : ℕ) : Type 0 where
  pub printed : Printed judgement_room (judgement_of bytes events) before after n
  pub judges : Judges One (words_of bytes) (input_of events) blank_table blank_memo (judged_answer (words_of bytes) (input_of events))
      (judged_table (words_of bytes) (input_of events)) (judged_memo (words_of bytes) (input_of events))

pub record GapsPrinted (bytes before after : List ℕ) (n : ℕ) : Type 0 where
  pub printed : Printed gaps_room (gaps_of bytes) before after n
  pub tells : LinesTell (words_of bytes)

-- so much of a file and of an input is enough to read: what is printed of it is what is printed of the whole
pub record Enough (r : Reads) : Type 0 where
  pub lengths : r ≡ enough_read
  pub sheet : (bytes : List ℕ) → sheet_of (take r.file bytes) ≡ sheet_of bytes
  pub judgement : (bytes events : List ℕ) → judgement_of (take r.file bytes) (take r.input events) ≡ judgement_of bytes events
  pub gaps : (bytes : List ℕ) → gaps_of (take r.file bytes) ≡ gaps_of bytes
