-- The texts that the programs print, from the bytes of files, and how much of a file they read.
use Rattle.std.specs.Prelude.{List, ℕ, suc, ◌*◌, length, replicate}
use Rattle.std.proofs.Math.Option.{Option}
use Rattle.answer.specs.declared.Answer.{Answer}
use Rattle.answer.specs.declared.Error.{Error}
use Rattle.answer.specs.declared.Error.TheVariants.{Length}
use Rattle.base.specs.Choice.{choose}
use Rattle.event.specs.Events.{input_of}
use Rattle.grammar.specs.Codes.{no_entry, uncalled_code}
use Rattle.grammar.specs.Limits.{max_words, max_tokens, max_memo_entries, max_table_words}
use Rattle.grammar.specs.Encoding.{grammar_of}
use Rattle.grammar.specs.Reading.{reading}
use Rattle.lookahead.specs.declared.Lookahead.TheVariants.{One}
use Rattle.families.specs.Analysis.{finding_of}
use Rattle.table_promises.specs.Layout.{table_words}
use Rattle.answer.specs.Faults.{refused_or}
use Rattle.recognizer_promises.specs.Answers.{check_fault, judge_fault, verdict_of}
use Rattle.promises.specs.Memory.{lent_back}
use Rattle.recognizer_promises.specs.Memory.{memo_words}
use Rattle.report_texts.specs.declared.Rooms.{Rooms}
use Rattle.report_texts.specs.declared.Reads.{Reads}
use Rattle.file_words.specs.Words.{bytes_of_word, words_of, are_words}
use Rattle.refusal_text.specs.Refusal.{refusal_text}
use Rattle.sheet_text.specs.Room.{sheet_room}
use Rattle.judgement_text.specs.Room.{judgement_room}
use Rattle.gaps_text_promises.specs.Room.{gaps_room}
use Rattle.sheet_text.specs.Sheet.{check_text}
use Rattle.judgement_text.specs.Judgement.{judgement_text}
use Rattle.gaps_text_promises.specs.Gaps.{gaps_text}

-- room for every sheet, for every judgement, and for all gaps and overlaps
abbrev pub enough_room : Rooms
enough_room = record { sheet = sheet_room; judgement = judgement_room; gaps = gaps_room }

-- the memory that is lent for the table
unfoldable pub blank_table : List ℕ
blank_table = replicate max_table_words no_entry

-- the same after checking words
abbrev pub checked_table : List ℕ → List ℕ
checked_table words = lent_back (check_fault One max_table_words words) (table_words One (grammar_of words)) blank_table

-- what is printed of words that are checked, by why they are refused, or else their sizes, and the table that checking gives
unfoldable pub checked_text : List ℕ → List ℕ
checked_text words = check_text (finding_of (check_fault One max_table_words words) (reading words)) (checked_table words)

-- (document 01: the first program) the sheet of a file's words; bytes that are no words have a refused length
unfoldable pub sheet_of : List ℕ → List ℕ
sheet_of bytes = choose (are_words bytes) (checked_text (words_of bytes)) (refusal_text Length)

-- the memory that is lent for the memo table
unfoldable pub blank_memo : List ℕ
blank_memo = replicate max_memo_entries uncalled_code

-- the answer to an input that is judged by words, and both memories afterwards
abbrev pub judged_fault : List ℕ → List ℕ → Option Error
judged_fault words input = judge_fault One max_table_words max_memo_entries words input

abbrev pub judged_answer : List ℕ → List ℕ → Answer
judged_answer words input = refused_or (judged_fault words input) (verdict_of One (grammar_of words) input)

abbrev pub judged_table : List ℕ → List ℕ → List ℕ
judged_table words input = lent_back (judged_fault words input) (table_words One (grammar_of words)) blank_table

abbrev pub judged_memo : List ℕ → List ℕ → List ℕ
judged_memo words input = lent_back (judged_fault words input) (memo_words One (grammar_of words) input) blank_memo

-- what is printed of it
unfoldable pub judged_text : List ℕ → List ℕ → List ℕ
judged_text words input = judgement_text (judged_answer words input) (grammar_of words).nonterminals (length input) (judged_memo words input)

-- (document 01: the second program) the judgement of a log's events by a file's words
unfoldable pub judgement_of : List ℕ → List ℕ → List ℕ
judgement_of bytes events = choose (are_words bytes) (judged_text (words_of bytes) (input_of events)) (refusal_text Length)

-- (document 02, P3: the third program) the gaps and overlaps of a file's words
unfoldable pub gaps_of : List ℕ → List ℕ
gaps_of bytes = choose (are_words bytes) (gaps_text (words_of bytes)) (refusal_text Length)

-- one byte more than the longest file of words has, and one token more than the longest input
abbrev pub enough_read : Reads
enough_read = record { file = suc (bytes_of_word * max_words); input = suc max_tokens }
