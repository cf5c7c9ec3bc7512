-- What is admitted is what there is to tell of a row of words: with one token what reading finds, with two by the terminals and the first negative of a
-- rule without positives.
use Rattle.std.specs.Prelude.{Err, None, Ok, Option, Result, Some}
use Rattle.grammar.specs.declared.reading.Sizes.{Sizes}
use mathlib.Core.Path.{◌≡◌, refl, sym, subst, ◌∙◌}
use mathlib.Core.Bool.{false}
use mathlib.Core.List.{List, [], ◌∷◌}
use Prim.Native.Nat.{ℕ, suc, ◌≤◌, ◌<◌}
use native.Mathlib.Omega.{arith}
use native.Mathlib.Decide.{dec_lt}
use lib.ListN.{length, take, drop, take-append-drop}
use Rattle.answer.specs.declared.Error.{Error}
use Rattle.answer.specs.declared.Error.TheVariants.{Length, Heading, UnexpectedWord, TooManyTerminals}
use Rattle.answer.specs.Numbers.{coded}
use Rattle.grammar.specs.Limits.{max_words, max_terminals_of_two}
use Rattle.grammar.specs.Syntax.{Grammar}
use Rattle.grammar.specs.Encoding.{grammar_of}
use Rattle.grammar.specs.Reading.{reading}
use Rattle.encoding.specs.Encode.{sizes_of, Encodes}
use Rattle.encoding.specs.Diagnosis.{BeginsEncoding, FirstFault, WordFault, Diagnosis}
use Rattle.encoding.proofs.Decoding.{encodes_grammar}
use Rattle.encoding.proofs.ReadingEncodes.{encodes_opened}
use Rattle.encoding.proofs.Diagnosis.{diagnosed_reading}
use Rattle.encoding.proofs.OneDiagnosis.{begins_shorter, first_unique}
use Rattle.lookahead.specs.declared.Lookahead.{Lookahead}
use Rattle.lookahead.specs.declared.Lookahead.TheVariants.{One, Two}
use Rattle.admission.specs.Admission.{Fits, first_alone, of_heading, word_fault, two_tokens_fault, faulty_or, admission}
use Rattle.admission.specs.Diagnosis.{BeginsEncodingBy, FirstFaultBy, FaultBy, DiagnosisBy}
use Rattle.admission.proofs.WithoutPositives.{alone_among}
use Rattle.admission.proofs.Admitted.{no_terminals, alone_before, alone_behind, heading_first, many_terminals, words_then, none_alone_positives}
use Rattle.admission.proofs.Beginnings.{absent_at, alone_behind_heading, begins_all, begins_nothing, terminals_begun, begins_quiet, alone_stops}

forgets : {k : Lookahead} {words : List ℕ} → BeginsEncodingBy k words → BeginsEncoding words
forgets b = record { rest = b.rest; grammar = b.grammar; encodes = b.encodes }

-- a first fault whatever fits is one with a lookahead, where the words before it begin an encoding that fits
faulty_by : {k : Lookahead} {words : List ℕ} {i : ℕ} → BeginsEncodingBy k (take i words) → FirstFault words i → FirstFaultBy k words i
faulty_by b f = record { among = f.among; before = b; here = λ l c. f.here l (forgets c); whole = λ G e _. f.whole G e }

-- the codes of faulty words are above those of a faulty heading, and their places are those of the words
word_coded : {words : List ℕ} {i : ℕ} {x : Error} → WordFault words i x → (of_heading (Err x) ≡ false) × ((coded x).position ≡ i)
word_coded (WordFault.unexpected n m) = (refl, refl)
word_coded (WordFault.out_of_range o) = (refl, refl)
word_coded (WordFault.too_many t) = (refl, refl)

at_same : (a c : ℕ) → Some a ≡ Some c → a ≡ c
at_same a c q = cc

begins_whole : (words : List ℕ) (G : Grammar) → Encodes words G → (i : ℕ) → BeginsEncoding (take i words)
begins_whole words G e i = record { rest = drop i words; grammar = G; encodes = rw (take-append-drop i words) e }

-- one token
one_diagnosed : (words : List ℕ) (o : Result Sizes Error) → Diagnosis words o → DiagnosisBy One words o
one_diagnosed words _ (Diagnosis.long l) = DiagnosisBy.long l
one_diagnosed words _ (Diagnosis.heading s f) = DiagnosisBy.fault s (faulty_by (begins_nothing One) f) (FaultBy.heading refl f)
one_diagnosed words _ (Diagnosis.behind s l f w) = DiagnosisBy.fault s (faulty_by (fitting f.before) f) (FaultBy.word l f w)
  where
    fitting : {ws : List ℕ} → BeginsEncoding ws → BeginsEncodingBy One ws
    fitting b = record { rest = b.rest; grammar = b.grammar; encodes = b.encodes; fits = tt }
one_diagnosed words _ (Diagnosis.encoding s e) = DiagnosisBy.encoding s e tt

-- two tokens
module _ (words : List ℕ) (short : length words ≤ max_words) where
  -- 18, where the heading begins an encoding
  too_many_lem : max_terminals_of_two < (grammar_of words).terminals → BeginsEncoding (take 1 words) → DiagnosisBy Two words (Err TooManyTerminals)
  too_many_lem l b =
      DiagnosisBy.fault {i = 0} short
      (record {
        among = omega arith;
        before = begins_nothing Two;
        here = λ _ c. omega (arith, terminals_begun words c);
        whole = λ G e f. omega (arith, terminals_begun words (begins_all words G e f 1));
      })
      (FaultBy.terminals refl (λ f. f.here (some words l) b))
    where
      some : (ws : List ℕ) → max_terminals_of_two < (grammar_of ws).terminals → 0 < length ws
      some [] l = absurd (omega (arith, no_terminals [] refl))
      some (w ∷ ws) l = omega arith

  module _ (few : (grammar_of words).terminals ≤ max_terminals_of_two) where
    -- 5, at the first negative of a rule without positives, where the words before it begin an encoding
    stands_alone : (a : ℕ) → first_alone words ≡ Some a → BeginsEncoding (take a words) → (FirstFault words a → ⊥)
        → DiagnosisBy Two words (Err (UnexpectedWord a))
    stands_alone a e b n =
        let some = alone_behind_heading words a e in
        let among = alone_among false 0 words a e in
        DiagnosisBy.fault {i = a} short
        (record {
          among = omega (arith, among);
          before = begins_quiet words a some (omega (arith, among)) few (λ c q. omega (arith, at_same a c (sym e ∙ q))) b;
          here = λ _ c. alone_stops words a e c;
          whole = λ G g f. alone_stops words a e (begins_all words G g f (suc a));
        })
        (FaultBy.alone some n)

    -- a faulty word before it
    word_first : {i : ℕ} {x : Error} → 0 < i → FirstFault words i → WordFault words i x → ((a : ℕ) → first_alone words ≡ Some a → i ≤ a)
        → DiagnosisBy Two words (Err x)
    word_first {i} l f w h = DiagnosisBy.fault short (faulty_by (begins_quiet words i l f.among few h f.before) f) (FaultBy.word l f w)

    -- what the words tell, by where the first such negative stands
    of_words : {i : ℕ} {x : Error} → 0 < i → FirstFault words i → WordFault words i x → (a : Option ℕ) → first_alone words ≡ a
        → DiagnosisBy Two words (faulty_or (word_fault (Err x) a) (Err x))
    of_words l f w None e = word_first l f w (λ a q. absurd (absent_at a (sym e ∙ q)))
    of_words {i} {x} l f w (Some a) e = go (dec_lt a i)
      where
        place : (coded x).position ≡ i
        place = (word_coded w).1

        go : Dec (a < i) → DiagnosisBy Two words (faulty_or (word_fault (Err x) (Some a)) (Err x))
        go (yes m) =
            subst (DiagnosisBy Two words) (alone_before {x = x} {i = a} refl refl (omega (arith, m, place)))
            (stands_alone a e (begins_shorter words a i (omega (arith, m)) f.before) (λ g. omega (arith, m, first_unique words a i g f)))
        go (no m) =
            subst (DiagnosisBy Two words) (alone_behind {x = x} {i = a} refl refl (omega (arith, m, place)))
            (word_first l f w (λ c q. omega (arith, m, at_same a c (sym e ∙ q))))

    of_encoding : (G : Grammar) → Encodes words G → (a : Option ℕ) → first_alone words ≡ a
        → DiagnosisBy Two words (faulty_or (word_fault (Ok (sizes_of G)) a) (Ok (sizes_of G)))
    of_encoding G g None e =
        let fits : Fits Two (grammar_of words) = (few, none_alone_positives words (sizes_of G) (encodes_opened words G g) e) in
        DiagnosisBy.encoding short g (rw (encodes_grammar words G g) at fits)
    of_encoding G g (Some a) e = stands_alone a e (begins_whole words G g a) (λ f. f.whole G g)

  by_terminals : (o : Result Sizes Error) → of_heading o ≡ false → BeginsEncoding (take 1 words)
      → ((grammar_of words).terminals ≤ max_terminals_of_two → DiagnosisBy Two words (faulty_or (word_fault o (first_alone words)) o))
      → DiagnosisBy Two words (faulty_or (two_tokens_fault o words) o)
  by_terminals o h b words-tell = go (dec_lt max_terminals_of_two (grammar_of words).terminals)
    where
      go : Dec (max_terminals_of_two < (grammar_of words).terminals) → DiagnosisBy Two words (faulty_or (two_tokens_fault o words) o)
      go (yes l) = subst (DiagnosisBy Two words) (many_terminals o words h l) (too_many_lem l b)
      go (no l) =
          let few : (grammar_of words).terminals ≤ max_terminals_of_two = omega (arith, l) in
          subst (DiagnosisBy Two words) (words_then o words h few) (words-tell few)

two_diagnosed : (words : List ℕ) (o : Result Sizes Error) → Diagnosis words o → DiagnosisBy Two words (faulty_or (two_tokens_fault o words) o)
two_diagnosed words _ (Diagnosis.long l) = subst (DiagnosisBy Two words) (heading_first (Err Length) words refl) (DiagnosisBy.long l)
two_diagnosed words _ (Diagnosis.heading s f) =
    subst (DiagnosisBy Two words) (heading_first (Err Heading) words refl) (DiagnosisBy.fault s (faulty_by (begins_nothing Two) f) (FaultBy.heading refl f))
two_diagnosed words _ (Diagnosis.behind {i} {x} s l f w) =
    by_terminals words s (Err x) (word_coded w).0 (begins_shorter words 1 i l f.before) (λ few. of_words words s few l f w (first_alone words) refl)
two_diagnosed words _ (Diagnosis.encoding {G} s e) =
    by_terminals words s (Ok (sizes_of G)) refl (begins_whole words G e 1) (λ few. of_encoding words s few G e (first_alone words) refl)

pub diagnosed_admission : (k : Lookahead) (words : List ℕ) → DiagnosisBy k words (admission k words)
diagnosed_admission One words = one_diagnosed words (reading words) (diagnosed_reading words)
diagnosed_admission Two words = two_diagnosed words (reading words) (diagnosed_reading words)
