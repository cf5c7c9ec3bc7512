-- A row of words has at most one diagnosis.
use Rattle.std.specs.Prelude.{Err, Ok, Result}
use Rattle.grammar.specs.declared.reading.Sizes.{Sizes}
use mathlib.Core.Path.{◌≡◌, refl, ap}
use mathlib.Core.List.{List, [], ◌∷◌, ◌++◌, append_assoc}
use Prim.Native.Nat.{ℕ, zero, suc, ◌≤◌, ◌<◌}
use native.Mathlib.Omega.{arith}
use native.Mathlib.Decide.{dec_lt}
use lib.ListN.{length, take}
use Rattle.answer.specs.declared.Error.{Error}
use Rattle.grammar.specs.Syntax.{Grammar}
use Rattle.encoding.specs.Encode.{end_word, sizes_of}
use Rattle.encoding.specs.Diagnosis.{BeginsEncoding, FirstFault, OutOfRangeAt, RuleTooMany, WordFault, Diagnosis}
use Rattle.encoding.proofs.Decoding.{encode_injective}

-- the words up to an index begin an encoding if those up to a later one do
pub shorter : (words : List ℕ) (i j : ℕ) → i ≤ j → (us : List ℕ) × (take j words ≡ take i words ++ us)
shorter ws zero j h = (take j ws, refl)
shorter ws (suc i) zero h = absurd (omega arith)
shorter [] (suc i) (suc j) h = ([], refl)
shorter (w ∷ ws) (suc i) (suc j) h = let s = shorter ws i j (omega arith) in (s.0, ap (λ l. w ∷ l) s.1)

pub begins_shorter : (words : List ℕ) (i j : ℕ) → i ≤ j → BeginsEncoding (take j words) → BeginsEncoding (take i words)
begins_shorter words i j h b =
    let s = shorter words i j h in
    record { rest = s.0 ++ b.rest; grammar = b.grammar; encodes = rw (← append_assoc (take i words) s.0 b.rest, ← s.1) b.encodes }

-- words go on up to one index at most, where what goes on has begun all along
pub record StopsAt (Begins : List ℕ → Type 0) (words : List ℕ) (i : ℕ) : Type 0 where
  pub among : i ≤ length words
  pub before : Begins (take i words)
  pub here : i < length words → Begins (take (suc i) words) → ⊥

pub stops_once : (Begins : List ℕ → Type 0) (words : List ℕ) → ((i j : ℕ) → i ≤ j → Begins (take j words) → Begins (take i words))
    → (i j : ℕ) → StopsAt Begins words i → StopsAt Begins words j → i ≡ j
stops_once Begins words earlier i j a b = go (dec_lt i j) (dec_lt j i)
  where
    not_before : (i j : ℕ) → StopsAt Begins words i → StopsAt Begins words j → i < j → ⊥
    not_before i j a b l = a.here (omega (arith, b.among)) (earlier (suc i) j l b.before)

    go : Dec (i < j) → Dec (j < i) → i ≡ j
    go (yes l) m = absurd (not_before i j a b l)
    go (no l) (yes m) = absurd (not_before j i b a m)
    go (no l) (no m) = omega arith

-- there is one first fault
pub first_unique : (words : List ℕ) (i j : ℕ) → FirstFault words i → FirstFault words j → i ≡ j
first_unique words i j a b = stops_once BeginsEncoding words (begins_shorter words) i j (stops i a) (stops j b)
  where
    stops : (i : ℕ) → FirstFault words i → StopsAt BeginsEncoding words i
    stops i f = record { among = f.among; before = f.before; here = f.here }

-- and one fault of a word
ranged_not_many : (words : List ℕ) (i : ℕ) → OutOfRangeAt words i → RuleTooMany words i → ⊥
ranged_not_many words i (OutOfRangeAt.head {G} k e l) m =
    let same = encode_injective (take i words ++ (end_word ∷ [])) G m.grammar e m.before in
    omega (arith, l, ap (λ (H : Grammar). H.nonterminals) same, m.in_range)
ranged_not_many words i (OutOfRangeAt.terminal k b l) m = omega (arith, m.begins)
ranged_not_many words i (OutOfRangeAt.nonterminal k b l) m = omega (arith, m.begins)

pub one_fault : (words : List ℕ) (i : ℕ) (x y : Error) → WordFault words i x → WordFault words i y → x ≡ y
one_fault words i _ _ (WordFault.unexpected n m) (WordFault.unexpected n' m') = refl
one_fault words i _ _ (WordFault.unexpected n m) (WordFault.out_of_range o) = absurd (n o)
one_fault words i _ _ (WordFault.unexpected n m) (WordFault.too_many t) = absurd (m t)
one_fault words i _ _ (WordFault.out_of_range o) (WordFault.unexpected n m) = absurd (n o)
one_fault words i _ _ (WordFault.out_of_range o) (WordFault.out_of_range o') = refl
one_fault words i _ _ (WordFault.out_of_range o) (WordFault.too_many t) = absurd (ranged_not_many words i o t)
one_fault words i _ _ (WordFault.too_many t) (WordFault.unexpected n m) = absurd (m t)
one_fault words i _ _ (WordFault.too_many t) (WordFault.out_of_range o) = absurd (ranged_not_many words i o t)
one_fault words i _ _ (WordFault.too_many t) (WordFault.too_many t') = refl

pub one_diagnosis : (words : List ℕ) (o u : Result Sizes Error) → Diagnosis words o → Diagnosis words u → o ≡ u
one_diagnosis words _ _ (Diagnosis.encoding {G} s e) (Diagnosis.encoding {G = H} t f) = ap (λ F. Ok (sizes_of F)) (encode_injective words G H e f)
one_diagnosis words _ _ (Diagnosis.encoding s e) (Diagnosis.long t) = absurd (omega arith)
one_diagnosis words _ _ (Diagnosis.encoding {G} s e) (Diagnosis.heading t f) = absurd (f.whole G e)
one_diagnosis words _ _ (Diagnosis.encoding {G} s e) (Diagnosis.behind t l f x) = absurd (f.whole G e)
one_diagnosis words _ _ (Diagnosis.long s) (Diagnosis.encoding t f) = absurd (omega arith)
one_diagnosis words _ _ (Diagnosis.long s) (Diagnosis.long t) = refl
one_diagnosis words _ _ (Diagnosis.long s) (Diagnosis.heading t f) = absurd (omega arith)
one_diagnosis words _ _ (Diagnosis.long s) (Diagnosis.behind t l f x) = absurd (omega arith)
one_diagnosis words _ _ (Diagnosis.heading s e) (Diagnosis.encoding {G} t f) = absurd (e.whole G f)
one_diagnosis words _ _ (Diagnosis.heading s e) (Diagnosis.long t) = absurd (omega arith)
one_diagnosis words _ _ (Diagnosis.heading s e) (Diagnosis.heading t f) = refl
one_diagnosis words _ _ (Diagnosis.heading s e) (Diagnosis.behind {i} t l f x) = absurd (omega (arith, first_unique words 0 i e f))
one_diagnosis words _ _ (Diagnosis.behind s k e x) (Diagnosis.encoding {G} t f) = absurd (e.whole G f)
one_diagnosis words _ _ (Diagnosis.behind s k e x) (Diagnosis.long t) = absurd (omega arith)
one_diagnosis words _ _ (Diagnosis.behind {i} s k e x) (Diagnosis.heading t f) = absurd (omega (arith, first_unique words i 0 e f))
one_diagnosis words _ _ (Diagnosis.behind {i} {x} s k e v) (Diagnosis.behind {i = j} {x = y} t l f w) =
    ap Err (one_fault words j x y (rw (first_unique words i j e f) at v) w)
