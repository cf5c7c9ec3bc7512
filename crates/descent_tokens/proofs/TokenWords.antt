-- The words of the tokens are written place by place over words of the end; and of an input that fits they hold the tokens and the columns.
use mathlib.Core.Path.{◌≡◌, sym, ap, ◌∙◌}
use mathlib.Core.List.{List, [], ◌∷◌}
use Prim.Native.Nat.{ℕ, suc, ◌+◌, ◌/◌, ◌%◌, ◌≤◌, ◌<◌, min}
use native.Mathlib.Omega.{arith}
use native.Mathlib.Decide.{dec_lt}
use lib.ListN.{length, get_or, set, replicate, length-set, length-replicate, get_or-replicate}
use lib.Seq.{get_or-set_same, get_or-set_other}
use borrow.Author.Tests.{lt-ltb, le-ltb, eq-eqb, ne_eqb}
use Rattle.event.proofs.Known.{token_below}
use Rattle.grammar.specs.Limits.{max_tokens, max_places}
use Rattle.base.specs.Strings.{Over}
use Rattle.lookahead.specs.declared.Lookahead.{Lookahead}
use Rattle.lookahead.specs.declared.Lookahead.TheVariants.{One, Two}
use Rattle.lookahead.specs.inner.Lookaheads.{alphabet}
use Rattle.base.proofs.Lists.{listed_long, listed_at}
use Rattle.columns.specs.inner.Columns.{column_at}
use Rattle.columns.proofs.Columns.{column_end_lem, column_right}
use Rattle.columns.proofs.ColumnStrings.{column_count_lem}
use Rattle.descent_arrays.specs.inner.Arrays.{end_column, end_mark, column_weight, held_tokens}
use Rattle.descent_tokens.specs.inner.Tokens.{token_word, mark_at, tokens_of}
use Rattle.descent_arrays.proofs.Listing.{listed_by}

-- the word of a place, and that of the end
abbrev pub token_at : Lookahead → ℕ → List ℕ → ℕ → ℕ
token_at k n w i = token_word (column_at k n w i) (mark_at w i)

abbrev pub end_word : Lookahead → ℕ → List ℕ → ℕ
end_word k n w = token_word (column_at k n w (length w)) end_mark

-- the first words are written, over words of the end
pub record Written (k : Lookahead) (n : ℕ) (w : List ℕ) (at : ℕ) (tokens : List ℕ) : Type 0 where
  pub long : length tokens ≡ max_places
  pub passed : (i : ℕ) → i < at → get_or tokens i 0 ≡ token_at k n w i
  pub ahead : (i : ℕ) → at ≤ i → i < max_places → get_or tokens i 0 ≡ end_word k n w

-- behind the last token all places have the same column
column_past : (k : Lookahead) (n : ℕ) (w : List ℕ) (i : ℕ) → length w ≤ i → column_at k n w i ≡ column_at k n w (length w)
column_past k n w i h = column_end_lem k n w i h ∙ sym (column_end_lem k n w (length w) (omega arith))

module _ (k : Lookahead) (n : ℕ) (w : List ℕ) where
  token_past : (i : ℕ) → length w ≤ i → token_at k n w i ≡ end_word k n w
  unfolding mark_at
  token_past i h = rw (column_past k n w i h, le-ltb i (length w) h)

  token_here : (i : ℕ) → i < length w → token_at k n w i ≡ token_word (column_at k n w i) (get_or w i 0)
  unfolding mark_at
  token_here i h = rw (lt-ltb i (length w) h)

  pub written_none : {e : ℕ} → e ≡ end_word k n w → Written k n w 0 (replicate max_places e)
  written_none {e} q = record {
    long = length-replicate max_places e;
    passed = λ i h. absurd (omega arith);
    ahead = λ i h l. get_or-replicate max_places i e 0 l ∙ q;
  }

  pub written_more : {at : ℕ} {tokens : List ℕ} {v : ℕ} → Written k n w at tokens → at < max_places → at < length w
      → v ≡ token_word (column_at k n w at) (get_or w at 0) → Written k n w (at + 1) (set tokens at v)
  written_more {at} {tokens} {v} g h inside e = record {
    long = length-set tokens at v ∙ g.long;
    passed = λ i l. go i l (dec_lt i at);
    ahead = λ i l m. get_or-set_other tokens at i v 0 (λ q. absurd (omega arith)) ∙ g.ahead i (omega arith) m;
  }
    where
      go : (i : ℕ) → i < at + 1 → Dec (i < at) → get_or (set tokens at v) i 0 ≡ token_at k n w i
      go i l (yes m) = get_or-set_other tokens at i v 0 (λ q. absurd (omega arith)) ∙ g.passed i m
      go i l (no m) =
          let q : i ≡ at = omega arith in
          rw q (get_or-set_same tokens at v 0 (omega (arith, g.long)) ∙ e ∙ sym (token_here at inside))

  pub written_all : {at : ℕ} {tokens : List ℕ} → at ≡ min (length w) max_places → Written k n w at tokens → tokens ≡ tokens_of k n w
  unfolding tokens_of
  written_all {at} {tokens} e d = listed_by max_places (token_at k n w) tokens d.long (λ i h. go i h (dec_lt i at))
    where
      go : (i : ℕ) → i < max_places → Dec (i < at) → get_or tokens i 0 ≡ token_at k n w i
      go i h (yes l) = d.passed i l
      go i h (no l) = d.ahead i (omega arith) h ∙ sym (token_past i (omega arith))

-- words hold the input that their terminals are, up to the end
held_is : (w tokens : List ℕ) → length w < length tokens → ((i : ℕ) → i < length w → get_or tokens i 0 % column_weight ≡ get_or w i 0)
    → ((i : ℕ) → i < length w → get_or w i 0 < end_mark) → get_or tokens (length w) 0 % column_weight ≡ end_mark → held_tokens tokens ≡ w
unfolding held_tokens
held_is [] [] l t k e = absurd (omega arith)
held_is [] (x ∷ ts) l t k e = rw (eq-eqb (x % column_weight) end_mark e)
held_is (a ∷ w) [] l t k e = absurd (omega arith)
held_is (a ∷ w) (x ∷ ts) l t k e =
    let q : x % column_weight ≡ a = t 0 (omega arith) in
    rw (q, ne_eqb a end_mark (λ z. absurd (omega (arith, k 0 (omega arith)))))
    (ap {B = List ℕ} (λ l. a ∷ l) (held_is w ts (omega arith) (λ i h. t (suc i) (omega arith)) (λ i h. k (suc i) (omega arith)) e))

alphabet_few : (k : Lookahead) → alphabet k < end_mark
alphabet_few One = omega arith
alphabet_few Two = omega arith

-- an input that fits
pub record TokensGiven (k : Lookahead) (w : List ℕ) (n : ℕ) : Type 0 where
  pub short : length w ≤ max_tokens
  pub few : n ≤ alphabet k
  pub known : Over n w

-- the words of the tokens hold the input, and for each place the column of its lookahead string
pub record TokensHold (k : Lookahead) (n : ℕ) (w tokens : List ℕ) : Type 0 where
  pub input : held_tokens tokens ≡ w
  pub columns : (i : ℕ) → i ≤ length w → get_or tokens i 0 / column_weight ≡ column_at k n w i
  pub terminals : (i : ℕ) → i < length w → get_or tokens i 0 % column_weight ≡ get_or w i 0
  pub end : get_or tokens (length w) 0 % column_weight ≡ end_mark

module _ {k : Lookahead} {n : ℕ} {w : List ℕ} (g : TokensGiven k w n) where
  -- a column of the table comes before the last two of a row of choices
  pub column_few : (i : ℕ) → column_at k n w i < end_column
  column_few i = omega (arith, (column_right k n w i g.few g.known).low, column_count_lem k n g.few)

  token_few : (i : ℕ) → i < length w → get_or w i 0 < end_mark
  token_few i h = omega (arith, token_below n w g.known i h, g.few, alphabet_few k)

  word_at : (i : ℕ) → i < max_places → get_or (tokens_of k n w) i 0 ≡ token_at k n w i
  unfolding tokens_of
  word_at i h = listed_at max_places (token_at k n w) i h

  word_here : (i : ℕ) → i < length w → get_or (tokens_of k n w) i 0 ≡ token_word (column_at k n w i) (get_or w i 0)
  word_here i h = word_at i (omega (arith, g.short)) ∙ token_here k n w i h

  word_last : get_or (tokens_of k n w) (length w) 0 ≡ end_word k n w
  word_last = word_at (length w) (omega (arith, g.short)) ∙ token_past k n w (length w) (omega arith)

  long : length (tokens_of k n w) ≡ max_places
  unfolding tokens_of
  long = listed_long max_places (token_at k n w)

  pub tokens_hold : TokensHold k n w (tokens_of k n w)
  tokens_hold =
      let terminals : (i : ℕ) → i < length w → get_or (tokens_of k n w) i 0 % column_weight ≡ get_or w i 0 =
      λ i h. omega (arith, word_here i h, token_few i h) in
      let end : get_or (tokens_of k n w) (length w) 0 % column_weight ≡ end_mark = omega (arith, word_last) in
      record {
        input = held_is w (tokens_of k n w) (omega (arith, long, g.short)) terminals token_few end;
        columns = λ i h. go i h (dec_lt i (length w));
        terminals = terminals;
        end = end;
      }
    where
      go : (i : ℕ) → i ≤ length w → Dec (i < length w) → get_or (tokens_of k n w) i 0 / column_weight ≡ column_at k n w i
      go i h (yes l) = omega (arith, word_here i l, token_few i l, column_few i)
      go i h (no l) = let q : i ≡ length w = omega arith in rw q (omega (arith, word_last, column_few (length w)))
