-- The column of the lookahead string at a place: by how many tokens are left there; and its string is the one that is looked at.
use mathlib.Core.Path.{◌≡◌, ap, ◌∙◌}
use mathlib.Core.List.{List, [], ◌∷◌}
use Prim.Native.Nat.{ℕ, suc, ◌+◌, ◌*◌, ◌≤◌, ◌<◌}
use native.Mathlib.Numerals.{add-one}
use native.Mathlib.Omega.{arith}
use lib.ListN.{length, get_or, take, drop, drop_of_length-le}
use lib.Seq.{drop-cons, take-nil}
use Rattle.lookahead.specs.declared.Lookahead.{Lookahead}
use Rattle.lookahead.specs.declared.Lookahead.TheVariants.{One, Two}
use Rattle.lookahead.specs.Lookaheads.{tokens}
use Rattle.lookahead.specs.inner.Lookaheads.{alphabet}
use Rattle.base.specs.Strings.{look, Over, Lookahead as Looked}
use Rattle.base.proofs.Strings.{all_take, all_drop, take_short}
use Rattle.columns.specs.Columns.{column_count, column_string, column_of}
use Rattle.columns.specs.inner.Columns.{column_before, column_last, column_end, column_at}
use Rattle.columns.proofs.ColumnStrings.{column_in, string_column}

module _ (n : ℕ) (w : List ℕ) (i : ℕ) where
  -- behind the last token nothing is left
  none_left : (k : ℕ) → length w ≤ i → look k w i ≡ []
  unfolding look
  none_left k h = ap (take k) (drop_of_length-le w h) ∙ take-nil k

  one_left : i < length w → look 1 w i ≡ get_or w i 0 ∷ []
  unfolding look
  one_left h = rw (drop-cons w i 0 h)

  -- one token
  one_token : i < length w → column_at One n w i ≡ get_or w i 0
  unfolding column_at
  one_token h = ap (column_of One n) (one_left h)

  one_end : length w ≤ i → column_at One n w i ≡ n
  unfolding column_at
  one_end h = ap (column_of One n) (none_left 1 h)

  -- two tokens
  two_pair : i + 1 < length w → column_at Two n w i ≡ 8 + 7 * get_or w i 0 + get_or w (i + 1) 0
  unfolding column_at look
  two_pair h = rw (drop-cons w i 0 (omega arith), drop-cons w (suc i) 0 (omega arith), add-one i)

  two_last : i < length w → length w ≤ i + 1 → column_at Two n w i ≡ 1 + get_or w i 0
  unfolding column_at look
  two_last h l = let past : length w ≤ suc i = omega arith in rw (drop-cons w i 0 h, drop_of_length-le w past)

  two_end : length w ≤ i → column_at Two n w i ≡ 0
  unfolding column_at
  two_end h = ap (column_of Two n) (none_left 2 h)

-- of a token that another follows
pub column_inner : (k : Lookahead) (n : ℕ) (w : List ℕ) (i : ℕ) → i + 1 < length w → column_at k n w i ≡ column_before k (get_or w i 0) (get_or w (i + 1) 0)
unfolding column_before
column_inner One n w i h = one_token n w i (omega arith)
column_inner Two n w i h = two_pair n w i h

-- of one that none follows
pub column_last_lem : (k : Lookahead) (n : ℕ) (w : List ℕ) (i : ℕ) → i < length w → length w ≤ i + 1 → column_at k n w i ≡ column_last k (get_or w i 0)
unfolding column_last
column_last_lem One n w i h l = one_token n w i h
column_last_lem Two n w i h l = two_last n w i h l

-- and of the end
pub column_end_lem : (k : Lookahead) (n : ℕ) (w : List ℕ) (i : ℕ) → length w ≤ i → column_at k n w i ≡ column_end k n
unfolding column_end
column_end_lem One n w i h = one_end n w i h
column_end_lem Two n w i h = two_end n w i h

-- what is looked at are terminals
looked : (k n : ℕ) (w : List ℕ) (i : ℕ) → Over n w → Looked k n (look k w i)
unfolding look
looked k n w i over = (take_short k (drop i w), all_take _ k (drop i w) (all_drop _ i w over))

pub record Column (k : Lookahead) (n : ℕ) (w : List ℕ) (i : ℕ) : Type 0 where
  pub low : column_at k n w i < column_count k n
  pub string : column_string k n (column_at k n w i) ≡ look (tokens k) w i

pub column_right : (k : Lookahead) (n : ℕ) (w : List ℕ) (i : ℕ) → n ≤ alphabet k → Over n w → Column k n w i
unfolding column_at
column_right k n w i few over =
    let l = looked (tokens k) n w i over in
    record { low = column_in k n (look (tokens k) w i) few l; string = string_column k n (look (tokens k) w i) few l }
