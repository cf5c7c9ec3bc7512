-- The tally of a memo table, entry by entry and row by row; where the table records the calls of a descent, it is their tally.
use mathlib.Core.Bool.{true, false}
use mathlib.Core.List.{List, [], ◌∷◌, ◌++◌, map, map-append, Memᴰ}
use mathlib.Core.Path.{◌≡◌, refl, sym, ap, ◌∙◌}
use Prim.Native.Nat.{ℕ, zero, suc, ◌+◌, ◌-◌, ◌*◌, ◌/◌, ◌≤◌, ◌<◌}
use native.Mathlib.Nat.{mul-add-div_right, div-eq_of_lt}
use native.Mathlib.Decide.{dec_lt, ℕ_discrete}
use native.Mathlib.Omega.{arith}
use lib.Arith.{digits_lt}
use lib.Dec.{T}
use borrow.Author.Tests.{eq-eqb, ne_eqb}
use lib.ListN.{length, get_or, take, drop, length-append, get_or-append}
use Rattle.std.proofs.lemmas.List.{get_or_default, get_or-append-add, length-take-le, take-append-drop}
use Rattle.answer.specs.declared.Calls.{Calls}
use Rattle.grammar.specs.Codes.{uncalled_code}
use Rattle.grammar.specs.Syntax.{Grammar}
use Rattle.base.specs.FiniteSets.{keep, numbers_from, numbers_below, combine}
use Rattle.base.specs.Quantifiers.{any_below, one, count_below}
use Rattle.semantics.specs.Choices.{Choice}
use Rattle.semantics.specs.ComesTo.{Call, call_at}
use Rattle.semantics.specs.Calls.{all_calls, call_count, greatest_place, farthest}
use Rattle.semantics.specs.Memo.{Memo, Recorded, written}
use Rattle.base.proofs.Booleans.{T_true}
use Rattle.base.proofs.FiniteSets.{keep_make, keep_elim, numbers_make, numbers_elim, combine_make, combine_elim}
use Rattle.base.proofs.Quantified.{below_make, below_elim, count_le}
use Rattle.memo_table.specs.inner.Tally.{tally_of, records, records_at, recorded_below, written_among, recorded_calls, recorded_tally, called_at, RowsGiven}
use Rattle.memo_table.proofs.JoinedLists.{keep_append, keep_one, numbers_more, combine_more}

greatest_most : (l : List Call) (x : Call) → Memᴰ x l → x.place ≤ greatest_place l
unfolding greatest_place
greatest_most [] x x3 = elim x3 [ ]
greatest_most (y ∷ l) x (Memᴰ.head e) = rw e (omega arith)
greatest_most (y ∷ l) x (Memᴰ.tail m) = omega (arith, greatest_most l x m)

greatest_within : (l : List Call) (p : ℕ) → ((x : Call) → Memᴰ x l → x.place ≤ p) → greatest_place l ≤ p
unfolding greatest_place
greatest_within [] p h = omega arith
greatest_within (y ∷ l) p h = omega (arith, h y (Memᴰ.head refl), greatest_within l p (λ x m. h x (Memᴰ.tail m)))

-- entries counted one after the other
module _ (m : Memo) where
  pub count_none : 0 ≡ recorded_below m 0
  unfolding recorded_below count_below
  count_none = refl

  count_next : (i : ℕ) → recorded_below m i + one (records_at m i) ≡ recorded_below m (suc i)
  unfolding recorded_below count_below
  count_next i = omega arith

  pub count_more : {k : ℕ} (i : ℕ) → i < length m → k ≡ one (records (get_or m i 0)) → recorded_below m i + k ≡ recorded_below m (i + 1)
  count_more {k} i h e =
      let s : i + 1 ≡ suc i = omega arith in
      let same : k ≡ one (records_at m i) = e ∙ ap (λ x. one (records x)) (get_or_default m i 0 uncalled_code h) in
      rw (s, same) (count_next i)

  pub count_bound : (n : ℕ) → recorded_below m n ≤ n
  unfolding recorded_below
  count_bound n = count_le n (records_at m)

-- the entries of two tables, one behind the other
module _ (m m' : Memo) where
  count_front : (n : ℕ) → n ≤ length m → recorded_below (m ++ m') n ≡ recorded_below m n
  unfolding recorded_below count_below
  count_front zero h = refl
  count_front (suc n) h = rw (get_or-append m m' uncalled_code n h, count_front n (omega arith)) refl

  count_behind : (n : ℕ) → recorded_below (m ++ m') (length m + n) ≡ recorded_below m (length m) + recorded_below m' n
  unfolding recorded_below count_below
  count_behind zero = let e : length m + 0 ≡ length m = omega arith in rw e (omega (arith, count_front (length m) (omega arith)))
  count_behind (suc n) =
      let e : length m + suc n ≡ suc (length m + n) = omega arith in
      rw (e, get_or-append-add m m' n uncalled_code) (omega (arith, count_behind n))

  pub count_append : recorded_below (m ++ m') (length (m ++ m')) ≡ recorded_below m (length m) + recorded_below m' (length m')
  count_append = rw (length-append m m') (count_behind (length m'))

-- the first entries of a table
pub count_take : (m : Memo) (n : ℕ) → n ≤ length m → recorded_below (take n m) (length (take n m)) ≡ recorded_below m n
count_take m n h =
    rw (length-take-le n m h, ← count_front (take n m) (drop n m) n (omega (arith, length-take-le n m h)), take-append-drop n m) refl

module _ (m : Memo) (tokens : ℕ) where
  abbrev kept : List Call → List Call
  kept = keep (written_among tokens m)

  -- the entries of a row in front of a place are those of its calls
  row_count : (A i : ℕ) → recorded_below m (A * suc tokens) + length (kept (map (call_at A) (numbers_below i))) ≡ recorded_below m (A * suc tokens + i)
  unfolding keep numbers_below numbers_from
  row_count A zero = let e : A * suc tokens + 0 ≡ A * suc tokens = omega arith in rw e (omega arith)
  row_count A (suc i) =
      let s : suc i ≡ i + 1 = omega arith in
      let b : A * suc tokens + suc i ≡ suc (A * suc tokens + i) = omega arith in
      let more : kept (map (call_at A) (numbers_below (suc i))) ≡ kept (map (call_at A) (numbers_below i)) ++ kept (call_at A i ∷ []) =
      ap kept (ap (map (call_at A)) (ap numbers_below s ∙ numbers_more i) ∙ map-append (call_at A) (numbers_below i) (i ∷ []))
      ∙ keep_append (written_among tokens m) (map (call_at A) (numbers_below i)) (call_at A i ∷ []) in
      let long : length (kept (map (call_at A) (numbers_below (suc i))))
      ≡ length (kept (map (call_at A) (numbers_below i))) + one (records_at m (A * suc tokens + i)) =
      ap (length {A = Call}) more ∙ length-append (kept (map (call_at A) (numbers_below i))) (kept (call_at A i ∷ []))
      ∙ ap (λ (c : ℕ). length (kept (map (call_at A) (numbers_below i))) + c) (keep_one (written_among tokens m) (call_at A i)) in
      rw b (omega (arith, long, row_count A i, count_next m (A * suc tokens + i)))

  -- the entries of the first rows are those of their calls
  rows_count : (N : ℕ) → recorded_below m (N * suc tokens) ≡ length (recorded_calls m N tokens)
  unfolding recorded_calls keep combine numbers_below numbers_from recorded_below count_below
  rows_count zero = let e : 0 * suc tokens ≡ 0 = omega arith in rw e refl
  rows_count (suc N) =
      let s : suc N ≡ N + 1 = omega arith in
      let b : suc N * suc tokens ≡ N * suc tokens + suc tokens = omega arith in
      let places = numbers_below (suc tokens) in
      let more : kept (combine call_at (numbers_below (suc N)) places) ≡ kept (combine call_at (numbers_below N) places) ++ kept (map (call_at N) places) =
      ap kept (ap (λ As. combine call_at As places) (ap numbers_below s ∙ numbers_more N) ∙ combine_more call_at places (numbers_below N) N)
      ∙ keep_append (written_among tokens m) (combine call_at (numbers_below N) places) (map (call_at N) places) in
      let long : length (kept (combine call_at (numbers_below (suc N)) places))
      ≡ length (kept (combine call_at (numbers_below N) places)) + length (kept (map (call_at N) places)) =
      ap (length {A = Call}) more ∙ length-append (kept (combine call_at (numbers_below N) places)) (kept (map (call_at N) places)) in
      rw b (omega (arith, long, rows_count N, row_count N (suc tokens)))

  module _ {N : ℕ} where
    -- the row of each of them lies within the table
    pub row_within : {A i : ℕ} → A < N → RowsGiven m N tokens i → A * (tokens + 1) + tokens < length m
    row_within {A} h g = let l : A * (tokens + 1) + tokens < N * (tokens + 1) = digits_lt h (omega arith) in omega (arith, g.room)

    module _ {A i : ℕ} (h : A < N) (g : RowsGiven m N tokens i) where
      entry_same : get_or m (A * (tokens + 1) + i) 0 ≡ get_or m (A * suc tokens + i) uncalled_code
      entry_same =
          let e : A * (tokens + 1) + i ≡ A * suc tokens + i = omega arith in
          get_or_default m (A * (tokens + 1) + i) 0 uncalled_code (omega (arith, row_within h g, g.placed)) ∙ ap (λ j. get_or m j uncalled_code) e

      -- a call at the place is found, or not yet
      pub called_here : (get_or m (A * (tokens + 1) + i) 0 ≡ uncalled_code → ⊥) → true ≡ called_at m N tokens i
      unfolding called_at
      called_here n =
          let t : T (written_among tokens m (call_at A i)) = rw
          (ne_eqb (get_or m (A * suc tokens + i) uncalled_code) uncalled_code (λ e. n (entry_same ∙ e))) tt in
          sym (T_true _ (below_make N (λ B. written_among tokens m (call_at B i)) A h t))

      pub called_not : get_or m (A * (tokens + 1) + i) 0 ≡ uncalled_code → called_at m A tokens i ≡ false → called_at m (A + 1) tokens i ≡ false
      unfolding called_at any_below
      called_not e before =
          let s : A + 1 ≡ suc A = omega arith in
          rw (s, eq-eqb (get_or m (A * suc tokens + i) uncalled_code) uncalled_code (sym entry_same ∙ e), before)

  pub called_none : (i : ℕ) → called_at m 0 tokens i ≡ false
  unfolding called_at any_below
  called_none i = refl

  module _ (N : ℕ) where
    -- no call behind a place
    abbrev pub NoneBehind : ℕ → Type 0
    NoneBehind p = (i : ℕ) → p < i → i ≤ tokens → called_at m N tokens i ≡ false

    -- each recorded call is one of a first nonterminal at a place
    within : {p : ℕ} → NoneBehind p → greatest_place (recorded_calls m N tokens) ≤ p
    unfolding recorded_calls called_at
    within {p} none = greatest_within (recorded_calls m N tokens) p (λ x k.
        let held = keep_elim (written_among tokens m) (combine call_at (numbers_below N) (numbers_below (suc tokens))) x k in
        let at = combine_elim call_at (numbers_below N) (numbers_below (suc tokens)) x held.0 in
        let e : x ≡ call_at at.0 at.1 = at.4 in
        let t : T (written_among tokens m (call_at at.0 at.1)) = rw e at held.1 in
        let low = numbers_elim (suc tokens) at.1 at.3 in
        go x at.1 (ap (λ y. y.place) e) (omega (arith, low))
        (below_make N (λ B. written_among tokens m (call_at B at.1)) at.0 (numbers_elim N at.0 at.2) t))
      where
        go : (x : Call) (i : ℕ) → x.place ≡ i → i ≤ tokens → T (called_at m N tokens i) → x.place ≤ p
        go x i e h t = elim (dec_lt p i) [
          | yes l ↦ absurd (rw (none i l h) at t)
          | no l ↦ omega arith
        ]

    pub farthest_here : {p : ℕ} → p ≤ tokens → NoneBehind p → called_at m N tokens p ≡ true → p ≡ greatest_place (recorded_calls m N tokens)
    unfolding recorded_calls called_at
    farthest_here {p} h none c =
        let found = below_elim N (λ A. written_among tokens m (call_at A p)) (rw c tt) in
        let held = combine_make call_at (numbers_below N) (numbers_below (suc tokens)) found.0 p (numbers_make N found.0 found.1)
        (numbers_make (suc tokens) p (omega arith)) in
        let high = greatest_most (recorded_calls m N tokens) (call_at found.0 p) (keep_make (written_among tokens m) _ (call_at found.0 p) held found.2) in
        omega (arith, within none)

    pub farthest_none : {p : ℕ} → p ≡ 0 → NoneBehind p → 0 ≡ greatest_place (recorded_calls m N tokens)
    farthest_none e none = omega (arith, within none)

    -- one place less
    pub none_behind : {p : ℕ} → NoneBehind p → called_at m N tokens p ≡ false → NoneBehind (p - 1)
    none_behind {p} none c i l h = go (ℕ_discrete i p)
      where
        go : Dec (i ≡ p) → called_at m N tokens i ≡ false
        go (yes e) = rw e c
        go (no e) = none i (omega arith) h

    pub tallied : {count farthest : ℕ} → count ≡ recorded_below m (N * (tokens + 1)) → farthest ≡ greatest_place (recorded_calls m N tokens)
        → record { count = count; farthest = farthest } ≡ tally_of (recorded_calls m N tokens)
    unfolding tally_of
    tallied c f =
        let e : N * (tokens + 1) ≡ N * suc tokens = omega arith in
        let counted = c ∙ ap (recorded_below m) e ∙ rows_count N in
        rw (counted, f)

-- for any grammar and input of these sizes, these are the calls whose entry is written
pub recorded_written : (G : Grammar) (w : List ℕ) (m : Memo) → recorded_calls m G.nonterminals (length w) ≡ keep (written w m) (all_calls G w)
unfolding recorded_calls all_calls
recorded_written G w m = refl

-- a memo table has the rows that it is made for
rows_are : (l N k : ℕ) → l ≡ N * (k + 1) → l / (k + 1) ≡ N
rows_are l N k e =
    let low : 0 < k + 1 = omega arith in
    let whole : l ≡ N * (k + 1) + 0 = omega arith in
    rw whole (mul-add-div_right low N 0 ∙ omega (arith, div-eq_of_lt low))

-- where the memo table records a descent, its tally is the number of the calls made and the farthest place of one
pub tally_recorded : {G : Grammar} {choice : Choice} {w : List ℕ} {m : Memo} {r : Calls}
    → Recorded G choice w m → r ≡ recorded_tally m (length w)
    → r ≡ record { count = call_count G choice w; farthest = farthest G choice w }
unfolding tally_of call_count farthest
tally_recorded {G} {choice} {w} {m} recorded e =
    let rows : length m / (length w + 1) ≡ G.nonterminals = rows_are (length m) G.nonterminals (length w) (recorded.size ∙ omega arith) in
    e ∙ ap (λ n. tally_of (recorded_calls m n (length w))) rows ∙ ap tally_of (recorded_written G w m ∙ recorded.scanned)

pub count_recorded : {G : Grammar} {choice : Choice} {w : List ℕ} {m : Memo} {r : ℕ} → Recorded G choice w m
    → r ≡ recorded_below m (length m) → r ≡ call_count G choice w
unfolding call_count
count_recorded {G} {choice} {w} {m} recorded e =
    e ∙ ap (recorded_below m) recorded.size ∙ rows_count m (length w) G.nonterminals ∙ ap length (recorded_written G w m ∙ recorded.scanned)
