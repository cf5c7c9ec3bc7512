-- The rules are written into the rows from the last on, so that an entry has the first that claims it.
use mathlib.Core.Path.{◌≡◌, refl, sym, subst, ◌∙◌}
use mathlib.Core.Bool.{Bool, true, false, true≢false}
use mathlib.Core.List.{List, [], ◌∷◌}
use mathlib.Core.Logic.{◌⊎◌, inl, inr}
use mathlib.Core.Option.{Option, none, some}
use Prim.Native.Nat.{ℕ, suc, ◌+◌, ◌-◌, ◌*◌, ◌≤◌, ◌<◌}
use native.Mathlib.Decide.{ℕ_discrete, dec_lt}
use native.Mathlib.Nat.{suc-mul, mul-le-mul, mul-le-mul_right}
use native.Mathlib.Omega.{arith}
use lib.ListN.{get_or}
use Rattle.base.specs.Choice.{choose}
use Rattle.grammar.specs.Limits.{max_nonterminals, max_columns_of_two}
use Rattle.grammar.specs.inner.Limits.{max_entries}
use Rattle.grammar.specs.declared.reading.Sizes.{Sizes}
use Rattle.lookahead.specs.declared.Lookahead.{Lookahead}
use Rattle.base.specs.FiniteSets.{numbers_from, numbers_below}
use Rattle.semantics.specs.Claims.{position}
use Rattle.columns.specs.Columns.{column_count}
use Rattle.claims.specs.inner.Claims.{claimant}
use Rattle.table.specs.inner.Entries.{Rows, entry_index, entry_over, FilledRow, FilledRows, RowsGiven}
use Rattle.columns.proofs.ColumnStrings.{column_count_lem}
use Rattle.claims.proofs.Claimants.{claimant_own, claimant_other, numbers_before}

-- a list whose first member passes, or does not
module _ {X : Type 0} (p : X → Bool) (x : X) (l : List X) (q old : ℕ) where
  position_first : p x ≡ true → q ≡ entry_over q old (position p (x ∷ l))
  unfolding position
  position_first e = let z : q + 0 ≡ q = omega arith in rw (entry_over, e) (sym z)

  position_later : p x ≡ false → entry_over (suc q) old (position p l) ≡ entry_over q old (position p (x ∷ l))
  unfolding position
  position_later e = go (p x) e (position p l)
    where
      go : (b : Bool) → b ≡ false → (o : Option ℕ)
          → entry_over (suc q) old o ≡ entry_over q old (elim b [ true ↦ some 0 | false ↦ elim o [ none ↦ none | some n ↦ some (suc n) ] ])
      go true e o = absurd (true≢false e)
      go false e none = refl
      go false e (some n) = omega arith

-- an entry of another row is none of the row's
other_row : (A B c n : ℕ) → c < n → (A ≡ B → ⊥) → (A * n + c < B * n) ⊎ (B * n + n ≤ A * n + c)
other_row A B c n h ne = go (dec_lt A B)
  where
    go : Dec (A < B) → (A * n + c < B * n) ⊎ (B * n + n ≤ A * n + c)
    go (yes l) = inl (omega (arith, suc-mul A n, mul-le-mul_right n l))
    go (no l) = let k : suc B ≤ A = omega arith in inr (omega (arith, suc-mul B n, mul-le-mul_right n k))

-- before the last rule nothing is written
rows_none : (R : Rows) (heads sets : List ℕ) (q : ℕ) (table : List ℕ) → FilledRows R heads sets q [] table table
unfolding position
rows_none R heads sets q table = record { long = refl; entries = λ A c _ _. refl; behind = λ i _. refl }

-- one rule more
module _ {R : Rows} {heads sets : List ℕ} (q : ℕ) {rules before table table' : List ℕ} (f : FilledRows R heads sets (suc q) rules before table)
    (own : get_or heads q 0 < R.rows)
    (w : FilledRow table (get_or heads q 0 * R.columns) R.element R.columns (get_or sets q 0) q table') where
  abbrev head : ℕ
  head = get_or heads q 0

  own_row : (c : ℕ) → c < R.columns
      → get_or table' (entry_index R head c) 0 ≡ entry_over q (get_or before (entry_index R head c) 0)
      (position (claimant heads sets head (R.element c)) (q ∷ rules))
  own_row c h = (rw (← claimant_own heads sets (R.element c) q) at (w.inside c h)) ∙ go (p q) refl
    where
      p : ℕ → Bool
      p = claimant heads sets head (R.element c)

      old : ℕ
      old = get_or before (entry_index R head c) 0

      go : (b : Bool) → p q ≡ b → choose b q (get_or table (entry_index R head c) 0) ≡ entry_over q old (position p (q ∷ rules))
      go true e = position_first p q rules q old e
      go false e = f.entries head c own h ∙ position_later p q rules q old e

  rows_rule : FilledRows R heads sets q (q ∷ rules) before table'
  rows_rule = record {
    long = w.long ∙ f.long;
    entries = λ A c a h. at_row A c a h (ℕ_discrete A head);
    behind = λ i o. w.outside i (inr (omega (arith, suc-mul head R.columns, mul-le-mul_right R.columns own))) ∙ f.behind i o;
  }
    where
      at_row : (A c : ℕ) → A < R.rows → c < R.columns → Dec (A ≡ head)
          → get_or table' (entry_index R A c) 0 ≡ entry_over q (get_or before (entry_index R A c) 0)
          (position (claimant heads sets A (R.element c)) (q ∷ rules))
      at_row A c a h (yes e) = rw e (own_row c h)
      at_row A c a h (no ne) =
          w.outside (entry_index R A c) (other_row A head c R.columns h ne) ∙ f.entries A c a h
          ∙ position_later (claimant heads sets A (R.element c)) q rules q (get_or before (entry_index R A c) 0)
          (claimant_other heads sets A (R.element c) q ne)

-- a rule's row is in the array
pub row_room : {k : Lookahead} {z : Sizes} {heads : List ℕ} → RowsGiven k z heads → (q : ℕ) → q < z.rules
    → get_or heads q 0 * column_count k z.terminals + column_count k z.terminals ≤ max_entries
row_room {k} {z} {heads} g q h =
    let n = column_count k z.terminals in
    let l : n ≤ max_columns_of_two = column_count_lem k z.terminals g.few_terminals in
    let own = g.headed.own q h in
    let below : suc (get_or heads q 0) ≤ max_nonterminals = omega (arith, g.headed.allowed) in
    omega (arith, suc-mul (get_or heads q 0) n, mul-le-mul below l)

-- the same in the loop's numbers, of n rules
module _ {R : Rows} {heads sets before : List ℕ} where
  pub rows_start : (n : ℕ) → FilledRows R heads sets n (numbers_from n (n - n)) before before
  unfolding numbers_from
  rows_start n = let e : n - n ≡ 0 = omega arith in rw e (rows_none R heads sets n before)

  pub rows_turn : {table table' : List ℕ} (q n : ℕ) → FilledRows R heads sets q (numbers_from q (n - q)) before table → 0 < q → q ≤ n
      → get_or heads (q - 1) 0 < R.rows
      → FilledRow table (get_or heads (q - 1) 0 * R.columns) R.element R.columns (get_or sets (q - 1) 0) (q - 1) table'
      → FilledRows R heads sets (q - 1) (numbers_from (q - 1) (n - (q - 1))) before table'
  rows_turn {table} q n f h k own w =
      let e : q ≡ suc (q - 1) = omega arith in
      let g = subst (λ k. FilledRows R heads sets k (numbers_from q (n - q)) before table) e f in
      rw (numbers_before q n h k) (rows_rule (q - 1) g own w)

  pub rows_end : {table : List ℕ} (q n : ℕ) → FilledRows R heads sets q (numbers_from q (n - q)) before table → q ≤ 0
      → FilledRows R heads sets 0 (numbers_below n) before table
  unfolding numbers_below
  rows_end q n f h =
      let e : q ≡ 0 = omega arith in
      let d : n - 0 ≡ n = omega arith in
      rw (e, d) at f
