-- Entries are looked through by nonterminal, then column: the loops' turns, and what is found is the first clash.
use Rattle.std.specs.Prelude.{None, Option, Some}
use mathlib.Core.Path.{◌≡◌, refl, ap, ap₂, ◌∙◌}
use mathlib.Core.Bool.{Bool, true, false, ◌||◌}
use mathlib.Core.List.{List}
use Prim.Native.Nat.{ℕ, zero, suc, ◌+◌, ◌-◌, ◌≤◌, ◌<◌}
use native.Mathlib.Numerals.{add-one}
use native.Mathlib.Omega.{arith}
use lib.ListN.{length, get_or}
use Rattle.grammar.specs.Syntax.{Grammar}
use Rattle.lookahead.specs.declared.Lookahead.{Lookahead}
use Rattle.lookahead.specs.Lookaheads.{tokens}
use Rattle.lookahead.specs.inner.Lookaheads.{alphabet}
use Rattle.lookahead.specs.inner.Operations.{is_empty}
use Rattle.lookahead.proofs.Emptiness.{empty_none}
use Rattle.semantics.specs.Claims.{several, claims, overruns, clashing}
use Rattle.columns.specs.Columns.{column_string, columns}
use Rattle.columns.specs.inner.Columns.{column_element}
use Rattle.claims.specs.inner.Claims.{heads_of, claim_numbers}
use Rattle.families.specs.inner.RuleLists.{by_rule}
use Rattle.claims.specs.inner.Overruns.{overrun_set}
use Rattle.table_promises.specs.Conflicts.{row_conflict, or_later, conflict_from, first_clash}
use Rattle.table.specs.inner.Conflicts.{in_set, claimed_twice}
use Rattle.columns.proofs.ColumnStrings.{column_string_lem, element_small}
use Rattle.claims.proofs.Claimants.{several_claims, told as rules_told}
use Rattle.table.proofs.OverrunColumns.{overrun_column}

-- one turn of the loop over a row's columns
module _ (p : ℕ → Bool) (A : ℕ) {c m : ℕ} (h : c < m) where
  one_less : m - c ≡ suc (m - (c + 1))
  one_less = omega arith

  pub column_here : p c ≡ true → row_conflict p A c (m - c) ≡ Some (A, c)
  unfolding row_conflict
  column_here e = rw (one_less, e)

  pub column_later : p c ≡ false → row_conflict p A c (m - c) ≡ row_conflict p A (c + 1) (m - (c + 1))
  unfolding row_conflict
  column_later e = rw (one_less, e, add-one c)

-- where the set is empty there is no such column
pub column_empty : (element : ℕ → ℕ) (s A c n : ℕ) → is_empty s ≡ true → row_conflict (in_set element s) A c n ≡ None
unfolding row_conflict
column_empty element s A c zero e = refl
column_empty element s A c (suc n) e = rw (empty_none s (element c) e) (column_empty element s A (suc c) n e)

pub column_none : (p : ℕ → Bool) (A c m : ℕ) → m ≤ c → row_conflict p A c (m - c) ≡ None
unfolding row_conflict
column_none p A c m h = let e : m - c ≡ 0 = omega arith in rw e

-- one turn of the loop over the rows
module _ (p : ℕ → ℕ → Bool) (columns : ℕ) {A n : ℕ} (h : A < n) {r : Option (ℕ × ℕ)} (row : r ≡ row_conflict (p A) A 0 columns) where
  row_less : n - A ≡ suc (n - (A + 1))
  row_less = omega arith

  pub row_here : (r ≡ None → ⊥) → conflict_from p columns A (n - A) ≡ r
  unfolding conflict_from
  row_here t = rw (row_less, ← row) (go r t)
    where
      go : (r : Option (ℕ × ℕ)) → (r ≡ None → ⊥) → or_later r (conflict_from p columns (suc A) (n - (A + 1))) ≡ r
      go None t = absurd (t refl)
      go (Some q) t = refl

  pub row_later : r ≡ None → conflict_from p columns A (n - A) ≡ conflict_from p columns (A + 1) (n - (A + 1))
  unfolding conflict_from
  row_later e = rw (row_less, ← row, e, add-one A)

pub rows_all : (p : ℕ → ℕ → Bool) (columns n : ℕ) → conflict_from p columns 0 (n - 0) ≡ conflict_from p columns 0 n
rows_all p columns n = let e : n - 0 ≡ n = omega arith in rw e

pub rows_none : (p : ℕ → ℕ → Bool) (columns A n : ℕ) → n ≤ A → conflict_from p columns A (n - A) ≡ None
unfolding conflict_from
rows_none p columns A n h = let e : n - A ≡ 0 = omega arith in rw e

-- tests that agree on the entries find the same
row_same : (p q : ℕ → Bool) (A c n : ℕ) → ((d : ℕ) → d < c + n → p d ≡ q d) → row_conflict p A c n ≡ row_conflict q A c n
unfolding row_conflict
row_same p q A c zero h = refl
row_same p q A c (suc n) h = rw (h c (omega arith), row_same p q A (suc c) n (λ d l. h d (omega arith)))

rows_same : (p q : ℕ → ℕ → Bool) (columns rows : ℕ) → ((A c : ℕ) → A < rows → c < columns → p A c ≡ q A c) → (A n : ℕ) → A + n ≤ rows
    → conflict_from p columns A n ≡ conflict_from q columns A n
unfolding conflict_from
rows_same p q columns rows h A zero l = refl
rows_same p q columns rows h A (suc n) l =
    rw (row_same (p A) (q A) A 0 columns (λ c b. h A c (omega arith) (omega arith)), rows_same p q columns rows h (suc A) n (omega arith))

-- with the heads and the claims of a grammar's rules, and what is reported of its nonterminals that overrun
pub clash_found : (k : Lookahead) (G : Grammar) → G.terminals ≤ alphabet k → {heads sets : List ℕ} (told : List ℕ)
    → heads ≡ by_rule (heads_of G) → sets ≡ by_rule (claim_numbers k G)
    → ((A : ℕ) → A < G.nonterminals → get_or told A 0 ≡ overrun_set k (overruns G (tokens k) A))
    → conflict_from (claimed_twice (column_element k G.terminals) heads sets told (length G.rules)) (columns k G) 0 G.nonterminals ≡ first_clash k G
unfolding first_clash
clash_found k G few {heads} {sets} told h s o = rows_same _ _ (columns k G) G.nonterminals same 0 G.nonterminals (omega arith)
  where
    t : ℕ
    t = G.terminals

    same : (A c : ℕ) → A < G.nonterminals → c < columns k G
        → claimed_twice (column_element k t) heads sets told (length G.rules) A c ≡ clashing G (tokens k) (A, column_string k t c)
    same A c a b =
        ap₂ ◌||◌
        (several_claims (rules_told k G h s (column_element k t c) (element_small k t c few b)) A
        ∙ ap (λ x. several (claims G (tokens k) (A, x)) G.rules) (column_string_lem k t c few b))
        (rw (o A a) (overrun_column k (overruns G (tokens k) A) t c few b))
