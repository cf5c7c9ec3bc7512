-- A column's string, its element, and its place among the strings.
use mathlib.Core.Path.{◌≡◌, refl, sym, ap, ◌∙◌}
use mathlib.Core.List.{List, [], ◌∷◌, ◌++◌, map}
use Prim.Native.Nat.{ℕ, zero, suc, ◌+◌, ◌≤◌, ◌<◌}
use native.Mathlib.Decide.{ℕ_discrete}
use native.Mathlib.Omega.{arith}
use lib.Dec.{eqb, ltb, ltb→lt}
use borrow.Author.Tests.{eq-eqb, ne_eqb}
use Rattle.base.specs.Choice.{choose}
use Rattle.base.specs.Quantifiers.{all_of}
use Rattle.base.proofs.Booleans.{and_l}
use Rattle.grammar.specs.Limits.{max_columns_of_two}
use Rattle.lookahead.specs.declared.Lookahead.{Lookahead}
use Rattle.lookahead.specs.declared.Lookahead.TheVariants.{One, Two}
use Rattle.lookahead.specs.Lookaheads.{tokens, elements, nothing, string_of}
use Rattle.lookahead.specs.inner.Lookaheads.{alphabet}
use Rattle.lookahead.proofs.Strings.{element_string, string_element, element_below, over_wider}
use Rattle.base.specs.FiniteSets.{numbers_from, numbers_below}
use Rattle.base.specs.Strings.{strings, Lookahead as Looked}
use Rattle.semantics.specs.Claims.{column}
use Rattle.semantics.proofs.families.Columns.{strings_columns}
use Rattle.columns.specs.Columns.{column_count, column_string, column_of}
use Rattle.columns.specs.inner.Columns.{column_element}

-- a row has columns, and no more than there is room for
pub some_column : (k : Lookahead) (t : ℕ) → 0 < column_count k t
some_column One t = omega arith
some_column Two t = omega arith

pub column_count_lem : (k : Lookahead) (t : ℕ) → t ≤ alphabet k → column_count k t ≤ max_columns_of_two
column_count_lem One t few = omega arith
column_count_lem Two t few = omega arith

-- the string of a column is that of the column's element, and its column is the column
pub column_string_lem : (k : Lookahead) (t c : ℕ) → t ≤ alphabet k → c < column_count k t → string_of k (column_element k t c) ≡ column_string k t c
unfolding string_of column_element column_string
column_string_lem One t c few h = go (ℕ_discrete c t)
  where
    go : Dec (c ≡ t) → choose (eqb (choose (eqb c t) (nothing One) c) (nothing One)) [] (choose (eqb c t) (nothing One) c ∷ []) ≡ choose (eqb c t) [] (c ∷ [])
    go (yes e) = rw (eq-eqb c t e)
    go (no ne) = rw (ne_eqb c t ne, ne_eqb c (nothing One) (λ e. omega arith))
column_string_lem Two t c few h = refl

pub element_small : (k : Lookahead) (t c : ℕ) → t ≤ alphabet k → c < column_count k t → column_element k t c < elements k
unfolding column_element
element_small One t c few h = go (ℕ_discrete c t)
  where
    go : Dec (c ≡ t) → choose (eqb c t) (nothing One) c < elements One
    go (yes e) = rw (eq-eqb c t e) (omega arith)
    go (no ne) = rw (ne_eqb c t ne) (omega arith)
element_small Two t c few h = h

pub column_back : (k : Lookahead) (t c : ℕ) → column_of k t (column_string k t c) ≡ c
unfolding column_string
column_back One t c = go (ℕ_discrete c t)
  where
    go : Dec (c ≡ t) → column t (choose (eqb c t) [] (c ∷ [])) ≡ c
    go (yes e) = rw (eq-eqb c t e) (sym e)
    go (no ne) = rw (ne_eqb c t ne)
column_back Two t c = element_string Two c

-- a string stands in its column
pub column_in : (k : Lookahead) (t : ℕ) (x : List ℕ) → t ≤ alphabet k → Looked (tokens k) t x → column_of k t x < column_count k t
unfolding all_of
column_in One t [] few h = omega arith
column_in One t (a ∷ x) few h = omega (arith, ltb→lt a t (and_l (ltb a t) _ h.1))
column_in Two t x few h = element_below Two x (h.0, over_wider t (alphabet Two) x few h.1)

pub string_column : (k : Lookahead) (t : ℕ) (x : List ℕ) → t ≤ alphabet k → Looked (tokens k) t x → column_string k t (column_of k t x) ≡ x
unfolding column_string all_of
string_column One t [] few h = rw (eq-eqb t t refl)
string_column One t (a ∷ []) few h = rw (ne_eqb a t (λ e. omega (arith, ltb→lt a t (and_l (ltb a t) _ h.1))))
string_column One t (a ∷ b ∷ x) few h = absurd (omega (arith, h.0))
string_column Two t x few h = string_element Two x (h.0, over_wider t (alphabet Two) x few h.1)

-- with one token of lookahead the strings are those of the columns, in order
columns_from : (t c n : ℕ) → c + n ≡ t → map (λ a. a ∷ []) (numbers_from c n) ++ ([] ∷ []) ≡ map (column_string One t) (numbers_from c (suc n))
unfolding numbers_from column_string
columns_from t c zero e = rw (eq-eqb c t (omega arith))
columns_from t c (suc n) e = rw (ne_eqb c t (λ d. omega arith)) (ap (λ l. (c ∷ []) ∷ l) (columns_from t (suc c) n (omega arith)))

pub columns_strings : (t : ℕ) → strings 1 t ≡ map (column_string One t) (numbers_below (suc t))
unfolding numbers_below
columns_strings t = strings_columns t ∙ columns_from t 0 t (omega arith)
