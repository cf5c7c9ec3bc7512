-- What is reported of a nonterminal that overruns is reported in the column of the first terminal.
use mathlib.Core.Path.{◌≡◌, ap, ◌∙◌}
use mathlib.Core.Bool.{Bool, ◌&&◌}
use mathlib.Core.List.{[], ◌∷◌}
use Prim.Native.Nat.{ℕ, ◌≤◌, ◌<◌}
use native.Mathlib.Omega.{arith}
use lib.Dec.{T, eqb, ltb, eqb→eq, eqb_refl, lt→ltb}
use Rattle.base.proofs.Booleans.{and_r, and_make, both}
use Rattle.lookahead.specs.declared.Lookahead.{Lookahead}
use Rattle.lookahead.specs.declared.Lookahead.TheVariants.{One, Two}
use Rattle.lookahead.specs.inner.Lookaheads.{alphabet}
use Rattle.lookahead.specs.Lookaheads.{element_of, string_of}
use Rattle.lookahead.specs.Elements.{has}
use Rattle.lookahead.specs.inner.Operations.{terminal}
use Rattle.lookahead.proofs.Operations.{has_choose, has_terminal}
use Rattle.lookahead.proofs.Strings.{element_string, string_terminal}
use Rattle.base.specs.Strings.{same_string}
use Rattle.base.proofs.LookaheadStrings.{strings_equality}
use Rattle.claims.specs.inner.Overruns.{overrun_set}
use Rattle.columns.specs.Columns.{column_count, column_string}
use Rattle.columns.specs.inner.Columns.{column_element}
use Rattle.columns.proofs.ColumnStrings.{column_string_lem}

some_terminal : (k : Lookahead) → 0 < alphabet k
some_terminal One = omega arith
some_terminal Two = omega arith

-- the first terminal's element has its string's column
first_terminal : (k : Lookahead) (l : ℕ) → (ltb 0 (alphabet k) && eqb l (element_of k (0 ∷ []))) ≡ same_string (0 ∷ []) (string_of k l)
first_terminal k l = both (ltb 0 (alphabet k) && eqb l (element_of k (0 ∷ []))) (same_string (0 ∷ []) (string_of k l)) there back
  where
    low : 0 < alphabet k
    low = some_terminal k

    there : T (ltb 0 (alphabet k) && eqb l (element_of k (0 ∷ []))) → T (same_string (0 ∷ []) (string_of k l))
    there t =
        let e : l ≡ element_of k (0 ∷ []) = eqb→eq l (element_of k (0 ∷ [])) (and_r (ltb 0 (alphabet k)) _ t) in
        rw (e, string_terminal k 0 low) (strings_equality.itself (0 ∷ []))

    back : T (same_string (0 ∷ []) (string_of k l)) → T (ltb 0 (alphabet k) && eqb l (element_of k (0 ∷ [])))
    back t =
        let e : element_of k (0 ∷ []) ≡ l = ap (element_of k) (strings_equality.equal (0 ∷ []) (string_of k l) t) ∙ element_string k l in
        and_make (ltb 0 (alphabet k)) (eqb l (element_of k (0 ∷ []))) (lt→ltb 0 (alphabet k) low) (rw e (eqb_refl l))

pub overrun_column : (k : Lookahead) (b : Bool) (t c : ℕ) → t ≤ alphabet k → c < column_count k t
    → has (overrun_set k b) (column_element k t c) ≡ (b && same_string (0 ∷ []) (column_string k t c))
overrun_column k b t c few h =
    has_choose b (terminal k 0) (column_element k t c)
    ∙ ap (λ x. b && x) (has_terminal k 0 (column_element k t c) ∙ first_terminal k (column_element k t c)
    ∙ ap (same_string (0 ∷ [])) (column_string_lem k t c few h))
