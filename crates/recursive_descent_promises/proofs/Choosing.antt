-- What a call reads in the arrays: its entry and its rule.
use mathlib.Core.Path.{◌≡◌, ◌∙◌}
use mathlib.Core.List.{List}
use Prim.Native.Nat.{ℕ, ◌+◌, ◌/◌, ◌≤◌, ◌<◌}
use native.Mathlib.Omega.{arith}
use lib.ListN.{length, get_or}
use Rattle.grammar.specs.Limits.{max_nonterminals, max_tokens}
use Rattle.grammar.proofs.WellRead.{well_read}
use Rattle.semantics.specs.Choices.{Choice}
use Rattle.descent_arrays.specs.inner.Arrays.{row_column, column_weight, choice_at, row_at, first_at}
use Rattle.recursive_descent_promises.specs.inner.Descent.{ChoiceGiven, ArraysGiven, CallGiven}

pub token_low : {choice : Choice} {words choices tokens input memo : List ℕ} → ArraysGiven choice words choices tokens input memo
    → {place : ℕ} → place ≤ length input → place ≤ max_tokens
token_low g h = omega (arith, g.short)

module _ {choice : Choice} {words choices tokens input memo : List ℕ} {A place : ℕ} (g : CallGiven choice words choices tokens input memo A place) where
  few : A < max_nonterminals
  few =
      let r = well_read words g.given.sizes g.given.read in
      omega (arith, g.named, r.nonterminals, r.few_nonterminals)

  pub row_given : ChoiceGiven A row_column
  row_given = record { named = few; inside = omega arith }

  pub column_given : {token column : ℕ} → token ≡ get_or tokens place 0 → column ≡ token / column_weight → ChoiceGiven A column
  column_given t c = record { named = few; inside = rw (c, t) (omega (arith, g.given.columns place g.placed)) }

  -- they are what the arrays hold of it
  pub entry_is : {row entry : ℕ} → row ≡ choice_at choices A row_column → entry ≡ row + place → entry ≡ row_at choices A + place
  unfolding row_at
  entry_is r e = e ∙ rw r

  pub first_is : {token column first : ℕ} → token ≡ get_or tokens place 0 → column ≡ token / column_weight → first ≡ choice_at choices A column
      → first ≡ first_at choices tokens A place
  unfolding first_at
  first_is t c f = f ∙ rw (c, t)
