-- Which errors an encoded grammar can give, and where: what holds of each of them holds of the one that is given.
use Rattle.std.specs.Prelude.{None, Option, Some}
use mathlib.Core.Path.{◌≡◌, refl}
use mathlib.Core.List.{List, ◌∷◌, ◌++◌}
use mathlib.Core.Option.{Option as Maybe}
use Prim.Native.Nat.{ℕ, ◌≤◌}
use Rattle.answer.specs.declared.Error.{Error}
use Rattle.answer.proofs.Faults.{OfFault, of_none, of_some, EachFault}
use Rattle.grammar.specs.Limits.{max_nonterminals}
use Rattle.grammar.specs.Encoding.{grammar_of}
use Rattle.lookahead.specs.declared.Lookahead.{Lookahead}
use Rattle.lookahead.specs.inner.Lookaheads.{alphabet}
use Rattle.table_promises.specs.Analysis.{conflict_error, clash_fault, grammar_faults}
use Rattle.table_promises.specs.Conflicts.{first_clash}
use Rattle.promises.proofs.SetsErrors.{SetsErrors, sets_each}

-- those before the table is made, and the table's: at the first entry that two rules claim
pub record GrammarErrors (k : Lookahead) (words : List ℕ) (P : Error → Type 0) : Type 0 where
  pub sets : SetsErrors k P
  pub conflict : (grammar_of words).nonterminals ≤ max_nonterminals → (grammar_of words).terminals ≤ alphabet k → (A c : ℕ)
      → first_clash k (grammar_of words) ≡ Some (A, c)
      → P (conflict_error k A c)

-- the grammar's faults, and those behind them
pub grammar_each : {k : Lookahead} {P : Error → Type 0} (words : List ℕ) → GrammarErrors k words P → (l : List (Maybe Error)) → EachFault P l
    → EachFault P (grammar_faults k words ++ l)
grammar_each {k} {P} words each l later =
    sets_each each.sets words (clash_fault k (first_clash k (grammar_of words)) ∷ l) (λ few small. (clash few small _ refl, λ _. later))
  where
    clash : (grammar_of words).nonterminals ≤ max_nonterminals → (grammar_of words).terminals ≤ alphabet k → (r : Option (ℕ × ℕ))
        → first_clash k (grammar_of words) ≡ r
        → OfFault P (clash_fault k r)
    clash few small None e = of_none P
    clash few small (Some (A, c)) e = of_some P (conflict_error k A c) (each.conflict few small A c e)
