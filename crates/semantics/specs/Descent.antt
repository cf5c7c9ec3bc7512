-- Recursive descent by a choice of rules (document 01: the descent), without a memo table.
use Rattle.std.specs.Prelude.{◌≡◌, Bool, true, false, not, ◌&&◌, List, [], ◌∷◌, ℕ, zero, suc, ◌≤◌, ◌<◌, length, get_or, ltb, eqb}
use Rattle.std.proofs.Math.Option.{Option, none, some}
use Rattle.std.proofs.Math.ListN.{get_elem?}
use Rattle.word.specs.declared.Symbol.{Symbol}
use Rattle.word.specs.declared.Symbol.TheVariants.{Terminal, Nonterminal}
use Rattle.grammar.specs.Syntax.{Body, Rule, Grammar}
use Rattle.base.specs.Quantifiers.{any_of, all_of}
use Rattle.semantics.specs.Valuations.{pairs}
use Rattle.semantics.specs.Choices.{Choice}

-- (document 01: a name's result, failed or an end)
pub data Outcome : Type 0 where
  Failed : Outcome
  End : ℕ → Outcome

abbrev pub ends_at : Outcome → ℕ → Bool
ends_at Failed j = false
ends_at (End m) j = eqb m j

abbrev pub onward : Outcome → (ℕ → Outcome) → Outcome
onward Failed f = Failed
onward (End m) f = f m

abbrev pub guard : Bool → ℕ → Outcome
guard true e = End e
guard false e = Failed

-- for each nonterminal and place an outcome
abbrev pub Outcomes : Type 0
Outcomes = ℕ → ℕ → Outcome

unfoldable pub read : Outcomes → List ℕ → Symbol → ℕ → Outcome
read c w (Terminal a) i = guard (ltb i (length w) && eqb (get_or w i 0) a) (suc i)
read c w (Nonterminal A) i = c A i

unfoldable pub run : Outcomes → List ℕ → Body → ℕ → Outcome
run c w [] i = End i
run c w (X ∷ b) i = onward (read c w X i) (λ m. run c w b m)

-- every positive body ends at e, and no negative one does
unfoldable pub agrees : (Body → Outcome) → List Body → List Body → ℕ → Bool
agrees o ps ns e = all_of (λ b. ends_at (o b) e) ps && not (any_of (λ b. ends_at (o b) e) ns)

unfoldable pub confirm : (Body → Outcome) → List Body → List Body → ℕ → Outcome
confirm o ps ns e = guard (agrees o ps ns e) e

-- the first positive body sets the end, which is n where there is none
unfoldable pub conclude : (Body → Outcome) → ℕ → List Body → List Body → Outcome
conclude o n [] ns = confirm o [] ns n
conclude o n (b ∷ ps) ns = onward (o b) (λ e. confirm o ps ns e)

unfoldable pub obey : (Body → Outcome) → ℕ → Option Rule → Outcome
obey o n none = Failed
obey o n (some r) = conclude o n r.positives r.negatives

unfoldable pub select : Grammar → Option ℕ → Option Rule
select G none = none
select G (some q) = get_elem? G.rules q

-- what the chosen rule gives a call of A at i, where the calls that it makes give c
unfoldable pub by_choice : Grammar → Choice → List ℕ → Outcomes → Outcomes
by_choice G choice w c A i = obey (λ b. run c w b i) (length w) (select G (choice A i))

-- each call gives what its rule gives
abbrev pub Results : Grammar → Choice → List ℕ → Outcomes → Type 0
Results G choice w c = (A i : ℕ) → A < G.nonterminals → i ≤ length w → c A i ≡ by_choice G choice w c A i

-- calls at most n deep; deeper ones fail
unfoldable pub within : Grammar → Choice → List ℕ → ℕ → Outcomes
within G choice w zero A i = Failed
within G choice w (suc n) A i = by_choice G choice w (within G choice w n) A i

-- the result of calling A at i: without left recursion no call goes deeper than there are pairs
unfoldable pub descend : Grammar → Choice → List ℕ → Outcomes
descend G choice w = within G choice w (pairs G w)

-- the start called at 0 ends at the end of the input (document 01: the log is accepted)
unfoldable pub accepts : Grammar → Choice → List ℕ → Bool
accepts G choice w = ends_at (descend G choice w 0 0) (length w)
