-- The memo table (document 01: notebook): its entries, and what they are once the descent has ended.
use Rattle.std.specs.Prelude.{◌≡◌, Bool, not, List, ℕ, suc, ◌+◌, ◌*◌, length, get_or, eqb}
use Rattle.grammar.specs.Codes.{failed_code, uncalled_code}
use Rattle.grammar.specs.Syntax.{Grammar}
use Rattle.base.specs.FiniteSets.{keep}
use Rattle.semantics.specs.Valuations.{pairs}
use Rattle.semantics.specs.Choices.{Choice}
use Rattle.semantics.specs.Descent.{Outcome, Failed, End, descend}
use Rattle.semantics.specs.ComesTo.{Call, InRange}
use Rattle.semantics.specs.Calls.{Called, all_calls, calls}

-- an entry for each pair of a nonterminal and a place
abbrev pub Memo : Type 0
Memo = List ℕ

unfoldable pub outcome_code : Outcome → ℕ
outcome_code Failed = failed_code
outcome_code (End e) = e

-- a row for each nonterminal, with an entry for each place (document 01: name × (events + 1) + place)
abbrev pub memo_index : List ℕ → Call → ℕ
memo_index w x = x.nonterminal * suc (length w) + x.place

abbrev pub entry : List ℕ → Memo → Call → ℕ
entry w m x = get_or m (memo_index w x) uncalled_code

-- the call has an entry
abbrev pub written : List ℕ → Memo → Call → Bool
written w m x = not (eqb (entry w m x) uncalled_code)

-- the memo holds the results of the calls made and nothing else, and so a scan of it gives the calls
pub record Recorded (G : Grammar) (choice : Choice) (w : List ℕ) (m : Memo) : Type 0 where
  pub size : length m ≡ pairs G w
  pub called : (x : Call) → Called G choice w x → entry w m x ≡ outcome_code (descend G choice w x.nonterminal x.place)
  pub uncalled : (x : Call) → InRange G w x → (Called G choice w x → ⊥) → entry w m x ≡ uncalled_code
  pub scanned : keep (written w m) (all_calls G w) ≡ calls G choice w
