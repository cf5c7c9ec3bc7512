-- What the entries of a memo table tell of the spans of an input.
use Rattle.std.specs.Prelude.{◌≡◌, true, List, ◌↔◌, ℕ, ◌≤◌, length}
use Rattle.grammar.specs.Syntax.{Grammar}
use Rattle.semantics.specs.Valuations.{Valuation, Solves}
use Rattle.base.specs.Strings.{look}
use Rattle.semantics.specs.FirstFollow.{Follow}
use Rattle.semantics.specs.Choices.{table_choice}
use Rattle.semantics.specs.ComesTo.{call_at}
use Rattle.semantics.specs.Calls.{Called}
use Rattle.semantics.specs.Memo.{Memo, entry}
use Rattle.following.specs.Following.{MayFollow, Agrees, Begins}

-- for a call of A at i, and a place j, not before i, where Next holds: the entry is j exactly when the solution gives the span from i to j to A
abbrev pub TellWhere : Grammar → ℕ → List ℕ → Memo → (ℕ → ℕ → Type 0) → Type 0
TellWhere G k w m Next =
    (v : Valuation) → Solves G w v → (A i j : ℕ) → Called G (table_choice G k w) w (call_at A i) → i ≤ j → j ≤ length w → Next A j
    → (entry w m (call_at A i) ≡ j) ↔ (v A i j ≡ true)

-- what the entries of a memo table are worth, where k tokens are looked at: they tell what belongs wherever some sequence that may follow the
-- nonterminal agrees with what comes next. The test of the FOLLOW set holds there too (`follow`), and where it holds an entry is worth as much
pub record EntriesTell (G : Grammar) (k : ℕ) (w : List ℕ) (m : Memo) : Type 0 where
  pub followed : TellWhere G k w m (λ A j. (u : List ℕ) × MayFollow G A u × Agrees k w j u)
  pub tested : TellWhere G k w m (λ A j. Follow G k A (look k w j))
  -- the same as `followed` with one token, in document 02's words
  pub begun : k ≡ 1 → TellWhere G k w m (λ A j. (u : List ℕ) × MayFollow G A u × Begins w j u)
