-- What this crate proves, on one page. All of it is given in proofs/Theorems.
use Rattle.std.specs.Prelude.{◌≡◌, List, ◌++◌, ◌↔◌, ℕ, ◌≤◌, length, take}
use Rattle.grammar.specs.Syntax.{Grammar}
use Rattle.base.specs.Strings.{look, Over}
use Rattle.semantics.specs.FirstFollow.{Follow}
use Rattle.semantics.specs.Choices.{table_choice}
use Rattle.semantics.specs.Memo.{Memo, Recorded}
use Rattle.semantics.specs.inner.Memo.{EndsFit}
use Rattle.semantics.specs.Predictive.{Predictive}
use Rattle.following.specs.Following.{MayFollow, Agrees, Begins}
use Rattle.following.specs.Theorems.{EntriesTell}

pub record Theorems : Type 0 where
  -- what may follow a nonterminal begins with a string of its FOLLOW set
  pub follow : (G : Grammar) (k : ℕ) → Predictive G k → (A : ℕ) (u : List ℕ) → MayFollow G A u → Follow G k A (take k u)
  -- the entries that the descent records tell, whatever follows them
  pub entries : (G : Grammar) (k : ℕ) → Predictive G k → (w : List ℕ) → Over G.terminals w → EndsFit w
      → (m : Memo) → Recorded G (table_choice G k w) w m → (later : List ℕ) → EntriesTell G k w (m ++ later)
  -- to agree is to have the same lookahead string
  pub agrees : (k : ℕ) (w : List ℕ) (j : ℕ) (u : List ℕ) → Agrees k w j u ↔ (take k u ≡ look k w j)
  -- with one token it is what document 02 says of that; of two tokens `Agrees` has its own words
  pub begins : (w : List ℕ) (j : ℕ) (u : List ℕ) → j ≤ length w → Begins w j u ↔ Agrees 1 w j u
