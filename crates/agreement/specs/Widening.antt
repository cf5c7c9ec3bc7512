-- A longer lookahead tells rules apart wherever a shorter one does: a grammar that passes with one token is never refused 9 with two.
use Rattle.std.specs.Prelude.{◌≡◌, List, ℕ, take}
use Rattle.std.proofs.Math.Option.{some}
use Rattle.answer.specs.declared.Error.{Error}
use Rattle.answer.specs.Numbers.{coded}
use Rattle.grammar.specs.Syntax.{Grammar}
use Rattle.lookahead.specs.declared.Lookahead.{Lookahead}
use Rattle.semantics.specs.Families.{Claims, Overlap}
use Rattle.semantics.specs.FirstFollow.{First, Follow}
use Rattle.recognizer_promises.specs.Answers.{check_fault, judge_fault}

-- what k tokens tell, cut to j tokens, j tokens tell too: of the sets, of what a rule claims, and so of the entries that two rules claim
pub record Narrows (G : Grammar) (j k : ℕ) : Type 0 where
  pub first : (A : ℕ) (x : List ℕ) → First G k A x → First G j A (take j x)
  pub follow : (A : ℕ) (x : List ℕ) → Follow G k A x → Follow G j A (take j x)
  pub claims : (q A : ℕ) (x : List ℕ) → Claims G k (First G k) (Follow G k) q A x → Claims G j (First G j) (Follow G j) q A (take j x)
  pub overlap : (A : ℕ) (x : List ℕ) → Overlap G k (First G k) (Follow G k) A x → Overlap G j (First G j) (Follow G j) A (take j x)

-- not 9, the refusal of a clash
abbrev pub NoConflict : Error → Type 0
NoConflict e = (coded e).code ≡ 9 → ⊥

-- with a lookahead the words are never refused 9, whatever memory is lent and whatever is judged
pub record NeverConflicts (k : Lookahead) (words : List ℕ) : Type 0 where
  pub checked : (table : ℕ) (e : Error) → check_fault k table words ≡ some e → NoConflict e
  pub judged : (table memo : ℕ) (input : List ℕ) (e : Error) → judge_fault k table memo words input ≡ some e → NoConflict e
