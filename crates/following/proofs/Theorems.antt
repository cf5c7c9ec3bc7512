-- The theorems of specs/Theorems: an entry that the descent records is the outcome of its call, of which the local verdict tells.
use mathlib.Core.Path.{◌≡◌, sym, ap, subst, ◌∙◌}
use mathlib.Core.List.{List, ◌++◌}
use mathlib.Core.Logic.{◌↔◌}
use Prim.Native.Nat.{ℕ, ◌<◌}
use native.Mathlib.Omega.{arith}
use lib.ListN.{get_or-append}
use Rattle.grammar.specs.Codes.{failed_code, uncalled_code}
use Rattle.grammar.specs.Syntax.{Grammar}
use Rattle.base.specs.Strings.{Over, look}
use Rattle.semantics.specs.FirstFollow.{Follow}
use Rattle.semantics.specs.Choices.{table_choice}
use Rattle.semantics.specs.Descent.{Outcome, Failed, End, descend}
use Rattle.semantics.specs.ComesTo.{call_at}
use Rattle.semantics.specs.Memo.{Memo, outcome_code, memo_index, Recorded}
use Rattle.semantics.specs.inner.Memo.{EndsFit}
use Rattle.semantics.specs.Predictive.{Predictive}
use Rattle.semantics.proofs.Theorems.{theorems as semantics}
use Rattle.semantics.proofs.descent.Called.{called_range}
use Rattle.semantics.proofs.descent.Range.{index_range}
use Rattle.following.specs.Following.{MayFollow, Agrees}
use Rattle.following.specs.Theorems.{TellWhere, EntriesTell}
use Rattle.following.specs.inner.Theorems.{Theorems}
use Rattle.following.proofs.Agreeing.{agrees, begins}
use Rattle.following.proofs.Following.{may_follow}

-- an entry is a place just when the outcome is an end there
entry_end : (o : Outcome) (j : ℕ) → j < failed_code → (outcome_code o ≡ j) ↔ (o ≡ End j)
unfolding outcome_code
entry_end Failed j h = (λ e. absurd (omega (arith, e)), λ e. ap outcome_code e)
entry_end (End m) j h = (λ e. ap End e, λ e. ap outcome_code e)

module _ (G : Grammar) (k : ℕ) (p : Predictive G k) (w : List ℕ) (over : Over G.terminals w) (fits : EndsFit w)
    (m : Memo) (recorded : Recorded G (table_choice G k w) w m) (later : List ℕ) where
  by_follow : TellWhere G k w (m ++ later) (λ A j. Follow G k A (look k w j))
  by_follow v solves A i j called ij jw f =
      let x = call_at A i in
      let range = called_range G (table_choice G k w) w p.scoped p.unrecursive (semantics.own_rules G k w) p.start x called in
      let outcome = descend G (table_choice G k w) w A i in
      let verdict = (semantics.local_verdict G k p w over v solves).nonterminal A i j range.0 ij jw f in
      let ends = entry_end outcome j (omega arith) in
      let is = get_or-append m later uncalled_code (memo_index w x) (omega (arith, index_range G w x range, recorded.size)) ∙ recorded.called x called in
      (λ e. verdict.0 (ends.0 (sym is ∙ e)), λ e. is ∙ ends.1 (verdict.1 e))

  by_agreeing : TellWhere G k w (m ++ later) (λ A j. (u : List ℕ) × MayFollow G A u × Agrees k w j u)
  by_agreeing v solves A i j called ij jw f =
      by_follow v solves A i j called ij jw (subst (Follow G k A) ((agrees k w j f.0).0 f.2) (may_follow G k p A f.0 f.1))

  pub entries : EntriesTell G k w (m ++ later)
  entries = record {
    followed = by_agreeing;
    tested = by_follow;
    begun = λ e v solves A i j called ij jw f.
        by_agreeing v solves A i j called ij jw (f.0, f.1, subst (λ n. Agrees n w j f.0) (sym e) ((begins w j f.0 jw).0 f.2));
  }

pub theorems : Theorems
theorems = record {
  follow = may_follow;
  entries = entries;
  agrees = agrees;
  begins = begins;
}
