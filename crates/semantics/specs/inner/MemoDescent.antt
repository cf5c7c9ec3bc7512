-- The descent with a memo table, as a pure function: a call looks its entry up, else runs its rule and stores the outcome.
use Rattle.std.specs.Prelude.{◌&&◌, List, [], ◌∷◌, ℕ, zero, suc, length, get_or, set, ltb, eqb}
use Rattle.std.proofs.Math.Option.{Option, none, some}
use Rattle.word.specs.declared.Symbol.TheVariants.{Terminal, Nonterminal}
use Rattle.grammar.specs.Codes.{uncalled_code}
use Rattle.grammar.specs.Syntax.{Body, Rule, Grammar}
use Rattle.base.specs.Choice.{choose}
use Rattle.semantics.specs.Valuations.{pairs}
use Rattle.semantics.specs.Choices.{Choice}
use Rattle.semantics.specs.Descent.{Outcome, Failed, End, ends_at, select}
use Rattle.semantics.specs.ComesTo.{call_at}
use Rattle.semantics.specs.Memo.{Memo, outcome_code, memo_index, entry}
use Rattle.semantics.specs.inner.Memo.{decode, blank}

-- an outcome, and the memo after it
pub record Memoized : Type 0 where
  pub outcome : Outcome
  pub memo : Memo

abbrev pub memoized : Outcome → Memo → Memoized
memoized o m = record { outcome = o; memo = m }

unfoldable pub and_then : Outcome → Memo → (ℕ → Memo → Memoized) → Memoized
and_then Failed m f = memoized Failed m
and_then (End e) m f = f e m

abbrev pub MemoCalls : Type 0
MemoCalls = ℕ → ℕ → Memo → Memoized

unfoldable pub memo_run : MemoCalls → List ℕ → Body → ℕ → Memo → Memoized
memo_run M w [] i m = memoized (End i) m
memo_run M w (Terminal a ∷ b) i m = choose (ltb i (length w) && eqb (get_or w i 0) a) (memo_run M w b (suc i) m) (memoized Failed m)
memo_run M w (Nonterminal A ∷ b) i m = and_then (M A i m).outcome (M A i m).memo (λ j m'. memo_run M w b j m')

unfoldable pub memo_negatives : MemoCalls → List ℕ → ℕ → ℕ → List Body → Memo → Memoized
memo_negatives M w i e [] m = memoized (End e) m
memo_negatives M w i e (b ∷ ns) m =
    let r = memo_run M w b i m in
    choose (ends_at r.outcome e) (memoized Failed r.memo) (memo_negatives M w i e ns r.memo)

unfoldable pub memo_positives : MemoCalls → List ℕ → ℕ → ℕ → List Body → List Body → Memo → Memoized
memo_positives M w i e [] ns m = memo_negatives M w i e ns m
memo_positives M w i e (b ∷ ps) ns m =
    let r = memo_run M w b i m in
    choose (ends_at r.outcome e) (memo_positives M w i e ps ns r.memo) (memoized Failed r.memo)

unfoldable pub memo_rule : MemoCalls → List ℕ → ℕ → List Body → List Body → ℕ → Memo → Memoized
memo_rule M w n [] ns i m = memo_negatives M w i n ns m
memo_rule M w n (b ∷ ps) ns i m =
    let r = memo_run M w b i m in
    and_then r.outcome r.memo (λ e m'. memo_positives M w i e ps ns m')

unfoldable pub memo_obey : MemoCalls → List ℕ → Option Rule → ℕ → Memo → Memoized
memo_obey M w none i m = memoized Failed m
memo_obey M w (some r) i m = memo_rule M w (length w) r.positives r.negatives i m

unfoldable pub stored : ℕ → Memoized → Memoized
stored x r = memoized r.outcome (set r.memo x (outcome_code r.outcome))

-- a nonterminal called at i, at most n calls deep
unfoldable pub memo_call : Grammar → Choice → List ℕ → ℕ → MemoCalls
memo_call G choice w zero A i m = memoized Failed m
memo_call G choice w (suc n) A i m =
    choose (eqb (entry w m (call_at A i)) uncalled_code)
    (stored (memo_index w (call_at A i)) (memo_obey (memo_call G choice w n) w (select G (choice A i)) i m))
    (memoized (decode (entry w m (call_at A i))) m)

-- the start called at 0
unfoldable pub memo_start : Grammar → Choice → List ℕ → Memoized
memo_start G choice w = memo_call G choice w (pairs G w) 0 0 (blank G w)
