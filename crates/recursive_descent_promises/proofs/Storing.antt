-- A call is done: from what the descent with a memo table gives, for every depth that is enough, to what holds of its outcome.
use mathlib.Core.Path.{◌≡◌, sym, ap, ◌∙◌}
use mathlib.Core.List.{List}
use mathlib.Core.Option.{Option}
use Prim.Native.Nat.{ℕ, zero, suc, ◌+◌, ◌≤◌, ◌<◌}
use native.Mathlib.Omega.{arith}
use lib.Dec.{T_not, not_T, eqb, eqb→eq}
use lib.ListN.{length, get_or, set}
use borrow.Author.Tests.{ne_eqb}
use Rattle.grammar.specs.Codes.{uncalled_code}
use Rattle.grammar.specs.Syntax.{Rule, Grammar}
use Rattle.grammar.specs.Encoding.{grammar_of}
use Rattle.grammar.specs.inner.WellRead.{WellRead}
use Rattle.grammar.proofs.WellRead.{well_read}
use Rattle.semantics.specs.Choices.{Choice}
use Rattle.semantics.specs.Descent.{Outcome, select, descend}
use Rattle.semantics.specs.ComesTo.{call_at}
use Rattle.semantics.specs.inner.Memo.{EndsFit, decode}
use Rattle.semantics.specs.Memo.{outcome_code, memo_index, entry}
use Rattle.semantics.specs.inner.MemoDescent.{memoized, memo_obey, stored, memo_call}
use Rattle.semantics.proofs.descent.Range.{index_range}
use Rattle.semantics.proofs.descent.Written.{Sound}
use Rattle.semantics.proofs.descent.Memo.{transparent}
use Rattle.std.proofs.lemmas.List.{get_or_default}
use Rattle.descent_arrays.specs.inner.Arrays.{row_at}
use Rattle.recursive_descent_promises.specs.inner.Descent.{MemoSound, CallGiven, CallDone}
use Rattle.recursive_descent_promises.proofs.Running.{deep, level}

-- the two ways to say that a memo table is sound
sound_out : {choice : Choice} {words input memo : List ℕ} → MemoSound choice words input memo
    → Sound (grammar_of words) input (descend (grammar_of words) choice input) (λ _. Unit {0}) memo
sound_out {words = words} {input = input} {memo = memo} m = record {
  size = m.size;
  right = λ x h. (m.right x h.0 (λ e. T_not (eqb (entry input memo x) uncalled_code) h.1 (rw e tt)), tt);
}

sound_in : {choice : Choice} {words input memo : List ℕ} → Sound (grammar_of words) input (descend (grammar_of words) choice input) (λ _. Unit {0}) memo
    → MemoSound choice words input memo
sound_in {words = words} {input = input} {memo = memo} m = record {
  size = m.size;
  right = λ x r n. (m.right x (r, not_T (eqb (entry input memo x) uncalled_code) (λ t. n (eqb→eq (entry input memo x) uncalled_code t)))).0;
}

module _ {choice : Choice} {words choices tokens input memo : List ℕ} {A place : ℕ} (g : CallGiven choice words choices tokens input memo A place) where
  abbrev G : Grammar
  G = grammar_of words

  r : WellRead words g.given.sizes
  r = well_read words g.given.sizes g.given.read

  fits : EndsFit input
  fits = omega (arith, g.given.short)

  abbrev came : Outcome
  came = descend G choice input A place

  -- the model tells the outcome and what the memo table holds
  call_done : {o : Outcome} {entry : ℕ} {memo' : List ℕ}
      → ((n : ℕ) → level words input A place < n → deep choice words input n A place memo ≡ memoized o memo')
      → (o ≡ came → entry ≡ outcome_code came)
      → CallDone choice words input memo A place entry memo'
  call_done {o} {entry} {memo'} model told =
      let n = suc (level words input A place) in
      let l : level words input A place < n = omega arith in
      let k = transparent G choice input r.formed.scoped g.given.free g.given.own fits n A place memo g.named
      g.placed l (sound_out g.given.sound) in
      let e = model n l in
      let same : o ≡ came = sym (ap (λ x. x.outcome) e) ∙ k.0 in
      record {
        told = told same;
        model = λ n l. model n l ∙ ap (λ x. memoized x memo') same;
        sound = sound_in (rw e at k.1);
      }

module _ {choice : Choice} {words choices tokens input memo : List ℕ} {A place : ℕ} (g : CallGiven choice words choices tokens input memo A place) where
  -- the index of the call's entry
  module _ {x : ℕ} (e : x ≡ row_at choices A + place) where
    index_is : x ≡ memo_index input (call_at A place)
    index_is = e ∙ ap (λ n. n + place) (g.given.rows A g.named)

    pub index_low : x < length memo
    index_low = let l = index_range (grammar_of words) input (call_at A place) (g.named, g.placed) in omega (arith, index_is, g.given.sound.size)

    entry_is : entry input memo (call_at A place) ≡ get_or memo x 0
    entry_is = get_or_default memo (memo_index input (call_at A place)) uncalled_code 0 (omega (arith, index_low, index_is))
        ∙ ap (λ i. get_or memo i 0) (sym index_is)

    -- an entry that is written is returned
    pub call_known : (get_or memo x 0 ≡ uncalled_code → ⊥) → CallDone choice words input memo A place (get_or memo x 0) memo
    unfolding memo_call
    call_known known = call_done g model (λ _. sym entry_is ∙ g.given.sound.right (call_at A place) (g.named, g.placed) (λ e. known (sym entry_is ∙ e)))
      where
        model : (n : ℕ) → level words input A place < n → deep choice words input n A place memo ≡ memoized (decode (get_or memo x 0)) memo
        model zero l = absurd (omega arith)
        model (suc n) l = rw (entry_is, ne_eqb (get_or memo x 0) uncalled_code known)

    module _ (fresh : get_or memo x 0 ≡ uncalled_code) where
      -- a rule, or none, has been run, and its outcome's entry is stored
      pub call_stored : (r : Option Rule) → select (grammar_of words) (choice A place) ≡ r
          → {o : Outcome} {memo₁ : List ℕ} {v : ℕ}
          → ((n : ℕ) → level words input A place ≤ n → memo_obey (deep choice words input n) input r place memo ≡ memoized o memo₁)
          → v ≡ outcome_code o → CallDone choice words input memo A place v (set memo₁ x v)
      unfolding memo_call stored
      call_stored r s {o} {memo₁} {v} run c = call_done g model (λ e. c ∙ ap outcome_code e)
        where
          model : (n : ℕ) → level words input A place < n → deep choice words input n A place memo ≡ memoized o (set memo₁ x v)
          model zero l = absurd (omega arith)
          model (suc n) l = rw (entry_is, fresh, s, run n (omega arith), index_is, c)
