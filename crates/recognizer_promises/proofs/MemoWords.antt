-- The words of the memo table that are lent back are those that the descent records.
use mathlib.Core.Path.{◌≡◌, refl, sym, ap, subst, ◌∙◌}
use mathlib.Core.Bool.{Bool, true, false}
use mathlib.Core.List.{List, map}
use Prim.Native.Nat.{ℕ, suc, ◌*◌, ◌/◌, ◌%◌, ◌<◌}
use native.Mathlib.Nat.{mod-lt, div-add-mod', div-lt_iff_lt-mul}
use native.Mathlib.Omega.{arith}
use lib.ListN.{length, get_or, length-map, get_or-map}
use lib.Seq.{ext_get_or}
use Rattle.base.specs.Choice.{choose}
use Rattle.grammar.specs.Codes.{uncalled_code}
use Rattle.grammar.specs.Syntax.{Grammar, WellScoped}
use Rattle.base.specs.FiniteSets.{member}
use Rattle.semantics.specs.LeftRecursion.{NoLeftRecursion}
use Rattle.lookahead.specs.declared.Lookahead.{Lookahead}
use Rattle.lookahead.specs.Lookaheads.{tokens}
use Rattle.semantics.specs.Descent.{descend}
use Rattle.semantics.specs.ComesTo.{Call, call_at, InRange}
use Rattle.semantics.specs.Calls.{Listing, same_call, all_calls, calls}
use Rattle.semantics.specs.Memo.{outcome_code, entry, memo_index, Recorded}
use Rattle.semantics.specs.inner.Memo.{EndsFit}
use Rattle.base.proofs.FiniteSets.{member_mem, mem_member}
use Rattle.semantics.proofs.descent.Memo.{memo_recorded}
use Rattle.semantics.proofs.descent.Range.{calls_equality, all_length, all_ordered}
use Rattle.semantics.proofs.Theorems.{theorems}
use Rattle.memo_table.proofs.Entries.{get_d_any}
use Rattle.recognizer_promises.specs.Answers.{choice_of}
use Rattle.recognizer_promises.specs.Memory.{memo_word, memo_words}

-- the entries of the calls in order are what the memo table records
module _ (k : Lookahead) (G : Grammar) (w : List ℕ) (scoped : WellScoped G) (free : NoLeftRecursion G) (nonempty : 0 < G.nonterminals) {m : List ℕ}
    (r : Recorded G (choice_of k G w) w m) where
  listing : Listing G (choice_of k G w) w (calls G (choice_of k G w) w)
  listing = (theorems.calls_counted G scoped free nonempty (choice_of k G w) (theorems.own_rules G (tokens k) w) w).listing

  word_is : (x : Call) → InRange G w x → entry w m x ≡ memo_word k G w x
  unfolding memo_word
  word_is x h = go (member same_call (calls G (choice_of k G w) w) x) refl
    where
      go : (b : Bool) → member same_call (calls G (choice_of k G w) w) x ≡ b
          → entry w m x ≡ choose b (outcome_code (descend G (choice_of k G w) w x.nonterminal x.place)) uncalled_code
      go true e = r.called x (listing.sound x (member_mem same_call calls_equality (calls G (choice_of k G w) w) x (rw e tt)))
      go false e = r.uncalled x h (λ c. rw e at (mem_member same_call calls_equality (calls G (choice_of k G w) w) x (listing.full x c)))

  pub words_recorded : m ≡ memo_words k G w
  unfolding memo_words
  words_recorded =
      ext_get_or uncalled_code m (map (memo_word k G w) (all_calls G w)) (r.size ∙ sym (length-map (all_calls G w) (memo_word k G w) ∙ all_length G w)) same
    where
      same : (i : ℕ) → i < length m → get_or m i uncalled_code ≡ get_or (map (memo_word k G w) (all_calls G w)) i uncalled_code
      same i h =
          let n = suc (length w) in
          let x = call_at (i / n) (i % n) in
          let z : 0 < n = omega arith in
          let d : memo_index w x ≡ i = div-add-mod' i n in
          let low : i < G.nonterminals * n = omega (arith, r.size) in
          let inside : InRange G w x = ((div-lt_iff_lt-mul z).1 low, omega (arith, mod-lt i z)) in
          let here : get_or (all_calls G w) i x ≡ x = ap (λ j. get_or (all_calls G w) j x) (sym d) ∙ all_ordered G w x x inside in
          let short : i < length (map (memo_word k G w) (all_calls G w)) =
          omega (arith, length-map (all_calls G w) (memo_word k G w), all_length G w, r.size) in
          ap (λ j. get_or m j uncalled_code) (sym d) ∙ word_is x inside ∙ ap (memo_word k G w) (sym here)
          ∙ sym (get_or-map (memo_word k G w) (all_calls G w) i x)
          ∙ get_d_any (map (memo_word k G w) (all_calls G w)) i (memo_word k G w x) uncalled_code short

-- and they are recorded: a descent records what it makes of a blank memo table
pub memo_words_recorded : (k : Lookahead) (G : Grammar) (w : List ℕ) → WellScoped G → NoLeftRecursion G → 0 < G.nonterminals → EndsFit w
    → Recorded G (choice_of k G w) w (memo_words k G w)
memo_words_recorded k G w scoped free nonempty fits =
    let m = (memo_recorded G (choice_of k G w) w scoped free (theorems.own_rules G (tokens k) w) fits nonempty).1 in
    subst (λ l. Recorded G (choice_of k G w) w l) (words_recorded k G w scoped free nonempty m) m
