-- A reading that finds a fault: how far the words before it lead, and what stands at it.
use Rattle.std.specs.Prelude.{Err, Ok, Result}
use mathlib.Core.Path.{◌≡◌, refl, sym, ◌∙◌}
use mathlib.Core.Bool.{true, false}
use mathlib.Core.List.{List, [], ◌∷◌, ◌++◌}
use Prim.Native.Nat.{ℕ, suc, ◌+◌, ◌≤◌, ◌<◌}
use native.Mathlib.Omega.{arith}
use lib.ListN.{length, take, get_or}
use borrow.Author.Tests.{lt-leb}
use Rattle.answer.specs.declared.Error.{Error}
use Rattle.answer.specs.declared.Error.TheVariants.{UnexpectedWord, OutOfRange, TooManyRules}
use Rattle.word.specs.declared.Word.{Word}
use Rattle.word.specs.declared.Word.TheVariants.{Positive}
use Rattle.base.specs.Choice.{choose}
use Rattle.word.specs.Words.{decoded}
use Rattle.grammar.specs.declared.reading.State.{State}
use Rattle.grammar.specs.declared.reading.State.TheVariants.{Before, Opened, InPositive, InNegative, Closed}
use Rattle.grammar.specs.declared.reading.Sizes.{Sizes}
use Rattle.grammar.specs.declared.reading.Progress.{Progress}
use Rattle.grammar.specs.Limits.{max_rules}
use Rattle.grammar.specs.Reading.{row, progress, counted, stepped, on_step, finished, scan}
use Rattle.encoding.specs.Encode.{positive_word, end_word}
use Rattle.grammar.proofs.Scanning.{stepped_rule, stepped_other, Stepped, stepping}
use Rattle.grammar.proofs.WellFormed.{faulty, step_passed}
use Rattle.encoding.proofs.Words.{decoded_positive}
use Rattle.encoding.proofs.EncodingRead.{Goes, goes_word, closed_goes, end_goes}

-- from every index there is a way to the end, of no more than a positive and the end
abbrev pub completion : State → List ℕ
completion Before = end_word ∷ []
completion Opened = positive_word ∷ end_word ∷ []
completion InPositive = end_word ∷ []
completion InNegative = end_word ∷ []
completion Closed = []

pub complete : (s : State) (y : Sizes) → Goes (progress s y) (completion s) y
complete Before y = end_goes Before y refl
complete Opened y = goes_word positive_word Positive Opened y y (end_word ∷ []) decoded_positive refl refl refl (end_goes InPositive y refl)
complete InPositive y = end_goes InPositive y refl
complete InNegative y = end_goes InNegative y refl
complete Closed y = closed_goes y

pub err_same : {T : Type 0} (x y : Error) → ◌≡◌ {A = Result T Error} (Err x) (Err y) → y ≡ x
err_same x y e = cc

-- a word that goes on does so wherever it stands
pub goes_anywhere : (w : Word) (p q : Progress) (at j : ℕ) → stepped w p at ≡ Ok q → stepped w p j ≡ Ok q
unfolding counted
goes_anywhere w p q at j e = go (stepped w p at) (stepping w p at) e
  where
    go : (t : Result Progress Error) → Stepped w p at t → t ≡ Ok q → stepped w p j ≡ Ok q
    go _ (Stepped.unexpected a) g = absurd (faulty (UnexpectedWord at) q g)
    go _ (Stepped.out_of_range a i) g = absurd (faulty (OutOfRange at) q g)
    go _ (Stepped.too_many a i b l) g = absurd (faulty (TooManyRules at) q g)
    go _ (Stepped.rule a i b l) g = rw (stepped_rule w p j a i b, lt-leb max_rules p.sizes.rules l) g
    go _ (Stepped.other a i b) g = rw (stepped_other w p j a i b) g

end_missing : (p : Progress) (at : ℕ) (x : Error) → finished p at ≡ Err x → x ≡ UnexpectedWord at
unfolding finished
end_missing p at x e = go p.state e
  where
    go : (s : State) → choose (row false false false false true s) (Ok p.sizes) (Err (UnexpectedWord at)) ≡ Err x → x ≡ UnexpectedWord at
    go Before e = err_same (UnexpectedWord at) x e
    go Opened e = err_same (UnexpectedWord at) x e
    go InPositive e = err_same (UnexpectedWord at) x e
    go InNegative e = err_same (UnexpectedWord at) x e
    go Closed e = absurd (faulty x p.sizes (sym e))

-- before the fault there are so many words, which lead to `come` whatever follows them
pub record Faults (p : Progress) (at : ℕ) (ws : List ℕ) (x : Error) : Type 0 where
  pub before : ℕ
  pub come : Progress
  pub through : (us : List ℕ) (j : ℕ) → scan p j (take before ws ++ us) ≡ scan come (j + before) us
  pub nonterminals : come.sizes.nonterminals ≡ p.sizes.nonterminals
  pub terminals : come.sizes.terminals ≡ p.sizes.terminals
  pub among : before ≤ length ws
  pub word : before < length ws → stepped (decoded (get_or ws before 0)) come (at + before) ≡ Err x
  pub end : before ≡ length ws → x ≡ UnexpectedWord (at + before)

pub faults : (p : Progress) (at : ℕ) (ws : List ℕ) (x : Error) → scan p at ws ≡ Err x → Faults p at ws x
unfolding scan on_step
faults p at [] x e = record {
  before = 0;
  come = p;
  through = λ us j. let n : j + 0 ≡ j = omega arith in rw n;
  nonterminals = refl;
  terminals = refl;
  among = omega arith;
  word = λ l. absurd (omega arith);
  end = λ _. let n : at + 0 ≡ at = omega arith in rw n (end_missing p at x e);
}
faults p at (w ∷ ws) x e = go (stepped (decoded w) p at) refl e (λ q. faults q (suc at) ws x)
  where
    go : (t : Result Progress Error) → stepped (decoded w) p at ≡ t → on_step t (λ q. scan q (suc at) ws) ≡ Err x
        → ((q : Progress) → scan q (suc at) ws ≡ Err x → Faults q (suc at) ws x) → Faults p at (w ∷ ws) x
    go (Err y) t e f = record {
      before = 0;
      come = p;
      through = λ us j. let n : j + 0 ≡ j = omega arith in rw n;
      nonterminals = refl;
      terminals = refl;
      among = omega arith;
      word = λ _. let n : at + 0 ≡ at = omega arith in rw (n, err_same y x e) t;
      end = λ e. absurd (omega arith);
    }
    go (Ok q) t e f =
        let h = f q e in
        let k = step_passed (decoded w) p q at t in
        let n : at + suc h.before ≡ suc at + h.before = omega arith in
        record {
          before = suc h.before;
          come = h.come;
          through = λ us j. let n : j + suc h.before ≡ suc j + h.before = omega arith in
              rw (n, goes_anywhere (decoded w) p q at j t) (h.through us (suc j));
          nonterminals = h.nonterminals ∙ k.nonterminals;
          terminals = h.terminals ∙ k.terminals;
          among = omega (arith, h.among);
          word = λ l. rw n (h.word (omega arith));
          end = λ e. rw n (h.end (omega arith));
        }
