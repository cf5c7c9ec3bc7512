-- A grammar that passes with one token has no clash with two; and of the other refusals with two tokens none is a 9.
use Rattle.std.specs.Prelude.{Option, None, Some}
use mathlib.Core.List.{List}
use mathlib.Core.Path.{◌≡◌, sym, ◌∙◌}
use Prim.Native.Nat.{ℕ}
use native.Mathlib.Omega.{arith}
use Rattle.grammar.specs.Encoding.{grammar_of}
use Rattle.lookahead.specs.declared.Lookahead.TheVariants.{One, Two}
use Rattle.table_promises.proofs.FirstClash.{clash_absent}
use Rattle.recognizer_promises.specs.Properties.{PassedGrammar}
use Rattle.recognizer_promises.proofs.Checking.{passed_predictive}
use Rattle.recognizer_promises.proofs.GrammarErrors.{GrammarErrors}
use Rattle.recognizer_promises.proofs.RefusalErrors.{JudgeErrors, check_each, judge_each}
use Rattle.agreement.specs.Widening.{NoConflict, NeverConflicts}
use Rattle.agreement.proofs.Enough.{enough}

-- a clash is found or not
at_absent : {A c : ℕ} → ◌≡◌ {A = Option (ℕ × ℕ)} (Some (A, c)) None → ⊥
at_absent q = let z : ◌≡◌ {A = ℕ} 0 1 = cc in omega arith

module _ (words : List ℕ) (passed : PassedGrammar One words) where
  -- one token is enough for the grammar, so two are
  grammar_quiet : GrammarErrors Two words NoConflict
  grammar_quiet = record {
    sets = record {
      long = λ n. omega arith;
      heading = λ n. omega arith;
      unexpected_word = λ i h n. omega arith;
      out_of_range = λ i h n. omega arith;
      too_many_rules = λ i h n. omega arith;
      too_many_terminals = λ two n. omega arith;
      left_recursive = λ A h n. omega arith;
      unproductive = λ A h n. omega arith;
    };
    conflict = λ few small A c e.
        let free = (enough (grammar_of words) 1 2 (omega arith) (passed_predictive words passed)).clashless in
        absurd (at_absent (sym e ∙ (clash_absent Two (grammar_of words) small).1 free));
  }

  judge_quiet : JudgeErrors Two words NoConflict
  judge_quiet = record {
    short_table = λ n. omega arith;
    short_memo = λ n. omega arith;
    grammar = grammar_quiet;
    input = record { too_long = λ n. omega arith; unknown_token = λ i h n. omega arith };
  }

  pub never_conflicts : NeverConflicts Two words
  never_conflicts = record { checked = check_each judge_quiet.short_table grammar_quiet; judged = judge_each judge_quiet }
