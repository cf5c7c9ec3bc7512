-- Judging itself refuses with no code over 13, so never with one of a client's.
use mathlib.Core.Path.{◌≡◌, ap}
use mathlib.Core.List.{List}
use Prim.Native.Nat.{ℕ, ◌≤◌, ◌<◌}
use native.Mathlib.Omega.{arith}
use Rattle.answer.specs.declared.Error.{Error}
use Rattle.answer.specs.declared.Answer.{Answer}
use Rattle.answer.specs.declared.Answer.TheVariants.{Refused}
use Rattle.answer.specs.Numbers.{coded}
use Rattle.lookahead.specs.declared.Lookahead.TheVariants.{One}
use Rattle.lookahead.specs.Lookaheads.{tokens}
use Rattle.recognizer_promises.specs.Properties.{Judges}
use Rattle.recognizer_promises.proofs.RefusalErrors.{JudgeErrors, refused_each}

abbrev LowCode : Error → Type 0
LowCode e = (coded e).code ≤ 13

judge_low : (words : List ℕ) → JudgeErrors One words LowCode
judge_low words = record {
  short_table = omega arith;
  short_memo = omega arith;
  grammar = record {
    sets = record {
      long = omega arith;
      heading = omega arith;
      unexpected_word = λ i h. omega arith;
      out_of_range = λ i h. omega arith;
      too_many_rules = λ i h. omega arith;
      too_many_terminals = λ two. absurd (omega (arith, ap tokens two));
      left_recursive = λ A h. omega arith;
      unproductive = λ A h. omega arith;
    };
    conflict = λ few small A c e. omega arith;
  };
  input = record { too_long = omega arith; unknown_token = λ i h. omega arith };
}

pub never_judged : (x : Error) → 13 < (coded x).code → {words input table memo table' memo' : List ℕ} {a : Answer}
    → Judges One words input table memo a table' memo' → a ≡ Refused x → ⊥
never_judged x high {words} j e = omega (arith, refused_each (judge_low words) j x e)
