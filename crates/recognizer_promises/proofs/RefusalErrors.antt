-- Which errors checking and judging can give, and where: what holds of each of them holds of the one that is given.
use mathlib.Core.Path.{◌≡◌, refl, sym, ap, ◌∙◌}
use mathlib.Core.Bool.{Bool, true, false}
use mathlib.Core.List.{List, [], ◌∷◌, ◌++◌}
use mathlib.Core.Option.{Option, none, some}
use Prim.Native.Nat.{ℕ, ◌^◌}
use native.Mathlib.Omega.{arith}
use lib.Dec.{ltb}
use lib.ListN.{length}
use Rattle.answer.specs.declared.Error.{Error}
use Rattle.answer.specs.declared.Error.TheVariants.{TableTooShort, MemoTooShort, BufferTooShort, InputTooLong, TooManyInputs}
use Rattle.answer.specs.declared.Calls.{Calls}
use Rattle.answer.specs.declared.Answer.{Answer}
use Rattle.answer.specs.declared.Answer.TheVariants.{Refused, Rejected, Accepted}
use Rattle.answer.specs.Faults.{fault_if, refused_or}
use Rattle.answer.proofs.Apart.{refusal_number}
use Rattle.answer.proofs.Faults.{OfFault, of_if, first_each}
use Rattle.base.specs.Choice.{choose}
use Rattle.grammar.specs.Limits.{max_tokens, max_table_words, max_memo_entries}
use Rattle.grammar.specs.Encoding.{grammar_of}
use Rattle.lookahead.specs.declared.Lookahead.{Lookahead}
use Rattle.lookahead.specs.declared.Lookahead.TheVariants.{One}
use Rattle.lookahead.specs.Lookaheads.{tokens}
use Rattle.semantics.specs.Choices.{table_choice}
use Rattle.semantics.specs.Descent.{accepts}
use Rattle.inputs.specs.Inputs.{max_inputs}
use Rattle.table_promises.specs.Layout.{table_room}
use Rattle.table_promises.specs.Analysis.{grammar_faults}
use Rattle.recognizer_promises.specs.Answers.{table_too_short, check_fault, input_faults, judge_fault, calls_of, verdict_of}
use Rattle.recognizer_promises.specs.Properties.{Judges}
use Rattle.promises.specs.Lengths.{length_faults}
use Rattle.recognizer_promises.specs.CostliestInput.{costliest_fault}
use Rattle.recognizer_promises.proofs.GrammarErrors.{GrammarErrors, grammar_each}
use Rattle.promises.proofs.InputErrors.{InputErrors, input_each}

-- the errors of judging
pub record JudgeErrors (k : Lookahead) (words : List ℕ) (P : Error → Type 0) : Type 0 where
  pub short_table : P (table_too_short k)
  pub short_memo : P MemoTooShort
  pub grammar : GrammarErrors k words P
  pub input : InputErrors P

module _ {k : Lookahead} {words : List ℕ} {P : Error → Type 0} where
  pub check_each : P (table_too_short k) → GrammarErrors k words P → (table : ℕ) → OfFault P (check_fault k table words)
  unfolding check_fault
  check_each short each table =
      first_each P (fault_if (ltb table (table_room k)) (table_too_short k) ∷ grammar_faults k words)
      (of_if P (ltb table (table_room k)) (table_too_short k) short, λ _. grammar_each words each [] tt)

  pub judge_each : JudgeErrors k words P → (table memo : ℕ) (input : List ℕ) → OfFault P (judge_fault k table memo words input)
  unfolding judge_fault
  judge_each each table memo input =
      let n = (grammar_of words).terminals in
      first_each P
      (fault_if (ltb table (table_room k)) (table_too_short k)
      ∷ fault_if (ltb memo max_memo_entries) MemoTooShort
      ∷ grammar_faults k words
      ++ input_faults n input) (
        of_if P (ltb table (table_room k)) (table_too_short k) each.short_table,
        λ _. (
          of_if P (ltb memo max_memo_entries) MemoTooShort each.short_memo,
          λ _. grammar_each words each.grammar (input_faults n input) (input_each each.input max_tokens n input (omega arith)),
        ),
      )

  -- a judgement that is a refusal
  pub refused_each : JudgeErrors k words P → {input table memo table' memo' : List ℕ} {a : Answer}
      → Judges k words input table memo a table' memo' → (x : Error)
      → a ≡ Refused x → P x
  unfolding verdict_of
  refused_each each {input} {table} {memo} j x e =
      go (judge_fault k (length table) (length memo) words input) (judge_each each (length table) (length memo) input)
      (accepts (grammar_of words) (table_choice (grammar_of words) (tokens k) input) input) (sym j.leaves.answer ∙ e)
    where
      c : Calls
      c = calls_of k (grammar_of words) input

      go : (f : Option Error) → OfFault P f → (b : Bool) → refused_or f (choose b (Accepted c) (Rejected c)) ≡ Refused x → P x
      go none h true q = absurd (omega (arith, ap refusal_number q))
      go none h false q = absurd (omega (arith, ap refusal_number q))
      go (some y) h b q = let z : y ≡ x = cc in rw (← z) (h y refl)

pub costliest_each : {words : List ℕ} {P : Error → Type 0} → JudgeErrors One words P → P BufferTooShort → P TooManyInputs → (log table memo k : ℕ)
    → OfFault P (costliest_fault log table memo words k)
unfolding costliest_fault
costliest_each {words} {P} each short many log table memo k =
    let n = (grammar_of words).terminals in
    first_each P
    (fault_if (ltb table max_table_words) TableTooShort
    ∷ fault_if (ltb memo max_memo_entries) MemoTooShort
    ∷ fault_if (ltb log max_tokens) BufferTooShort
    ∷ grammar_faults One words
    ++ length_faults n k) (
      of_if P (ltb table max_table_words) TableTooShort each.short_table,
      λ _. (
        of_if P (ltb memo max_memo_entries) MemoTooShort each.short_memo,
        λ _. (
          of_if P (ltb log max_tokens) BufferTooShort short,
          λ _. grammar_each words each.grammar (length_faults n k) (
            of_if P (ltb max_tokens k) InputTooLong each.input.too_long,
            λ _. (of_if P (ltb max_inputs (n ^ k)) TooManyInputs many, λ _. tt),
          ),
        ),
      ),
    )
