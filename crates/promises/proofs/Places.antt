-- An answer names the nonterminal of 8 or 13 just where it is the lowest that left-reaches itself, or then the lowest whose first set is empty.
use Rattle.std.specs.Prelude.{None, Option, Some}
use mathlib.Core.Path.{◌≡◌, refl, sym, ap, ◌∙◌}
use mathlib.Core.Bool.{Bool, true, false}
use mathlib.Core.List.{List, [], ◌∷◌}
use mathlib.Core.Logic.{◌↔◌}
use mathlib.Core.Option.{Option as Maybe, none, some, some-ne-none}
use Prim.Native.Nat.{ℕ}
use native.Mathlib.Omega.{arith}
use Rattle.answer.proofs.Apart.{answer_number_lem, fault_number_lem, refusal_number}
use Rattle.answer.proofs.Faults.{none_some}
use Rattle.answer.specs.declared.Error.{Error}
use Rattle.answer.specs.declared.Error.TheVariants.{InputTooLong, LeftRecursive, TooManyInputs, Unproductive}
use Rattle.answer.specs.declared.Answer.{Answer}
use Rattle.answer.specs.declared.Answer.TheVariants.{Refused, Passed, Accepted, Rejected}
use Rattle.answer.specs.declared.Calls.{Calls}
use Rattle.answer.specs.Numbers.{coded}
use Rattle.answer.specs.Faults.{fault_if, first_fault, refused_or}
use Rattle.base.specs.Choice.{choose}
use Rattle.event.specs.Unknown.{unknown_fault}
use Rattle.grammar.specs.Syntax.{Grammar, WellScoped}
use Rattle.lookahead.specs.declared.Lookahead.{Lookahead}
use Rattle.lookahead.specs.Lookaheads.{tokens}
use Rattle.semantics.specs.LeftRecursion.{lowest_left_recursive, NoLeftRecursion}
use Rattle.semantics.specs.Productive.{lowest_unproductive}
use Rattle.semantics.proofs.Theorems.{theorems}
use Rattle.families.specs.Analysis.{left_fault, unproductive_fault}
use Rattle.promises.specs.Places.{LowestRecursive, LowestUnproductive}

-- not 10, 11 or 22, the refusals of an input and of a length
pub record OfGrammar (e : Error) : Type 0 where
  pub length : (coded e).code ≡ 10 → ⊥
  pub token : (coded e).code ≡ 11 → ⊥
  pub inputs : (coded e).code ≡ 22 → ⊥

-- an answer refuses with an error of the grammar exactly when the grammar's fault is that one
abbrev pub Tells : Maybe Error → Answer → Type 0
Tells f r = (e : Error) → OfGrammar e → (r ≡ Refused e) ↔ (f ≡ some e)

refused_tells : {x : Error} {r : Answer} → r ≡ Refused x → Tells (some x) r
refused_tells {x} q e g = (λ p. let z : x ≡ e = cc in ap some z, λ p. let z : x ≡ e = cc in q ∙ ap Refused z)

-- an answer that is no refusal
silent : {r a : Answer} → r ≡ a → refusal_number a ≡ 0 → Tells none r
silent q h e g = (λ p. absurd (omega (arith, ap refusal_number (sym q ∙ p), h)), λ p. absurd (none_some p))

-- what checking answers, by the grammar's fault
pub check_tells : (f : Maybe Error) {r : Answer} → r ≡ refused_or f Passed → Tells f r
check_tells (some e) q = refused_tells q
check_tells none q = silent q refl

-- what judging answers, by the grammar's fault and what is found of the input
pub judge_tells : (f : Maybe Error) (long : Bool) (u : Option ℕ) (b : Bool) (c : Calls) {r : Answer}
    → r ≡ refused_or (first_fault (f ∷ fault_if long InputTooLong ∷ unknown_fault u ∷ [])) (choose b (Accepted c) (Rejected c)) → Tells f r
judge_tells (some e) long u b c q = refused_tells q
judge_tells none true u b c q = λ e g. (λ p. absurd (g.length (sym (answer_number_lem (sym q ∙ p)))), λ p. absurd (none_some p))
judge_tells none false (Some i) b c q = λ e g. (λ p. absurd (g.token (sym (answer_number_lem (sym q ∙ p)))), λ p. absurd (none_some p))
judge_tells none false None true c q = silent q refl
judge_tells none false None false c q = silent q refl

-- what judging the costliest input of a length answers, by the grammar's fault and what is found of the length
pub costliest_tells : (f : Maybe Error) (long many b : Bool) (c : Calls) {r : Answer}
    → r ≡ refused_or (first_fault (f ∷ fault_if long InputTooLong ∷ fault_if many TooManyInputs ∷ [])) (choose b (Accepted c) (Rejected c)) → Tells f r
costliest_tells (some e) long many b c q = refused_tells q
costliest_tells none true many b c q = λ e g. (λ p. absurd (g.length (sym (answer_number_lem (sym q ∙ p)))), λ p. absurd (none_some p))
costliest_tells none false true b c q = λ e g. (λ p. absurd (g.inputs (sym (answer_number_lem (sym q ∙ p)))), λ p. absurd (none_some p))
costliest_tells none false false true c q = silent q refl
costliest_tells none false false false c q = silent q refl

pub none_left : (o : Maybe ℕ) → left_fault o ≡ none → o ≡ none
none_left none e = refl
none_left (some A) e = absurd (omega (arith, fault_number_lem e))

pub none_unproductive : (o : Maybe ℕ) → unproductive_fault o ≡ none → o ≡ none
none_unproductive none e = refl
none_unproductive (some A) e = absurd (omega (arith, fault_number_lem e))

-- an error that is neither 8 nor 13
pub record Other (e : Error) : Type 0 where
  pub not_left : (coded e).code ≡ 8 → ⊥
  pub not_empty : (coded e).code ≡ 13 → ⊥

-- the fault of a grammar that has been taken, by what is found of it and the faults behind 8 and 13
abbrev pub fault_by : List (Maybe Error) → Maybe ℕ → Maybe ℕ → Maybe Error
fault_by behind o u = first_fault (left_fault o ∷ unproductive_fault u ∷ behind)

-- behind 8 and 13 come other errors
module _ (behind : List (Maybe Error)) (other : (e : Error) → first_fault behind ≡ some e → Other e) where
  left_told : (o u : Maybe ℕ) (A : ℕ) → (fault_by behind o u ≡ some (LeftRecursive A)) ↔ (o ≡ some A)
  left_told none none A = (λ e. absurd ((other (LeftRecursive A) e).not_left refl), λ e. absurd (some-ne-none A (sym e)))
  left_told none (some B) A = (λ e. absurd (omega (arith, fault_number_lem e)), λ e. absurd (some-ne-none A (sym e)))
  left_told (some B) u A = (λ e. let z : B ≡ A = cc in ap some z, λ e. let z : B ≡ A = cc in ap (λ C. some (LeftRecursive C)) z)

  unproductive_told : (o u : Maybe ℕ) (A : ℕ) → (fault_by behind o u ≡ some (Unproductive A)) ↔ ((o ≡ none) × (u ≡ some A))
  unproductive_told none none A = (λ e. absurd ((other (Unproductive A) e).not_empty refl), λ e. absurd (some-ne-none A (sym e.1)))
  unproductive_told none (some B) A =
      (λ e. let z : B ≡ A = cc in (refl, ap some z), λ e. let z : B ≡ A = cc e.1 in ap (λ C. some (Unproductive C)) z)
  unproductive_told (some B) u A = (λ e. absurd (omega (arith, fault_number_lem e)), λ e. absurd (some-ne-none B e.0))

  -- what an answer tells, in the words of the grammar
  module _ (k : Lookahead) (G : Grammar) (scoped : WellScoped G) {r : Answer}
      (t : Tells (fault_by behind (lowest_left_recursive G) (lowest_unproductive G (tokens k))) r) where
    pub lowest_recursive : (A : ℕ) → (r ≡ Refused (LeftRecursive A)) ↔ LowestRecursive G A
    lowest_recursive A =
        let told = t (LeftRecursive A) record { length = omega arith; token = omega arith; inputs = omega arith } in
        let left = left_told (lowest_left_recursive G) (lowest_unproductive G (tokens k)) A in
        let decided = (theorems.left_recursion_decided G scoped).lowest A in (
          λ e. let h = decided.0 (left.0 (told.0 e)) in record { reaches = h.0; lowest = h.1 },
          λ h. told.1 (left.1 (decided.1 (h.reaches, h.lowest))),
        )

    pub lowest_unproductive_lem : (A : ℕ) → (r ≡ Refused (Unproductive A)) ↔ (NoLeftRecursion G × LowestUnproductive k G A)
    lowest_unproductive_lem A =
        let told = t (Unproductive A) record { length = omega arith; token = omega arith; inputs = omega arith } in
        let empty = unproductive_told (lowest_left_recursive G) (lowest_unproductive G (tokens k)) A in
        let free = (theorems.left_recursion_decided G scoped).absent in
        let decided = (theorems.productive_decided G (tokens k)).lowest A in (
          λ e.
              let h = empty.0 (told.0 e) in
              let d = decided.0 h.1 in
              (free.0 h.0, record { named = d.0; unproductive = d.1; lowest = d.2 }),
          λ h. told.1 (empty.1 (free.1 h.0, decided.1 (h.1.named, h.1.unproductive, h.1.lowest))),
        )
