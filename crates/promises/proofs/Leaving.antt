-- What a call leaves, from its answer and its memories; and what a refusal leaves.
use mathlib.Core.Path.{◌≡◌, refl, ap, ◌∙◌}
use mathlib.Core.List.{List}
use mathlib.Core.Option.{Option, none, some}
use Rattle.answer.specs.declared.Error.{Error}
use Rattle.answer.specs.declared.Answer.{Answer}
use Rattle.answer.specs.declared.Answer.TheVariants.{Refused}
use Rattle.answer.specs.Numbers.{refused, numbers}
use Rattle.answer.specs.Faults.{refused_or}
use Rattle.answer.proofs.Faults.{numbers_told}
use Rattle.promises.specs.Leaving.{Lent, LentBack, Leaves}

module _ {f : Option Error} {due r : Answer} {memories : List Lent} where
  pub leaves : r ≡ refused_or f due → LentBack f memories → Leaves f due r memories
  leaves a m = record { answer = a; told = ap numbers a ∙ numbers_told f due; memory = m }

  -- two faults that are one leave the same
  pub leaves_alike : {g : Option Error} → f ≡ g → Leaves g due r memories → Leaves f due r memories
  leaves_alike e l = rw e l

  -- an answer that is no refusal has no fault
  pub unrefused : Leaves f due r memories → ((numbers r).verdict ≡ refused → ⊥) → f ≡ none
  unrefused l n = go f refl
    where
      go : (g : Option Error) → f ≡ g → f ≡ none
      go none e = e
      go (some x) e = absurd (n (ap (λ (a : Answer). (numbers a).verdict) (l.answer ∙ ap (λ y. refused_or y due) e)))

-- a refusal
pub leaves_refused : {f : Option Error} {x : Error} {due : Answer} {memories : List Lent} → f ≡ some x → LentBack (some x) memories
    → Leaves f due (Refused x) memories
leaves_refused e m = leaves_alike e (leaves refl m)
