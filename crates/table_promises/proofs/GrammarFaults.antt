-- The faults of an encoded grammar: those found with its sets come first, and then it has one just where an entry clashes.
use Rattle.std.specs.Prelude.{None, Option, Some, Err, Ok}
use mathlib.Core.Path.{◌≡◌, refl, sym, ap, ◌∙◌}
use mathlib.Core.List.{List, [], ◌∷◌}
use mathlib.Core.Logic.{◌↔◌}
use mathlib.Core.Option.{Option as Maybe, none, some}
use Prim.Native.Nat.{ℕ}
use native.Mathlib.Omega.{arith}
use Rattle.answer.specs.declared.Error.{Error}
use Rattle.answer.specs.Faults.{first_fault}
use Rattle.answer.proofs.Faults.{none_some, each_none, first_nested}
use Rattle.grammar.specs.Encoding.{grammar_of}
use Rattle.grammar.specs.declared.reading.Sizes.{Sizes}
use Rattle.lookahead.specs.declared.Lookahead.{Lookahead}
use Rattle.lookahead.specs.Lookaheads.{tokens}
use Rattle.admission.specs.Admission.{admission}
use Rattle.semantics.specs.Claims.{clashes}
use Rattle.families.specs.Analysis.{sets_faults, sets_fault}
use Rattle.families.proofs.Findings.{read_some}
use Rattle.table_promises.specs.Conflicts.{first_clash}
use Rattle.table_promises.specs.Analysis.{clash_fault, fault}
use Rattle.families.proofs.FewTerminals.{few_terminals_lem}
use Rattle.table_promises.proofs.FirstClash.{clash_absent}

-- the faults found with the sets come first
pub fault_sets : (k : Lookahead) (words : List ℕ) → fault k words ≡ first_fault (sets_fault k words ∷ clash_fault k (first_clash k (grammar_of words)) ∷ [])
unfolding fault sets_fault
fault_sets k words = first_nested [] (sets_faults k words) (clash_fault k (first_clash k (grammar_of words)) ∷ [])

-- a faulty admission is the first fault
pub sets_first : (k : Lookahead) (words : List ℕ) (e : Error) → admission k words ≡ Err e → sets_fault k words ≡ some e
unfolding sets_fault
sets_first k words e f = rw f

-- a grammar clear of these is admitted, and then it has a fault just where an entry clashes
sets_admitted : (k : Lookahead) (words : List ℕ) → sets_fault k words ≡ none → (z : Sizes) × (admission k words ≡ Ok z)
unfolding sets_fault
sets_admitted k words e = read_some (admission k words) (each_none (sets_faults k words) e).0

clash_alone : (k : Lookahead) (r : Option (ℕ × ℕ)) → (first_fault (none ∷ clash_fault k r ∷ []) ≡ none) ↔ (r ≡ None)
clash_alone k None = (λ e. refl, λ e. refl)
clash_alone k (Some (A, c)) = (λ e. absurd (none_some (sym e)), λ e. let z : ◌≡◌ {A = ℕ} 0 1 = cc in absurd (omega arith))

pub fault_clashless : (k : Lookahead) (words : List ℕ) → sets_fault k words ≡ none → (fault k words ≡ none) ↔ (clashes (grammar_of words) (tokens k) ≡ [])
fault_clashless k words e =
    let G = grammar_of words in
    let few = few_terminals_lem k words (sets_admitted k words e).1 in
    let a = clash_absent k G few in
    let c = clash_alone k (first_clash k G) in
    let d : fault k words ≡ first_fault (none ∷ clash_fault k (first_clash k G) ∷ []) = rw (fault_sets k words, e) in
    (λ f. a.0 (c.0 (sym d ∙ f)), λ f. d ∙ c.1 (a.1 f))

pub none_sets : (k : Lookahead) (words : List ℕ) → fault k words ≡ none → sets_fault k words ≡ none
none_sets k words e = go (sets_fault k words) refl
  where
    go : (o : Maybe Error) → sets_fault k words ≡ o → sets_fault k words ≡ none
    go none s = s
    go (some x) s = absurd (none_some (sym e ∙ fault_sets k words ∙ ap (λ o. first_fault (o ∷ clash_fault k (first_clash k (grammar_of words)) ∷ [])) s))
