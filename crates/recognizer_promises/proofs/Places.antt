-- The places that the refusals 8, 13 and 9 tell: the lowest nonterminal that reaches itself, the lowest whose first set is empty, the first clash.
use Rattle.std.specs.Prelude.{None, Option, Some, Ok}
use mathlib.Core.Path.{◌≡◌, refl, sym, ap, ap₂, ◌∙◌}
use mathlib.Core.List.{List, [], ◌∷◌}
use mathlib.Core.Logic.{◌↔◌}
use mathlib.Core.Option.{Option as Maybe, none, some}
use Prim.Native.Nat.{ℕ, ◌≤◌}
use native.Mathlib.Omega.{arith}
use lib.ListN.{length}
use Rattle.answer.proofs.Apart.{fault_number_lem}
use Rattle.answer.proofs.Faults.{none_some}
use Rattle.answer.specs.declared.Error.{Error}
use Rattle.answer.specs.declared.Answer.{Answer}
use Rattle.answer.specs.Numbers.{coded}
use Rattle.answer.specs.Faults.{first_fault}
use Rattle.grammar.specs.Syntax.{Grammar, WellScoped}
use Rattle.grammar.specs.Limits.{max_words}
use Rattle.lookahead.specs.declared.Lookahead.{Lookahead}
use Rattle.lookahead.specs.declared.Lookahead.TheVariants.{One, Two}
use Rattle.lookahead.specs.Lookaheads.{tokens}
use Rattle.lookahead.specs.inner.Lookaheads.{alphabet}
use Rattle.admission.specs.Admission.{Fits, admission}
use Rattle.admission.proofs.Admitted.{admitted}
use Rattle.encoding.specs.Encode.{sizes_of, Encodes}
use Rattle.encoding.proofs.Decoding.{encodes_grammar}
use Rattle.encoding.proofs.ReadingEncodes.{encodes_read}
use Rattle.semantics.specs.LeftRecursion.{lowest_left_recursive, NoLeftRecursion}
use Rattle.semantics.specs.Productive.{lowest_unproductive}
use Rattle.semantics.proofs.Theorems.{theorems}
use Rattle.table_promises.specs.Analysis.{conflict_error, clash_fault, fault}
use Rattle.table_promises.specs.Conflicts.{first_clash, FirstClash}
use Rattle.table_promises.proofs.FirstClash.{clash_first, first_clash_lem}
use Rattle.promises.specs.Places.{AllProductive}
use Rattle.promises.proofs.Places.{Tells, Other, fault_by, lowest_recursive, lowest_unproductive_lem}
use Rattle.recognizer_promises.specs.Properties.{Places}

-- the code of a clash is 9, whichever the lookahead
clash_code : (k : Lookahead) (A c : ℕ) → (coded (conflict_error k A c)).code ≡ 9
clash_code One A c = refl
clash_code Two A c = refl

module _ (k : Lookahead) where
  -- the fault of a grammar that has been taken, by what is found of it
  abbrev pub grammar_fault : Maybe ℕ → Maybe ℕ → Option (ℕ × ℕ) → Maybe Error
  grammar_fault o u r = fault_by (clash_fault k r ∷ []) o u

  clash_other : (r : Option (ℕ × ℕ)) (e : Error) → first_fault (clash_fault k r ∷ []) ≡ some e → Other e
  clash_other None e q = absurd (none_some q)
  clash_other (Some (B, c)) e q =
      let nine = sym (fault_number_lem q) ∙ clash_code k B c in
      record { not_left = λ h. omega (arith, nine, h); not_empty = λ h. omega (arith, nine, h) }

  -- the words of a grammar that fits are taken
  pub encodes_taken : (words : List ℕ) (G : Grammar) → length words ≤ max_words → Encodes words G → Fits k G → admission k words ≡ Ok (sizes_of G)
  encodes_taken words G short e fits = (admitted k words (sizes_of G)).1 (encodes_read words G short e, rw (encodes_grammar words G e) fits)

  pub fault_encoded : (words : List ℕ) (G : Grammar) → length words ≤ max_words → Encodes words G → Fits k G
      → fault k words ≡ grammar_fault (lowest_left_recursive G) (lowest_unproductive G (tokens k)) (first_clash k G)
  unfolding fault
  fault_encoded words G short e fits = rw (encodes_taken words G short e fits, encodes_grammar words G e)

-- a clash is reported with its nonterminal and its column
clash_same : (k : Lookahead) {A B c d : ℕ} → conflict_error k B d ≡ conflict_error k A c → ◌≡◌ {A = Option (ℕ × ℕ)} (Some (B, d)) (Some (A, c))
clash_same One {A} {B} {c} {d} e = let z : B ≡ A = cc in let y : d ≡ c = cc in rw (z, y)
clash_same Two {A} {B} {c} {d} e = let z : B ≡ A = cc in let y : d ≡ c = cc in rw (z, y)

clash_told : (k : Lookahead) (o u : Maybe ℕ) (r : Option (ℕ × ℕ)) (A c : ℕ) → grammar_fault k o u r ≡ some (conflict_error k A c)
    → (o ≡ none) × (u ≡ none) × (r ≡ Some (A, c))
clash_told k none none None A c e = absurd (omega (arith, fault_number_lem e ∙ clash_code k A c))
clash_told k none none (Some (B, d)) A c e = let z : conflict_error k B d ≡ conflict_error k A c = cc in (refl, refl, clash_same k z)
clash_told k none (some B) r A c e = absurd (omega (arith, fault_number_lem e ∙ clash_code k A c))
clash_told k (some B) u r A c e = absurd (omega (arith, fault_number_lem e ∙ clash_code k A c))

module _ (k : Lookahead) (G : Grammar) (scoped : WellScoped G) (few : G.terminals ≤ alphabet k) where
  abbrev n : ℕ
  n = tokens k

  abbrev behind : List (Maybe Error)
  behind = clash_fault k (first_clash k G) ∷ []

  abbrev told : Maybe Error
  told = grammar_fault k (lowest_left_recursive G) (lowest_unproductive G n) (first_clash k G)

  first_told : (A c : ℕ) → (told ≡ some (conflict_error k A c)) ↔ (NoLeftRecursion G × AllProductive k G × FirstClash k G A c)
  first_told A c =
      let free = (theorems.left_recursion_decided G scoped).absent in
      let productive = (theorems.productive_decided G n).absent in (
        λ e.
            let t = clash_told k (lowest_left_recursive G) (lowest_unproductive G n) (first_clash k G) A c e in
            (free.0 t.0, productive.0 t.1, clash_first k G few t.2),
        λ h.
            ap₂ (λ o u. grammar_fault k o u (first_clash k G)) (free.1 h.0) (productive.1 h.1)
            ∙ ap (grammar_fault k none none) (first_clash_lem k G few h.2),
      )

  pub places : {r : Answer} → Tells told r → Places k G r
  places {r} t = record {
    recursive = lowest_recursive behind (clash_other k (first_clash k G)) k G scoped t;
    unproductive = lowest_unproductive_lem behind (clash_other k (first_clash k G)) k G scoped t;
    conflict = λ A c.
        let nine = clash_code k A c in
        let clash = t (conflict_error k A c) record
        { length = λ h. omega (arith, nine, h); token = λ h. omega (arith, nine, h); inputs = λ h. omega (arith, nine, h) } in
        (λ e. (first_told A c).0 (clash.0 e), λ h. clash.1 ((first_told A c).1 h));
  }
