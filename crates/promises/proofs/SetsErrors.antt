-- Which errors words can give before a table is made, and where: what holds of each of them holds of the one that is given.
use Rattle.std.specs.Prelude.{Err, Ok, Result}
use Rattle.grammar.specs.declared.reading.Sizes.{Sizes}
use mathlib.Core.Path.{◌≡◌, refl}
use mathlib.Core.List.{List, ◌++◌}
use mathlib.Core.Option.{Option, none, some}
use Prim.Native.Nat.{ℕ, ◌≤◌, ◌<◌}
use native.Mathlib.Omega.{arith}
use Rattle.answer.specs.declared.Error.{Error}
use Rattle.answer.specs.declared.Error.TheVariants.{Length, Heading, UnexpectedWord, OutOfRange, TooManyRules, TooManyTerminals, LeftRecursive, Unproductive}
use Rattle.answer.proofs.Faults.{OfFault, of_none, of_some, EachFault}
use Rattle.base.proofs.Quantified.{lowest_some}
use Rattle.grammar.specs.Limits.{max_words, max_nonterminals}
use Rattle.grammar.specs.Syntax.{Grammar}
use Rattle.grammar.specs.Encoding.{grammar_of}
use Rattle.grammar.specs.Reading.{reading}
use Rattle.grammar.proofs.WellRead.{well_read}
use Rattle.encoding.specs.Encode.{sizes_of}
use Rattle.encoding.specs.Diagnosis.{Diagnosis, long, heading, behind, encoding, WordFault, unexpected, out_of_range, too_many}
use Rattle.encoding.proofs.Faithful.{reading_diagnosed}
use Rattle.lookahead.specs.declared.Lookahead.{Lookahead}
use Rattle.lookahead.specs.declared.Lookahead.TheVariants.{Two}
use Rattle.lookahead.specs.Lookaheads.{tokens}
use Rattle.lookahead.specs.inner.Lookaheads.{alphabet}
use Rattle.admission.specs.Admission.{admission}
use Rattle.admission.proofs.AdmissionErrors.{OfOutcome, of_read, of_faulty, admission_each}
use Rattle.semantics.specs.LeftRecursion.{left_recursive, lowest_left_recursive}
use Rattle.semantics.specs.Productive.{unproductive, lowest_unproductive}
use Rattle.families.specs.Analysis.{reading_fault, left_fault, unproductive_fault, sets_faults}
use Rattle.families.proofs.FewTerminals.{admitted_read, few_terminals_lem}
use Rattle.families.proofs.Findings.{read_some}

-- the errors before the table is made: at a word, or behind the last, and of a nonterminal
pub record SetsErrors (k : Lookahead) (P : Error → Type 0) : Type 0 where
  pub long : P Length
  pub heading : P Heading
  pub unexpected_word : (i : ℕ) → i ≤ max_words → P (UnexpectedWord i)
  pub out_of_range : (i : ℕ) → i ≤ max_words → P (OutOfRange i)
  pub too_many_rules : (i : ℕ) → i ≤ max_words → P (TooManyRules i)
  pub too_many_terminals : k ≡ Two → P TooManyTerminals
  pub left_recursive : (A : ℕ) → A < max_nonterminals → P (LeftRecursive A)
  pub unproductive : (A : ℕ) → A < max_nonterminals → P (Unproductive A)

module _ {k : Lookahead} {P : Error → Type 0} (each : SetsErrors k P) where
  -- reading
  word_each : {words : List ℕ} {i : ℕ} {x : Error} → i ≤ max_words → WordFault words i x → P x
  word_each {i = i} h (unexpected a b) = each.unexpected_word i h
  word_each {i = i} h (out_of_range a) = each.out_of_range i h
  word_each {i = i} h (too_many a) = each.too_many_rules i h

  diagnosis_each : {words : List ℕ} {o : Result Sizes Error} → Diagnosis words o → OfOutcome P o
  diagnosis_each (long h) = of_faulty P Length each.long
  diagnosis_each (heading h f) = of_faulty P Heading each.heading
  diagnosis_each (behind {x = x} h b f w) = of_faulty P x (word_each (omega (arith, f.among)) w)
  diagnosis_each (encoding {G = G} h e) = of_read P (sizes_of G)

  -- admission
  reading_fault_each : (o : Result Sizes Error) → OfOutcome P o → OfFault P (reading_fault o)
  reading_fault_each (Ok z) r = of_none P
  reading_fault_each (Err x) r = of_some P x (r x refl)

  admission_fault_each : (words : List ℕ) → OfFault P (reading_fault (admission k words))
  admission_fault_each words =
      reading_fault_each (admission k words)
      (admission_each P each.unexpected_word k each.too_many_terminals words (diagnosis_each ((reading_diagnosed words (reading words)).0 refl)))

  -- left recursion and empty first sets
  left_each : (G : Grammar) → G.nonterminals ≤ max_nonterminals → (o : Option ℕ) → lowest_left_recursive G ≡ o → OfFault P (left_fault o)
  unfolding lowest_left_recursive
  left_each G few none e = of_none P
  left_each G few (some A) e =
      of_some P (LeftRecursive A) (each.left_recursive A (omega (arith, ((lowest_some G.nonterminals (left_recursive G) A).0 e).0)))

  unproductive_each : (G : Grammar) → G.nonterminals ≤ max_nonterminals → (o : Option ℕ) → lowest_unproductive G (tokens k) ≡ o
      → OfFault P (unproductive_fault o)
  unfolding lowest_unproductive
  unproductive_each G few none e = of_none P
  unproductive_each G few (some A) e =
      of_some P (Unproductive A) (each.unproductive A (omega (arith, ((lowest_some G.nonterminals (unproductive G (tokens k)) A).0 e).0)))

  -- and the faults behind them, of a grammar within the limits
  pub sets_each : (words : List ℕ) (l : List (Option Error))
      → ((grammar_of words).nonterminals ≤ max_nonterminals → (grammar_of words).terminals ≤ alphabet k → EachFault P l)
      → EachFault P (sets_faults k words ++ l)
  sets_each words l later = (
    admission_fault_each words,
    λ q.
        let y = read_some (admission k words) q in
        let r = well_read words y.0 (admitted_read k words y.1) in
        let few : (grammar_of words).nonterminals ≤ max_nonterminals = omega (arith, r.nonterminals, r.few_nonterminals) in (
          left_each (grammar_of words) few _ refl,
          λ _. (unproductive_each (grammar_of words) few _ refl, λ _. later few (few_terminals_lem k words y.1)),
        ),
  )
