-- With a lookahead, too, a row of words has at most one diagnosis; so what is admitted is the one that there is.
use Rattle.std.specs.Prelude.{Err, Ok, Result}
use Rattle.grammar.specs.declared.reading.Sizes.{Sizes}
use mathlib.Core.Path.{◌≡◌, refl, ap, subst}
use mathlib.Core.List.{List}
use Prim.Native.Nat.{ℕ}
use native.Mathlib.Omega.{arith}
use Rattle.answer.specs.declared.Error.{Error}
use Rattle.encoding.specs.Encode.{sizes_of}
use Rattle.encoding.proofs.Decoding.{encode_injective}
use Rattle.encoding.proofs.OneDiagnosis.{StopsAt, stops_once, one_fault}
use Rattle.lookahead.specs.declared.Lookahead.{Lookahead}
use Rattle.admission.specs.Admission.{admission}
use Rattle.admission.specs.Diagnosis.{BeginsEncodingBy, FirstFaultBy, FaultBy, DiagnosisBy, Diagnosed}
use Rattle.admission.proofs.Beginnings.{begins_shorter_by}
use Rattle.admission.proofs.Diagnosed.{diagnosed_admission}

first_unique_by : (k : Lookahead) (words : List ℕ) (i j : ℕ) → FirstFaultBy k words i → FirstFaultBy k words j → i ≡ j
first_unique_by k words i j a b = stops_once (BeginsEncodingBy k) words (begins_shorter_by k words) i j (stops i a) (stops j b)
  where
    stops : (i : ℕ) → FirstFaultBy k words i → StopsAt (BeginsEncodingBy k) words i
    stops i f = record { among = f.among; before = f.before; here = f.here }

one_fault_by : (words : List ℕ) (i : ℕ) (x y : Error) → FaultBy words i x → FaultBy words i y → x ≡ y
one_fault_by words i _ _ (FaultBy.heading z f) (FaultBy.heading z' f') = refl
one_fault_by words i _ _ (FaultBy.heading z f) (FaultBy.terminals z' n) = absurd (n f)
one_fault_by words i _ _ (FaultBy.heading z f) (FaultBy.word l f' w) = absurd (omega (arith, z))
one_fault_by words i _ _ (FaultBy.heading z f) (FaultBy.alone l n) = absurd (omega (arith, z))
one_fault_by words i _ _ (FaultBy.terminals z n) (FaultBy.heading z' f) = absurd (n f)
one_fault_by words i _ _ (FaultBy.terminals z n) (FaultBy.terminals z' n') = refl
one_fault_by words i _ _ (FaultBy.terminals z n) (FaultBy.word l f w) = absurd (omega (arith, z))
one_fault_by words i _ _ (FaultBy.terminals z n) (FaultBy.alone l n') = absurd (omega (arith, z))
one_fault_by words i _ _ (FaultBy.word l f w) (FaultBy.heading z f') = absurd (omega (arith, z))
one_fault_by words i _ _ (FaultBy.word l f w) (FaultBy.terminals z n) = absurd (omega (arith, z))
one_fault_by words i x y (FaultBy.word l f w) (FaultBy.word l' f' w') = one_fault words i x y w w'
one_fault_by words i _ _ (FaultBy.word l f w) (FaultBy.alone l' n) = absurd (n f)
one_fault_by words i _ _ (FaultBy.alone l n) (FaultBy.heading z f) = absurd (omega (arith, z))
one_fault_by words i _ _ (FaultBy.alone l n) (FaultBy.terminals z n') = absurd (omega (arith, z))
one_fault_by words i _ _ (FaultBy.alone l n) (FaultBy.word l' f w) = absurd (n f)
one_fault_by words i _ _ (FaultBy.alone l n) (FaultBy.alone l' n') = refl

one_diagnosis_by : (k : Lookahead) (words : List ℕ) (o u : Result Sizes Error) → DiagnosisBy k words o → DiagnosisBy k words u → o ≡ u
one_diagnosis_by k words _ _ (DiagnosisBy.long s) (DiagnosisBy.long t) = refl
one_diagnosis_by k words _ _ (DiagnosisBy.long s) (DiagnosisBy.fault t f x) = absurd (omega arith)
one_diagnosis_by k words _ _ (DiagnosisBy.long s) (DiagnosisBy.encoding t e f) = absurd (omega arith)
one_diagnosis_by k words _ _ (DiagnosisBy.fault s f x) (DiagnosisBy.long t) = absurd (omega arith)
one_diagnosis_by k words _ _ (DiagnosisBy.fault {i} {x} s f v) (DiagnosisBy.fault {i = j} {x = y} t g w) =
    ap Err (one_fault_by words j x y (rw (first_unique_by k words i j f g) at v) w)
one_diagnosis_by k words _ _ (DiagnosisBy.fault s f x) (DiagnosisBy.encoding {G} t e g) = absurd (f.whole G e g)
one_diagnosis_by k words _ _ (DiagnosisBy.encoding s e f) (DiagnosisBy.long t) = absurd (omega arith)
one_diagnosis_by k words _ _ (DiagnosisBy.encoding {G} s e f) (DiagnosisBy.fault t g x) = absurd (g.whole G e f)
one_diagnosis_by k words _ _ (DiagnosisBy.encoding {G} s e f) (DiagnosisBy.encoding {G = H} t g h) =
    ap (λ F. Ok (sizes_of F)) (encode_injective words G H e g)

pub diagnosed : (k : Lookahead) (words : List ℕ) → Diagnosed k words
diagnosed k words o =
    (λ e. subst (DiagnosisBy k words) e (diagnosed_admission k words), λ d. one_diagnosis_by k words (admission k words) o (diagnosed_admission k words) d)
