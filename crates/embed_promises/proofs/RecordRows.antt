-- The clients' records in a row of numbers: one client's four numbers written after the other's.
use mathlib.Core.Path.{◌≡◌, refl, ◌∙◌}
use mathlib.Core.List.{List, [], ◌∷◌}
use Prim.Native.Nat.{ℕ, ◌+◌, ◌*◌, ◌≤◌, ◌<◌}
use native.Mathlib.Decide.{ℕ_discrete}
use native.Mathlib.Omega.{arith}
use lib.ListN.{length, get_or, set, length-set}
use lib.Seq.{get_or-set_same, get_or-set_other}
use Rattle.usage.specs.declared.Usage.{Usage}
use Rattle.usage.specs.Counters.{usage_of}
use Rattle.client_records.specs.Usages.{clients, usage_of_client}
use Rattle.embed_promises.specs.Records.{usage_at, usages_in}
use Rattle.embed_promises.specs.inner.Records.{RecordsWritten}

same_usage : {c c' r r' a a' d d' : ℕ} → c ≡ c' → r ≡ r' → a ≡ a' → d ≡ d' → usage_of c r a d ≡ usage_of c' r' a' d'
same_usage e f g h = cc

-- four numbers written one after the other
module _ (row : List ℕ) (at : ℕ) (c r a d : ℕ) where
  abbrev four : List ℕ
  four = set (set (set (set row at c) (at + 1) r) (at + 2) a) (at + 3) d

  four_length : length four ≡ length row
  four_length =
      length-set (set (set (set row at c) (at + 1) r) (at + 2) a) (at + 3) d ∙ length-set (set (set row at c) (at + 1) r) (at + 2) a
      ∙ length-set (set row at c) (at + 1) r
      ∙ length-set row at c

  -- a number elsewhere
  four_other : (i : ℕ) → (i ≡ at → ⊥) → (i ≡ at + 1 → ⊥) → (i ≡ at + 2 → ⊥) → (i ≡ at + 3 → ⊥) → get_or four i 0 ≡ get_or row i 0
  four_other i n₀ n₁ n₂ n₃ =
      get_or-set_other (set (set (set row at c) (at + 1) r) (at + 2) a) (at + 3) i d 0 n₃ ∙ get_or-set_other (set (set row at c) (at + 1) r) (at + 2) i a 0 n₂
      ∙ get_or-set_other (set row at c) (at + 1) i r 0 n₁
      ∙ get_or-set_other row at i c 0 n₀

  module _ (room : at + 3 < length row) where
    four_first : get_or four at 0 ≡ c
    four_first =
        get_or-set_other (set (set (set row at c) (at + 1) r) (at + 2) a) (at + 3) at d 0 (λ e. omega arith)
        ∙ get_or-set_other (set (set row at c) (at + 1) r) (at + 2) at a 0 (λ e. omega arith)
        ∙ get_or-set_other (set row at c) (at + 1) at r 0 (λ e. omega arith)
        ∙ get_or-set_same row at c 0 (omega arith)

    four_second : get_or four (at + 1) 0 ≡ r
    four_second =
        get_or-set_other (set (set (set row at c) (at + 1) r) (at + 2) a) (at + 3) (at + 1) d 0 (λ e. omega arith)
        ∙ get_or-set_other (set (set row at c) (at + 1) r) (at + 2) (at + 1) a 0 (λ e. omega arith)
        ∙ get_or-set_same (set row at c) (at + 1) r 0 (omega (arith, length-set row at c))

    four_third : get_or four (at + 2) 0 ≡ a
    four_third =
        get_or-set_other (set (set (set row at c) (at + 1) r) (at + 2) a) (at + 3) (at + 2) d 0 (λ e. omega arith)
        ∙ get_or-set_same (set (set row at c) (at + 1) r) (at + 2) a 0 (omega (arith, length-set (set row at c) (at + 1) r, length-set row at c))

    four_fourth : get_or four (at + 3) 0 ≡ d
    four_fourth =
        get_or-set_same (set (set (set row at c) (at + 1) r) (at + 2) a) (at + 3) d 0
        (omega (arith, length-set (set (set row at c) (at + 1) r) (at + 2) a, length-set (set row at c) (at + 1) r, length-set row at c))

module _ {us : List Usage} {n : ℕ} {row : List ℕ} (w : RecordsWritten us n row) (h : n < clients) where
  abbrev u : Usage
  u = usage_of_client us n

  abbrev next : List ℕ
  next = four row (n * 4) u.calls u.refusals u.acceptances u.called

  room : n * 4 + 3 < length row
  room = omega (arith, w.long)

  own : usage_at next n ≡ u
  own = same_usage
      (four_first row (n * 4) u.calls u.refusals u.acceptances u.called room)
      (four_second row (n * 4) u.calls u.refusals u.acceptances u.called room)
      (four_third row (n * 4) u.calls u.refusals u.acceptances u.called room)
      (four_fourth row (n * 4) u.calls u.refusals u.acceptances u.called room)

  kept : (i : ℕ) → (i < n * 4) → get_or next i 0 ≡ get_or row i 0
  kept i b =
      four_other row (n * 4) u.calls u.refusals u.acceptances u.called i (λ e. omega arith) (λ e. omega arith) (λ e. omega arith) (λ e. omega arith)

  before : (k : ℕ) → k < n → usage_at next k ≡ usage_of_client us k
  before k b =
      same_usage (kept (k * 4) (omega arith)) (kept (k * 4 + 1) (omega arith)) (kept (k * 4 + 2) (omega arith)) (kept (k * 4 + 3) (omega arith)) ∙ w.same k b

  pub one_written : RecordsWritten us (n + 1) next
  one_written = record {
    few = omega arith;
    long = four_length row (n * 4) u.calls u.refusals u.acceptances u.called ∙ w.long;
    same = λ k b. go k b (ℕ_discrete k n);
  }
    where
      go : (k : ℕ) → k < n + 1 → Dec (k ≡ n) → usage_at next k ≡ usage_of_client us k
      go k b (yes e) = rw e own
      go k b (no e) = before k (omega (arith, e))

-- eight elements, one by one
eight : (l : List Usage) → length l ≡ 8
    → usage_of_client l 0 ∷ usage_of_client l 1 ∷ usage_of_client l 2 ∷ usage_of_client l 3 ∷ usage_of_client l 4 ∷ usage_of_client l 5
    ∷ usage_of_client l 6 ∷ usage_of_client l 7 ∷ [] ≡ l
eight [] h = absurd (omega arith)
eight (a ∷ []) h = absurd (omega arith)
eight (a ∷ b ∷ []) h = absurd (omega arith)
eight (a ∷ b ∷ c ∷ []) h = absurd (omega arith)
eight (a ∷ b ∷ c ∷ e ∷ []) h = absurd (omega arith)
eight (a ∷ b ∷ c ∷ e ∷ g ∷ []) h = absurd (omega arith)
eight (a ∷ b ∷ c ∷ e ∷ g ∷ i ∷ []) h = absurd (omega arith)
eight (a ∷ b ∷ c ∷ e ∷ g ∷ i ∷ j ∷ []) h = absurd (omega arith)
eight (a ∷ b ∷ c ∷ e ∷ g ∷ i ∷ j ∷ k ∷ []) h = refl
eight (a ∷ b ∷ c ∷ e ∷ g ∷ i ∷ j ∷ k ∷ m ∷ l) h = absurd (omega arith)

pub all_written : {us : List Usage} {n : ℕ} {row : List ℕ} → RecordsWritten us n row → clients ≤ n → length us ≡ clients → usages_in row ≡ us
all_written {us} {n} {row} w h long =
    let each : (k : ℕ) → k < clients → usage_at row k ≡ usage_of_client us k = λ k b. w.same k (omega arith) in
    rw (
      each 0 (omega arith),
      each 1 (omega arith),
      each 2 (omega arith),
      each 3 (omega arith),
      each 4 (omega arith),
      each 5 (omega arith),
      each 6 (omega arith),
      each 7 (omega arith),
    ) (eight us long)
