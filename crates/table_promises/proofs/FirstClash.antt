-- The scan by nonterminal, then column, finds the first clash, and none just where there is none.
use Rattle.std.specs.Prelude.{None, Option, Some}
use mathlib.Core.Path.{◌≡◌, refl, sym, ap₂, subst, ◌∙◌}
use mathlib.Core.Bool.{Bool, true, false}
use mathlib.Core.List.Memᴰ
use mathlib.Core.List.{List, [], ◌∷◌, Memᴰ}
use mathlib.Core.Logic.{◌↔◌, ◌⊎◌, inl, inr}
use Prim.Native.Nat.{ℕ, zero, suc, ◌+◌, ◌≤◌, ◌<◌}
use native.Mathlib.Decide.{ℕ_discrete}
use native.Mathlib.Omega.{arith}
use lib.Dec.{T}
use Rattle.base.specs.Choice.{choose}
use Rattle.grammar.specs.Syntax.{Grammar}
use Rattle.lookahead.specs.declared.Lookahead.{Lookahead}
use Rattle.lookahead.specs.Lookaheads.{tokens}
use Rattle.lookahead.specs.inner.Lookaheads.{alphabet}
use Rattle.semantics.specs.FirstFollow.{Entry, entries}
use Rattle.base.specs.Strings.{Lookahead as Looked}
use Rattle.semantics.specs.Claims.{clashing, clashes}
use Rattle.semantics.proofs.families.Claims.{clashing_elim, clashes_make}
use Rattle.base.proofs.FiniteSets.{keep_elim}
use Rattle.semantics.proofs.families.LookaheadSets.{entries_elim}
use Rattle.columns.specs.Columns.{column_string, column_of, columns}
use Rattle.table_promises.specs.Conflicts.{row_conflict, or_later, conflict_from, first_clash, FirstClash}
use Rattle.columns.proofs.ColumnStrings.{column_back, column_in, string_column}

-- by nonterminal, then column
abbrev pub NotBefore : ℕ → ℕ → ℕ → ℕ → Type 0
NotBefore A c B d = (A < B) ⊎ ((A ≡ B) × (c ≤ d))

-- what a scan of n columns from c on tells
abbrev RowScanned : (ℕ → Bool) → ℕ → ℕ → ℕ → Option (ℕ × ℕ) → Type 0
RowScanned p A c n None = (d : ℕ) → c ≤ d → d < c + n → T (p d) → ⊥
RowScanned p A c n (Some (B, d)) = (A ≡ B) × (c ≤ d) × (d < c + n) × T (p d) × ((e : ℕ) → c ≤ e → e < c + n → T (p e) → d ≤ e)

row_scanned : (p : ℕ → Bool) (A c n : ℕ) → RowScanned p A c n (row_conflict p A c n)
unfolding row_conflict
row_scanned p A c zero = λ d l h t. absurd (omega arith)
row_scanned p A c (suc n) = go (p c) refl (row_conflict p A (suc c) n) (row_scanned p A (suc c) n)
  where
    go : (b : Bool) → p c ≡ b → (r : Option (ℕ × ℕ)) → RowScanned p A (suc c) n r → RowScanned p A c (suc n) (choose b (Some (A, c)) r)
    go true e r s = (refl, omega arith, omega arith, rw e tt, λ d l h t. l)
    go false e None s = λ d l h t. later d l h t (ℕ_discrete d c)
      where
        later : (d : ℕ) → c ≤ d → d < c + suc n → T (p d) → Dec (d ≡ c) → ⊥
        later d l h t (yes k) = rw (k, e) at t
        later d l h t (no k) = s d (omega arith) (omega arith) t
    go false e (Some (B, d)) s = (s.0, omega (arith, s.1), omega (arith, s.2), s.3, λ f l h t. later f l h t (ℕ_discrete f c))
      where
        later : (f : ℕ) → c ≤ f → f < c + suc n → T (p f) → Dec (f ≡ c) → d ≤ f
        later f l h t (yes k) = absurd (rw (k, e) at t)
        later f l h t (no k) = s.4 f (omega arith) (omega arith) t

-- and a scan of n rows from A on
abbrev Scanned : (ℕ → ℕ → Bool) → ℕ → ℕ → ℕ → Option (ℕ × ℕ) → Type 0
Scanned p columns A n None = (B d : ℕ) → A ≤ B → B < A + n → d < columns → T (p B d) → ⊥
Scanned p columns A n (Some (B, c)) =
    (A ≤ B) × (B < A + n) × (c < columns) × T (p B c) × ((D d : ℕ) → A ≤ D → D < A + n → d < columns → T (p D d) → NotBefore B c D d)

scanned : (p : ℕ → ℕ → Bool) (columns A n : ℕ) → Scanned p columns A n (conflict_from p columns A n)
unfolding conflict_from
scanned p columns A zero = λ B d l h k t. absurd (omega arith)
scanned p columns A (suc n) =
    go (row_conflict (p A) A 0 columns) (row_scanned (p A) A 0 columns) (conflict_from p columns (suc A) n) (scanned p columns (suc A) n)
  where
    go : (r : Option (ℕ × ℕ)) → RowScanned (p A) A 0 columns r → (r' : Option (ℕ × ℕ)) → Scanned p columns (suc A) n r'
        → Scanned p columns A (suc n) (or_later r r')
    go (Some (B, c)) r r' s = (
      omega (arith, r.0),
      omega (arith, r.0),
      omega (arith, r.2),
      subst (λ D. T (p D c)) r.0 r.3,
      λ D d l h k t. first D d l k t (ℕ_discrete D A),
    )
      where
        first : (D d : ℕ) → A ≤ D → d < columns → T (p D d) → Dec (D ≡ A) → NotBefore B c D d
        first D d l k t (yes e) = inr (sym r.0 ∙ sym e, r.4 d (omega arith) (omega arith) (rw e at t))
        first D d l k t (no e) = inl (omega (arith, r.0))
    go None r None s = λ B d l h k t. later B d l h k t (ℕ_discrete B A)
      where
        later : (B d : ℕ) → A ≤ B → B < A + suc n → d < columns → T (p B d) → Dec (B ≡ A) → ⊥
        later B d l h k t (yes e) = r d (omega arith) (omega arith) (rw e at t)
        later B d l h k t (no e) = s B d (omega arith) (omega arith) k t
    go None r (Some (B, c)) s = (omega (arith, s.0), omega (arith, s.1), s.2, s.3, λ D d l h k t. later D d l h k t (ℕ_discrete D A))
      where
        later : (D d : ℕ) → A ≤ D → D < A + suc n → d < columns → T (p D d) → Dec (D ≡ A) → NotBefore B c D d
        later D d l h k t (yes e) = absurd (r d (omega arith) (omega arith) (rw e at t))
        later D d l h k t (no e) = s.4 D d (omega arith) (omega arith) k t

-- two entries neither of which is before the other are one
same_place : {A B c d : ℕ} → NotBefore A c B d → NotBefore B d A c → (A ≡ B) × (c ≡ d)
same_place (inl h) (inl k) = absurd (omega arith)
same_place (inl h) (inr k) = absurd (omega (arith, k.0))
same_place (inr h) (inl k) = absurd (omega (arith, h.0))
same_place (inr h) (inr k) = (h.0, omega (arith, h.1, k.1))

module _ (k : Lookahead) (G : Grammar) where
  abbrev t : ℕ
  t = G.terminals

  abbrev n : ℕ
  n = tokens k

  scan : Scanned (λ A c. clashing G n (A, column_string k t c)) (columns k G) 0 G.nonterminals (first_clash k G)
  unfolding first_clash
  scan = scanned _ (columns k G) 0 G.nonterminals

  -- a clash is one of an entry, in its string's column
  clash_entry : (e : Entry) → Memᴰ e (clashes G n) → (e.0 < G.nonterminals) × Looked n t e.1 × T (clashing G n e)
  unfolding clashes
  clash_entry e m =
      let h = keep_elim (clashing G n) (entries G n) e m in
      let l = entries_elim G n e h.0 in
      (l.0, l.1, h.1)

  -- where the first clash stands
  pub clash_at : {A c : ℕ} → first_clash k G ≡ Some (A, c) → (A < G.nonterminals) × (c < columns k G)
  clash_at e = let s = rw e at scan in (omega (arith, s.1), s.2)

  module _ (few : t ≤ alphabet k) where
    in_column : (B : ℕ) (x : List ℕ) → Looked n t x → T (clashing G n (B, x)) → T (clashing G n (B, column_string k t (column_of k t x)))
    in_column B x l h = subst (λ y. T (clashing G n (B, y))) (sym (string_column k t x few l)) h

    pub clash_first : {A c : ℕ} → first_clash k G ≡ Some (A, c) → FirstClash k G A c
    clash_first {A} {c} e =
        let s = rw e at scan in
        record {
          string = column_string k t c;
          clash = clashing_elim G n A (column_string k t c) s.3;
          stands = column_back k t c;
          first = λ B x h.
              let d = clash_entry (B, x) (clashes_make G n B x h) in
              s.4 B (column_of k t x) (omega arith) (omega (arith, d.0)) (column_in k t x few d.1) (in_column B x d.1 d.2);
        }

    pub first_clash_lem : {A c : ℕ} → FirstClash k G A c → first_clash k G ≡ Some (A, c)
    first_clash_lem {A} {c} f = go (first_clash k G) refl
      where
        go : (r : Option (ℕ × ℕ)) → first_clash k G ≡ r → first_clash k G ≡ Some (A, c)
        go None e =
            let d = clash_entry (A, f.string) (clashes_make G n A f.string f.clash) in
            let s = rw e at scan in
            absurd (s A (column_of k t f.string) (omega arith) (omega (arith, d.0)) (column_in k t f.string few d.1)
            (in_column A f.string d.1 d.2))
        go (Some (B, d)) e =
            let g = clash_first e in
            let p : NotBefore A c B d = subst (λ m. NotBefore A c B m) g.stands (f.first B g.string g.clash) in
            let q : NotBefore B d A c = subst (λ m. NotBefore B d A m) f.stands (g.first A f.string f.clash) in
            let s = same_place q p in
            let f : ℕ → ℕ → Option (ℕ × ℕ) = λ B d. Some (B, d) in
            e ∙ ap₂ f s.0 s.1

    -- none is found just where there is none
    pub clash_absent : (first_clash k G ≡ None) ↔ (clashes G n ≡ [])
    clash_absent = (λ e. none (clashes G n) refl e, λ e. absent (first_clash k G) refl e)
      where
        none : (l : List Entry) → clashes G n ≡ l → first_clash k G ≡ None → clashes G n ≡ []
        none [] e a = e
        none (x ∷ l) e a =
            let d = clash_entry x (rw e (Memᴰ.head refl)) in
            let s = rw a at scan in
            absurd (s x.0 (column_of k t x.1) (omega arith) (omega (arith, d.0)) (column_in k t x.1 few d.1)
            (in_column x.0 x.1 d.1 d.2))

        absent : (r : Option (ℕ × ℕ)) → first_clash k G ≡ r → clashes G n ≡ [] → first_clash k G ≡ None
        absent None e z = e
        absent (Some (A, c)) e z =
            let s = rw e at scan in
            absurd (Memᴰ.not-nil (rw z at (clashes_make G n A (column_string k t c) (clashing_elim G n A (column_string k t c) s.3))))
