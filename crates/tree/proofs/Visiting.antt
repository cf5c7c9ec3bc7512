-- Visiting a graph whose measure falls along its arcs: what is written is closed under the arcs, each vertex is there once, and the first one is first.
use mathlib.Core.Bool.{Bool, true, false}
use mathlib.Core.List.Memᴰ
use mathlib.Core.List.{List, [], ◌∷◌, ◌++◌, Memᴰ, append_assoc, append-nil}
use mathlib.Core.Logic.{◌⊎◌, inl, inr}
use mathlib.Core.Path.{◌≡◌, refl, sym, ap, ◌∙◌}
use Prim.Native.Nat.{ℕ, zero, suc, ◌<◌}
use native.Mathlib.Omega.{arith}
use Rattle.base.specs.Quantifiers.{any_of}
use Rattle.base.specs.Choice.{choose}
use Rattle.base.specs.FiniteSets.{member, Distinct}
use Rattle.semantics.specs.ComesTo.{Call}
use Rattle.semantics.specs.Calls.{same_call}
use Rattle.base.proofs.Booleans.{true_T, T_subst}
use Rattle.base.proofs.FiniteSets.{member_mem, mem_member}
use Rattle.semantics.proofs.descent.Range.{calls_equality}
use Rattle.tree.specs.Writing.{each, visit}

pub distinct_last : (l : List Call) (x : Call) → Distinct l → (Memᴰ x l → ⊥) → Distinct (l ++ (x ∷ []))
distinct_last [] x d h = (λ m. Memᴰ.not-nil m, tt)
distinct_last (y ∷ l) x d h = (
  λ m. elim (Memᴰ.append_cases l m) [
    | inl n ↦ d.0 n
    | inr n ↦ h (Memᴰ.head (sym (Memᴰ.eq_of_singleton n)))
  ],
  distinct_last l x d.1 (λ m. h (Memᴰ.tail m)),
)

module _ (under : Call → List Call) (P : Call → Type 0) (m : Call → ℕ)
    (falls : (x : Call) → P x → (y : Call) → Memᴰ y (under x) → P y × (m y < m x)) where
  -- from l, visiting xs leaves l': what is new has all that is under it written too
  pub record Visited (xs l l' : List Call) : Type 0 where
    pub extra : List Call
    pub after : l' ≡ l ++ extra
    pub met : (x : Call) → Memᴰ x xs → Memᴰ x l'
    pub distinct : Distinct l → Distinct l'
    pub fresh : (y : Call) → Memᴰ y l' → Memᴰ y l ⊎ (P y × ((z : Call) → Memᴰ z (under y) → Memᴰ z l'))

  kept : {xs l l' : List Call} → Visited xs l l' → (y : Call) → Memᴰ y l → Memᴰ y l'
  kept v y n = rw v.after (Memᴰ.append_left v.extra n)

  abbrev pub Visits : ℕ → Type 0
  Visits n = (x : Call) (l : List Call) → P x → m x < n → Visited (x ∷ []) l (visit under n x l)

  each_visited : (n : ℕ) → Visits n → (xs l : List Call) → ((x : Call) → Memᴰ x xs → P x × (m x < n)) → Visited xs l (each (visit under n) xs l)
  unfolding each
  each_visited n h [] l p = record {
    extra = [];
    after = sym (append-nil l);
    met = λ x k. absurd (Memᴰ.not-nil k);
    distinct = λ d. d;
    fresh = λ y k. inl k;
  }
  each_visited n h (x ∷ xs) l p =
      let q = p x (Memᴰ.head refl) in
      let a = h x l q.0 q.1 in
      let b = each_visited n h xs (visit under n x l) (λ y k. p y (Memᴰ.tail k)) in
      record {
        extra = a.extra ++ b.extra;
        after = b.after ∙ ap (λ s. s ++ b.extra) a.after ∙ append_assoc l a.extra b.extra;
        met = λ y k. elim (Memᴰ.cases_cons k) [
          | inl e ↦ kept b y (a.met y (Memᴰ.head e))
          | inr k' ↦ b.met y k'
        ];
        distinct = λ d. b.distinct (a.distinct d);
        fresh = λ y k. elim (b.fresh y k) [
          | inl k' ↦ elim (a.fresh y k') [
            | inl k'' ↦ inl k''
            | inr r ↦ inr (r.0, λ z u. kept b z (r.1 z u))
          ]
          | inr r ↦ inr r
        ];
      }

  pub visit_visited : (n : ℕ) → Visits n
  unfolding visit
  visit_visited zero x l p h = absurd (omega arith)
  visit_visited (suc n) x l p h = go (member same_call l x) refl (each_visited n (visit_visited n) (under x) (l ++ (x ∷ []))
      (λ y k. let f = falls x p y k in (f.0, omega (arith, f.1))))
    where
      go : (b : Bool) → member same_call l x ≡ b → Visited (under x) (l ++ (x ∷ [])) (each (visit under n) (under x) (l ++ (x ∷ [])))
          → Visited (x ∷ []) l (choose b l (each (visit under n) (under x) (l ++ (x ∷ []))))
      go true e v = record {
        extra = [];
        after = sym (append-nil l);
        met = λ y k. Memᴰ.cast (Memᴰ.eq_of_singleton k) (member_mem same_call calls_equality l x (true_T _ e));
        distinct = λ d. d;
        fresh = λ y k. inl k;
      }
      go false e v = record {
        extra = (x ∷ []) ++ v.extra;
        after = v.after ∙ append_assoc l (x ∷ []) v.extra;
        met = λ y k. kept v y (Memᴰ.append_right l k);
        distinct = λ d. v.distinct (distinct_last l x d (λ k. T_subst e (mem_member same_call calls_equality l x k)));
        fresh = λ y k. elim (v.fresh y k) [
          | inl k' ↦ elim (Memᴰ.append_cases l k') [
            | inl k'' ↦ inl k''
            | inr k'' ↦ let s = Memᴰ.eq_of_singleton k'' in inr (rw s p, λ z u. v.met z (rw s at u))
          ]
          | inr r ↦ inr r
        ];
      }

  -- what is visited first is written first
  pub visit_first : (n : ℕ) (x : Call) → P x → m x < n → (others : List Call) × (visit under n x [] ≡ x ∷ others)
  unfolding visit member any_of
  visit_first zero x p h = absurd (omega arith)
  visit_first (suc n) x p h =
      let v = each_visited n (visit_visited n) (under x) (x ∷ []) (λ y k. let f = falls x p y k in (f.0, omega (arith, f.1))) in
      (v.extra, v.after)
