-- Laws of finite sets of lookahead strings: which entries there are, and what a concatenation holds.
use mathlib.Core.Bool.{Bool}
use mathlib.Core.List.{List, ◌++◌, Memᴰ}
use mathlib.Core.Path.{◌≡◌}
use Prim.Native.Nat.{ℕ, ◌<◌}
use lib.Dec.{T, eqb, eqb→eq, eqb_refl}
use lib.ListN.{take}
use Rattle.grammar.specs.Syntax.{Grammar}
use Rattle.base.specs.FiniteSets.{numbers_below}
use Rattle.base.specs.Rounds.{◌⊆ᵇ◌, least}
use Rattle.base.specs.Strings.{Lookahead, strings, same_string}
use Rattle.semantics.specs.Families.{Family}
use Rattle.semantics.specs.FirstFollow.{concat_strings, Entry, same_entry, entries, sets_of}
use Rattle.base.proofs.Booleans.{and_l, and_r, and_make}
use Rattle.base.proofs.FiniteSets.{Equality, distinct_make, distinct_elim, keep_make, keep_elim, numbers_make, numbers_elim, combine_make, combine_elim}
use Rattle.base.proofs.Rounds.{least_kept, least_closed}
use Rattle.base.proofs.LookaheadStrings.{string_equal, string_itself, strings_equality, strings_make, strings_elim}

pub entries_equality : Equality same_entry
unfolding same_entry
entries_equality = record {
  equal = λ e d t.
      let a : e.0 ≡ d.0 = eqb→eq e.0 d.0 (and_l (eqb e.0 d.0) _ t) in
      let b : e.1 ≡ d.1 = string_equal e.1 d.1 (and_r (eqb e.0 d.0) _ t) in
      let c : ◌≡◌ {A = Entry} (e.0, e.1) (d.0, d.1) = cc in
      c;
  itself = λ e. and_make (eqb e.0 e.0) _ (eqb_refl e.0) (string_itself e.1);
}

module _ (G : Grammar) (k : ℕ) where
  pub entries_make : (A : ℕ) (x : List ℕ) → A < G.nonterminals → Lookahead k G.terminals x → Memᴰ (A, x) (entries G k)
  unfolding entries
  entries_make A x a l =
      combine_make {Z = Entry} (λ A x. (A, x)) (numbers_below G.nonterminals) (strings k G.terminals) A x
      (numbers_make G.nonterminals A a) (strings_make k G.terminals x l)

  pub entries_elim : (e : Entry) → Memᴰ e (entries G k) → (e.0 < G.nonterminals) × Lookahead k G.terminals e.1
  unfolding entries
  entries_elim e m =
      let r = combine_elim {Z = Entry} (λ A x. (A, x)) (numbers_below G.nonterminals) (strings k G.terminals) e m in
      rw r.4 (numbers_elim G.nonterminals r.0 r.2, strings_elim k G.terminals r.1 r.3)

  pub sets_make : (p : Entry → Bool) (A : ℕ) (x : List ℕ) → Lookahead k G.terminals x → T (p (A, x)) → Memᴰ x (sets_of G k p A)
  unfolding sets_of
  sets_make p A x l t = keep_make (λ x. p (A, x)) (strings k G.terminals) x (strings_make k G.terminals x l) t

  pub sets_elim : (p : Entry → Bool) (A : ℕ) (x : List ℕ) → Memᴰ x (sets_of G k p A) → Lookahead k G.terminals x × T (p (A, x))
  unfolding sets_of
  sets_elim p A x m = let r = keep_elim (λ x. p (A, x)) (strings k G.terminals) x m in (strings_elim k G.terminals x r.0, r.1)

-- the law of rounds, for entries of a grammar
module _ (G : Grammar) (k : ℕ) (Φ : (Entry → Bool) → Entry → Bool) where
  abbrev built : Entry → Bool
  built = least same_entry (entries G k) Φ

  pub entry_lookahead : (A : ℕ) (x : List ℕ) → T (built (A, x)) → (A < G.nonterminals) × Lookahead k G.terminals x
  entry_lookahead A x t =
      entries_elim G k (A, x) (least_kept same_entry entries_equality (entries G k) Φ (λ e. Memᴰ e (entries G k)) (λ p h e m u. m) (A, x) t)

  pub entry_sets : (A : ℕ) (x : List ℕ) → T (built (A, x)) → Memᴰ x (sets_of G k built A)
  entry_sets A x t = sets_make G k built A x (entry_lookahead A x t).1 t

  pub entry_kept : (F : Family) → ((p : Entry → Bool) → ((A : ℕ) (x : List ℕ) → Memᴰ x (sets_of G k p A) → F A x)
      → (A : ℕ) (x : List ℕ) → Lookahead k G.terminals x → T (Φ p (A, x)) → F A x)
      → (A : ℕ) (x : List ℕ) → T (built (A, x)) → F A x
  entry_kept F kept A x =
      least_kept same_entry entries_equality (entries G k) Φ (λ e. F e.0 e.1)
      (λ p h e m. kept p (λ B y i. h (B, y) (sets_elim G k p B y i).1) e.0 e.1 (entries_elim G k e m).1) (A, x)

  pub entry_closed : ((p q : Entry → Bool) → p ⊆ᵇ q → Φ p ⊆ᵇ Φ q)
      → (A : ℕ) (x : List ℕ) → A < G.nonterminals → Lookahead k G.terminals x → T (Φ built (A, x)) → T (built (A, x))
  entry_closed mono A x a l = least_closed same_entry entries_equality (entries G k) Φ mono (A, x) (entries_make G k A x a l)

-- a larger test gives larger sets
pub sets_mono : (G : Grammar) (k : ℕ) (p q : Entry → Bool) → p ⊆ᵇ q → (A : ℕ) (x : List ℕ) → Memᴰ x (sets_of G k p A)
    → Memᴰ x (sets_of G k q A)
sets_mono G k p q h A x m = let s = sets_elim G k p A x m in sets_make G k q A x s.0 (h (A, x) s.1)

-- one string of each set, one after the other, and the first k of that
pub concat_elim : (k : ℕ) (us ys : List (List ℕ)) (x : List ℕ) → Memᴰ x (concat_strings k us ys)
    → (u : List ℕ) × (y : List ℕ) × Memᴰ u us × Memᴰ y ys × (x ≡ take k (u ++ y))
unfolding concat_strings
concat_elim k us ys x m = combine_elim (λ u y. take k (u ++ y)) us ys x (distinct_elim same_string strings_equality _ x m)

pub concat_make : (k : ℕ) (us ys : List (List ℕ)) (u y : List ℕ) → Memᴰ u us → Memᴰ y ys
    → Memᴰ (take k (u ++ y)) (concat_strings k us ys)
unfolding concat_strings
concat_make k us ys u y m n = distinct_make same_string strings_equality _ _ (combine_make (λ u y. take k (u ++ y)) us ys u y m n)
