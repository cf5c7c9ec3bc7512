-- With one token of lookahead the concatenation cut to k is document 01's stringing.
use mathlib.Core.List.{List, [], ◌∷◌, ◌++◌}
use mathlib.Core.Logic.{◌↔◌, ◌⊎◌, inl, inr}
use mathlib.Core.Option.{some}
use mathlib.Core.Path.{◌≡◌, refl, sym, ap, ◌∙◌}
use Prim.Native.Nat.{ℕ, ◌≤◌}
use native.Mathlib.Omega.{arith}
use lib.ListN.{length, take, get_elem?}
use Rattle.word.specs.declared.Symbol.{Symbol}
use Rattle.word.specs.declared.Symbol.TheVariants.{Terminal, Nonterminal}
use Rattle.grammar.specs.Syntax.{Body, Rule, Grammar}
use Rattle.semantics.specs.Families.{Family, Short, FirstOf, FirstBody, Strung, Meeting, FollowBody, FollowClosed, FollowStrung, Claims}
use Rattle.semantics.specs.FirstFollow.{First, Follow}
use Rattle.base.proofs.Strings.{take_short}
use Rattle.semantics.proofs.families.First.{first_lookahead}
use Rattle.semantics.proofs.families.Follow.{follow_lookahead}
use Rattle.semantics.proofs.families.FollowCuts.{Cuts, follow_cuts}

-- a string of the first set and one of the second after it, cut to k
abbrev pub Cut : ℕ → (List ℕ → Type 0) → (List ℕ → Type 0) → List ℕ → Type 0
Cut k P Q x = (u : List ℕ) × (y : List ℕ) × P u × Q y × (x ≡ take k (u ++ y))

take_one : (x : List ℕ) → length x ≤ 1 → take 1 x ≡ x
take_one [] h = refl
take_one (a ∷ []) h = refl
take_one (a ∷ b ∷ x) h = absurd (omega arith)

pub cut_one : (P Q : List ℕ → Type 0) → ((x : List ℕ) → P x → length x ≤ 1) → ((x : List ℕ) → Q x → length x ≤ 1) → (x : List ℕ)
    → Cut 1 P Q x ↔ Strung P Q x
cut_one P Q p q x = (λ c. there c.0 c.1 c.2 c.3 c.4, λ s. back s.0.0 s.0.1 s.1)
  where
    there : (u y : List ℕ) → P u → Q y → x ≡ take 1 (u ++ y) → Strung P Q x
    there [] y a b e = ((y, b), inr (a, rw (e ∙ take_one y (q y b)) b))
    there (c ∷ []) y a b e = ((y, b), inl (rw e a, λ d. absurd (omega (arith, ap length (sym e ∙ d)))))
    there (c ∷ d ∷ u) y a b e = absurd (omega (arith, p (c ∷ d ∷ u) a))

    back : (y : List ℕ) → Q y → (P x × ((x ≡ []) → ⊥)) ⊎ (P [] × Q x) → Cut 1 P Q x
    back y b (inl s) = (x, y, s.0, b, full x (p x s.0) s.1)
      where
        full : (x : List ℕ) → length x ≤ 1 → ((x ≡ []) → ⊥) → x ≡ take 1 (x ++ y)
        full [] h n = absurd (n refl)
        full (a ∷ []) h n = refl
        full (a ∷ c ∷ z) h n = absurd (omega arith)
    back y b (inr s) = ([], x, s.0, s.1, sym (take_one x (q x s.1)))

first_of_short : (k : ℕ) (F : Family) → Short k F → (X : Symbol) (x : List ℕ) → FirstOf k F X x → length x ≤ k
first_of_short k F h (Terminal a) x f = rw f (take_short k (a ∷ []))
first_of_short k F h (Nonterminal A) x f = h A x f

first_body_short : (k : ℕ) (F : Family) (b : Body) (x : List ℕ) → FirstBody k F b x → length x ≤ k
first_body_short k F [] x f = rw f (omega arith)
first_body_short k F (X ∷ b) x f = rw f.4 (take_short k (f.0 ++ f.1))

-- so a body strings the sets of its symbols
pub body_strung : (F : Family) → Short 1 F → (X : Symbol) (b : Body) (x : List ℕ)
    → FirstBody 1 F (X ∷ b) x ↔ Strung (FirstOf 1 F X) (FirstBody 1 F b) x
body_strung F h X b x = cut_one (FirstOf 1 F X) (FirstBody 1 F b) (first_of_short 1 F h X) (first_body_short 1 F b) x

module _ (G : Grammar) where
  follow_short : Short 1 (Follow G 1)
  follow_short A x f = (follow_lookahead G 1 A x f).1.0

  -- a body's FIRST set is that of its first symbol strung with that of the rest
  pub first_strung : (X : Symbol) (b : Body) (x : List ℕ)
      → FirstBody 1 (First G 1) (X ∷ b) x ↔ Strung (FirstOf 1 (First G 1) X) (FirstBody 1 (First G 1) b) x
  first_strung = body_strung (First G 1) (λ A x f. (first_lookahead G 1 A x f).1.0)

  -- a family of such strings is closed as FOLLOW is to be just where it holds what comes after a nonterminal strung with what can follow the head
  pub follow_strung : (L : Family) → Short 1 L → FollowClosed G 1 (First G 1) L ↔ FollowStrung G (First G 1) L
  follow_strung L short = (
    λ h. record {
      start = h.start;
      follows = λ r m front A b n x s.
          let c = (strung r.head b x).1 s in
          let f = h.follows r m (front ++ (Nonterminal A ∷ b)) n c.1 c.3 in
          rw c.4 ((cuts c.1 (front ++ (Nonterminal A ∷ b))).0 f front b A refl c.0 c.2);
    },
    λ h. record {
      start = h.start;
      follows = λ r m b n y l. (cuts y b).1 (λ front rest A e u f.
          h.follows r m front A rest (rw e at n) (take 1 (u ++ y)) ((strung r.head rest (take 1 (u ++ y))).0 (u, y, f, l, refl)));
    },
  )
    where
      strung : (A : ℕ) (b : Body) (x : List ℕ) → Cut 1 (FirstBody 1 (First G 1) b) (L A) x ↔ Strung (FirstBody 1 (First G 1) b) (L A) x
      strung A b = cut_one (FirstBody 1 (First G 1) b) (L A) (first_body_short 1 (First G 1) b) (short A)

      cuts : (y : List ℕ) (b : Body) → FollowBody 1 (First G 1) L y b ↔ Cuts 1 (First G 1) L y b
      cuts y b = follow_cuts 1 (First G 1) L y b

  -- a rule claims the meeting of its positive bodies' sets strung with FOLLOW of its head
  pub claims_strung : (q A : ℕ) (x : List ℕ) → Claims G 1 (First G 1) (Follow G 1) q A x
      ↔ ((r : Rule) × (get_elem? G.rules q ≡ some r) × (r.head ≡ A) × Strung (Meeting G 1 (First G 1) r) (Follow G 1 A) x)
  claims_strung q A x = (
    λ c. (c.rule, c.numbered, c.heads, (strung c.rule).0 (c.begins, c.behind, (c.lookahead, c.meets), c.follows, c.makes)),
    λ s.
        let c = (strung s.0).1 s.3 in
        record {
          rule = s.0;
          numbered = s.1;
          heads = s.2;
          begins = c.0;
          lookahead = c.2.0;
          meets = c.2.1;
          behind = c.1;
          follows = c.3;
          makes = c.4;
        },
  )
    where
      strung : (r : Rule) → Cut 1 (Meeting G 1 (First G 1) r) (Follow G 1 A) x ↔ Strung (Meeting G 1 (First G 1) r) (Follow G 1 A) x
      strung r = cut_one (Meeting G 1 (First G 1) r) (Follow G 1 A) (λ u m. m.0.0) (follow_short A) x
