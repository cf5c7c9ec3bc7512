-- The closure of what is at the left of the rules is what the nonterminals left-reach, in numbers.
use Rattle.std.specs.Prelude.{Ok}
use mathlib.Core.Path.{◌≡◌, refl, sym, ◌∙◌}
use mathlib.Core.Bool.{Bool, true, false}
use mathlib.Core.List.Memᴰ
use mathlib.Core.List.{List, [], ◌∷◌, Memᴰ}
use mathlib.Core.Logic.{◌↔◌, inl, inr}
use Prim.Native.Nat.{ℕ, ◌≤◌, ◌<◌, min}
use native.Mathlib.Omega.{arith}
use lib.Dec.{T, ltb, eqb→eq, eqb_refl, lt→ltb}
use lib.ListN.{length}
use Rattle.word.specs.declared.Symbol.TheVariants.{Terminal, Nonterminal}
use Rattle.base.specs.Choice.{choose}
use Rattle.grammar.specs.declared.reading.Sizes.{Sizes}
use Rattle.grammar.specs.Limits.{max_nonterminals}
use Rattle.grammar.specs.Reading.{reading}
use Rattle.admission.specs.Admission.{admission}
use Rattle.grammar.specs.Syntax.{Body, Grammar, WellScoped, bodies}
use Rattle.grammar.specs.Encoding.{parse, grammar_of}
use Rattle.grammar.proofs.WellRead.{well_read}
use Rattle.grammar.proofs.EachIndex.{read_whole}
use Rattle.lookahead.specs.declared.Lookahead.{Lookahead}
use Rattle.lookahead.specs.Lookaheads.{tokens, nothing}
use Rattle.lookahead.specs.Elements.{weight, has}
use Rattle.lookahead.specs.inner.Operations.{join}
use Rattle.lookahead.proofs.Strings.{string_nothing, some_token, nothing_below}
use Rattle.lookahead.proofs.Operations.{has_empty, has_join}
use Rattle.lookahead.proofs.Order.{subset_antisym, join_left, join_right}
use Rattle.lookahead.proofs.Powers.{has_pow}
use Rattle.lookahead.proofs.Weights.{has_total}
use Rattle.base.specs.Rounds.{NumberSet}
use Rattle.semantics.specs.FirstFollow.{first}
use Rattle.semantics.specs.LeftRecursion.{nullable, LeftIn, here, there, LeftDepends, LeftReaches, once, more, left_reaches}
use Rattle.base.proofs.Booleans.{T_true, and_r, and_make, or_cases}
use Rattle.semantics.proofs.families.First.{first_lookahead}
use Rattle.semantics.proofs.families.FirstNullable.{first_none}
use Rattle.semantics.proofs.meaning.LeftRecursion.{target_below, left_reaches_iff}
use Rattle.base.specs.Lists.{listed}
use Rattle.families.specs.Sets.{first_number}
use Rattle.families.specs.inner.Sets.{reach_number}
use Rattle.families.specs.inner.Least.{SetFamily, at, LeastNumbers}
use Rattle.families.specs.inner.Left.{empty_in, symbol_left, body_left, bodies_left, LeftClosed}
use Rattle.families.specs.inner.Reach.{closure}
use Rattle.base.proofs.Lists.{listed_is}
use Rattle.families.proofs.Closure.{closure_long, closure_has, GoesOn, closure_least, closure_on}
use Rattle.families.proofs.FewTerminals.{admitted_read, few_terminals_lem}
use Rattle.families.proofs.Numbers.{number_string, string_number, array_at}

-- what is at the left of a body, and of bodies
module _ (s : NumberSet) where
  body_elim : (b : Body) (B : ℕ) → T (has (body_left s b) B) → LeftIn s B b
  unfolding body_left symbol_left
  body_elim [] B t = absurd (rw (has_empty B) at t)
  body_elim (Terminal a ∷ b) B t = absurd (rw (has_empty B) at t)
  body_elim (Nonterminal A ∷ b) B t = go (s A) refl t (body_elim b B)
    where
      own : T (has (weight A) B) → LeftIn s B (Nonterminal A ∷ b)
      own u = rw (eqb→eq B A (rw (has_pow A B) at u)) here

      go : (c : Bool) → s A ≡ c → T (has (choose c (join (weight A) (body_left s b)) (weight A)) B) → (T (has (body_left s b) B) → LeftIn s B b)
          → LeftIn s B (Nonterminal A ∷ b)
      go true e t f = elim (or_cases (has (weight A) B) (has (body_left s b) B) (rw (has_join (weight A) (body_left s b) B) at t)) [
        | inl u ↦ own u
        | inr u ↦ there {C = A} (rw e tt) (f u)
      ]
      go false e t f = own t

  body_make : (b : Body) (B : ℕ) → LeftIn s B b → T (has (body_left s b) B)
  unfolding body_left symbol_left
  body_make [] B x' = elim x' [ ]
  body_make (Terminal _ ∷ b) B x5 = elim x5 [ ]
  body_make (Nonterminal A ∷ b) B here = go (s A)
    where
      own : T (has (weight A) A)
      own = rw (has_pow A A) (eqb_refl A)

      go : (c : Bool) → T (has (choose c (join (weight A) (body_left s b)) (weight A)) A)
      go true = join_left (weight A) (body_left s b) A own
      go false = own
  body_make (Nonterminal A ∷ b) B (there u l) = rw (T_true (s A) u) (join_right (weight A) (body_left s b) B (body_make b B l))

  bodies_elim : (bs : List Body) (B : ℕ) → T (has (bodies_left s bs) B) → (b : Body) × Memᴰ b bs × LeftIn s B b
  unfolding bodies_left
  bodies_elim [] B t = absurd (rw (has_empty B) at t)
  bodies_elim (b ∷ bs) B t = elim (or_cases (has (body_left s b) B) (has (bodies_left s bs) B) (rw (has_join (body_left s b) (bodies_left s bs) B) at t)) [
    | inl o ↦ (b, Memᴰ.head refl, body_elim b B o)
    | inr o ↦ let r = bodies_elim bs B o in (r.0, Memᴰ.tail r.1, r.2)
  ]

  bodies_make : (bs : List Body) (B : ℕ) (b : Body) → Memᴰ b bs → LeftIn s B b → T (has (bodies_left s bs) B)
  unfolding bodies_left
  bodies_make [] B b m l = absurd (Memᴰ.not-nil m)
  bodies_make (c ∷ bs) B b m l = elim (Memᴰ.cases_cons m) [
    | inl e ↦ join_left (body_left s c) (bodies_left s bs) B (body_make c B (rw e at l))
    | inr n ↦ join_right (body_left s c) (bodies_left s bs) B (bodies_make bs B b n l)
  ]

-- nullable nonterminals are at the left of the same bodies
left_same : (s s' : NumberSet) → ((A : ℕ) → T (s A) → T (s' A)) → (B : ℕ) (b : Body) → LeftIn s B b → LeftIn s' B b
left_same s s' f B [] x' = elim x' [ ]
left_same s s' f B (Terminal _ ∷ b) x5 = elim x5 [ ]
left_same s s' f B (Nonterminal C ∷ b) here = here
left_same s s' f B (Nonterminal C ∷ b) (there u l) = there (f C u) (left_same s s' f B b l)

module _ (G : Grammar) (scoped : WellScoped G) (s : NumberSet) (is : (A : ℕ) → T (s A) ↔ T (nullable G A)) where
  -- a closed family has what a nonterminal left-depends on
  depends_in : (D : SetFamily) → LeftClosed s G.rules D → (A B : ℕ) → LeftDepends G A B → T (has (D A) B)
  depends_in D c A B d =
      rw d.heads at (c d.rule d.listed B (bodies_make s (bodies d.rule) B d.body d.held
      (left_same (nullable G) s (λ A. (is A).1) B d.body d.left)))

  -- the numbers of what is left-reached
  number_reaches : (A B : ℕ) → T (has (reach_number G A) B) → LeftReaches G A B
  unfolding reach_number
  number_reaches A B t =
      (left_reaches_iff G scoped A B).0 (and_r (ltb B G.nonterminals) (left_reaches G A B) (rw (has_total G.nonterminals (left_reaches G A) B) at t))

  target : (A B : ℕ) → LeftReaches G A B → B < G.nonterminals
  target A B (once d) = target_below G scoped A B d
  target A B (more {B = C} p d) = target_below G scoped C B d

  reaches_number : (A B : ℕ) → LeftReaches G A B → T (has (reach_number G A) B)
  unfolding reach_number
  reaches_number A B p =
      rw (has_total G.nonterminals (left_reaches G A) B) (and_make (ltb B G.nonterminals) (left_reaches G A B)
      (lt→ltb B G.nonterminals (target A B p)) ((left_reaches_iff G scoped A B).1 p))

  -- are a closed family, and go on where they have come to
  numbers_closed : LeftClosed s G.rules (reach_number G)
  numbers_closed r m B t =
      let i = bodies_elim s (bodies r) B t in
      reaches_number r.head B
      (once (record { rule = r; body = i.0; listed = m; heads = refl; held = i.1; left = left_same s (nullable G) (λ A. (is A).0) B i.0 i.2 }))

  numbers_on : GoesOn (reach_number G)
  numbers_on A B t C u = reaches_number A C (on C (number_reaches B C u))
    where
      on : (C : ℕ) → LeftReaches G B C → LeftReaches G A C
      on C (once d) = more (number_reaches A B t) d
      on C (more {B = D} p d) = more (on D p) d

  -- and what is at the left of each rule leads to them
  module _ (n : ℕ) (all : G.nonterminals ≤ n) (l : List ℕ) (least : LeastNumbers (LeftClosed s G.rules) l) where
    reaches_in : (A B : ℕ) → LeftReaches G A B → T (has (at (closure n l) A) B)
    reaches_in A B (once d) = closure_has n l A B (depends_in (at l) least.closed A B d)
    reaches_in A B (more {B = C} p d) =
        closure_on n l A C (omega (arith, target A C p)) (reaches_in A C p) B (closure_has n l C B (depends_in (at l) least.closed C B d))

    pub reach_numbers : (A : ℕ) → at (closure n l) A ≡ reach_number G A
    reach_numbers A = subset_antisym (at (closure n l) A) (reach_number G A)
        (closure_least n l (reach_number G) (least.least (reach_number G) numbers_closed) numbers_on A) (λ B t. reaches_in A B (number_reaches A B t))

-- the words of a grammar that is admitted, with its first sets
module _ (k : Lookahead) (words : List ℕ) {firsts : List ℕ} {z : Sizes} (taken : admission k words ≡ Ok z)
    (found : firsts ≡ listed max_nonterminals (first_number k (grammar_of words))) where
  read : reading words ≡ Ok z
  read = admitted_read k words taken

  scoped : WellScoped (grammar_of words)
  scoped = (well_read words z read).formed.scoped

  many : (grammar_of words).nonterminals ≤ max_nonterminals
  many = let w = well_read words z read in omega (arith, w.few_nonterminals, w.nonterminals)

  -- nothing is in the first sets of the nullable nonterminals
  nullable_in : (A : ℕ) → T (empty_in k (at firsts) A) ↔ T (nullable (grammar_of words) A)
  unfolding first_number
  nullable_in A =
      let G = grammar_of words in
      let few = few_terminals_lem k words taken in
      let within = first_lookahead G (tokens k) in
      let n = first_none G (tokens k) scoped (some_token k) A in
      rw (found, array_at k G few (first G (tokens k)) within many A) (
        λ t. n.0 (number_string k G few (first G (tokens k)) within A [] (nothing k, nothing_below k, t, sym (string_nothing k))),
        λ t. string_number k G few (first G (tokens k)) within A (nothing k) (rw (string_nothing k) (n.1 t)),
      )

  -- what `reached` returns
  pub reach_listed : {d l : List ℕ} → length d ≡ max_nonterminals → LeastNumbers (LeftClosed (empty_in k (at firsts)) (parse words).rules) d
      → l ≡ closure (min z.nonterminals max_nonterminals) d → l ≡ listed max_nonterminals (reach_number (grammar_of words))
  reach_listed {d} long least e =
      let n = min z.nonterminals max_nonterminals in
      let w = well_read words z read in
      e ∙ listed_is max_nonterminals (reach_number (grammar_of words)) (closure n d) (closure_long n d ∙ long)
      (reach_numbers (grammar_of words) scoped (empty_in k (at firsts)) nullable_in n (omega (arith, w.few_nonterminals, w.nonterminals)) d
      (rw (← (read_whole words z read).rules) at least))
