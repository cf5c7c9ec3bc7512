-- The lines put row by row are those of the entries and nonterminals that are listed, each of which is listed once.
use mathlib.Core.Path.{◌≡◌, refl, sym, ap, ap₂, ◌∙◌}
use mathlib.Core.Bool.{Bool, true, false}
use mathlib.Core.List.{List, [], ◌∷◌, ◌++◌, map, flat_map, append-nil, append_assoc}
use Prim.Native.Nat.{ℕ, zero, suc, ◌+◌, ◌<◌}
use native.Mathlib.Numerals.{add-one}
use native.Mathlib.Omega.{arith}
use lib.Dec.{eqb}
use borrow.Author.Tests.{ne_eqb}
use lib.ListN.{length}
use Rattle.base.specs.Choice.{choose}
use Rattle.base.specs.Quantifiers.{one, count_below}
use Rattle.base.proofs.Quantified.{count_cong, count_first}
use Rattle.grammar.specs.declared.reading.Sizes.{Sizes}
use Rattle.grammar.specs.Syntax.{Grammar}
use Rattle.lookahead.specs.declared.Lookahead.TheVariants.{One}
use Rattle.base.specs.FiniteSets.{Distinct, keep, numbers_from, numbers_below, combine}
use Rattle.semantics.specs.Claims.{overruns}
use Rattle.semantics.specs.FirstFollow.{Entry, entries}
use Rattle.base.specs.Strings.{strings}
use Rattle.base.proofs.Distinct.{distinct_keep, distinct_numbers, distinct_combine, distinct_strings}
use Rattle.columns.specs.Columns.{column_string}
use Rattle.columns.proofs.ColumnStrings.{column_back, columns_strings}
use Rattle.text.specs.Ascii.{ascii}
use Rattle.text.specs.Decimal.{labelled}
use Rattle.text.specs.Writing.{up_to}
use Rattle.gaps_text_promises.specs.Gaps.{claimants, rules_text, gap_text, overrun_text, is_listed, listed_entries, listed_overruns, gaps_lines}
use Rattle.gaps_text_promises.specs.inner.Steps.{claimant_text, numbers_text, claimants_text, entry_line, row_text, overrun_line, overruns_text, lines_text}
use Rattle.gaps_text_promises.specs.inner.Steps.{claims_at}

-- texts of numbers in order that agree
pub up_to_same : (n : ℕ) (f g : ℕ → List ℕ) → ((i : ℕ) → i < n → f i ≡ g i) → up_to n f ≡ up_to n g
unfolding up_to
up_to_same zero f g h = refl
up_to_same (suc n) f g h = ap₂ ◌++◌ (up_to_same n f g (λ i l. h i (omega arith))) (h n (omega arith))

-- the texts of the numbers below n are those of the list of them
module _ (f : ℕ → List ℕ) where
  flat_last : (a n : ℕ) → flat_map f (numbers_from a (suc n)) ≡ flat_map f (numbers_from a n) ++ f (a + n)
  unfolding flat_map numbers_from
  flat_last a zero = let e : a + 0 ≡ a = omega arith in rw e (append-nil (f a))
  flat_last a (suc n) =
      let e : suc a + n ≡ a + suc n = omega arith in
      ap (λ l. f a ++ l) (rw e at (flat_last (suc a) n)) ∙ sym (append_assoc (f a) (flat_map f (numbers_from (suc a) n)) (f (a + suc n)))

  up_to_flat : (n : ℕ) → up_to n f ≡ flat_map f (numbers_below n)
  unfolding up_to numbers_below flat_map numbers_from
  up_to_flat zero = refl
  up_to_flat (suc n) = let e : 0 + n ≡ n = omega arith in ap (λ l. l ++ f n) (up_to_flat n) ∙ sym (rw e at (flat_last 0 n))

-- members that do not pass have no text
flat_keep : {X : Type 0} (p : X → Bool) (f : X → List ℕ) (l : List X) → flat_map (λ x. choose (p x) (f x) []) l ≡ flat_map f (keep p l)
unfolding flat_map keep
flat_keep p f [] = refl
flat_keep p f (x ∷ l) = go (p x) (flat_keep p f l)
  where
    go : (b : Bool) → flat_map (λ x. choose (p x) (f x) []) l ≡ flat_map f (keep p l)
        → choose b (f x) [] ++ flat_map (λ x. choose (p x) (f x) []) l ≡ flat_map f (elim b [ true ↦ x ∷ keep p l | false ↦ keep p l ])
    go true e = ap (λ m. f x ++ m) e
    go false e = e

-- the texts of pairs, and those of a row of values
module _ {X Y Z : Type 0} (f : X → Y → Z) (g : Z → List ℕ) where
  flat_row : (x : X) (ys : List Y) (zs : List Z) → flat_map g (map (f x) ys ++ zs) ≡ flat_map (λ y. g (f x y)) ys ++ flat_map g zs
  unfolding flat_map
  flat_row x [] zs = refl
  flat_row x (y ∷ ys) zs =
      ap (λ l. g (f x y) ++ l) (flat_row x ys zs) ∙ sym (append_assoc (g (f x y)) (flat_map (λ y. g (f x y)) ys) (flat_map g zs))

  flat_combine : (xs : List X) (ys : List Y) → flat_map g (combine f xs ys) ≡ flat_map (λ x. flat_map (λ y. g (f x y)) ys) xs
  unfolding flat_map combine
  flat_combine [] ys = refl
  flat_combine (x ∷ xs) ys = flat_row x ys (combine f xs ys) ∙ ap (λ l. flat_map (λ y. g (f x y)) ys ++ l) (flat_combine xs ys)

flat_map_lem : {X Y : Type 0} (f : X → Y) (g : Y → List ℕ) (l : List X) → flat_map g (map f l) ≡ flat_map (λ x. g (f x)) l
unfolding flat_map
flat_map_lem f g [] = refl
flat_map_lem f g (x ∷ l) = ap (λ m. g (f x) ++ m) (flat_map_lem f g l)

-- how many numbers pass, by the list of those that do
count_from : (a n : ℕ) (p : ℕ → Bool) → length (keep p (numbers_from a n)) ≡ count_below n (λ q. p (a + q))
unfolding keep numbers_from count_below
count_from a zero p = refl
count_from a (suc n) p =
    let e : a + 0 ≡ a = omega arith in
    let d = count_cong n (λ q. p (suc a + q)) (λ q. p (a + suc q)) (λ q l. let e : suc a + q ≡ a + suc q = omega arith in ap p e) in
    rw (count_first n (λ q. p (a + q)), e) (go (p a) (count_from (suc a) n p ∙ d))
  where
    go : (b : Bool) → length (keep p (numbers_from (suc a) n)) ≡ count_below n (λ q. p (a + suc q))
        → length {A = ℕ} (elim b as (λ _. List ℕ) [ true ↦ a ∷ keep p (numbers_from (suc a) n) | false ↦ keep p (numbers_from (suc a) n) ])
        ≡ one b + count_below n (λ q. p (a + suc q))
    go true h = omega arith
    go false h = omega arith

pub count_kept : (n : ℕ) (p : ℕ → Bool) → count_below n p ≡ length (keep p (numbers_below n))
unfolding numbers_below
count_kept n p = count_cong n p (λ q. p (0 + q)) (λ q l. let e : q ≡ 0 + q = omega arith in ap p e) ∙ sym (count_from 0 n p)

-- the rules of a line
rules_are : (n : ℕ) (p : ℕ → Bool) → claimants_text n p ≡ rules_text (keep p (numbers_below n))
unfolding claimants_text numbers_text claimant_text
rules_are n p =
    rw (count_kept n p, up_to_flat (λ q. choose (p q) (labelled " " q) []) n, flat_keep p (labelled " ") (numbers_below n)) (go (keep p (numbers_below n)))
  where
    go : (l : List ℕ) → choose (eqb (length l) 0) (ascii " -") (flat_map (labelled " ") l) ≡ rules_text l
    go [] = refl
    go (q ∷ qs) = rw (ne_eqb (suc (length qs)) 0 (λ e. omega arith))

module _ (G : Grammar) where
  -- the line of an entry, unless just one rule claims it
  abbrev listed_text : Entry → List ℕ
  listed_text e = choose (is_listed (claimants G e)) (gap_text G e) []

  line_is : (A c : ℕ) → c < suc G.terminals → entry_line (length G.rules) (claims_at G A c) A c ≡ listed_text (A, column_string One G.terminals c)
  unfolding entry_line gap_text claimants
  line_is A c h =
      let p = claims_at G A c in
      rw (column_back One G.terminals c, count_kept (length G.rules) p, rules_are (length G.rules) p)

  row_is : (A : ℕ) → up_to (suc G.terminals) (λ c. entry_line (length G.rules) (claims_at G A c) A c)
      ≡ flat_map (λ x. listed_text (A, x)) (strings 1 G.terminals)
  row_is A =
      let t = G.terminals in
      up_to_same (suc t) _ (λ c. listed_text (A, column_string One t c)) (λ c h. line_is A c h)
      ∙ up_to_flat (λ c. listed_text (A, column_string One t c)) (suc t)
      ∙ sym (flat_map_lem (column_string One t) (λ x. listed_text (A, x)) (numbers_below (suc t)))
      ∙ ap (flat_map (λ x. listed_text (A, x))) (sym (columns_strings t))

  rows_are : up_to G.nonterminals (λ A. flat_map (λ x. listed_text (A, x)) (strings 1 G.terminals)) ≡ flat_map (gap_text G) (listed_entries G)
  unfolding listed_entries entries
  rows_are =
      up_to_flat (λ A. flat_map (λ x. listed_text (A, x)) (strings 1 G.terminals)) G.nonterminals
      ∙ sym (flat_combine (λ A x. (A, x)) listed_text (numbers_below G.nonterminals) (strings 1 G.terminals))
      ∙ flat_keep (λ e. is_listed (claimants G e)) (gap_text G) (combine (λ A x. (A, x)) (numbers_below G.nonterminals) (strings 1 G.terminals))

  -- all lines of a grammar of these sizes
  pub lines_are : (z : Sizes) → z.nonterminals ≡ G.nonterminals → z.terminals ≡ G.terminals → z.rules ≡ length G.rules
      → lines_text z (claims_at G) (overruns G 1) ≡ gaps_lines G
  unfolding lines_text row_text overruns_text overrun_line gaps_lines listed_overruns
  lines_are z n t r =
      rw n
      (ap₂ ◌++◌ (up_to_same G.nonterminals (row_text z (claims_at G)) _ (λ A a. row A) ∙ rows_are)
      (up_to_flat (λ A. choose (overruns G 1 A) (overrun_text A) []) G.nonterminals ∙ flat_keep (overruns G 1) overrun_text (numbers_below G.nonterminals)))
    where
      row : (A : ℕ) → row_text z (claims_at G) A ≡ flat_map (λ x. listed_text (A, x)) (strings 1 G.terminals)
      row A = rw (t, r, add-one G.terminals) (row_is A)

-- each is listed once
pub entries_once : (G : Grammar) → Distinct (listed_entries G)
unfolding listed_entries entries
entries_once G =
    distinct_keep (λ e. is_listed (claimants G e)) (combine (λ A x. (A, x)) (numbers_below G.nonterminals) (strings 1 G.terminals))
    (distinct_combine (λ A x. (A, x)) (λ A B x y e. ap (λ d. d.0) e) (λ A B x y e. ap (λ d. d.1) e)
    (numbers_below G.nonterminals) (strings 1 G.terminals)
    (distinct_numbers G.nonterminals) (distinct_strings 1 G.terminals))

pub overruns_once : (G : Grammar) → Distinct (listed_overruns G)
unfolding listed_overruns
overruns_once G = distinct_keep (overruns G 1) (numbers_below G.nonterminals) (distinct_numbers G.nonterminals)
