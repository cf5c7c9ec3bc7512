-- FIRST_k and FOLLOW_k, computed from the grammar as the least families that its rules close.
use Rattle.std.specs.Prelude.{Bool, true, false, ◌&&◌, ◌||◌, List, [], ◌∷◌, ◌++◌, ℕ, T, eqb, take}
use Rattle.word.specs.declared.Symbol.{Symbol}
use Rattle.word.specs.declared.Symbol.TheVariants.{Terminal, Nonterminal}
use Rattle.grammar.specs.Syntax.{Body, Rule, Grammar, bodies}
use Rattle.base.specs.Quantifiers.{any_of, all_of}
use Rattle.base.specs.FiniteSets.{member, keep, distinct, numbers_below, combine}
use Rattle.base.specs.Rounds.{least}
use Rattle.base.specs.Strings.{strings, same_string}
use Rattle.semantics.specs.Families.{Family}

-- the concatenation of two sets, cut to k (document 01: stringing)
unfoldable pub concat_strings : ℕ → List (List ℕ) → List (List ℕ) → List (List ℕ)
concat_strings k us ys = distinct same_string (combine (λ u y. take k (u ++ y)) us ys)

-- a nonterminal and a string
abbrev pub Entry : Type 0
Entry = ℕ × List ℕ

unfoldable pub same_entry : Entry → Entry → Bool
same_entry e d = eqb e.0 d.0 && same_string e.1 d.1

unfoldable pub entries : Grammar → ℕ → List Entry
entries G k = combine (λ A x. (A, x)) (numbers_below G.nonterminals) (strings k G.terminals)

-- for each nonterminal a finite set of strings
abbrev pub Sets : Type 0
Sets = ℕ → List (List ℕ)

-- the entries that pass, by nonterminal
unfoldable pub sets_of : Grammar → ℕ → (Entry → Bool) → Sets
sets_of G k p A = keep (λ x. p (A, x)) (strings k G.terminals)

unfoldable pub first_of_symbol : ℕ → Sets → Symbol → List (List ℕ)
first_of_symbol k s (Terminal a) = take k (a ∷ []) ∷ []
first_of_symbol k s (Nonterminal A) = s A

unfoldable pub first_body : ℕ → Sets → Body → List (List ℕ)
first_body k s [] = [] ∷ []
first_body k s (X ∷ b) = concat_strings k (first_of_symbol k s X) (first_body k s b)

-- in the set of every positive body
unfoldable pub first_rule : ℕ → Sets → Rule → List ℕ → Bool
first_rule k s r x = all_of (λ b. member same_string (first_body k s b) x) r.positives

unfoldable pub first_step : Grammar → ℕ → (Entry → Bool) → Entry → Bool
first_step G k p e = any_of (λ r. eqb r.head e.0 && first_rule k (sets_of G k p) r e.1) G.rules

-- FIRST_k (document 01, k = 1: first sets)
unfoldable pub first : Grammar → ℕ → Entry → Bool
first G k = least same_entry (entries G k) (first_step G k)

unfoldable pub first_sets : Grammar → ℕ → Sets
first_sets G k = sets_of G k (first G k)

-- what can stand after A in a body that one of ys follows
unfoldable pub behind : ℕ → Sets → ℕ → List (List ℕ) → Body → List (List ℕ)
behind k s A ys [] = []
behind k s A ys (Terminal a ∷ b) = behind k s A ys b
behind k s A ys (Nonterminal B ∷ b) = elim (eqb A B) [ true ↦ concat_strings k (first_body k s b) ys ++ behind k s A ys b | false ↦ behind k s A ys b ]

-- the end follows the start, and after a nonterminal of a body, positive or negative, stands what its rest and the head's set allow
unfoldable pub follow_step : Grammar → ℕ → (Entry → Bool) → Entry → Bool
follow_step G k p e =
    same_entry e (0, []) || any_of (λ r. any_of (λ b. member same_string (behind k (first_sets G k) e.0 (sets_of G k p r.head) b) e.1) (bodies r)) G.rules

-- FOLLOW_k (document 01, k = 1: follow sets)
unfoldable pub follow : Grammar → ℕ → Entry → Bool
follow G k = least same_entry (entries G k) (follow_step G k)

unfoldable pub follow_sets : Grammar → ℕ → Sets
follow_sets G k = sets_of G k (follow G k)

-- the same as families
abbrev pub First : Grammar → ℕ → Family
First G k A x = T (first G k (A, x))

abbrev pub Follow : Grammar → ℕ → Family
Follow G k A x = T (follow G k (A, x))
