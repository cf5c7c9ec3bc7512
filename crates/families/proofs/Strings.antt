-- The lookahead strings over a grammar's terminals as elements of sets, and the first sets of bodies in strings and in numbers.
use mathlib.Core.Path.{◌≡◌, refl, sym, ap, ap₂, ◌∙◌}
use mathlib.Core.Bool.{Bool}
use mathlib.Core.List.{List, [], ◌∷◌, ◌++◌}
use Prim.Native.Nat.{ℕ, ◌≤◌, ◌<◌}
use native.Mathlib.Omega.{arith}
use lib.Dec.{T, eqb, ltb, ltb→lt, lt→ltb, eqb→eq, eqb_refl}
use lib.ListN.{take}
use lib.Seq.{take_all}
use mir.Facts.{and_yes, yes_and}
use Rattle.base.specs.Quantifiers.{all_of}
use Rattle.word.specs.declared.Symbol.{Symbol}
use Rattle.word.specs.declared.Symbol.TheVariants.{Terminal, Nonterminal}
use Rattle.grammar.specs.Syntax.{Body, TerminalsBelow}
use Rattle.base.specs.Strings.{Over, Lookahead as Looked}
use Rattle.semantics.specs.Families.{Family, FirstOf, FirstBody}
use Rattle.lookahead.specs.declared.Lookahead.{Lookahead}
use Rattle.lookahead.specs.Lookaheads.{tokens, elements, nothing, element_of, string_of}
use Rattle.lookahead.specs.inner.Lookaheads.{alphabet, element_after}
use Rattle.lookahead.specs.Elements.{weight, has}
use Rattle.lookahead.specs.inner.Operations.{full}
use Rattle.lookahead.proofs.Strings.{element_string, string_element, element_below, string_short, string_nothing, string_terminal, string_after, after_below}
use Rattle.lookahead.proofs.Strings.{single_looked, some_token, nothing_below, over_wider}
use Rattle.lookahead.proofs.Elements.{bounded}
use Rattle.lookahead.proofs.Operations.{has_end, has_terminal, has_full}
use Rattle.lookahead.proofs.Over.{over_full}
use Rattle.lookahead.proofs.Pairs.{concat_pair}
use Rattle.lookahead.proofs.Concat.{paired}
use Rattle.lookahead.proofs.Weights.{total_bound, has_total}
use Rattle.families.specs.inner.Least.{SetFamily}
use Rattle.families.specs.Sets.{set_number}
use Rattle.families.specs.inner.First.{symbol_first, body_first}

-- a string over t terminals, of which there may be so many, has an element
pub record Stands (k : Lookahead) (x : List ℕ) : Type 0 where
  pub below : element_of k x < elements k
  pub is : x ≡ string_of k (element_of k x)

pub lookahead_string : (k : Lookahead) (t : ℕ) (x : List ℕ) → t ≤ alphabet k → Looked (tokens k) t x → Stands k x
lookahead_string k t x h l =
    let w : Looked (tokens k) (alphabet k) x = (l.0, over_wider t (alphabet k) x h l.1) in
    record { below = element_below k x w; is = sym (string_element k x w) }

-- and no number that is no element has such a string
pub lookahead_bound : (k : Lookahead) (t l : ℕ) → t ≤ alphabet k → Looked (tokens k) t (string_of k l) → l < elements k
lookahead_bound k t l h s = rw (element_string k l) at (lookahead_string k t (string_of k l) h s).below

-- the elements of the full set
pub lookahead_full : (k : Lookahead) (t l : ℕ) → T (has (full k t) l) → Looked (tokens k) t (string_of k l)
lookahead_full k t l s = (string_short k l, (over_full k t l s).1)

pub full_has : (k : Lookahead) (t l : ℕ) → l < elements k → Over t (string_of k l) → T (has (full k t) l)
full_has k t l h o = rw (has_full k t l) (yes_and (ltb l (elements k)) (all_of (λ a. ltb a t) (string_of k l)) (lt→ltb l (elements k) h) o)

-- a string whose element is in a set
abbrev pub StringIn : Lookahead → ℕ → List ℕ → Type 0
StringIn k s x = (l : ℕ) × (l < elements k) × T (has s l) × (x ≡ string_of k l)

-- a family of sets as one of strings
abbrev pub strings_of : Lookahead → SetFamily → Family
strings_of k F A x = StringIn k (F A) x

pub string_in : (k : Lookahead) (s l : ℕ) → l < elements k → T (has s l) → StringIn k s (string_of k l)
string_in k s l h t = (l, h, t, refl)

pub in_element : (k : Lookahead) (s : ℕ) (x : List ℕ) → StringIn k s x → T (has s (element_of k x))
in_element k s x i = rw (i.3, element_string k i.0) i.2

pub in_string : (k : Lookahead) (s l : ℕ) → StringIn k s (string_of k l) → T (has s l)
in_string k s l i = rw (element_string k l) at (in_element k s (string_of k l) i)

-- the number of a set of strings has the elements of the strings that it holds, and no others
module _ (k : Lookahead) (p : List ℕ → Bool) where
  pub number_has : (l : ℕ) → T (has (set_number k p) l) → T (p (string_of k l))
  unfolding set_number
  number_has l t = (and_yes (ltb l (elements k)) (p (string_of k l)) (rw (has_total (elements k) (λ l. p (string_of k l)) l) at t)).1

  pub has_number : (l : ℕ) → l < elements k → T (p (string_of k l)) → T (has (set_number k p) l)
  unfolding set_number
  has_number l h t =
      rw (has_total (elements k) (λ l. p (string_of k l)) l) (yes_and (ltb l (elements k)) (p (string_of k l)) (lt→ltb l (elements k) h) t)

  -- it has no digits above those of elements
  pub number_below : set_number k p < weight (elements k)
  unfolding set_number
  number_below = total_bound (elements k) (λ l. p (string_of k l))

  pub number_element : (l : ℕ) → T (has (set_number k p) l) → l < elements k
  number_element l t = bounded (elements k) (set_number k p) l number_below t

-- the first sets of bodies, in strings and in numbers
module _ (k : Lookahead) (F : SetFamily) (t : ℕ) (few : t ≤ alphabet k) where
  first_terminal : (a : ℕ) → take (tokens k) (a ∷ []) ≡ a ∷ []
  first_terminal a = take_all (tokens k) (a ∷ []) (omega (arith, some_token k))

  symbol_in : (X : Symbol) (b : Body) → TerminalsBelow t (X ∷ b) → (x : List ℕ) → FirstOf (tokens k) (strings_of k F) X x → StringIn k (symbol_first k F X) x
  unfolding symbol_first
  symbol_in (Terminal a) b h x e =
      let low : a < alphabet k = omega (arith, h.0) in
      let l = element_of k (a ∷ []) in (
        l,
        element_below k (a ∷ []) (single_looked k (alphabet k) a low),
        rw (has_terminal k a l) (yes_and (ltb a (alphabet k)) (eqb l l) (lt→ltb a (alphabet k) low) (eqb_refl l)),
        e ∙ first_terminal a ∙ sym (string_terminal k a low),
      )
  symbol_in (Nonterminal A) b h x i = i

  in_symbol : (X : Symbol) (x : List ℕ) → StringIn k (symbol_first k F X) x → FirstOf (tokens k) (strings_of k F) X x
  unfolding symbol_first
  in_symbol (Terminal a) x i =
      let s = and_yes (ltb a (alphabet k)) (eqb i.0 (element_of k (a ∷ []))) (rw (has_terminal k a i.0) at i.2) in
      let e : i.0 ≡ element_of k (a ∷ []) = eqb→eq i.0 (element_of k (a ∷ [])) s.1 in
      i.3 ∙ ap (string_of k) e ∙ string_terminal k a (ltb→lt a (alphabet k) s.0) ∙ sym (first_terminal a)
  in_symbol (Nonterminal A) x i = i

  rest_below : (X : Symbol) (b : Body) → TerminalsBelow t (X ∷ b) → TerminalsBelow t b
  rest_below (Terminal a) b h = h.1
  rest_below (Nonterminal A) b h = h

  pub body_in : (b : Body) → TerminalsBelow t b → (x : List ℕ) → FirstBody (tokens k) (strings_of k F) b x → StringIn k (body_first k F b) x
  unfolding body_first
  body_in [] h x e = (nothing k, nothing_below k, rw (has_end k (nothing k)) (eqb_refl (nothing k)), e ∙ sym (string_nothing k))
  body_in (X ∷ b) h x f =
      let i = symbol_in X b h f.0 f.2 in
      let j = body_in b (rest_below X b h) f.1 f.3 in (
        element_after k i.0 j.0,
        after_below k i.0 j.0 i.1 j.1,
        paired k (symbol_first k F X) (body_first k F b) i.0 j.0 i.1 j.1 i.2 j.2,
        f.4 ∙ ap₂ (λ u y. take (tokens k) (u ++ y)) i.3 j.3 ∙ string_after k i.0 j.0 i.1 j.1,
      )

  pub in_body : (b : Body) (x : List ℕ) → StringIn k (body_first k F b) x → FirstBody (tokens k) (strings_of k F) b x
  unfolding body_first
  in_body [] x i =
      let e : i.0 ≡ nothing k = eqb→eq i.0 (nothing k) (rw (has_end k i.0) at i.2) in
      i.3 ∙ ap (string_of k) e ∙ string_nothing k
  in_body (X ∷ b) x i =
      let p = concat_pair k (symbol_first k F X) (body_first k F b) i.0 i.2 in (
        string_of k p.a,
        string_of k p.b,
        in_symbol X (string_of k p.a) (string_in k (symbol_first k F X) p.a p.a_below p.a_in),
        in_body b (string_of k p.b) (string_in k (body_first k F b) p.b p.b_below p.b_in),
        i.3 ∙ ap (string_of k) (sym p.is_after) ∙ sym (string_after k p.a p.b p.a_below p.b_below),
      )
