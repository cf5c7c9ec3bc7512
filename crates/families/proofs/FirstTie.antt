-- The least family of sets that the rules close is FIRST of the grammar, in numbers.
use Rattle.std.specs.Prelude.{Ok}
use mathlib.Core.Path.{◌≡◌, refl}
use mathlib.Core.List.Memᴰ
use mathlib.Core.List.{List, [], ◌∷◌, Memᴰ}
use Prim.Native.Nat.{ℕ, ◌≤◌, ◌<◌}
use lib.Dec.{T}
use lib.ListN.{length}
use mir.Facts.{yes_and}
use Rattle.grammar.specs.declared.reading.Sizes.{Sizes}
use Rattle.grammar.specs.Limits.{max_nonterminals}
use Rattle.grammar.specs.Syntax.{Body, Rule, Grammar, WellFormed, TerminalsBelow}
use Rattle.grammar.specs.Encoding.{parse, grammar_of}
use Rattle.admission.specs.Admission.{admission}
use Rattle.grammar.proofs.EachIndex.{read_whole}
use Rattle.grammar.proofs.WellFormed.{none_in, more_in}
use Rattle.grammar.proofs.WellRead.{well_read}
use Rattle.base.specs.Strings.{Lookahead as Looked}
use Rattle.semantics.specs.Families.{FirstBody, FirstRule, FirstClosed}
use Rattle.semantics.specs.FirstFollow.{first, First}
use Rattle.semantics.proofs.families.First.{first_body_mono, first_lookahead, first_closed, first_smallest}
use Rattle.lookahead.specs.declared.Lookahead.{Lookahead}
use Rattle.lookahead.specs.Lookaheads.{tokens, elements, element_of, string_of}
use Rattle.lookahead.specs.inner.Lookaheads.{alphabet}
use Rattle.lookahead.specs.Elements.{has}
use Rattle.lookahead.specs.inner.Operations.{full}
use Rattle.lookahead.proofs.Operations.{has_meet}
use Rattle.lookahead.proofs.Order.{meet_left, meet_right}
use Rattle.lookahead.proofs.Over.{over_full}
use Rattle.families.specs.inner.Least.{SetFamily, at, LeastNumbers}
use Rattle.base.specs.Lists.{listed}
use Rattle.families.specs.Sets.{first_number}
use Rattle.families.specs.inner.First.{body_first, rule_first, FirstNumbersClosed}
use Rattle.base.proofs.Lists.{listed_is}
use Rattle.families.proofs.FewTerminals.{admitted_read, few_terminals_lem}
use Rattle.families.proofs.Strings.{lookahead_string, lookahead_full, full_has, StringIn, strings_of, string_in, in_element, body_in, in_body}
use Rattle.families.proofs.Numbers.{number_string, string_number, in_number, least_numbers}

-- an element of a rule's set is one of the full set, and of every positive body's
module _ (k : Lookahead) (t : ℕ) (F : SetFamily) (l : ℕ) where
  rule_has : (bs : List Body) → T (has (full k t) l) → ((b : Body) → Memᴰ b bs → T (has (body_first k F b) l)) → T (has (rule_first k t F bs) l)
  unfolding rule_first
  rule_has [] f h = f
  rule_has (b ∷ bs) f h =
      rw (has_meet (body_first k F b) (rule_first k t F bs) l) (yes_and (has (body_first k F b) l) (has (rule_first k t F bs) l)
      (h b (Memᴰ.head refl)) (rule_has bs f (λ c m. h c (Memᴰ.tail m))))

  has_full_rule : (bs : List Body) → T (has (rule_first k t F bs) l) → T (has (full k t) l)
  unfolding rule_first
  has_full_rule [] s = s
  has_full_rule (b ∷ bs) s = has_full_rule bs (meet_right (body_first k F b) (rule_first k t F bs) l s)

  has_rule : (bs : List Body) → T (has (rule_first k t F bs) l) → (b : Body) → Memᴰ b bs → T (has (body_first k F b) l)
  unfolding rule_first
  has_rule [] s = none_in _
  has_rule (b ∷ bs) s =
      more_in (λ c. T (has (body_first k F c) l)) b bs (meet_left (body_first k F b) (rule_first k t F bs) l s)
      (has_rule bs (meet_right (body_first k F b) (rule_first k t F bs) l s))

module _ (k : Lookahead) (G : Grammar) (formed : WellFormed G) (few : G.terminals ≤ alphabet k) where
  -- what every positive body of a rule can begin with is in the rule's set
  rule_in : (F : SetFamily) (r : Rule) → Memᴰ r G.rules → (x : List ℕ) → Looked (tokens k) G.terminals x → FirstRule (tokens k) (strings_of k F) r x
      → StringIn k (rule_first k G.terminals F r.positives) x
  rule_in F r m x l f =
      let s = lookahead_string k G.terminals x few l in
      let full = full_has k G.terminals (element_of k x) s.below (rw (← s.is) l.1) in (
        element_of k x,
        s.below,
        rule_has k G.terminals F (element_of k x) r.positives full
            (λ b n. in_element k (body_first k F b) x (body_in k F G.terminals few b (below b n) x (f b n))),
        s.is,
      )
    where
      below : (b : Body) → Memᴰ b r.positives → TerminalsBelow G.terminals b
      below b n = formed.terminals r m b (Memᴰ.append_left r.negatives n)

  -- so a closed family of numbers is one of strings, which FIRST is contained in
  strings_closed : (F : SetFamily) → FirstNumbersClosed k G.terminals G.rules F → FirstClosed G (tokens k) (strings_of k F)
  strings_closed F c r m x l f = let i = rule_in F r m x l f in (i.0, i.1, c r m i.0 i.2, i.3)

  -- the set of a body under the numbers of FIRST holds the strings that the body can begin with
  pub body_begins : (b : Body) (l : ℕ) → l < elements k → T (has (body_first k (first_number k G) b) l)
      → FirstBody (tokens k) (First G (tokens k)) b (string_of k l)
  unfolding first_number
  body_begins b l e h =
      first_body_mono (tokens k) (strings_of k (first_number k G)) (First G (tokens k))
      (number_string k G few (first G (tokens k)) (first_lookahead G (tokens k))) b (string_of k l)
      (in_body k (first_number k G) G.terminals few b (string_of k l) (string_in k (body_first k (first_number k G) b) l e h))

  pub begins_body : (b : Body) → TerminalsBelow G.terminals b → (x : List ℕ) → FirstBody (tokens k) (First G (tokens k)) b x
      → StringIn k (body_first k (first_number k G) b) x
  unfolding first_number
  begins_body b t x f =
      body_in k (first_number k G) G.terminals few b t x
      (first_body_mono (tokens k) (First G (tokens k)) (strings_of k (first_number k G))
      (in_number k G few (first G (tokens k)) (first_lookahead G (tokens k))) b x f)

  -- and that of a rule the strings that all its positive bodies can begin with
  pub rule_begins : (r : Rule) (l : ℕ) → T (has (rule_first k G.terminals (first_number k G) r.positives) l)
      → Looked (tokens k) G.terminals (string_of k l) × FirstRule (tokens k) (First G (tokens k)) r (string_of k l)
  rule_begins r l s = (
    lookahead_full k G.terminals l (has_full_rule k G.terminals (first_number k G) l r.positives s),
    λ b n. body_begins b l (over_full k G.terminals l (has_full_rule k G.terminals (first_number k G) l r.positives s)).0
        (has_rule k G.terminals (first_number k G) l r.positives s b n),
  )

  pub begins_rule : (r : Rule) → Memᴰ r G.rules → (x : List ℕ) → Looked (tokens k) G.terminals x → FirstRule (tokens k) (First G (tokens k)) r x
      → StringIn k (rule_first k G.terminals (first_number k G) r.positives) x
  unfolding first_number
  begins_rule r m x l f =
      rule_in (first_number k G) r m x l
      (λ b n. first_body_mono (tokens k) (First G (tokens k)) (strings_of k (first_number k G))
      (in_number k G few (first G (tokens k)) (first_lookahead G (tokens k))) b x (f b n))

  -- so these numbers are a closed family
  numbers_closed : FirstNumbersClosed k G.terminals G.rules (first_number k G)
  unfolding first_number
  numbers_closed r m l s =
      let i = rule_begins r l s in
      string_number k G few (first G (tokens k)) (first_lookahead G (tokens k)) r.head l
      (first_closed G (tokens k) formed.scoped r m (string_of k l) i.0 i.1)

  -- the least closed array of a well-formed grammar holds its FIRST
  pub first_numbers : (l : List ℕ) → LeastNumbers (FirstNumbersClosed k G.terminals G.rules) l → (A : ℕ) → at l A ≡ first_number k G A
  unfolding first_number
  first_numbers l least =
      least_numbers k G few (first G (tokens k)) (first_lookahead G (tokens k)) (FirstNumbersClosed k G.terminals G.rules) numbers_closed l least
      (first_smallest G (tokens k) (strings_of k (at l)) (strings_closed (at l) least.closed))

-- the sets of all terminals and nothing are a closed family, which bounds the others
pub full_closed : (k : Lookahead) (t : ℕ) (rs : List Rule) → FirstNumbersClosed k t rs (λ A. full k t)
full_closed k t rs r m l s = has_full_rule k t (λ A. full k t) l r.positives s

-- and so for the words of a grammar that is admitted
pub first_listed : (k : Lookahead) (words : List ℕ) (z : Sizes) → admission k words ≡ Ok z → (l : List ℕ) → length l ≡ max_nonterminals
    → LeastNumbers (FirstNumbersClosed k z.terminals (parse words).rules) l → l ≡ listed max_nonterminals (first_number k (grammar_of words))
first_listed k words z e l n least =
    let read = admitted_read k words e in
    let w = well_read words z read in
    listed_is max_nonterminals (first_number k (grammar_of words)) l n
    (first_numbers k (grammar_of words) w.formed (few_terminals_lem k words e) l (rw (w.terminals, ← (read_whole words z read).rules) at least))
