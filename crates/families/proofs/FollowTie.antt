-- The least family of sets that the bodies close is FOLLOW of the grammar, in numbers.
use Rattle.std.specs.Prelude.{Ok}
use mathlib.Core.Path.{◌≡◌, sym, ap₂, subst, fun_ext, ◌∙◌}
use mathlib.Core.List.{List, [], ◌∷◌, ◌++◌}
use Prim.Native.Nat.{ℕ, ◌≤◌, ◌<◌}
use native.Mathlib.Omega.{arith}
use lib.Dec.{eqb→eq, eqb_refl}
use lib.ListN.{length, take}
use Rattle.word.specs.declared.Symbol.TheVariants.{Terminal, Nonterminal}
use Rattle.grammar.specs.declared.reading.Sizes.{Sizes}
use Rattle.grammar.specs.Limits.{max_nonterminals}
use Rattle.grammar.specs.Syntax.{Body, Rule, Grammar, WellFormed, TerminalsBelow}
use Rattle.grammar.specs.Encoding.{parse, grammar_of}
use Rattle.grammar.proofs.EachIndex.{read_whole}
use Rattle.grammar.proofs.WellRead.{well_read}
use Rattle.semantics.specs.Families.{FirstBody, FollowBody, FollowClosed}
use Rattle.semantics.specs.FirstFollow.{first, follow, First, Follow}
use Rattle.semantics.proofs.families.First.{first_lookahead}
use Rattle.semantics.proofs.families.Follow.{follow_lookahead, follow_closed, follow_smallest}
use Rattle.lookahead.specs.declared.Lookahead.{Lookahead}
use Rattle.lookahead.specs.Lookaheads.{tokens, nothing, string_of}
use Rattle.lookahead.specs.inner.Lookaheads.{alphabet, element_after}
use Rattle.lookahead.specs.inner.Elements.{Subset}
use Rattle.lookahead.specs.inner.Operations.{end, full, concat_numbers}
use Rattle.lookahead.proofs.Strings.{string_nothing, string_after, after_below, nothing_below}
use Rattle.lookahead.proofs.Operations.{has_end}
use Rattle.lookahead.proofs.Over.{bound_over, over_end, full_greatest}
use Rattle.lookahead.proofs.Pairs.{concat_pair}
use Rattle.lookahead.proofs.Concat.{paired, concat_bound}
use Rattle.admission.specs.Admission.{admission}
use Rattle.families.specs.inner.Least.{SetFamily, at, LeastNumbers}
use Rattle.base.specs.Lists.{listed}
use Rattle.families.specs.Sets.{first_number, follow_number}
use Rattle.families.specs.inner.First.{body_first}
use Rattle.families.specs.inner.Follow.{FollowNumbersBody, FollowNumbersClosed}
use Rattle.families.proofs.FewTerminals.{admitted_read, few_terminals_lem}
use Rattle.base.proofs.Lists.{listed_is}
use Rattle.families.proofs.Strings.{StringIn, strings_of}
use Rattle.families.proofs.Numbers.{array_at, element_passes, string_number, least_numbers}
use Rattle.families.proofs.FirstTie.{body_begins, begins_body}

module _ (k : Lookahead) (G : Grammar) (formed : WellFormed G) (few : G.terminals ≤ alphabet k) (some : 0 < G.nonterminals) where
  -- a closed family of numbers is one of strings, which FOLLOW is contained in
  strings_body : (L : SetFamily) (B : ℕ) (y : List ℕ) → StringIn k (L B) y → (b : Body) → TerminalsBelow G.terminals b
      → FollowNumbersBody k (first_number k G) (L B) L b
      → FollowBody (tokens k) (First G (tokens k)) (strings_of k L) y b
  strings_body L B y i [] t f = tt
  strings_body L B y i (Terminal a ∷ b) t f = strings_body L B y i b t.1 f
  strings_body L B y i (Nonterminal A ∷ b) t f = (behind, strings_body L B y i b t f.1)
    where
      behind : (u : List ℕ) → FirstBody (tokens k) (First G (tokens k)) b u → StringIn k (L A) (take (tokens k) (u ++ y))
      behind u h =
          let j = begins_body k G formed few b t u h in (
            element_after k j.0 i.0,
            after_below k j.0 i.0 j.1 i.1,
            f.0 (element_after k j.0 i.0) (paired k (body_first k (first_number k G) b) (L B) j.0 i.0 j.1 i.1 j.2 i.2),
            ap₂ (λ v z. take (tokens k) (v ++ z)) j.3 i.3 ∙ string_after k j.0 i.0 j.1 i.1,
          )

  strings_closed : (L : SetFamily) → FollowNumbersClosed k (first_number k G) G.rules L → FollowClosed G (tokens k) (First G (tokens k)) (strings_of k L)
  strings_closed L c = record {
    start = (nothing k, nothing_below k, c.start (nothing k) (rw (has_end k (nothing k)) (eqb_refl (nothing k))), sym (string_nothing k));
    follows = λ r m b n y i. strings_body L r.head y i b (formed.terminals r m b n) (c.follows r m b n);
  }

  -- and the numbers of FOLLOW are a closed family
  numbers_body : (B : ℕ) (b : Body) → ((y : List ℕ) → Follow G (tokens k) B y → FollowBody (tokens k) (First G (tokens k)) (Follow G (tokens k)) y b)
      → FollowNumbersBody k (first_number k G) (follow_number k G B) (follow_number k G) b
  unfolding follow_number
  numbers_body B [] f = tt
  numbers_body B (Terminal a ∷ b) f = numbers_body B b f
  numbers_body B (Nonterminal A ∷ b) f = (behind, numbers_body B b (λ y h. (f y h).1))
    where
      behind : Subset (concat_numbers k (body_first k (first_number k G) b) (follow_number k G B)) (follow_number k G A)
      behind l s =
          let p = concat_pair k (body_first k (first_number k G) b) (follow_number k G B) l s in
          let y = element_passes k G few (follow G (tokens k)) (follow_lookahead G (tokens k)) B p.b p.b_in in
          let x = (f (string_of k p.b) y).0 (string_of k p.a) (body_begins k G formed few b p.a p.a_below p.a_in) in
          string_number k G few (follow G (tokens k)) (follow_lookahead G (tokens k)) A l
          (rw (string_after k p.a p.b p.a_below p.b_below, p.is_after) at x)

  numbers_closed : FollowNumbersClosed k (first_number k G) G.rules (follow_number k G)
  unfolding follow_number
  numbers_closed =
      let c = follow_closed G (tokens k) formed.scoped formed.terminals some in
      record {
        start = λ l s. string_number k G few (follow G (tokens k)) (follow_lookahead G (tokens k)) 0 l
            (rw (eqb→eq l (nothing k) (rw (has_end k l) at s), string_nothing k) c.start);
        follows = λ r m b n. numbers_body r.head b (c.follows r m b n);
      }

  -- the least closed array of a well-formed grammar holds its FOLLOW
  pub follow_numbers : (l : List ℕ) → LeastNumbers (FollowNumbersClosed k (first_number k G) G.rules) l → (A : ℕ) → at l A ≡ follow_number k G A
  unfolding follow_number
  follow_numbers l least =
      least_numbers k G few (follow G (tokens k)) (follow_lookahead G (tokens k)) (FollowNumbersClosed k (first_number k G) G.rules) numbers_closed l least
      (follow_smallest G (tokens k) (strings_of k (at l)) (strings_closed (at l) least.closed))

-- the set of all elements contains every concatenation, and so is a closed family, which bounds the others
full_body : (k : Lookahead) (F : SetFamily) (b : Body) → FollowNumbersBody k F (full k (alphabet k)) (λ A. full k (alphabet k)) b
full_body k F [] = tt
full_body k F (Terminal a ∷ b) = full_body k F b
full_body k F (Nonterminal A ∷ b) =
    let all = full k (alphabet k) in
    let set = concat_numbers k (body_first k F b) all in
    (full_greatest k (alphabet k) set (bound_over k set (concat_bound k (body_first k F b) all)), full_body k F b)

pub full_closed : (k : Lookahead) (F : SetFamily) (rs : List Rule) → FollowNumbersClosed k F rs (λ A. full k (alphabet k))
full_closed k F rs =
    record { start = full_greatest k (alphabet k) (end k) (over_end k (alphabet k)); follows = λ r m b n. full_body k F b }

-- and so for the words of a grammar that is admitted, and the array of its first sets
module _ (k : Lookahead) (words : List ℕ) (z : Sizes) (e : admission k words ≡ Ok z) (firsts : List ℕ)
    (f : firsts ≡ listed max_nonterminals (first_number k (grammar_of words))) where
  firsts_at : (A : ℕ) → at firsts A ≡ first_number k (grammar_of words) A
  unfolding first_number
  firsts_at A =
      let w = well_read words z (admitted_read k words e) in
      let many : (grammar_of words).nonterminals ≤ max_nonterminals = omega (arith, w.few_nonterminals, w.nonterminals) in
      rw f (array_at k (grammar_of words) (few_terminals_lem k words e) (first (grammar_of words) (tokens k))
      (first_lookahead (grammar_of words) (tokens k)) many A)

  pub follow_listed : (l : List ℕ) → length l ≡ max_nonterminals → LeastNumbers (FollowNumbersClosed k (at firsts) (parse words).rules) l
      → l ≡ listed max_nonterminals (follow_number k (grammar_of words))
  follow_listed l n least =
      let read = admitted_read k words e in
      let w = well_read words z read in
      let some : 0 < (grammar_of words).nonterminals = omega (arith, w.some_nonterminal, w.nonterminals) in
      let same : LeastNumbers (FollowNumbersClosed k (first_number k (grammar_of words)) (parse words).rules) l =
      subst (λ (F : SetFamily). LeastNumbers (FollowNumbersClosed k F (parse words).rules) l) (fun_ext firsts_at) least in
      listed_is max_nonterminals (follow_number k (grammar_of words)) l n
      (follow_numbers k (grammar_of words) w.formed (few_terminals_lem k words e) some l (rw (← (read_whole words z read).rules) at same))
