-- The rules are gone through from the last on: what each adds to the sets claimed once and twice.
use mathlib.Core.Path.{◌≡◌, refl, sym, ap, ap₂, ◌∙◌}
use mathlib.Core.Bool.{Bool, true, false, ◌&&◌, ◌||◌, and_comm, or_comm}
use mathlib.Core.List.{List, [], ◌∷◌}
use Prim.Native.Nat.{ℕ, ◌-◌, ◌≤◌, ◌<◌, ◌%◌}
use native.Mathlib.Decide.{ℕ_discrete}
use native.Mathlib.Nat.{mod-eq_of_lt}
use native.Mathlib.Omega.{arith}
use lib.ListN.{length, get_or, set, replicate, length-set, length-replicate}
use lib.Seq.{get_or-set_same, get_or-set_other}
use Rattle.grammar.specs.Limits.{max_nonterminals}
use Rattle.lookahead.specs.Elements.{has}
use Rattle.lookahead.specs.inner.Operations.{join, meet}
use Rattle.lookahead.proofs.Operations.{has_empty, has_join, has_meet}
use Rattle.base.specs.Quantifiers.{any_of}
use Rattle.base.specs.FiniteSets.{numbers_from, numbers_below}
use Rattle.semantics.specs.Claims.{several}
use Rattle.base.proofs.Lists.{get_d_zeros}
use Rattle.claims.specs.inner.Claims.{claimant}
use Rattle.claim_steps.specs.inner.Steps.{ClaimNoted}
use Rattle.table.specs.inner.Conflicts.{Twice}
use Rattle.claims.proofs.Claimants.{claimant_own, claimant_other, numbers_before}

-- these rules have been gone through
pub record Noting (heads sets told rules once twice : List ℕ) : Type 0 where
  pub long : (length once ≡ max_nonterminals) × (length twice ≡ max_nonterminals)
  pub once_has : (A l : ℕ) → has (get_or once A 0) l ≡ any_of (claimant heads sets A l) rules
  pub twice_has : (A l : ℕ) → has (get_or twice A 0) l ≡ (several (claimant heads sets A l) rules || has (get_or told A 0) l)

-- behind the last rule nothing is claimed
noting_none : (heads sets told : List ℕ) → length told ≡ max_nonterminals → Noting heads sets told [] (replicate max_nonterminals 0) told
unfolding any_of several
noting_none heads sets told long = record {
  long = (length-replicate {A = ℕ} max_nonterminals 0, long);
  once_has = λ A l. rw (get_d_zeros max_nonterminals A) (has_empty l);
  twice_has = λ A l. refl;
}

-- a list whose first member does not pass
any_later : {X : Type 0} (p : X → Bool) (x : X) (l : List X) → p x ≡ false → any_of p (x ∷ l) ≡ any_of p l
unfolding any_of
any_later p x l e = rw e

several_later : {X : Type 0} (p : X → Bool) (x : X) (l : List X) → p x ≡ false → several p (x ∷ l) ≡ several p l
unfolding several
several_later p x l e = rw e

or_turned : (a b c : Bool) → ((a || b) || c) ≡ ((c || a) || b)
or_turned true b c = rw (or_comm c true)
or_turned false true c = rw (or_comm (c || false) true)
or_turned false false true = refl
or_turned false false false = refl

-- one rule more
module _ {heads sets told : List ℕ} (q : ℕ) {rules once twice once' twice' : List ℕ} (f : Noting heads sets told rules once twice)
    (own : get_or heads q 0 < max_nonterminals) (n : ClaimNoted once twice (get_or heads q 0) (get_or sets q 0) once' twice') where
  abbrev head : ℕ
  head = get_or heads q 0

  abbrev claim : ℕ
  claim = get_or sets q 0

  own_once : (l : ℕ) → has (join (get_or once head 0) claim) l ≡ any_of (claimant heads sets head l) (q ∷ rules)
  unfolding any_of
  own_once l =
      has_join (get_or once head 0) claim l ∙ ap₂ ◌||◌ (f.once_has head l) (sym (claimant_own heads sets l q))
      ∙ or_comm (any_of (claimant heads sets head l) rules) (claimant heads sets head l q)

  own_twice : (l : ℕ) → has (join (get_or twice head 0) (meet (get_or once head 0) claim)) l
      ≡ (several (claimant heads sets head l) (q ∷ rules) || has (get_or told head 0) l)
  unfolding several
  own_twice l =
      let p = claimant heads sets head l in
      has_join (get_or twice head 0) (meet (get_or once head 0) claim) l
      ∙ ap₂ ◌||◌ (f.twice_has head l)
      (has_meet (get_or once head 0) claim l ∙ ap₂ ◌&&◌ (f.once_has head l) (sym (claimant_own heads sets l q)) ∙ and_comm (any_of p rules) (p q))
      ∙ or_turned (several p rules) (has (get_or told head 0) l) (p q && any_of p rules)

  noting_rule : Noting heads sets told (q ∷ rules) once' twice'
  noting_rule = record {
    long = (ap length n.first ∙ length-set once head _ ∙ f.long.0, ap length n.again ∙ length-set twice head _ ∙ f.long.1);
    once_has = λ A l. rw n.first (at_once A l (ℕ_discrete A head));
    twice_has = λ A l. rw n.again (at_twice A l (ℕ_discrete A head));
  }
    where
      once_now : ℕ
      once_now = join (get_or once head 0) claim

      twice_now : ℕ
      twice_now = join (get_or twice head 0) (meet (get_or once head 0) claim)

      at_once : (A l : ℕ) → Dec (A ≡ head)
          → has (get_or (set once head (join (get_or once head 0) claim)) A 0) l ≡ any_of (claimant heads sets A l) (q ∷ rules)
      at_once A l (yes e) = rw (e, get_or-set_same once head once_now 0 (omega (arith, f.long.0))) (own_once l)
      at_once A l (no ne) =
          rw (get_or-set_other once head A once_now 0 ne)
          (f.once_has A l ∙ sym (any_later (claimant heads sets A l) q rules (claimant_other heads sets A l q ne)))

      at_twice : (A l : ℕ) → Dec (A ≡ head)
          → has (get_or (set twice head (join (get_or twice head 0) (meet (get_or once head 0) claim))) A 0) l
          ≡ (several (claimant heads sets A l) (q ∷ rules) || has (get_or told A 0) l)
      at_twice A l (yes e) = rw (e, get_or-set_same twice head twice_now 0 (omega (arith, f.long.1))) (own_twice l)
      at_twice A l (no ne) =
          rw (get_or-set_other twice head A twice_now 0 ne)
          (f.twice_has A l
          ∙ ap (λ b. b || has (get_or told A 0) l) (sym (several_later (claimant heads sets A l) q rules (claimant_other heads sets A l q ne))))

-- the same in the loop's numbers, of n rules
pub noting_turn : {heads sets told once twice once' twice' : List ℕ} (q n : ℕ) → Noting heads sets told (numbers_from q (n - q)) once twice → 0 < q → q ≤ n
    → get_or heads (q - 1) 0 < max_nonterminals → ClaimNoted once twice (get_or heads (q - 1) 0 % max_nonterminals) (get_or sets (q - 1) 0) once' twice'
    → Noting heads sets told (numbers_from (q - 1) (n - (q - 1))) once' twice'
noting_turn q n f h k own w = rw (numbers_before q n h k) (noting_rule (q - 1) f own (rw (mod-eq_of_lt own) at w))

pub noting_start : (heads sets told : List ℕ) (n : ℕ) → length told ≡ max_nonterminals
    → Noting heads sets told (numbers_from n (n - n)) (replicate max_nonterminals 0) told
unfolding numbers_from
noting_start heads sets told n long = let e : n - n ≡ 0 = omega arith in rw e (noting_none heads sets told long)

pub noting_end : {heads sets told once twice : List ℕ} (q n : ℕ)
    → Noting heads sets told (numbers_from q (n - q)) once twice → q ≤ 0 → Twice heads sets told n twice
unfolding numbers_below
noting_end q n f h =
    let e : q ≡ 0 = omega arith in
    let d : n - 0 ≡ n = omega arith in
    record { each = λ A l. rw (e, d) at (f.twice_has A l) }
