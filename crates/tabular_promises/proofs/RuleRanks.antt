-- The rules one by one from the last on: the rank of each one's nonterminal, and what those of one rank give a span to.
use mathlib.Core.Path.{◌≡◌, refl, sym, ap, ◌∙◌}
use mathlib.Core.Bool.{Bool, true, false, ◌&&◌, ◌||◌, or_comm, or-false, and-true, and-false}
use mathlib.Core.List.{List, [], ◌∷◌}
use mathlib.Core.Option.{some}
use Prim.Native.Nat.{ℕ, zero, suc, ◌+◌, ◌-◌, ◌%◌, ◌^◌, ◌≤◌, ◌<◌}
use native.Mathlib.Decide.{ℕ_discrete}
use native.Mathlib.Nat.{mod-eq_of_lt}
use native.Mathlib.Numerals.{add-one}
use native.Mathlib.Omega.{arith}
use lib.Bits.{bit_or}
use lib.Count.{ones}
use lib.Dec.{eqb, eqb→eq}
use lib.ListN.{length, get_or, drop, get_elem?, set, replicate, length-set, length-replicate, drop_of_length-le, get_or-eq_default}
use lib.Seq.{get_or-set_same, get_or-set_other}
use borrow.Author.Tests.{eq-eqb, ne_eqb, lt-ltb}
use Rattle.base.specs.Choice.{choose}
use Rattle.base.specs.Quantifiers.{any_of}
use Rattle.base.proofs.Booleans.{true_T}
use Rattle.word.specs.declared.Word.{Word}
use Rattle.word.specs.Words.{decoded, of_kind}
use Rattle.grammar.specs.Limits.{max_nonterminals, max_rules}
use Rattle.grammar.specs.Syntax.{Grammar}
use Rattle.grammar.specs.Encoding.{parse, grammar_of}
use Rattle.grammar.specs.inner.WellRead.{head_of}
use Rattle.grammar.specs.declared.reading.Sizes.{Sizes}
use Rattle.grammar.proofs.EachIndex.{read_whole}
use Rattle.grammar.proofs.WellRead.{well_read}
use Rattle.lookahead.specs.Elements.{has, total_weight}
use Rattle.lookahead.proofs.Elements.{has_or, has_zero}
use Rattle.lookahead.proofs.Powers.{has_pow}
use Rattle.lookahead.proofs.Size.{ones_count, count_cong}
use Rattle.lookahead.proofs.Weights.{total_bound, has_total}
use Rattle.semantics.specs.LeftRecursion.{left_reaches, rank}
use Rattle.semantics.specs.Valuations.{derives, by_rules}
use Rattle.semantics.proofs.meaning.Rank.{rank_below}
use Rattle.families.specs.inner.Rules.{rule_end}
use Rattle.families.specs.inner.Sets.{reach_number}
use Rattle.base.proofs.Lists.{listed_at, get_d_zeros}
use Rattle.families.proofs.RuleRanges.{rule_in, rule_is}
use Rattle.families.proofs.HeadPasses.{pass_first, its_words}
use Rattle.tabular_promises.specs.inner.Chart.{charted, with_nonterminal}
use Rattle.tabular_promises.specs.inner.Scanning.{Scannable, holds, Keeps, keeps_by, head_at, asked_from, asked_by}
use Rattle.tabular_promises.specs.inner.Filling.{RulesGiven, rule_numbered, rule_rank, RanksGiven, LastOf, ByRank, AskGiven, Asked, SpanDerived}
use Rattle.tabular_promises.specs.inner.Filling.{rank_by, lasts_to, befores_to, FillGiven}
use Rattle.tabular_promises.proofs.Charts.{with_nonterminal_lem}
use Rattle.tabular_promises.proofs.Scans.{keeps_right, none_such, none_between}

module _ {words starts : List ℕ} {z : Sizes} (k : RulesGiven words starts z) {q : ℕ} (h : q < z.rules) where
  head_is : {w : Word} {head : ℕ} → w ≡ decoded (get_or words (get_or starts q 0) 0) → head ≡ head_of w → head ≡ (rule_numbered words q).head
  head_is e f = f ∙ rw (e, k.begins, rule_is words z k.read q h)

  head_low : {w : Word} {head : ℕ} → w ≡ decoded (get_or words (get_or starts q 0) 0) → head ≡ head_of w → head < max_nonterminals
  head_low e f =
      let y = well_read words z k.read in
      let m = rw (← (read_whole words z k.read).rules) at (rule_in words z k.read q h) in
      omega (arith, head_is e f, y.formed.scoped.heads _ m, y.few_nonterminals, y.nonterminals)

-- the ones of the set that a nonterminal left-reaches are its rank
ones_rank : (G : Grammar) (A : ℕ) → ones (reach_number G A) ≡ rank G A
unfolding reach_number rank
ones_rank G A =
    ones_count G.nonterminals (total_weight G.nonterminals (left_reaches G A)) (total_bound G.nonterminals (left_reaches G A))
    ∙ count_cong G.nonterminals (has (total_weight G.nonterminals (left_reaches G A))) (left_reaches G A)
    (λ l b. has_total G.nonterminals (left_reaches G A) l ∙ rw (lt-ltb l G.nonterminals b))

-- the first i rules have been told by rank
record RankedTo (words lasts befores : List ℕ) (i : ℕ) : Type 0 where
  pub ranks : length lasts ≡ max_nonterminals
  pub rules : length befores ≡ max_rules
  pub last : (r : ℕ) → r < max_nonterminals → LastOf words r i (get_or lasts r 0)
  pub before : (q : ℕ) → q < i → LastOf words (rule_rank words q) q (get_or befores q 0)

ranked_start : (words : List ℕ) (m n : ℕ) → m ≡ max_nonterminals → n ≡ max_rules → RankedTo words (replicate m 0) (replicate n 0) 0
ranked_start words m n d e = record {
  ranks = length-replicate {A = ℕ} m 0 ∙ d;
  rules = length-replicate {A = ℕ} n 0 ∙ e;
  last = λ r h. rw (get_d_zeros m r) record { within = omega arith; its = λ q f. absurd (omega arith); others = λ q l b f. absurd (omega arith) };
  before = λ q h. absurd (omega arith);
}

-- one rule more
module _ {words starts reaches : List ℕ} {z : Sizes} (g : RanksGiven words starts z reaches) {i head : ℕ} {w : Word} (l : i < z.rules)
    (e : w ≡ decoded (get_or words (get_or starts i 0) 0)) (f : head ≡ head_of w) where
  abbrev x : ℕ
  x = ones (get_or reaches head 0)

  rank_told : x ≡ rule_rank words i
  rank_told =
      ap ones (ap (λ (x : List ℕ). get_or x head 0) g.reached ∙ listed_at max_nonterminals (reach_number (grammar_of words)) head (head_low g.rules l e f))
      ∙ ones_rank (grammar_of words) head ∙ ap (rank (grammar_of words)) (head_is g.rules l e f)

  rank_low : x < max_nonterminals
  rank_low =
      let y = well_read words z g.rules.read in
      let m = rw (← (read_whole words z g.rules.read).rules) at (rule_in words z g.rules.read i l) in
      omega (arith, rank_told, rank_below (grammar_of words) y.formed.scoped g.free _ (y.formed.scoped.heads _ m), y.few_nonterminals, y.nonterminals)

  ranked_more : {lasts befores lasts' befores' : List ℕ} → RankedTo words lasts befores i
      → befores' ≡ set befores i (get_or lasts x 0) → lasts' ≡ set lasts x (i + 1)
      → RankedTo words lasts' befores' (i + 1)
  ranked_more {lasts} {befores} {lasts'} {befores'} h c d = record {
    ranks = rw (d, length-set lasts x (i + 1)) h.ranks;
    rules = rw (c, length-set befores i (get_or lasts x 0)) h.rules;
    last = λ r b. rw d (last r b (ℕ_discrete r x));
    before = λ q b. rw c (before q b (ℕ_discrete q i));
  }
    where
      last : (r : ℕ) → r < max_nonterminals → Dec (r ≡ x) → LastOf words r (i + 1) (get_or (set lasts x (i + 1)) r 0)
      last r b (yes s) = rw (s, get_or-set_same lasts x (i + 1) 0 (omega (arith, h.ranks, rank_low))) record {
        within = omega arith;
        its = λ q o. let t : q ≡ i = omega arith in rw t (sym rank_told);
        others = λ q o p t. absurd (omega arith);
      }
      last r b (no s) = rw (get_or-set_other lasts x r (i + 1) 0 s) (let o = h.last r b in record {
        within = omega (arith, o.within);
        its = o.its;
        others = λ q u v t. elim (ℕ_discrete q i) [ yes n ↦ s (sym (rw n at t) ∙ sym rank_told) | no n ↦ o.others q u (omega arith) t ];
      })

      before : (q : ℕ) → q < i + 1 → Dec (q ≡ i) → LastOf words (rule_rank words q) q (get_or (set befores i (get_or lasts x 0)) q 0)
      before q b (yes s) =
          rw (s, get_or-set_same befores i (get_or lasts x 0) 0 (omega (arith, h.rules, (well_read words z g.rules.read).few_rules)), ← rank_told)
          (h.last x rank_low)
      before q b (no s) = rw (get_or-set_other befores i q (get_or lasts x 0) 0 s) (h.before q (omega arith))

-- no word begins a rule where there is none
pub no_head : (words : List ℕ) (from : ℕ) → length words ≤ from → 0 ≡ head_at words from
unfolding decoded of_kind
no_head words from h = rw (get_or-eq_default words 0 h)

-- the rules told by rank one by one
module _ (rank_of : ℕ → ℕ) where
  pub lasts_start : replicate max_nonterminals 0 ≡ lasts_to rank_of 0
  unfolding lasts_to
  lasts_start = refl

  pub befores_start : replicate max_rules 0 ≡ befores_to rank_of 0
  unfolding befores_to
  befores_start = refl

  module _ (q : ℕ) {lasts : List ℕ} {x : ℕ} (h : lasts ≡ lasts_to rank_of q) where
    pub lasts_more : x ≡ rank_of q → set lasts x (q + 1) ≡ lasts_to rank_of (q + 1)
    unfolding lasts_to
    lasts_more e = rw (h, e, add-one q)

    pub befores_more : {befores : List ℕ} → befores ≡ befores_to rank_of q → x ≡ rank_of q
        → set befores (q % max_rules) (get_or lasts x 0) ≡ befores_to rank_of (q + 1)
    unfolding befores_to
    befores_more d e = rw (h, d, e, add-one q)

-- so of a grammar without left recursion
module _ {words starts reaches : List ℕ} {z : Sizes} (g : RanksGiven words starts z reaches) where
  abbrev rank_of : ℕ → ℕ
  rank_of = rank_by words starts reaches

  round : (q : ℕ) → q < z.rules → q % max_rules ≡ q
  round q h = let low : q < max_rules = omega (arith, (well_read words z g.rules.read).few_rules) in mod-eq_of_lt low

  rank_is : (q : ℕ) → q < z.rules → rank_of q ≡ ones (get_or reaches (head_at words (get_or starts q 0)) 0)
  rank_is q h =
      let low = head_low g.rules h refl refl in
      let few = rank_low g h refl refl in
      rw (round q h, mod-eq_of_lt low, mod-eq_of_lt few)

  ranked_to : (i : ℕ) → i ≤ z.rules → RankedTo words (lasts_to rank_of i) (befores_to rank_of i) i
  unfolding lasts_to befores_to
  ranked_to zero h = ranked_start words max_nonterminals max_rules refl refl
  ranked_to (suc i) h =
      rw (← add-one i) (ranked_more g h refl refl (ranked_to i (omega arith))
      (rw (rank_is i h, round i h)) (rw (rank_is i h, add-one i)))

  ranked_right : {lasts befores : List ℕ} → lasts ≡ lasts_to rank_of z.rules → befores ≡ befores_to rank_of z.rules → ByRank words z lasts befores
  ranked_right d e = let h = ranked_to z.rules (omega arith) in rw (d, e) record { last = h.last; before = h.before }

pub ranked : {words starts reaches w lasts befores : List ℕ} {z : Sizes} → FillGiven words starts z reaches w
    → (lasts ≡ lasts_to (rank_by words starts reaches) z.rules) × (befores ≡ befores_to (rank_by words starts reaches) z.rules)
    → ByRank words z lasts befores
ranked g e = ranked_right record { rules = g.rules; free = g.free; reached = g.reached } e.0 e.1

-- the list from an element on
drop_at : {A : Type 0} (l : List A) (q : ℕ) (x : A) → get_elem? l q ≡ some x → drop q l ≡ x ∷ drop (suc q) l
drop_at [] q x e = let z : ◌≡◌ {A = ℕ} 0 1 = cc in absurd (omega arith)
drop_at (y ∷ l) zero x e = let z : y ≡ x = cc in ap (◌∷ l) z
drop_at (y ∷ l) (suc q) x e = drop_at l q x e

eqb_sym : (m n : ℕ) → eqb m n ≡ eqb n m
eqb_sym m n = go (ℕ_discrete m n)
  where
    go : Dec (m ≡ n) → eqb m n ≡ eqb n m
    go (yes e) = rw (eq-eqb m n e, eq-eqb n m (sym e))
    go (no e) = rw (ne_eqb m n e, ne_eqb n m (λ d. e (sym d)))

-- a nonterminal more, where it is there
found_more : (head found A : ℕ) (there : Bool) → has (choose there (bit_or found (2 ^ head)) found) A ≡ (has found A || (eqb head A && there))
found_more head found A true =
    has_or found (2 ^ head) A ∙ ap (has found A ||◌) (has_pow head A ∙ eqb_sym A head ∙ sym (and-true (eqb head A)))
found_more head found A false = sym (ap (has found A ||◌) (and-false (eqb head A)) ∙ or-false (has found A))

-- a rule more, of the rank and of another one
rank_in : (head A r : ℕ) (rank_of : ℕ → ℕ) (there rest : Bool) → rank_of head ≡ r
    → ((eqb (rank_of A) r && rest) || (eqb head A && there)) ≡ (eqb (rank_of A) r && ((eqb head A && there) || rest))
rank_in head A r rank_of there rest e = go (eqb head A) refl
  where
    go : (b : Bool) → eqb head A ≡ b → ((eqb (rank_of A) r && rest) || (b && there)) ≡ (eqb (rank_of A) r && ((b && there) || rest))
    go true d =
        let s : rank_of A ≡ r = ap rank_of (sym (eqb→eq head A (true_T (eqb head A) d))) ∙ e in
        rw (eq-eqb (rank_of A) r s) (or_comm rest there)
    go false d = or-false (eqb (rank_of A) r && rest)

rank_out : (head A r : ℕ) (rank_of : ℕ → ℕ) (there rest : Bool) → (rank_of head ≡ r → ⊥)
    → (eqb (rank_of A) r && rest) ≡ (eqb (rank_of A) r && ((eqb head A && there) || rest))
rank_out head A r rank_of there rest e = go (eqb head A) refl
  where
    go : (b : Bool) → eqb head A ≡ b → (eqb (rank_of A) r && rest) ≡ (eqb (rank_of A) r && ((b && there) || rest))
    go true d =
        let s : rank_of A ≡ r → ⊥ = λ z. e (ap rank_of (eqb→eq head A (true_T (eqb head A) d)) ∙ z) in
        rw (ne_eqb (rank_of A) r s)
    go false d = refl

-- a rule is asked, or need not be, as its nonterminal is found already
module _ {words starts : List ℕ} {z : Sizes} {q start end : ℕ} (g : AskGiven words starts z q start end) {head : ℕ} {w : Word}
    (e : w ≡ decoded (get_or words (get_or starts q 0) 0)) (f : head ≡ head_of w) where
  rule_says : (chart v : List ℕ) (A : ℕ) → derives (charted chart) v A start end (rule_numbered words q)
      ≡ (eqb head A && holds (charted chart) v start end (parse (drop (suc (get_or starts q 0)) words)))
  unfolding derives holds
  rule_says chart v A = rw (head_is g.rules g.numbered e f, g.rules.begins, rule_is words z g.rules.read q g.numbered)

  known_already : {stands chart : List ℕ} {found : ℕ} → has found head ≡ true → Asked words q stands chart start end found found
  known_already {stands} {chart} {found} there = record { member = λ v o A. rw (rule_says chart v A) (go A _ (eqb head A) refl) }
    where
      go : (A : ℕ) (b c : Bool) → eqb head A ≡ c → has found A ≡ (has found A || (c && b))
      go A b true d = rw (ap (has found) (sym (eqb→eq head A (true_T (eqb head A) d))) ∙ there)
      go A b false d = sym (or-false (has found A))

  asked_now : {stands chart : List ℕ} {found found' : ℕ} {there : Bool} → Keeps words (get_or starts q 0) stands chart start end there
      → found' ≡ choose there (bit_or found (2 ^ head)) found → Asked words q stands chart start end found found'
  asked_now {stands} {chart} {found} {found'} {there} t n =
      record { member = λ v o A. rw (rule_says chart v A, n, found_more head found A there, t.is v o) }

-- what is found by asking a rule
module _ (words starts : List ℕ) (rules q : ℕ) (stands chart : List ℕ) (start end found : ℕ) {to : ℕ} (n : to ≡ rule_end words starts rules q) where
  not_kept : false ≡ keeps_by words (get_or starts (q % max_rules) 0) to stands chart start end
      → found ≡ asked_by words starts rules q stands chart start end found
  unfolding with_nonterminal
  not_kept k = rw (← n, ← k) (by_known (has found (head_at words (get_or starts (q % max_rules) 0))))
    where
      by_known : (b : Bool) → found ≡ choose b found found
      by_known true = refl
      by_known false = refl

  pub asked_beyond : length words < to → found ≡ asked_by words starts rules q stands chart start end found
  asked_beyond h = not_kept (none_such words (get_or starts (q % max_rules) 0) to stands chart start end h)

  pub asked_nothing : to ≤ length words → to ≤ get_or starts (q % max_rules) 0 → found ≡ asked_by words starts rules q stands chart start end found
  asked_nothing l h = not_kept (none_between words (get_or starts (q % max_rules) 0) to stands chart start end l h)

  module _ {head : ℕ} {w : Word} {b : Bool} (d : w ≡ decoded (get_or words (get_or starts (q % max_rules) 0) 0)) (e : head ≡ head_of w)
      (h : b ≡ has found head) where
    its_head : head ≡ head_at words (get_or starts (q % max_rules) 0)
    its_head = e ∙ ap head_of d

module _ {words starts : List ℕ} {z : Sizes} {q start end : ℕ} (g : AskGiven words starts z q start end) (stands chart : List ℕ) (found : ℕ) where
  abbrev from : ℕ
  from = get_or starts q 0

  abbrev to : ℕ
  to = rule_end words starts z.rules q

  by_known : {r : ℕ} (b : Bool) → has found (head_at words from) ≡ b → r ≡ asked_from words from to stands chart start end found
      → Asked words q stands chart start end found r
  by_known {r} true h e = let s : r ≡ found = rw h at e in rw s (known_already g refl refl h)
  by_known false h e =
      asked_now g refl refl
      (keeps_right record { rule = its_words (pass_first g.rules.read g.rules.begins) true g.numbered refl refl; span = g.span } refl)
      (with_nonterminal_lem found (head_at words from) (keeps_by words from to stands chart start end) (head_low g.rules g.numbered refl refl) (rw h at e))

  pub asked_right : {r : ℕ} → r ≡ asked_by words starts z.rules q stands chart start end found → Asked words q stands chart start end found r
  asked_right e =
      let low : q < max_rules = omega (arith, g.numbered, (well_read words z g.rules.read).few_rules) in
      by_known (has found (head_at words from)) refl (e ∙ ap (λ (i : ℕ). asked_from words (get_or starts i 0) to stands chart start end found)
      (mod-eq_of_lt low))

-- of the rules from number i on, those of the rank have been asked
pub record Asking (words : List ℕ) (n r : ℕ) (stands chart : List ℕ) (start end found i : ℕ) : Type 0 where
  pub high : i ≤ n
  pub member : (w : List ℕ) → Scannable w stands chart end → (A : ℕ)
      → has found A ≡ (eqb (rank (grammar_of words) A) r && any_of (derives (charted chart) w A start end) (drop i (grammar_of words).rules))

-- and the next one to ask is of the rank
pub record AskingNext (words : List ℕ) (n r : ℕ) (stands chart : List ℕ) (start end found i : ℕ) : Type 0 where
  pub asking : Asking words n r stands chart start end found i
  pub its : (q : ℕ) → suc q ≡ i → rule_rank words q ≡ r

-- what the rules from one on say of a nonterminal
abbrev said_from : List ℕ → List ℕ → List ℕ → ℕ → ℕ → ℕ → ℕ → Bool
said_from words chart w start end A q = any_of (derives (charted chart) w A start end) (drop q (grammar_of words).rules)

module _ {words starts : List ℕ} {z : Sizes} (k : RulesGiven words starts z) where
  rules_say : (chart w : List ℕ) (start end A q : ℕ) → q < z.rules
      → said_from words chart w start end A q ≡ (derives (charted chart) w A start end (rule_numbered words q) || said_from words chart w start end A (suc q))
  unfolding any_of
  rules_say chart w start end A q l = rw (drop_at (grammar_of words).rules q (rule_numbered words q) ((well_read words z k.read).begins q l))

  module _ {r : ℕ} {stands chart : List ℕ} {start end : ℕ} where
    asking_start : Asking words z.rules r stands chart start end 0 z.rules
    unfolding any_of
    asking_start = record {
      high = omega arith;
      member = λ w o A. rw (drop_of_length-le (grammar_of words).rules all) (has_zero A ∙ sym (and-false (eqb (rank (grammar_of words) A) r)));
    }
      where
        all : length (grammar_of words).rules ≤ z.rules
        all = omega (arith, (well_read words z k.read).rules)

    -- a rule of another rank
    asking_past : (q : ℕ) {found : ℕ} → q < z.rules → Asking words z.rules r stands chart start end found (suc q) → (rule_rank words q ≡ r → ⊥)
        → Asking words z.rules r stands chart start end found q
    unfolding derives
    asking_past q l h ne = record {
      high = omega arith;
      member = λ w o A. rw (rules_say chart w start end A q l)
          (h.member w o A ∙ rank_out (rule_numbered words q).head A r (rank (grammar_of words)) _ (said_from words chart w start end A (suc q)) ne);
    }

    asking_down : (x n : ℕ) {found : ℕ} → ((q : ℕ) → x ≤ q → q < x + n → rule_rank words q ≡ r → ⊥)
        → Asking words z.rules r stands chart start end found (x + n) → Asking words z.rules r stands chart start end found x
    asking_down x zero f h = let e : x + 0 ≡ x = omega arith in rw e at h
    asking_down x (suc n) f h =
        let e : x + suc n ≡ suc (x + n) = omega arith in
        asking_down x n (λ q a b. f q a (omega arith))
        (asking_past (x + n) (omega (arith, h.high)) (rw e at h) (f (x + n) (omega arith) (omega arith)))

    -- one of the rank
    asking_more : (q : ℕ) {found found' : ℕ} → q < z.rules → Asking words z.rules r stands chart start end found (suc q) → rule_rank words q ≡ r
        → Asked words q stands chart start end found found' → Asking words z.rules r stands chart start end found' q
    unfolding derives
    asking_more q l h same a = record {
      high = omega arith;
      member = λ w o A. rw (rules_say chart w start end A q l, a.member w o A, h.member w o A)
          (rank_in (rule_numbered words q).head A r (rank (grammar_of words)) _ (said_from words chart w start end A (suc q)) same);
    }

    -- the rules of other ranks before the next one are passed over
    asking_next : {found i x : ℕ} → Asking words z.rules r stands chart start end found i → LastOf words r i x
        → AskingNext words z.rules r stands chart start end found x
    asking_next {found} {i} {x} h o =
        let e : x + (i - x) ≡ i = omega (arith, o.within) in
        record { asking = asking_down x (i - x) (λ q a b. o.others q a (omega arith)) (rw e h); its = o.its }

    pub rules_start : {lasts befores : List ℕ} → ByRank words z lasts befores → r < max_nonterminals
        → AskingNext words z.rules r stands chart start end 0 (get_or lasts r 0)
    rules_start g h = asking_next asking_start (g.last r h)

    pub rules_more : {lasts befores : List ℕ} {found found' i : ℕ} → ByRank words z lasts befores
        → AskingNext words z.rules r stands chart start end found i → 0 < i → Asked words (i - 1) stands chart start end found found'
        → AskingNext words z.rules r stands chart start end found' (get_or befores (i - 1) 0)
    rules_more {lasts} {befores} {found} {found'} {i} g h l a =
        let s : suc (i - 1) ≡ i = omega arith in
        let b : i - 1 < z.rules = omega (arith, h.asking.high) in
        let c = h.its (i - 1) s in
        asking_next (asking_more (i - 1) b (rw s h.asking) c a) (rw c at (g.before (i - 1) b))

    pub rules_end : {found i : ℕ} → AskingNext words z.rules r stands chart start end found i → i ≤ 0 → SpanDerived words r stands chart start end found
    unfolding by_rules
    rules_end {found} {i} h l = let e : i ≡ 0 = omega arith in record { member = λ w o A. let q = h.asking.member w o A in rw e at q }
