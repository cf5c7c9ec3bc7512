-- The bodies of a rule, by its words from their end, join into the nonterminals' sets what comes behind them.
use mathlib.Core.Path.{◌≡◌, refl, sym, ap, ap₂, ◌∙◌}
use mathlib.Core.Bool.{Bool, true, false, true≢false, ◌||◌}
use mathlib.Core.List.Memᴰ
use mathlib.Core.List.{List, [], ◌∷◌, Memᴰ}
use mathlib.Core.Logic.{inl, inr}
use mathlib.Core.Option.{Option, none, some}
use Prim.Native.Nat.{ℕ, zero, suc, ◌+◌, ◌-◌, ◌≤◌, ◌<◌}
use native.Mathlib.Decide.{ℕ_discrete}
use native.Mathlib.Omega.{arith}
use lib.ListN.{length, get_or, drop, set, replicate, length-set, length-replicate}
use lib.Seq.{get_or-set_same, get_or-set_other}
use Rattle.word.specs.declared.Symbol.TheVariants.{Terminal, Nonterminal}
use Rattle.word.specs.declared.Word.{Word}
use Rattle.word.specs.declared.Word.TheVariants.{Heading, Rule as RuleWord, Positive, Negative, Symbol, End, Invalid}
use Rattle.word.specs.Words.{decoded}
use Rattle.grammar.specs.declared.reading.Sizes.{Sizes}
use Rattle.grammar.specs.Limits.{max_nonterminals, max_rules}
use Rattle.grammar.specs.Syntax.{Body, Rule, bodies}
use Rattle.grammar.specs.Encoding.{Parsed, rule_of, on_word, parse}
use Rattle.grammar.specs.Reading.{begins_rule}
use Rattle.grammar.specs.inner.Starts.{rule_starts}
use Rattle.grammar.specs.inner.WellRead.{head_of, Begun}
use Rattle.base.proofs.Lists.{get_d_zeros}
use Rattle.grammar.proofs.WellFormed.{none_in, more_in}
use Rattle.grammar.proofs.WellRead.{well_read}
use Rattle.grammar.proofs.EachIndex.{Behind, read_place}
use Rattle.lookahead.specs.declared.Lookahead.{Lookahead}
use Rattle.lookahead.specs.inner.Elements.{Subset}
use Rattle.lookahead.specs.inner.Operations.{empty_set, end as end_set, concat_numbers, End as EndSet, Concatenated}
use Rattle.lookahead.proofs.Order.{subset_refl}
use Rattle.lookahead.proofs.Operations.{has_empty}
use Rattle.lookahead.proofs.Pairs.{concat_pair}
use Rattle.lookahead.proofs.Concat.{concat_mono, concat_assoc}
use Rattle.families.specs.inner.Naming.{nonterminal_of, Indexed}
use Rattle.families.specs.inner.Least.{SetFamily, at, lookup, Under, AddsToSet, AddsTo, Passing, Passes}
use Rattle.families.specs.inner.First.{symbol_first, body_first}
use Rattle.families.specs.inner.Follow.{FollowNumbersBody, FollowRules, FollowNumbersClosed, tail_before, Asked, FollowTurn, LastTurns}
use Rattle.families.specs.inner.Rules.{turn_of, Ended, Inside, RuleWords, BodyWords, NegativesFrom, PassGiven}
use Rattle.families.proofs.ArrayLookup.{symbol_lookup}
use Rattle.families.proofs.Words.{parse_here}
use Rattle.families.proofs.NamedNonterminals.{IndexedName, name_indexed}
use Rattle.families.proofs.Inner.{Inner, word_inside}
use Rattle.families.proofs.Signs.{positive_words}
use Rattle.families.proofs.LeastByPasses.{passing_none, passing_on, passing_then, passing_add, added_in}
use Rattle.families.proofs.RuleRanges.{rule_in, in_rules, rule_is}
use Rattle.families.proofs.RulePasses.{Turns, turns_next, turns_end}
use Rattle.families.proofs.HeadPasses.{rule_numbered, its_turn}

-- what a nonterminal asks, with the rest b of a body behind it, and v behind the body
abbrev NameAsks : Lookahead → SetFamily → ℕ → Body → Option ℕ → SetFamily → Type 0
NameAsks k F v b none L = Unit {0}
NameAsks k F v b (some A) L = Subset (concat_numbers k (body_first k F b) v) (L A)

-- a word inside a rule takes its own part of what is asked, and gives it back
module _ (k : Lookahead) (F : SetFamily) (v : ℕ) (p : Parsed) (L : SetFamily) where
  asked_down : (w : Word) → Inside w → Behind w p → Asked k F v (on_word w p) L → Asked k F v p L × NameAsks k F v p.body (nonterminal_of w) L
  unfolding on_word
  asked_down (RuleWord A) n e o = absurd n
  asked_down Positive n e o = (
    record {
      body = o.positives p.body (Memᴰ.head refl);
      positives = λ b m. o.positives b (Memᴰ.tail m);
      negatives = o.negatives;
    },
    tt,
  )
  asked_down Negative n e o = (
    record {
      body = o.negatives p.body (Memᴰ.head refl);
      positives = o.positives;
      negatives = λ b m. o.negatives b (Memᴰ.tail m);
    },
    tt,
  )
  asked_down (Symbol (Terminal a)) n e o = (record { body = o.body; positives = o.positives; negatives = o.negatives }, tt)
  asked_down (Symbol (Nonterminal A)) n e o = (record { body = o.body.1; positives = o.positives; negatives = o.negatives }, o.body.0)
  asked_down End n e o = (
    record {
      body = rw e.body tt;
      positives = rw e.positives (none_in _);
      negatives = rw e.negatives (none_in _);
    },
    tt,
  )
  asked_down (Heading m t) n e o = absurd n
  asked_down Invalid n e o = absurd n

  asked_up : (w : Word) → Asked k F v p L × NameAsks k F v p.body (nonterminal_of w) L → Asked k F v (on_word w p) L
  unfolding on_word
  asked_up (RuleWord A) o = record { body = tt; positives = none_in _; negatives = none_in _ }
  asked_up Positive o = record {
    body = tt;
    positives = more_in (FollowNumbersBody k F v L) p.body p.positives o.0.body o.0.positives;
    negatives = o.0.negatives;
  }
  asked_up Negative o = record {
    body = tt;
    positives = o.0.positives;
    negatives = more_in (FollowNumbersBody k F v L) p.body p.negatives o.0.body o.0.negatives;
  }
  asked_up (Symbol (Terminal c)) o = record { body = o.0.body; positives = o.0.positives; negatives = o.0.negatives }
  asked_up (Symbol (Nonterminal A)) o = record { body = (o.1, o.0.body); positives = o.0.positives; negatives = o.0.negatives }
  asked_up End o = record { body = tt; positives = none_in _; negatives = none_in _ }
  asked_up (Heading n t) o = o.0
  asked_up Invalid o = o.0

-- where nothing is open nothing is asked
asked_none : (k : Lookahead) (F : SetFamily) (v : ℕ) (p : Parsed) (L : SetFamily) → Ended p → Asked k F v p L
asked_none k F v p L e = record { body = rw e.body tt; positives = rw e.positives (none_in _); negatives = rw e.negatives (none_in _) }

-- the more sets there are, the more is met; the less comes behind, the less is asked, and behind an empty set nothing
module _ (k : Lookahead) (F : SetFamily) where
  body_met : (v : ℕ) (L M : SetFamily) → Under L M → (b : Body) → FollowNumbersBody k F v L b → FollowNumbersBody k F v M b
  body_met v L M u [] o = tt
  body_met v L M u (Terminal a ∷ b) o = body_met v L M u b o
  body_met v L M u (Nonterminal A ∷ b) o = (λ x s. u A x (o.0 x s), body_met v L M u b o.1)

  asked_met : (v : ℕ) (p : Parsed) (L M : SetFamily) → Under L M → Asked k F v p L → Asked k F v p M
  asked_met v p L M u o = record {
    body = body_met v L M u p.body o.body;
    positives = λ b m. body_met v L M u b (o.positives b m);
    negatives = λ b m. body_met v L M u b (o.negatives b m);
  }

  body_less : (v u : ℕ) (L : SetFamily) → Subset v u → (b : Body) → FollowNumbersBody k F u L b → FollowNumbersBody k F v L b
  body_less v u L s [] o = tt
  body_less v u L s (Terminal a ∷ b) o = body_less v u L s b o
  body_less v u L s (Nonterminal A ∷ b) o =
      let begins = body_first k F b in
      (λ x t. o.0 x (concat_mono k begins v begins u (subset_refl begins) s x t), body_less v u L s b o.1)

  asked_less : (v u : ℕ) (p : Parsed) (L : SetFamily) → Subset v u → Asked k F u p L → Asked k F v p L
  asked_less v u p L s o = record {
    body = body_less v u L s p.body o.body;
    positives = λ b m. body_less v u L s b (o.positives b m);
    negatives = λ b m. body_less v u L s b (o.negatives b m);
  }

  body_free : (L : SetFamily) (b : Body) → FollowNumbersBody k F empty_set L b
  body_free L [] = tt
  body_free L (Terminal a ∷ b) = body_free L b
  body_free L (Nonterminal A ∷ b) =
      (λ x s. let p = concat_pair k (body_first k F b) empty_set x s in absurd (rw (has_empty p.b) at p.b_in), body_free L b)

  asked_free : (p : Parsed) (L : SetFamily) → Asked k F empty_set p L
  asked_free p L = record { body = body_free L p.body; positives = λ b m. body_free L b; negatives = λ b m. body_free L b }

-- what comes behind a whole body
pub behind_body : (k : Lookahead) {e f r : ℕ} → EndSet k e → Concatenated k e f r → r ≡ concat_numbers k (end_set k) f
behind_body k {f = f} n c = c.is ∙ ap (λ (x : ℕ). concat_numbers k x f) n.is

-- what comes behind an index, with a word in front
tail_word : (k : Lookahead) (F : SetFamily) (v : ℕ) (w : Word) (p : Parsed) → Inside w
    → tail_before k F (concat_numbers k (end_set k) v) w (concat_numbers k (body_first k F p.body) v) ≡ concat_numbers k (body_first k F (on_word w p).body) v
unfolding on_word body_first
tail_word k F v (Symbol X) p i = sym (concat_assoc k (symbol_first k F X) (body_first k F p.body) v)
tail_word k F v Positive p i = refl
tail_word k F v Negative p i = refl
tail_word k F v End p i = refl
tail_word k F v (RuleWord A) p i = absurd i
tail_word k F v (Heading m n) p i = absurd i
tail_word k F v Invalid p i = absurd i

-- with an array's sets
tail_looked_up : (k : Lookahead) (l : List ℕ) (v : ℕ) (w : Word) (tail : ℕ) → Indexed w → tail_before k (lookup l) v w tail ≡ tail_before k (at l) v w tail
tail_looked_up k l v (Symbol X) tail n = rw (symbol_lookup k l X n)
tail_looked_up k l v Positive tail n = refl
tail_looked_up k l v Negative tail n = refl
tail_looked_up k l v End tail n = refl
tail_looked_up k l v (RuleWord A) tail n = refl
tail_looked_up k l v (Heading m t) tail n = refl
tail_looked_up k l v Invalid tail n = refl

-- the words of a rule from one body on to another, from i on gone through
pub record FollowWalk (k : Lookahead) (F : SetFamily) (u : ℕ) (words l₀ l : List ℕ) (from to : ℕ) (grown : Bool) (tail i : ℕ) : Type 0 where
  pub low : from ≤ i
  pub high : i ≤ to
  pub is : tail ≡ concat_numbers k (body_first k F (parse (drop i words)).body) u
  pub passing : Passing (Asked k F u (parse (drop from words))) (λ L. Unit {0}) l₀ l grown
  pub asked : Asked k F u (parse (drop i words)) (at l)

module _ {words : List ℕ} {from to : ℕ} (given : BodyWords words from to) where
  -- what all these words ask, those from an index on ask
  asked_from : (k : Lookahead) (F : SetFamily) (v : ℕ) (L : SetFamily) (i : ℕ) → from + i ≤ to → Asked k F v (parse (drop from words)) L
      → Asked k F v (parse (drop (from + i) words)) L
  asked_from k F v L zero h o = let e : from + 0 ≡ from = omega arith in rw e o
  asked_from k F v L (suc i) h o =
      let j = from + i in
      let b : j < length words = omega (arith, given.within) in
      let e : from + suc i ≡ suc j = omega arith in
      rw e (asked_down k F v (parse (drop (suc j) words)) L (decoded (get_or words j 0)) (given.inside j (omega arith) (omega arith))
      (read_place words given.sizes given.read j b).behind (rw (parse_here words j b) at (asked_from k F v L i (omega arith) o))).0

  pub asked_behind : {k : Lookahead} {F : SetFamily} {v : ℕ} {L : SetFamily} (i : ℕ) → from ≤ i → i ≤ to → Asked k F v (parse (drop from words)) L
      → Asked k F v (parse (drop i words)) L
  asked_behind {k} {F} {v} {L} i l h o =
      let e : from + (i - from) ≡ i = omega arith in
      rw e at (asked_from k F v L (i - from) (omega arith) o)

  pub follow_start : (k : Lookahead) (F : SetFamily) (u : ℕ) (l : List ℕ) {tail : ℕ} → tail ≡ concat_numbers k (end_set k) u
      → Asked k F u (parse (drop to words)) (at l) → FollowWalk k F u words l l from to false tail to
  unfolding body_first
  follow_start k F u l e o =
      record { low = given.some; high = omega arith; is = rw given.whole e; passing = passing_none l tt; asked = o }

  module _ {k : Lookahead} {F : SetFamily} {u : ℕ} {l₀ l : List ℕ} (g : Bool) {tail i : ℕ}
      (v : FollowWalk k F u words l₀ l from to g tail i) (h : from < i)
      {w : Word} (e : w ≡ decoded (get_or words (i - 1) 0)) where
    abbrev p : Parsed
    p = parse (drop i words)

    inner : Inner words w i
    inner = word_inside given i h v.high e

    pub word_here : Indexed w
    word_here = inner.indexed

    -- what all the words ask, the word asks
    name_asked : (G : SetFamily) → Asked k F u (parse (drop from words)) G → NameAsks k F u p.body (nonterminal_of w) G
    name_asked G o =
        (asked_down k F u p G w inner.inside inner.behind (rw inner.here at (asked_behind (i - 1) (omega arith) (omega (arith, v.high)) o))).1

    pub follow_turn : {l' : List ℕ} (g' : Bool) {r : Bool} {next : ℕ} → length l₀ ≡ max_nonterminals → AddsTo (nonterminal_of w) l tail l' g'
        → r ≡ (g || g')
        → {behind : ℕ} → behind ≡ concat_numbers k (end_set k) u → (f : List ℕ) → F ≡ at f → next ≡ tail_before k (lookup f) behind w tail
        → FollowWalk k F u words l₀ l' from to r next (i - 1)
    follow_turn {l'} g' {next = next} n a told {behind} d f e o = record {
      low = omega arith;
      high = omega (arith, v.high);
      is = rw inner.here (looked_up ∙ ap₂ (λ b t. tail_before k F b w t) d v.is ∙ tail_word k F u w p inner.inside);
      passing = rw told (passing_on (λ G c. c) (λ G c. tt) (passing_then g g' v.passing added));
      asked =
          rw inner.here (asked_up k F u p (at l') w
          (asked_met k F u p (at l) (at l') added.risen v.asked, here (nonterminal_of w) (name_indexed w word_here) a));
    }
      where
        looked_up : next ≡ tail_before k F behind w tail
        looked_up = rw e (o ∙ tail_looked_up k f behind w tail word_here)

        room : {A : ℕ} → A < max_nonterminals → A < length l
        room b = omega (arith, b, n, v.passing.long)

        named : (x : Option ℕ) → nonterminal_of w ≡ x → IndexedName x → AddsTo x l tail l' g'
            → Passing (Asked k F u (parse (drop from words))) (λ L. Unit {0}) l l' g'
        named none f b a = rw (a.0, a.1) (passing_none l tt)
        named (some A) f b a = passing_add (room b) (λ G c m x s. rw f at (name_asked G c) x (rw v.is at s)) (λ s. tt) a

        added : Passing (Asked k F u (parse (drop from words))) (λ L. Unit {0}) l l' g'
        added = named (nonterminal_of w) refl (name_indexed w word_here) a

        here : (x : Option ℕ) → IndexedName x → AddsTo x l tail l' g' → NameAsks k F u p.body x (at l')
        here none b a = tt
        here (some A) b a = rw v.is at (added_in (room b) a)

-- a rule by its parts
module _ {words : List ℕ} {start end : ℕ} (given : RuleWords words start end) where
  module _ {n : ℕ} (f : NegativesFrom words (start + 1) end n) where
    -- where they end nothing is asked
    pub none_asked : (k : Lookahead) (F : SetFamily) (v : ℕ) (L : SetFamily) → Asked k F v (parse (drop end words)) L
    none_asked k F v L = asked_none k F v (parse (drop end words)) L given.ended

    pub follow_both : {k : Lookahead} {F : SetFamily} {u : ℕ} {l₀ l l' : List ℕ} (g g' : Bool) {r : Bool}
        → FollowTurn k F u (parse (drop n words)) l₀ l g → FollowTurn k F u (parse (drop (start + 1) words)) l l' g' → r ≡ (g || g')
        → FollowTurn k F u (parse (drop (suc start) words)) l₀ l' r
    follow_both g g' s t told = let next : start + 1 ≡ suc start = omega arith in
        rw (← next) (record {
          passing = rw told (passing_on (λ G c. c) (λ G c. tt)
              (passing_then g g' (passing_on (λ G c. asked_behind (positive_words given f) n f.low (omega arith) c) (λ G c. c) s.passing) t.passing));
          asked = t.asked;
        })

-- every body of a rule asks its own
abbrev RuleAsks : Lookahead → SetFamily → SetFamily → Rule → Type 0
RuleAsks k F L r = (b : Body) → Memᴰ b (bodies r) → FollowNumbersBody k F (L r.head) L b

rule_asked : (k : Lookahead) (F L : SetFamily) (A : ℕ) (p : Parsed) → p.body ≡ [] → RuleAsks k F L (rule_of A p) → Asked k F (L A) p L
rule_asked k F L A p e o = record {
  body = rw e tt;
  positives = λ b m. o b (Memᴰ.append_left p.negatives m);
  negatives = λ b m. o b (Memᴰ.append_right p.positives m);
}

asked_rule : (k : Lookahead) (F L : SetFamily) (A : ℕ) (p : Parsed) → Asked k F (L A) p L → RuleAsks k F L (rule_of A p)
asked_rule k F L A p o b m = elim (Memᴰ.append_cases p.positives m) [ inl n ↦ o.positives b n | inr n ↦ o.negatives b n ]

-- of a rule of B, behind whose bodies came what followed B at the begin
turn_passes : {k : Lookahead} {F : SetFamily} {B : ℕ} {p : Parsed} {l₀ l : List ℕ} {grown : Bool} → FollowTurn k F (at l₀ B) p l₀ l grown
    → Passes (λ L. Asked k F (L B) p L) l₀ l grown
turn_passes {k} {F} {B} {p} {l₀} {l} t =
    let q = t.passing in
    record {
      long = q.long;
      same = q.same;
      risen = q.risen;
      grows = q.grows;
      still = λ f. rw (q.same f) (rw (q.same f) at t.asked);
      below = λ G c u. q.below G (asked_less k F (at l₀ B) (G B) p G (u B) c) u;
    }

-- the rules in turn
abbrev pub Asks : Lookahead → SetFamily → List ℕ → ℕ → SetFamily → Type 0
Asks k F words q L = RuleAsks k F L (rule_numbered words q)

module _ {words starts : List ℕ} {z : Sizes} {l₀ : List ℕ} (given : PassGiven words starts z l₀) (k : Lookahead) (F : SetFamily) (forward : Bool) where
  -- behind the begin of a rule no body is open
  no_body : (w : Word) (p : Parsed) → begins_rule w ≡ true → Behind w p → p.body ≡ []
  no_body (RuleWord A) p e b = b
  no_body Positive p e b = absurd (true≢false (sym e))
  no_body Negative p e b = absurd (true≢false (sym e))
  no_body (Symbol X) p e b = absurd (true≢false (sym e))
  no_body End p e b = absurd (true≢false (sym e))
  no_body (Heading n t) p e b = absurd (true≢false (sym e))
  no_body Invalid p e b = absurd (true≢false (sym e))

  pub follow_visit : {l l' : List ℕ} (g : Bool) {g' r : Bool} {i rule head : ℕ} {w : Word} → Turns (Asks k F words) z.rules forward l₀ l g i
      → i < z.rules → rule ≡ turn_of forward z.rules i → w ≡ decoded (get_or words (get_or starts rule 0) 0) → head ≡ head_of w
      → FollowTurn k F (at l head) (parse (drop (suc (get_or starts rule 0)) words)) l l' g' → r ≡ (g || g')
      → Turns (Asks k F words) z.rules forward l₀ l' r (i + 1)
  follow_visit {l} {l'} g {g'} {i = i} {rule} {head} {w} t h f e d a told =
      turns_next (Asks k F words) z.rules forward g g' t h (rw f at met) told
    where
      b : rule < z.rules
      b = its_turn given forward h f

      begun : Begun words (get_or (rule_starts words) rule 0)
      begun = (well_read words z given.read).begun rule b

      p : Parsed
      p = parse (drop (suc (get_or (rule_starts words) rule 0)) words)

      is : rule_numbered words rule ≡ rule_of head p
      is = rule_is words z given.read rule b ∙ rw (d, e, given.begins)

      empty : p.body ≡ []
      empty = no_body (decoded (get_or words (get_or (rule_starts words) rule 0) 0)) p begun.word (read_place words z given.read _ begun.high).behind

      met : Passes (Asks k F words rule) l l' g'
      met =
          passing_on (λ G c. rule_asked k F G head p empty (rw is at c)) (λ G c. rw is (asked_rule k F G head p c)) (turn_passes (rw given.begins at a))

  pub follows_end : {l : List ℕ} {grown : Bool} {i : ℕ} → Turns (Asks k F words) z.rules forward l₀ l grown i → z.rules ≤ i
      → Passes (FollowRules k F (parse words).rules) l₀ l grown
  follows_end t h =
      turns_end (Asks k F words) z.rules forward t h (λ G c q b. c (rule_numbered words q) (rule_in words z given.read q b))
      (λ G a r m. let n = in_rules words z given.read r m in rw n.2 (a n.0 n.1))

-- what came behind the bodies of each rule when it last had its turn
pub last_none : (k : Lookahead) (F : SetFamily) (words : List ℕ) (n : ℕ) (l : List ℕ) → LastTurns k F words n (replicate max_rules 0) l
last_none k F words n l =
    record {
      long = length-replicate {A = ℕ} max_rules 0;
      each = λ q h. rw (get_d_zeros max_rules q) (asked_free k F (parse (drop (suc (get_or (rule_starts words) q 0)) words)) (at l));
    }

pub last_risen : {k : Lookahead} {F : SetFamily} {words : List ℕ} {n : ℕ} {last l l' : List ℕ} → LastTurns k F words n last l → Under (at l) (at l')
    → LastTurns k F words n last l'
last_risen {k} {F} {l = l} {l'} t u = record { long = t.long; each = λ q h. asked_met k F _ _ (at l) (at l') u (t.each q h) }

pub last_asked : {k : Lookahead} {F : SetFamily} {words starts : List ℕ} {n : ℕ} {last l : List ℕ} {q : ℕ} → starts ≡ rule_starts words
    → LastTurns k F words n last l → q < n → Asked k F (get_or last q 0) (parse (drop (suc (get_or starts q 0)) words)) (at l)
last_asked {q = q} e t h = rw e (t.each q h)

pub last_next : {k : Lookahead} {F : SetFamily} {words starts : List ℕ} {n : ℕ} {last last' l l' : List ℕ} {g : Bool} {q : ℕ} (B : ℕ)
    → starts ≡ rule_starts words → n ≤ max_rules → q < n → LastTurns k F words n last l → last' ≡ set last q (at l B)
    → FollowTurn k F (at l B) (parse (drop (suc (get_or starts q 0)) words)) l l' g → LastTurns k F words n last' l'
last_next {k} {F} {words} {n = n} {last} {last'} {l} {l'} {q = q} B e few h t s f =
    record { long = ap length s ∙ length-set last q (at l B) ∙ t.long; each = λ p b. go p b (ℕ_discrete p q) }
  where
    go : (p : ℕ) → p < n → Dec (p ≡ q) → Asked k F (get_or last' p 0) (parse (drop (suc (get_or (rule_starts words) p 0)) words)) (at l')
    go p b (yes d) = rw (d, s, get_or-set_same last q (at l B) 0 (omega (arith, t.long))) (rw e at f.asked)
    go p b (no ne) = rw (s, get_or-set_other last q p (at l B) 0 ne) (asked_met k F _ _ (at l) (at l') f.passing.risen (t.each p b))

-- the end behind the start, and the rules
pub follow_passes : (k : Lookahead) (F : SetFamily) (words : List ℕ) {l₀ l l' : List ℕ} {g g' : Bool} → 0 < length l₀ → AddsToSet l₀ 0 (end_set k) l g
    → Passes (FollowRules k F (parse words).rules) l l' g' → Passes (FollowNumbersClosed k F (parse words).rules) l₀ l' (g || g')
follow_passes k F words {g = g} {g'} h a p =
    passing_on (λ G c. c) (λ G c. record { start = c.0; follows = c.1 })
    (passing_then g g' (passing_add h (λ G c u. c.start) (λ s. s) a) (passing_on (λ G c. c.follows) (λ G c. c) p))
