-- A pass of an analysis that joins into the set of each rule's head what the rule gives.
use Rattle.std.specs.Prelude.{Ok}
use mathlib.Core.Path.{◌≡◌, refl, ◌∙◌}
use mathlib.Core.Bool.{Bool, ◌||◌}
use mathlib.Core.List.{List, Memᴰ}
use Prim.Native.Nat.{ℕ, ◌+◌, ◌%◌, ◌≤◌, ◌<◌}
use native.Mathlib.Nat.{mod-eq_of_lt}
use native.Mathlib.Numerals.{add-one}
use native.Mathlib.Decide.{dec_lt}
use native.Mathlib.Omega.{arith}
use lib.Dec.{ltb}
use lib.ListN.{length, get_or, replicate}
use borrow.Author.Tests.{lt-ltb, le-ltb}
use Rattle.base.specs.Choice.{choose}
use Rattle.word.specs.declared.Word.{Word}
use Rattle.word.specs.Words.{decoded}
use Rattle.grammar.specs.declared.reading.Sizes.{Sizes}
use Rattle.grammar.specs.Limits.{max_nonterminals, max_rules}
use Rattle.grammar.specs.Syntax.{Rule}
use Rattle.grammar.specs.Encoding.{parse}
use Rattle.grammar.specs.Reading.{reading}
use Rattle.grammar.specs.inner.Starts.{rule_starts}
use Rattle.grammar.specs.inner.WellRead.{head_of}
use Rattle.grammar.proofs.EachIndex.{read_whole}
use Rattle.grammar.proofs.WellRead.{well_read}
use Rattle.lookahead.specs.inner.Elements.{Subset}
use Rattle.families.specs.inner.Least.{SetFamily, at, Under, AddsToSet, Passes}
use Rattle.families.specs.inner.Rules.{turn_of, rule_from, rule_end, RuleWords, PassGiven}
use Rattle.families.proofs.LeastByPasses.{added_at, passing_add}
use Rattle.families.proofs.RuleRanges.{till_next, till_end, rule_in, in_rules, rule_is}
use Rattle.families.proofs.RulePasses.{turn_below, Turns, turns_next, turns_end}

-- what each rule gives is contained in its head's set
abbrev pub Closes : (SetFamily → Rule → ℕ) → List Rule → SetFamily → Type 0
Closes given rs F = (r : Rule) → Memᴰ r rs → Subset (given F r) (F r.head)

-- so for rule q
abbrev pub rule_numbered : List ℕ → ℕ → Rule
rule_numbered words q = rule_from words (get_or (rule_starts words) q 0)

abbrev pub Gives : (SetFamily → Rule → ℕ) → List ℕ → ℕ → SetFamily → Type 0
Gives given words q F = Subset (given F (rule_numbered words q)) (F (rule_numbered words q).head)

-- larger families are given more
abbrev pub Larger : (SetFamily → Rule → ℕ) → Type 0
Larger given = (F G : SetFamily) → Under F G → (r : Rule) → Subset (given F r) (given G r)

-- a pass over empty sets
pub pass_first : {words starts : List ℕ} {z : Sizes} → reading words ≡ Ok z → starts ≡ rule_starts words
    → PassGiven words starts z (replicate max_nonterminals 0)
pass_first r b = record { read = r; begins = b; long = refl }

module _ {words starts : List ℕ} {z : Sizes} {l₀ : List ℕ} (k : PassGiven words starts z l₀) where
  -- the head of the rule that has its turn
  module _ (forward : Bool) {i rule : ℕ} (h : i < z.rules) (t : rule ≡ turn_of forward z.rules i) where
    pub its_turn : rule < z.rules
    its_turn = rw t (turn_below forward z.rules i h)

    pub its_start : get_or starts rule 0 < length words
    its_start = rw k.begins ((well_read words z k.read).begun rule its_turn).high

    pub its_head : {w : Word} {head : ℕ} → w ≡ decoded (get_or words (get_or starts rule 0) 0) → head ≡ head_of w → head ≡ (rule_numbered words rule).head
    its_head e f = f ∙ rw (e, k.begins, rule_is words z k.read rule its_turn)

    -- and its words
    pub its_words : {end : ℕ} → end ≡ rule_end words starts z.rules rule → RuleWords words (get_or starts rule 0) end
    its_words e = rw (e, k.begins, here) (till (dec_lt (rule + 1) z.rules))
      where
        few : z.rules ≤ max_rules
        few = (well_read words z k.read).few_rules

        here : rule % max_rules ≡ rule
        here = let low : rule < max_rules = omega (arith, its_turn, few) in mod-eq_of_lt low

        till : Dec (rule + 1 < z.rules)
            → RuleWords words (get_or (rule_starts words) rule 0)
            (choose (ltb (rule + 1) z.rules) (get_or (rule_starts words) ((rule + 1) % max_rules) 0) (length words))
        till (yes n) =
            let low : rule + 1 < max_rules = omega (arith, n, few) in
            rw (lt-ltb (rule + 1) z.rules n, mod-eq_of_lt low, add-one rule) (till_next words z k.read rule its_turn (omega (arith, n)))
        till (no n) = rw (le-ltb (rule + 1) z.rules (omega (arith, n))) (till_end words z k.read rule its_turn (omega (arith, n)))

    pub head_below : {w : Word} {head : ℕ} → w ≡ decoded (get_or words (get_or starts rule 0) 0) → head ≡ head_of w → head < max_nonterminals
    head_below e f =
        let y = well_read words z k.read in
        let m = rw (← (read_whole words z k.read).rules) at (rule_in words z k.read rule its_turn) in
        omega (arith, its_head e f, y.formed.scoped.heads _ m, y.few_nonterminals, y.nonterminals)

  module _ (given : SetFamily → Rule → ℕ) (larger : Larger given) (forward : Bool) where
    pub visit : {l l' : List ℕ} (g : Bool) {g' r : Bool} {i rule v head : ℕ} {w : Word} → Turns (Gives given words) z.rules forward l₀ l g i
        → i < z.rules → rule ≡ turn_of forward z.rules i → v ≡ given (at l) (rule_from words (get_or starts rule 0))
        → w ≡ decoded (get_or words (get_or starts rule 0) 0) → head ≡ head_of w → AddsToSet l (head % max_nonterminals) v l' g'
        → r ≡ (g || g')
        → Turns (Gives given words) z.rules forward l₀ l' r (i + 1)
    visit {l} {l'} g {g'} {i = i} {rule} {v} {head} p h t e f d a told = turns_next (Gives given words) z.rules forward g g' p h (rw t at met) told
      where
        given_here : v ≡ given (at l) (rule_numbered words rule)
        given_here = e ∙ rw k.begins

        head_here : head ≡ (rule_numbered words rule).head
        head_here = its_head forward h t f d

        room : (rule_numbered words rule).head < length l
        room = omega (arith, head_here, head_below forward h t f d, p.long, k.long)

        met : Passes (Gives given words rule) l l' g'
        met =
            passing_add room (λ G c u x s. c x (larger (at l) G u (rule_numbered words rule) x (rw given_here at s))) (λ s. rw given_here at s)
            (rw head_here at (added_at (head_below forward h t f d) a))

    pub visits_end : {l : List ℕ} {grown : Bool} {i : ℕ} → Turns (Gives given words) z.rules forward l₀ l grown i → z.rules ≤ i
        → Passes (Closes given (parse words).rules) l₀ l grown
    visits_end p h =
        turns_end (Gives given words) z.rules forward p h (λ G c q b. c (rule_numbered words q) (rule_in words z k.read q b))
        (λ G a r m. let n = in_rules words z k.read r m in rw n.2 (a n.0 n.1))
