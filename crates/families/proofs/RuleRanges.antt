-- Where the words of each rule of a grammar that has been read stand, and that these rules are the grammar's.
use Rattle.std.specs.Prelude.{Ok}
use mathlib.Core.Path.{◌≡◌, refl, sym, ap, ◌∙◌}
use mathlib.Core.Bool.{Bool, true, false, false≢true}
use mathlib.Core.List.{List, [], ◌∷◌, ◌++◌, Memᴰ}
use mathlib.Core.Option.{some}
use Prim.Native.Nat.{ℕ, zero, suc, ◌+◌, ◌≤◌, ◌<◌}
use native.Mathlib.Omega.{arith}
use lib.ListN.{length, get_or, drop, replicate, get_or-append}
use lib.Seq.{drop-cons, get_or-take}
use Rattle.word.specs.declared.Word.{Word}
use Rattle.word.specs.declared.Word.TheVariants.{Heading, Rule as RuleWord, Positive, Negative, Symbol, End, Invalid}
use Rattle.base.specs.Choice.{choose}
use Rattle.word.specs.Words.{decoded}
use Rattle.grammar.specs.declared.reading.Sizes.{Sizes}
use Rattle.grammar.specs.declared.reading.State.{State}
use Rattle.grammar.specs.Limits.{max_rules}
use Rattle.grammar.specs.Syntax.{Rule}
use Rattle.grammar.specs.Encoding.{Parsed, rule_of, on_word, parse, grammar_of}
use Rattle.grammar.specs.Reading.{allows, begins_rule, reading}
use Rattle.grammar.specs.inner.Starts.{starts, rule_starts}
use Rattle.grammar.specs.inner.WellRead.{head_of, rule_read, WellRead}
use Rattle.grammar.proofs.Begins.{begins, as_many}
use Rattle.grammar.proofs.EachIndex.{read_whole}
use Rattle.grammar.proofs.Suffixes.{scan_next, read_reaches}
use Rattle.grammar.proofs.WellRead.{well_read}
use Rattle.semantics.proofs.descent.Outcomes.{nth_below, nth_mem, mem_nth}
use Rattle.families.specs.inner.Rules.{rule_from, Ended, Inside, RuleWords}
use Rattle.families.proofs.Words.{parse_here, parse_over}

-- the rules begin one behind the other
rising : (at : ℕ) (ws : List ℕ) (q : ℕ) → suc q < length (starts at ws) → get_or (starts at ws) q 0 < get_or (starts at ws) (suc q) 0
unfolding starts
rising at [] q h = absurd (omega arith)
rising at (w ∷ ws) q h = go (begins_rule (decoded w)) q h (rising (suc at) ws)
  where
    go : (b : Bool) (q : ℕ) → suc q < length (choose b (at ∷ starts (suc at) ws) (starts (suc at) ws))
        → ((q : ℕ) → suc q < length (starts (suc at) ws) → get_or (starts (suc at) ws) q 0 < get_or (starts (suc at) ws) (suc q) 0)
        → get_or (choose b (at ∷ starts (suc at) ws) (starts (suc at) ws)) q 0 < get_or (choose b (at ∷ starts (suc at) ws) (starts (suc at) ws)) (suc q) 0
    go true zero h f = (begins (suc at) ws 0 (omega arith)).low
    go true (suc q) h f = f q (omega arith)
    go false q h f = f q h

-- no rule begins before the first
before_first : (at : ℕ) (ws : List ℕ) (k : ℕ) → k < length ws → (0 < length (starts at ws) → at + k < get_or (starts at ws) 0 0)
    → begins_rule (decoded (get_or ws k 0)) ≡ false
unfolding starts
before_first at [] k h l = absurd (omega arith)
before_first at (w ∷ ws) k h l = go (begins_rule (decoded w)) refl k h l (before_first (suc at) ws)
  where
    later : List ℕ
    later = starts (suc at) ws

    go : (b : Bool) → begins_rule (decoded w) ≡ b → (k : ℕ) → k < length (w ∷ ws)
        → (0 < length (choose b (at ∷ later) later) → at + k < get_or (choose b (at ∷ later) later) 0 0)
        → ((k : ℕ) → k < length ws → (0 < length later → suc at + k < get_or later 0 0) → begins_rule (decoded (get_or ws k 0)) ≡ false)
        → begins_rule (decoded (get_or (w ∷ ws) k 0)) ≡ false
    go true e k h l f = absurd (omega (arith, l (omega arith)))
    go false e zero h l f = e
    go false e (suc k) h l f = f k (omega arith) (λ s. omega (arith, l s))

-- nor between a rule's begin and the next
between : (at : ℕ) (ws : List ℕ) (q k : ℕ) → q < length (starts at ws) → k < length ws → get_or (starts at ws) q 0 < at + k
    → (suc q < length (starts at ws) → at + k < get_or (starts at ws) (suc q) 0) → begins_rule (decoded (get_or ws k 0)) ≡ false
unfolding starts
between at [] q k n h a b = absurd (omega arith)
between at (w ∷ ws) q k n h a b = go (begins_rule (decoded w)) refl q k n h a b (between (suc at) ws)
  where
    later : List ℕ
    later = starts (suc at) ws

    go : (c : Bool) → begins_rule (decoded w) ≡ c → (q k : ℕ) → q < length (choose c (at ∷ later) later) → k < length (w ∷ ws)
        → get_or (choose c (at ∷ later) later) q 0 < at + k
        → (suc q < length (choose c (at ∷ later) later) → at + k < get_or (choose c (at ∷ later) later) (suc q) 0)
        → ((q k : ℕ) → q < length later → k < length ws → get_or later q 0 < suc at + k → (suc q < length later → suc at + k < get_or later (suc q) 0)
        → begins_rule (decoded (get_or ws k 0)) ≡ false)
        → begins_rule (decoded (get_or (w ∷ ws) k 0)) ≡ false
    go true e zero zero n h a b f = absurd (omega arith)
    go true e zero (suc k) n h a b f = before_first (suc at) ws k (omega arith) (λ s. omega (arith, b (omega arith)))
    go true e (suc q) zero n h a b f = absurd (omega (arith, (begins (suc at) ws q (omega arith)).low))
    go true e (suc q) (suc k) n h a b f = f q k (omega arith) (omega arith) (omega arith) (λ s. omega (arith, b (omega arith)))
    go false e q zero n h a b f = e
    go false e q (suc k) n h a b f = f q k n (omega arith) (omega arith) (λ s. omega (arith, b s))

-- where a rule begins or nothing is left to read, nothing is open
begin_ended : (w : Word) (p : Parsed) → begins_rule w ≡ true → Ended (on_word w p)
unfolding on_word
begin_ended (RuleWord A) p e = record { body = refl; positives = refl; negatives = refl }
begin_ended Positive p e = absurd (false≢true e)
begin_ended Negative p e = absurd (false≢true e)
begin_ended (Symbol X) p e = absurd (false≢true e)
begin_ended End p e = absurd (false≢true e)
begin_ended (Heading n t) p e = absurd (false≢true e)
begin_ended Invalid p e = absurd (false≢true e)

none_ended : Ended (parse [])
unfolding parse
none_ended = record { body = refl; positives = refl; negatives = refl }

-- a word that may stand there and begins no rule stands inside one
allowed_inside : (w : Word) (s : State) → allows w s ≡ true → begins_rule w ≡ false → Inside w
allowed_inside (RuleWord A) s a b = absurd (false≢true (sym b))
allowed_inside Positive s a b = tt
allowed_inside Negative s a b = tt
allowed_inside (Symbol X) s a b = tt
allowed_inside End s a b = tt
allowed_inside (Heading n t) s a b = absurd (false≢true a)
allowed_inside Invalid s a b = absurd (false≢true a)

module _ (words : List ℕ) (z : Sizes) (read : reading words ≡ Ok z) where
  known : WellRead words z
  known = well_read words z read

  many : length (starts 0 words) ≡ z.rules
  many = as_many 0 words ∙ sym (ap length (read_whole words z read).rules) ∙ sym known.rules

  -- the indices that are kept are those of all rules
  kept : (q : ℕ) → q < z.rules → get_or (rule_starts words) q 0 ≡ get_or (starts 0 words) q 0
  unfolding rule_starts
  kept q h =
      get_or-take max_rules (starts 0 words ++ replicate max_rules 0) q 0 (omega (arith, known.few_rules))
      ∙ get_or-append (starts 0 words) (replicate max_rules 0) 0 q (omega (arith, many))

  plain : (i : ℕ) → 0 < i → i < length words → begins_rule (decoded (get_or words i 0)) ≡ false → Inside (decoded (get_or words i 0))
  plain zero p h b = absurd (omega arith)
  plain (suc i) p h b =
      let r = read_reaches words z read i (omega arith) in
      let n = scan_next words (suc i) r.progress z h r.reads in
      allowed_inside (decoded (get_or words (suc i) 0)) r.progress.state n.passed.allowed b

  -- what `end_of` returns
  module _ (q : ℕ) (h : q < z.rules) where
    pub till_next : suc q < z.rules → RuleWords words (get_or (rule_starts words) q 0) (get_or (rule_starts words) (suc q) 0)
    till_next n =
        let b = known.begun (suc q) n in
        record {
          sizes = z;
          read = read;
          some = rw (kept q h, kept (suc q) n) (rising 0 words q (omega (arith, many)));
          within = omega (arith, b.high);
          ended = rw (parse_here words (get_or (rule_starts words) (suc q) 0) b.high) (begin_ended _ _ b.word);
          inside = λ i l u. plain i (omega arith) (omega (arith, b.high))
              (between 0 words q i (omega (arith, many)) (omega (arith, b.high)) (omega (arith, kept q h)) (λ s. omega (arith, kept (suc q) n)));
        }

    pub till_end : z.rules ≤ suc q → RuleWords words (get_or (rule_starts words) q 0) (length words)
    till_end n = record {
      sizes = z;
      read = read;
      some = (known.begun q h).high;
      within = omega arith;
      ended = rw (parse_over words (length words) (omega arith)) none_ended;
      inside = λ i l u. plain i (omega arith) u (between 0 words q i (omega (arith, many)) u (omega (arith, kept q h)) (λ s. absurd (omega (arith, many))));
    }

    -- the rule is one of the grammar's
    pub rule_in : Memᴰ (rule_from words (get_or (rule_starts words) q 0)) (parse words).rules
    rule_in = rw (read_whole words z read).rules at (nth_mem (grammar_of words).rules q _ (known.begins q h))

  -- and each of the grammar's is one of these
  pub in_rules : (r : Rule) → Memᴰ r (parse words).rules → (q : ℕ) × (q < z.rules) × (r ≡ rule_from words (get_or (rule_starts words) q 0))
  in_rules r m =
      let n = mem_nth (grammar_of words).rules r (rw (read_whole words z read).rules m) in
      let b : n.0 < z.rules = omega (arith, nth_below (grammar_of words).rules n.0 r n.1, known.rules) in
      (n.0, b, same (sym n.1 ∙ known.begins n.0 b))
    where
      same : {x y : Rule} → some x ≡ some y → x ≡ y
      same e = cc

  -- the rule that begins at an index, by the word there
  pub rule_is : (q : ℕ) → q < z.rules
      → rule_from words (get_or (rule_starts words) q 0)
      ≡ rule_of (head_of (decoded (get_or words (get_or (rule_starts words) q 0) 0))) (parse (drop (suc (get_or (rule_starts words) q 0)) words))
  unfolding rule_read
  rule_is q h = rw (drop-cons words (get_or (rule_starts words) q 0) 0 (known.begun q h).high)
