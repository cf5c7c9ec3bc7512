-- Calling a nonterminal: the bodies of its rule agree on the end that the descent with a memo table gives.
use mathlib.Core.Path.{◌≡◌, refl, sym, ap, ◌∙◌}
use mathlib.Core.Bool.{Bool, true, false, not, ◌&&◌, true≢false, false≢true}
use mathlib.Core.List.{List, [], ◌∷◌, Memᴰ}
use mathlib.Core.Option.{Option, some}
use Prim.Native.Nat.{ℕ, ◌+◌, ◌≤◌, ◌<◌}
use native.Mathlib.Omega.{arith}
use native.Mathlib.Decide.{dec_lt}
use lib.Dec.{eqb}
use lib.ListN.{length, get_or, drop}
use borrow.Author.Tests.{lt-ltb, eqb-true, eqb-false}
use Rattle.base.specs.Choice.{choose}
use Rattle.word.specs.Words.{decoded}
use Rattle.word.specs.declared.Symbol as grammar
use Rattle.word.specs.declared.Word.{Word}
use Rattle.word.specs.declared.Word.TheVariants as word
use Rattle.word.specs.declared.Word.TheVariants.{Symbol}
use Rattle.grammar.specs.Codes.{failed_code}
use Rattle.grammar.specs.Syntax.{Body, Rule, bodies}
use Rattle.grammar.specs.Encoding.{Parsed, on_word, parse, grammar_of}
use Rattle.grammar.specs.Reading.{allows, scan, reading}
use Rattle.grammar.specs.declared.reading.State.{State}
use Rattle.grammar.specs.declared.reading.State.TheVariants as state
use Rattle.grammar.specs.declared.reading.Progress.{Progress}
use Rattle.grammar.proofs.Suffixes.{Next, scan_next}
use Rattle.grammar.proofs.WellFormed.{RestFits, reads}
use Rattle.semantics.specs.Choices.{Choice}
use Rattle.semantics.specs.Descent.{Outcome, Failed, End, ends_at, select}
use Rattle.semantics.specs.inner.MemoDescent.{Memoized, memoized, and_then, MemoCalls, memo_run, memo_negatives, memo_positives, memo_rule, memo_obey}
use Rattle.semantics.specs.Memo.{outcome_code}
use Rattle.semantics.specs.inner.Memo.{decode}
use Rattle.rule.specs.declared.Sign.{Sign}
use Rattle.rule.specs.declared.Sign.TheVariants.{Positive, Negative, Neither}
use Rattle.rule.specs.inner.Rule as agreement
use Rattle.rule.specs.inner.Rule.{Agreement, agreement_of, sign_of, sign_at, body_end, begins_body, goes_on, has_failed, joined_by, concluded}
use Rattle.rule.proofs.Signs.{sign_number_lem, sign_positive, sign_negative, sign_within}
use Rattle.rule.proofs.Agreements.{opens_no_more, ends_joined, code_told, failed_told, lives_told, concluded_told}
use Rattle.descent_steps.specs.declared.state.RuleState.{RuleState}
use Rattle.descent_steps.specs.inner.Steps.{conjunct_sign, next_conjunct, failed_at, reached, goes_further, agreed_with, next_state}
use Rattle.descent_steps.proofs.Conjuncts.{conjunct_sign_lem, word_sign}
use Rattle.families.proofs.Words.{parse_over}
use Rattle.recursive_descent_promises.specs.declared.Run.{Run}
use Rattle.recursive_descent_promises.specs.inner.Descent.{is_closed, MemoSound, CallGiven, RunGiven, RunDone}
use Rattle.recursive_descent_promises.proofs.Bodies.{parse_here, skipped_on, body_ended}
use Rattle.recursive_descent_promises.proofs.Running.{deep, level}

-- what is left of a rule: of positives ps and negatives ns, where the bodies before them have agreed
unfoldable pub memo_rest : MemoCalls → List ℕ → ℕ → Agreement → List Body → List Body → List ℕ → Memoized
memo_rest M w i agreement.Open ps ns m = memo_rule M w (length w) ps ns i m
memo_rest M w i (agreement.At e) ps ns m = memo_positives M w i e ps ns m
memo_rest M w i agreement.Failed ps ns m = memoized Failed m

-- a rule that has reached an index: a conjunct begins there, or the rule ends
pub record Calling (choice : Choice) (words input memo₀ : List ℕ) (A place : ℕ) (r : Rule) (memo : List ℕ) (at : ℕ)
    (sign : Sign) (agreed : Agreement) : Type 0 where
  pub sound : MemoSound choice words input memo
  pub within : at ≤ length words
  pub signed : sign ≡ sign_at words at
  pub ends : (e : ℕ) → agreed ≡ agreement.At e → e ≤ length input
  pub rest : (n : ℕ) → level words input A place ≤ n
      → memo_obey (deep choice words input n) input (some r) place memo₀
      ≡ memo_rest (deep choice words input n) input place agreed (parse (drop at words)).positives (parse (drop at words)).negatives memo
  pub positives : (b : Body) → Memᴰ b (parse (drop at words)).positives → Memᴰ b (bodies r)
  pub negatives : (b : Body) → Memᴰ b (parse (drop at words)).negatives → Memᴰ b (bodies r)
  pub progress : Progress
  pub reads : scan progress at (drop at words) ≡ reading words
  pub opens : agreed ≡ agreement.Open → progress.state ≡ state.Opened
  pub opened : agreed ≡ agreement.Open → sign ≡ Negative → ⊥
  pub boundary : (X : grammar.Symbol) → at < length words → decoded (get_or words at 0) ≡ Symbol X → ⊥

-- one body more of what is left
module _ (M : MemoCalls) (w : List ℕ) (i : ℕ) (b : Body) (ns : List Body) (m m' : List ℕ) (o : Outcome) (run : memo_run M w b i m ≡ memoized o m') where
  positive_opens : (ps : List Body) → memo_rest M w i agreement.Open (b ∷ ps) ns m ≡ memo_rest M w i (joined_by Positive agreement.Open o) ps ns m'
  unfolding memo_rest memo_rule and_then
  positive_opens ps = rw run (go o)
    where
      go : (x : Outcome) → and_then x m' (λ e m''. memo_positives M w i e ps ns m'') ≡ memo_rest M w i (joined_by Positive agreement.Open x) ps ns m'
      go Failed = refl
      go (End e) = refl

  positive_keeps : (e : ℕ) (ps : List Body)
      → memo_rest M w i (agreement.At e) (b ∷ ps) ns m ≡ memo_rest M w i (joined_by Positive (agreement.At e) o) ps ns m'
  unfolding memo_rest memo_positives
  positive_keeps e ps = rw run (go (ends_at o e))
    where
      go : (x : Bool)
          → choose x (memo_positives M w i e ps ns m') (memoized Failed m') ≡ memo_rest M w i (choose x (agreement.At e) agreement.Failed) ps ns m'
      go true = refl
      go false = refl

  negative_keeps : (e : ℕ) → memo_rest M w i (agreement.At e) [] (b ∷ ns) m ≡ memo_rest M w i (joined_by Negative (agreement.At e) o) [] ns m'
  unfolding memo_rest memo_positives memo_negatives
  negative_keeps e = rw run (go (ends_at o e))
    where
      go : (x : Bool)
          → choose x (memoized Failed m') (memo_negatives M w i e ns m') ≡ memo_rest M w i (choose x agreement.Failed (agreement.At e)) [] ns m'
      go true = refl
      go false = refl

module _ {choice : Choice} {words choices tokens input memo₀ : List ℕ} {A place : ℕ} (g : CallGiven choice words choices tokens input memo₀ A place) (r : Rule)
    (listed : Memᴰ r (grammar_of words).rules) (heads : r.head ≡ A)
    {memo : List ℕ} {at : ℕ} {sign : Sign} {agreed : Agreement} (v : Calling choice words input memo₀ A place r memo at sign agreed) where
  -- the call with the memo as it is now
  pub calling_given : CallGiven choice words choices tokens input memo A place
  calling_given = record {
    given = record {
      sizes = g.given.sizes;
      read = g.given.read;
      free = g.given.free;
      own = g.given.own;
      rows = g.given.rows;
      ends = g.given.ends;
      columns = g.given.columns;
      firsts = g.given.firsts;
      terminals = g.given.terminals;
      end = g.given.end;
      short = g.given.short;
      sound = v.sound;
    };
    named = g.named;
    placed = g.placed;
  }

  -- the words behind the one at the index
  abbrev Q : Parsed
  Q = parse (drop (at + 1) words)

  -- a conjunct begins at the index: its body is one of the rule's, and what is left behind it
  pub record Conjunct : Type 0 where
    pub low : at < length words
    pub held : Memᴰ Q.body (bodies r)
    pub positives : (b : Body) → Memᴰ b Q.positives → Memᴰ b (bodies r)
    pub negatives : (b : Body) → Memᴰ b Q.negatives → Memᴰ b (bodies r)
    pub progress : Progress
    pub reads : scan progress (at + 1) (drop (at + 1) words) ≡ reading words
    pub unclosed : is_closed progress.state ≡ false
    pub joins : (n : ℕ) (m' : List ℕ) (o : Outcome) → memo_run (deep choice words input n) input Q.body place memo ≡ memoized o m'
        → memo_rest (deep choice words input n) input place agreed (parse (drop at words)).positives (parse (drop at words)).negatives memo
        ≡ memo_rest (deep choice words input n) input place (joined_by sign agreed o) Q.positives Q.negatives m'

  module _ (h : at < length words) where
    next : Next words at v.progress g.given.sizes
    next = scan_next words at v.progress g.given.sizes h (v.reads ∙ g.given.read)

    next_reads : scan next.progress (at + 1) (drop (at + 1) words) ≡ reading words
    next_reads = next.reads ∙ sym g.given.read

    fits : RestFits next.progress.state g.given.sizes Q
    fits = (reads next.progress (at + 1) (drop (at + 1) words) g.given.sizes next.reads).fits

    module _ (goes : goes_on sign agreed ≡ true) where
      -- a positive conjunct
      positive : decoded (get_or words at 0) ≡ word.Positive → sign ≡ Positive → Conjunct
      unfolding on_word
      positive x s =
          let p : parse (drop at words) ≡ on_word word.Positive Q = parse_here words at h ∙ ap (λ w. on_word w Q) x in
          let after-positive : next.progress.state ≡ state.InPositive = rw x at next.passed.state in
          let ps : (parse (drop at words)).positives ≡ Q.body ∷ Q.positives = ap (λ q. q.positives) p in
          let ns : (parse (drop at words)).negatives ≡ Q.negatives = ap (λ q. q.negatives) p in
          record {
            low = h;
            held = v.positives Q.body (rw ps (Memᴰ.head refl));
            positives = λ b k. v.positives b (rw ps (Memᴰ.tail k));
            negatives = λ b k. v.negatives b (rw ns k);
            progress = next.progress;
            reads = next_reads;
            unclosed = ap is_closed after-positive;
            joins = λ n m' o run. rw (ps, ns, s) (join agreed (rw s at goes) n m' o run);
          }
        where
          join : (a : Agreement) → goes_on Positive a ≡ true → (n : ℕ) (m' : List ℕ) (o : Outcome)
              → memo_run (deep choice words input n) input Q.body place memo ≡ memoized o m'
              → memo_rest (deep choice words input n) input place a (Q.body ∷ Q.positives) Q.negatives memo
              ≡ memo_rest (deep choice words input n) input place (joined_by Positive a o) Q.positives Q.negatives m'
          join agreement.Open t n m' o run = positive_opens (deep choice words input n) input place Q.body Q.negatives memo m' o run Q.positives
          join (agreement.At e) t n m' o run = positive_keeps (deep choice words input n) input place Q.body Q.negatives memo m' o run e Q.positives
          join agreement.Failed t n m' o run = absurd (false≢true t)

      -- a negative conjunct: no positive one follows it
      negative : decoded (get_or words at 0) ≡ word.Negative → sign ≡ Negative → Conjunct
      unfolding on_word
      negative x s =
          let p : parse (drop at words) ≡ on_word word.Negative Q = parse_here words at h ∙ ap (λ w. on_word w Q) x in
          let allowed : allows word.Negative v.progress.state ≡ true = rw x at next.passed.allowed in
          let after-negative : next.progress.state ≡ state.InNegative = rw x at next.passed.state in
          let none : Q.positives ≡ [] = rw after-negative at fits.shape in
          let ps : (parse (drop at words)).positives ≡ Q.positives = ap (λ q. q.positives) p in
          let ns : (parse (drop at words)).negatives ≡ Q.body ∷ Q.negatives = ap (λ q. q.negatives) p in
          record {
            low = h;
            held = v.negatives Q.body (rw ns (Memᴰ.head refl));
            positives = λ b k. v.positives b (rw ps k);
            negatives = λ b k. v.negatives b (rw ns (Memᴰ.tail k));
            progress = next.progress;
            reads = next_reads;
            unclosed = ap is_closed after-negative;
            joins = λ n m' o run. rw (ps, ns, s, none) (join agreed refl allowed (rw s at goes) n m' o run);
          }
        where
          join : (a : Agreement) → agreed ≡ a → allows word.Negative v.progress.state ≡ true → goes_on Negative a ≡ true
              → (n : ℕ) (m' : List ℕ) (o : Outcome) → memo_run (deep choice words input n) input Q.body place memo ≡ memoized o m'
              → memo_rest (deep choice words input n) input place a [] (Q.body ∷ Q.negatives) memo
              ≡ memo_rest (deep choice words input n) input place (joined_by Negative a o) [] Q.negatives m'
          join agreement.Open e w t n m' o run = absurd (v.opened e s)
          join (agreement.At x) e w t n m' o run = negative_keeps (deep choice words input n) input place Q.body Q.negatives memo m' o run x
          join agreement.Failed e w t n m' o run = absurd (false≢true t)

  -- where the rule goes on a conjunct begins
  pub conjunct : goes_on sign agreed ≡ true → Conjunct
  conjunct goes = go sign refl
    where
      begins : (s : Sign) (a : Agreement) → goes_on s a ≡ true → s ≡ Neither → ⊥
      begins s agreement.Open t e = false≢true (rw e at t)
      begins s (agreement.At x) t e = false≢true (rw e at t)
      begins s agreement.Failed t e = false≢true t

      within : (sign ≡ Neither → ⊥) → (at < length words) × (sign ≡ sign_of (decoded (get_or words at 0)))
      within n = let k = sign_within words at (λ e. n (v.signed ∙ e)) in (k.0, v.signed ∙ k.1)

      go : (s : Sign) → sign ≡ s → Conjunct
      go Positive e =
          let k = within (begins sign agreed goes) in
          positive k.0 goes (sign_positive (decoded (get_or words at 0)) (sym k.1 ∙ e)) e
      go Negative e =
          let k = within (begins sign agreed goes) in
          negative k.0 goes (sign_negative (decoded (get_or words at 0)) (sym k.1 ∙ e)) e
      go Neither e = absurd (begins sign agreed goes e)

  -- the run of its body
  pub calling_run : (k : Conjunct) → RunGiven choice words choices tokens input memo A (at + 1) place
  calling_run k =
      record {
        call = calling_given;
        rule = r;
        listed = listed;
        heads = heads;
        inside = omega (arith, k.low);
        body = k.held;
        progress = k.progress;
        reads = k.reads;
        unclosed = k.unclosed;
      }

  -- one body more
  pub calling_turn : goes_on sign agreed ≡ true → {o : Run} {memo' : List ℕ} {at' : ℕ} {sign' : Sign} {agreed' : Agreement}
      → RunDone choice words input memo A (at + 1) place o memo' → agreed' ≡ joined_by sign agreed (decode o.end) → at' ≡ body_end words o.at
      → sign' ≡ sign_at words at'
      → Calling choice words input memo₀ A place r memo' at' sign' agreed'
  calling_turn goes {o} {memo'} {at'} {sign'} {agreed'} d j b s =
      let k = conjunct goes in
      let end = body_ended d.skipped.within b in
      let t = skipped_on d.skipped end.skipped in
      record {
        sound = d.sound;
        within = t.within;
        signed = s;
        ends = λ e q. ends_joined (length input) sign agreed (decode o.end) v.ends d.within e (sym j ∙ q);
        rest = λ n l. v.rest n l ∙ k.joins n memo' (decode o.end) (d.model n l) ∙ sym (rw (j, t.positives, t.negatives));
        positives = λ x m. k.positives x (rw t.positives at m);
        negatives = λ x m. k.negatives x (rw t.negatives at m);
        progress = k.progress;
        reads = t.reads k.progress g.given.sizes (k.reads ∙ g.given.read) ∙ sym g.given.read;
        opens = λ q. absurd (opens_no_more sign agreed (decode o.end) goes (sym j ∙ q));
        opened = λ q. absurd (opens_no_more sign agreed (decode o.end) goes (sym j ∙ q));
        boundary = end.boundary;
      }

-- a word that begins no conjunct and is no symbol ends the rule
ends_rule : (w : Word) (p : Parsed) (s : State) → allows w s ≡ true → sign_of w ≡ Neither → ((X : grammar.Symbol) → w ≡ Symbol X → ⊥)
    → ((on_word w p).positives ≡ []) × ((on_word w p).negatives ≡ [])
unfolding on_word
ends_rule (word.Heading n t) p s a e h = absurd (false≢true a)
ends_rule (word.Rule A) p s a e h = (refl, refl)
ends_rule word.Positive p s a e h = absurd (omega (arith, sign_number_lem e))
ends_rule word.Negative p s a e h = absurd (omega (arith, sign_number_lem e))
ends_rule (word.Symbol X) p s a e h = absurd (h X refl)
ends_rule word.End p s a e h = (refl, refl)
ends_rule word.Invalid p s a e h = absurd (false≢true a)

nothing_left : ((parse []).positives ≡ []) × ((parse []).negatives ≡ [])
unfolding parse
nothing_left = (refl, refl)

module _ {choice : Choice} {words choices tokens input memo₀ : List ℕ} {A place : ℕ} (g : CallGiven choice words choices tokens input memo₀ A place) {r : Rule}
    {memo : List ℕ} {at : ℕ} {sign : Sign} {agreed : Agreement} (v : Calling choice words input memo₀ A place r memo at sign agreed) where
  -- where no conjunct begins nothing is left of the rule
  none_left : sign ≡ Neither → ((parse (drop at words)).positives ≡ []) × ((parse (drop at words)).negatives ≡ [])
  unfolding sign_at
  none_left e = go (dec_lt at (length words))
    where
      go : Dec (at < length words) → ((parse (drop at words)).positives ≡ []) × ((parse (drop at words)).negatives ≡ [])
      go (yes l) =
          let n = scan_next words at v.progress g.given.sizes l (v.reads ∙ g.given.read) in
          let s : sign_of (decoded (get_or words at 0)) ≡ Neither = (rw (lt-ltb at (length words) l) at (sym v.signed)) ∙ e in
          rw (parse_here words at l)
          (ends_rule (decoded (get_or words at 0)) (parse (drop (at + 1) words)) v.progress.state n.passed.allowed s (λ X. v.boundary X l))
      go (no l) = over (parse_over words at (omega arith))
        where
          over : parse (drop at words) ≡ parse [] → ((parse (drop at words)).positives ≡ []) × ((parse (drop at words)).negatives ≡ [])
          over p = rw p nothing_left

  neither : (s : Sign) → begins_body s ≡ false → s ≡ Neither
  neither Positive e = absurd (true≢false e)
  neither Negative e = absurd (true≢false e)
  neither Neither e = refl

  -- a rule has a body, and so its end is set once nothing is left of it
  not_open : begins_body sign ≡ false → agreed ≡ agreement.Open → ⊥
  not_open t e =
      let f = (reads v.progress at (drop at words) g.given.sizes (v.reads ∙ g.given.read)).fits in
      let k = none_left (neither sign t) in
      (rw (v.opens e) at f.shape).1 (rw (k.0, k.1))

  -- the rule has run: its bodies agree, or it has failed
  pub calling_done : goes_on sign agreed ≡ false → (n : ℕ) → level words input A place ≤ n
      → memo_obey (deep choice words input n) input (some r) place memo₀ ≡ memoized (concluded agreed) memo
  unfolding memo_rest memo_positives memo_negatives
  calling_done stops n l = v.rest n l ∙ go agreed refl stops
    where
      go : (a : Agreement) → agreed ≡ a → goes_on sign a ≡ false
          → memo_rest (deep choice words input n) input place a (parse (drop at words)).positives (parse (drop at words)).negatives memo
          ≡ memoized (concluded a) memo
      go agreement.Open e t = absurd (not_open t e)
      go (agreement.At x) e t = let k = none_left (neither sign t) in rw (k.0, k.1)
      go agreement.Failed e t = refl

-- a call that runs a rule
pub record InRule (choice : Choice) (words input memo₀ : List ℕ) (A place : ℕ) (memo : List ℕ) (at : ℕ) (sign : Sign) (agreed : Agreement) : Type 0 where
  pub rule : Rule
  pub listed : Memᴰ rule (grammar_of words).rules
  pub heads : rule.head ≡ A
  pub selected : select (grammar_of words) (choice A place) ≡ some rule
  pub calling : Calling choice words input memo₀ A place rule memo at sign agreed

module _ {choice : Choice} {words choices tokens input memo₀ : List ℕ} {A place : ℕ} (g : CallGiven choice words choices tokens input memo₀ A place)
    {memo : List ℕ} {at : ℕ} {sign : Sign} {agreed : Agreement} (v : InRule choice words input memo₀ A place memo at sign agreed) where
  pub rule_conjunct : goes_on sign agreed ≡ true → at < length words
  rule_conjunct goes = (conjunct g v.rule v.listed v.heads v.calling goes).low

  pub rule_run : goes_on sign agreed ≡ true → RunGiven choice words choices tokens input memo A (at + 1) place
  rule_run goes = calling_run g v.rule v.listed v.heads v.calling (conjunct g v.rule v.listed v.heads v.calling goes)

  pub rule_turn : goes_on sign agreed ≡ true → {o : Run} {memo' : List ℕ} {at' : ℕ} {sign' : Sign} {agreed' : Agreement}
      → RunDone choice words input memo A (at + 1) place o memo' → agreed' ≡ joined_by sign agreed (decode o.end) → at' ≡ body_end words o.at
      → sign' ≡ sign_at words at'
      → InRule choice words input memo₀ A place memo' at' sign' agreed'
  rule_turn goes d j b s = record {
    rule = v.rule;
    listed = v.listed;
    heads = v.heads;
    selected = v.selected;
    calling = calling_turn g v.rule v.listed v.heads v.calling goes d j b s;
  }

  pub rule_done : goes_on sign agreed ≡ false
      → (n : ℕ) → level words input A place ≤ n
      → memo_obey (deep choice words input n) input (some v.rule) place memo₀ ≡ memoized (concluded agreed) memo
  rule_done stops = calling_done g v.calling stops

-- a call whose rule has run, or that has none: the agreement is the entry of its outcome
pub record Ran (choice : Choice) (words input memo₀ : List ℕ) (A place : ℕ) (memo : List ℕ) (agreed : ℕ) : Type 0 where
  pub rule : Option Rule
  pub selected : select (grammar_of words) (choice A place) ≡ rule
  pub outcome : Outcome
  pub ran : (n : ℕ) → level words input A place ≤ n → memo_obey (deep choice words input n) input rule place memo₀ ≡ memoized outcome memo
  pub told : agreed ≡ outcome_code outcome

-- a call that has got so far with its rule, or has failed
pub record Going (choice : Choice) (words input memo₀ : List ℕ) (A place : ℕ) (memo : List ℕ) (s : RuleState) : Type 0 where
  pub sound : MemoSound choice words input memo
  pub lives : (s.agreement ≡ failed_code → ⊥)
      → InRule choice words input memo₀ A place memo s.at (sign_of (decoded s.word)) (agreement_of s.agreement)
  pub failed : s.agreement ≡ failed_code → Ran choice words input memo₀ A place memo s.agreement

-- the rule goes on where a conjunct begins, and ends elsewhere
goes : (s : Sign) (a : Agreement) → has_failed a ≡ false → goes_on s a ≡ begins_body s
goes s agreement.Open h = refl
goes s (agreement.At e) h = refl
goes s agreement.Failed h = absurd (true≢false h)

failed_stops : (s : Sign) (a : Agreement) → has_failed a ≡ true → (goes_on s a ≡ false) × (concluded a ≡ Failed)
failed_stops s agreement.Open h = absurd (false≢true h)
failed_stops s (agreement.At e) h = absurd (false≢true h)
failed_stops s agreement.Failed h = (refl, refl)

-- a further body is run where a conjunct begins, of a rule that has not failed
further_lives : (s : RuleState) → goes_further s ≡ true → (s.agreement ≡ failed_code → ⊥) × (begins_body (sign_of (decoded s.word)) ≡ true)
unfolding goes_further
further_lives s h = go (eqb s.agreement failed_code) refl h
  where
    go : (b : Bool) → eqb s.agreement failed_code ≡ b → (not b && begins_body (sign_of (decoded s.word))) ≡ true
        → (s.agreement ≡ failed_code → ⊥) × (begins_body (sign_of (decoded s.word)) ≡ true)
    go true e h = absurd (false≢true h)
    go false e h = (eqb-false s.agreement failed_code e, h)

module _ {choice : Choice} {words choices tokens input memo₀ : List ℕ} {A place : ℕ} (g : CallGiven choice words choices tokens input memo₀ A place)
    {memo : List ℕ} {s : RuleState} (v : Going choice words input memo₀ A place memo s) where
  module _ (further : goes_further s ≡ true) where
    begins : begins_body (sign_of (decoded s.word)) ≡ true
    begins = (further_lives s further).1

    in_rule : InRule choice words input memo₀ A place memo s.at (sign_of (decoded s.word)) (agreement_of s.agreement)
    in_rule = v.lives (further_lives s further).0

    on : goes_on (sign_of (decoded s.word)) (agreement_of s.agreement) ≡ true
    on = goes (sign_of (decoded s.word)) (agreement_of s.agreement) (lives_told s.agreement (further_lives s further).0) ∙ begins

    pub going_conjunct : s.at < length words
    going_conjunct = rule_conjunct g in_rule on

    pub going_run : RunGiven choice words choices tokens input memo A (s.at + 1) place
    going_run = rule_run g in_rule on

    module _ {o : Run} {memo' : List ℕ} (d : RunDone choice words input memo A (s.at + 1) place o memo') where
      joins : agreement_of (agreed_with s o.end) ≡ joined_by (sign_of (decoded s.word)) (agreement_of s.agreement) (decode o.end)
      joins =
          let joined = joined_by (conjunct_sign s.word) (agreement_of s.agreement) (decode o.end) in
          let low : (e : ℕ) → joined ≡ agreement.At e → e < failed_code = λ e q.
          let l = ends_joined (length input) (conjunct_sign s.word) (agreement_of s.agreement) (decode o.end) in_rule.calling.ends d.within e q in
          omega (arith, l, g.given.short) in
          code_told joined low ∙ ap (λ x. joined_by x (agreement_of s.agreement) (decode o.end)) (conjunct_sign_lem s.word begins)

      -- the rule has failed
      stopped_there : agreed_with s o.end ≡ failed_code → Ran choice words input memo₀ A place memo' failed_code
      unfolding rule_turn outcome_code
      stopped_there f =
          let next = rule_turn g in_rule on d joins refl refl in
          let k = failed_stops (sign_at words (body_end words o.at)) (agreement_of (agreed_with s o.end)) (failed_told (agreed_with s o.end) f) in
          record {
            rule = some in_rule.rule;
            selected = in_rule.selected;
            outcome = Failed;
            ran = λ n l. rule_done g next k.0 n l ∙ ap (λ x. memoized x memo') k.1;
            told = refl;
          }

      -- where the next word is
      ended : next_conjunct words o.end o.at ≡ body_end words o.at
      unfolding next_conjunct
      ended = go (eqb o.end failed_code) refl
        where
          go : (x : Bool) → eqb o.end failed_code ≡ x → choose x (body_end words o.at) o.at ≡ body_end words o.at
          go true e = refl
          go false e = sym (d.over (eqb-false o.end failed_code e))

      module _ {s' : RuleState} (q : s' ≡ next_state words s o.end o.at) where
        pub going_on : s.at < s'.at
        unfolding next_state
        going_on = go (eqb (agreed_with s o.end) failed_code) q
          where
            go : (b : Bool) → s' ≡ choose b (failed_at o.at s.word) (reached words (next_conjunct words o.end o.at) (agreed_with s o.end))
                → s.at < s'.at
            go true e = rw e (omega (arith, d.skipped.on))
            go false e = rw e (omega (arith, d.skipped.on, ended))

        pub going_turn : Going choice words input memo₀ A place memo' s'
        unfolding next_state
        going_turn = go (eqb (agreed_with s o.end) failed_code) refl q
          where
            go : (b : Bool) → eqb (agreed_with s o.end) failed_code ≡ b
                → s' ≡ choose b (failed_at o.at s.word) (reached words (next_conjunct words o.end o.at) (agreed_with s o.end))
                → Going choice words input memo₀ A place memo' s'
            go true f e = rw e (record {
              sound = d.sound;
              lives = λ n. absurd (n refl);
              failed = λ _. stopped_there (eqb-true (agreed_with s o.end) failed_code f);
            })
            go false f e = rw e (record {
              sound = d.sound;
              lives = λ _. rule_turn g in_rule on d joins ended (word_sign words (next_conjunct words o.end o.at));
              failed = λ h. absurd (eqb-false (agreed_with s o.end) failed_code f h);
            })

  -- no further body is run
  pub going_ended : goes_further s ≡ false → Ran choice words input memo₀ A place memo s.agreement
  unfolding goes_further
  going_ended stops = go (eqb s.agreement failed_code) refl stops
    where
      go : (b : Bool) → eqb s.agreement failed_code ≡ b → (not b && begins_body (sign_of (decoded s.word))) ≡ false
          → Ran choice words input memo₀ A place memo s.agreement
      go true e h = v.failed (eqb-true s.agreement failed_code e)
      go false e h =
          let n = eqb-false s.agreement failed_code e in
          let there = v.lives n in
          record {
            rule = some there.rule;
            selected = there.selected;
            outcome = concluded (agreement_of s.agreement);
            ran = rule_done g there (goes (sign_of (decoded s.word)) (agreement_of s.agreement) (lives_told s.agreement n) ∙ h);
            told = concluded_told s.agreement (not_open g there.calling h);
          }
