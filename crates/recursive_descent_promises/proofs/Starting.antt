-- The rule that is chosen: where it begins, and that its bodies are all still to be run.
use Rattle.std.specs.Prelude.{Ok}
use mathlib.Core.Path.{◌≡◌, refl, sym, ap, ◌∙◌}
use mathlib.Core.Bool.{Bool, true, false, true≢false, false≢true}
use mathlib.Core.List.Memᴰ
use mathlib.Core.List.{List, [], ◌∷◌, Memᴰ}
use mathlib.Core.Option.{Option, none, some}
use Prim.Native.Nat.{ℕ, zero, suc, ◌+◌, ◌<◌}
use native.Mathlib.Omega.{arith}
use native.Mathlib.Numerals.{add-one}
use lib.Dec.{eqb}
use lib.ListN.{length, get_or, drop}
use borrow.Author.Tests.{eqb-true, eqb-false}
use Rattle.base.specs.Choice.{choose}
use lib.Seq.{drop-cons}
use Rattle.word.specs.Words.{decoded}
use Rattle.word.specs.declared.Word.{Word}
use Rattle.word.specs.declared.Word.TheVariants as word
use Rattle.grammar.specs.Codes.{failed_code}
use Rattle.grammar.specs.Syntax.{Body, Rule, Grammar}
use Rattle.grammar.specs.Encoding.{on_word, parse, grammar_of}
use Rattle.grammar.specs.Reading.{allows, state_after, begins_rule, scan, reading}
use Rattle.grammar.specs.inner.Starts.{rule_starts}
use Rattle.grammar.specs.inner.WellRead.{rule_read, Begun, WellRead}
use Rattle.grammar.specs.declared.reading.State.{State}
use Rattle.grammar.specs.declared.reading.State.TheVariants as state
use Rattle.grammar.specs.declared.reading.Progress.{Progress}
use Rattle.grammar.specs.declared.reading.Sizes.{Sizes}
use Rattle.grammar.proofs.Suffixes.{read_reaches, scan_next}
use Rattle.grammar.proofs.WellRead.{well_read}
use Rattle.semantics.specs.Choices.{Choice}
use Rattle.semantics.specs.Descent.{Failed, select}
use Rattle.semantics.specs.Memo.{outcome_code}
use Rattle.semantics.specs.inner.MemoDescent.{MemoCalls, memoized, memo_positives, memo_rule, memo_obey}
use Rattle.semantics.proofs.descent.Outcomes.{nth_below, nth_mem}
use Rattle.rule.specs.declared.Sign.{Sign}
use Rattle.rule.specs.declared.Sign.TheVariants.{Positive, Negative, Neither}
use Rattle.rule.proofs.Signs.{sign_number_lem, sign_negative, sign_within}
use Rattle.rule.proofs.Agreements.{opening_ends, opening_open, code_told, failed_told}
use Rattle.recursive_descent_promises.proofs.Bodies.{parse_here}
use Rattle.recursive_descent_promises.proofs.Running.{deep}
use Rattle.grammar.proofs.WellFormed.{reads}
use Rattle.rule.specs.inner.Rule.{Agreement, At, sign_of, sign_at, has_failed, opening_by, agreement_code, agreement_of}
use Rattle.descent_steps.specs.declared.state.RuleState.{RuleState}
use Rattle.descent_steps.specs.inner.Steps.{word_at, conjunct_sign, failed_at, reached, first_state}
use Rattle.descent_steps.proofs.Conjuncts.{conjunct_opens, word_sign}
use Rattle.descent_arrays.specs.inner.Arrays.{end_at, first_at}
use Rattle.recursive_descent_promises.specs.inner.Descent.{first_conjunct, CallGiven}
use Rattle.recursive_descent_promises.proofs.Calling.{memo_rest, Calling, InRule, Going}

rule_opens : (w : Word) (s : State) → begins_rule w ≡ true → state_after w s ≡ state.Opened
rule_opens (word.Heading n t) s e = absurd (false≢true e)
rule_opens (word.Rule A) s e = refl
rule_opens word.Positive s e = absurd (false≢true e)
rule_opens word.Negative s e = absurd (false≢true e)
rule_opens (word.Symbol X) s e = absurd (false≢true e)
rule_opens word.End s e = absurd (false≢true e)
rule_opens word.Invalid s e = absurd (false≢true e)

-- the reading has reached a rule's begin, and goes on behind it
pub begin_next : (words : List ℕ) (z : Sizes) → reading words ≡ Ok z → (i : ℕ) → Begun words i
    → (p : Progress) × (scan p (i + 1) (drop (i + 1) words) ≡ reading words) × (p.state ≡ state.Opened)
begin_next words z read zero b = absurd (omega (arith, b.low))
begin_next words z read (suc i) b =
    let at = read_reaches words z read i (omega (arith, b.high)) in
    let n = scan_next words (suc i) at.progress z b.high at.reads in
    (n.progress, n.reads ∙ sym read, n.passed.state ∙ rule_opens (decoded (get_or words (suc i) 0)) at.progress.state b.word)

opening_lives : (s : Sign) (end : ℕ) → has_failed (opening_by s end) ≡ false
opening_lives Positive end = refl
opening_lives Negative end = refl
opening_lives Neither end = refl

-- without a rule a call fails
none_fails : (M : MemoCalls) (w : List ℕ) (i : ℕ) (m : List ℕ) → memo_obey M w none i m ≡ memoized Failed m
unfolding memo_obey
none_fails M w i m = refl

encode_failed : failed_code ≡ outcome_code Failed
unfolding outcome_code
encode_failed = refl

module _ {choice : Choice} {words choices tokens input memo : List ℕ} {A place : ℕ} (g : CallGiven choice words choices tokens input memo A place) where
  abbrev G : Grammar
  G = grammar_of words

  r : WellRead words g.given.sizes
  r = well_read words g.given.sizes g.given.read

  first : first_at choices tokens A place ≡ first_conjunct words (choice A place)
  first = g.given.firsts A place g.named g.placed

  -- 0 is where no conjunct stands
  pub no_rule : {at : ℕ} → at ≡ first_at choices tokens A place → at ≡ 0 → choice A place ≡ none
  no_rule e z = go (choice A place) refl (sym first ∙ sym e ∙ z)
    where
      go : (x : Option ℕ) → choice A place ≡ x → first_conjunct words x ≡ 0 → choice A place ≡ none
      go none c q = c
      go (some q) c y = absurd (omega arith)

  -- the rule whose first conjunct stands at an index
  pub record Chosen (at : ℕ) : Type 0 where
    pub rule : Rule
    pub listed : Memᴰ rule G.rules
    pub heads : rule.head ≡ A
    pub selected : select G (choice A place) ≡ some rule
    pub start : ℕ
    pub behind : at ≡ start + 1
    pub begun : Begun words start
    pub positives : rule.positives ≡ (parse (drop (start + 1) words)).positives
    pub negatives : rule.negatives ≡ (parse (drop (start + 1) words)).negatives

  pub rule_chosen : {at : ℕ} → at ≡ first_at choices tokens A place → (at ≡ 0 → ⊥) → Chosen at
  unfolding select rule_read
  rule_chosen {at} e n = go (choice A place) refl (e ∙ first)
    where
      some_same : (x y : Rule) → some x ≡ some y → x ≡ y
      some_same x y e = cc

      go : (x : Option ℕ) → choice A place ≡ x → at ≡ first_conjunct words x → Chosen at
      go none c z = absurd (n z)
      go (some q) c z =
          let k = g.given.own A place q c in
          let l : q < g.given.sizes.rules = omega (arith, nth_below G.rules q k.0 k.1, r.rules) in
          let i : ℕ = get_or (rule_starts words) q 0 in
          let b : Begun words i = r.begun q l in
          let f : k.0 ≡ rule_read (drop i words) = some_same k.0 _ (sym k.1 ∙ r.begins q l) in
          let d = drop-cons words i 0 b.high in
          let e : k.0 ≡ rule_read (get_or words i 0 ∷ drop (i + 1) words) = f ∙ (rw (add-one i) (ap rule_read d)) in
          record {
            rule = k.0;
            listed = nth_mem G.rules q k.0 k.1;
            heads = k.2;
            selected = rw c k.1;
            start = i;
            behind = z;
            begun = b;
            positives = ap (λ x. x.positives) e;
            negatives = ap (λ x. x.negatives) e;
          }

  -- no positive conjunct follows a negative one
  none_behind : (at : ℕ) (p : Progress) → scan p at (drop at words) ≡ reading words → sign_at words at ≡ Negative → (parse (drop at words)).positives ≡ []
  unfolding on_word
  none_behind at p e s =
      let k = sign_within words at (λ n. absurd (omega (arith, sign_number_lem (sym n ∙ s)))) in
      let x = sign_negative (decoded (get_or words at 0)) (sym k.1 ∙ s) in
      let n = scan_next words at p g.given.sizes k.0 (e ∙ g.given.read) in
      let f = (reads n.progress (at + 1) (drop (at + 1) words) g.given.sizes n.reads).fits in
      let after-negative : n.progress.state ≡ state.InNegative = rw x at n.passed.state in
      let none : (parse (drop (at + 1) words)).positives ≡ [] = rw after-negative at f.shape in
      ap (λ q. q.positives) (parse_here words at k.0 ∙ ap (λ w. on_word w (parse (drop (at + 1) words))) x) ∙ none

  -- a rule before its first body, by what that is
  opening_rest : (M : MemoCalls) (s : Sign) (ps ns : List Body) → (s ≡ Negative → ps ≡ [])
      → memo_rule M input (length input) ps ns place memo ≡ memo_rest M input place (opening_by s (length input)) ps ns memo
  unfolding memo_rest memo_rule memo_positives
  opening_rest M Positive ps ns h = refl
  opening_rest M Neither ps ns h = refl
  opening_rest M Negative ps ns h = rw (h refl)

  -- before its first body
  calling_start : {at : ℕ} (k : Chosen at) {sign : Sign} → sign ≡ sign_at words (k.start + 1)
      → Calling choice words input memo A place k.rule memo (k.start + 1) sign (opening_by sign (length input))
  unfolding memo_obey
  calling_start k {sign} s =
      let n = begin_next words g.given.sizes g.given.read k.start k.begun in
      record {
        sound = g.given.sound;
        within = omega (arith, k.begun.high);
        signed = s;
        ends = λ e c. opening_ends sign (length input) e c;
        rest = λ m l.
            (rw (k.positives, k.negatives))
            ∙ opening_rest (deep choice words input m) sign (parse (drop (k.start + 1) words)).positives (parse (drop (k.start + 1) words)).negatives
            (λ q. none_behind (k.start + 1) n.0 n.1 (sym s ∙ q));
        positives = λ b m. let h : Memᴰ b k.rule.positives = rw k.positives m in Memᴰ.append_left k.rule.negatives h;
        negatives = λ b m. let h : Memᴰ b k.rule.negatives = rw k.negatives m in Memᴰ.append_right k.rule.positives h;
        progress = n.0;
        reads = n.1;
        opens = λ _. n.2;
        opened = λ q. opening_open sign (length input) q;
        boundary = λ X l x.
            let w = scan_next words (k.start + 1) n.0 g.given.sizes l (n.1 ∙ g.given.read) in
            let a : allows (word.Symbol X) state.Opened ≡ true = rw (x, n.2) at w.passed.allowed in
            false≢true a;
      }

  pub select_none : choice A place ≡ none → select G (choice A place) ≡ none
  unfolding select
  select_none e = rw e

  pub start_rule : {at : ℕ} (k : Chosen at) {sign : Sign} {agreed : Agreement} → sign ≡ sign_at words at → agreed ≡ opening_by sign (end_at choices A)
      → InRule choice words input memo A place memo at sign agreed
  start_rule k {sign} s o = rw (k.behind, o, g.given.ends A g.named) (record {
    rule = k.rule;
    listed = k.listed;
    heads = k.heads;
    selected = k.selected;
    calling = calling_start k (s ∙ ap (sign_at words) k.behind);
  })

  -- before the first body, by where the first conjunct stands
  pub start_going : {at : ℕ} → at ≡ first_at choices tokens A place → {s : RuleState} → s ≡ first_state words choices at
      → Going choice words input memo A place memo s
  unfolding first_state
  start_going {at} f {s} q = go (eqb at 0) refl q
    where
      go : (b : Bool) → eqb at 0 ≡ b
          → s ≡ choose b (failed_at at 0) (reached words at (agreement_code (opening_by (conjunct_sign (word_at words at)) (end_at choices 0))))
          → Going choice words input memo A place memo s
      go true e q = rw q (record {
        sound = g.given.sound;
        lives = λ n. absurd (n refl);
        failed = λ _. record {
          rule = none;
          selected = select_none (no_rule f (eqb-true at 0 e));
          outcome = Failed;
          ran = λ n l. none_fails (deep choice words input n) input place memo;
          told = encode_failed;
        };
      })
      go false e q =
          let word = word_at words at in
          let opens = opening_by (conjunct_sign word) (end_at choices 0) in
          let long : end_at choices 0 ≡ end_at choices A = g.given.ends 0 (omega (arith, g.named)) ∙ sym (g.given.ends A g.named) in
          let low : (x : ℕ) → opens ≡ At x → x < failed_code = λ x h.
          omega (arith, opening_ends (conjunct_sign word) (end_at choices 0) x h, long, g.given.ends A g.named, g.given.short) in
          let same : agreement_of (agreement_code opens) ≡ opening_by (sign_of (decoded word)) (end_at choices A) =
          code_told opens low ∙ ap (opening_by (conjunct_sign word)) long ∙ conjunct_opens word (end_at choices A) in
          rw q (record {
            sound = g.given.sound;
            lives = λ _. start_rule (rule_chosen f (eqb-false at 0 e)) (word_sign words at) same;
            failed = λ h. absurd
                (true≢false (sym (failed_told (agreement_code opens) h) ∙ ap has_failed same ∙ opening_lives (sign_of (decoded word)) (end_at choices A)));
          })
