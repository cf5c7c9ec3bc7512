-- Running a body: what the descent with a memo table gives for the rest of the body is what it gave for the whole.
use mathlib.Core.Path.{◌≡◌, refl, sym, ap, ◌∙◌}
use mathlib.Core.Bool.{Bool, true, false, ◌&&◌, false≢true}
use mathlib.Core.List.{List, [], ◌∷◌}
use Prim.Native.Nat.{ℕ, ◌+◌, ◌%◌, ◌≤◌, ◌<◌}
use native.Mathlib.Omega.{arith}
use native.Mathlib.Decide.{dec_lt}
use native.Mathlib.Numerals.{add-one}
use lib.Dec.{T, ltb, eqb}
use lib.ListN.{length, get_or, drop}
use borrow.Author.Tests.{lt-ltb, le-ltb, ne_eqb, ltb-true}
use Rattle.base.specs.Choice.{choose}
use Rattle.base.proofs.Booleans.{and_first}
use Rattle.word.specs.Words.{decoded}
use Rattle.word.specs.declared.Symbol as grammar
use Rattle.word.specs.declared.Symbol.TheVariants.{Terminal, Nonterminal}
use Rattle.word.specs.declared.Word.{Word}
use Rattle.word.specs.declared.Word.TheVariants.{Heading, Rule, Positive, Negative, Symbol, End as EndWord, Invalid}
use Rattle.grammar.specs.Codes.{failed_code}
use Rattle.grammar.specs.Syntax.{Body, Grammar, NonterminalsBelow, TerminalsBelow}
use Rattle.grammar.specs.Encoding.{Parsed, on_word, parse, grammar_of}
use Rattle.grammar.specs.Reading.{allows, scan, reading}
use Rattle.grammar.specs.inner.WellRead.{WellRead}
use Rattle.grammar.specs.declared.reading.State.{State}
use Rattle.grammar.specs.declared.reading.Progress.{Progress}
use Rattle.grammar.proofs.Suffixes.{scan_next}
use Rattle.grammar.proofs.WellRead.{well_read}
use Rattle.semantics.specs.LeftRecursion.{nullable, LeftIn, here, there, LeftDepends}
use Rattle.semantics.specs.Choices.{Choice}
use Rattle.semantics.specs.Descent.{Outcome, Failed, End, ends_at, descend}
use Rattle.semantics.specs.ComesTo.{call_at}
use Rattle.semantics.specs.inner.ComesTo.{measure}
use Rattle.semantics.specs.inner.MemoDescent.{memoized, and_then, MemoCalls, memo_run, memo_call}
use Rattle.semantics.specs.Memo.{outcome_code}
use Rattle.semantics.specs.inner.Memo.{decode}
use Rattle.semantics.proofs.meaning.Rank.{level_onward}
use Rattle.semantics.proofs.descent.Outcomes.{end_ends}
use Rattle.semantics.proofs.descent.Ends.{descend_forward, descend_null}
use Rattle.rule.specs.inner.Rule.{body_end}
use Rattle.rule.proofs.Bodies.{symbol_test, body_stops}
use Rattle.descent_steps.specs.declared.Step.TheVariants as step
use Rattle.descent_steps.specs.declared.Step.TheVariants.{Over}
use Rattle.descent_steps.specs.inner.Steps.{step_of, end_behind}
use Rattle.descent_steps.proofs.Steps.{terminal_word, nonterminal_word, symbol_step_lem}
use Rattle.recursive_descent_promises.specs.declared.Run.{Run}
use Rattle.descent_arrays.specs.inner.Arrays.{end_mark, column_weight, matches_at}
use Rattle.recursive_descent_promises.specs.inner.Descent.{is_closed, Skipped, MemoSound, CallGiven, RunGiven, CallDone, RunDone}
use Rattle.recursive_descent_promises.proofs.Bodies.{parse_here, symbol_reads, read_within, skipped_none, skipped_symbol}

-- the calls at most n deep, on the words' grammar
abbrev pub deep : Choice → List ℕ → List ℕ → ℕ → MemoCalls
deep choice words input n = memo_call (grammar_of words) choice input n

abbrev pub level : List ℕ → List ℕ → ℕ → ℕ → ℕ
level words input A place = measure (grammar_of words) input (call_at A place)

pub body_at : List ℕ → ℕ → Body
body_at words at = (parse (drop at words)).body

-- a run that has stopped at an index
abbrev pub stopped : ℕ → ℕ → Run
stopped end at = record { end = end; at = at }

-- a run that has reached an index and a place
pub record Running (choice : Choice) (words input memo₀ : List ℕ) (A from start : ℕ) (memo : List ℕ) (at place : ℕ) : Type 0 where
  pub behind : start ≤ place
  pub placed : place ≤ length input
  pub sound : MemoSound choice words input memo
  pub rest : (n : ℕ) → level words input A start ≤ n
      → memo_run (deep choice words input n) input (body_at words from) start memo₀ ≡ memo_run (deep choice words input n) input (body_at words at) place memo
  pub known : NonterminalsBelow (grammar_of words).nonterminals (body_at words at)
  pub own : TerminalsBelow (grammar_of words).terminals (body_at words at)
  pub front : place ≡ start → (B : ℕ) → LeftIn (nullable (grammar_of words)) B (body_at words at) → LeftDepends (grammar_of words) A B
  pub progress : Progress
  pub reads : scan progress at (drop at words) ≡ reading words
  pub unclosed : is_closed progress.state ≡ false
  pub skipped : Skipped words from at

-- the symbol before an index has been read, and gave an entry: the run goes on from its end, or has failed
pub record Read (choice : Choice) (words input memo₀ : List ℕ) (A from start : ℕ) (memo : List ℕ) (at entry : ℕ) : Type 0 where
  pub sound : MemoSound choice words input memo
  pub goes : (e : ℕ) → decode entry ≡ End e → Running choice words input memo₀ A from start memo at e
  pub fails : decode entry ≡ Failed → RunDone choice words input memo₀ A from start (stopped failed_code at) memo

-- where two ways meet
pub read_as : {choice : Choice} {words input memo₀ : List ℕ} {A from start : ℕ} {memo memo' : List ℕ} {at entry entry' : ℕ} → memo' ≡ memo
    → entry' ≡ entry → Read choice words input memo₀ A from start memo at entry → Read choice words input memo₀ A from start memo' at entry'
read_as m p v = rw (m, p) v

module _ {choice : Choice} {words choices tokens input memo₀ : List ℕ} {A from start : ℕ}
    (g : RunGiven choice words choices tokens input memo₀ A from start) where
  abbrev G : Grammar
  G = grammar_of words

  r : WellRead words g.call.given.sizes
  r = well_read words g.call.given.sizes g.call.given.read

  pub running_start : Running choice words input memo₀ A from start memo₀ from start
  unfolding body_at
  running_start = record {
    behind = omega arith;
    placed = g.call.placed;
    sound = g.call.given.sound;
    rest = λ n l. refl;
    known = r.formed.scoped.nonterminals g.rule g.listed (parse (drop from words)).body g.body;
    own = r.formed.terminals g.rule g.listed (parse (drop from words)).body g.body;
    front = λ e B l. record { rule = g.rule; body = (parse (drop from words)).body; listed = g.listed; heads = g.heads; held = g.body; left = l };
    progress = g.progress;
    reads = g.reads;
    unclosed = g.unclosed;
    skipped = skipped_none words from g.inside;
  }

  -- whether the token at a place is a terminal of the grammar, by its word
  token_is : (place a : ℕ) → place ≤ length input → a < (grammar_of words).terminals
      → matches_at tokens place a ≡ (ltb place (length input) && eqb (get_or input place 0) a)
  unfolding matches_at
  token_is place a h l = go (dec_lt place (length input))
    where
      go : Dec (place < length input) → eqb (get_or tokens place 0 % column_weight) a ≡ (ltb place (length input) && eqb (get_or input place 0) a)
      go (yes k) = rw (lt-ltb place (length input) k, g.call.given.terminals place k)
      go (no k) =
          let e : place ≡ length input = omega arith in
          let n : end_mark ≡ a → ⊥ = λ q. absurd (omega (arith, r.terminals, r.few_terminals)) in
          rw (le-ltb place (length input) (omega arith), e, g.call.given.end, ne_eqb end_mark a n)

end_same : (i j : ℕ) → End i ≡ End j → i ≡ j
end_same i j e = cc

failed_end : (j : ℕ) → Failed ≡ End j → ⊥
failed_end j e = let n : ◌≡◌ {A = ℕ} 0 1 = cc in omega arith

-- an entry below the codes is an end
end_code : (n : ℕ) → (n ≡ failed_code → ⊥) → decode n ≡ End n
unfolding decode
end_code n h = rw (ne_eqb n failed_code h)

failed_code_lem : decode failed_code ≡ Failed
unfolding decode
failed_code_lem = refl

-- an entry tells its outcome, where the outcome's end is below the codes
decode_encode : (n : ℕ) (o : Outcome) → n < failed_code → ((e : ℕ) → T (ends_at o e) → e ≤ n) → decode (outcome_code o) ≡ o
unfolding outcome_code decode
decode_encode n Failed s h = refl
decode_encode n (End e) s h = rw (ne_eqb e failed_code (λ q. absurd (omega (arith, h e (end_ends (End e) e refl)))))

-- the words that are no symbol end a body
body_none : (w : Word) (p : Parsed) (s : State) → allows w s ≡ true → ((X : grammar.Symbol) → w ≡ Symbol X → ⊥) → (on_word w p).body ≡ []
unfolding on_word
body_none (Heading n t) p s a h = absurd (false≢true a)
body_none (Rule A) p s a h = refl
body_none Positive p s a h = refl
body_none Negative p s a h = refl
body_none (Symbol X) p s a h = absurd (h X refl)
body_none EndWord p s a h = refl
body_none Invalid p s a h = absurd (false≢true a)

module _ {choice : Choice} {words choices tokens input memo₀ : List ℕ} {A from start : ℕ} (g : RunGiven choice words choices tokens input memo₀ A from start)
    {memo : List ℕ} {at place : ℕ} (v : Running choice words input memo₀ A from start memo at place) where
  -- a run that reaches a word that is no symbol has ended
  done : body_at words at ≡ [] → body_end words at ≡ at → RunDone choice words input memo₀ A from start (stopped place at) memo
  unfolding body_at memo_run
  done e over =
      let c = end_code place (λ q. omega (arith, v.placed, g.call.given.short)) in
      record {
        model = λ n l. v.rest n l ∙ ap (λ b. memo_run (deep choice words input n) input b place memo) e ∙ ap (λ o. memoized o memo) (sym c);
        sound = v.sound;
        within = λ x q. let e : place ≡ x = end_same place x (sym c ∙ q) in omega (arith, v.placed);
        skipped = v.skipped;
        over = λ _. over;
      }

  -- the word at the index is there
  pub running_within : at < length words
  running_within = read_within words at v.progress g.call.given.sizes v.skipped.within (v.reads ∙ g.call.given.read) v.unclosed

  pub running_done : step_of (decoded (get_or words at 0)) ≡ Over → RunDone choice words input memo₀ A from start (stopped place at) memo
  unfolding body_at parse
  running_done e =
      let s = scan_next words at v.progress g.call.given.sizes running_within (v.reads ∙ g.call.given.read) in
      let none : (X : grammar.Symbol) → decoded (get_or words at 0) ≡ Symbol X → ⊥ = λ X q. symbol_step_lem X (sym (ap step_of q) ∙ e) in
      done (ap (λ p. p.body) (parse_here words at running_within)
      ∙ body_none (decoded (get_or words at 0)) (parse (drop (at + 1) words)) v.progress.state s.passed.allowed none)
      (body_stops words at running_within (symbol_test (decoded (get_or words at 0)) none))

  -- the body from a symbol on
  module _ (X : grammar.Symbol) (h : at < length words) (x : decoded (get_or words at 0) ≡ Symbol X) where
    body_here : body_at words at ≡ X ∷ body_at words (at + 1)
    unfolding body_at on_word
    body_here = ap (λ p. p.body) (parse_here words at h ∙ ap (λ w. on_word w (parse (drop (at + 1) words))) x)

    next_reads : scan v.progress (at + 1) (drop (at + 1) words) ≡ reading words
    next_reads =
        let z = g.call.given.sizes in
        symbol_reads words at v.progress z X h x (v.reads ∙ g.call.given.read) ∙ sym g.call.given.read

    next_skipped : Skipped words from (at + 1)
    next_skipped = skipped_symbol v.skipped h x

    own_here : TerminalsBelow (grammar_of words).terminals (X ∷ body_at words (at + 1))
    own_here = rw body_here at v.own

    known_here : NonterminalsBelow (grammar_of words).nonterminals (X ∷ body_at words (at + 1))
    known_here = rw body_here at v.known

    front_here : place ≡ start → (B : ℕ) → LeftIn (nullable (grammar_of words)) B (X ∷ body_at words (at + 1)) → LeftDepends (grammar_of words) A B
    front_here = rw body_here at v.front

    rest_here : (n : ℕ) → level words input A start ≤ n
        → memo_run (deep choice words input n) input (body_at words from) start memo₀
        ≡ memo_run (deep choice words input n) input (X ∷ body_at words (at + 1)) place memo
    rest_here n l = v.rest n l ∙ ap (λ b. memo_run (deep choice words input n) input b place memo) body_here

  module _ (a : ℕ) (step : step_of (decoded (get_or words at 0)) ≡ step.Terminal a) where
    terminal_there : decoded (get_or words at 0) ≡ Symbol (Terminal a)
    terminal_there = terminal_word (decoded (get_or words at 0)) a step

    running_token : matches_at tokens place a ≡ (ltb place (length input) && eqb (get_or input place 0) a)
    running_token = token_is g place a v.placed (own_here (Terminal a) running_within terminal_there).0

    -- a token that is the terminal
    matched_goes : matches_at tokens place a ≡ true → Running choice words input memo₀ A from start memo (at + 1) (place + 1)
    unfolding memo_run
    matched_goes matched =
        let m : (ltb place (length input) && eqb (get_or input place 0) a) ≡ true = sym running_token ∙ matched in
        let l : place < length input = ltb-true place (length input) (and_first (ltb place (length input)) (eqb (get_or input place 0) a) m) in
        record {
          behind = omega (arith, v.behind);
          placed = omega arith;
          sound = v.sound;
          rest = λ n k. rest_here (Terminal a) running_within terminal_there n k ∙ rw (m, add-one place);
          known = known_here (Terminal a) running_within terminal_there;
          own = (own_here (Terminal a) running_within terminal_there).1;
          front = λ e. absurd (omega (arith, v.behind));
          progress = v.progress;
          reads = next_reads (Terminal a) running_within terminal_there;
          unclosed = v.unclosed;
          skipped = next_skipped (Terminal a) running_within terminal_there;
        }

    -- another token, or the end
    mismatch_fails : matches_at tokens place a ≡ false → RunDone choice words input memo₀ A from start (stopped failed_code (at + 1)) memo
    unfolding body_at memo_run
    mismatch_fails m = record {
      model = λ n k. rest_here (Terminal a) running_within terminal_there n k ∙ rw (sym running_token ∙ m, failed_code_lem);
      sound = v.sound;
      within = λ e q. absurd (failed_end e (sym failed_code_lem ∙ q));
      skipped = next_skipped (Terminal a) running_within terminal_there;
      over = λ n. absurd (n refl);
    }

    -- by the word of the token
    pub terminal_read : {token end : ℕ} → token ≡ get_or tokens place 0 → end ≡ end_behind token a place
        → Read choice words input memo₀ A from start memo (at + 1) end
    unfolding end_behind matches_at
    terminal_read {token} {end} t e = go (matches_at tokens place a) refl (e ∙ rw (t, small))
      where
        low : place + 1 < failed_code
        low = omega (arith, v.placed, g.call.given.short)

        small : (place + 1) % 65536 ≡ place + 1
        small = omega (arith, low)

        behind : decode (place + 1) ≡ End (place + 1)
        behind = end_code (place + 1) (λ q. omega (arith, low, q))

        go : (b : Bool) → matches_at tokens place a ≡ b → end ≡ choose b (place + 1) failed_code
            → Read choice words input memo₀ A from start memo (at + 1) end
        go true m q = record {
          sound = v.sound;
          goes = λ e d. rw (sym (end_same (place + 1) e (sym behind ∙ ap decode (sym q) ∙ d))) (matched_goes m);
          fails = λ f. absurd (failed_end (place + 1) (sym f ∙ ap decode q ∙ behind));
        }
        go false m q = record {
          sound = v.sound;
          goes = λ e d. absurd (failed_end e (sym failed_code_lem ∙ ap decode (sym q) ∙ d));
          fails = λ _. mismatch_fails m;
        }

  module _ (B : ℕ) (step : step_of (decoded (get_or words at 0)) ≡ step.Nonterminal B) where
    nonterminal_there : decoded (get_or words at 0) ≡ Symbol (Nonterminal B)
    nonterminal_there = nonterminal_word (decoded (get_or words at 0)) B step

    -- the call that a nonterminal makes
    pub running_given : CallGiven choice words choices tokens input memo B place
    running_given = record {
      given = record {
        sizes = g.call.given.sizes;
        read = g.call.given.read;
        free = g.call.given.free;
        own = g.call.given.own;
        rows = g.call.given.rows;
        ends = g.call.given.ends;
        columns = g.call.given.columns;
        firsts = g.call.given.firsts;
        terminals = g.call.given.terminals;
        end = g.call.given.end;
        short = g.call.given.short;
        sound = v.sound;
      };
      named = (known_here (Nonterminal B) running_within nonterminal_there).0;
      placed = v.placed;
    }

    pub running_falls : level words input B place < level words input A start
    unfolding measure
    running_falls =
        level_onward (grammar_of words) (r g).formed.scoped g.call.given.free A B (length input) start place
        (known_here (Nonterminal B) running_within nonterminal_there).0 v.behind v.placed
        (λ e. front_here (Nonterminal B) running_within nonterminal_there e B here)

    abbrev came : Outcome
    came = descend (grammar_of words) choice input B place

    forward : (e : ℕ) → T (ends_at came e) → (place ≤ e) × (e ≤ length input)
    forward e t = descend_forward (grammar_of words) choice input g.call.given.own B place e v.placed t

    -- its outcome, by the entry that the call returns
    module _ {entry : ℕ} {memo' : List ℕ} (d : CallDone choice words input memo B place entry memo') where
      means : decode entry ≡ came
      means = ap decode d.told ∙ decode_encode (length input) came (omega (arith, g.call.given.short)) (λ e t. (forward e t).1)

      called : (n : ℕ) → level words input A start ≤ n → deep choice words input n B place memo ≡ memoized came memo'
      called n l = d.model n (omega (arith, running_falls))

      -- one that ends
      call_goes : (e : ℕ) → decode entry ≡ End e → Running choice words input memo₀ A from start memo' (at + 1) e
      unfolding memo_run and_then
      call_goes e q =
          let m : came ≡ End e = sym means ∙ q in
          let f = forward e (end_ends came e m) in
          record {
            behind = omega (arith, v.behind);
            placed = f.1;
            sound = d.sound;
            rest = λ n l. rest_here (Nonterminal B) running_within nonterminal_there n l ∙ rw (called n l, m);
            known = (known_here (Nonterminal B) running_within nonterminal_there).1;
            own = own_here (Nonterminal B) running_within nonterminal_there;
            front = λ s C l.
                let i : place ≡ start = omega (arith, v.behind) in
                let j : e ≡ place = omega arith in
                let idle : T (nullable (grammar_of words) B) =
                descend_null (grammar_of words) choice input g.call.given.own (r g).formed.scoped B place place v.placed
                refl (end_ends came place (m ∙ ap End j)) in
                front_here (Nonterminal B) running_within nonterminal_there i C (there idle l);
            progress = v.progress;
            reads = next_reads (Nonterminal B) running_within nonterminal_there;
            unclosed = v.unclosed;
            skipped = next_skipped (Nonterminal B) running_within nonterminal_there;
          }

      -- one that fails
      call_fails : decode entry ≡ Failed → RunDone choice words input memo₀ A from start (stopped failed_code (at + 1)) memo'
      unfolding body_at memo_run and_then
      call_fails q = record {
        model = λ n l. rest_here (Nonterminal B) running_within nonterminal_there n l ∙ rw (called n l, sym means ∙ q, failed_code_lem);
        sound = d.sound;
        within = λ e q. absurd (failed_end e (sym failed_code_lem ∙ q));
        skipped = next_skipped (Nonterminal B) running_within nonterminal_there;
        over = λ n. absurd (n refl);
      }

      pub call_read : Read choice words input memo₀ A from start memo' (at + 1) entry
      call_read = record { sound = d.sound; goes = call_goes; fails = call_fails }
