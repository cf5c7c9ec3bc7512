-- What a reading finds is the diagnosis of the words.
use Rattle.std.specs.Prelude.{Err, Ok, Result}
use Rattle.grammar.specs.declared.reading.Progress.{Progress}
use mathlib.Core.Path.{◌≡◌, refl, sym, ap, ◌∙◌}
use mathlib.Core.Bool.{Bool, true, false, ◌&&◌, false≢true}
use mathlib.Core.List.{List, [], ◌∷◌, ◌++◌}
use Prim.Native.Nat.{ℕ, suc, ◌+◌, ◌≤◌, ◌<◌}
use native.Mathlib.Omega.{arith}
use native.Mathlib.Decide.{dec_lt}
use lib.Dec.{ltb}
use lib.ListN.{length, take, get_or, get_or-eq_default}
use borrow.Author.Tests.{lt-ltb, ltb-true, ltb-false}
use Rattle.answer.specs.declared.Error.{Error}
use Rattle.answer.specs.declared.Error.TheVariants.{Length, Heading as HeadingFault, UnexpectedWord, OutOfRange, TooManyRules}
use Rattle.word.specs.declared.Symbol.TheVariants.{Terminal, Nonterminal}
use Rattle.word.specs.declared.Word.{Word}
use Rattle.word.specs.declared.Word.TheVariants.{Heading, Rule as RuleWord, Positive, Negative, Symbol, End, Invalid}
use Rattle.base.specs.Choice.{choose}
use Rattle.word.specs.Words.{kind, payload, bare, heading, of_kind, decoded}
use Rattle.grammar.specs.declared.reading.Sizes.{Sizes}
use Rattle.grammar.specs.Limits.{max_words, max_nonterminals, max_terminals, max_rules}
use Rattle.grammar.specs.Encoding.{sizes, declared_by, grammar_of}
use Rattle.grammar.specs.Reading.{allows, in_range, begins_rule, stepped, on_step, finished, scan, fresh, is_within, headed, opened, reading}
use Rattle.encoding.specs.Encode.{heading_word, end_word, sizes_of}
use Rattle.encoding.specs.Diagnosis.{BeginsEncoding, FirstFault, OutOfRangeAt, RuleTooMany, WordFault, Diagnosis}
use Rattle.grammar.proofs.Scanning.{Stepped, stepping}
use Rattle.grammar.proofs.WellFormed.{faulty}
use Rattle.grammar.proofs.WellRead.{chosen, both, within_limits}
use Rattle.encoding.proofs.Words.{Parts, parts, decoded_symbol}
use Rattle.encoding.proofs.ReadingEncodes.{opened_encodes, encodes_opened}
use Rattle.encoding.proofs.Faults.{err_same, Faults, faults}
use Rattle.encoding.proofs.FaultIndex.{Place, begins, begun, stuck, may_end, may_stand, may_begin, may_follow}

decoded_kind : (w k : ℕ) → kind w ≡ k → decoded w ≡ of_kind k (payload w)
unfolding decoded
decoded_kind w k e = rw e

-- what is wrong with the word at the index
module _ (words : List ℕ) (i : ℕ) (x : Error) (h : Place words i x) where
  -- where no word of the kind may stand the number is not judged
  not_ranged : allows (decoded (get_or words i 0)) h.come.state ≡ false → OutOfRangeAt words i → ⊥
  unfolding of_kind
  not_ranged n (OutOfRangeAt.head {G} k e l) =
      false≢true (sym n ∙ ap (λ v. allows v h.come.state) (decoded_kind (get_or words i 0) 2 k) ∙ may_begin words i x h G e)
  not_ranged n (OutOfRangeAt.terminal k b l) =
      false≢true (sym n ∙ ap (λ v. allows v h.come.state) (decoded_kind (get_or words i 0) 5 k)
      ∙ may_follow words i x h (Terminal 0) (decoded_symbol (Terminal 0) (omega arith)) b)
  not_ranged n (OutOfRangeAt.nonterminal k b l) =
      false≢true (sym n ∙ ap (λ v. allows v h.come.state) (decoded_kind (get_or words i 0) 6 k)
      ∙ may_follow words i x h (Nonterminal 0) (decoded_symbol (Nonterminal 0) (omega arith)) b)

  not_many : allows (decoded (get_or words i 0)) h.come.state ≡ false → RuleTooMany words i → ⊥
  unfolding of_kind
  not_many n m =
      false≢true (sym n ∙ ap (λ v. allows v h.come.state) (decoded_kind (get_or words i 0) 2 m.begins) ∙ may_begin words i x h m.grammar m.before)

  out_of_range_lem : (v : Word) → Parts v (kind (get_or words i 0)) (payload (get_or words i 0)) → allows v h.come.state ≡ true
      → in_range v h.come.sizes ≡ false
      → OutOfRangeAt words i
  out_of_range_lem (RuleWord A) o a r =
      let e = opened_encodes (take i words ++ (end_word ∷ [])) h.come.sizes (may_end words i x h a) in
      OutOfRangeAt.head o.0 e.0 (omega (arith, ltb-false A h.come.sizes.nonterminals r, o.1, ap (λ (z : Sizes). z.nonterminals) e.1))
  out_of_range_lem (Symbol (Terminal t)) o a r =
      let s = may_stand words i x h (Terminal 0) (decoded_symbol (Terminal 0) (omega arith)) a (lt-ltb 0 h.come.sizes.terminals h.some_terminal) in
      OutOfRangeAt.terminal o.0 s.0 (omega (arith, ltb-false t h.come.sizes.terminals r, o.1, ap (λ (z : Sizes). z.terminals) s.1))
  out_of_range_lem (Symbol (Nonterminal A)) o a r =
      let s = may_stand words i x h (Nonterminal 0) (decoded_symbol (Nonterminal 0) (omega arith)) a
      (lt-ltb 0 h.come.sizes.nonterminals h.some_nonterminal) in
      OutOfRangeAt.nonterminal o.0 s.0 (omega (arith, ltb-false A h.come.sizes.nonterminals r, o.1, ap (λ (z : Sizes). z.nonterminals) s.1))
  out_of_range_lem Positive o a r = absurd (false≢true (sym r))
  out_of_range_lem Negative o a r = absurd (false≢true (sym r))
  out_of_range_lem End o a r = absurd (false≢true (sym r))
  out_of_range_lem (Heading n t) o a r = absurd (false≢true a)
  out_of_range_lem Invalid o a r = absurd (false≢true a)

  too_many_lem : (v : Word) → Parts v (kind (get_or words i 0)) (payload (get_or words i 0)) → allows v h.come.state ≡ true
      → in_range v h.come.sizes ≡ true
      → begins_rule v ≡ true → max_rules ≤ h.come.sizes.rules → RuleTooMany words i
  too_many_lem (RuleWord A) o a r b l =
      let e = opened_encodes (take i words ++ (end_word ∷ [])) h.come.sizes (may_end words i x h a) in
      record {
        begins = o.0;
        grammar = grammar_of (take i words ++ (end_word ∷ []));
        before = e.0;
        in_range = omega (arith, ltb-true A h.come.sizes.nonterminals r, o.1, ap (λ (z : Sizes). z.nonterminals) e.1);
        full = omega (arith, l, e.0.limited.few_rules, ap (λ (z : Sizes). z.rules) e.1);
      }
  too_many_lem Positive o a r b l = absurd (false≢true b)
  too_many_lem Negative o a r b l = absurd (false≢true b)
  too_many_lem (Symbol X) o a r b l = absurd (false≢true b)
  too_many_lem End o a r b l = absurd (false≢true b)
  too_many_lem (Heading n t) o a r b l = absurd (false≢true b)
  too_many_lem Invalid o a r b l = absurd (false≢true b)

-- behind the last word there is no kind
over_ranged : (words : List ℕ) (i : ℕ) → length words ≤ i → OutOfRangeAt words i → ⊥
over_ranged words i l (OutOfRangeAt.head k e m) = let d = get_or-eq_default words 0 l in omega arith
over_ranged words i l (OutOfRangeAt.terminal k b m) = let d = get_or-eq_default words 0 l in omega arith
over_ranged words i l (OutOfRangeAt.nonterminal k b m) = let d = get_or-eq_default words 0 l in omega arith

over_many : (words : List ℕ) (i : ℕ) → length words ≤ i → RuleTooMany words i → ⊥
over_many words i l m = let d = get_or-eq_default words 0 l in let k = m.begins in omega arith

diagnosed_place : (words : List ℕ) (i : ℕ) (x : Error) → length words ≤ max_words → opened words ≡ Err x → Place words i x
    → Diagnosis words (Err x)
diagnosed_place words i x short e h = go (dec_lt i (length words))
  where
    first : FirstFault words i
    first =
        record {
          among = h.among;
          before = begun words i x h;
          here = stuck words i x h;
          whole =
              λ G c. faulty x (sizes_of G) (sym e ∙ encodes_opened words G c);
        }

    why : (t : Result Progress Error) → Stepped (decoded (get_or words i 0)) h.come i t → t ≡ Err x → WordFault words i x
    why _ (Stepped.unexpected a) s = rw (err_same (UnexpectedWord i) x s) (WordFault.unexpected (not_ranged words i x h a) (not_many words i x h a))
    why _ (Stepped.out_of_range a r) s =
        rw (err_same (OutOfRange i) x s) (WordFault.out_of_range (out_of_range_lem words i x h (decoded (get_or words i 0)) (parts (get_or words i 0)) a r))
    why _ (Stepped.too_many a r b l) s =
        rw (err_same (TooManyRules i) x s) (WordFault.too_many (too_many_lem words i x h (decoded (get_or words i 0)) (parts (get_or words i 0)) a r b l))
    why _ (Stepped.rule a r b l) s = absurd (faulty x _ (sym s))
    why _ (Stepped.other a r b) s = absurd (faulty x _ (sym s))

    go : Dec (i < length words) → Diagnosis words (Err x)
    go (yes l) =
        Diagnosis.behind short h.behind first
        (why (stepped (decoded (get_or words i 0)) h.come i) (stepping (decoded (get_or words i 0)) h.come i) (h.word l))
    go (no l) =
        let n : length words ≤ i = omega arith in
        rw (h.end (omega (arith, h.among))) (Diagnosis.behind short h.behind first (WordFault.unexpected (over_ranged words i n) (over_many words i n)))

-- the words of a grammar without rules
begins_nothing : BeginsEncoding []
unfolding opened headed is_within scan finished on_step stepped decoded of_kind heading bare
begins_nothing = begins [] (heading_word 1 1 ∷ end_word ∷ []) (sizes 1 1 0) refl

diagnosed_heading : (words : List ℕ) → length words ≤ max_words → opened words ≡ Err HeadingFault
    → (0 < length words → BeginsEncoding (take 1 words) → ⊥)
    → Diagnosis words (Err HeadingFault)
diagnosed_heading words short e n =
    Diagnosis.heading short
    (record { among = omega arith; before = begins_nothing; here = n; whole = λ G c. faulty HeadingFault (sizes_of G) (sym e ∙ encodes_opened words G c) })

-- by the first word
diagnosed_opened : (words : List ℕ) → length words ≤ max_words → Diagnosis words (opened words)
unfolding opened headed
diagnosed_opened [] short = diagnosed_heading [] short refl (λ l. absurd (omega arith))
diagnosed_opened (w ∷ ws) short = go (is_within d.nonterminals max_nonterminals && is_within d.terminals max_terminals) refl
  where
    d : Sizes
    d = declared_by (decoded w)

    ok : Bool
    ok = is_within d.nonterminals max_nonterminals && is_within d.terminals max_terminals

    headed_fault : ok ≡ false → Diagnosis (w ∷ ws) (Err HeadingFault)
    headed_fault c =
        diagnosed_heading (w ∷ ws) short (rw c)
        (λ _ b. false≢true (sym c ∙ (chosen ok (scan (fresh d) 1 b.rest) (sizes_of b.grammar) (encodes_opened (w ∷ b.rest) b.grammar b.encodes)).0))

    place : ok ≡ true → (x : Error) → (f : Faults (fresh d) 1 ws x) → Place (w ∷ ws) (suc f.before) x
    place c x f =
        let b = both (is_within d.nonterminals max_nonterminals) (is_within d.terminals max_terminals) c in
        let n : 1 + f.before ≡ suc f.before = omega arith in
        record {
          come = f.come;
          opens = λ us. rw (c, ← n) (f.through us 1);
          behind = omega arith;
          among = omega (arith, f.among);
          some_nonterminal = omega (arith, f.nonterminals, (within_limits d.nonterminals max_nonterminals b.0).some);
          some_terminal = omega (arith, f.terminals, (within_limits d.terminals max_terminals b.1).some);
          word = λ l. rw n at (f.word (omega arith));
          end = λ e. rw n at (f.end (omega arith));
        }

    behind : ok ≡ true → (o : Result Sizes Error) → scan (fresh d) 1 ws ≡ o → Diagnosis (w ∷ ws) o
    behind c (Ok z) e = let r = opened_encodes (w ∷ ws) z (rw c e) in rw r.1 (Diagnosis.encoding short r.0)
    behind c (Err x) e = let f = faults (fresh d) 1 ws x e in diagnosed_place (w ∷ ws) (suc f.before) x short (rw c e) (place c x f)

    go : (b : Bool) → ok ≡ b → Diagnosis (w ∷ ws) (choose b (scan (fresh d) 1 ws) (Err HeadingFault))
    go false c = headed_fault c
    go true c = behind c (scan (fresh d) 1 ws) refl

pub diagnosed_reading : (words : List ℕ) → Diagnosis words (reading words)
unfolding reading
diagnosed_reading words = go (ltb max_words (length words)) refl
  where
    go : (b : Bool) → ltb max_words (length words) ≡ b → Diagnosis words (choose b (Err Length) (opened words))
    go true e = Diagnosis.long (ltb-true max_words (length words) e)
    go false e = diagnosed_opened words (ltb-false max_words (length words) e)
