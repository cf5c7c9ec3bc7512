-- A row that is read without a fault is a well-formed grammar of the sizes told.
use Rattle.std.specs.Prelude.{Err, Ok, Result}
use Rattle.answer.specs.declared.Error.{Error}
use mathlib.Core.Path.{◌≡◌, refl, sym, ap, ◌∙◌}
use mathlib.Core.Bool.{Bool, true, false, ◌&&◌, false≢true}
use mathlib.Core.List.{List, [], ◌∷◌, ◌++◌}
use mathlib.Core.Option.{some}
use Prim.Native.Nat.{ℕ, suc, ◌-◌, ◌≤◌, ◌<◌}
use native.Mathlib.Omega.{arith}
use lib.Dec.{ltb, leb}
use lib.ListN.{length, get_or, take, drop, replicate, get_elem?, get_or-append}
use lib.Seq.{get_or-take}
use borrow.Author.Tests.{ltb-true, leb-true, ltb-false}
use Rattle.answer.specs.declared.Error.TheVariants.{Length, Heading as HeadingFault}
use Rattle.word.specs.declared.Word.{Word}
use Rattle.word.specs.declared.Word.TheVariants.{Heading, Rule as RuleWord, Positive, Negative, Symbol, End, Invalid}
use Rattle.base.specs.Choice.{choose}
use Rattle.word.specs.Words.{decoded}
use Rattle.grammar.specs.declared.reading.Sizes.{Sizes}
use Rattle.grammar.specs.Limits.{max_words, max_nonterminals, max_terminals, max_rules}
use Rattle.grammar.specs.Syntax.{Grammar, WellFormed}
use Rattle.grammar.specs.Encoding.{declared_by, parse, grammar_of}
use Rattle.grammar.specs.Reading.{begins_rule, fresh, scan, is_within, headed, opened, reading}
use Rattle.grammar.specs.inner.Starts.{starts, rule_starts}
use Rattle.grammar.specs.inner.WellRead.{rule_read, Begun, WellRead}
use Rattle.grammar.proofs.WellFormed.{Each, RuleFits, faulty, Reads, reads}
use Rattle.grammar.proofs.Begins.{Begins, begins, as_many}

-- a choice that is read was taken on its good side
pub chosen : (b : Bool) (o : Result Sizes Error) (z : Sizes) → choose b o (Err HeadingFault) ≡ Ok z → (b ≡ true) × (o ≡ Ok z)
chosen true o z e = (refl, e)
chosen false o z e = absurd (faulty HeadingFault z e)

pub refused : (b : Bool) (o : Result Sizes Error) (z : Sizes) → choose b (Err Length) o ≡ Ok z → (b ≡ false) × (o ≡ Ok z)
refused true o z e = absurd (faulty Length z e)
refused false o z e = (refl, e)

pub both : (a b : Bool) → (a && b) ≡ true → (a ≡ true) × (b ≡ true)
both true b e = (refl, e)
both false b e = absurd (false≢true e)

pub record Within (n limit : ℕ) : Type 0 where
  pub some : 0 < n
  pub few : n ≤ limit

pub within_limits : (n limit : ℕ) → is_within n limit ≡ true → Within n limit
unfolding is_within
within_limits n limit e = let h = both (ltb 0 n) (leb n limit) e in record { some = ltb-true 0 n h.0; few = leb-true n limit h.1 }

-- a word that declares nonterminals begins no rule
pub heading_begins_none : (w : Word) → 0 < (declared_by w).nonterminals → begins_rule w ≡ false
heading_begins_none (Heading n t) h = refl
heading_begins_none (RuleWord A) h = absurd (omega arith)
heading_begins_none Positive h = refl
heading_begins_none Negative h = refl
heading_begins_none (Symbol X) h = refl
heading_begins_none End h = refl
heading_begins_none Invalid h = refl

-- a begin found among as many as there may be
start_kept : (xs : List ℕ) (m q : ℕ) → length xs ≤ m → q < length xs → get_or (take m (xs ++ replicate m 0)) q 0 ≡ get_or xs q 0
start_kept xs m q l h = get_or-take m (xs ++ replicate m 0) q 0 (omega arith) ∙ get_or-append xs (replicate m 0) 0 q h

-- rules that fit a grammar's numbers make it well formed
pub fit_formed : (G : Grammar) (z : Sizes) → z.nonterminals ≡ G.nonterminals → z.terminals ≡ G.terminals → Each (RuleFits z) G.rules
    → WellFormed G
fit_formed G z n t h = record {
  scoped = record {
    heads = λ r m. omega (arith, (h r m).head);
    nonterminals = λ r m b k. rw n at ((h r m).in_range b k).0;
  };
  terminals = λ r m b k. rw t at ((h r m).in_range b k).1;
  conjunct = λ r m. (h r m).conjunct;
}

-- by the first word and the reading behind it
module _ (w : ℕ) (ws : List ℕ) (z : Sizes) (short : length (w ∷ ws) ≤ max_words)
    (n : Within (declared_by (decoded w)).nonterminals max_nonterminals) (t : Within (declared_by (decoded w)).terminals max_terminals)
    (r : Reads (fresh (declared_by (decoded w))) z (parse ws)) (none : (declared_by (decoded w)).rules ≡ 0) where
  no_begin : starts 0 (w ∷ ws) ≡ starts 1 ws
  unfolding starts
  no_begin = rw (heading_begins_none (decoded w) n.some)

  count : z.rules ≡ length (parse ws).rules
  count = omega (arith, r.rules)

  few : z.rules ≤ max_rules
  few = r.room (omega arith)

  -- the begin of a rule, among the words behind the heading and among all
  start_index : (q : ℕ) → q < z.rules → get_or (rule_starts (w ∷ ws)) q 0 ≡ get_or (starts 1 ws) q 0
  unfolding rule_starts
  start_index q h =
      ap (λ xs. get_or (take max_rules (xs ++ replicate max_rules 0)) q 0) no_begin
      ∙ start_kept (starts 1 ws) max_rules q (omega (arith, few, count, as_many 1 ws)) (omega (arith, count, as_many 1 ws))

  start : (q : ℕ) → q < z.rules → Begins 1 (get_or (starts 1 ws) q 0) ws (get_elem? (parse ws).rules q)
  start q h = begins 1 ws q (omega (arith, count, as_many 1 ws))

  begun : (q : ℕ) → q < z.rules → Begun (w ∷ ws) (get_or (rule_starts (w ∷ ws)) q 0)
  begun q h =
      let b = start q h in
      let i = start_index q h in
      let k : get_or (starts 1 ws) q 0 ≡ suc (get_or (starts 1 ws) q 0 - 1) = omega (arith, b.low) in
      record {
        low = omega (arith, i, b.low);
        high = omega (arith, i, b.high);
        word = rw (i, k) b.word;
      }

  begin : (q : ℕ) → q < z.rules → get_elem? (parse ws).rules q ≡ some (rule_read (drop (get_or (rule_starts (w ∷ ws)) q 0) (w ∷ ws)))
  begin q h =
      let b = start q h in
      let k : get_or (starts 1 ws) q 0 ≡ suc (get_or (starts 1 ws) q 0 - 1) = omega (arith, b.low) in
      b.rule ∙ ap (λ j. some (rule_read (drop j (w ∷ ws)))) (sym k ∙ sym (start_index q h))

  read_well : WellRead (w ∷ ws) z
  unfolding grammar_of
  read_well = record {
    short = short;
    nonterminals = r.nonterminals;
    some_nonterminal = omega (arith, n.some, r.nonterminals);
    few_nonterminals = omega (arith, n.few, r.nonterminals);
    terminals = r.terminals;
    some_terminal = omega (arith, t.some, r.terminals);
    few_terminals = omega (arith, t.few, r.terminals);
    rules = count;
    few_rules = few;
    formed = fit_formed (grammar_of (w ∷ ws)) z r.nonterminals r.terminals r.fits.rules;
    begun = begun;
    begins = begin;
  }

pub declares_no_rules : (w : Word) → (declared_by w).rules ≡ 0
declares_no_rules (Heading n t) = refl
declares_no_rules (RuleWord A) = refl
declares_no_rules Positive = refl
declares_no_rules Negative = refl
declares_no_rules (Symbol X) = refl
declares_no_rules End = refl
declares_no_rules Invalid = refl

pub well_read : (words : List ℕ) (z : Sizes) → reading words ≡ Ok z → WellRead words z
unfolding reading opened headed
well_read [] z e = absurd (faulty HeadingFault z (refused (ltb max_words 0) (Err HeadingFault) z e).1)
well_read (w ∷ ws) z e =
    let s = refused (ltb max_words (length (w ∷ ws))) (opened (w ∷ ws)) z e in
    let d = declared_by (decoded w) in
    let c = chosen (is_within d.nonterminals max_nonterminals && is_within d.terminals max_terminals) (scan (fresh d) 1 ws) z s.1 in
    let b = both (is_within d.nonterminals max_nonterminals) (is_within d.terminals max_terminals) c.0 in
    read_well w ws z (ltb-false max_words (length (w ∷ ws)) s.0)
    (within_limits d.nonterminals max_nonterminals b.0) (within_limits d.terminals max_terminals b.1)
    (reads (fresh d) 1 ws z c.1) (declares_no_rules (decoded w))
