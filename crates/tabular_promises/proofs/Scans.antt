-- A word in front of words: what is known of a span.
use mathlib.Core.Path.{◌≡◌, refl, sym, ap, ap₂, ◌∙◌}
use mathlib.Core.Bool.{Bool, true, false, not, ◌&&◌, ◌||◌, and-false}
use mathlib.Core.List.{List, [], ◌∷◌}
use Prim.Native.Nat.{ℕ, zero, suc, ◌+◌, ◌-◌, ◌≤◌, ◌<◌}
use native.Mathlib.Omega.{arith}
use lib.ListN.{length, get_or, drop}
use lib.Seq.{drop-cons, slice, slice_empty, slice-cons}
use borrow.Author.Tests.{ltb-true, lt-ltb, le-ltb, le-leb, lt-leb}
use Rattle.base.specs.Choice.{choose}
use Rattle.base.specs.Quantifiers.{any_of, all_of}
use Rattle.word.specs.declared.Symbol.{Symbol as GrammarSymbol}
use Rattle.word.specs.declared.Symbol.TheVariants.{Terminal, Nonterminal}
use Rattle.word.specs.declared.Word.{Word}
use Rattle.word.specs.declared.Word.TheVariants.{Heading, Rule, Positive, Negative, Symbol, End, Invalid}
use Rattle.word.specs.Words.{decoded}
use Rattle.grammar.specs.Limits.{max_nonterminals, max_terminals}
use Rattle.grammar.specs.Encoding.{Parsed, on_word, parse}
use Rattle.grammar.specs.Syntax.{Body}
use Rattle.grammar.specs.declared.reading.Sizes.{Sizes}
use Rattle.grammar.specs.Reading.{in_range}
use Rattle.grammar.proofs.EachIndex.{read_place}
use Rattle.grammar.proofs.WellRead.{well_read}
use Rattle.semantics.specs.Valuations.{Valuation, contains}
use Rattle.families.specs.inner.Rules.{RuleWords}
use Rattle.tabular_promises.specs.declared.Scan.{Scan}
use Rattle.tabular_promises.specs.inner.Places.{only_place, has_place}
use Rattle.tabular_promises.specs.inner.Chart.{charted, Span}
use Rattle.tabular_promises.specs.inner.Scanning.{Scannable, Reads, holds, Scanned, none_open, before_terminal, before_symbol, scan_onto, scanned}
use Rattle.tabular_promises.specs.inner.Scanning.{keeps_by, SymbolKnown, Known, KeepsGiven, Keeps}
use Rattle.tabular_promises.proofs.PlaceSets.{one_place, has_place_lem}
use Rattle.tabular_promises.proofs.Reaching.{nothing_reads, terminal_reads, nonterminal_reads, places_before_lem}

-- a symbol in front of a body
module _ {w stands chart : List ℕ} {start end : ℕ} (o : Scannable w stands chart end) (n : Span start end) where
  symbol_reads : (X : GrammarSymbol) → SymbolKnown X → (b : Body) (set : ℕ) → Reads (charted chart) w b start end set
      → Reads (charted chart) w (X ∷ b) start end (before_symbol stands chart start end X set)
  unfolding before_terminal
  symbol_reads (Terminal a) k b set h = terminal_reads o a b set start _ (rw (lt-ltb a max_terminals k)) k h
  symbol_reads (Nonterminal A) k b set h = nonterminal_reads o A b set start _ k n (places_before_lem chart A set start end k n) h

-- a word in front of words
module _ (v : Valuation) (w : List ℕ) (start end : ℕ) (n : Span start end) where
  -- nothing is left of a body
  closed : Reads v w [] start end (only_place end)
  closed = nothing_reads v w start end (one_place end n.short)

  module _ (p : Parsed) (scan : Scan) (h : Scanned v w start end p scan) where
    there : has_place scan.set start ≡ contains v w p.body start end
    there = has_place_lem scan.set start (omega (arith, n.forward, n.short)) ∙ h.set start (omega arith)

    onto_symbol : (X : GrammarSymbol) (s : ℕ) → Reads v w (X ∷ p.body) start end s
        → Scanned v w start end (on_word (Symbol X) p) (record { set = s; kept = scan.kept })
    unfolding on_word holds
    onto_symbol X s r = record { set = r; kept = h.kept }

    onto_positive : Scanned v w start end (on_word Positive p) (record { set = only_place end; kept = choose (has_place scan.set start) scan.kept false })
    unfolding on_word holds all_of
    onto_positive = record { set = closed; kept = rw (there, h.kept) (go (contains v w p.body start end)) }
      where
        go : (c : Bool) → choose c (holds v w start end p) false
            ≡ ((c && all_of (λ b. contains v w b start end) p.positives) && not (any_of (λ b. contains v w b start end) p.negatives))
        go true = refl
        go false = refl

    onto_negative : Scanned v w start end (on_word Negative p) (record { set = only_place end; kept = choose (has_place scan.set start) false scan.kept })
    unfolding on_word holds any_of
    onto_negative = record { set = closed; kept = rw (there, h.kept) (go (contains v w p.body start end)) }
      where
        go : (c : Bool) → choose c false (holds v w start end p)
            ≡ (all_of (λ b. contains v w b start end) p.positives && not (c || any_of (λ b. contains v w b start end) p.negatives))
        go true = sym (and-false (all_of (λ b. contains v w b start end) p.positives))
        go false = refl

    onto_rule : (A : ℕ) → Scanned v w start end (on_word (Rule A) p) (none_open end)
    unfolding on_word holds any_of all_of
    onto_rule A = record { set = closed; kept = refl }

    onto_end : Scanned v w start end (on_word End p) (none_open end)
    unfolding on_word holds all_of any_of
    onto_end = record { set = closed; kept = refl }

module _ {w stands chart : List ℕ} {start end : ℕ} (o : Scannable w stands chart end) (n : Span start end) where
  onto_scanned : (word : Word) → Known word → (p : Parsed) (scan : Scan) → Scanned (charted chart) w start end p scan
      → Scanned (charted chart) w start end (on_word word p) (scan_onto stands chart start end word scan)
  unfolding on_word
  onto_scanned (Symbol X) k p scan h =
      onto_symbol (charted chart) w start end n p scan h X (before_symbol stands chart start end X scan.set)
      (symbol_reads o n X k p.body scan.set h.set)
  onto_scanned (Rule A) k p scan h = onto_rule (charted chart) w start end n p scan h A
  onto_scanned Positive k p scan h = onto_positive (charted chart) w start end n p scan h
  onto_scanned Negative k p scan h = onto_negative (charted chart) w start end n p scan h
  onto_scanned End k p scan h = onto_end (charted chart) w start end n p scan h
  onto_scanned (Heading m t) k p scan h = h
  onto_scanned Invalid k p scan h = h

-- the words of a row that is read
in_range_known : (word : Word) (z : Sizes) → z.nonterminals ≤ max_nonterminals → z.terminals ≤ max_terminals → in_range word z ≡ true → Known word
in_range_known (Symbol (Terminal a)) z h k e = omega (arith, ltb-true a z.terminals e)
in_range_known (Symbol (Nonterminal A)) z h k e = omega (arith, ltb-true A z.nonterminals e)
in_range_known (Rule A) z h k e = tt
in_range_known Positive z h k e = tt
in_range_known Negative z h k e = tt
in_range_known End z h k e = tt
in_range_known (Heading n t) z h k e = tt
in_range_known Invalid z h k e = tt

word_known : {words : List ℕ} {from to : ℕ} → RuleWords words from to → {i : ℕ} → i < to → Known (decoded (get_or words i 0))
word_known {words} {from} {to} r {i} h =
    let k = well_read words r.sizes r.read in
    in_range_known (decoded (get_or words i 0)) r.sizes k.few_nonterminals k.few_terminals
    (read_place words r.sizes r.read i (omega (arith, r.within))).ranged

-- the words of a rule, from its end: behind it nothing is open
module _ {words : List ℕ} {from to start end : ℕ} (g : KeepsGiven words from to start end) {stands chart : List ℕ} where
  rule_scanned : (w : List ℕ) → Scannable w stands chart end → (n i : ℕ) → i + n ≡ to
      → Scanned (charted chart) w start end (parse (drop i words)) (scanned stands chart start end (slice i to words))
  unfolding scanned holds all_of any_of parse
  rule_scanned w o zero i e =
      let t : i ≡ to = omega arith in
      let d = g.rule.ended in
      rw (t, slice_empty to words)
      record { set = rw d.body (closed (charted chart) w start end g.span); kept = rw (d.positives, d.negatives) }
  rule_scanned w o (suc n) i e =
      let l : i < to = omega arith in
      let long = g.rule.within in
      rw (slice-cons i to words 0 l long, drop-cons words i 0 (omega (arith, long)))
      (onto_scanned o g.span (decoded (get_or words i 0)) (word_known g.rule l) (parse (drop (suc i) words))
      (scanned stands chart start end (slice (suc i) to words)) (rule_scanned w o n (suc i) (omega arith)))

  pub keeps_right : {r : Bool} → r ≡ keeps_by words from to stands chart start end → Keeps words from stands chart start end r
  unfolding keeps_by
  keeps_right {r} e = record {
    is = λ w o.
        e ∙ rw (le-leb to (length words) g.rule.within, lt-ltb from to g.rule.some)
        (rule_scanned w o (to - suc from) (suc from) (omega (arith, g.rule.some))).kept;
  }

-- the same, as the code goes: from the end of the words on
module _ (words : List ℕ) (to : ℕ) (stands chart : List ℕ) (start end : ℕ) (long : to ≤ length words) where
  pub scan_start : {scan : Scan} → scan ≡ none_open end → scan ≡ scanned stands chart start end (slice to to words)
  unfolding scanned
  scan_start e = rw (slice_empty to words) e

  pub scan_more : {scan r : Scan} {i : ℕ} {word : Word} → scan ≡ scanned stands chart start end (slice i to words) → 0 < i → i ≤ to
      → word ≡ decoded (get_or words (i - 1) 0) → r ≡ scan_onto stands chart start end word scan
      → r ≡ scanned stands chart start end (slice (i - 1) to words)
  unfolding scanned
  scan_more {scan} {r} {i} {word} h o l e f =
      let s : suc (i - 1) ≡ i = omega arith in
      let behind = h ∙ ap (λ (k : ℕ). scanned stands chart start end (slice k to words)) (sym s) in
      f ∙ ap₂ (scan_onto stands chart start end) e behind
      ∙ sym (ap (scanned stands chart start end) (slice-cons (i - 1) to words 0 (omega arith) long))

module _ (words : List ℕ) (from to : ℕ) (stands chart : List ℕ) (start end : ℕ) where
  pub none_such : length words < to → false ≡ keeps_by words from to stands chart start end
  unfolding keeps_by
  none_such h = rw (lt-leb to (length words) h)

  module _ (long : to ≤ length words) where
    pub none_between : to ≤ from → false ≡ keeps_by words from to stands chart start end
    unfolding keeps_by
    none_between h = rw (le-leb to (length words) long, le-ltb from to h)

    pub scan_end : {scan : Scan} {i : ℕ} → scan ≡ scanned stands chart start end (slice i to words) → from < i → i ≤ from + 1 → from < to
        → scan.kept ≡ keeps_by words from to stands chart start end
    unfolding keeps_by
    scan_end {scan} {i} h l m b =
        let s : i ≡ suc from = omega arith in
        rw (le-leb to (length words) long, lt-ltb from to b, ← s) (ap (λ (x : Scan). x.kept) h)
