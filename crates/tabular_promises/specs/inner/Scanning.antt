-- What a pass over the words of a rule, from their end, knows at a span: the set of places from which the rest of a body leads to the span's end, and
-- whether the conjuncts behind it hold.
use Rattle.std.specs.Prelude.{◌≡◌, Bool, true, false, not, ◌&&◌, List, [], ◌∷◌, ℕ, suc, ◌/◌, ◌%◌, ◌≤◌, ◌<◌, leb, ltb, length, get_or, drop}
use Rattle.std.specs.Int.Bits.{bit_and}
use Rattle.std.proofs.Math.Seq.{slice}
use Rattle.base.specs.Choice.{choose}
use Rattle.base.specs.Quantifiers.{any_of, all_of}
use Rattle.word.specs.declared.Symbol.{Symbol as GrammarSymbol}
use Rattle.word.specs.declared.Symbol.TheVariants.{Terminal, Nonterminal}
use Rattle.word.specs.declared.Word.{Word}
use Rattle.word.specs.declared.Word.TheVariants.{Heading, Rule, Positive, Negative, Symbol, End, Invalid}
use Rattle.word.specs.Words.{decoded}
use Rattle.grammar.specs.Limits.{max_nonterminals, max_terminals, max_rules}
use Rattle.grammar.specs.Syntax.{Body}
use Rattle.grammar.specs.Encoding.{Parsed, parse}
use Rattle.grammar.specs.inner.WellRead.{head_of}
use Rattle.lookahead.specs.Elements.{has}
use Rattle.semantics.specs.Valuations.{Valuation, contains}
use Rattle.families.specs.inner.Rules.{RuleWords, rule_end}
use Rattle.tabular_promises.specs.declared.Scan.{Scan}
use Rattle.tabular_promises.specs.inner.Places.{only_place, has_place, Standing}
use Rattle.tabular_promises.specs.inner.Chart.{places_before, charted, Forward, Span, with_nonterminal}

-- the input w, by where its terminals stand, reaches to the end, and no span of the chart ends before it starts
pub record Scannable (w stands chart : List ℕ) (end : ℕ) : Type 0 where
  pub standing : Standing w stands
  pub reaches : end ≤ length w
  pub forward : Forward chart

-- the set has, of the places from the start on, those from which the body leads to the end
abbrev pub Reads : Valuation → List ℕ → Body → ℕ → ℕ → ℕ → Type 0
Reads v w b start end set = (k : ℕ) → start ≤ k → has set k ≡ contains v w b k end

-- every positive body contains the span, and no negative one
unfoldable pub holds : Valuation → List ℕ → ℕ → ℕ → Parsed → Bool
holds v w start end p = all_of (λ b. contains v w b start end) p.positives && not (any_of (λ b. contains v w b start end) p.negatives)

pub record Scanned (v : Valuation) (w : List ℕ) (start end : ℕ) (p : Parsed) (scan : Scan) : Type 0 where
  pub set : Reads v w p.body start end scan.set
  pub kept : scan.kept ≡ holds v w start end p

-- where nothing of a rule is open: nothing is left of a body, and no conjunct is behind
abbrev pub none_open : ℕ → Scan
none_open end = record { set = only_place end; kept = true }

-- the places before a symbol: of a terminal where it stands, of a nonterminal by the chart; of a terminal beyond the limit none
unfoldable pub before_terminal : List ℕ → ℕ → ℕ → ℕ
before_terminal stands a set = choose (ltb a max_terminals) (bit_and (set / 2) (get_or stands a 0)) 0

abbrev pub before_symbol : (stands chart : List ℕ) (start end : ℕ) → GrammarSymbol → ℕ → ℕ
before_symbol stands chart start end (Terminal a) set = before_terminal stands a set
before_symbol stands chart start end (Nonterminal A) set = places_before chart A set start end

-- what is known with a word in front
abbrev pub scan_onto : (stands chart : List ℕ) (start end : ℕ) → Word → Scan → Scan
scan_onto stands chart start end (Symbol X) scan = record { set = before_symbol stands chart start end X scan.set; kept = scan.kept }
scan_onto stands chart start end (Rule A) scan = none_open end
scan_onto stands chart start end Positive scan = record { set = only_place end; kept = choose (has_place scan.set start) scan.kept false }
scan_onto stands chart start end Negative scan = record { set = only_place end; kept = choose (has_place scan.set start) false scan.kept }
scan_onto stands chart start end End scan = none_open end
scan_onto stands chart start end (Heading n t) scan = scan
scan_onto stands chart start end Invalid scan = scan

-- and of words, from their end
unfoldable pub scanned : (stands chart : List ℕ) (start end : ℕ) → List ℕ → Scan
scanned stands chart start end [] = none_open end
scanned stands chart start end (w ∷ ws) = scan_onto stands chart start end (decoded w) (scanned stands chart start end ws)

-- whether the conjuncts hold of the words behind one index and before another; not, where there are no such words
unfoldable pub keeps_by : (words : List ℕ) (from to : ℕ) (stands chart : List ℕ) (start end : ℕ) → Bool
keeps_by words from to stands chart start end =
    choose (leb to (length words) && ltb from to) (scanned stands chart start end (slice (suc from) to words)).kept false

-- the nonterminal of the rule that begins at an index
abbrev pub head_at : (words : List ℕ) (from : ℕ) → ℕ
head_at words from = head_of (decoded (get_or words from 0))

-- the nonterminals found, with that of the rule whose words stand from one index to another, where it is not found yet and the rule gives it the span
abbrev pub asked_from : (words : List ℕ) (from to : ℕ) (stands chart : List ℕ) (start end found : ℕ) → ℕ
asked_from words from to stands chart start end found =
    choose (has found (head_at words from)) found (with_nonterminal found (head_at words from) (keeps_by words from to stands chart start end))

-- the same of a rule by its number; rules are counted round
abbrev pub asked_by : (words starts : List ℕ) (rules q : ℕ) (stands chart : List ℕ) (start end found : ℕ) → ℕ
asked_by words starts rules q stands chart start end found =
    asked_from words (get_or starts (q % max_rules) 0) (rule_end words starts rules q) stands chart start end found

-- a symbol's number is within the limits
abbrev pub SymbolKnown : GrammarSymbol → Type 0
SymbolKnown (Terminal a) = a < max_terminals
SymbolKnown (Nonterminal A) = A < max_nonterminals

abbrev pub Known : Word → Type 0
Known (Symbol X) = SymbolKnown X
Known (Rule A) = Unit {0}
Known Positive = Unit {0}
Known Negative = Unit {0}
Known End = Unit {0}
Known (Heading n t) = Unit {0}
Known Invalid = Unit {0}

pub record KeepsGiven (words : List ℕ) (from to start end : ℕ) : Type 0 where
  pub rule : RuleWords words from to
  pub span : Span start end

-- whether the rule that begins at an index holds
pub record Keeps (words : List ℕ) (from : ℕ) (stands chart : List ℕ) (start end : ℕ) (r : Bool) : Type 0 where
  pub is : (w : List ℕ) → Scannable w stands chart end → r ≡ holds (charted chart) w start end (parse (drop (suc from) words))
