-- The chart filled from short spans to long ones, spans of one length by their start, and nonterminals at one span by their rank.
use Rattle.std.specs.Prelude.{Ok, ◌≡◌, ◌&&◌, ◌||◌, List, ℕ, zero, suc, ◌+◌, ◌*◌, ◌-◌, ◌%◌, ◌≤◌, ◌<◌, T, eqb, length, get_or, set, replicate}
use Rattle.std.specs.Int.Count.{ones}
use Rattle.grammar.specs.Limits.{max_nonterminals, max_rules, max_tabular_tokens, max_tabular_places}
use Rattle.grammar.specs.Syntax.{Grammar, Rule}
use Rattle.grammar.specs.Encoding.{grammar_of}
use Rattle.grammar.specs.declared.reading.Sizes.{Sizes}
use Rattle.grammar.specs.Reading.{reading}
use Rattle.grammar.specs.inner.Starts.{rule_starts}
use Rattle.lookahead.specs.Elements.{has}
use Rattle.semantics.specs.Valuations.{derives, by_rules, solution}
use Rattle.semantics.specs.LeftRecursion.{NoLeftRecursion, rank}
use Rattle.base.specs.Lists.{listed}
use Rattle.families.specs.inner.Rules.{rule_from}
use Rattle.families.specs.inner.Sets.{reach_number}
use Rattle.tabular_promises.specs.inner.Places.{Standing, InputGiven}
use Rattle.tabular_promises.specs.inner.Chart.{charted, Long, Span}
use Rattle.tabular_promises.specs.inner.Scanning.{Scannable, head_at}

-- a grammar that has been read, and where its rules begin
pub record RulesGiven (words starts : List ℕ) (z : Sizes) : Type 0 where
  pub read : reading words ≡ Ok z
  pub begins : starts ≡ rule_starts words

-- a rule, by its number, and the rank of its nonterminal
abbrev pub rule_numbered : List ℕ → ℕ → Rule
rule_numbered words q = rule_from words (get_or (rule_starts words) q 0)

abbrev pub rule_rank : List ℕ → ℕ → ℕ
rule_rank words q = rank (grammar_of words) (rule_numbered words q).head

pub record RanksGiven (words starts : List ℕ) (z : Sizes) (reaches : List ℕ) : Type 0 where
  pub rules : RulesGiven words starts z
  pub free : NoLeftRecursion (grammar_of words)
  pub reached : reaches ≡ listed max_nonterminals (reach_number (grammar_of words))

-- of the first i rules, x is the last one of the rank, counted from 1; 0 where there is none
pub record LastOf (words : List ℕ) (r i x : ℕ) : Type 0 where
  pub within : x ≤ i
  pub its : (q : ℕ) → suc q ≡ x → rule_rank words q ≡ r
  pub others : (q : ℕ) → x ≤ q → q < i → rule_rank words q ≡ r → ⊥

-- for each rank its last rule, and for each rule the one of its rank before it
pub record ByRank (words : List ℕ) (z : Sizes) (lasts befores : List ℕ) : Type 0 where
  pub last : (r : ℕ) → r < max_nonterminals → LastOf words r z.rules (get_or lasts r 0)
  pub before : (q : ℕ) → q < z.rules → LastOf words (rule_rank words q) q (get_or befores q 0)

-- the rank of a rule's nonterminal by how many it left-reaches; numbers beyond the limits are counted round
abbrev pub rank_from : (words reaches : List ℕ) (from : ℕ) → ℕ
rank_from words reaches from = ones (get_or reaches (head_at words from % max_nonterminals) 0) % max_nonterminals

abbrev pub rank_by : (words starts reaches : List ℕ) → ℕ → ℕ
rank_by words starts reaches q = rank_from words reaches (get_or starts (q % max_rules) 0)

-- of the first n rules, counted from 1: the last one of each rank, and for each rule the one of its rank before it; 0 where there is none
unfoldable pub lasts_to : (rank_of : ℕ → ℕ) → ℕ → List ℕ
lasts_to rank_of zero = replicate max_nonterminals 0
lasts_to rank_of (suc q) = set (lasts_to rank_of q) (rank_of q) (suc q)

unfoldable pub befores_to : (rank_of : ℕ → ℕ) → ℕ → List ℕ
befores_to rank_of zero = replicate max_rules 0
befores_to rank_of (suc q) = set (befores_to rank_of q) (q % max_rules) (get_or (lasts_to rank_of q) (rank_of q) 0)

pub record AskGiven (words starts : List ℕ) (z : Sizes) (q start end : ℕ) : Type 0 where
  pub rules : RulesGiven words starts z
  pub numbered : q < z.rules
  pub span : Span start end

-- the nonterminals found, and that of a rule where the rule gives it the span
pub record Asked (words : List ℕ) (q : ℕ) (stands chart : List ℕ) (start end before after : ℕ) : Type 0 where
  pub member : (w : List ℕ) → Scannable w stands chart end → (A : ℕ)
      → has after A ≡ (has before A || derives (charted chart) w A start end (rule_numbered words q))

pub record DerivedGiven (words starts lasts befores : List ℕ) (z : Sizes) (r start end : ℕ) : Type 0 where
  pub rules : RulesGiven words starts z
  pub ranked : ByRank words z lasts befores
  pub low : r < max_nonterminals
  pub span : Span start end

-- the nonterminals of a rank that the rules give a span to
pub record SpanDerived (words : List ℕ) (r : ℕ) (stands chart : List ℕ) (start end found : ℕ) : Type 0 where
  pub member : (w : List ℕ) → Scannable w stands chart end → (A : ℕ)
      → has found A ≡ (eqb (rank (grammar_of words) A) r && by_rules (grammar_of words) w (charted chart) A start end)

-- where a nonterminal's turn at a span comes: by length, then start, then rank
abbrev pub turn : ℕ → ℕ → ℕ → ℕ
turn k m r = ((m - k) * max_tabular_places + k) * max_nonterminals + r

-- the chart has the solution where the turn has come, and nothing elsewhere
pub record FilledTo (G : Grammar) (w : List ℕ) (x : ℕ) (chart : List ℕ) : Type 0 where
  pub right : (A k m : ℕ) → A < G.nonterminals → k ≤ m → m ≤ length w → turn k m (rank G A) < x → charted chart A k m ≡ solution G w A k m
  pub only : (A k m : ℕ) → A < max_nonterminals → m < max_tabular_places → T (charted chart A k m)
      → (A < G.nonterminals) × (k ≤ m) × (m ≤ length w) × (turn k m (rank G A) < x)

-- from one turn to another, for every input of a length within bounds
pub record Fills (words stands before : List ℕ) (low high x y : ℕ) (after : List ℕ) : Type 0 where
  pub long : Long after
  pub filled : (w : List ℕ) → Standing w stands → low ≤ length w → length w ≤ high → FilledTo (grammar_of words) w x before
      → FilledTo (grammar_of words) w y after

-- a grammar without left recursion, and its rules by rank
pub record FillingGiven (words starts lasts befores : List ℕ) (z : Sizes) (chart : List ℕ) : Type 0 where
  pub rules : RulesGiven words starts z
  pub ranked : ByRank words z lasts befores
  pub free : NoLeftRecursion (grammar_of words)
  pub long : Long chart

pub record SettleGiven (words starts lasts befores : List ℕ) (z : Sizes) (chart : List ℕ) (start end : ℕ) : Type 0 where
  pub given : FillingGiven words starts lasts befores z chart
  pub span : Span start end

pub record LengthGiven (words starts lasts befores : List ℕ) (z : Sizes) (chart : List ℕ) (tokens d : ℕ) : Type 0 where
  pub given : FillingGiven words starts lasts befores z chart
  pub short : tokens ≤ max_tabular_tokens
  pub within : d ≤ tokens

pub record FillGiven (words starts : List ℕ) (z : Sizes) (reaches w : List ℕ) : Type 0 where
  pub rules : RulesGiven words starts z
  pub free : NoLeftRecursion (grammar_of words)
  pub reached : reaches ≡ listed max_nonterminals (reach_number (grammar_of words))
  pub input : InputGiven w

-- the chart has the solution at every span
pub record Filled (words w chart : List ℕ) : Type 0 where
  pub right : (A k m : ℕ) → A < (grammar_of words).nonterminals → k ≤ m → m ≤ length w → charted chart A k m ≡ solution (grammar_of words) w A k m
