-- A row that is read without a fault is the words of the grammar that it encodes.
use Rattle.std.specs.Prelude.{Ok}
use mathlib.Core.Path.{◌≡◌, refl, sym, ◌∙◌}
use mathlib.Core.Bool.{true, false, ◌&&◌, false≢true}
use mathlib.Core.List.{List, [], ◌∷◌}
use mathlib.Core.Logic.{◌↔◌}
use Prim.Native.Nat.{ℕ, suc, ◌≤◌, ◌<◌}
use native.Mathlib.Omega.{arith}
use lib.Dec.{ltb}
use lib.ListN.{length}
use borrow.Author.Tests.{ltb-false, le-ltb}
use Rattle.answer.specs.declared.Error.TheVariants.{Heading as HeadingFault}
use Rattle.word.specs.declared.Word.{Word}
use Rattle.word.specs.declared.Word.TheVariants.{Heading, Rule as RuleWord, Positive, Negative, Symbol, End, Invalid}
use Rattle.word.specs.Words.{decoded}
use Rattle.grammar.specs.declared.reading.State.{State}
use Rattle.grammar.specs.declared.reading.State.TheVariants.{Before, Opened, InPositive, InNegative, Closed}
use Rattle.grammar.specs.declared.reading.Sizes.{Sizes}
use Rattle.grammar.specs.declared.reading.Progress.{Progress}
use Rattle.grammar.specs.Limits.{max_words, max_nonterminals, max_terminals}
use Rattle.grammar.specs.Syntax.{Grammar}
use Rattle.grammar.specs.Encoding.{Parsed, on_word, parse, sizes, declared_by, grammar_of}
use Rattle.grammar.specs.Reading.{row, allows, state_after, stepped, scan, fresh, is_within, headed, opened, reading}
use Rattle.encoding.specs.Encode.{heading_word, positive_word, negative_word, end_word, body_words, conjunct_words, rule_words, rules_words, encode, sizes_of}
use Rattle.encoding.specs.Encode.{Encodes}
use Rattle.grammar.proofs.WellFormed.{faulty, finished_read, Empty, Shape, Reads, reads, step_passed, onward}
use Rattle.grammar.proofs.WellRead.{chosen, refused, both, Within, within_limits, fit_formed, declares_no_rules}
use Rattle.encoding.proofs.Words.{WrittenAs, written_as}
use Rattle.encoding.proofs.EncodingRead.{encode_opened}

-- the words of what a row says: of a rule that began before it, the rest of a body and the conjuncts left, then the rules that begin in it
unfoldable unparse : Parsed → List ℕ
unparse p = body_words p.body (conjunct_words positive_word p.positives (conjunct_words negative_word p.negatives (rules_words p.rules (end_word ∷ []))))

-- the words from an index on are those of what they say; behind the end there are none
abbrev Unparsed : State → List ℕ → Type 0
Unparsed Before ws = ws ≡ unparse (parse ws)
Unparsed Opened ws = ws ≡ unparse (parse ws)
Unparsed InPositive ws = ws ≡ unparse (parse ws)
Unparsed InNegative ws = ws ≡ unparse (parse ws)
Unparsed Closed ws = ws ≡ []

unparsed_within : (s : State) (ws : List ℕ) → row false false true true false s ≡ true → Unparsed s ws → ws ≡ unparse (parse ws)
unparsed_within Before ws a l = absurd (false≢true a)
unparsed_within Opened ws a l = absurd (false≢true a)
unparsed_within InPositive ws a l = l
unparsed_within InNegative ws a l = l
unparsed_within Closed ws a l = absurd (false≢true a)

-- one word more in front
unparsed_word : (v : Word) (w : ℕ) (s : State) (ws : List ℕ) → WrittenAs v w → allows v s ≡ true → Shape (state_after v s) (parse ws)
    → Unparsed (state_after v s) ws
    → w ∷ ws ≡ unparse (on_word v (parse ws))
unfolding unparse on_word body_words conjunct_words rule_words rules_words parse
unparsed_word (RuleWord A) w s ws f a h l = cc (rw h.0 at l)
unparsed_word Positive w s ws f a h l = cc
unparsed_word Negative w s ws f a h l = rw h (cc)
unparsed_word (Symbol X) w s ws f a h l = cc (unparsed_within s ws a l)
unparsed_word End w s ws f a h l = rw (l, f)
unparsed_word (Heading n t) w s ws f a h l = absurd (false≢true a)
unparsed_word Invalid w s ws f a h l = absurd (false≢true a)

unparsed_allowed : (v : Word) (s : State) (ws : List ℕ) → allows v s ≡ true → ws ≡ unparse (parse ws) → Unparsed s ws
unparsed_allowed v Before ws a e = e
unparsed_allowed v Opened ws a e = e
unparsed_allowed v InPositive ws a e = e
unparsed_allowed v InNegative ws a e = e
unparsed_allowed v Closed ws a e = absurd (false≢true (sym (closed v) ∙ a))
  where
    closed : (v : Word) → allows v Closed ≡ false
    closed (RuleWord A) = refl
    closed Positive = refl
    closed Negative = refl
    closed (Symbol X) = refl
    closed End = refl
    closed (Heading n t) = refl
    closed Invalid = refl

unparsed : (p : Progress) (at : ℕ) (ws : List ℕ) (z : Sizes) → scan p at ws ≡ Ok z → Unparsed p.state ws
unfolding scan parse
unparsed p at [] z e = rw (finished_read p at z e).0 refl
unparsed p at (w ∷ ws) z e =
    let g = onward (stepped (decoded w) p at) (λ q. scan q (suc at) ws) z e in
    let k = step_passed (decoded w) p g.0 at g.1 in
    let r = reads g.0 (suc at) ws z g.2 in
    unparsed_allowed (decoded w) p.state (w ∷ ws) k.allowed
    (unparsed_word (decoded w) w p.state ws (written_as w) k.allowed (rw k.state at r.fits.shape)
    (rw k.state at (unparsed g.0 (suc at) ws z g.2)))

-- a word that declares nonterminals is the heading of what it declares
heading_written : (v : Word) (w : ℕ) → 0 < (declared_by v).nonterminals → WrittenAs v w
    → w ≡ heading_word (declared_by v).nonterminals (declared_by v).terminals
heading_written (Heading n t) w h f = f
heading_written (RuleWord A) w h f = absurd (omega arith)
heading_written Positive w h f = absurd (omega arith)
heading_written Negative w h f = absurd (omega arith)
heading_written (Symbol X) w h f = absurd (omega arith)
heading_written End w h f = absurd (omega arith)
heading_written Invalid w h f = absurd (omega arith)

unparse_empty : (p : Parsed) → Empty p → unparse p ≡ rules_words p.rules (end_word ∷ [])
unfolding unparse body_words conjunct_words
unparse_empty p h = rw (h.body, h.positives, h.negatives)

same_sizes : (y z : Sizes) → y.nonterminals ≡ z.nonterminals → y.terminals ≡ z.terminals → y.rules ≡ z.rules → y ≡ z
same_sizes y z n t r =
    let e : sizes y.nonterminals y.terminals y.rules ≡ sizes z.nonterminals z.terminals z.rules = cc in
    e

-- by the first word and the reading behind it
module _ (w : ℕ) (ws : List ℕ) (z : Sizes)
    (n : Within (declared_by (decoded w)).nonterminals max_nonterminals) (t : Within (declared_by (decoded w)).terminals max_terminals)
    (e : scan (fresh (declared_by (decoded w))) 1 ws ≡ Ok z) where
  told : Reads (fresh (declared_by (decoded w))) z (parse ws)
  told = reads (fresh (declared_by (decoded w))) 1 ws z e

  count : z.rules ≡ length (parse ws).rules
  count = omega (arith, told.rules, declares_no_rules (decoded w))

  words_encoded : w ∷ ws ≡ encode (grammar_of (w ∷ ws))
  unfolding encode grammar_of
  words_encoded =
      cc (
        heading_written (decoded w) w n.some (written_as w),
        unparsed (fresh (declared_by (decoded w))) 1 ws z e,
        unparse_empty (parse ws) told.fits.shape,
      )

  headed_encodes : Encodes (w ∷ ws) (grammar_of (w ∷ ws))
  unfolding grammar_of
  headed_encodes = record {
    formed = fit_formed (grammar_of (w ∷ ws)) z told.nonterminals told.terminals told.fits.rules;
    limited = record {
      some_nonterminal = n.some;
      few_nonterminals = n.few;
      some_terminal = t.some;
      few_terminals = t.few;
      few_rules = omega (arith, count, told.room (omega (arith, declares_no_rules (decoded w))));
    };
    encoded = words_encoded;
  }

  headed_sizes : z ≡ sizes_of (grammar_of (w ∷ ws))
  unfolding grammar_of
  headed_sizes = same_sizes z (sizes_of (grammar_of (w ∷ ws))) told.nonterminals told.terminals count

-- a row read without a fault, but for the limit on the number of words, is the encoding of its grammar
pub opened_encodes : (words : List ℕ) (z : Sizes) → opened words ≡ Ok z → Encodes words (grammar_of words) × (z ≡ sizes_of (grammar_of words))
unfolding opened headed
opened_encodes [] z e = absurd (faulty HeadingFault z e)
opened_encodes (w ∷ ws) z e =
    let d = declared_by (decoded w) in
    let c = chosen (is_within d.nonterminals max_nonterminals && is_within d.terminals max_terminals) (scan (fresh d) 1 ws) z e in
    let b = both (is_within d.nonterminals max_nonterminals) (is_within d.terminals max_terminals) c.0 in
    let n = within_limits d.nonterminals max_nonterminals b.0 in
    let t = within_limits d.terminals max_terminals b.1 in
    (headed_encodes w ws z n t c.1, headed_sizes w ws z n t c.1)

pub encodes_opened : (words : List ℕ) (G : Grammar) → Encodes words G → opened words ≡ Ok (sizes_of G)
encodes_opened words G h = rw h.encoded (encode_opened G h.formed h.limited)

-- the rows read without a fault are the encodings of at most 2,048 words
pub read_encodes : (words : List ℕ) (z : Sizes) → reading words ≡ Ok z
    → (length words ≤ max_words) × Encodes words (grammar_of words) × (z ≡ sizes_of (grammar_of words))
unfolding reading
read_encodes words z e =
    let s = refused (ltb max_words (length words)) (opened words) z e in
    let r = opened_encodes words z s.1 in
    (ltb-false max_words (length words) s.0, r.0, r.1)

pub encodes_read : (words : List ℕ) (G : Grammar) → length words ≤ max_words → Encodes words G → reading words ≡ Ok (sizes_of G)
unfolding reading
encodes_read words G l e = rw (le-ltb max_words (length words) l) (encodes_opened words G e)

pub reading_encodes : (words : List ℕ) (z : Sizes)
    → (reading words ≡ Ok z) ↔ ((length words ≤ max_words) × ((G : Grammar) × (Encodes words G × (z ≡ sizes_of G))))
reading_encodes words z = (λ e. let r = read_encodes words z e in (r.0, (grammar_of words, (r.1, r.2))), back)
  where
    back : (length words ≤ max_words) × ((G : Grammar) × (Encodes words G × (z ≡ sizes_of G))) → reading words ≡ Ok z
    back (l, (G, (e, s))) = rw s (encodes_read words G l e)
