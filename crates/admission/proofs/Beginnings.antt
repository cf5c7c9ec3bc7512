-- Which words begin the encoding of a grammar that fits two tokens of lookahead: those that begin an encoding, with few terminals, and before the first
-- negative of a rule without positives.
use Rattle.std.specs.Prelude.{None, Option, Some}
use mathlib.Core.Path.{◌≡◌, refl, sym, ap, ◌∙◌}
use mathlib.Core.Bool.{Bool, true, false, ◌&&◌}
use mathlib.Core.List.{List, [], ◌∷◌, ◌++◌, append_assoc}
use Prim.Native.Nat.{ℕ, zero, suc, ◌+◌, ◌≤◌, ◌<◌}
use native.Mathlib.Omega.{arith}
use lib.ListN.{length, take, drop, take-append-drop}
use lib.Seq.{length-take-le}
use Rattle.base.specs.Choice.{choose}
use Rattle.word.specs.Words.{decoded}
use Rattle.grammar.specs.declared.reading.State.{State}
use Rattle.grammar.specs.declared.reading.State.TheVariants.{Before, Opened, InPositive, InNegative, Closed}
use Rattle.grammar.specs.Limits.{max_terminals_of_two}
use Rattle.grammar.specs.Syntax.{Grammar}
use Rattle.grammar.specs.Encoding.{grammar_of}
use Rattle.grammar.specs.Reading.{begins_rule}
use Rattle.encoding.specs.Encode.{sizes_of, positive_word, heading_word, end_word, rules_words, encode, Encodes}
use Rattle.encoding.specs.Diagnosis.{BeginsEncoding}
use Rattle.grammar.proofs.WellFormed.{Each, none_in}
use Rattle.encoding.proofs.Words.{decoded_positive, decoded_end}
use Rattle.encoding.proofs.Decoding.{encodes_grammar}
use Rattle.encoding.proofs.ReadingEncodes.{opened_encodes, encodes_opened}
use Rattle.encoding.proofs.Faults.{completion}
use Rattle.encoding.proofs.Completing.{completed}
use Rattle.encoding.proofs.OneDiagnosis.{shorter}
use Rattle.lookahead.specs.declared.Lookahead.{Lookahead}
use Rattle.lookahead.specs.declared.Lookahead.TheVariants.{One, Two}
use Rattle.admission.specs.Admission.{Fits, begins_negative, alone_from, first_alone}
use Rattle.admission.specs.Diagnosis.{BeginsEncodingBy}
use Rattle.admission.proofs.WithoutPositives.{Positives, alone_among}
use Rattle.admission.proofs.Admitted.{no_terminals, none_alone_positives, positives_none_alone}

pub absent_at : (a : ℕ) → None ≡ Some a → ⊥
absent_at a e = let n : ◌≡◌ {A = ℕ} 0 1 = cc in omega arith

-- what is found stands behind where the search begins
pub alone_from_lem : (opened : Bool) (at : ℕ) (ws : List ℕ) (a : ℕ) → alone_from opened at ws ≡ Some a → at ≤ a
unfolding alone_from
alone_from_lem opened at [] a e = absurd (absent_at a e)
alone_from_lem opened at (w ∷ ws) a e = go (opened && begins_negative (decoded w)) (alone_from_lem (begins_rule (decoded w)) (suc at) ws a) e
  where
    go : (b : Bool) → (alone_from (begins_rule (decoded w)) (suc at) ws ≡ Some a → suc at ≤ a)
        → choose b (Some at) (alone_from (begins_rule (decoded w)) (suc at) ws) ≡ Some a → at ≤ a
    go true later q = let n : a ≡ at = cc in omega (arith, n)
    go false later q = omega (arith, later q)

pub alone_behind_heading : (words : List ℕ) (a : ℕ) → first_alone words ≡ Some a → 0 < a
unfolding alone_from
alone_behind_heading [] a e = absurd (absent_at a e)
alone_behind_heading (w ∷ ws) a e = alone_from_lem (begins_rule (decoded w)) 1 ws a e

-- what is found among the first words is found whatever follows them
alone_shared : (opened : Bool) (at : ℕ) (p us vs : List ℕ) (a : ℕ) → alone_from opened at (p ++ us) ≡ Some a → a < at + length p
    → alone_from opened at (p ++ vs) ≡ Some a
unfolding alone_from
alone_shared opened at [] us vs a e l = absurd (omega (arith, alone_from_lem opened at us a e))
alone_shared opened at (w ∷ p) us vs a e l =
    go (opened && begins_negative (decoded w)) (λ q. alone_shared (begins_rule (decoded w)) (suc at) p us vs a q (omega (arith, l))) e
  where
    next : List ℕ → Option ℕ
    next ws = alone_from (begins_rule (decoded w)) (suc at) (p ++ ws)

    go : (b : Bool) → (next us ≡ Some a → next vs ≡ Some a) → choose b (Some at) (next us) ≡ Some a → choose b (Some at) (next vs) ≡ Some a
    go true later q = q
    go false later q = later q

-- where none is among the first words, none is where they are completed
end_quiet : (opened : Bool) (at : ℕ) → alone_from opened at (end_word ∷ []) ≡ None
unfolding alone_from
end_quiet true at = rw decoded_end
end_quiet false at = refl

completion_quiet : (s : State) (opened : Bool) (at : ℕ) → alone_from opened at (completion s) ≡ None
unfolding alone_from
completion_quiet Before opened at = end_quiet opened at
completion_quiet Opened true at = rw decoded_positive (end_quiet false (suc at))
completion_quiet Opened false at = end_quiet (begins_rule (decoded positive_word)) (suc at)
completion_quiet InPositive opened at = end_quiet opened at
completion_quiet InNegative opened at = end_quiet opened at
completion_quiet Closed opened at = refl

completed_quiet : (opened : Bool) (at : ℕ) (p us : List ℕ) (s : State) → ((a : ℕ) → alone_from opened at (p ++ us) ≡ Some a → at + length p ≤ a)
    → alone_from opened at (p ++ completion s) ≡ None
unfolding alone_from
completed_quiet opened at [] us s h = completion_quiet s opened at
completed_quiet opened at (w ∷ p) us s h =
    go (opened && begins_negative (decoded w)) h (λ f. completed_quiet (begins_rule (decoded w)) (suc at) p us s f)
  where
    next : List ℕ → Option ℕ
    next ws = alone_from (begins_rule (decoded w)) (suc at) (p ++ ws)

    go : (b : Bool) → ((a : ℕ) → choose b (Some at) (next us) ≡ Some a → at + suc (length p) ≤ a)
        → (((a : ℕ) → next us ≡ Some a → suc at + length p ≤ a) → next (completion s) ≡ None)
        → choose b (Some at) (next (completion s)) ≡ None
    go true h later = absurd (omega (arith, h at refl))
    go false h later = later (λ a q. omega (arith, h a q))

-- with any lookahead the words up to an index begin an encoding that fits if those up to a later one do
pub begins_shorter_by : (k : Lookahead) (words : List ℕ) (i j : ℕ) → i ≤ j → BeginsEncodingBy k (take j words) → BeginsEncodingBy k (take i words)
begins_shorter_by k words i j h b =
    let s = shorter words i j h in
    record {
      rest = s.0 ++ b.rest;
      grammar = b.grammar;
      encodes = rw (← append_assoc (take i words) s.0 b.rest, ← s.1) b.encodes;
      fits = b.fits;
    }

pub begins_all : {k : Lookahead} (words : List ℕ) (G : Grammar) → Encodes words G → Fits k G → (i : ℕ) → BeginsEncodingBy k (take i words)
begins_all words G e f i = record { rest = drop i words; grammar = G; encodes = rw (take-append-drop i words) e; fits = f }

-- a grammar without rules fits
pub begins_nothing : (k : Lookahead) → BeginsEncodingBy k []
unfolding encode rules_words
begins_nothing k = record { rest = heading_word 1 1 ∷ end_word ∷ []; grammar = bare; encodes = encodes; fits = fitting k }
  where
    bare : Grammar
    bare = record { nonterminals = 1; terminals = 1; rules = [] }

    encodes : Encodes (heading_word 1 1 ∷ end_word ∷ []) bare
    encodes = record {
      formed = record {
        scoped = record { heads = none_in _; nonterminals = none_in _ };
        terminals = none_in _;
        conjunct = none_in _;
      };
      limited = record {
        some_nonterminal = omega arith;
        few_nonterminals = omega arith;
        some_terminal = omega arith;
        few_terminals = omega arith;
        few_rules = omega arith;
      };
      encoded = refl;
    }

    fitting : (k : Lookahead) → Fits k bare
    fitting One = tt
    fitting Two = (omega arith, none_in _)

-- with two tokens: the number of terminals stands in the heading
same_terminals : (w : ℕ) (us vs : List ℕ) → (grammar_of (w ∷ us)).terminals ≡ (grammar_of (w ∷ vs)).terminals
unfolding grammar_of
same_terminals w us vs = refl

pub terminals_begun : (words : List ℕ) → BeginsEncodingBy Two (take 1 words) → (grammar_of words).terminals ≤ max_terminals_of_two
terminals_begun [] b = omega (arith, no_terminals [] refl)
terminals_begun (w ∷ ws) b =
    let same = encodes_grammar (w ∷ b.rest) b.grammar b.encodes in
    omega (arith, same_terminals w ws b.rest, ap (λ (G : Grammar). G.terminals) same, b.fits.0)

-- the words before the first negative of a rule without positives
pub begins_quiet : (words : List ℕ) (i : ℕ) → 0 < i → i ≤ length words → (grammar_of words).terminals ≤ max_terminals_of_two
    → ((a : ℕ) → first_alone words ≡ Some a → i ≤ a) → BeginsEncoding (take i words) → BeginsEncodingBy Two (take i words)
begins_quiet [] i l m t h b = absurd (omega arith)
begins_quiet (w ∷ ws) zero l m t h b = absurd (omega arith)
begins_quiet (w ∷ ws) (suc j) l m t h b =
    let c = completed w (take j ws) b in
    let us = w ∷ take j ws ++ completion c.state in
    let quiet : first_alone us ≡ None
    = completed_quiet false 0 (w ∷ take j ws) (drop j ws) c.state
    (λ a e. omega (arith, h a (rw (take-append-drop j ws) at e), length-take-le j ws (omega arith))) in
    record {
      rest = completion c.state;
      grammar = grammar_of us;
      encodes = (opened_encodes us c.sizes c.reads).0;
      fits = (omega (arith, same_terminals w ws (take j ws ++ completion c.state), t), none_alone_positives us c.sizes c.reads quiet);
    }

-- and no more of them
pub alone_stops : (words : List ℕ) (a : ℕ) → first_alone words ≡ Some a → BeginsEncodingBy Two (take (suc a) words) → ⊥
alone_stops words a e b =
    let us = take (suc a) words ++ b.rest in
    let among : length (take (suc a) words) ≡ suc a = length-take-le (suc a) words (omega (arith, alone_among false 0 words a e)) in
    let positives : Each Positives (grammar_of us).rules = rw (encodes_grammar us b.grammar b.encodes) b.fits.1 in
    let none = positives_none_alone us (sizes_of b.grammar) (encodes_opened us b.grammar b.encodes) positives in
    let found = alone_shared false 0 (take (suc a) words) (drop (suc a) words) b.rest a (rw (take-append-drop (suc a) words) e) (omega (arith, among)) in
    absent_at a (sym none ∙ found)
