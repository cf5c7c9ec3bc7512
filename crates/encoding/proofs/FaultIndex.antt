-- The index of a fault: the words before it begin an encoding, with the word at it they do not, and which words might stand there.
use Rattle.std.specs.Prelude.{Err, Ok}
use mathlib.Core.Path.{◌≡◌, refl, sym, ◌∙◌}
use mathlib.Core.Bool.{true}
use mathlib.Core.List.{List, [], ◌∷◌, ◌++◌, append_assoc}
use Prim.Native.Nat.{ℕ, suc, ◌≤◌, ◌<◌}
use lib.ListN.{length, take, get_or}
use lib.Seq.{take-suc}
use Rattle.answer.specs.declared.Error.{Error}
use Rattle.answer.specs.declared.Error.TheVariants.{UnexpectedWord}
use Rattle.word.specs.declared.Symbol as symbol
use Rattle.word.specs.declared.Word.TheVariants.{Symbol}
use Rattle.word.specs.Words.{decoded}
use Rattle.grammar.specs.declared.reading.Sizes.{Sizes}
use Rattle.grammar.specs.declared.reading.Progress.{Progress}
use Rattle.grammar.specs.Syntax.{Grammar}
use Rattle.grammar.specs.Encoding.{grammar_of}
use Rattle.grammar.specs.Reading.{symbol_in_range, stepped, scan, opened}
use Rattle.encoding.specs.Encode.{symbol_word, end_word, sizes_of, Encodes}
use Rattle.encoding.specs.Diagnosis.{BeginsEncoding}
use Rattle.grammar.proofs.WellFormed.{faulty, step_passed, onward}
use Rattle.encoding.proofs.Words.{decoded_end}
use Rattle.encoding.proofs.EncodingRead.{Within, Between, within_between, goes_word, end_goes}
use Rattle.encoding.proofs.ReadingEncodes.{opened_encodes, encodes_opened}
use Rattle.encoding.proofs.Faults.{completion, complete}

-- the index of a fault behind the heading
pub record Place (words : List ℕ) (i : ℕ) (x : Error) : Type 0 where
  pub come : Progress
  pub opens : (us : List ℕ) → opened (take i words ++ us) ≡ scan come i us
  pub behind : 0 < i
  pub among : i ≤ length words
  pub some_nonterminal : 0 < come.sizes.nonterminals
  pub some_terminal : 0 < come.sizes.terminals
  pub word : i < length words → stepped (decoded (get_or words i 0)) come i ≡ Err x
  pub end : i ≡ length words → x ≡ UnexpectedWord i

pub begins : (ws rest : List ℕ) (z : Sizes) → opened (ws ++ rest) ≡ Ok z → BeginsEncoding ws
begins ws rest z e = record { rest = rest; grammar = grammar_of (ws ++ rest); encodes = (opened_encodes (ws ++ rest) z e).0 }

-- a fault at an index, by the words before it and the word at it
module _ (words : List ℕ) (i : ℕ) (x : Error) (h : Place words i x) where
  pub begun : BeginsEncoding (take i words)
  begun =
      let rest = completion h.come.state in
      begins (take i words) rest h.come.sizes (h.opens rest ∙ complete h.come.state h.come.sizes i)

  -- the words before the index, and behind them others that make an encoding
  scanned : (us : List ℕ) (G : Grammar) → Encodes (take i words ++ us) G → scan h.come i us ≡ Ok (sizes_of G)
  scanned us G e = sym (h.opens us) ∙ encodes_opened (take i words ++ us) G e

  -- a word that goes on
  goes_on : (w : ℕ) (us : List ℕ) (G : Grammar) → Encodes (take i words ++ (w ∷ us)) G → (q : Progress) × (stepped (decoded w) h.come i ≡ Ok q)
  unfolding scan
  goes_on w us G e = let g = onward (stepped (decoded w) h.come i) (λ q. scan q (suc i) us) (sizes_of G) (scanned (w ∷ us) G e) in (g.0, g.1)

  pub stuck : i < length words → BeginsEncoding (take (suc i) words) → ⊥
  stuck l b =
      clash (goes_on next b.rest b.grammar (rw (← append_assoc (take i words) (next ∷ []) b.rest, ← take-suc words i 0 l) b.encodes))
    where
      next : ℕ
      next = get_or words i 0

      clash : (q : Progress) × (stepped (decoded next) h.come i ≡ Ok q) → ⊥
      clash g = faulty x g.0 (sym (h.word l) ∙ g.1)

  -- a rule may begin where the grammar may end, and a symbol stand where another of its kind may
  pub may_end : Between h.come.state → opened (take i words ++ (end_word ∷ [])) ≡ Ok h.come.sizes
  may_end a = h.opens (end_word ∷ []) ∙ end_goes h.come.state h.come.sizes a i

  pub may_stand : (X : symbol.Symbol) → decoded (symbol_word X) ≡ Symbol X → Within h.come.state → symbol_in_range X h.come.sizes ≡ true
      → (b : BeginsEncoding (take i words ++ (symbol_word X ∷ []))) × (h.come.sizes ≡ sizes_of b.grammar)
  may_stand X d a r =
      let e = opened_encodes ((take i words ++ (symbol_word X ∷ [])) ++ (end_word ∷ [])) h.come.sizes
      (rw (append_assoc (take i words) (symbol_word X ∷ []) (end_word ∷ []))
      (h.opens (symbol_word X ∷ end_word ∷ [])
      ∙ goes_word (symbol_word X) (Symbol X) h.come.state h.come.sizes h.come.sizes (end_word ∷ []) d a r refl
      (end_goes h.come.state h.come.sizes (within_between h.come.state a)) i)) in
      (record { rest = end_word ∷ []; grammar = grammar_of ((take i words ++ (symbol_word X ∷ [])) ++ (end_word ∷ [])); encodes = e.0 }, e.1)

  pub may_begin : (G : Grammar) → Encodes (take i words ++ (end_word ∷ [])) G → Between h.come.state
  may_begin G e = let g = goes_on end_word [] G e in rw decoded_end at (step_passed (decoded end_word) h.come g.0 i g.1).allowed

  pub may_follow : (X : symbol.Symbol) → decoded (symbol_word X) ≡ Symbol X → BeginsEncoding (take i words ++ (symbol_word X ∷ []))
      → Within h.come.state
  may_follow X d b =
      let e : Encodes (take i words ++ (symbol_word X ∷ b.rest)) b.grammar = rw (← append_assoc (take i words) (symbol_word X ∷ []) b.rest) b.encodes in
      let g = goes_on (symbol_word X) b.rest b.grammar e in
      rw d at (step_passed (decoded (symbol_word X)) h.come g.0 i g.1).allowed
