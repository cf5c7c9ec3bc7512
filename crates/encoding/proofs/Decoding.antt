-- The grammar of a grammar's words is that grammar.
use mathlib.Core.Path.{◌≡◌, refl, sym, ap, ◌∙◌}
use mathlib.Core.List.Memᴰ
use mathlib.Core.List.{List, [], ◌∷◌}
use Prim.Native.Nat.{ℕ, ◌^◌, ◌<◌}
use native.Mathlib.Omega.{arith}
use Rattle.word.specs.declared.Symbol.TheVariants.{Terminal, Nonterminal}
use Rattle.word.specs.declared.Symbol as symbol
use Rattle.word.specs.declared.Word.TheVariants.{Symbol}
use Rattle.word.specs.Words.{decoded}
use Rattle.grammar.specs.Syntax.{Body, Rule, Grammar, WellFormed}
use Rattle.grammar.specs.Encoding.{Parsed, parsed, on_word, parse, sizes, grammar_of}
use Rattle.encoding.specs.Encode.{symbol_word, positive_word, negative_word, end_word, body_words, conjunct_words, rule_words, rules_words, encode}
use Rattle.encoding.specs.Encode.{WithinLimits, Encodes}
use Rattle.grammar.proofs.WellFormed.{Each, InRange, RuleFits}
use Rattle.encoding.proofs.Words.{decoded_heading, decoded_rule, decoded_positive, decoded_negative, decoded_symbol, decoded_end}

pub each_rest : {A : Type 0} (P : A → Type 0) (x : A) (l : List A) → Each P (x ∷ l) → Each P l
each_rest P x l h y m = h y (Memᴰ.tail m)

-- numbers that the heading has room for
module _ (n t : ℕ) (few_nonterminals : n < 2 ^ 8) (few_terminals : t < 2 ^ 8) where
  pub symbol_of : (X : symbol.Symbol) (b : Body) → InRange (sizes n t 0) (X ∷ b) → decoded (symbol_word X) ≡ Symbol X
  symbol_of (Terminal a) b h = let l = h.1.0 in decoded_symbol (Terminal a) (omega arith)
  symbol_of (Nonterminal A) b h = let l = h.0.0 in decoded_symbol (Nonterminal A) (omega arith)

  pub rest_of : (X : symbol.Symbol) (b : Body) → InRange (sizes n t 0) (X ∷ b) → InRange (sizes n t 0) b
  rest_of (Terminal a) b h = (h.0, h.1.1)
  rest_of (Nonterminal A) b h = (h.0.1, h.1)

  -- conjuncts of one sign, by where the begin of a conjunct puts its body
  module _ (begin : ℕ) (f : Body → List Body → Parsed) (symbols : (X : symbol.Symbol) (b : Body) (bs : List Body) → on_word (Symbol X) (f b bs) ≡ f (X ∷ b) bs)
      (begins : (b : Body) (bs : List Body) → on_word (decoded begin) (f b bs) ≡ f [] (b ∷ bs)) where
    body_parsed : (b : Body) (bs : List Body) (ws : List ℕ) → InRange (sizes n t 0) b → parse ws ≡ f [] bs → parse (body_words b ws) ≡ f b bs
    unfolding body_words parse
    body_parsed [] bs ws h e = e
    body_parsed (X ∷ b) bs ws h e = rw (symbol_of X b h, body_parsed b bs ws (rest_of X b h) e) (symbols X b bs)

    conjuncts_parsed : (bs : List Body) (ws : List ℕ) → Each (InRange (sizes n t 0)) bs → parse ws ≡ f [] []
        → parse (conjunct_words begin bs ws) ≡ f [] bs
    unfolding conjunct_words parse
    conjuncts_parsed [] ws h e = e
    conjuncts_parsed (b ∷ bs) ws h e =
        rw (body_parsed b bs (conjunct_words begin bs ws) (h b (Memᴰ.head refl)) (conjuncts_parsed bs ws (each_rest _ b bs h) e)) (begins b bs)

  rule_parsed : (r : Rule) (rs : List Rule) (ws : List ℕ) → RuleFits (sizes n t 0) r → parse ws ≡ parsed [] [] [] rs
      → parse (rule_words r ws) ≡ parsed [] [] [] (r ∷ rs)
  unfolding rule_words parse on_word
  rule_parsed r rs ws h e =
      rw (
        decoded_rule r.head (omega (arith, h.head)),
        conjuncts_parsed positive_word (λ b ps. parsed b ps r.negatives rs) (λ X b ps. refl) (λ b ps. rw decoded_positive) r.positives _
            (λ b m. h.in_range b (Memᴰ.append_left r.negatives m))
            (conjuncts_parsed negative_word (λ b ns. parsed b [] ns rs) (λ X b ns. refl) (λ b ns. rw decoded_negative) r.negatives ws
            (λ b m. h.in_range b (Memᴰ.append_right r.positives m)) e),
      )

  rules_parsed : (rs : List Rule) (ws : List ℕ) → Each (RuleFits (sizes n t 0)) rs → parse ws ≡ parsed [] [] [] []
      → parse (rules_words rs ws) ≡ parsed [] [] [] rs
  unfolding rules_words
  rules_parsed [] ws h e = e
  rules_parsed (r ∷ rs) ws h e = rule_parsed r rs (rules_words rs ws) (h r (Memᴰ.head refl)) (rules_parsed rs ws (each_rest _ r rs h) e)

end_parsed : parse (end_word ∷ []) ≡ parsed [] [] [] []
unfolding parse on_word
end_parsed = rw decoded_end

-- a well-formed grammar's rules fit its numbers
pub rules_fit : (G : Grammar) → WellFormed G → Each (RuleFits (sizes G.nonterminals G.terminals 0)) G.rules
rules_fit G f r m = record {
  head = f.scoped.heads r m;
  in_range = λ b k. (f.scoped.nonterminals r m b k, f.terminals r m b k);
  conjunct = f.conjunct r m;
}

-- nothing is lost
pub encoded : (G : Grammar) → WellFormed G → WithinLimits G → grammar_of (encode G) ≡ G
unfolding grammar_of encode
encoded G f l =
    let n : G.nonterminals < 2 ^ 8 = omega (arith, l.few_nonterminals) in
    let t : G.terminals < 2 ^ 8 = omega (arith, l.few_terminals) in
    rw (
      decoded_heading G.nonterminals G.terminals n t,
      rules_parsed G.nonterminals G.terminals n t G.rules (end_word ∷ []) (rules_fit G f) end_parsed,
    )

pub encodes_grammar : (words : List ℕ) (G : Grammar) → Encodes words G → grammar_of words ≡ G
encodes_grammar words G e = ap grammar_of e.encoded ∙ encoded G e.formed e.limited

-- so a row of words encodes at most one grammar
pub encode_injective : (words : List ℕ) (G H : Grammar) → Encodes words G → Encodes words H → G ≡ H
encode_injective words G H e f = sym (encodes_grammar words G e) ∙ encodes_grammar words H f
