-- What the first word settles of a reading.
use Rattle.std.specs.Prelude.{Err}
use mathlib.Core.Path.{◌≡◌, refl}
use mathlib.Core.Bool.{true, false}
use mathlib.Core.List.{List, [], ◌∷◌}
use mathlib.Core.Logic.{⊎_elim}
use Prim.Native.Nat.{ℕ, ◌≤◌, ◌<◌}
use native.Mathlib.Omega.{arith}
use denote.Enum.Declared.{tag_of}
use types.Run.{OneOf}
use borrow.Author.Tests.{lt-ltb, le-ltb}
use lib.ListN.{length}
use Rattle.answer.specs.declared.Error.TheVariants.{Length, Heading as HeadingFault}
use Rattle.word.specs.contracts.Word.{the_type}
use Rattle.word.specs.declared.Word.{Word}
use Rattle.word.specs.declared.Word.TheVariants.{Heading, Rule, Positive, Negative, Symbol, End, Invalid}
use Rattle.word.specs.Words.{decoded}
use Rattle.grammar.specs.declared.reading.Sizes.{Sizes}
use Rattle.grammar.specs.Limits.{max_words, max_nonterminals, max_terminals}
use Rattle.grammar.specs.Encoding.{sizes, declared_by}
use Rattle.grammar.specs.Reading.{fresh, scan, is_within, headed, opened, reading}

-- every kind of word but a heading declares nothing
pub declares_none : (w : Word) → OneOf (1 ∷ 2 ∷ 3 ∷ 4 ∷ 5 ∷ 6 ∷ []) (tag_of the_type w) → sizes 0 0 0 ≡ declared_by w
declares_none (Heading n t) h =
    absurd (⊎_elim (λ e. omega arith)
    (⊎_elim (λ e. omega arith) (⊎_elim (λ e. omega arith) (⊎_elim (λ e. omega arith) (⊎_elim (λ e. omega arith) (λ e. omega arith))))) h)
declares_none (Rule A) h = refl
declares_none Positive h = refl
declares_none Negative h = refl
declares_none (Symbol X) h = refl
declares_none End h = refl
declares_none Invalid h = refl

pub reading_long : (words : List ℕ) → max_words < length words → Err Length ≡ reading words
unfolding reading
reading_long words l = rw (lt-ltb max_words (length words) l)

module _ (words : List ℕ) (short : length words ≤ max_words) where
  reading_short : reading words ≡ opened words
  unfolding reading
  reading_short = rw (le-ltb max_words (length words) short)

  pub reading_empty : length words ≡ 0 → Err HeadingFault ≡ reading words
  unfolding opened
  reading_empty e = rw reading_short (none words e)
    where
      none : (ws : List ℕ) → length ws ≡ 0 → Err HeadingFault ≡ opened ws
      none [] e = refl
      none (w ∷ ws) e = absurd (omega arith)

  module _ {x : ℕ} {ws : List ℕ} (e : words ≡ x ∷ ws) {w : Word} {z : Sizes} (o : w ≡ decoded x) (d : z ≡ declared_by w) where
    reading_headed : reading words ≡ headed z ws
    unfolding opened
    reading_headed = rw (reading_short, e, ← o, ← d)

    pub nonterminals_out : is_within z.nonterminals max_nonterminals ≡ false → Err HeadingFault ≡ reading words
    unfolding headed
    nonterminals_out n = rw (reading_headed, n)

    module _ (n : is_within z.nonterminals max_nonterminals ≡ true) where
      pub terminals_out : is_within z.terminals max_terminals ≡ false → Err HeadingFault ≡ reading words
      unfolding headed
      terminals_out t = rw (reading_headed, n, t)

      pub reading_rules : is_within z.terminals max_terminals ≡ true → scan (fresh z) 1 ws ≡ reading words
      unfolding headed
      reading_rules t = rw (reading_headed, n, t)
