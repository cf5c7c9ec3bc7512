-- The nonterminals that words name: what other kinds of words leave out, and that those of a row that is read have a set.
use Rattle.std.specs.Prelude.{Ok}
use mathlib.Core.Path.{◌≡◌}
use mathlib.Core.Bool.{true}
use mathlib.Core.List.{List}
use mathlib.Core.Option.{Option, none, some}
use Prim.Native.Nat.{ℕ, ◌-◌, ◌≤◌, ◌<◌}
use native.Mathlib.Omega.{arith}
use lib.ListN.{length, get_or}
use borrow.Author.Tests.{ltb-true}
use Rattle.word.specs.declared.Symbol.TheVariants.{Terminal, Nonterminal}
use Rattle.word.specs.declared.Word.{Word}
use Rattle.word.specs.declared.Word.TheVariants.{Heading, Rule, Positive, Negative, Symbol, End, Invalid}
use Rattle.word.specs.Words.{decoded}
use Rattle.grammar.specs.declared.reading.Sizes.{Sizes}
use Rattle.grammar.specs.Limits.{max_nonterminals}
use Rattle.grammar.specs.Reading.{in_range, reading}
use Rattle.grammar.proofs.EachIndex.{read_place}
use Rattle.grammar.proofs.WellRead.{well_read}
use Rattle.families.specs.inner.Naming.{nonterminal_of, Indexed}

-- what is named has a set
abbrev pub IndexedName : Option ℕ → Type 0
IndexedName none = Unit {0}
IndexedName (some A) = A < max_nonterminals

pub name_indexed : (w : Word) → Indexed w → IndexedName (nonterminal_of w)
name_indexed (Symbol (Terminal a)) h = tt
name_indexed (Symbol (Nonterminal A)) h = h
name_indexed (Heading n t) h = tt
name_indexed (Rule A) h = tt
name_indexed Positive h = tt
name_indexed Negative h = tt
name_indexed End h = tt
name_indexed Invalid h = tt

in_range_indexed : (w : Word) (z : Sizes) → z.nonterminals ≤ max_nonterminals → in_range w z ≡ true → Indexed w
in_range_indexed (Rule A) z h e = omega (arith, ltb-true A z.nonterminals e)
in_range_indexed (Symbol (Terminal a)) z h e = tt
in_range_indexed (Symbol (Nonterminal A)) z h e = omega (arith, ltb-true A z.nonterminals e)
in_range_indexed Positive z h e = tt
in_range_indexed Negative z h e = tt
in_range_indexed End z h e = tt
in_range_indexed (Heading n t) z h e = tt
in_range_indexed Invalid z h e = tt

-- each word of a row that is read, at an index and before one
pub word_indexed : (words : List ℕ) {z : Sizes} {w : Word} {i : ℕ} → reading words ≡ Ok z → i < length words → w ≡ decoded (get_or words i 0)
    → Indexed w
word_indexed words {z} {w} {i} e h is =
    rw is (in_range_indexed (decoded (get_or words i 0)) z (well_read words z e).few_nonterminals (read_place words z e i h).ranged)

pub before_indexed : (words : List ℕ) {z : Sizes} {w : Word} {i : ℕ} → reading words ≡ Ok z → 0 < i → i ≤ length words
    → w ≡ decoded (get_or words (i - 1) 0) → Indexed w
before_indexed words e h k is = word_indexed words e (omega arith) is
