-- Two judges that go by the one solution have the same verdict.
use mathlib.Core.Path.{◌≡◌, refl}
use mathlib.Core.Bool.{Bool, true, false}
use mathlib.Core.List.{List}
use Prim.Native.Nat.{ℕ}
use native.Mathlib.Omega.{arith}
use lib.ListN.{length, take}
use Rattle.answer.specs.Numbers.{numbers}
use Rattle.answer.specs.declared.Calls.{Calls}
use Rattle.answer.specs.declared.Answer.{Answer}
use Rattle.answer.specs.declared.Answer.TheVariants.{Accepted, Rejected}
use Rattle.grammar.specs.Encoding.{grammar_of}
use Rattle.lookahead.specs.declared.Lookahead.{Lookahead}
use Rattle.lookahead.specs.Lookaheads.{tokens}
use Rattle.lookahead.proofs.Strings.{some_token}
use Rattle.semantics.specs.Valuations.{solution}
use Rattle.recognizer_promises.specs.Properties.{PassedGrammar}
use Rattle.tabular_promises.specs.Properties.{FreeGrammar}
use Rattle.agreement.specs.Agreement.{SameVerdict, SameAsTabular}
use Rattle.agreement.proofs.Narrowing.{narrows}

-- two answers by one test
by_one_test : (b : Bool) {c c' : Calls} {d r : Answer} → (b ≡ true → d ≡ Accepted c) → (b ≡ false → d ≡ Rejected c) → (b ≡ true → r ≡ Accepted c')
    → (b ≡ false → r ≡ Rejected c') → (numbers d).verdict ≡ (numbers r).verdict
by_one_test true x y u v = rw (x refl, u refl)
by_one_test false x y u v = rw (y refl, v refl)

pub same_verdict : SameVerdict
same_verdict k l G input r s memo' memo'' a b =
    let v = solution G input in
    let solves = a.one_solution.solves in
    by_one_test (v 0 0 (length input)) (a.accepted v solves).1 (a.rejected v solves).1 (b.accepted v solves).1 (b.rejected v solves).1

-- a grammar that passes with a lookahead is taken by the tabular judge, whose first sets are of one token
passed_free : (k : Lookahead) (words : List ℕ) → PassedGrammar k words → FreeGrammar words
passed_free k words p = record {
  short = p.short;
  grammar = p.grammar;
  encodes = p.encodes;
  free = p.free;
  productive = λ A a.
      let formed = p.encodes.formed in
      let cut = narrows 1 (tokens k) (omega (arith, some_token k)) p.grammar formed.scoped formed.terminals p.encodes.limited.some_nonterminal in
      let string = p.productive A a in
      (take 1 string.0, cut.first A string.0 string.1);
}

pub same_as_tabular : SameAsTabular
same_as_tabular k words input h few table memo table' memo' d room j spans spans' r enough t =
    let v = solution (grammar_of words) input in
    let a = j.recognizes room h in
    let b = t.tabulates enough record { taken = passed_free k words h.passed; short = few; known = h.known } in
    let solves = a.one_solution.solves in
    by_one_test (v 0 0 (length input)) (a.accepted v solves).1 (a.rejected v solves).1 (b.accepted v solves).1 (b.rejected v solves).1
