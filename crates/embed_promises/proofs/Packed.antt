-- An answer that fits loses nothing by being packed, and the fields give it back.
use mathlib.Core.Path.{◌≡◌, ◌∙◌}
use Prim.Native.Nat.{ℕ}
use native.Mathlib.Omega.{arith}
use Rattle.answer.specs.declared.Answer.{Answer}
use Rattle.answer.specs.Numbers.{Numbers, numbers}
use Rattle.embed_promises.specs.Packing.{packed, Unpacks, Packs}
use Rattle.embed_promises.specs.inner.Packing.{cut, NumbersFit}

-- what fits is not cut
whole : (n : Numbers) → NumbersFit n → packed (cut n) ≡ packed n
unfolding packed
whole n f = omega (arith, f.code, f.position, f.count, f.farthest)

-- the fields of a joined number
unpacks : {r : ℕ} (n : Numbers) → NumbersFit n → r ≡ packed n → Unpacks r n
unfolding packed
unpacks {r} n f e = record {
  verdict = omega (arith, e, f.verdict, f.code, f.position, f.count, f.farthest);
  code = omega (arith, e, f.verdict, f.code, f.position, f.count, f.farthest);
  position = omega (arith, e, f.verdict, f.code, f.position, f.count, f.farthest);
  count = omega (arith, e, f.verdict, f.code, f.position, f.count, f.farthest);
  farthest = omega (arith, e, f.verdict, f.code, f.position, f.count, f.farthest);
}

pub packs : {r : ℕ} {a : Answer} → NumbersFit (numbers a) → r ≡ packed (cut (numbers a)) → Packs r a
packs {a = a} f e = let same = e ∙ whole (numbers a) f in record { number = same; fields = unpacks (numbers a) f same }
