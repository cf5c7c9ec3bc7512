-- What was read stands behind what was read before.
use Rattle.std.proofs.Common.{◌≡◌, ℕ, ◌+◌, ◌≤◌, List, ◌++◌, rules, length, take, drop, sym, ap, ◌∙◌, subst, le_refl, drop_at, length-take-le}
use Rattle.std.proofs.Math.Seq.{take-add, take-append-le}
use Rattle.std.proofs.lemmas.Slice.{take-put_mid_below}
use Rattle.std.proofs.KnownBytes.{Consumes-trans}
use Rattle.std.specs.Io.KnownBytes.{Consumes}
use borrow.Rule.Slice.PartMut.{put_mid, post_of}
use Rattle.file_reading.proofs.read_full.Goals as goal

-- what was read after the first f bytes stands behind them
read_behind : (f k n : ℕ) (xs ys : List ℕ) → f ≤ length xs → n ≤ length ys → take f xs ++ take n ys ≡ take (f + n) (put_mid f k xs ys)
read_behind f k n xs ys within fits =
    let all = put_mid f k xs ys in
    let front : take f all ≡ take f xs = take-put_mid_below f k xs ys f (le_refl f) within in
    let behind : drop f all ≡ ys ++ post_of f k xs = drop_at (take f xs) (ys ++ post_of f k xs) f (length-take-le f xs within) in
    let read : take n (drop f all) ≡ take n ys = ap (take n) behind ∙ take-append-le n ys (post_of f k xs) fits in
    sym (take-add f n all ∙ ap (λ l. l ++ take n (drop f all)) front ∙ ap (λ l. take f xs ++ l) read)

pub loop-done-preserved : goal.loop-done-preserved
loop-done-preserved g c =
    let before = c.loop-done.invariant in
    let read = c.in-Ok.ensures in
    let joined = Consumes-trans _ _ _ _ _ before.consumed read.bytes.0 in
    record {
      same_length = search rules;
      within = search rules;
      consumed = subst (Consumes _ _) (read_behind c.loop-done.done _ c.in-Ok.n c.loop-done.buffer c.read.new.buf before.within read.bound.0) joined;
    }
