-- Where rules begin is noted word by word: what `note` and `rule_starts` need.
use mathlib.Core.Path.{◌≡◌, refl, sym, ap, ◌∙◌}
use mathlib.Core.Bool.{Bool, true, false}
use mathlib.Core.List.{List, [], ◌∷◌, ◌++◌, append_assoc}
use Prim.Native.Nat.{ℕ, zero, suc, ◌+◌, ◌-◌, ◌≤◌, ◌<◌}
use native.Mathlib.Numerals.{add-one}
use native.Mathlib.Omega.{arith}
use native.Mathlib.Decide.{dec_lt}
use lib.ListN.{length, get_or, take, drop, set, replicate, length-take, length-set, length-replicate, take-append-drop, drop_of_length-le}
use lib.Seq.{drop-cons, drop-drop, drop-set-lt, take-suc-set, take-append-le, take-append-add}
use borrow.Author.Tests.{lt-ltb, le-ltb}
use Rattle.word.specs.declared.Word.{Word}
use Rattle.base.specs.Choice.{choose}
use Rattle.word.specs.Words.{decoded}
use Rattle.grammar.specs.Limits.{max_rules}
use Rattle.grammar.specs.Reading.{begins_rule}
use Rattle.grammar.specs.inner.Starts.{starts, rule_starts, StartNoted}

-- `note`, by its tests
module _ {before : List ℕ} {rules at : ℕ} (w : Word) where
  pub noted : begins_rule w ≡ true → rules < max_rules → StartNoted before rules at w (set before rules at) (rules + 1)
  noted b l = record { list = rw (b, lt-ltb rules max_rules l); number = rw (b, lt-ltb rules max_rules l) }

  pub not_noted_full : begins_rule w ≡ true → max_rules ≤ rules → StartNoted before rules at w before rules
  not_noted_full b l = record { list = rw (b, le-ltb rules max_rules l); number = rw (b, le-ltb rules max_rules l) }

drop_replicate : (n m : ℕ) → drop n (replicate {A = ℕ} m 0) ≡ replicate (m - n) 0
drop_replicate zero m = let e : m - 0 ≡ m = omega arith in rw e
drop_replicate (suc n) zero = let e : 0 - suc n ≡ 0 = omega arith in rw e
drop_replicate (suc n) (suc m) = let e : suc m - suc n ≡ m - n = omega arith in rw e (drop_replicate n m)

take_replicate : (n m : ℕ) → n ≤ m → take n (replicate {A = ℕ} m 0) ≡ replicate n 0
take_replicate zero m h = refl
take_replicate (suc n) zero h = absurd (omega arith)
take_replicate (suc n) (suc m) h = ap {B = List ℕ} (λ l. 0 ∷ l) (take_replicate n m (omega arith))

-- after the words before an index: the first `rules` numbers hold the begins found, the others zero
pub record Noting (words found : List ℕ) (rules at : ℕ) : Type 0 where
  pub room : rules ≤ max_rules
  pub size : length found ≡ max_rules
  pub zeros : drop rules found ≡ replicate (max_rules - rules) 0
  pub whole : take max_rules (take rules found ++ (starts at (drop at words) ++ replicate max_rules 0)) ≡ rule_starts words

pub noting_start : (words : List ℕ) → Noting words (replicate max_rules 0) 0 0
unfolding rule_starts
noting_start words = record {
  room = omega arith;
  size = length-replicate {A = ℕ} max_rules 0;
  zeros = refl;
  whole = refl;
}

-- the begins from an index on, by the word at the index
starts_here : (words : List ℕ) (at : ℕ) → at < length words → starts at (drop at words)
    ≡ choose (begins_rule (decoded (get_or words at 0))) (at ∷ starts (suc at) (drop (suc at) words)) (starts (suc at) (drop (suc at) words))
unfolding starts
starts_here words at h = rw (drop-cons words at 0 h)

module _ {words found : List ℕ} {rules at : ℕ} (v : Noting words found rules at) (h : at < length words) where
  -- the first m elements do not change by what is put behind m
  full : (m : ℕ) (xs : List ℕ) (x : ℕ) (ys zs : List ℕ) → m ≤ length xs → take m (xs ++ (ys ++ zs)) ≡ take m (xs ++ ((x ∷ ys) ++ zs))
  full m xs x ys zs l = take-append-le m xs (ys ++ zs) l ∙ sym (take-append-le m xs ((x ∷ ys) ++ zs) l)

  kept : (w : Word) → w ≡ decoded (get_or words at 0) → begins_rule w ≡ false → Noting words found rules (at + 1)
  kept w e b = record {
    room = v.room;
    size = v.size;
    zeros = v.zeros;
    whole =
        let s : starts at (drop at words) ≡ starts (at + 1) (drop (at + 1) words) = rw (starts_here words at h, ← e, b, add-one at) in
        rw (← s) v.whole;
  }

  kept_full : (w : Word) → w ≡ decoded (get_or words at 0) → begins_rule w ≡ true → max_rules ≤ rules → Noting words found rules (at + 1)
  kept_full w e b l = record {
    room = v.room;
    size = v.size;
    zeros = v.zeros;
    whole =
        let n : length (take rules found) ≡ max_rules = length-take rules found ∙ omega (arith, v.size, v.room) in
        let s : starts at (drop at words) ≡ at ∷ starts (at + 1) (drop (at + 1) words) = rw (starts_here words at h, ← e, b, add-one at) in
        full max_rules (take rules found) at (starts (at + 1) (drop (at + 1) words)) (replicate max_rules 0) (omega arith) ∙ (rw s at v.whole);
  }

  one_more : (w : Word) → w ≡ decoded (get_or words at 0) → begins_rule w ≡ true → rules < max_rules
      → Noting words (set found rules at) (rules + 1) (at + 1)
  one_more w e b l = record {
    room = omega arith;
    size = length-set found rules at ∙ v.size;
    zeros =
        let d : drop (rules + 1) (set found rules at) ≡ drop 1 (drop rules found) =
        drop-set-lt (rules + 1) found rules at (omega arith) ∙ sym (drop-drop 1 rules found) in
        let n : max_rules - rules - 1 ≡ max_rules - (rules + 1) = omega arith in
        rw (d, v.zeros, drop_replicate, n);
    whole =
        let k : rules < length found = omega (arith, v.size) in
        let s : starts at (drop at words) ≡ at ∷ starts (at + 1) (drop (at + 1) words) = rw (starts_here words at h, ← e, b, add-one at) in
        let t : take (rules + 1) (set found rules at) ≡ take rules found ++ (at ∷ []) = rw (add-one rules) (take-suc-set found rules at k) in
        rw (t, append_assoc) (rw s at v.whole);
  }

  pub noting_turn : (w : Word) {found' : List ℕ} {rules' : ℕ} → w ≡ decoded (get_or words at 0) → StartNoted found rules at w found' rules'
      → Noting words found' rules' (at + 1)
  noting_turn w {found'} {rules'} e n = go (begins_rule w) refl (dec_lt rules max_rules)
    where
      go : (b : Bool) → begins_rule w ≡ b → Dec (rules < max_rules) → Noting words found' rules' (at + 1)
      go true f (yes l) =
          let t = lt-ltb rules max_rules l in
          rw (rw (f, t) at n.list, rw (f, t) at n.number) (one_more w e f l)
      go true f (no l) =
          let k : max_rules ≤ rules = omega arith in
          let t = le-ltb rules max_rules k in
          rw (rw (f, t) at n.list, rw (f, t) at n.number) (kept_full w e f k)
      go false f d = rw (rw f at n.list, rw f at n.number) (kept w e f)

-- behind the last word nothing is left to find
pub noting_end : {words found : List ℕ} {rules at : ℕ} → Noting words found rules at → length words ≤ at → found ≡ rule_starts words
unfolding starts
noting_end {words} {found} {rules} {at} v h =
    let none : drop at words ≡ [] = drop_of_length-le words h in
    let n : length (take rules found) ≡ rules = length-take rules found ∙ omega (arith, v.size, v.room) in
    let m : max_rules ≡ length (take rules found) + (max_rules - rules) = omega (arith, v.room) in
    let cut : take max_rules (take rules found ++ replicate max_rules 0) ≡ take rules found ++ replicate (max_rules - rules) 0 =
    ap (λ k. take k (take rules found ++ replicate max_rules 0)) m
    ∙ take-append-add (take rules found) (replicate max_rules 0) (max_rules - rules)
    ∙ ap (λ l. take rules found ++ l) (take_replicate (max_rules - rules) max_rules (omega arith)) in
    let all : take rules found ++ replicate (max_rules - rules) 0 ≡ found = rw (← v.zeros) (take-append-drop rules found) in
    sym all ∙ sym cut ∙ (rw none at v.whole)
