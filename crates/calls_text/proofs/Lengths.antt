-- How long the lines of calls can be.
use mathlib.Core.List.{List, [], ◌++◌}
use Prim.Native.Nat.{ℕ, ◌+◌, ◌*◌, ◌/◌, ◌%◌, ◌≤◌, ◌<◌}
use native.Mathlib.Nat.{mod-lt, div-lt_iff_lt-mul, mul-le-mul}
use native.Mathlib.Omega.{arith}
use lib.Dec.{eqb}
use lib.ListN.{length, get_or, length-append}
use Rattle.grammar.specs.Limits.{max_nonterminals, max_tokens, max_places, max_memo_entries}
use Rattle.grammar.specs.Codes.{failed_code, uncalled_code}
use Rattle.text.specs.Ascii.{ascii}
use Rattle.text.specs.Decimal.{decimal, labelled}
use Rattle.text.proofs.Lengths.{choose_most, decimal_few, dash_within, up_to_most}
use Rattle.calls_text.specs.Room.{call_room}
use Rattle.calls_text.specs.Calls.{end_text, call_text, calls_text}

-- a nonterminal of two digits, a place of three and an end of five
call_most : (A place entry : ℕ) → A < 100 → place < 1000 → entry < 100000 → length (call_text A place entry) ≤ call_room
unfolding call_text
call_most A place entry a p e =
    let line = decimal A ++ labelled " " place ++ end_text entry ++ ascii "\n" in
    let short : length line ≤ call_room =
    simp length-append (omega (arith, decimal_few 1 A a, decimal_few 2 place p, dash_within failed_code entry 5 (decimal_few 4 entry e) (omega arith))) in
    choose_most (eqb entry uncalled_code) [] line call_room (omega arith) short

-- entries of at most five digits
abbrev pub Small : List ℕ → Type 0
Small memo = (k : ℕ) → get_or memo k uncalled_code < 100000

pub calls_most : (nonterminals tokens : ℕ) (memo : List ℕ) → nonterminals ≤ max_nonterminals → tokens ≤ max_tokens → Small memo
    → length (calls_text nonterminals tokens memo) ≤ max_memo_entries * call_room
unfolding calls_text
calls_most n t memo few short small =
    let m = mul-le-mul {n₁ = n} {m₁ = t + 1} {n₂ = max_nonterminals} {m₂ = max_places} few (omega arith) in
    omega (arith, up_to_most (n * (t + 1)) call_room (λ k. call_text (k / (t + 1)) (k % (t + 1)) (get_or memo k uncalled_code)) each)
  where
    each : (k : ℕ) → k < n * (t + 1) → length (call_text (k / (t + 1)) (k % (t + 1)) (get_or memo k uncalled_code)) ≤ call_room
    each k h =
        let some : 0 < t + 1 = omega arith in
        let row : k / (t + 1) < n = (div-lt_iff_lt-mul some).1 h in
        call_most (k / (t + 1)) (k % (t + 1)) (get_or memo k uncalled_code) (omega arith) (omega (arith, mod-lt k some)) (small k)
