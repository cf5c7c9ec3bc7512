-- A cursor that stands carries what dividing its index by the length of a row would give.
use mathlib.Core.Path.{◌≡◌, ap, ◌∙◌}
use mathlib.Core.List.{List}
use Prim.Native.Nat.{ℕ, ◌+◌, ◌*◌, ◌/◌, ◌%◌}
use native.Mathlib.Nat.{add-zero, mul-add-div_right, mul-add-mod_self_right, div-eq_of_lt, mod-eq_of_lt}
use native.Mathlib.Omega.{arith}
use lib.ListN.{get_or}
use Rattle.grammar.specs.Codes.{uncalled_code}
use Rattle.text.specs.declared.Output.{Output}
use Rattle.text.specs.inner.Outputs.{Puts}
use Rattle.text.specs.Writing.{up_to}
use Rattle.text.proofs.Outputs.{puts_first, puts_next}
use Rattle.calls_text.specs.declared.cursor.Cursor.{Cursor}
use Rattle.calls_text.specs.inner.Cursors.{Stands, EntryPut}
use Rattle.calls_text.specs.Calls.{call_text}

module _ (tokens : ℕ) (c : Cursor) (s : Stands tokens c) where
  row : c.nonterminal ≡ c.index / (tokens + 1)
  row =
      let split : (c.nonterminal * (tokens + 1) + c.place) / (tokens + 1) ≡ c.nonterminal + c.place / (tokens + 1) =
      mul-add-div_right (omega arith) c.nonterminal c.place in
      let rest : c.place / (tokens + 1) ≡ 0 = div-eq_of_lt (omega (arith, s.in_row)) in
      cc (split, rest, add-zero c.nonterminal, s.stands_at)

  column : c.place ≡ c.index % (tokens + 1)
  column =
      let split : (c.nonterminal * (tokens + 1) + c.place) % (tokens + 1) ≡ c.place % (tokens + 1) =
      mul-add-mod_self_right c.nonterminal (tokens + 1) c.place in
      let rest : c.place % (tokens + 1) ≡ c.place = mod-eq_of_lt (omega (arith, s.in_row)) in
      cc (split, rest, s.stands_at)

pub entry_put : {before after : Output} (memo : List ℕ) (entry : ℕ) (c : Cursor) → entry ≡ get_or memo c.index uncalled_code
    → Puts (call_text c.nonterminal c.place entry) before after → EntryPut c memo before after
entry_put memo entry c e p tokens s = rw (← row tokens c s, ← column tokens c s, ← e) p

-- A cursor on its way through the entries, behind so many of them: it stands, and the calls of the entries before it are put.
module _ (tokens : ℕ) (memo : List ℕ) (first : Output) where
  abbrev text : ℕ → List ℕ
  text k = call_text (k / (tokens + 1)) (k % (tokens + 1)) (get_or memo k uncalled_code)

  abbrev pub Passing : ℕ → Cursor → Output → Type 0
  Passing n c now = (c.index ≡ n) × Stands tokens c × Puts (up_to n text) first now

  pub passing_first : (c : Cursor) → c.index ≡ 0 → ((t : ℕ) → Stands t c) → Passing 0 c first
  passing_first c e s = (e, s tokens, puts_first text first)

  pub passing_step : (n : ℕ) (c d : Cursor) {now next : Output} → Passing n c now → EntryPut c memo now next
      → d.index ≡ c.index + 1 → Stands tokens d → Passing (n + 1) d next
  passing_step n c d p e next s = (next ∙ ap (λ k. k + 1) p.0, s, puts_next text n (ap text p.0) p.2 (e tokens p.1))
