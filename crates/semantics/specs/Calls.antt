-- Which calls the descent makes, and the same computed: the list of the calls, their number and the farthest place of one.
use Rattle.std.specs.Prelude.{Bool, ◌&&◌, ℕ, zero, suc, max, length, eqb}
use mathlib.Core.List.{List, [], ◌∷◌, flat_map, Memᴰ}
use Rattle.grammar.specs.Syntax.{Grammar}
use Rattle.base.specs.FiniteSets.{member, keep, numbers_below, combine, Distinct}
use Rattle.semantics.specs.Valuations.{pairs}
use Rattle.semantics.specs.Choices.{Choice}
use Rattle.semantics.specs.ComesTo.{Call, call_at, call_comes_to}

-- the start at 0, and all that a call reaches (document 01: the called pairs)
pub data Called (G : Grammar) (choice : Choice) (w : List ℕ) : Call → Type 0 where
  start : Called G choice w (call_at 0 0)
  more : {x y : Call} → Called G choice w x → Memᴰ y (call_comes_to G choice w x) → Called G choice w y

-- a list of just the calls made, each once
pub record Listing (G : Grammar) (choice : Choice) (w : List ℕ) (l : List Call) : Type 0 where
  pub distinct : Distinct l
  pub sound : (x : Call) → Memᴰ x l → Called G choice w x
  pub full : (x : Call) → Called G choice w x → Memᴰ x l

-- x and the calls below it, at most n deep, each as often as the descent without a memo table makes it
unfoldable pub calls_within : Grammar → Choice → List ℕ → ℕ → Call → List Call
calls_within G choice w zero x = []
calls_within G choice w (suc n) x = x ∷ flat_map (calls_within G choice w n) (call_comes_to G choice w x)

abbrev pub same_call : Call → Call → Bool
same_call x y = eqb x.nonterminal y.nonterminal && eqb x.place y.place

-- every call in range, by nonterminal, then place (document 01: notebook order)
unfoldable pub all_calls : Grammar → List ℕ → List Call
all_calls G w = combine call_at (numbers_below G.nonterminals) (numbers_below (suc (length w)))

-- the calls made, each once, in that order
unfoldable pub calls : Grammar → Choice → List ℕ → List Call
calls G choice w = keep (member same_call (calls_within G choice w (pairs G w) (call_at 0 0))) (all_calls G w)

-- (document 01: the count)
unfoldable pub call_count : Grammar → Choice → List ℕ → ℕ
call_count G choice w = length (calls G choice w)

unfoldable pub greatest_place : List Call → ℕ
greatest_place [] = 0
greatest_place (x ∷ l) = max x.place (greatest_place l)

-- (document 01: far)
unfoldable pub farthest : Grammar → Choice → List ℕ → ℕ
farthest G choice w = greatest_place (calls G choice w)
