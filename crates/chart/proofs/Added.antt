-- Where a word has no more nonterminals, the chart is as it is with all of them put in.
use mathlib.Core.Path.{◌≡◌, refl}
use mathlib.Core.List.{List}
use Prim.Native.Nat.{ℕ, ◌/◌, ◌^◌, ◌≤◌, ◌<◌}
use Rattle.grammar.specs.Limits.{max_nonterminals, max_tabular_places}
use Rattle.tabular_promises.specs.inner.Chart.{added_to, added_word}
use Rattle.tabular_promises.proofs.Charts.{no_more_added}

-- the first equation says where a tactic is to use this
pub all_put : (chart : List ℕ) (start end word i : ℕ) → word / 2 ^ i ≡ 0
    → (added_to chart start end word i ≡ added_to chart start end word i)
    × ((N : ℕ) → i ≤ N → N ≤ max_nonterminals → end < max_tabular_places → added_to chart start end word i ≡ added_word chart N start end word)
all_put chart start end word i e = (refl, λ N a few short. no_more_added chart N start end word few short i a refl e)
