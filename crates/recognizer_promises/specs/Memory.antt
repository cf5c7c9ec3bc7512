-- What lent memory holds after a call.
use Rattle.std.specs.Prelude.{List, map, ℕ}
use Rattle.base.specs.Choice.{choose}
use Rattle.grammar.specs.Codes.{uncalled_code}
use Rattle.grammar.specs.Syntax.{Grammar}
use Rattle.base.specs.FiniteSets.{member}
use Rattle.lookahead.specs.declared.Lookahead.{Lookahead}
use Rattle.semantics.specs.Descent.{descend}
use Rattle.semantics.specs.ComesTo.{Call}
use Rattle.semantics.specs.Calls.{same_call, all_calls, calls}
use Rattle.semantics.specs.Memo.{outcome_code}
use Rattle.recognizer_promises.specs.Answers.{choice_of}

-- the entry of a call: its outcome where it was made
unfoldable pub memo_word : Lookahead → Grammar → List ℕ → Call → ℕ
memo_word k G w x = choose (member same_call (calls G (choice_of k G w) w) x) (outcome_code (descend G (choice_of k G w) w x.nonterminal x.place)) uncalled_code

-- (document 01: the notebook)
unfoldable pub memo_words : Lookahead → Grammar → List ℕ → List ℕ
memo_words k G w = map (memo_word k G w) (all_calls G w)
