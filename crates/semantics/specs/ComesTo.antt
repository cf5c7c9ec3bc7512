-- What the running of a call's rule reaches before it stops: nonterminals, each with the place where it is called.
use Rattle.std.specs.Prelude.{Bool, true, false, not, List, [], ◌∷◌, ◌++◌, ℕ, ◌≤◌, ◌<◌, length}
use Rattle.std.proofs.Math.Option.{Option, none, some}
use Rattle.word.specs.declared.Symbol.{Symbol}
use Rattle.word.specs.declared.Symbol.TheVariants.{Terminal, Nonterminal}
use Rattle.grammar.specs.Syntax.{Body, Rule, Grammar}
use Rattle.semantics.specs.Choices.{Choice}
use Rattle.semantics.specs.Descent.{Outcome, Failed, End, ends_at, Outcomes, read, run, select, descend}

-- (document 01: a pair)
pub record Call : Type 0 where
  pub nonterminal : ℕ
  pub place : ℕ

abbrev pub call_at : ℕ → ℕ → Call
call_at A i = record { nonterminal = A; place = i }

-- a call of the grammar on the input
abbrev pub InRange : Grammar → List ℕ → Call → Type 0
InRange G w x = (x.nonterminal < G.nonterminals) × (x.place ≤ length w)

abbrev pub symbol_comes_to : Symbol → ℕ → List Call
symbol_comes_to (Terminal a) i = []
symbol_comes_to (Nonterminal A) i = call_at A i ∷ []

abbrev pub from_end : Outcome → (ℕ → List Call) → List Call
from_end Failed f = []
from_end (End m) f = f m

unfoldable pub when : Bool → List Call → List Call
when true l = l
when false l = []

-- what the running of a body from i reaches, in order; the first symbol that fails stops it
unfoldable pub body_comes_to : Outcomes → List ℕ → Body → ℕ → List Call
body_comes_to c w [] i = []
body_comes_to c w (X ∷ b) i = symbol_comes_to X i ++ from_end (read c w X i) (λ m. body_comes_to c w b m)

-- the negative bodies: one that ends at e stops the rule
unfoldable pub negatives_come_to : Outcomes → List ℕ → ℕ → ℕ → List Body → List Call
negatives_come_to c w i e [] = []
negatives_come_to c w i e (b ∷ ns) = body_comes_to c w b i ++ when (not (ends_at (run c w b i) e)) (negatives_come_to c w i e ns)

-- the later positive bodies: one that does not end at e stops the rule
unfoldable pub positives_come_to : Outcomes → List ℕ → ℕ → ℕ → List Body → List Body → List Call
positives_come_to c w i e [] ns = negatives_come_to c w i e ns
positives_come_to c w i e (b ∷ ps) ns = body_comes_to c w b i ++ when (ends_at (run c w b i) e) (positives_come_to c w i e ps ns)

-- the first positive body sets the end, which is n where there is none
unfoldable pub rule_comes_to : Outcomes → List ℕ → ℕ → List Body → List Body → ℕ → List Call
rule_comes_to c w n [] ns i = negatives_come_to c w i n ns
rule_comes_to c w n (b ∷ ps) ns i = body_comes_to c w b i ++ from_end (run c w b i) (λ e. positives_come_to c w i e ps ns)

unfoldable pub selected_comes_to : Outcomes → List ℕ → Option Rule → ℕ → List Call
selected_comes_to c w none i = []
selected_comes_to c w (some r) i = rule_comes_to c w (length w) r.positives r.negatives i

-- what the running of a call's rule reaches
unfoldable pub call_comes_to : Grammar → Choice → List ℕ → Call → List Call
call_comes_to G choice w x = selected_comes_to (descend G choice w) w (select G (choice x.nonterminal x.place)) x.place
