-- The running of a rule as a tree of questions: what it gives, what it asks, and how a memo goes through it.
use mathlib.Core.Bool.{Bool, true, false, not, ◌&&◌, ◌||◌}
use mathlib.Core.List.{List, [], ◌∷◌, ◌++◌}
use mathlib.Core.Option.{Option, none, some}
use mathlib.Core.Path.{◌≡◌, refl, ap, ◌∙◌}
use Prim.Native.Nat.{ℕ, suc}
use lib.Dec.{ltb, eqb}
use lib.ListN.{length, get_or}
use Rattle.word.specs.declared.Symbol.TheVariants.{Terminal, Nonterminal}
use Rattle.grammar.specs.Syntax.{Body, Rule}
use Rattle.base.specs.Quantifiers.{any_of, all_of}
use Rattle.base.specs.Choice.{choose}
use Rattle.semantics.specs.Descent.{Outcome, Failed, End, ends_at, onward, guard, Outcomes, read, run, agrees, confirm, conclude, obey}
use Rattle.semantics.specs.ComesTo.{Call, call_at, from_end, when, body_comes_to, negatives_come_to, positives_come_to, rule_comes_to, selected_comes_to}
use Rattle.semantics.specs.Memo.{Memo}
use Rattle.semantics.specs.inner.MemoDescent.{Memoized, memoized, and_then, MemoCalls, memo_run, memo_negatives, memo_positives, memo_rule, memo_obey}

pub data Plan : Type 0 where
  Done : Outcome → Plan
  Ask : ℕ → ℕ → (Outcome → Plan) → Plan

unfoldable pub value : Outcomes → Plan → Outcome
value c (Done o) = o
value c (Ask A i f) = value c (f (c A i))

unfoldable pub asked : Outcomes → Plan → List Call
asked c (Done o) = []
asked c (Ask A i f) = call_at A i ∷ asked c (f (c A i))

unfoldable pub through : MemoCalls → Plan → Memo → Memoized
through M (Done o) m = memoized o m
through M (Ask A i f) m = through M (f (M A i m).outcome) (M A i m).memo

abbrev on_end : Outcome → Plan → (ℕ → Plan) → Plan
on_end Failed p f = p
on_end (End m) p f = f m

unfoldable pub body_plan : List ℕ → Body → ℕ → (Outcome → Plan) → Plan
body_plan w [] i next = next (End i)
body_plan w (Terminal a ∷ b) i next = choose (ltb i (length w) && eqb (get_or w i 0) a) (body_plan w b (suc i) next) (next Failed)
body_plan w (Nonterminal A ∷ b) i next = Ask A i (λ o. on_end o (next Failed) (λ m. body_plan w b m next))

unfoldable pub negatives_plan : List ℕ → ℕ → ℕ → List Body → Plan
negatives_plan w i e [] = Done (End e)
negatives_plan w i e (b ∷ ns) = body_plan w b i (λ o. choose (ends_at o e) (Done Failed) (negatives_plan w i e ns))

unfoldable pub positives_plan : List ℕ → ℕ → ℕ → List Body → List Body → Plan
positives_plan w i e [] ns = negatives_plan w i e ns
positives_plan w i e (b ∷ ps) ns = body_plan w b i (λ o. choose (ends_at o e) (positives_plan w i e ps ns) (Done Failed))

unfoldable pub rule_plan : List ℕ → ℕ → List Body → List Body → ℕ → Plan
rule_plan w n [] ns i = negatives_plan w i n ns
rule_plan w n (b ∷ ps) ns i = body_plan w b i (λ o. on_end o (Done Failed) (λ e. positives_plan w i e ps ns))

unfoldable pub plan : List ℕ → Option Rule → ℕ → Plan
plan w none i = Done Failed
plan w (some r) i = rule_plan w (length w) r.positives r.negatives i

module _ (c : Outcomes) (w : List ℕ) where
  body_value : (b : Body) (i : ℕ) (next : Outcome → Plan) → value c (body_plan w b i next) ≡ value c (next (run c w b i))
  unfolding value body_plan run read
  body_value [] i next = refl
  body_value (Terminal a ∷ b) i next = go (ltb i (length w) && eqb (get_or w i 0) a) (body_value b (suc i) next)
    where
      go : (x : Bool) → value c (body_plan w b (suc i) next) ≡ value c (next (run c w b (suc i)))
          → value c (choose x (body_plan w b (suc i) next) (next Failed)) ≡ value c (next (onward (guard x (suc i)) (λ m. run c w b m)))
      go true h = h
      go false h = refl
  body_value (Nonterminal A ∷ b) i next = go (c A i) (λ m. body_value b m next)
    where
      go : (o : Outcome) → ((m : ℕ) → value c (body_plan w b m next) ≡ value c (next (run c w b m)))
          → value c (on_end o (next Failed) (λ m. body_plan w b m next)) ≡ value c (next (onward o (λ m. run c w b m)))
      go Failed h = refl
      go (End m) h = h m

  negatives_value : (i e : ℕ) (ns : List Body) → value c (negatives_plan w i e ns) ≡ guard (not (any_of (λ b. ends_at (run c w b i) e) ns)) e
  unfolding value negatives_plan any_of
  negatives_value i e [] = refl
  negatives_value i e (b ∷ ns) = body_value b i _ ∙ go (ends_at (run c w b i) e) (negatives_value i e ns)
    where
      go : (x : Bool) → value c (negatives_plan w i e ns) ≡ guard (not (any_of (λ b. ends_at (run c w b i) e) ns)) e
          → value c (choose x (Done Failed) (negatives_plan w i e ns)) ≡ guard (not (x || any_of (λ b. ends_at (run c w b i) e) ns)) e
      go true h = refl
      go false h = h

  positives_value : (i e : ℕ) (ps ns : List Body) → value c (positives_plan w i e ps ns) ≡ confirm (λ b. run c w b i) ps ns e
  unfolding value positives_plan all_of agrees confirm
  positives_value i e [] ns = negatives_value i e ns
  positives_value i e (b ∷ ps) ns = body_value b i _ ∙ go (ends_at (run c w b i) e) (positives_value i e ps ns)
    where
      go : (x : Bool) → value c (positives_plan w i e ps ns) ≡ confirm (λ b. run c w b i) ps ns e
          → value c (choose x (positives_plan w i e ps ns) (Done Failed))
          ≡ guard ((x && all_of (λ b. ends_at (run c w b i) e) ps) && not (any_of (λ b. ends_at (run c w b i) e) ns)) e
      go true h = h
      go false h = refl

  rule_value : (n : ℕ) (ps ns : List Body) (i : ℕ) → value c (rule_plan w n ps ns i) ≡ conclude (λ b. run c w b i) n ps ns
  unfolding value rule_plan positives_plan conclude
  rule_value n [] ns i = positives_value i n [] ns
  rule_value n (b ∷ ps) ns i = body_value b i _ ∙ go (run c w b i)
    where
      go : (o : Outcome) → value c (on_end o (Done Failed) (λ e. positives_plan w i e ps ns)) ≡ onward o (λ e. confirm (λ b. run c w b i) ps ns e)
      go Failed = refl
      go (End e) = positives_value i e ps ns

  pub plan_value : (x : Option Rule) (i : ℕ) → value c (plan w x i) ≡ obey (λ b. run c w b i) (length w) x
  unfolding value plan obey
  plan_value none i = refl
  plan_value (some r) i = rule_value (length w) r.positives r.negatives i

  body_asked : (b : Body) (i : ℕ) (next : Outcome → Plan) → asked c (body_plan w b i next) ≡ body_comes_to c w b i ++ asked c (next (run c w b i))
  unfolding asked body_plan run read body_comes_to
  body_asked [] i next = refl
  body_asked (Terminal a ∷ b) i next = go (ltb i (length w) && eqb (get_or w i 0) a) (body_asked b (suc i) next)
    where
      go : (x : Bool) → asked c (body_plan w b (suc i) next) ≡ body_comes_to c w b (suc i) ++ asked c (next (run c w b (suc i)))
          → asked c (choose x (body_plan w b (suc i) next) (next Failed))
          ≡ from_end (guard x (suc i)) (λ m. body_comes_to c w b m) ++ asked c (next (onward (guard x (suc i)) (λ m. run c w b m)))
      go true h = h
      go false h = refl
  body_asked (Nonterminal A ∷ b) i next = ap {B = List Call} (λ l. call_at A i ∷ l) (go (c A i) (λ m. body_asked b m next))
    where
      go : (o : Outcome) → ((m : ℕ) → asked c (body_plan w b m next) ≡ body_comes_to c w b m ++ asked c (next (run c w b m)))
          → asked c (on_end o (next Failed) (λ m. body_plan w b m next)) ≡ from_end o (λ m. body_comes_to c w b m)
          ++ asked c (next (onward o (λ m. run c w b m)))
      go Failed h = refl
      go (End m) h = h m

  negatives_asked : (i e : ℕ) (ns : List Body) → asked c (negatives_plan w i e ns) ≡ negatives_come_to c w i e ns
  unfolding asked negatives_plan negatives_come_to when
  negatives_asked i e [] = refl
  negatives_asked i e (b ∷ ns) = body_asked b i _ ∙ ap (body_comes_to c w b i ++◌) (go (ends_at (run c w b i) e) (negatives_asked i e ns))
    where
      go : (x : Bool) → asked c (negatives_plan w i e ns) ≡ negatives_come_to c w i e ns
          → asked c (choose x (Done Failed) (negatives_plan w i e ns)) ≡ when (not x) (negatives_come_to c w i e ns)
      go true h = refl
      go false h = h

  positives_asked : (i e : ℕ) (ps ns : List Body) → asked c (positives_plan w i e ps ns) ≡ positives_come_to c w i e ps ns
  unfolding asked positives_plan positives_come_to when
  positives_asked i e [] ns = negatives_asked i e ns
  positives_asked i e (b ∷ ps) ns = body_asked b i _ ∙ ap (body_comes_to c w b i ++◌) (go (ends_at (run c w b i) e) (positives_asked i e ps ns))
    where
      go : (x : Bool) → asked c (positives_plan w i e ps ns) ≡ positives_come_to c w i e ps ns
          → asked c (choose x (positives_plan w i e ps ns) (Done Failed)) ≡ when x (positives_come_to c w i e ps ns)
      go true h = h
      go false h = refl

  rule_asked : (n : ℕ) (ps ns : List Body) (i : ℕ) → asked c (rule_plan w n ps ns i) ≡ rule_comes_to c w n ps ns i
  unfolding asked rule_plan rule_comes_to
  rule_asked n [] ns i = negatives_asked i n ns
  rule_asked n (b ∷ ps) ns i = body_asked b i _ ∙ ap (body_comes_to c w b i ++◌) (go (run c w b i))
    where
      go : (o : Outcome) → asked c (on_end o (Done Failed) (λ e. positives_plan w i e ps ns)) ≡ from_end o (λ e. positives_come_to c w i e ps ns)
      go Failed = refl
      go (End e) = positives_asked i e ps ns

  pub plan_asked : (x : Option Rule) (i : ℕ) → asked c (plan w x i) ≡ selected_comes_to c w x i
  unfolding asked plan selected_comes_to
  plan_asked none i = refl
  plan_asked (some r) i = rule_asked (length w) r.positives r.negatives i

module _ (M : MemoCalls) (w : List ℕ) where
  body_through : (b : Body) (i : ℕ) (next : Outcome → Plan) (m : Memo)
      → through M (body_plan w b i next) m ≡ through M (next (memo_run M w b i m).outcome) (memo_run M w b i m).memo
  unfolding through body_plan memo_run and_then
  body_through [] i next m = refl
  body_through (Terminal a ∷ b) i next m = go (ltb i (length w) && eqb (get_or w i 0) a) (body_through b (suc i) next m)
    where
      go : (x : Bool) → through M (body_plan w b (suc i) next) m ≡ through M (next (memo_run M w b (suc i) m).outcome) (memo_run M w b (suc i) m).memo
          → through M (choose x (body_plan w b (suc i) next) (next Failed)) m
          ≡ through M (next (choose x (memo_run M w b (suc i) m) (memoized Failed m)).outcome) (choose x (memo_run M w b (suc i) m) (memoized Failed m)).memo
      go true h = h
      go false h = refl
  body_through (Nonterminal A ∷ b) i next m = go (M A i m).outcome (M A i m).memo (λ j m'. body_through b j next m')
    where
      go : (o : Outcome) (m : Memo)
          → ((j : ℕ) (m : Memo) → through M (body_plan w b j next) m ≡ through M (next (memo_run M w b j m).outcome) (memo_run M w b j m).memo)
          → through M (on_end o (next Failed) (λ m. body_plan w b m next)) m
          ≡ through M (next (and_then o m (λ j m'. memo_run M w b j m')).outcome) (and_then o m (λ j m'. memo_run M w b j m')).memo
      go Failed m h = refl
      go (End j) m h = h j m

  negatives_through : (i e : ℕ) (ns : List Body) (m : Memo) → through M (negatives_plan w i e ns) m ≡ memo_negatives M w i e ns m
  unfolding through negatives_plan memo_negatives
  negatives_through i e [] m = refl
  negatives_through i e (b ∷ ns) m = body_through b i _ m ∙ go (ends_at (memo_run M w b i m).outcome e) (memo_run M w b i m).memo (negatives_through i e ns)
    where
      go : (x : Bool) (m : Memo) → ((m : Memo) → through M (negatives_plan w i e ns) m ≡ memo_negatives M w i e ns m)
          → through M (choose x (Done Failed) (negatives_plan w i e ns)) m ≡ choose x (memoized Failed m) (memo_negatives M w i e ns m)
      go true m h = refl
      go false m h = h m

  positives_through : (i e : ℕ) (ps ns : List Body) (m : Memo) → through M (positives_plan w i e ps ns) m ≡ memo_positives M w i e ps ns m
  unfolding through positives_plan memo_positives
  positives_through i e [] ns m = negatives_through i e ns m
  positives_through i e (b ∷ ps) ns m =
      body_through b i _ m ∙ go (ends_at (memo_run M w b i m).outcome e) (memo_run M w b i m).memo (positives_through i e ps ns)
    where
      go : (x : Bool) (m : Memo) → ((m : Memo) → through M (positives_plan w i e ps ns) m ≡ memo_positives M w i e ps ns m)
          → through M (choose x (positives_plan w i e ps ns) (Done Failed)) m ≡ choose x (memo_positives M w i e ps ns m) (memoized Failed m)
      go true m h = h m
      go false m h = refl

  rule_through : (n : ℕ) (ps ns : List Body) (i : ℕ) (m : Memo) → through M (rule_plan w n ps ns i) m ≡ memo_rule M w n ps ns i m
  unfolding through rule_plan memo_rule and_then
  rule_through n [] ns i m = negatives_through i n ns m
  rule_through n (b ∷ ps) ns i m = body_through b i _ m ∙ go (memo_run M w b i m).outcome (memo_run M w b i m).memo
    where
      go : (o : Outcome) (m : Memo)
          → through M (on_end o (Done Failed) (λ e. positives_plan w i e ps ns)) m ≡ and_then o m (λ e m'. memo_positives M w i e ps ns m')
      go Failed m = refl
      go (End e) m = positives_through i e ps ns m

  pub plan_through : (x : Option Rule) (i : ℕ) (m : Memo) → through M (plan w x i) m ≡ memo_obey M w x i m
  unfolding through plan memo_obey
  plan_through none i m = refl
  plan_through (some r) i m = rule_through (length w) r.positives r.negatives i m
