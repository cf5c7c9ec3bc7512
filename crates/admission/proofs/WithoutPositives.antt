-- The search for a rule without positives: one turn, and what it finds in a row of words that is read.
use Rattle.std.specs.Prelude.{None, Ok, Option, Some}
use mathlib.Core.Path.{◌≡◌, refl, sym, ap, ◌∙◌}
use mathlib.Core.Bool.{Bool, true, false, ◌&&◌, false≢true}
use mathlib.Core.List.Memᴰ
use mathlib.Core.List.{List, [], ◌∷◌}
use Prim.Native.Nat.{ℕ, suc, ◌+◌, ◌≤◌, ◌<◌}
use native.Mathlib.Numerals.{add-one}
use native.Mathlib.Omega.{arith}
use lib.ListN.{length, get_or, drop, drop_of_length-le}
use lib.Seq.{drop-cons}
use Rattle.word.specs.declared.Word.{Word}
use Rattle.word.specs.declared.Word.TheVariants.{Heading, Rule as RuleWord, Positive, Negative, Symbol, End, Invalid}
use Rattle.word.specs.Words.{decoded}
use Rattle.grammar.specs.declared.reading.State.{State}
use Rattle.grammar.specs.declared.reading.State.TheVariants.{Before, Opened, InPositive, InNegative, Closed}
use Rattle.grammar.specs.Syntax.{Body, Rule}
use Rattle.grammar.specs.Encoding.{Parsed, parsed, rule_of, on_word, parse}
use Rattle.grammar.specs.Reading.{row, allows, begins_rule, state_after, stepped, scan}
use Rattle.grammar.specs.declared.reading.Sizes.{Sizes}
use Rattle.grammar.specs.declared.reading.Progress.{Progress}
use Rattle.grammar.proofs.WellFormed.{Each, none_in, more_in, Shape, step_passed, onward, finished_read, reads}
use Rattle.base.specs.Choice.{choose}
use Rattle.admission.specs.Admission.{begins_negative, alone_from}

module _ (words : List ℕ) (opened : Bool) (at : ℕ) {w : Word} (h : at < length words) (e : w ≡ decoded (get_or words at 0)) where
  pub alone_here : (opened && begins_negative w) ≡ true → alone_from opened at (drop at words) ≡ Some at
  unfolding alone_from
  alone_here t = rw (drop-cons words at 0 h, ← e, t)

  pub alone_next : (opened && begins_negative w) ≡ false → {next : Bool} → next ≡ begins_rule w
      → alone_from opened at (drop at words) ≡ alone_from next (at + 1) (drop (at + 1) words)
  unfolding alone_from
  alone_next t n = rw (drop-cons words at 0 h, ← e, t, n, add-one at)

pub alone_none : (words : List ℕ) (opened : Bool) (at : ℕ) → length words ≤ at → alone_from opened at (drop at words) ≡ None
unfolding alone_from
alone_none words opened at h = rw (drop_of_length-le words h)

-- what is found is one of the words
pub alone_among : (opened : Bool) (at : ℕ) (ws : List ℕ) (i : ℕ) → alone_from opened at ws ≡ Some i → i < at + length ws
unfolding alone_from
alone_among opened at [] i e = let n : ◌≡◌ {A = ℕ} 0 1 = cc in absurd (omega arith)
alone_among opened at (w ∷ ws) i e = go (opened && begins_negative (decoded w)) (alone_among (begins_rule (decoded w)) (suc at) ws i) e
  where
    go : (b : Bool) → (alone_from (begins_rule (decoded w)) (suc at) ws ≡ Some i → i < suc at + length ws)
        → choose b (Some at) (alone_from (begins_rule (decoded w)) (suc at) ws) ≡ Some i → i < at + length (w ∷ ws)
    go true later q = let n : i ≡ at = cc in omega (arith, n)
    go false later q = omega (arith, later q)

-- a rule has a positive
abbrev pub Positives : Rule → Type 0
Positives r = r.positives ≡ [] → ⊥

abbrev is_opened : State → Bool
is_opened s = row false true false false false s

-- so has the rule that is open
abbrev Open : State → Parsed → Type 0
Open Before p = Unit {0}
Open Opened p = p.positives ≡ [] → ⊥
Open InPositive p = Unit {0}
Open InNegative p = Unit {0}
Open Closed p = Unit {0}

cons_some : {A : Type 0} (x : A) (l : List A) → x ∷ l ≡ [] → ⊥
cons_some x l e = let n = ap length e in omega arith

opened_after : (w : Word) (s : State) → allows w s ≡ true → is_opened (state_after w s) ≡ begins_rule w
opened_after (RuleWord A) s a = refl
opened_after Positive s a = refl
opened_after Negative s a = refl
opened_after (Symbol X) Before a = absurd (false≢true a)
opened_after (Symbol X) Opened a = absurd (false≢true a)
opened_after (Symbol X) InPositive a = refl
opened_after (Symbol X) InNegative a = refl
opened_after (Symbol X) Closed a = absurd (false≢true a)
opened_after End s a = refl
opened_after (Heading n t) s a = absurd (false≢true a)
opened_after Invalid s a = absurd (false≢true a)

-- no rule is open where a rule may begin, or the end may stand, or a symbol
open_none : (s : State) (p : Parsed) → is_opened s ≡ false → Open s p
open_none Before p e = tt
open_none Opened p e = absurd (false≢true (sym e))
open_none InPositive p e = tt
open_none InNegative p e = tt
open_none Closed p e = tt

closed_row : (s : State) → row true false true true false s ≡ true → is_opened s ≡ false
closed_row Before e = refl
closed_row Opened e = absurd (false≢true e)
closed_row InPositive e = refl
closed_row InNegative e = refl
closed_row Closed e = refl

inside_row : (s : State) → row false false true true false s ≡ true → is_opened s ≡ false
inside_row Before e = refl
inside_row Opened e = absurd (false≢true e)
inside_row InPositive e = refl
inside_row InNegative e = refl
inside_row Closed e = refl

open_positive : (s : State) (b : Body) (ps ns : List Body) (rs : List Rule) → Open s (parsed [] (b ∷ ps) ns rs)
open_positive Before b ps ns rs = tt
open_positive Opened b ps ns rs = cons_some b ps
open_positive InPositive b ps ns rs = tt
open_positive InNegative b ps ns rs = tt
open_positive Closed b ps ns rs = tt

-- what a word adds, where it begins no negative behind the begin of a rule
with_word : (w : Word) (s : State) (p : Parsed) → allows w s ≡ true → (is_opened s && begins_negative w) ≡ false → Each Positives p.rules
    → Open (state_after w s) p → Each Positives (on_word w p).rules × Open s (on_word w p)
unfolding on_word
with_word (RuleWord A) s p a n r o = (more_in Positives (rule_of A p) p.rules o r, open_none s _ (closed_row s a))
with_word Positive s p a n r o = (r, open_positive s p.body p.positives p.negatives p.rules)
with_word Negative s p a n r o = (r, open_none s _ (go (is_opened s) n))
  where
    go : (b : Bool) → (b && true) ≡ false → b ≡ false
    go true e = e
    go false e = refl
with_word (Symbol X) s p a n r o = (r, open_none s _ (inside_row s a))
with_word End s p a n r o = (r, open_none s _ (closed_row s a))
with_word (Heading m t) s p a n r o = absurd (false≢true a)
with_word Invalid s p a n r o = absurd (false≢true a)

-- and what follows it where it adds no such rule
record Behind (w : Word) (s : State) (p : Parsed) : Type 0 where
  quiet : (is_opened s && begins_negative w) ≡ false
  each : Each Positives p.rules
  rest : Open (state_after w s) p

and_false : (b : Bool) → (b && false) ≡ false
and_false true = refl
and_false false = refl

behind_word : (w : Word) (s : State) (p : Parsed) → allows w s ≡ true → Shape (state_after w s) p → Each Positives (on_word w p).rules
    → Open s (on_word w p) → Behind w s p
unfolding on_word
behind_word (RuleWord A) s p a h r o =
    record { quiet = and_false (is_opened s); each = λ x m. r x (Memᴰ.tail m); rest = r (rule_of A p) (Memᴰ.head refl) }
behind_word Positive s p a h r o = record { quiet = and_false (is_opened s); each = r; rest = tt }
behind_word Negative s p a h r o = record { quiet = go s o; each = r; rest = tt }
  where
    go : (s : State) → Open s (on_word Negative p) → (is_opened s && true) ≡ false
    go Before o = refl
    go Opened o = absurd (o h)
    go InPositive o = refl
    go InNegative o = refl
    go Closed o = refl
behind_word (Symbol X) s p a h r o = record { quiet = and_false (is_opened s); each = r; rest = open_none s p (inside_row s a) }
behind_word End s p a h r o = record { quiet = and_false (is_opened s); each = r; rest = tt }
behind_word (Heading m t) s p a h r o = absurd (false≢true a)
behind_word Invalid s p a h r o = absurd (false≢true a)

some_absent : (b : Bool) (i : ℕ) (a : Option ℕ) → choose b (Some i) a ≡ None → (b ≡ false) × (a ≡ None)
some_absent true i a e = let n : ◌≡◌ {A = ℕ} 0 1 = cc in absurd (omega arith)
some_absent false i a e = (refl, e)

open_ended : (s : State) (p : Parsed) → s ≡ Closed → Open s p
open_ended s p e = rw e tt

-- where none is found in words that are read, each rule has a positive
pub none_found : (p : Progress) (at : ℕ) (ws : List ℕ) (z : Sizes) → scan p at ws ≡ Ok z → alone_from (is_opened p.state) at ws ≡ None
    → Each Positives (parse ws).rules × Open p.state (parse ws)
unfolding scan parse alone_from
none_found p at [] z e n = (none_in Positives, open_ended p.state (parse []) (finished_read p at z e).0)
none_found p at (w ∷ ws) z e n =
    let g = onward (stepped (decoded w) p at) (λ q. scan q (suc at) ws) z e in
    let k = step_passed (decoded w) p g.0 at g.1 in
    let f = some_absent (is_opened p.state && begins_negative (decoded w)) at _ n in
    let same : is_opened g.0.state ≡ begins_rule (decoded w) = ap is_opened k.state ∙ opened_after (decoded w) p.state k.allowed in
    let i = none_found g.0 (suc at) ws z g.2 (rw same f.1) in
    with_word (decoded w) p.state (parse ws) k.allowed f.0 i.0 (rw k.state at i.1)

-- and where each has one, none is found
pub found_none : (p : Progress) (at : ℕ) (ws : List ℕ) (z : Sizes) → scan p at ws ≡ Ok z → Each Positives (parse ws).rules → Open p.state (parse ws)
    → alone_from (is_opened p.state) at ws ≡ None
unfolding scan parse alone_from
found_none p at [] z e r o = refl
found_none p at (w ∷ ws) z e r o =
    let g = onward (stepped (decoded w) p at) (λ q. scan q (suc at) ws) z e in
    let k = step_passed (decoded w) p g.0 at g.1 in
    let shape = rw k.state at (reads g.0 (suc at) ws z g.2).fits.shape in
    let b = behind_word (decoded w) p.state (parse ws) k.allowed shape r o in
    let same : is_opened g.0.state ≡ begins_rule (decoded w) = ap is_opened k.state ∙ opened_after (decoded w) p.state k.allowed in
    let i = found_none g.0 (suc at) ws z g.2 b.each (rw k.state b.rest) in
    rw (b.quiet, ← same) i
