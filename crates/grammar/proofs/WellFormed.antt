-- The words from any index on of a row that is read: what is in range, and which shape it has where it stands.
use Rattle.std.specs.Prelude.{Err, Ok, Result}
use mathlib.Core.Path.{◌≡◌, refl, sym, ap, ◌∙◌}
use mathlib.Core.Bool.{Bool, true, false, false≢true}
use mathlib.Core.List.Memᴰ
use mathlib.Core.List.{List, [], ◌∷◌, ◌++◌, Memᴰ}
use mathlib.Core.Logic.{inl, inr}
use Prim.Native.Nat.{ℕ, suc, ◌+◌, ◌≤◌, ◌<◌}
use native.Mathlib.Omega.{arith}
use lib.ListN.{length}
use borrow.Author.Tests.{ltb-true}
use Rattle.answer.specs.declared.Error.{Error}
use Rattle.answer.specs.declared.Error.TheVariants.{UnexpectedWord, OutOfRange, TooManyRules}
use Rattle.word.specs.declared.Symbol.TheVariants.{Terminal, Nonterminal}
use Rattle.word.specs.declared.Symbol as symbol
use Rattle.word.specs.declared.Word.{Word}
use Rattle.word.specs.declared.Word.TheVariants.{Heading, Rule as RuleWord, Positive, Negative, Symbol, End, Invalid}
use Rattle.base.specs.Choice.{choose}
use Rattle.word.specs.Words.{decoded}
use Rattle.grammar.specs.declared.reading.State.{State}
use Rattle.grammar.specs.declared.reading.State.TheVariants.{Before, Opened, InPositive, InNegative, Closed}
use Rattle.grammar.specs.declared.reading.Sizes.{Sizes}
use Rattle.grammar.specs.declared.reading.Progress.{Progress}
use Rattle.grammar.specs.Limits.{max_rules}
use Rattle.grammar.specs.Syntax.{Body, Rule, bodies, NonterminalsBelow, TerminalsBelow}
use Rattle.grammar.specs.Encoding.{Parsed, parsed, rule_of, on_word, parse}
use Rattle.grammar.specs.Reading.{row, allows, in_range, symbol_in_range, begins_rule, state_after, stepped, on_step, finished, scan}
use Rattle.grammar.proofs.Scanning.{Stepped, stepping}

abbrev pub one : Bool → ℕ
one true = 1
one false = 0

-- what holds of every member
abbrev pub Each : {A : Type 0} → (A → Type 0) → List A → Type 0
Each {A} P l = (x : A) → Memᴰ x l → P x

-- every symbol of a body is in range
abbrev pub InRange : Sizes → Body → Type 0
InRange z b = NonterminalsBelow z.nonterminals b × TerminalsBelow z.terminals b

pub record RuleFits (z : Sizes) (r : Rule) : Type 0 where
  pub head : r.head < z.nonterminals
  pub in_range : Each (InRange z) (bodies r)
  pub conjunct : bodies r ≡ [] → ⊥

pub record Empty (p : Parsed) : Type 0 where
  pub body : p.body ≡ []
  pub positives : p.positives ≡ []
  pub negatives : p.negatives ≡ []

-- what the words behind an index are, by what stands before it
abbrev pub Shape : State → Parsed → Type 0
Shape Before p = Empty p
Shape Opened p = (p.body ≡ []) × (p.positives ++ p.negatives ≡ [] → ⊥)
Shape InPositive p = Unit {0}
Shape InNegative p = p.positives ≡ []
Shape Closed p = Empty p

pub record RestFits (s : State) (z : Sizes) (p : Parsed) : Type 0 where
  pub body : InRange z p.body
  pub positives : Each (InRange z) p.positives
  pub negatives : Each (InRange z) p.negatives
  pub rules : Each (RuleFits z) p.rules
  pub shape : Shape s p

-- of no list, and of one more
pub none_in : {A : Type 0} (P : A → Type 0) → Each P []
none_in P x m = absurd (Memᴰ.not-nil m)

pub more_in : {A : Type 0} (P : A → Type 0) (y : A) (l : List A) → P y → Each P l → Each P (y ∷ l)
more_in P y l h f x m = elim (Memᴰ.cases_cons m) [ inl e ↦ rw e h | inr n ↦ f x n ]

empty : Empty (parsed [] [] [] [])
empty = record { body = refl; positives = refl; negatives = refl }

fits_nothing : (z : Sizes) → RestFits Closed z (parse [])
unfolding parse
fits_nothing z = record { body = (tt, tt); positives = none_in _; negatives = none_in _; rules = none_in _; shape = empty }

symbol_fits : (X : symbol.Symbol) (z : Sizes) (b : Body) → symbol_in_range X z ≡ true → InRange z b → InRange z (X ∷ b)
symbol_fits (Terminal a) z b e h = (h.0, (ltb-true a z.terminals e, h.1))
symbol_fits (Nonterminal A) z b e h = ((ltb-true A z.nonterminals e, h.0), h.1)

-- the shape before a word, where the word may stand
shape_between : (s : State) (rs : List Rule) → row true false true true false s ≡ true → Shape s (parsed [] [] [] rs)
shape_between Before rs e = record { body = refl; positives = refl; negatives = refl }
shape_between Opened rs e = absurd (false≢true e)
shape_between InPositive rs e = tt
shape_between InNegative rs e = refl
shape_between Closed rs e = absurd (false≢true e)

cons_some : {A : Type 0} (x : A) (l : List A) → x ∷ l ≡ [] → ⊥
cons_some x l e = let n = ap length e in omega arith

shape_positive : (s : State) (b : Body) (ps ns : List Body) (rs : List Rule) → row false true true false false s ≡ true
    → Shape s (parsed [] (b ∷ ps) ns rs)
shape_positive Before b ps ns rs e = absurd (false≢true e)
shape_positive Opened b ps ns rs e = (refl, cons_some b (ps ++ ns))
shape_positive InPositive b ps ns rs e = tt
shape_positive InNegative b ps ns rs e = absurd (false≢true e)
shape_positive Closed b ps ns rs e = absurd (false≢true e)

shape_negative : (s : State) (ps : List Body) (b : Body) (ns : List Body) (rs : List Rule) → row false true true true false s ≡ true → ps ≡ []
    → Shape s (parsed [] ps (b ∷ ns) rs)
shape_negative Before ps b ns rs e h = absurd (false≢true e)
shape_negative Opened ps b ns rs e h = (refl, rw h (cons_some b ns))
shape_negative InPositive ps b ns rs e h = tt
shape_negative InNegative ps b ns rs e h = h
shape_negative Closed ps b ns rs e h = absurd (false≢true e)

-- in a conjunct only the positives behind it matter
shape_within : (s : State) (p q : Parsed) → row false false true true false s ≡ true → p.positives ≡ q.positives
    → (s ≡ InNegative → q.positives ≡ [])
    → Shape s p
shape_within Before p q e same h = absurd (false≢true e)
shape_within Opened p q e same h = absurd (false≢true e)
shape_within InPositive p q e same h = tt
shape_within InNegative p q e same h = same ∙ h refl
shape_within Closed p q e same h = absurd (false≢true e)

-- what fits behind a word fits before it, where the word may stand and its number is in range
fits_word : (w : Word) (s : State) (z : Sizes) (p : Parsed) → allows w s ≡ true → in_range w z ≡ true → RestFits (state_after w s) z p
    → RestFits s z (on_word w p)
unfolding on_word
fits_word (RuleWord A) s z p a i h = record {
  body = (tt, tt);
  positives = none_in _;
  negatives = none_in _;
  rules = more_in (RuleFits z) (rule_of A p) p.rules (record { head = ltb-true A z.nonterminals i; in_range = both; conjunct = h.shape.1 }) h.rules;
  shape = shape_between s _ a;
}
  where
    both : Each (InRange z) (p.positives ++ p.negatives)
    both b m = elim (Memᴰ.append_cases p.positives m) [ inl n ↦ h.positives b n | inr n ↦ h.negatives b n ]
fits_word Positive s z p a i h = record {
  body = (tt, tt);
  positives = more_in (InRange z) p.body p.positives h.body h.positives;
  negatives = h.negatives;
  rules = h.rules;
  shape = shape_positive s _ _ _ _ a;
}
fits_word Negative s z p a i h = record {
  body = (tt, tt);
  positives = h.positives;
  negatives = more_in (InRange z) p.body p.negatives h.body h.negatives;
  rules = h.rules;
  shape = shape_negative s p.positives _ _ _ a h.shape;
}
fits_word (Symbol X) s z p a i h = record {
  body = symbol_fits X z p.body i h.body;
  positives = h.positives;
  negatives = h.negatives;
  rules = h.rules;
  shape = shape_within s _ p a refl (λ e. rw e at h.shape);
}
fits_word End s z p a i h = record {
  body = (tt, tt);
  positives = none_in _;
  negatives = none_in _;
  rules = h.rules;
  shape = shape_between s _ a;
}
fits_word (Heading n t) s z p a i h = absurd (false≢true a)
fits_word Invalid s z p a i h = absurd (false≢true a)

-- what a word that stops no reading has passed
pub record Passed (w : Word) (p q : Progress) : Type 0 where
  pub allowed : allows w p.state ≡ true
  pub ranged : in_range w p.sizes ≡ true
  pub state : q.state ≡ state_after w p.state
  pub nonterminals : q.sizes.nonterminals ≡ p.sizes.nonterminals
  pub terminals : q.sizes.terminals ≡ p.sizes.terminals
  pub rules : q.sizes.rules ≡ p.sizes.rules + one (begins_rule w)
  pub room : p.sizes.rules ≤ max_rules → q.sizes.rules ≤ max_rules

pub ok_same : {T : Type 0} (x y : T) → ◌≡◌ {A = Result T Error} (Ok x) (Ok y) → y ≡ x
ok_same x y e = cc

pub faulty : {T : Type 0} (x : Error) (y : T) → Err x ≡ Ok y → ⊥
faulty x y e = let n : ◌≡◌ {A = ℕ} 0 1 = cc in omega arith

pub step_passed : (w : Word) (p q : Progress) (at : ℕ) → stepped w p at ≡ Ok q → Passed w p q
step_passed w p q at e = go (stepped w p at) (stepping w p at) e
  where
    go : (t : Result Progress Error) → Stepped w p at t → t ≡ Ok q → Passed w p q
    go _ (Stepped.unexpected a) g = absurd (faulty (UnexpectedWord at) q g)
    go _ (Stepped.out_of_range a i) g = absurd (faulty (OutOfRange at) q g)
    go _ (Stepped.too_many a i b l) g = absurd (faulty (TooManyRules at) q g)
    go _ (Stepped.rule a i b l) g =
        rw (ok_same _ q g) (record {
          allowed = a;
          ranged = i;
          state = refl;
          nonterminals = refl;
          terminals = refl;
          rules = rw b;
          room = λ _. omega arith;
        })
    go _ (Stepped.other a i b) g =
        rw (ok_same _ q g) (record {
          allowed = a;
          ranged = i;
          state = refl;
          nonterminals = refl;
          terminals = refl;
          rules = rw b (omega arith);
          room = λ h. h;
        })

-- a reading that goes on behind a word
pub onward : (r : Result Progress Error) (f : Progress → Result Sizes Error) (z : Sizes) → on_step r f ≡ Ok z → (q : Progress) × (r ≡ Ok q) × (f q ≡ Ok z)
unfolding on_step
onward (Ok q) f z e = (q, refl, e)
onward (Err x) f z e = let n : ◌≡◌ {A = ℕ} 0 1 = cc in absurd (omega arith)

-- what a reading from an index to its end tells of the words
pub record Reads (p : Progress) (z : Sizes) (ps : Parsed) : Type 0 where
  pub nonterminals : z.nonterminals ≡ p.sizes.nonterminals
  pub terminals : z.terminals ≡ p.sizes.terminals
  pub rules : z.rules ≡ p.sizes.rules + length ps.rules
  pub room : p.sizes.rules ≤ max_rules → z.rules ≤ max_rules
  pub fits : RestFits p.state z ps

rules_more : (w : Word) (p : Parsed) → length (on_word w p).rules ≡ one (begins_rule w) + length p.rules
unfolding on_word
rules_more (RuleWord A) p = omega arith
rules_more Positive p = omega arith
rules_more Negative p = omega arith
rules_more (Symbol X) p = omega arith
rules_more End p = omega arith
rules_more (Heading n t) p = omega arith
rules_more Invalid p = omega arith

pub in_range_same : (w : Word) (y z : Sizes) → z.nonterminals ≡ y.nonterminals → z.terminals ≡ y.terminals → in_range w y ≡ in_range w z
in_range_same (RuleWord A) y z n t = rw n
in_range_same Positive y z n t = refl
in_range_same Negative y z n t = refl
in_range_same (Symbol (Terminal a)) y z n t = rw t
in_range_same (Symbol (Nonterminal A)) y z n t = rw n
in_range_same End y z n t = refl
in_range_same (Heading m u) y z n t = refl
in_range_same Invalid y z n t = refl

-- behind the last word: the end was there
pub finished_read : (p : Progress) (at : ℕ) (z : Sizes) → finished p at ≡ Ok z → (p.state ≡ Closed) × (z ≡ p.sizes)
unfolding finished
finished_read p at z e = go p.state e
  where
    go : (s : State) → choose (row false false false false true s) (Ok p.sizes) (Err (UnexpectedWord at)) ≡ Ok z
        → (s ≡ Closed) × (z ≡ p.sizes)
    go Before e = absurd (faulty (UnexpectedWord at) z e)
    go Opened e = absurd (faulty (UnexpectedWord at) z e)
    go InPositive e = absurd (faulty (UnexpectedWord at) z e)
    go InNegative e = absurd (faulty (UnexpectedWord at) z e)
    go Closed e = (refl, ok_same p.sizes z e)

ended : (p : Progress) (at : ℕ) (z : Sizes) → finished p at ≡ Ok z → Reads p z (parse [])
unfolding parse
ended p at z e =
    let f = finished_read p at z e in
    rw f.1 (record {
      nonterminals = refl;
      terminals = refl;
      rules = omega arith;
      room = λ l. l;
      fits = rw f.0 (fits_nothing p.sizes);
    })

-- from any index on
pub reads : (p : Progress) (at : ℕ) (ws : List ℕ) (z : Sizes) → scan p at ws ≡ Ok z → Reads p z (parse ws)
unfolding scan parse
reads p at [] z e = ended p at z e
reads p at (w ∷ ws) z e =
    let g = onward (stepped (decoded w) p at) (λ q. scan q (suc at) ws) z e in
    turn g.0 (step_passed (decoded w) p g.0 at g.1) (reads g.0 (suc at) ws z g.2)
  where
    turn : (q : Progress) → Passed (decoded w) p q → Reads q z (parse ws) → Reads p z (on_word (decoded w) (parse ws))
    turn q k h = record {
      nonterminals = h.nonterminals ∙ k.nonterminals;
      terminals = h.terminals ∙ k.terminals;
      rules = omega (arith, h.rules, k.rules, rules_more (decoded w) (parse ws));
      room = λ l. h.room (k.room l);
      fits =
          fits_word (decoded w) p.state z (parse ws) k.allowed
          (sym (in_range_same (decoded w) p.sizes z (h.nonterminals ∙ k.nonterminals) (h.terminals ∙ k.terminals)) ∙ k.ranged)
          (rw k.state at h.fits);
    }
