-- Writing a vertex and what is below it: from what is given to each step of the loop, and to what is written.
use mathlib.Core.Path.{◌≡◌, refl, sym, ap, subst, ◌∙◌}
use mathlib.Core.Bool.{Bool, true, false, false≢true}
use mathlib.Core.List.{List, [], ◌∷◌, ◌++◌, flat_map, Memᴰ}
use mathlib.Core.Logic.{⊎_elim}
use denote.Enum.Declared.{tag_of}
use types.Run.{OneOf}
use Rattle.word.specs.contracts.Word.{the_type}
use Rattle.word.specs.contracts.Symbol.{the_type as symbol_type}
use mathlib.Core.Option.{none, some}
use Prim.Native.Nat.{ℕ, zero, suc, ◌+◌, ◌*◌, ◌/◌, ◌%◌, ◌≤◌, ◌<◌}
use native.Mathlib.Omega.{arith}
use native.Mathlib.Numerals.{add-one}
use lib.Dec.{ltb, eqb→eq}
use lib.Seq.{drop-cons}
use lib.ListN.{length, get_or, drop, set}
use Rattle.word.specs.Words.{decoded}
use Rattle.word.specs.declared.Symbol as symbol
use Rattle.word.specs.declared.Symbol.TheVariants.{Terminal, Nonterminal}
use Rattle.word.specs.declared.Word.{Word}
use Rattle.word.specs.declared.Word.TheVariants as word
use Rattle.grammar.specs.Limits.{max_nonterminals, max_rules, max_places, max_memo_entries}
use Rattle.grammar.specs.Syntax.{Body, Rule, Grammar}
use Rattle.grammar.specs.Encoding.{Parsed, on_word, parse, grammar_of}
use Rattle.grammar.specs.Reading.{allows, scan, reading}
use Rattle.grammar.specs.declared.reading.State.TheVariants as state
use Rattle.grammar.specs.declared.reading.Progress.{Progress}
use Rattle.grammar.specs.inner.Starts.{rule_starts}
use Rattle.grammar.specs.inner.WellRead.{rule_read, Begun, WellRead}
use Rattle.grammar.proofs.WellRead.{well_read}
use Rattle.grammar.proofs.Suffixes.{Next, scan_next}
use Rattle.grammar.proofs.WellFormed.{RestFits, reads}
use Rattle.base.specs.Choice.{choose}
use Rattle.base.specs.FiniteSets.{member}
use Rattle.semantics.specs.Valuations.{Valuation, Solves, solution}
use Rattle.semantics.specs.Descent.{Outcomes, descend, accepts}
use Rattle.semantics.specs.ComesTo.{Call, call_at, InRange, body_comes_to}
use Rattle.semantics.specs.inner.ComesTo.{measure}
use Rattle.semantics.specs.Calls.{same_call}
use Rattle.semantics.proofs.Theorems.{theorems}
use Rattle.families.proofs.Words.{parse_over}
use Rattle.recursive_descent_promises.proofs.Bodies.{parse_here, symbol_reads}
use Rattle.recursive_descent_promises.proofs.Starting.{begin_next}
use Rattle.tree.specs.Writing.{rule_number_of, vertex_at, below, each, visit, InTree, more, start as root_in}
use Rattle.tree.specs.Theorems.{Told}
use Rattle.tree.proofs.Words.{told}
use Rattle.semantics.proofs.descent.Outcomes.{nth_below}
use Rattle.tree.proofs.Reading.{Found, Reads, Chosen, chosen}
use Rattle.tree.proofs.Below.{comes_token, comes_name, below_chosen, below_make, below_falls}
use Rattle.tree.proofs.Trees.{tree_sound}
use Rattle.tree_writer_promises.specs.inner.Labels.{label_rule, label_start, label_end, kind, marked_word}
use Rattle.tree_writer_promises.specs.inner.Writer.{choice_of, vertex_word_at, Holds, VertexGiven, VertexDone, falling}
use Rattle.tree_writer_promises.proofs.Marking.{holds_length, marked, unseen, label_fresh, room, holds_more}

abbrev pub level : List ℕ → List ℕ → ℕ → ℕ → ℕ
level words input A place = measure (grammar_of words) input (call_at A place)

-- the calls at most n deep below the tree's calls, on the words' grammar
abbrev pub visits : List ℕ → List ℕ → ℕ → Call → List Call → List Call
visits words input n = visit (below (grammar_of words) (choice_of words input) input) n

abbrev pub outcomes_of : List ℕ → List ℕ → Outcomes
outcomes_of words input = descend (grammar_of words) (choice_of words input) input

-- the calls left from an index on: those of the body's rest from a place on, and those of the conjuncts behind it
unfoldable pub left : List ℕ → List ℕ → ℕ → ℕ → ℕ → List Call
left words input start at place =
    body_comes_to (outcomes_of words input) input (parse (drop at words)).body place
    ++ flat_map (λ b. body_comes_to (outcomes_of words input) input b start) (parse (drop at words)).positives

-- marking leaves the place and the end of a word
kept_start : (b : Bool) (w : ℕ) → label_start (choose b (marked_word w) w) ≡ label_start w
kept_start true w = omega arith
kept_start false w = refl

kept_end : (b : Bool) (w : ℕ) → label_end (choose b (marked_word w) w) ≡ label_end w
kept_end true w = omega arith
kept_end false w = refl

module _ {input words starts labels₀ tree₀ : List ℕ} {A start entry written : ℕ}
    (g : VertexGiven input words starts labels₀ tree₀ A start entry written) where
  abbrev G : Grammar
  G = grammar_of words

  abbrev x : Call
  x = call_at A start

  r : WellRead words g.accepted.sizes
  r = well_read words g.accepted.sizes g.accepted.read

  abbrev meaning : Valuation
  meaning = solution G input

  solves : Solves G input meaning
  solves = (theorems.one_solution G g.accepted.predictive.scoped g.accepted.predictive.unrecursive input).solves

  -- every call of the tree ends, and its entry holds the end
  abbrev Known : Call → Type 0
  Known y = (m : ℕ) × Found G 1 input y.nonterminal y.place m

  pub ends : (y : Call) → InTree G (choice_of words input) input y → Known y
  ends y h = (tree_sound G 1 input g.accepted.predictive g.accepted.tokens meaning solves g.accepted.accepted y h).2

  pub end : ℕ
  end = (ends x g.in_tree).0

  pub found : Found G 1 input A start end
  unfolding end
  found = (ends x g.in_tree).1

  choice : Chosen G 1 input g.accepted.predictive g.accepted.tokens meaning solves A start end
  choice = chosen G 1 input g.accepted.predictive g.accepted.tokens meaning solves A start end found

  -- the word of a call of the tree tells its rule, its place and its end
  vertex_of : (B i m : ℕ) → Found G 1 input B i m → (vertex_at G (choice_of words input) input (call_at B i)).end ≡ m
  unfolding vertex_at
  vertex_of B i m f = rw f.ends refl

  label_told : (B i m : ℕ) → Found G 1 input B i m → Told (vertex_at G (choice_of words input) input (call_at B i))
  unfolding vertex_at
  label_told B i m f =
      let c = chosen G 1 input g.accepted.predictive g.accepted.tokens meaning solves B i m f in
      let q : rule_number_of (choice_of words input B i) ≡ c.number = ap rule_number_of c.looked in
      told _ (omega (arith, q, nth_below G.rules c.number c.rule c.numbered, r.rules, r.few_rules))
      (omega (arith, f.onward, f.within, g.accepted.short))
      (omega (arith, vertex_of B i m f, f.within, g.accepted.short))

  label_end_lem : {lent labels tree : List ℕ} {l : List Call} {count : ℕ} → Holds words input lent l labels tree count
      → (B i m : ℕ) → Found G 1 input B i m → InTree G (choice_of words input) input (call_at B i) → label_end (get_or labels (B * max_places + i) 0) ≡ m
  unfolding vertex_word_at
  label_end_lem {l = l} h B i m f t =
      ap label_end (h.labelled (call_at B i) t) ∙ kept_end (member same_call l (call_at B i)) _ ∙ (label_told B i m f).end ∙ vertex_of B i m f

  pub begins : label_start (get_or labels₀ entry 0) ≡ start
  unfolding vertex_word_at vertex_at
  begins =
      ap (λ k. label_start (get_or labels₀ k 0)) g.stands ∙ ap label_start (g.holds.labelled x g.in_tree)
      ∙ kept_start (member same_call g.seen x) _ ∙ (label_told A start end found).start

  abbrev Below : Call → Type 0
  Below y = Memᴰ y (below G (choice_of words input) input x)

  abbrev Comes : Body → ℕ → Call → Type 0
  Comes b i y = Memᴰ y (body_comes_to (outcomes_of words input) input b i)

  -- the rule that has reached an index and a place
  pub record Going (labels tree : List ℕ) (count at place : ℕ) : Type 0 where
    pub conjuncts : (b : Body) → Memᴰ b (parse (drop at words)).positives → Reads G 1 input end b start × ((y : Call) → Comes b start y → Below y)
    pub read : (X : symbol.Symbol) (b : Body) → (parse (drop at words)).body ≡ X ∷ b → Reads G 1 input end (X ∷ b) place
    pub under : (y : Call) → Comes (parse (drop at words)).body place y → Below y
    pub progress : Progress
    pub reads : scan progress at (drop at words) ≡ reading words
    pub holds : (lent : List ℕ) (l : List Call) → Holds words input lent l labels₀ tree₀ written → (n : ℕ) → level words input A start ≤ n
        → (l₁ : List Call) × Holds words input lent l₁ labels tree count
        × (visits words input (suc n) x l ≡ each (visits words input n) (left words input start at place) l₁)

  ranged : (y : Call) → InTree G (choice_of words input) input y → InRange G input y
  ranged y h = let e = ends y h in (e.1.named, omega (arith, e.1.onward, e.1.within))

  pub names : G.nonterminals ≤ max_nonterminals
  names = omega (arith, r.nonterminals, r.few_nonterminals)

  pub index_small : {B i m : ℕ} → Found G 1 input B i m → B * max_places + i < max_memo_entries
  index_small {B} f = omega (arith, f.named, names, f.onward, f.within, g.accepted.short)

  pub entry_low : entry < max_memo_entries
  entry_low = omega (arith, g.stands, index_small found)

  -- what falls is the measure of the call, for the root ends where the input does
  pub falling_is : falling words labels₀ entry ≡ level words input A start
  unfolding measure accepts
  falling_is =
      let root = ends (call_at 0 0) root_in in
      let e : root.0 ≡ length input = eqb→eq root.0 (length input) (rw root.1.ends at g.accepted.accepted) in
      let q : label_end (get_or labels₀ 0 0) ≡ length input = label_end_lem g.holds 0 0 root.0 root.1 root_in ∙ e in
      let a : entry / max_places ≡ A = omega (arith, g.stands, found.onward, found.within, g.accepted.short) in
      let i : entry % max_places ≡ start = omega (arith, g.stands, found.onward, found.within, g.accepted.short) in
      rw (q, a, i) refl

  -- a call that is marked is written already
  pub vertex_seen : ltb (get_or labels₀ entry 0) kind ≡ true → VertexDone words input labels₀ tree₀ A start written written labels₀ tree₀
  unfolding visit
  vertex_seen e = record { holds = λ lent l h n d. go lent l h n d }
    where
      go : (lent : List ℕ) (l : List Call) → Holds words input lent l labels₀ tree₀ written → (n : ℕ) → level words input A start < n
          → Holds words input lent (visits words input n x l) labels₀ tree₀ written
      go lent l h zero d = absurd (omega arith)
      go lent l h (suc n) d =
          let m : member same_call l x ≡ true =
          sym (marked h ranged names g.accepted.short x g.in_tree) ∙ ap (λ k. ltb (get_or labels₀ k 0) kind) (sym g.stands) ∙ e in
          rw m h

  -- a call that is not marked
  module _ (unmarked : ltb (get_or labels₀ entry 0) kind ≡ false) where
    fresh : ltb (get_or labels₀ (A * max_places + start) 0) kind ≡ false
    fresh = ap (λ k. ltb (get_or labels₀ k 0) kind) (sym g.stands) ∙ unmarked

    vertex_is : get_or labels₀ entry 0 ≡ vertex_word_at words input x
    vertex_is = ap (λ k. get_or labels₀ k 0) g.stands ∙ label_fresh g.holds ranged names g.accepted.short x g.in_tree fresh

    pub tree_room : written < length tree₀
    tree_room =
        omega (
          arith,
          room g.holds ranged names g.accepted.short x g.in_tree fresh,
          holds_length g.holds ranged names g.accepted.short,
        )

    -- the rule of its word, as it stands in the words
    module _ {q : ℕ} (c : q ≡ label_rule (get_or labels₀ entry 0)) where
      number_is : q ≡ choice.number
      unfolding vertex_word_at vertex_at
      number_is = c ∙ ap label_rule vertex_is ∙ (label_told A start end found).rule ∙ ap rule_number_of choice.looked

      numbered : choice.number < g.accepted.sizes.rules
      numbered = omega (arith, nth_below G.rules choice.number choice.rule choice.numbered, r.rules)

      pub rule_low : q < max_rules
      rule_low = omega (arith, number_is, numbered, r.few_rules)

      begin_is : get_or starts q 0 ≡ get_or (rule_starts words) choice.number 0
      begin_is = ap (λ (l : List ℕ). get_or l q 0) g.begins ∙ ap (λ (n : ℕ). get_or (rule_starts words) n 0) number_is

      begun : Begun words (get_or starts q 0)
      begun = subst (λ i. Begun words i) (sym begin_is) (r.begun choice.number numbered)

      pub begin_low : get_or starts q 0 < length words
      begin_low = begun.high

      positives_are : choice.rule.positives ≡ (parse (drop (get_or starts q 0 + 1) words)).positives
      unfolding rule_read
      positives_are =
          let i : ℕ = get_or (rule_starts words) choice.number 0 in
          let f : choice.rule ≡ rule_read (drop i words) = some_same choice.rule _ (sym choice.numbered ∙ r.begins choice.number numbered) in
          let e : choice.rule ≡ rule_read (get_or words i 0 ∷ drop (i + 1) words) =
          f ∙ (rw (add-one i) (ap rule_read (drop-cons words i 0 (r.begun choice.number numbered).high))) in
          let p : choice.rule.positives ≡ (parse (drop (i + 1) words)).positives = ap (λ (z : Rule). z.positives) e in
          p ∙ ap (λ (n : ℕ). (parse (drop (n + 1) words)).positives) (sym begin_is)
        where
          some_same : (y z : Rule) → some y ≡ some z → y ≡ z
          some_same y z e = cc

      -- before the rule's first conjunct
      going_first : Going (set labels₀ entry (marked_word (get_or labels₀ entry 0))) (set tree₀ written (get_or labels₀ entry 0))
          (written + 1) (get_or starts q 0 + 1) start
      unfolding left body_comes_to visit
      going_first =
          let at = get_or starts q 0 + 1 in
          let k = begin_next words g.accepted.sizes g.accepted.read (get_or starts q 0) begun in
          let f = (reads k.0 at (drop at words) g.accepted.sizes (k.1 ∙ g.accepted.read)).fits in
          let none : (parse (drop at words)).body ≡ [] = (rw k.2 at f.shape).0 in
          let ps : choice.rule.positives ≡ (parse (drop at words)).positives = positives_are in
          record {
            conjuncts = λ b m.
                let m' : Memᴰ b choice.rule.positives = rw ps m in
                (choice.read b m', below_make G 1 input g.accepted.predictive g.accepted.tokens meaning solves A start end choice b m');
            read = λ X b e. let z : ◌≡◌ {A = ℕ} 0 1 = cc (none, e) in absurd (omega arith);
            under = λ y n. absurd (mathlib.Core.List.Memᴰ.not-nil (rw none at n));
            progress = k.0;
            reads = k.1;
            holds = λ lent l h n d. (
              l ++ (x ∷ []),
              rw (vertex_is, g.stands) (holds_more h ranged names g.accepted.short x g.in_tree fresh),
              rw (unseen h ranged names g.accepted.short x g.in_tree fresh, none)
                  (ap (λ z. each (visits words input n) z (l ++ (x ∷ [])))
                  (below_chosen G 1 input g.accepted.predictive g.accepted.tokens meaning solves A start end choice
                  ∙ ap (flat_map (λ b. body_comes_to (outcomes_of words input) input b start)) ps)),
            );
          }

      pub going_start : {kept begin : ℕ} → kept ≡ marked_word (get_or labels₀ entry 0) → begin ≡ start
          → Going (set labels₀ entry kept) (set tree₀ written (get_or labels₀ entry 0)) (written + 1) (get_or starts q 0 + 1) begin
      going_start k b = rw (k, b) going_first

  module _ {labels tree : List ℕ} {count at place : ℕ} (u : Going labels tree count at place) where
    -- nothing is left
    done : left words input start at place ≡ [] → VertexDone words input labels₀ tree₀ A start written count labels tree
    unfolding each
    done e = record { holds = λ lent l h n d. go lent l h n d }
      where
        go : (lent : List ℕ) (l : List Call) → Holds words input lent l labels₀ tree₀ written → (n : ℕ) → level words input A start < n
            → Holds words input lent (visits words input n x l) labels tree count
        go lent l h zero d = absurd (omega arith)
        go lent l h (suc n) d =
            let s = u.holds lent l h n (omega arith) in
            let q : visits words input (suc n) x l ≡ s.0 = s.2 ∙ ap (λ z. each (visits words input n) z s.0) e in
            rw q s.1

    pub going_over : length words ≤ at → VertexDone words input labels₀ tree₀ A start written count labels tree
    unfolding left body_comes_to flat_map parse
    going_over h = done (rw (parse_over words at h) refl)

    abbrev Q : Parsed
    Q = parse (drop (at + 1) words)

    -- the calls of the conjuncts behind
    abbrev later : List Call
    later = flat_map (λ b. body_comes_to (outcomes_of words input) input b start) Q.positives

    module _ (h : at < length words) where
      next : Next words at u.progress g.accepted.sizes
      next = scan_next words at u.progress g.accepted.sizes h (u.reads ∙ g.accepted.read)

      next_reads : scan next.progress (at + 1) (drop (at + 1) words) ≡ reading words
      next_reads = next.reads ∙ sym g.accepted.read

      fits : RestFits next.progress.state g.accepted.sizes Q
      fits = (reads next.progress (at + 1) (drop (at + 1) words) g.accepted.sizes next.reads).fits

      here : (w : Word) → decoded (get_or words at 0) ≡ w → parse (drop at words) ≡ on_word w Q
      here w e = parse_here words at h ∙ ap (λ z. on_word z Q) e

      -- a word that begins no positive conjunct and is no symbol ends the rule's positive conjuncts
      ended : (w : Word) → decoded (get_or words at 0) ≡ w → allows w u.progress.state ≡ true
          → (w ≡ word.Positive → ⊥) → ((X : symbol.Symbol) → w ≡ word.Symbol X → ⊥) → left words input start at place ≡ []
      unfolding on_word left body_comes_to flat_map
      ended (word.Heading n t) e a p q = absurd (false≢true a)
      ended (word.Rule B) e a p q = rw (here (word.Rule B) e) refl
      ended word.Positive e a p q = absurd (p refl)
      ended word.Negative e a p q =
          let after-negative : next.progress.state ≡ state.InNegative = rw e at next.passed.state in
          let none : Q.positives ≡ [] = rw after-negative at fits.shape in
          rw (here word.Negative e, none) refl
      ended (word.Symbol X) e a p q = absurd (q X refl)
      ended word.End e a p q = rw (here word.End e) refl
      ended word.Invalid e a p q = absurd (false≢true a)

      pub going_ended : (w : Word) → w ≡ decoded (get_or words at 0) → (w ≡ word.Positive → ⊥) → ((X : symbol.Symbol) → w ≡ word.Symbol X → ⊥)
          → VertexDone words input labels₀ tree₀ A start written count labels tree
      going_ended w e p q = done (ended w (sym e) (rw e next.passed.allowed) p q)

      -- a positive conjunct begins
      pub going_positive : decoded (get_or words at 0) ≡ word.Positive → Going labels tree count (at + 1) start
      unfolding on_word left body_comes_to flat_map
      going_positive e =
          let q = here word.Positive e in
          let ps : (parse (drop at words)).positives ≡ Q.body ∷ Q.positives = ap (λ z. z.positives) q in
          let m = u.conjuncts Q.body (rw ps (mathlib.Core.List.Memᴰ.head refl)) in
          record {
            conjuncts = λ b n. u.conjuncts b (rw ps (mathlib.Core.List.Memᴰ.tail n));
            read = λ X b s. rw s at m.0;
            under = m.1;
            progress = next.progress;
            reads = next_reads;
            holds = λ lent l a n d.
                let s = u.holds lent l a n d in
                (s.0, s.1, rw q at s.2);
          }

      module _ (X : symbol.Symbol) (e : decoded (get_or words at 0) ≡ word.Symbol X) where
        body_here : (parse (drop at words)).body ≡ X ∷ Q.body
        unfolding on_word
        body_here = ap (λ z. z.body) (here (word.Symbol X) e)

        conjuncts_here : (parse (drop at words)).positives ≡ Q.positives
        unfolding on_word
        conjuncts_here = ap (λ z. z.positives) (here (word.Symbol X) e)

        symbol_next : scan u.progress (at + 1) (drop (at + 1) words) ≡ reading words
        symbol_next = symbol_reads words at u.progress g.accepted.sizes X h e (u.reads ∙ g.accepted.read) ∙ sym g.accepted.read

        read_here : Reads G 1 input end (X ∷ Q.body) place
        read_here = u.read X Q.body body_here

        under_here : (y : Call) → Comes (X ∷ Q.body) place y → Below y
        under_here y m = u.under y (rw body_here m)

        left_here : left words input start at place
            ≡ body_comes_to (outcomes_of words input) input (X ∷ Q.body) place ++ later
        unfolding left
        left_here = rw (body_here, conjuncts_here) refl

      -- a terminal
      module _ (a : ℕ) (e : decoded (get_or words at 0) ≡ word.Symbol (Terminal a)) where
        pub terminal_low : place < length input
        terminal_low = (read_here (Terminal a) e).0

        pub going_terminal : Going labels tree count (at + 1) (place + 1)
        unfolding left
        going_terminal =
            let t = read_here (Terminal a) e in
            let c = comes_token (outcomes_of words input) input a Q.body place t.0 t.1 in
            rw (add-one place) record {
              conjuncts = λ b n. u.conjuncts b (rw (conjuncts_here (Terminal a) e) n);
              read = λ X b s. rw s at t.2;
              under = λ y n. under_here (Terminal a) e y (rw c n);
              progress = u.progress;
              reads = symbol_next (Terminal a) e;
              holds = λ lent l k n d.
                  let s = u.holds lent l k n d in
                  (s.0, s.1, s.2 ∙ ap (λ z. each (visits words input n) z s.0) (left_here (Terminal a) e ∙ ap (λ z. z ++ later) c));
            }

      -- a nonterminal
      module _ (B : ℕ) (e : decoded (get_or words at 0) ≡ word.Symbol (Nonterminal B)) where
        pub called_end : ℕ
        called_end = (read_here (Nonterminal B) e).0

        pub called_found : Found G 1 input B place called_end
        unfolding called_end
        called_found = (read_here (Nonterminal B) e).1

        rest_here : Reads G 1 input end Q.body called_end
        unfolding called_end
        rest_here = (read_here (Nonterminal B) e).2

        comes_here : body_comes_to (outcomes_of words input) input (Nonterminal B ∷ Q.body) place
            ≡ call_at B place ∷ body_comes_to (outcomes_of words input) input Q.body called_end
        comes_here = comes_name (outcomes_of words input) input B Q.body place called_end called_found.ends

        called_below : Below (call_at B place)
        called_below = under_here (Nonterminal B) e (call_at B place) (rw comes_here (mathlib.Core.List.Memᴰ.head refl))

        pub called_in : InTree G (choice_of words input) input (call_at B place)
        called_in = more g.in_tree called_below

        pub called_falls : level words input B place < level words input A start
        called_falls = (below_falls G 1 input g.accepted.predictive g.accepted.tokens meaning solves x end found (call_at B place) called_below).2

        pub called_given : VertexGiven input words starts labels tree B place (B * max_places + place) count
        called_given =
            let s = u.holds g.lent g.seen g.holds (level words input A start) (omega arith) in
            record {
              accepted = g.accepted;
              begins = g.begins;
              in_tree = called_in;
              stands = refl;
              lent = g.lent;
              seen = s.0;
              holds = s.1;
            }

        pub going_nonterminal : {labels' tree' : List ℕ} {count' : ℕ} → VertexDone words input labels tree B place count count' labels' tree'
            → Going labels' tree' count' (at + 1) called_end
        unfolding each left
        going_nonterminal d = record {
          conjuncts = λ b n. u.conjuncts b (rw (conjuncts_here (Nonterminal B) e) n);
          read = λ X b s. rw s at rest_here;
          under = λ y n. under_here (Nonterminal B) e y (rw comes_here (mathlib.Core.List.Memᴰ.tail n));
          progress = u.progress;
          reads = symbol_next (Nonterminal B) e;
          holds = λ lent l k n f.
              let s = u.holds lent l k n f in (
                visits words input n (call_at B place) s.0,
                d.holds lent s.0 s.1 n (omega (arith, called_falls)),
                s.2 ∙ ap (λ z. each (visits words input n) z s.0) (left_here (Nonterminal B) e ∙ ap (λ z. z ++ later) comes_here),
              );
        }

        -- the word that is kept of the call tells where it ends
        pub called_ends : {labels' tree' : List ℕ} {count' : ℕ} → Going labels' tree' count' (at + 1) called_end
            → label_end (get_or labels' (B * max_places + place) 0) ≡ called_end
        called_ends v =
            let s = v.holds g.lent g.seen g.holds (level words input A start) (omega arith) in
            label_end_lem s.1 B place called_end called_found called_in

-- what falls, falls from a call to one below it
module _ {input words starts labels₀ tree₀ labels tree : List ℕ} {A start entry written count at place : ℕ}
    (g : VertexGiven input words starts labels₀ tree₀ A start entry written) (u : Going g labels tree count at place) where
  pub called_falling : (h : at < length words) (B : ℕ) → decoded (get_or words at 0) ≡ word.Symbol (Nonterminal B)
      → falling words labels (B * max_places + place) < falling words labels₀ entry
  called_falling h B e = omega (arith, called_falls g u h B e, falling_is g, falling_is (called_given g u h B e))

-- from one place in a rule to another, whatever was lent and wherever the vertex begins
abbrev pub Onward : (words starts : List ℕ) (entry written begin : ℕ) (labels tree : List ℕ) (count at place : ℕ)
    (labels' tree' : List ℕ) (count' at' place' : ℕ) → Type 0
Onward words starts entry written begin labels tree count at place labels' tree' count' at' place' =
    (input labels₀ tree₀ : List ℕ) (A start : ℕ) (g : VertexGiven input words starts labels₀ tree₀ A start entry written) → begin ≡ start
    → Going g labels tree count at place → Going g labels' tree' count' at' place'

-- where ways meet
pub going_as : {input words starts labels₀ tree₀ : List ℕ} {A start entry written : ℕ}
    (g : VertexGiven input words starts labels₀ tree₀ A start entry written)
    {labels labels' tree tree' : List ℕ} {count count' at place place' : ℕ} → labels' ≡ labels → tree' ≡ tree → count' ≡ count → place' ≡ place
    → Going g labels tree count at place → Going g labels' tree' count' at place'
going_as g a b c d u = rw (a, b, c, d) u

-- the words that begin no positive conjunct and are no symbol
pub neither : (w : Word) → OneOf (0 ∷ 1 ∷ 3 ∷ 5 ∷ 6 ∷ []) (tag_of the_type w) → (w ≡ word.Positive → ⊥) × ((X : symbol.Symbol) → w ≡ word.Symbol X → ⊥)
neither w t = (
  λ e. ⊎_elim (λ e. omega arith) (⊎_elim (λ e. omega arith) (⊎_elim (λ e. omega arith) (⊎_elim (λ e. omega arith) (λ e. omega arith)))) (rw e at t),
  λ X e. ⊎_elim (λ e. omega arith) (⊎_elim (λ e. omega arith) (⊎_elim (λ e. omega arith) (⊎_elim (λ e. omega arith) (λ e. omega arith)))) (rw e at t),
)

pub is_terminal : (X : symbol.Symbol) → tag_of symbol_type X ≡ 0 → (a : ℕ) × (X ≡ Terminal a)
is_terminal (Terminal a) e = (a, refl)
is_terminal (Nonterminal A) e = absurd (omega arith)
