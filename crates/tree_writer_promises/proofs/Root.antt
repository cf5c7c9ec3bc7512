-- Writing the tree from its root, by what judging left of an accepted input.
use Rattle.std.specs.Prelude.{Ok}
use mathlib.Core.Path.{◌≡◌, refl, sym, ap, ◌∙◌}
use mathlib.Core.List.Memᴰ
use mathlib.Core.List.{List, [], ◌∷◌, ◌++◌, map}
use Prim.Native.Nat.{ℕ, ◌+◌, ◌*◌, ◌-◌, ◌%◌, ◌≤◌, ◌<◌}
use native.Mathlib.Numerals.{add-one}
use native.Mathlib.Omega.{arith}
use lib.ListN.{length, get_or, drop, length-map}
use Rattle.base.specs.Quantifiers.{any_of}
use Rattle.base.proofs.Booleans.{T_true}
use Rattle.grammar.specs.Syntax.{Grammar}
use Rattle.grammar.specs.Encoding.{grammar_of}
use Rattle.grammar.specs.Reading.{reading}
use Rattle.grammar.specs.inner.Starts.{rule_starts}
use Rattle.grammar.specs.inner.WellRead.{WellRead}
use Rattle.grammar.specs.declared.reading.Sizes.{Sizes}
use Rattle.grammar.proofs.WellRead.{well_read}
use Rattle.base.specs.FiniteSets.{member}
use Rattle.semantics.specs.Valuations.{Valuation, Solves, solution, pairs}
use Rattle.semantics.specs.Claims.{table_of}
use Rattle.semantics.specs.Descent.{accepts}
use Rattle.semantics.specs.ComesTo.{Call}
use Rattle.semantics.specs.inner.ComesTo.{measure}
use Rattle.semantics.specs.Memo.{outcome_code}
use Rattle.semantics.proofs.descent.Outcomes.{nth_below}
use Rattle.semantics.proofs.meaning.Rank.{level_top}
use Rattle.semantics.proofs.Theorems.{theorems}
use Rattle.lookahead.specs.declared.Lookahead.TheVariants.{One}
use Rattle.table_promises.specs.Layout.{entry_word, entry_at}
use Rattle.columns.specs.inner.Columns.{column_at}
use Rattle.columns.proofs.Columns.{column_right}
use Rattle.tree.specs.Writing.{vertex_at, vertex_word, tree_calls, tree_of, tree_words, InTree, start}
use Rattle.tree.proofs.Reading.{chosen}
use Rattle.tree.proofs.Trees.{tree_sound}
use Rattle.tree_writer_promises.specs.inner.Labels.{label_word, labels_read, Labelled}
use Rattle.tree_writer_promises.proofs.Labelling.{labels_right}
use Rattle.tree_writer_promises.specs.Properties.{words_of}
use Rattle.tree_writer_promises.specs.inner.Writer.{choice_of, vertex_word_at, Holds, VertexGiven, VertexRequires, VertexEnsures, TreeGiven, TreeDone}

map_twice : (f : Call → ℕ) {Z : Type 0} (g : Call → Z) (h : Z → ℕ) → ((x : Call) → h (g x) ≡ f x) → (l : List Call) → map h (map g l) ≡ map f l
map_twice f g h e [] = refl
map_twice f g h e (x ∷ l) = cc (e x, map_twice f g h e l)

rule_small : (n : ℕ) → n < 128 → n % 128 ≡ n
rule_small n h = omega arith

end_small : (n : ℕ) → n < 512 → n % 512 ≡ n
end_small n h = omega arith

module _ {words input table memo tree : List ℕ} (g : TreeGiven words input table memo tree) where
  abbrev G : Grammar
  G = grammar_of words

  abbrev meaning : Valuation
  meaning = solution G input

  solves : Solves G input meaning
  solves = (theorems.one_solution G g.accepted.predictive.scoped g.accepted.predictive.unrecursive input).solves

  -- the word made for a call of the tree is that of its vertex
  label_right : {z : Sizes} → reading words ≡ Ok z → (x : Call) → InTree G (choice_of words input) input x
      → label_word z input table memo x.nonterminal x.place ≡ vertex_word_at words input x
  unfolding label_word vertex_word_at vertex_at outcome_code entry_at
  label_right {z} read x h =
      let k = well_read words z read in
      let s = tree_sound G 1 input g.accepted.predictive g.accepted.tokens meaning solves g.accepted.accepted x h in
      let f = s.2.1 in
      let c = chosen G 1 input g.accepted.predictive g.accepted.tokens meaning solves x.nonterminal x.place s.2.0 f in
      let placed : x.place ≤ length input = omega (arith, f.onward, f.within) in
      let col = column_right One G.terminals input x.place (omega (arith, k.terminals, k.few_terminals)) g.accepted.tokens in
      let e = g.entries x.nonterminal (column_at One G.terminals input x.place) f.named (omega (arith, col.low)) in
      let q : entry_at One G x.nonterminal (column_at One G.terminals input x.place) ≡ c.number =
      ap (λ (l : List ℕ). entry_word (table_of G 1 x.nonterminal l)) col.string ∙ ap entry_word c.looked in
      let rule : get_or table (2 * z.nonterminals + x.nonterminal * (z.terminals + 1) + column_at One z.terminals input x.place) 0 ≡ c.number =
      rw (k.nonterminals, k.terminals, add-one G.terminals) (e ∙ q) in
      let end : get_or memo (x.nonterminal * (length input + 1) + x.place) 0 ≡ s.2.0 =
      rw (add-one (length input)) (g.recorded x s.1 ∙ ap outcome_code f.ends) in
      let low : c.number < 128 = omega (arith, nth_below G.rules c.number c.rule c.numbered, k.rules, k.few_rules) in
      let few : s.2.0 < 512 = omega (arith, f.within, g.accepted.short) in
      rw (rule, end, rule_small c.number low, end_small s.2.0 few, c.looked, f.ends) refl

  module _ {starts labels : List ℕ} (s : starts ≡ rule_starts words) (l : labels ≡ labels_read (reading words) input table memo) where
    sized : WellRead words g.accepted.sizes
    sized = well_read words g.accepted.sizes g.accepted.read

    labelled : Labelled g.accepted.sizes input table memo labels
    labelled = labels_right g.accepted.sizes input table memo (record { few_nonterminals = sized.few_nonterminals; short = g.accepted.short })
        (l ∙ ap (λ o. labels_read o input table memo) g.accepted.read)

    -- nothing is written
    blank : Holds words input tree [] labels tree 0
    unfolding member any_of
    blank = record {
      long = g.long_tree;
      count = refl;
      front = refl;
      whole = labelled.long;
      labelled = λ x h.
          let f = (tree_sound G 1 input g.accepted.predictive g.accepted.tokens meaning solves g.accepted.accepted x h).2.1 in
          labelled.word x.nonterminal x.place (omega (arith, f.named, sized.nonterminals)) (omega (arith, f.onward, f.within))
          ∙ label_right g.accepted.read x h;
      distinct = tt;
      sound = λ x m. absurd (Memᴰ.not-nil m);
    }

    given : VertexGiven input words starts labels tree 0 0 0 0
    given = record {
      accepted = g.accepted;
      begins = s;
      in_tree = start;
      stands = refl;
      lent = tree;
      seen = [];
      holds = blank;
    }

    pub tree_start : VertexRequires words starts labels tree 0 0
    tree_start = (input, (0, (0, given)))

    module _ {n : ℕ} {labels' tree' : List ℕ} (d : VertexEnsures words starts labels tree 0 0 n labels' tree') where
      last : Holds words input tree (tree_calls G (choice_of words input) input) labels' tree' n
      unfolding tree_calls measure
      last = (d input 0 0 given).holds tree [] blank (pairs G input)
          (level_top G g.accepted.predictive.scoped g.accepted.predictive.unrecursive input 0 (length input - 0)
          g.accepted.predictive.start (omega arith))

      the_words : words_of words input ≡ map (vertex_word_at words input) (tree_calls G (choice_of words input) input)
      unfolding tree_words tree_of vertex_word_at
      the_words = rw (T_true (accepts G (choice_of words input) input) g.accepted.accepted)
          (map_twice (vertex_word_at words input) (vertex_at G (choice_of words input) input) vertex_word (λ x. refl)
          (tree_calls G (choice_of words input) input))

      counted : n ≡ length (words_of words input)
      counted = last.count ∙ sym (ap length the_words ∙ length-map (tree_calls G (choice_of words input) input) (vertex_word_at words input))

      pub tree_done : TreeDone words input tree n tree'
      tree_done = record {
        number = counted;
        written = last.front ∙ ap (λ k. map (vertex_word_at words input) (tree_calls G (choice_of words input) input) ++ drop k tree) (sym last.count)
            ∙ ap (λ w. w ++ drop n tree) (sym the_words);
      }
