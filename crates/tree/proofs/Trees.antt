-- The tree that the descent finds for an accepted input is a parse tree of it, and its vertices are written once each.
use mathlib.Core.List.{List, [], ◌∷◌, map, Memᴰ}
use mathlib.Core.Logic.{◌⊎◌, inl, inr}
use mathlib.Core.Option.{some}
use mathlib.Core.Path.{◌≡◌, refl, sym, ap, ◌∙◌}
use Prim.Native.Nat.{ℕ, zero, suc, ◌-◌, ◌≤◌, ◌<◌}
use native.Mathlib.Omega.{arith}
use lib.Dec.{T}
use lib.ListN.{length, get_elem?, length-map}
use Rattle.grammar.specs.Syntax.{Body, Rule, Grammar}
use Rattle.semantics.specs.Valuations.{Valuation, Solves, pairs}
use Rattle.base.specs.Strings.{Over}
use Rattle.semantics.specs.Choices.{Choice, table_choice}
use Rattle.semantics.specs.Descent.{accepts}
use Rattle.semantics.specs.ComesTo.{Call, call_at}
use Rattle.semantics.specs.inner.ComesTo.{measure}
use Rattle.semantics.specs.Calls.{Called, calls, call_count}
use Rattle.semantics.specs.Calls as called
use Rattle.semantics.specs.Predictive.{Predictive}
use Rattle.base.proofs.Strings.{look_end}
use Rattle.semantics.proofs.descent.Outcomes.{ends_end, nth_below}
use Rattle.semantics.proofs.meaning.Rank.{level_top}
use Rattle.semantics.proofs.descent.Predictive.{own_guides}
use Rattle.base.proofs.Distinct.{distinct_length}
use Rattle.semantics.proofs.Theorems.{theorems}
use Rattle.tree.specs.ParseTrees.{Vertex, Node, Leaf, Inner, leaves, Tree, Conditions, Reaches, itself, ParseTree}
use Rattle.tree.specs.ParseTrees as trees
use Rattle.tree.specs.Writing.{vertex_at, body_nodes, conjunct_nodes, rule_nodes, descendants_of, below, tree_calls, tree_of, InTree, start, more}
use Rattle.tree.specs.Theorems.{Derived, TreeRight}
use Rattle.tree.proofs.Lists.{map_elim, map_make, map_distinct}
use Rattle.tree.proofs.Visiting.{Visited, visit_visited, visit_first}
use Rattle.tree.proofs.Reading.{Found, Chosen, chosen}
use Rattle.tree.proofs.Below.{below_elim, below_make, below_falls}
use Rattle.tree.proofs.Nodes.{cut_within, leaves_cut, leaves_have, leaves_only, conjuncts_length, at, vertex_end, nodes_cut, inner_node, node_inner}
use Rattle.tree.proofs.Nodes.{nodes_cover, vertex_rule, conjuncts_correspond}

pub call_same : (x y : Call) → x.nonterminal ≡ y.nonterminal → x.place ≡ y.place → x ≡ y
call_same x y a b = let s : call_at x.nonterminal x.place ≡ call_at y.nonterminal y.place = cc in s

module _ (G : Grammar) (k : ℕ) (w : List ℕ) (p : Predictive G k) (over : Over G.terminals w) (v : Valuation) (solves : Solves G w v)
    (accepted : T (accepts G (table_choice G k w) w)) where
  abbrev choice : Choice
  choice = table_choice G k w

  abbrev tree : Tree
  tree = tree_of G (table_choice G k w) w

  abbrev pub root : Call
  root = call_at 0 0

  abbrev pub Ends : Call → Type 0
  Ends x = (m : ℕ) × Found G k w x.nonterminal x.place m

  root_found : Found G k w 0 0 (length w)
  unfolding accepts
  root_found = record {
    named = p.start;
    ends = ends_end _ (length w) accepted;
    onward = omega arith;
    within = omega arith;
    follow = rw (look_end k w) (own_guides G k p).follows.start;
  }

  abbrev pub Sound : Call → Type 0
  Sound x = InTree G choice w x × Called G choice w x × Ends x

  pub sound_falls : (x : Call) → Sound x → (y : Call) → Memᴰ y (below G choice w x) → Sound y × (measure G w y < measure G w x)
  sound_falls x h y m =
      let f = below_falls G k w p over v solves x h.2.0 h.2.1 y m in
      ((more h.0 m, called.more h.1 f.0, f.1), f.2)

  pub tree_sound : (x : Call) → InTree G choice w x → Sound x
  tree_sound x start = (start, called.start, (length w, root_found))
  tree_sound y (more {x = x} h m) = (sound_falls x (tree_sound x h) y m).0

  visited : Visited (below G choice w) Sound (measure G w) sound_falls (root ∷ []) [] (tree_calls G choice w)
  unfolding tree_calls measure
  visited = visit_visited (below G choice w) Sound (measure G w) sound_falls (pairs G w) root [] (tree_sound root start)
      (level_top G p.scoped p.unrecursive w 0 (length w - 0) p.start (omega arith))

  written_sound : (x : Call) → Memᴰ x (tree_calls G choice w) → Sound x
  written_sound x m = elim (visited.fresh x m) [ inl n ↦ absurd (mathlib.Core.List.Memᴰ.not-nil n) | inr r ↦ r.0 ]

  written_full : (x : Call) → InTree G choice w x → Memᴰ x (tree_calls G choice w)
  written_full x start = visited.met root (mathlib.Core.List.Memᴰ.head refl)
  written_full y (more {x = x} h m) = elim (visited.fresh x (written_full x h)) [
    | inl n ↦ absurd (mathlib.Core.List.Memᴰ.not-nil n)
    | inr r ↦ r.1 y m
  ]

  abbrev Picked : Call → ℕ → Type 0
  Picked x j = Chosen G k w p over v solves x.nonterminal x.place j

  picked : (x : Call) (e : Ends x) → Picked x e.0
  picked x e = chosen G k w p over v solves x.nonterminal x.place e.0 e.1

  -- a vertex tells its call
  vertex_call : (x y : Call) → Ends x → Ends y → at G k w x ≡ at G k w y → x ≡ y
  unfolding vertex_at
  vertex_call x y a b e =
      let c = picked x a in
      let d = picked y b in
      let q = vertex_rule G k w p over v solves x.nonterminal x.place a.0 c in
      let r = vertex_rule G k w p over v solves y.nonterminal y.place b.0 d in
      let s : c.rule ≡ d.rule = cc (q, r, e) in
      let h : x.nonterminal ≡ y.nonterminal = sym c.heads ∙ ap (λ (z : Rule). z.head) s ∙ d.heads in
      call_same x y h (starts x y e)
    where
      starts : (x y : Call) → at G k w x ≡ at G k w y → x.place ≡ y.place
      starts x y e = ap (λ (z : Vertex). z.start) e

  few : length (tree_calls G choice w) ≤ call_count G choice w
  unfolding call_count
  few =
      let c = (theorems.calls_counted G p.scoped p.unrecursive p.start choice (theorems.own_rules G k w) w).listing in
      distinct_length (tree_calls G choice w) (calls G choice w) (visited.distinct tt) (λ x m. c.full x (written_sound x m).1)

  -- the descendants of a call's vertex
  descended_at : (y : Vertex) (i j : ℕ) (r : Rule) → get_elem? G.rules y.rule ≡ some r → y.start ≡ i → y.end ≡ j
      → tree.descendants y ≡ conjunct_nodes (at G k w) i j r.positives
  unfolding tree_of descendants_of rule_nodes
  descended_at y i j r a b c = rw (a, b, c) refl

  vertex_start : (x : Call) → (at G k w x).start ≡ x.place
  unfolding vertex_at
  vertex_start x = refl

  module _ (x : Call) (e : Ends x) where
    abbrev positives : List Body
    positives = (picked x e).rule.positives

    ended : (at G k w x).end ≡ e.0
    ended = vertex_end G k w x.nonterminal x.place e.0 e.1

    labelled : get_elem? G.rules (at G k w x).rule ≡ some (picked x e).rule
    labelled = vertex_rule G k w p over v solves x.nonterminal x.place e.0 (picked x e)

    descended : tree.descendants (at G k w x) ≡ conjunct_nodes (at G k w) x.place e.0 positives
    descended = descended_at (at G k w x) x.place e.0 (picked x e).rule labelled (vertex_start x) ended

    -- by whether the rule has positive conjuncts
    conjuncts_of : (i j : ℕ) (ps : List Body) → (ps ≡ [] → ⊥) → conjunct_nodes (at G k w) i j ps ≡ map (λ b. body_nodes (at G k w) b i) ps
    unfolding conjunct_nodes
    conjuncts_of i j [] h = absurd (h refl)
    conjuncts_of i j (b ∷ ps) h = refl

    conjuncts_none : (i j : ℕ) (ps : List Body) → ps ≡ [] → conjunct_nodes (at G k w) i j ps ≡ leaves i (j - i) ∷ []
    unfolding conjunct_nodes
    conjuncts_none i j ps h = rw h refl

    -- a list of descendants is that of a positive conjunct, or the leaves of the span
    conjuncts_elim : (i j : ℕ) (ps : List Body) (ns : List Node) → Memᴰ ns (conjunct_nodes (at G k w) i j ps)
        → ((b : Body) × Memᴰ b ps × (ns ≡ body_nodes (at G k w) b i)) ⊎ ((ps ≡ []) × (ns ≡ leaves i (j - i)))
    unfolding conjunct_nodes
    conjuncts_elim i j [] ns m = inr (refl, mathlib.Core.List.Memᴰ.eq_of_singleton m)
    conjuncts_elim i j (b ∷ ps) ns m = inl (map_elim (λ b'. body_nodes (at G k w) b' i) (b ∷ ps) ns m)

    conjuncts_make : (i j : ℕ) (ps : List Body) (b : Body) → Memᴰ b ps → Memᴰ (body_nodes (at G k w) b i) (conjunct_nodes (at G k w) i j ps)
    unfolding conjunct_nodes
    conjuncts_make i j [] b m = absurd (mathlib.Core.List.Memᴰ.not-nil m)
    conjuncts_make i j (d ∷ ps) b m = map_make (λ b'. body_nodes (at G k w) b' i) (d ∷ ps) b m

    -- a vertex among the descendants is that of a call below, and each call below has its vertex there
    inner_below : (ns : List Node) → Memᴰ ns (tree.descendants (at G k w x)) → (y : Vertex) → Memᴰ (Inner y) ns
        → (z : Call) × Memᴰ z (below G choice w x) × (y ≡ at G k w z)
    inner_below ns m y n = elim (conjuncts_elim x.place e.0 positives ns (rw descended at m)) [
      | inl s ↦
          let r = node_inner G k w s.0 x.place e.0 ((picked x e).read s.0 s.1) y (rw s.2 at n) in
          (r.0, below_make G k w p over v solves x.nonterminal x.place e.0 (picked x e) s.0 s.1 r.0 r.1, r.2)
      | inr s ↦ absurd (leaves_only (e.0 - x.place) x.place y (rw s.1 at n))
    ]

    below_inner : (z : Call) → Memᴰ z (below G choice w x)
        → (ns : List Node) × Memᴰ ns (tree.descendants (at G k w x)) × Memᴰ (Inner (at G k w z)) ns
    below_inner z m =
        let s = below_elim G k w p over v solves x.nonterminal x.place e.0 (picked x e) z m in (
          body_nodes (at G k w) s.0 x.place,
          rw descended (conjuncts_make x.place e.0 positives s.0 s.1),
          inner_node G k w s.0 x.place e.0 ((picked x e).read s.0 s.1) z s.2,
        )

    -- a token of the span is a leaf among the descendants, or lies in the span of a call below
    covered : (q : ℕ) → x.place ≤ q → q < e.0
        → ((ns : List Node) × Memᴰ ns (tree.descendants (at G k w x)) × Memᴰ (Leaf q) ns)
        ⊎ ((z : Call) × Memᴰ z (below G choice w x) × ((m : ℕ) × Found G k w z.nonterminal z.place m × (z.place ≤ q) × (q < m)))
    covered q l u = go positives refl
      where
        go : (ps : List Body) → positives ≡ ps
            → ((ns : List Node) × Memᴰ ns (tree.descendants (at G k w x)) × Memᴰ (Leaf q) ns)
            ⊎ ((z : Call) × Memᴰ z (below G choice w x) × ((m : ℕ) × Found G k w z.nonterminal z.place m × (z.place ≤ q) × (q < m)))
        go [] h = inl (
          leaves x.place (e.0 - x.place),
          rw (descended ∙ conjuncts_none x.place e.0 positives h) (mathlib.Core.List.Memᴰ.head refl),
          leaves_have (e.0 - x.place) x.place q l (omega arith),
        )
        go (b ∷ ps) h =
            let n : Memᴰ b positives = rw h (mathlib.Core.List.Memᴰ.head refl) in
            elim (nodes_cover G k w b x.place e.0 ((picked x e).read b n) q l u) [
              | inl d ↦ inl (body_nodes (at G k w) b x.place, rw descended (conjuncts_make x.place e.0 positives b n), d)
              | inr r ↦ inr (r.0, below_make G k w p over v solves x.nonterminal x.place e.0 (picked x e) b n r.0 r.1, r.2)
            ]

    spanned : ◌≡◌ {A = List (List Node)} (leaves x.place (e.0 - x.place) ∷ []) (leaves (at G k w x).start ((at G k w x).end - (at G k w x).start) ∷ [])
    spanned = rw (vertex_start x, ended) refl

    -- section 8's conditions
    conditions : ((z : Call) → Memᴰ z (below G choice w x) → Memᴰ (at G k w z) tree.vertices) → Conditions G w v tree (at G k w x)
    conditions h = record {
      rule = (picked x e).rule;
      labelled = labelled;
      number = λ n. rw (descended ∙ conjuncts_of x.place e.0 positives n) (conjuncts_length (at G k w) positives x.place);
      symbols = λ n. rw (descended ∙ conjuncts_of x.place e.0 positives n)
          (conjuncts_correspond G k w p over v solves tree.vertices x.place e.0 positives (picked x e).read
          (λ b m y u. h y (below_make G k w p over v solves x.nonterminal x.place e.0 (picked x e) b m y u)));
      cut = λ ns m. rw (vertex_start x, ended) (elim (conjuncts_elim x.place e.0 positives ns (rw descended at m)) [
        | inl s ↦ rw s.2 (nodes_cut G k w s.0 x.place e.0 ((picked x e).read s.0 s.1))
        | inr s ↦ rw s.1 (leaves_cut (e.0 - x.place) x.place e.0 (omega (arith, e.1.onward)))
      ]);
      negative = λ b m. rw (vertex_start x, ended) ((picked x e).negative b m);
      every = λ n. descended ∙ conjuncts_none x.place e.0 positives n ∙ spanned;
    }

    -- the solution gives the span to the head
    derived : Derived G v (at G k w x)
    derived = record {
      rule = (picked x e).rule;
      labelled = labelled;
      derived = rw (vertex_start x, ended, (picked x e).heads)
          (((theorems.local_verdict G k p w over v solves).nonterminal x.nonterminal x.place e.0 e.1.named
          e.1.onward e.1.within e.1.follow).0
          e.1.ends);
    }

  vertex_elim : (y : Vertex) → Memᴰ y tree.vertices → (x : Call) × InTree G choice w x × (y ≡ at G k w x)
  unfolding tree_of
  vertex_elim y m = let r = map_elim (at G k w) (tree_calls G choice w) y m in (r.0, (written_sound r.0 r.1).0, r.2)

  vertex_make : (x : Call) → InTree G choice w x → Memᴰ (at G k w x) tree.vertices
  unfolding tree_of
  vertex_make x h = map_make (at G k w) (tree_calls G choice w) x (written_full x h)

  ends : (x : Call) → InTree G choice w x → Ends x
  ends x h = (tree_sound x h).2

  -- its rule is one of the grammar's, and its span lies within the input
  pub vertex_within : (x : Call) → InTree G choice w x
      → ((at G k w x).rule < length G.rules) × ((at G k w x).start ≤ length w) × ((at G k w x).end ≤ length w)
  vertex_within x h =
      let e = ends x h in
      let f = e.1 in (
        nth_below G.rules (at G k w x).rule (picked x e).rule (labelled x e),
        omega (arith, vertex_start x, f.onward, f.within),
        omega (arith, ended x e, f.within),
      )

  tree_low : (x : Call) → InTree G choice w x → measure G w x ≤ measure G w root
  tree_low x start = omega arith
  tree_low y (more {x = x} h m) = omega (arith, tree_low x h, (sound_falls x (tree_sound x h) y m).1)

  reached : (x : Call) → InTree G choice w x → Reaches tree (at G k w root) (Inner (at G k w x))
  reached x start = itself
  reached y (more {x = x} h m) = let r = below_inner x (ends x h) y m in trees.below (reached x h) r.1 r.2

  leaf : (n : ℕ) (x : Call) → InTree G choice w x → measure G w x < n → (j : ℕ) → Found G k w x.nonterminal x.place j
      → (q : ℕ) → x.place ≤ q → q < j → Reaches tree (at G k w root) (Leaf q)
  leaf zero x h l j f q a b = absurd (omega arith)
  leaf (suc n) x h l j f q a b = elim (covered x (j, f) q a b) [
    | inl r ↦ trees.below (reached x h) r.1 r.2
    | inr r ↦ leaf n r.0 (more h r.1) (omega (arith, (sound_falls x (tree_sound x h) r.0 r.1).1)) r.2.0 r.2.1 q r.2.2 r.2.3
  ]

  -- the root is below no call of the tree
  unentered : (x : Call) → InTree G choice w x → Memᴰ root (below G choice w x) → ⊥
  unentered x h m = absurd (omega (arith, tree_low x h, (sound_falls x (tree_sound x h) root m).1))

  -- what a call's vertex reaches: vertices of calls that lie no deeper than it measures, and leaves, all within its span
  abbrev ReachedFrom : Call → Node → Type 0
  ReachedFrom x (Leaf q) = ((at G k w x).start ≤ q) × (q < (at G k w x).end)
  ReachedFrom x (Inner y) = (z : Call) × InTree G choice w z × (y ≡ at G k w z) × (measure G w z ≤ measure G w x)
      × ((at G k w x).start ≤ y.start) × (y.end ≤ (at G k w x).end)

  conditions_of : (x : Call) → InTree G choice w x → Conditions G w v tree (at G k w x)
  conditions_of x h = conditions x (ends x h) (λ z u. vertex_make z (more h u))

  reached_below : (x z : Call) → InTree G choice w z → measure G w z ≤ measure G w x → (at G k w x).start ≤ (at G k w z).start
      → (at G k w z).end ≤ (at G k w x).end → (ns : List Node) → Memᴰ ns (tree.descendants (at G k w z)) → (n : Node) → Memᴰ n ns
      → ReachedFrom x n
  reached_below x z h low from-x to-x ns m (Leaf q) u =
      let c = cut_within ns (at G k w z).start (at G k w z).end ((conditions_of z h).cut ns m) (Leaf q) u in
      (omega (arith, c.0), omega (arith, c.1))
  reached_below x z h low from-x to-x ns m (Inner y) u =
      let c = cut_within ns (at G k w z).start (at G k w z).end ((conditions_of z h).cut ns m) (Inner y) u in
      let s = inner_below z (ends z h) ns m y u in
      (s.0, more h s.1, s.2, omega (arith, (sound_falls z (tree_sound z h) s.0 s.1).1), omega (arith, c.0), omega (arith, c.1))

  reached_from : (x : Call) → InTree G choice w x → (n : Node) → Reaches tree (at G k w x) n → ReachedFrom x n
  reached_from x h n itself = (x, h, refl, omega arith, omega arith, omega arith)
  reached_from x h n (trees.below {y} {ns} r m u) =
      let s = reached_from x h (Inner y) r in
      reached_below x s.0 s.1 s.3 (rw s.2 at s.4) (rw s.2 at s.5) ns (rw s.2 at m) n u

  first : (others : List Call) × (tree_calls G choice w ≡ root ∷ others)
  unfolding tree_calls measure
  first = visit_first (below G choice w) Sound (measure G w) sound_falls (pairs G w) root (tree_sound root start)
      (level_top G p.scoped p.unrecursive w 0 (length w - 0) p.start (omega arith))

  parse : ParseTree G w v tree
  unfolding tree_of
  parse = record {
    root = at G k w root;
    others = map (at G k w) first.0;
    first = ap (map (at G k w)) first.1;
    spanned = (vertex_start root, ended root (length w, root_found));
    started = let c = picked root (length w, root_found) in (c.rule, labelled root (length w, root_found), c.heads);
    conditions = λ y m.
        let r = vertex_elim y m in
        rw r.2 (conditions r.0 (ends r.0 r.1) (λ z u. vertex_make z (more r.1 u)));
    unentered = λ y m ns n u.
        let r = vertex_elim y m in
        let s = inner_below r.0 (ends r.0 r.1) ns (rw r.2 at n) (at G k w root) u in
        let e : root ≡ s.0 = vertex_call root s.0 (ends root start) (ends s.0 (more r.1 s.1)) s.2 in
        unentered r.0 r.1 (rw e s.1);
    reached = λ y m. let r = vertex_elim y m in rw r.2 (reached r.0 r.1);
    leaf = λ q l. leaf (suc (measure G w root)) root start (omega arith) (length w) root_found q (omega arith) l;
    acyclic = λ x m ns n y u r.
        let c = vertex_elim x m in
        let s = inner_below c.0 (ends c.0 c.1) ns (rw c.2 at n) y u in
        let low = (sound_falls c.0 (tree_sound c.0 c.1) s.0 s.1).1 in
        let d = reached_from s.0 (more c.1 s.1) (Inner x) (rw s.2 at r) in
        let same : c.0 ≡ d.0 = vertex_call c.0 d.0 (ends c.0 c.1) (ends d.0 d.1) (sym c.2 ∙ d.2) in
        absurd (omega (arith, low, d.3, ap (measure G w) same));
    own = λ x m q r. let c = vertex_elim x m in rw c.2 (reached_from c.0 c.1 (Leaf q) (rw c.2 at r));
  }

  pub tree_right : TreeRight G k w v
  unfolding tree_of
  tree_right = record {
    parse = parse;
    derived = λ y m. let r = vertex_elim y m in rw r.2 (derived r.0 (ends r.0 r.1));
    written = record {
      sound = λ x m. (written_sound x m).0;
      full = written_full;
      called = λ x h. (tree_sound x h).1;
      ends = λ x h. let r = ends x h in (r.0, r.1.ends);
      distinct = map_distinct (at G k w) (tree_calls G choice w)
          (λ x y m n. vertex_call x y (written_sound x m).2 (written_sound y n).2) (visited.distinct tt);
      few = omega (arith, few, length-map (tree_calls G choice w) (at G k w));
    };
  }
