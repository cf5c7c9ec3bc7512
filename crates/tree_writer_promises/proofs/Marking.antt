-- One vertex more: its word behind those written, and the word that is kept is marked.
use mathlib.Core.Path.{◌≡◌, refl, sym, ap, ◌∙◌}
use mathlib.Core.Bool.{Bool, true, false}
use mathlib.Core.List.Memᴰ
use mathlib.Core.List.{List, [], ◌∷◌, ◌++◌, map, Memᴰ}
use mathlib.Core.Logic.{inl, inr}
use Prim.Native.Nat.{ℕ, suc, ◌+◌, ◌≤◌, ◌<◌}
use lib.Dec.{ltb}
use borrow.Author.Tests.{lt-ltb, le-ltb}
use native.Mathlib.Nat.{mul-le-mul}
use native.Mathlib.Decide.{ℕ_discrete}
use native.Mathlib.Omega.{arith}
use lib.ListN.{length, get_or, drop, set, length-set, length-map, length-append, length-drop}
use lib.Seq.{get_or-set_same, get_or-set_other}
use Rattle.grammar.specs.Limits.{max_nonterminals, max_tokens, max_places, max_memo_entries}
use Rattle.grammar.specs.Encoding.{grammar_of}
use Rattle.base.specs.Choice.{choose}
use Rattle.base.specs.FiniteSets.{member, Distinct}
use Rattle.semantics.specs.Valuations.{pairs}
use Rattle.semantics.specs.ComesTo.{Call, InRange}
use Rattle.semantics.specs.Calls.{same_call, all_calls}
use Rattle.base.proofs.Booleans.{T_subst, T_true, both}
use Rattle.base.proofs.FiniteSets.{member_mem, mem_member}
use Rattle.base.proofs.Distinct.{distinct_length}
use Rattle.semantics.proofs.descent.Range.{calls_equality, all_range, all_length}
use Rattle.tree.specs.Writing.{vertex_word, InTree}
use Rattle.tree.proofs.Visiting.{distinct_last}
use Rattle.tree.proofs.Trees.{call_same}
use Rattle.tree_writer_promises.specs.inner.Labels.{label_index, kind, marked_word}
use Rattle.tree_writer_promises.specs.inner.Writer.{choice_of, vertex_word_at, Holds}

set_behind : (f : Call → ℕ) (l : List Call) (x : Call) (lent : List ℕ) → length l < length lent
    → set (map f l ++ drop (length l) lent) (length l) (f x) ≡ map f (l ++ (x ∷ [])) ++ drop (length (l ++ (x ∷ []))) lent
set_behind f [] x [] h = absurd (omega arith)
set_behind f [] x (y ∷ ys) h = refl
set_behind f (z ∷ l) x [] h = absurd (omega arith)
set_behind f (z ∷ l) x (y ∷ ys) h = ap {B = List ℕ} (λ s. f z ∷ s) (set_behind f l x ys (omega arith))

-- no two calls of an input have the same index
label_injective : (x y : Call) → x.place ≤ max_tokens → y.place ≤ max_tokens → label_index x ≡ label_index y → x ≡ y
label_injective x y h k e = call_same x y (omega arith) (omega arith)

-- a word has its kind until it is marked
kept : (b : Bool) (w : ℕ) → kind ≤ w → ltb (choose b (marked_word w) w) kind ≡ b
kept true w h = lt-ltb (marked_word w) kind (omega arith)
kept false w h = le-ltb w kind h

has_kind : (words input : List ℕ) (x : Call) → kind ≤ vertex_word_at words input x
unfolding vertex_word_at vertex_word
has_kind words input x = omega arith

-- the calls that are written are few
module _ {words input lent : List ℕ} {l : List Call} {labels tree : List ℕ} {written : ℕ} (h : Holds words input lent l labels tree written)
    (ranged : (y : Call) → InTree (grammar_of words) (choice_of words input) input y → InRange (grammar_of words) input y)
    (names : (grammar_of words).nonterminals ≤ max_nonterminals) (short : length input ≤ max_tokens) where
  few_pairs : pairs (grammar_of words) input ≤ max_memo_entries
  few_pairs =
      omega (arith, mul-le-mul {n₁ = (grammar_of words).nonterminals} {m₁ = suc (length input)} {n₂ = max_nonterminals} {m₂ = max_places} names (omega arith))

  few : length l ≤ length lent
  few =
      let a = distinct_length l (all_calls (grammar_of words) input) h.distinct (λ y m. (all_range (grammar_of words) input y).1 (ranged y (h.sound y m))) in
      omega (arith, few_pairs, all_length (grammar_of words) input, h.long)

  -- as many words as were lent
  pub holds_length : length tree ≡ length lent
  holds_length =
      omega (
        arith,
        ap length h.front,
        length-append (map (vertex_word_at words input) l) (drop (length l) lent),
        length-map l (vertex_word_at words input),
        length-drop (length l) lent,
        few,
      )

  pub marked : (x : Call) → InTree (grammar_of words) (choice_of words input) input x → ltb (get_or labels (label_index x) 0) kind ≡ member same_call l x
  marked x i = ap (λ n. ltb n kind) (h.labelled x i) ∙ kept (member same_call l x) (vertex_word_at words input x) (has_kind words input x)

  -- a call that is not marked
  module _ (x : Call) (in_tree : InTree (grammar_of words) (choice_of words input) input x) (fresh : ltb (get_or labels (label_index x) 0) kind ≡ false) where
    pub unseen : member same_call l x ≡ false
    unseen = sym (marked x in_tree) ∙ fresh

    pub label_fresh : get_or labels (label_index x) 0 ≡ vertex_word_at words input x
    label_fresh = h.labelled x in_tree ∙ rw unseen refl

    absent : Memᴰ x l → ⊥
    absent m = T_subst unseen (mem_member same_call calls_equality l x m)

    pub distinct_more : Distinct (l ++ (x ∷ []))
    distinct_more = distinct_last l x h.distinct absent

    sound_more : (y : Call) → Memᴰ y (l ++ (x ∷ [])) → InTree (grammar_of words) (choice_of words input) input y
    sound_more y m = elim (Memᴰ.append_cases l m) [
      | inl n ↦ h.sound y n
      | inr n ↦ rw (Memᴰ.eq_of_singleton n) in_tree
    ]

    pub count_low : written < max_memo_entries
    count_low =
        let a = distinct_length (l ++ (x ∷ [])) (all_calls (grammar_of words) input) distinct_more
        (λ y m. (all_range (grammar_of words) input y).1 (ranged y (sound_more y m))) in
        omega (arith, few_pairs, all_length (grammar_of words) input, length-append l (x ∷ []), h.count)

    pub room : written < length lent
    room = omega (arith, count_low, h.long)

    pub index_room : label_index x < length labels
    index_room = omega (arith, (ranged x in_tree).0, (ranged x in_tree).1, names, short, h.whole)

    -- the word that is kept of a call, by whether it is written
    abbrev word : Bool → Call → ℕ
    word b y = choose b (marked_word (vertex_word_at words input y)) (vertex_word_at words input y)

    -- the call itself is written now, and any other if it was before
    now_member : (y : Call) → x ≡ y → true ≡ member same_call (l ++ (x ∷ [])) y
    now_member y e = sym (T_true _ (mem_member same_call calls_equality (l ++ (x ∷ [])) y (Memᴰ.append_right l (Memᴰ.head (sym e)))))

    same_member : (y : Call) → (label_index x ≡ label_index y → ⊥) → member same_call l y ≡ member same_call (l ++ (x ∷ [])) y
    same_member y e =
        both _ _ (λ t. mem_member same_call calls_equality (l ++ (x ∷ [])) y (Memᴰ.append_left (x ∷ []) (member_mem same_call calls_equality l y t)))
        (λ t. elim (Memᴰ.append_cases l (member_mem same_call calls_equality (l ++ (x ∷ [])) y t)) [
          | inl n ↦ mem_member same_call calls_equality l y n
          | inr n ↦ absurd (e (ap label_index (sym (Memᴰ.eq_of_singleton n))))
        ])

    labelled_more : (y : Call) → InTree (grammar_of words) (choice_of words input) input y
        → get_or (set labels (label_index x) (word true x)) (label_index y) 0 ≡ word (member same_call (l ++ (x ∷ [])) y) y
    labelled_more y i = elim (ℕ_discrete (label_index x) (label_index y)) [
      | yes e ↦
          let s : x ≡ y = label_injective x y (omega (arith, (ranged x in_tree).1, short)) (omega (arith, (ranged y i).1, short)) e in
          ap (λ k. get_or (set labels (label_index x) (word true x)) k 0) (sym e) ∙ get_or-set_same labels (label_index x) (word true x) 0 index_room
          ∙ ap (word true) s ∙ ap (λ b. word b y) (now_member y s)
      | no e ↦
          get_or-set_other labels (label_index x) (label_index y) (word true x) 0 (λ d. e (sym d)) ∙ h.labelled y i
          ∙ ap (λ b. word b y) (same_member y e)
    ]

    -- the call's word is written, and marked where it is kept
    pub holds_more : Holds words input lent (l ++ (x ∷ [])) (set labels (label_index x) (marked_word (vertex_word_at words input x)))
        (set tree written (vertex_word_at words input x)) (written + 1)
    holds_more = record {
      long = h.long;
      count = omega (arith, h.count, length-append l (x ∷ []));
      front = rw (h.front, h.count) (set_behind (vertex_word_at words input) l x lent (omega (arith, room, h.count)));
      whole = simp length-set h.whole;
      labelled = labelled_more;
      distinct = distinct_more;
      sound = sound_more;
    }
