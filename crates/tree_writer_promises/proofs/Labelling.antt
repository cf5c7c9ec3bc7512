-- The words of the vertices, one after the other: each index is that of one nonterminal and place.
use Rattle.std.specs.Prelude.{Err, Ok, Result}
use Rattle.answer.specs.declared.Error.{Error}
use mathlib.Core.Path.{◌≡◌, refl, sym, ap, ◌∙◌}
use mathlib.Core.Bool.{Bool, true, false}
use mathlib.Core.List.{List}
use Prim.Native.Nat.{ℕ, ◌+◌, ◌*◌, ◌/◌, ◌%◌, ◌≤◌, ◌<◌, min}
use native.Mathlib.Decide.{ℕ_discrete, dec_lt}
use native.Mathlib.Omega.{arith}
use lib.Dec.{ltb}
use lib.ListN.{length, get_or, set, replicate, length-set, length-replicate}
use lib.Seq.{get_or-set_same, get_or-set_other}
use borrow.Author.Tests.{lt-ltb, le-ltb}
use Rattle.base.specs.Choice.{choose}
use Rattle.base.proofs.Lists.{listed_long, listed_at, get_d_zeros}
use Rattle.grammar.specs.Limits.{max_nonterminals, max_tokens, max_places, max_memo_entries}
use Rattle.grammar.specs.declared.reading.Sizes.{Sizes}
use Rattle.event.specs.Events.{input_of}
use Rattle.event.proofs.Inputs.{input_length}
use Rattle.lookahead.specs.declared.Lookahead.TheVariants.{One}
use Rattle.columns.specs.inner.Columns.{column_at}
use Rattle.descent_arrays.proofs.Listing.{listed_by}
use Rattle.tree.specs.ParseTrees.{vertex}
use Rattle.tree.specs.Writing.{vertex_word}
use Rattle.tree_writer_promises.specs.inner.Labels.{label_rule, label_word, label_of, label_at, labels_of, labels_read, LabelsGiven, LabelledBelow, Labelled}

-- the word for a call
module _ (z : Sizes) (events table memo : List ℕ) (A i : ℕ) where
  pub label_long : max_tokens < length events → 0 ≡ label_of z (input_of events) table memo A i
  label_long h = rw (input_length events, lt-ltb max_tokens (length events) h)

  pub label_short : {column rule end r : ℕ} → length events ≤ max_tokens → column ≡ column_at One z.terminals (input_of events) i
      → rule ≡ get_or table (2 * z.nonterminals + A * (z.terminals + 1) + column) 0
      → end ≡ get_or memo (A * (length events + 1) + i) 0
      → r ≡ vertex_word (vertex (label_rule rule) i (end % 512))
      → r ≡ label_of z (input_of events) table memo A i
  unfolding label_word
  label_short h c d m e = e ∙ rw (d, m, c, input_length events, le-ltb max_tokens (length events) h)

module _ (z : Sizes) (input table memo : List ℕ) where
  -- an index is that of one nonterminal and place
  label_at_lem : (B k : ℕ) → B < z.nonterminals → k ≤ length input → k ≤ max_tokens
      → label_at z input table memo (B * max_places + k) ≡ label_of z input table memo B k
  unfolding label_at
  label_at_lem B k b h m =
      let q : (B * max_places + k) / max_places ≡ B = omega arith in
      let r : (B * max_places + k) % max_places ≡ k = omega arith in
      rw (q, r, lt-ltb B z.nonterminals b, le-ltb (length input) k h)

  -- past the end of the input a row has none
  label_past : (x : ℕ) → length input < x % max_places → label_at z input table memo x ≡ 0
  unfolding label_at
  label_past x h = rw (lt-ltb (length input) (x % max_places) h) (either_zero (ltb (x / max_places) z.nonterminals))
    where
      either_zero : (b : Bool) → ◌≡◌ {A = ℕ} (choose b 0 0) 0
      either_zero true = refl
      either_zero false = refl

  -- nor has a row past the last nonterminal
  label_beyond : (x : ℕ) → z.nonterminals ≤ x / max_places → label_at z input table memo x ≡ 0
  unfolding label_at
  label_beyond x h = rw (le-ltb (x / max_places) z.nonterminals h)

  -- within the limits each call has its word
  pub labels_right : {labels : List ℕ} → LabelsGiven z input → labels ≡ labels_of z input table memo → Labelled z input table memo labels
  unfolding labels_of
  labels_right g e = record {
    long = ap length e ∙ listed_long max_memo_entries (label_at z input table memo);
    word = λ A i a h.
        ap (λ l. get_or l (A * max_places + i) 0) e
        ∙ listed_at max_memo_entries (label_at z input table memo) (A * max_places + i) (omega (arith, g.few_nonterminals, g.short))
        ∙ label_at_lem A i a h (omega (arith, g.short)) ∙ rw (le-ltb max_tokens (length input) g.short);
  }

-- of an input that is too long no call has a word
pub labels_none : (z : Sizes) (events table memo : List ℕ) → max_tokens < length events
    → replicate max_memo_entries 0 ≡ labels_of z (input_of events) table memo
unfolding labels_of label_at
labels_none z events table memo h =
    listed_by max_memo_entries (label_at z (input_of events) table memo) (replicate max_memo_entries 0) (length-replicate {A = ℕ} max_memo_entries 0)
    (λ x l. get_d_zeros max_memo_entries x ∙ sym (none x))
  where
    either_zero : (a b : Bool) → ◌≡◌ {A = ℕ} (choose a (choose b 0 0) 0) 0
    either_zero true true = refl
    either_zero true false = refl
    either_zero false b = refl

    none : (x : ℕ) → label_at z (input_of events) table memo x ≡ 0
    none x =
        rw (← label_long z events table memo (x / max_places) (x % max_places) h)
        (either_zero (ltb (x / max_places) z.nonterminals) (ltb (length (input_of events)) (x % max_places)))

module _ {z : Sizes} (events : List ℕ) {table memo : List ℕ} where
  -- one label after the other
  pub labels_start : LabelledBelow z (input_of events) table memo 0 (replicate max_memo_entries 0)
  labels_start = record {
    long = length-replicate {A = ℕ} max_memo_entries 0;
    made = λ x h. absurd (omega arith);
    ahead = λ x h. get_d_zeros max_memo_entries x;
  }

  module _ (B k : ℕ) {labels : List ℕ} where
    pub labels_more : {r : ℕ} → B < min z.nonterminals max_nonterminals → k ≤ min (length events) max_tokens
        → LabelledBelow z (input_of events) table memo (B * max_places + k) labels
        → r ≡ label_of z (input_of events) table memo B k
        → LabelledBelow z (input_of events) table memo (B * max_places + k + 1) (set labels (B * max_places + k) r)
    labels_more {r} b l below e = record {
      long = length-set labels (B * max_places + k) r ∙ below.long;
      made = λ x h. go x h (ℕ_discrete x (B * max_places + k));
      ahead = λ x h. get_or-set_other labels (B * max_places + k) x r 0 (λ q. absurd (omega arith)) ∙ below.ahead x (omega arith);
    }
      where
        go : (x : ℕ) → x < B * max_places + k + 1 → Dec (x ≡ B * max_places + k)
            → get_or (set labels (B * max_places + k) r) x 0 ≡ label_at z (input_of events) table memo x
        go x h (yes q) =
            let at = label_at_lem z (input_of events) table memo B k (omega arith) (omega (arith, input_length events)) (omega arith) in
            rw q (get_or-set_same labels (B * max_places + k) r 0 (omega (arith, below.long)) ∙ e ∙ sym at)
        go x h (no q) = get_or-set_other labels (B * max_places + k) x r 0 q ∙ below.made x (omega (arith, q))

    -- the next place, and behind the last one the next row
    pub labels_place : LabelledBelow z (input_of events) table memo (B * max_places + k + 1) labels
        → LabelledBelow z (input_of events) table memo (B * max_places + (k + 1)) labels
    labels_place below = record { long = below.long; made = λ x h. below.made x (omega arith); ahead = λ x h. below.ahead x (omega arith) }

    pub labels_row : min (length events) max_tokens ≤ k → k ≤ max_tokens → LabelledBelow z (input_of events) table memo (B * max_places + k + 1) labels
        → LabelledBelow z (input_of events) table memo ((B + 1) * max_places + 0) labels
    labels_row h m below = record {
      long = below.long;
      made = λ x l. go x l (dec_lt x (B * max_places + k + 1));
      ahead = λ x l. below.ahead x (omega arith);
    }
      where
        go : (x : ℕ) → x < (B + 1) * max_places + 0 → Dec (x < B * max_places + k + 1) → get_or labels x 0 ≡ label_at z (input_of events) table memo x
        go x l (yes q) = below.made x q
        go x l (no q) = below.ahead x (omega arith) ∙ sym (label_past z (input_of events) table memo x (omega (arith, input_length events)))

    pub labels_all : min z.nonterminals max_nonterminals ≤ B → LabelledBelow z (input_of events) table memo (B * max_places + k) labels
        → labels ≡ labels_of z (input_of events) table memo
    unfolding labels_of
    labels_all h below =
        listed_by max_memo_entries (label_at z (input_of events) table memo) labels below.long (λ x l. go x l (dec_lt x (B * max_places + k)))
      where
        go : (x : ℕ) → x < max_memo_entries → Dec (x < B * max_places + k) → get_or labels x 0 ≡ label_at z (input_of events) table memo x
        go x l (yes q) = below.made x q
        go x l (no q) = below.ahead x (omega arith) ∙ sym (label_beyond z (input_of events) table memo x (omega arith))

-- by what is read; words that cannot be read have none
module _ (input table memo : List ℕ) {o o' : Result Sizes Error} (e : o ≡ o') where
  pub labels_faulty : ((z : Sizes) → o ≡ Ok z → ⊥) → replicate max_memo_entries 0 ≡ labels_read o' input table memo
  labels_faulty t = go o t ∙ ap (λ x. labels_read x input table memo) e
    where
      go : (x : Result Sizes Error) → ((z : Sizes) → x ≡ Ok z → ⊥) → replicate max_memo_entries 0 ≡ labels_read x input table memo
      go (Ok z) t = absurd (t z refl)
      go (Err f) t = refl
