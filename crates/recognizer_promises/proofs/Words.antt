-- What holds of a grammar's words, by the theorems of the semantics.
use mathlib.Core.Path.{◌≡◌, refl}
use mathlib.Core.List.Memᴰ
use mathlib.Core.List.{List, [], ◌∷◌}
use Prim.Native.Nat.{ℕ, suc, ◌+◌, ◌≤◌}
use native.Mathlib.Nat.{mul-le-mul}
use native.Mathlib.Omega.{arith}
use lib.Dec.{T}
use lib.ListN.{length}
use Rattle.grammar.specs.Limits.{max_nonterminals, max_columns}
use Rattle.grammar.specs.Syntax.{Grammar}
use Rattle.encoding.specs.Encode.{Encodes}
use Rattle.encoding.proofs.Faithful.{faithful}
use Rattle.lookahead.specs.declared.Lookahead.{Lookahead}
use Rattle.lookahead.specs.declared.Lookahead.TheVariants.{One, Two}
use Rattle.lookahead.specs.Lookaheads.{tokens}
use Rattle.admission.proofs.OneDiagnosis.{diagnosed}
use Rattle.semantics.specs.FirstFollow.{Entry, Follow}
use Rattle.semantics.specs.Claims.{clashes}
use Rattle.semantics.specs.inner.Theorems.{LeastSets}
use Rattle.semantics.proofs.Theorems.{theorems}
use Rattle.table_promises.specs.Layout.{table_words, table_room}
use Rattle.table_promises.proofs.Words.{table_long}
use Rattle.recognizer_promises.specs.LeastFamilies.{Clashless, LeastFamilies, StrungFamilies}
use Rattle.recognizer_promises.specs.Words.{Understood}

module _ {words : List ℕ} (G : Grammar) (e : Encodes words G) where
  -- the theorems of the semantics about an encoded grammar
  pub least_sets : (n : ℕ) → LeastSets G n
  least_sets n = theorems.least_sets G e.formed.scoped e.formed.terminals e.limited.some_nonterminal n

  pub clash_none : (k : Lookahead) → Clashless k G → clashes G (tokens k) ≡ []
  clash_none k none-at = go (clashes G (tokens k)) refl
    where
      go : (l : List Entry) → clashes G (tokens k) ≡ l → clashes G (tokens k) ≡ []
      go [] q = q
      go (x ∷ l) q = absurd (none-at x.0 x.1 (((least_sets (tokens k)).clash x.0 x.1).0 (rw q (Memᴰ.head refl))))

  families : (k : Lookahead) → LeastFamilies k G
  families k =
      let l = least_sets (tokens k) in
      record {
        nullable_closed = l.nullable_closed;
        nullable_least = l.nullable_least;
        first_closed = l.first.closed;
        first_least = λ F c A x h. l.first.smallest (λ B y. T (F B y)) c A x h;
        follow_closed = l.follow.closed;
        follow_least = λ L c A x h. l.follow.smallest (λ B y. T (L B y)) c A x h;
        claimed = λ none-at. l.claimed (clash_none k none-at);
        unclaimed = l.unclaimed;
      }

  strung : StrungFamilies G
  strung =
      let o = theorems.one_token G in
      let l = least_sets 1 in
      record {
        first = o.first;
        follow_closed = (o.follow (Follow G 1) (λ A x h. (l.follow_lookahead A x h).1.0)).0 l.follow.closed;
        follow_least = λ L short c A x h. l.follow.smallest (λ B y. T (L B y)) ((o.follow (λ B y. T (L B y)) short).1 c) A x h;
        claims = o.claims;
      }

  table_fits : (k : Lookahead) → length (table_words k G) ≤ table_room k
  table_fits One =
      let row : 2 + suc G.terminals ≤ 2 + max_columns = omega (arith, e.limited.few_terminals) in
      omega (arith, table_long One G, mul-le-mul {n₁ = G.nonterminals} {n₂ = max_nonterminals} e.limited.few_nonterminals row)
  table_fits Two = omega (arith, table_long Two G, e.limited.few_nonterminals)

pub understood : (k : Lookahead) (words : List ℕ) → Understood k words
understood k words = record {
  faithful = faithful words;
  admits = diagnosed k words;
  least = λ G e. families G e k;
  strung = λ _ G e. strung G e;
  short = λ G e. table_fits G e k;
}
