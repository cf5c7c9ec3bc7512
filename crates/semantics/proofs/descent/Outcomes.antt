-- Laws of outcomes: how they are made, read and compared, up to what a rule gives.
use mathlib.Core.Bool.{Bool, true, false, not, ◌&&◌}
use mathlib.Core.List.Memᴰ
use mathlib.Core.List.{List, [], ◌∷◌, ◌++◌, Memᴰ}
use mathlib.Core.Logic.{◌↔◌}
use mathlib.Core.Option.{Option, none, some, some-ne-none}
use mathlib.Core.Path.{◌≡◌, refl, sym, ap, ◌∙◌}
use Prim.Native.Nat.{ℕ, zero, suc, ◌<◌}
use native.Mathlib.Omega.{arith}
use lib.Dec.{T, eqb→eq, eqb_refl}
use lib.ListN.{length, get_elem?}
use Rattle.grammar.specs.Syntax.{Body, Rule, Grammar, bodies}
use Rattle.base.specs.Quantifiers.{any_of, all_of}
use Rattle.semantics.specs.Descent.{Outcome, Failed, End, ends_at, onward, guard, agrees, confirm, conclude, obey, select}
use Rattle.base.proofs.Booleans.{T_true, true_T, T_subst, and_l, and_r, and_make, and_assoc}
use Rattle.base.proofs.Quantified.{any_cong, all_cong}

pub ends_end : (o : Outcome) (j : ℕ) → T (ends_at o j) → o ≡ End j
ends_end Failed j t = absurd t
ends_end (End m) j t = ap End (eqb→eq m j t)

pub end_ends : (o : Outcome) (j : ℕ) → o ≡ End j → T (ends_at o j)
end_ends o j e = rw e (eqb_refl j)

-- a test that an outcome ends at j passes, where it is another one that does
pub ends_iff : (o : Outcome) (j : ℕ) (b : Bool) → ends_at o j ≡ b → (o ≡ End j) ↔ (b ≡ true)
ends_iff o j b e = (λ p. T_true b (T_subst e (end_ends o j p)), λ p. ends_end o j (T_subst (sym e) (true_T b p)))

pub onward_elim : (o : Outcome) (f : ℕ → Outcome) (j : ℕ) → T (ends_at (onward o f) j) → (m : ℕ) × T (ends_at o m) × T (ends_at (f m) j)
onward_elim Failed f j t = absurd t
onward_elim (End m) f j t = (m, eqb_refl m, t)

pub onward_make : (o : Outcome) (f : ℕ → Outcome) (j m : ℕ) → T (ends_at o m) → T (ends_at (f m) j) → T (ends_at (onward o f) j)
onward_make Failed f j m t u = absurd t
onward_make (End n) f j m t u = rw (eqb→eq n m t) u

pub guard_elim : (x : Bool) (e j : ℕ) → T (ends_at (guard x e) j) → T x × (e ≡ j)
guard_elim true e j t = (tt, eqb→eq e j t)
guard_elim false e j t = absurd t

guard_make : (x : Bool) (e : ℕ) → T x → T (ends_at (guard x e) e)
guard_make true e t = eqb_refl e
guard_make false e t = t

pub onward_guard : (x : Bool) (e : ℕ) (f : ℕ → Outcome) (j : ℕ) → ends_at (onward (guard x e) f) j ≡ (x && ends_at (f e) j)
onward_guard true e f j = refl
onward_guard false e f j = refl

agrees_cons : (o : Body → Outcome) (b : Body) (ps ns : List Body) (j : ℕ) → agrees o (b ∷ ps) ns j ≡ (ends_at (o b) j && agrees o ps ns j)
unfolding agrees all_of
agrees_cons o b ps ns j = and_assoc (ends_at (o b) j) (all_of (λ b. ends_at (o b) j) ps) (not (any_of (λ b. ends_at (o b) j) ns))

pub conclude_elim : (o : Body → Outcome) (n : ℕ) (ps ns : List Body) (j : ℕ) → T (ends_at (conclude o n ps ns) j)
    → (ps ≡ [] → n ≡ j) × T (agrees o ps ns j)
unfolding conclude confirm
conclude_elim o n [] ns j t =
    let g = guard_elim (agrees o [] ns n) n j t in
    let e : n ≡ j = g.1 in
    (λ _. e, rw e at g.0)
conclude_elim o n (b ∷ ps) ns j t =
    let s = onward_elim (o b) (λ e. confirm o ps ns e) j t in
    let g = guard_elim (agrees o ps ns s.0) s.0 j s.2 in
    let e : s.0 ≡ j = g.1 in
    let first : T (ends_at (o b) j) = rw e at s.1 in
    let rest : T (agrees o ps ns j) = rw e at g.0 in
    (λ q. let z : ◌≡◌ {A = ℕ} 0 1 = cc in absurd (omega arith), rw (agrees_cons o b ps ns j) (and_make (ends_at (o b) j) (agrees o ps ns j) first rest))

pub conclude_make : (o : Body → Outcome) (n : ℕ) (ps ns : List Body) (j : ℕ) → (ps ≡ [] → n ≡ j) → T (agrees o ps ns j)
    → T (ends_at (conclude o n ps ns) j)
unfolding conclude confirm
conclude_make o n [] ns j h t = rw (h refl) (guard_make (agrees o [] ns j) j t)
conclude_make o n (b ∷ ps) ns j h t =
    let u : T (ends_at (o b) j && agrees o ps ns j) = rw (agrees_cons o b ps ns j) at t in
    onward_make (o b) (λ e. confirm o ps ns e) j j (and_l (ends_at (o b) j) (agrees o ps ns j) u)
    (guard_make (agrees o ps ns j) j (and_r (ends_at (o b) j) (agrees o ps ns j) u))

-- the q-th rule is a rule, and every rule has a number
-- a list has an element below its length
pub nth_below : {A : Type 0} (l : List A) (q : ℕ) (x : A) → get_elem? l q ≡ some x → q < length l
nth_below [] q x e = absurd (some-ne-none x (sym e))
nth_below (y ∷ l) zero x e = omega arith
nth_below (y ∷ l) (suc q) x e = omega (arith, nth_below l q x e)

pub nth_mem : (l : List Rule) (q : ℕ) (r : Rule) → get_elem? l q ≡ some r → Memᴰ r l
nth_mem [] q r e = absurd (some-ne-none r (sym e))
nth_mem (x ∷ l) zero r e = let s : r ≡ x = cc in Memᴰ.head s
nth_mem (x ∷ l) (suc q) r e = Memᴰ.tail (nth_mem l q r e)

pub mem_nth : (l : List Rule) (r : Rule) → Memᴰ r l → (q : ℕ) × (get_elem? l q ≡ some r)
mem_nth [] r x' = elim x' [ ]
mem_nth (x ∷ l) r (Memᴰ.head e) = (zero, (cc))
mem_nth (x ∷ l) r (Memᴰ.tail m) = let s = mem_nth l r m in (suc s.0, s.1)

pub obey_elim : (o : Body → Outcome) (n : ℕ) (x : Option Rule) (j : ℕ) → T (ends_at (obey o n x) j)
    → (r : Rule) × (x ≡ some r) × T (ends_at (conclude o n r.positives r.negatives) j)
unfolding obey
obey_elim o n none j t = absurd t
obey_elim o n (some r) j t = (r, refl, t)

pub select_elim : (G : Grammar) (x : Option ℕ) (r : Rule) → select G x ≡ some r → (q : ℕ) × (x ≡ some q) × (get_elem? G.rules q ≡ some r)
unfolding select
select_elim G none r e = absurd (some-ne-none r (sym e))
select_elim G (some q) r e = (q, refl, e)

pub onward_cong : (o : Outcome) (f g : ℕ → Outcome) → ((m : ℕ) → T (ends_at o m) → f m ≡ g m) → onward o f ≡ onward o g
onward_cong Failed f g h = refl
onward_cong (End m) f g h = h m (eqb_refl m)

agrees_cong : (o o' : Body → Outcome) (ps ns : List Body) (j : ℕ) → ((b : Body) → Memᴰ b (ps ++ ns) → o b ≡ o' b)
    → agrees o ps ns j ≡ agrees o' ps ns j
unfolding agrees
agrees_cong o o' ps ns j h =
    let p = all_cong (λ b. ends_at (o b) j) (λ b. ends_at (o' b) j) ps (λ b m. ap (λ x. ends_at x j) (h b (Memᴰ.append_left ns m))) in
    let q = any_cong (λ b. ends_at (o b) j) (λ b. ends_at (o' b) j) ns (λ b m. ap (λ x. ends_at x j) (h b (Memᴰ.append_right ps m))) in
    cc

conclude_cong : (o o' : Body → Outcome) (n : ℕ) (ps ns : List Body) → ((b : Body) → Memᴰ b (ps ++ ns) → o b ≡ o' b)
    → conclude o n ps ns ≡ conclude o' n ps ns
unfolding conclude confirm
conclude_cong o o' n [] ns h = ap (λ x. guard x n) (agrees_cong o o' [] ns n h)
conclude_cong o o' n (b ∷ ps) ns h =
    onward_cong (o b) _ _ (λ e _. ap (λ x. guard x e) (agrees_cong o o' ps ns e (λ b m. h b (Memᴰ.tail m))))
    ∙ ap (λ x. onward x (λ e. confirm o' ps ns e)) (h b (Memᴰ.head refl))

pub obey_cong : (o o' : Body → Outcome) (n : ℕ) (x : Option Rule) → ((r : Rule) → x ≡ some r → (b : Body) → Memᴰ b (bodies r) → o b ≡ o' b)
    → obey o n x ≡ obey o' n x
unfolding obey
obey_cong o o' n none h = refl
obey_cong o o' n (some r) h = conclude_cong o o' n r.positives r.negatives (h r refl)
