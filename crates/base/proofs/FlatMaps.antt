-- What a list holds that is put together of a list for each member of another.
use mathlib.Core.List.Memᴰ
use mathlib.Core.List.{List, [], ◌∷◌, flat_map, Memᴰ}
use mathlib.Core.Logic.{inl, inr}
use mathlib.Core.Path.{refl}

module _ {X Y : Type 0} (f : X → List Y) where
  pub flat_map_elim : (l : List X) (y : Y) → Memᴰ y (flat_map f l) → (x : X) × Memᴰ x l × Memᴰ y (f x)
  unfolding flat_map
  flat_map_elim [] y m = absurd (Memᴰ.not-nil m)
  flat_map_elim (x ∷ l) y m = elim (Memᴰ.append_cases (f x) m) [
    | inl k ↦ (x, Memᴰ.head refl, k)
    | inr k ↦ let r = flat_map_elim l y k in (r.0, Memᴰ.tail r.1, r.2)
  ]

  pub flat_map_make : (l : List X) (x : X) (y : Y) → Memᴰ x l → Memᴰ y (f x) → Memᴰ y (flat_map f l)
  unfolding flat_map
  flat_map_make [] x y x4 m = elim x4 [ ]
  flat_map_make (z ∷ l) x y (Memᴰ.head e) m = Memᴰ.append_left (flat_map f l) (rw e at m)
  flat_map_make (z ∷ l) x y (Memᴰ.tail k) m = Memᴰ.append_right (f z) (flat_map_make l x y k m)
