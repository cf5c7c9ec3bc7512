-- Texts put into a lent buffer one behind the other, and texts made of a row of texts.
use Rattle.std.specs.Prelude.{◌≡◌, List, [], ◌++◌, ℕ, zero, suc, ◌+◌, ◌-◌, min, length}
use Rattle.std.proofs.lemmas.List.Edits.{sets}

-- a text is put at a position so far as the buffer reaches; the next position is behind the bytes that were put
pub record Put (before : List ℕ) (at : ℕ) (text after : List ℕ) (next : ℕ) : Type 0 where
  pub bytes : after ≡ sets before at text
  pub position : next ≡ at + min (length text) (length before - at)

-- the texts of the numbers below n, in order
unfoldable pub up_to : ℕ → (ℕ → List ℕ) → List ℕ
up_to zero text = []
up_to (suc n) text = up_to n text ++ text n
