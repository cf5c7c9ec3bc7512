-- Texts put into an output: a lent buffer, with the position behind what has been put into it.
use Rattle.std.specs.Prelude.{◌≡◌, List, ℕ}
use Rattle.text.specs.declared.Output.{Output}
use Rattle.text.specs.Writing.{Put}

-- a text is put into the buffer that an output holds, and the output goes on holding that buffer
pub record Puts (text : List ℕ) (before after : Output) : Type 0 where
  pub same : after.bytes.ghost_name ≡ before.bytes.ghost_name
  pub put : Put before.bytes.now before.at text after.bytes.now after.at
