-- What is written into a buffer from its front.
use Rattle.std.specs.Prelude.{◌≡◌, ℕ, ◌+◌, ◌≤◌, List, length}
use Rattle.numeral.specs.Texts.{written}
use Rattle.layout.specs.declared.writer.Writer.{Writer}

-- the text fits into what is left of the buffer
abbrev pub HasRoom : Writer → List ℕ → Type 0
HasRoom writer text = writer.at + length text ≤ length writer.buffer.now

-- the text is written after what stands there, and nothing else changed
pub record Wrote (before after : Writer) (text : List ℕ) : Type 0 where
  pub ends_after : after.at ≡ before.at + length text
  pub writes_alone : after.buffer.now ≡ written before.at text before.buffer.now
  pub same_buffer : after.buffer.ghost_name ≡ before.buffer.ghost_name
