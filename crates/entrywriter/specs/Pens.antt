-- What a pen has room for, and what it has written.
use Rattle.std.specs.Prelude.{◌≡◌, ℕ, ◌+◌, ◌≤◌, List, length}
use Rattle.number.specs.Writes.{Wrote}
use Rattle.entrywriter.specs.declared.pen.Pen.{Pen}

abbrev pub HasRoom : Pen → List ℕ → Type 0
HasRoom pen bytes = pen.place + length bytes ≤ length pen.buf.now

-- the bytes stand in the buffer from the old place to the new one, and it is the same buffer
pub record Penned (was : Pen) (bytes : List ℕ) (is : Pen) : Type 0 where
  pub wrote : Wrote was.buf.now was.place bytes is.place is.buf.now
  pub buffer : is.buf.ghost_name ≡ was.buf.ghost_name
