-- What a write leaves in a buffer.
use Rattle.std.specs.Prelude.{◌≡◌, ℕ, ◌+◌, ◌≤◌, List, length}
use Rattle.std.proofs.lemmas.List.Edits.{sets}

-- the bytes stand in the buffer from the place `at` to the place `end`, and every other byte is as it was
pub record Wrote (was : List ℕ) (at : ℕ) (bytes : List ℕ) (end : ℕ) (is : List ℕ) : Type 0 where
  pub ends : end ≡ at + length bytes
  pub within : at + length bytes ≤ length was
  pub left : is ≡ sets was at bytes
