-- Reading undoes writing, and writing undoes reading.
use Rattle.std.specs.Prelude.{◌≡◌, ℕ, ◌^◌, ◌<◌, List, ◌++◌, length, take, Ok}
use Rattle.std.specs.Int.Digits.{AllBelowBase}
use Rattle.number.specs.Numbers.{encode, decode}

-- any number up to 4,294,967,295 is read back from its bytes, whatever bytes follow
abbrev pub ReadUndoesWrite : Type 0
ReadUndoesWrite = (n : ℕ) (post : List ℕ) → n < 2 ^ 32 → decode (encode n ++ post) ≡ Ok (n, length (encode n))

-- a number that was read has just the bytes that were read
abbrev pub WriteUndoesRead : Type 0
WriteUndoesRead = (bytes : List ℕ) (n size : ℕ) → AllBelowBase 256 (take size bytes) → decode bytes ≡ Ok (n, size) → encode n ≡ take size bytes
