-- Ranges of numbers.
use Rattle.std.specs.Prelude.{ℕ, Bool, ◌&&◌, nat_le}

-- a number from low to high, both included
abbrev pub within : ℕ → ℕ → ℕ → Bool
within low high n = nat_le low n && nat_le n high

-- the most tenths of a megawatt, and the most cents for a megawatt-hour
abbrev pub limit : ℕ
limit = 100000

-- the largest number that an entry file can hold
abbrev pub largest : ℕ
largest = 4294967295
