-- Kinds by their numbers.
use Rattle.std.specs.Prelude.{◌≡◌, ℕ, true, false, Ok, Err, Result}
use Rattle.market.specs.Ranges.{within}
use Rattle.market.specs.declared.numbered.UnknownNumber.{UnknownNumber}

-- a number from 1 to the most names a kind that has it; any other names none, and is told back
abbrev pub NamedBy : {K : Type 0} → (K → ℕ) → ℕ → ℕ → Result K UnknownNumber → Type 0
NamedBy number most n (Ok kind) = (number kind ≡ n) × (within 1 most n ≡ true)
NamedBy number most n (Err unknown) = (within 1 most n ≡ false) × (unknown.0 ≡ n)
