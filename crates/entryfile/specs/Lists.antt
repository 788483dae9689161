-- The numbers of a list in an opening.
use Rattle.std.specs.Prelude.{ℕ, List, [], ◌∷◌, length}
use Rattle.std.specs.List.{flat_map}
use Rattle.upto.specs.Listed.{listed}
use Rattle.upto.specs.declared.list.UpTo.{UpTo}
use Rattle.market.specs.declared.month.Month.{Month}

abbrev pub month_pair : Month → List ℕ
month_pair m = m.days ∷ m.factor ∷ []

abbrev pub price_numbers : ℕ → List ℕ
price_numbers p = p ∷ []

-- how many items there are, and their numbers in order
abbrev pub list_numbers : {T : Type 0} {N : ℕ} → (T → List ℕ) → UpTo T N → List ℕ
list_numbers numbers l = length (listed l) ∷ flat_map numbers (listed l)
