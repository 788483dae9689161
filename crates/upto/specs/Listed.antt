-- What a list says: its items, in order.
use Rattle.std.specs.Prelude.{ℕ, List, take}
use Rattle.upto.specs.declared.list.UpTo.{UpTo}

abbrev pub listed : {T : Type 0} {N : ℕ} → UpTo T N → List T
listed l = take l.count l.places
