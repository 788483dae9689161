-- Bytes in hexadecimal.
use Rattle.std.specs.Prelude.{ℕ, ◌+◌, ◌-◌, ◌*◌, cond, List, [], ◌∷◌, Some, None, Option}
use Rattle.market.specs.Ranges.{within}

-- the value of a digit: 0 to 9 are the bytes 48 to 57, A to F are 65 to 70, a to f are 97 to 102
abbrev pub digit_of : ℕ → Option ℕ
digit_of b = cond (within 48 57 b) (Some (b - 48)) (cond (within 65 70 b) (Some (b - 55)) (cond (within 97 102 b) (Some (b - 87)) None))

-- two digits, the high one first
abbrev pub paired : Option ℕ → Option ℕ → Option ℕ
paired (Some high) (Some low) = Some (16 * high + low)
paired (Some high) None = None
paired None low = None

-- the byte that a text of two digits spells
abbrev pub spelled : List ℕ → Option ℕ
spelled [] = None
spelled (high ∷ []) = None
spelled (high ∷ (low ∷ [])) = paired (digit_of high) (digit_of low)
spelled (high ∷ (low ∷ (more ∷ rest))) = None
