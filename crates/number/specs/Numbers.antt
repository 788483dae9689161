-- A number as bytes: groups of seven bits, the least first, bit 7 set on all bytes but the last.
use Rattle.std.specs.Prelude.{ℕ, zero, suc, ◌+◌, ◌*◌, ◌/◌, ◌%◌, Bool, true, false, cond, not, ◌&&◌, List, [], ◌∷◌, drop, Ok, Err, Result, ◌==◌, nat_lt}
use Rattle.number.specs.declared.NumberCause.{NumberCause}
use Rattle.number.specs.declared.NumberCause.TheVariants.{Ends, Padded, Large}
use Rattle.number.specs.declared.NumberFault.{NumberFault}

-- the bytes of n, in at most turns + 1 groups
unfoldable pub encode_by : ℕ → ℕ → List ℕ
encode_by zero n = n ∷ []
encode_by (suc turns) n = cond (nat_lt n 128) (n ∷ []) ((n % 128 + 128) ∷ encode_by turns (n / 128))

-- the bytes of n; n turns are always enough
unfoldable pub encode : ℕ → List ℕ
encode n = encode_by n n

-- a number and how many bytes it takes, or why there is none
abbrev pub Decoded : Type 0
Decoded = Result (ℕ × ℕ) NumberCause

-- a byte with bit 7 set stands before the rest of its number
abbrev pub before : ℕ → Decoded → Decoded
before b (Ok p) = Ok (b % 128 + 128 * p.0, p.1 + 1)
before b (Err e) = Err e

-- the last byte of a number, which is 0 only where it is the first too
abbrev pub last : Bool → ℕ → Decoded
last first b = cond (b == 0 && not first) (Err Padded) (Ok (b, 1))

-- the number that goes on with these bytes, where at most `more` follow the next one; a fifth byte is at most 15
unfoldable pub decode_by : ℕ → Bool → List ℕ → Decoded
decode_by more first [] = Err Ends
decode_by zero first (b ∷ bs) = cond (nat_lt 15 b) (Err Large) (last first b)
decode_by (suc more) first (b ∷ bs) = cond (nat_lt b 128) (last first b) (before b (decode_by more false bs))

-- the number at the front of these bytes: five groups hold any number up to 4,294,967,295
unfoldable pub decode : List ℕ → Decoded
decode bs = decode_by 4 true bs

abbrev pub placed : ℕ → Decoded → Result (ℕ × ℕ) NumberFault
placed at (Ok p) = Ok (p.0, at + p.1)
placed at (Err c) = Err (record { cause = c; place = at })

-- the number at a place of a file and the place after it; a fault has the place of the number's first byte
unfoldable pub number_at : List ℕ → ℕ → Result (ℕ × ℕ) NumberFault
number_at file at = placed at (decode (drop at file))
