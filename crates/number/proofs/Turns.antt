-- How reading a number goes from one byte to the next.
use Rattle.std.proofs.Common.{◌≡◌, ℕ, zero, suc, ◌+◌, ◌-◌, ◌*◌, ◌%◌, ◌^◌, ◌<◌, ◌≤◌, Bool, true, false, eqb, List, [], ◌∷◌, length, get_or, drop, Ok, Err, sym, refl, ap, ◌∙◌, ⊎_elim, mul_assoc, mul_comm, mul-add, arith, w8, Fits}
use native.Mathlib.Nat.{pow-le-pow_right}
use Rattle.std.specs.List.{between}
use Rattle.std.proofs.lemmas.Bool.{cases_eq, lt-ltb, cond-true}
use Rattle.std.proofs.lemmas.Bool.Decides.{nat_tests}
use Rattle.std.proofs.lemmas.Grind.{common_steps}
use Rattle.std.proofs.lemmas.Nat.{mul-le}
use Rattle.std.proofs.lemmas.List.{drop_more, drop_all}
use Rattle.number.specs.declared.NumberCause.{NumberCause}
use Rattle.number.specs.declared.NumberCause.TheVariants.{Ends, Padded, Large}
use Rattle.number.specs.Numbers.{encode, Decoded, before, last, decode_by, decode, placed, number_at}
use Rattle.number.proofs.Codec.{next_scale, cap, cap_least, read_low, read_high, last_ok, got, number_same, under_bytes}

-- what is read at last, where `value` and `used` are of the bytes so far, and the next group counts `scale`
abbrev pub behind : ℕ → ℕ → ℕ → Decoded → Decoded
behind value scale used (Ok p) = Ok (value + scale * p.0, used + p.1)
behind value scale used (Err e) = Err e

behind_none : (r : Decoded) → r ≡ behind 0 1 0 r
behind_none (Ok p) = let x : 0 + 1 * p.0 ≡ p.0 = omega arith in let y : 0 + p.1 ≡ p.1 = omega arith in rw (x, y)
behind_none (Err e) = refl

behind_before : (v s u b : ℕ) (r : Decoded) → behind v s u (before b r) ≡ behind (v + b % 128 * s) (s * 128) (u + 1) r
behind_before v s u b (Ok p) =
    let x : v + s * (b % 128 + 128 * p.0) ≡ v + b % 128 * s + s * 128 * p.0 = omega (arith, mul-add s (b % 128) (128 * p.0), mul_assoc s 128 p.0, mul_comm s (b % 128)) in
    let y : u + (p.1 + 1) ≡ u + 1 + p.1 = omega arith in
    rw (x, y)
behind_before v s u b (Err e) = refl

-- the state of a reading before the byte at `group`
pub record Reading (bytes : List ℕ) (group value : ℕ) : Type 0 where
  pub few : group ≤ 4
  pub small : value < 2 ^ (7 * group)
  pub rest : decode bytes ≡ behind value (2 ^ (7 * group)) group (decode_by (4 - group) (eqb group 0) (drop group bytes))

pub reading_none : (bytes : List ℕ) → Reading bytes 0 0
unfolding decode
reading_none bytes = record { few = omega arith; small = omega arith; rest = behind_none (decode bytes) }

-- a byte's share of the value fits 32 bits
shifted : (group b : ℕ) → group ≤ 4 → (group ≡ 4 → b ≤ 15) → b % 128 * 2 ^ (7 * group) % 4294967296 ≡ b % 128 * 2 ^ (7 * group)
shifted group b few fifth =
    ⊎_elim
    (λ e. rw e (let h = fifth e in omega arith))
    (λ e. omega (arith, mul-le (b % 128) (2 ^ (7 * group)) 127 (2 ^ 21) (omega arith) (pow-le-pow_right {n = 2} (omega arith) {i = 7 * group} {j = 21} (omega arith))))
    (cases_eq group 4)

-- a byte that more bytes follow
step : (bytes : List ℕ) (group : ℕ) (first : Bool) → group < 4 → group < length bytes → 128 ≤ get_or bytes group 0 → decode_by (4 - group) first (drop group bytes) ≡ before (get_or bytes group 0) (decode_by (4 - (group + 1)) false (drop (group + 1) bytes))
step bytes group first few in' high =
    let f : 4 - group ≡ suc (4 - (group + 1)) = omega arith in
    rw (drop_more bytes group 0 in', f) (read_high (4 - (group + 1)) (get_or bytes group 0) first (drop (group + 1) bytes) high)

pub reading_more : (bytes : List ℕ) (group value low : ℕ) → Reading bytes group value → low ≡ get_or bytes group 0 % 128 → group < length bytes → 128 ≤ get_or bytes group 0 → (group ≡ 4 → get_or bytes group 0 ≤ 15) → Reading bytes (group + 1) (value + low * 2 ^ (7 * group) % 4294967296)
reading_more bytes group value low r e in' high fifth =
    let b = get_or bytes group 0 in
    let few : group < 4 = grind (arith, r.few) in
    let s = next_scale group in
    let f : false ≡ eqb (group + 1) 0 = grind (arith, nat_tests) in
    rw (e, shifted group b r.few fifth) (record {
      few = omega arith;
      small = omega (arith, r.small, mul-le (b % 128) (2 ^ (7 * group)) 127 (2 ^ (7 * group)) (omega arith) (omega arith));
      rest = rw (← s, ← f) (r.rest ∙ ap (behind value (2 ^ (7 * group)) group) (step bytes group (eqb group 0) few in' high) ∙ behind_before value (2 ^ (7 * group)) group b _);
    })

cap_of : (f b : ℕ) → b < 128 → (f ≡ 0 → b ≤ 15) → b < cap f
cap_of zero b h z = omega (arith, z refl)
cap_of (suc f) b h z = omega (arith, cap_least f)

low_is : (bytes : List ℕ) (group : ℕ) (first : Bool) → group ≤ 4 → group < length bytes → get_or bytes group 0 < 128 → (group ≡ 4 → get_or bytes group 0 ≤ 15) → decode_by (4 - group) first (drop group bytes) ≡ last first (get_or bytes group 0)
low_is bytes group first few in' low fifth =
    rw (drop_more bytes group 0 in') (read_low (4 - group) (get_or bytes group 0) first (drop (group + 1) bytes) low (cap_of (4 - group) (get_or bytes group 0) low (λ z. fifth (omega arith))))

-- the last byte
pub reading_last : (bytes : List ℕ) (group value low : ℕ) → Reading bytes group value → low ≡ get_or bytes group 0 % 128 → group < length bytes → get_or bytes group 0 < 128 → (group ≡ 4 → get_or bytes group 0 ≤ 15) → (get_or bytes group 0 ≡ 0 → group ≡ 0) → Ok (value + low * 2 ^ (7 * group) % 4294967296, group + 1) ≡ decode bytes
reading_last bytes group value low r e in' high fifth some =
    let b = get_or bytes group 0 in
    let l = low_is bytes group (eqb group 0) r.few in' high fifth ∙ last_ok (eqb group 0) b (λ z. grind (arith, nat_tests, some)) in
    let m : b % 128 ≡ b = omega arith in
    let x : value + b * 2 ^ (7 * group) ≡ value + 2 ^ (7 * group) * b = rw mul_comm refl in
    rw (e, shifted group b r.few fifth, m, x) (sym (r.rest ∙ ap (behind value (2 ^ (7 * group)) group) l))

-- a fault at this byte is the number's fault
fails : (bytes : List ℕ) (group value : ℕ) (e : NumberCause) → Reading bytes group value → decode_by (4 - group) (eqb group 0) (drop group bytes) ≡ Err e → Err e ≡ decode bytes
fails bytes group value e r h = sym (r.rest ∙ ap (behind value (2 ^ (7 * group)) group) h)

pub reading_ends : (bytes : List ℕ) (group value : ℕ) → Reading bytes group value → length bytes ≤ group → Err Ends ≡ decode bytes
unfolding decode_by
reading_ends bytes group value r h = fails bytes group value Ends r (rw (drop_all group bytes h))

pub reading_padded : (bytes : List ℕ) (group value : ℕ) → Reading bytes group value → group < length bytes → get_or bytes group 0 ≡ 0 → 0 < group → Err Padded ≡ decode bytes
reading_padded bytes group value r in' z some =
    let p : last (eqb group 0) (get_or bytes group 0) ≡ Err Padded = grind (arith, nat_tests) in
    fails bytes group value Padded r (low_is bytes group (eqb group 0) r.few in' (omega arith) (λ _. omega arith) ∙ p)

pub reading_large : (bytes : List ℕ) (group value : ℕ) → Reading bytes group value → group < length bytes → group ≡ 4 → 15 < get_or bytes group 0 → Err Large ≡ decode bytes
unfolding decode_by
reading_large bytes group value r in' four h =
    let f : 4 - group ≡ 0 = omega arith in
    fails bytes group value Large r (rw (drop_more bytes group 0 in', f) (cond-true _ _ _ (lt-ltb 15 (get_or bytes group 0) h)))

-- a number of one byte
pub decode_first : (bytes : List ℕ) → 0 < length bytes → get_or bytes 0 0 < 128 → Ok (get_or bytes 0 0, 1) ≡ decode bytes
unfolding decode
decode_first [] some low = absurd (omega arith)
decode_first (b ∷ bs) some low = sym (read_low 4 b true bs low (omega arith) ∙ last_ok true b (λ e. cc))

-- what a number at the front of the bytes from `at` on says of the file
pub number_is : (file bytes : List ℕ) (at n size : ℕ) → bytes ≡ drop at file → Ok (n, size) ≡ decode bytes → Ok (n, at + size) ≡ number_at file at
unfolding number_at
number_is file bytes at n size from e = rw from at (ap (placed at) e)

-- a number of one byte, and where no byte stands, by their place in the file
pub decode_low : (file : List ℕ) (at : ℕ) → at < length file → get_or file at 0 < 128 → Ok (get_or file at 0, 1) ≡ decode (drop at file)
decode_low file at in' low = rw (drop_more file at 0 in') (decode_first (get_or file at 0 ∷ drop (at + 1) file) (omega arith) low)

pub number_low : (file : List ℕ) (at : ℕ) → at < length file → get_or file at 0 < 128 → Ok (get_or file at 0, at + 1) ≡ number_at file at
number_low file at in' low = number_is file (drop at file) at (get_or file at 0) 1 refl (decode_low file at in' low)

pub number_ends : (file : List ℕ) (at : ℕ) → length file ≤ at → Err (record { cause = Ends; place = at }) ≡ number_at file at
unfolding number_at
number_ends file at h = ap (placed at) (reading_ends (drop at file) 0 0 (reading_none (drop at file)) (rw (drop_all at file h) (omega arith)))

pub number_after : (bytes : List ℕ) (n size : ℕ) → Ok (n, size) ≡ decode bytes → 0 < size
number_after bytes n size e = (got bytes n size (sym e)).least

pub number_within : (bytes : List ℕ) (n size : ℕ) → Ok (n, size) ≡ decode bytes → size ≤ length bytes
number_within bytes n size e = (got bytes n size (sym e)).within

pub number_rewrites : (file : List ℕ) (at n size : ℕ) → ((i : ℕ) → Fits w8 (get_or file i 0)) → Ok (n, size) ≡ decode (drop at file) → encode n ≡ between at (at + size) file
number_rewrites file at n size typed e = (number_same file (under_bytes file (λ i. omega (arith, typed i))) at n (at + size) (sym (number_is file _ at n size refl e))).0

pub faults : (file bytes : List ℕ) (at : ℕ) (e : NumberCause) → bytes ≡ drop at file → Err e ≡ decode bytes → Err (record { cause = e; place = at }) ≡ number_at file at
unfolding number_at
faults file bytes at e from h = rw from at (ap (placed at) h)

-- what `read_groups` asks for at each return and as it begins
pub ruleset readings = (reading_none, reading_last, reading_ends, reading_padded, reading_large)

-- what `read_number` asks for of the bytes from a place on
pub ruleset placings = (common_steps, decode_low, number_low, number_ends, number_is, number_after, number_within, number_rewrites, faults)
