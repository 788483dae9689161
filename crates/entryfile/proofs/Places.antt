-- Parts of a file and their places.
use Rattle.std.proofs.Common.{◌≡◌, ℕ, ◌+◌, ◌-◌, ◌<◌, ◌≤◌, List, length, drop, ap, ◌∙◌, arith, length-append, length-drop, length-take-le}
use Rattle.std.specs.List.{between}
use Rattle.number.specs.Numbers.{encode}
use Rattle.entryfile.specs.Items.{reference_bytes}

pub length-between : (file : List ℕ) (at end : ℕ) → at ≤ end → end ≤ length file → length (between at end file) ≡ end - at
length-between file at end h w = length-take-le (end - at) (drop at file) (omega (arith, length-drop at file))

-- a number ends as many bytes further on as it has
pub number_size : (file : List ℕ) (at n p : ℕ) → encode n ≡ between at p file → at < p → p ≤ length file → p ≡ at + length (encode n)
number_size file at n p same on within =
    let size = ap length same ∙ length-between file at p (omega arith) within in
    omega (arith, size)

-- where a reference of some length ends
pub reference_ends : (t : List ℕ) (at next end n : ℕ) → length t ≡ n → next ≡ at + length (encode n) → end ≡ next + n → end ≡ at + length (reference_bytes t)
reference_ends t at next end n e s f =
    let k = ap (λ m. length (encode m)) e in
    omega (arith, length-append (encode (length t)) t)
