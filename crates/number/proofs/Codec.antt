-- The bytes of a number, and the laws of reading and writing one.
use Rattle.std.proofs.Common.{◌≡◌, ℕ, zero, suc, ◌+◌, ◌-◌, ◌*◌, ◌/◌, ◌%◌, ◌^◌, ◌<◌, ◌≤◌, max, Bool, true, false, not, ◌&&◌, eqb, List, [], ◌∷◌, ◌++◌, length, get_or, take, drop, Ok, Err, Result, sym, refl, ap, ◌∙◌, ⊎_elim, add-one, arith, length-drop}
use native.Mathlib.Nat.{pow-le-pow_right}
use Rattle.std.proofs.lemmas.Nat.{pow-add, pow_pos}
use Rattle.std.specs.Int.Digits.{AllBelowBase}
use Rattle.std.specs.List.{between}
use Rattle.std.proofs.lemmas.Bool.{cases_lt, cases_eq, cases_Bool, lt-ltb, le-ltb, eq-eqb, cond-true, cond-false}
use Rattle.std.proofs.lemmas.Bool.Decides.{nat_tests}
use Rattle.std.proofs.ByRecursion.{All-take, All-drop, All-from_get_or}
use Rattle.number.specs.declared.NumberCause.TheVariants.{Padded, Large}
use Rattle.number.specs.Numbers.{encode_by, encode, Decoded, before, last, decode_by, decode, placed, number_at}
use Rattle.number.specs.Laws.{ReadUndoesWrite, WriteUndoesRead}

low_by : (f n : ℕ) → n < 128 → encode_by f n ≡ n ∷ []
unfolding encode_by
low_by zero n h = refl
low_by (suc f) n h = cond-true _ _ _ (lt-ltb n 128 h)

high_by : (f n : ℕ) → 128 ≤ n → encode_by (suc f) n ≡ (n % 128 + 128) ∷ encode_by f (n / 128)
unfolding encode_by
high_by f n h = cond-false _ _ _ (le-ltb n 128 h)

enough : (f g n : ℕ) → n ≤ f → n ≤ g → encode_by f n ≡ encode_by g n
enough zero g n p q = low_by zero n (omega arith) ∙ sym (low_by g n (omega arith))
enough (suc f) zero n p q = low_by (suc f) n (omega arith) ∙ sym (low_by zero n (omega arith))
enough (suc f) (suc g) n p q =
    ⊎_elim
    (λ l. low_by (suc f) n l ∙ sym (low_by (suc g) n l))
    (λ h. high_by f n h ∙ ap (λ t. (n % 128 + 128) ∷ t) (enough f g (n / 128) (omega arith) (omega arith)) ∙ sym (high_by g n h))
    (cases_lt n 128)

pub encode_low : (n : ℕ) → n < 128 → encode n ≡ n ∷ []
unfolding encode
encode_low n h = low_by n n h

pub encode_high : (n : ℕ) → 128 ≤ n → encode n ≡ (n % 128 + 128) ∷ encode (n / 128)
unfolding encode
encode_high zero h = absurd (omega arith)
encode_high (suc n) h = high_by n (suc n) h ∙ ap (λ t. (suc n % 128 + 128) ∷ t) (enough n (suc n / 128) (suc n / 128) (omega arith) (omega arith))

-- numbers of f + 1 groups, of which the fifth has four bits
abbrev pub cap : ℕ → ℕ
cap zero = 16
cap (suc f) = 128 * cap f

pub last_ok : (first : Bool) (n : ℕ) → (first ≡ false → 0 < n) → last first n ≡ Ok (n, 1)
last_ok true n h = grind (arith, nat_tests)
last_ok false n h = let p = h refl in grind (arith, nat_tests)

-- how the first byte is read
pub read_low : (f n : ℕ) (first : Bool) (rest : List ℕ) → n < 128 → n < cap f → decode_by f first (n ∷ rest) ≡ last first n
unfolding decode_by
read_low zero n first rest p q = cond-false _ _ _ (le-ltb 15 n (omega arith))
read_low (suc f) n first rest p q = cond-true _ _ _ (lt-ltb n 128 p)

pub read_high : (f b : ℕ) (first : Bool) (rest : List ℕ) → 128 ≤ b → decode_by (suc f) first (b ∷ rest) ≡ before b (decode_by f false rest)
unfolding decode_by
read_high f b first rest p = cond-false _ _ _ (le-ltb b 128 p)

pub reads : (f n : ℕ) (first : Bool) (rest : List ℕ) → n < cap f → (first ≡ false → 0 < n) → decode_by f first (encode n ++ rest) ≡ Ok (n, length (encode n))
reads zero n first rest p h = rw (encode_low n (omega arith)) (read_low zero n first rest (omega arith) p ∙ last_ok first n h)
reads (suc f) n first rest p h =
    ⊎_elim
    (λ l. rw (encode_low n l) (read_low (suc f) n first rest l p ∙ last_ok first n h))
    (λ g.
    rw (encode_high n g) (read_high f (n % 128 + 128) first (encode (n / 128) ++ rest) (omega arith) ∙ ap (before (n % 128 + 128)) (reads f (n / 128) false rest (omega arith) (λ _. omega arith)) ∙ grind arith))
    (cases_lt n 128)

pub read_undoes_write : ReadUndoesWrite
unfolding decode
read_undoes_write n rest h = reads 4 n true rest h (λ e. cc)

-- what a number that was read says of its bytes
pub record Took (f : ℕ) (first : Bool) (bs : List ℕ) (n k : ℕ) : Type 0 where
  pub some : first ≡ false → 0 < n
  pub small : n < cap f
  pub within : k ≤ length bs
  pub few : k ≤ suc f
  pub least : 0 < k
  pub same : AllBelowBase 256 (take k bs) → encode n ≡ take k bs

ok_parts : {E : Type 0} (a b c d : ℕ) (r : Result (ℕ × ℕ) E) → r ≡ Ok (a, b) → r ≡ Ok (c, d) → (a ≡ c) × (b ≡ d)
ok_parts a b c d r e f = let p : ◌≡◌ {A = ℕ × ℕ} (a, b) (c, d) = cc in (ap (λ (q : ℕ × ℕ). q.0) p, ap (λ (q : ℕ × ℕ). q.1) p)

pub cap_least : (f : ℕ) → 16 ≤ cap f
cap_least zero = omega arith
cap_least (suc f) = omega (arith, cap_least f)

last_is : (f : ℕ) (first : Bool) (b : ℕ) (bs : List ℕ) (n k : ℕ) → b < 128 → b < cap f → last first b ≡ Ok (n, k) → Took f first (b ∷ bs) n k
last_is f first b bs n k low fits e =
    ⊎_elim
    (λ t. let s : last first b ≡ Err Padded = cond-true _ _ _ t in cc)
    (λ t.
    let s : last first b ≡ Ok (b, 1) = cond-false _ _ _ t in
    let (p, q) = ok_parts n k b 1 _ e s in
    record {
      some = λ g. ⊎_elim (λ z. let w : (eqb b 0 && not first) ≡ true = rw (eq-eqb b 0 z, g) in cc) (λ z. omega arith) (cases_eq b 0);
      small = omega arith;
      within = rw q (omega arith);
      few = omega arith;
      least = omega arith;
      same = λ _. rw (p, q) (encode_low b low);
    })
    (cases_Bool (eqb b 0 && not first))

before-is : (b n k : ℕ) (r : Decoded) → before b r ≡ Ok (n, k) → (m : ℕ) × (j : ℕ) × (r ≡ Ok (m, j)) × (n ≡ b % 128 + 128 * m) × (k ≡ j + 1)
before-is b n k (Ok p) e = let (x, y) = ok_parts n k _ _ _ e refl in (p.0, p.1, refl, x, y)
before-is b n k (Err x) e = cc

more_is : (f b n k m j : ℕ) (first : Bool) (bs : List ℕ) → 128 ≤ b → n ≡ b % 128 + 128 * m → k ≡ j + 1 → Took f false bs m j → Took (suc f) first (b ∷ bs) n k
more_is f b n k m j first bs h p q t =
    let some = t.some refl in
    record {
      some = λ _. omega arith;
      small = omega (arith, t.small);
      within = omega (arith, t.within);
      few = omega (arith, t.few);
      least = omega arith;
      same = λ u.
          let v : AllBelowBase 256 (b ∷ take j bs) = rw (q, add-one) at u in
          let d : n / 128 ≡ m = omega arith in
          let b-is : n % 128 + 128 ≡ b = omega (arith, v.0) in
          encode_high n (omega arith) ∙ rw (b-is, d, q, add-one) (ap (λ l. b ∷ l) (t.same v.1));
    }

pub took : (f : ℕ) (first : Bool) (bs : List ℕ) (n k : ℕ) → decode_by f first bs ≡ Ok (n, k) → Took f first bs n k
unfolding decode_by
took zero first [] n k e = cc
took (suc f) first [] n k e = cc
took zero first (b ∷ bs) n k e =
    ⊎_elim
    (λ h. let s : decode_by zero first (b ∷ bs) ≡ Err Large = cond-true _ _ _ (lt-ltb 15 b h) in cc)
    (λ l. last_is zero first b bs n k (omega arith) (omega arith) (sym (cond-false _ _ _ (le-ltb 15 b l)) ∙ e))
    (cases_lt 15 b)
took (suc f) first (b ∷ bs) n k e =
    ⊎_elim
    (λ l. last_is (suc f) first b bs n k l (omega (arith, cap_least f)) (sym (cond-true _ _ _ (lt-ltb b 128 l)) ∙ e))
    (λ h.
    let (m, j, r, p, q) = before-is b n k (decode_by f false bs) (sym (cond-false _ _ _ (le-ltb b 128 h)) ∙ e) in
    more_is f b n k m j first bs h p q (took f false bs m j r))
    (cases_lt b 128)

pub write_undoes_read : WriteUndoesRead
unfolding decode
write_undoes_read bs n k u e = (took 4 true bs n k e).same u

pub encode_some : (n : ℕ) → 0 < length (encode n)
encode_some n = ⊎_elim (λ l. rw (encode_low n l) (omega arith)) (λ h. rw (encode_high n h) (omega arith)) (cases_lt n 128)

-- how many bytes a number takes
few_by : (f n : ℕ) → n < cap f → length (encode n) ≤ suc f
few_by zero n h = rw (encode_low n (omega arith)) (omega arith)
few_by (suc f) n h =
    ⊎_elim
    (λ l. rw (encode_low n l) (omega arith))
    (λ g. rw (encode_high n g) (omega (arith, few_by f (n / 128) (omega arith))))
    (cases_lt n 128)

pub encode_few : (n : ℕ) → n < 2 ^ 32 → length (encode n) ≤ 5
encode_few n h = few_by 4 n h

pub got : (bs : List ℕ) (n k : ℕ) → decode bs ≡ Ok (n, k) → Took 4 true bs n k
unfolding decode
got bs n k e = took 4 true bs n k e

-- a number that stands at a place is read there
pub number_reads : (file : List ℕ) (at n : ℕ) (post : List ℕ) → n < 2 ^ 32 → drop at file ≡ encode n ++ post → number_at file at ≡ Ok (n, at + length (encode n))
unfolding number_at
number_reads file at n post h e = ap (λ bs. placed at (decode bs)) e ∙ ap (placed at) (read_undoes_write n post h)

-- what a number that was read at a place says of its bytes
pub record Stood (file : List ℕ) (at n p : ℕ) : Type 0 where
  pub after : at < p
  pub within : p ≤ length file
  pub small : n < 2 ^ 32
  pub same : AllBelowBase 256 (between at p file) → encode n ≡ between at p file

placed_is : (at n p : ℕ) (r : Decoded) → placed at r ≡ Ok (n, p) → (k : ℕ) × (r ≡ Ok (n, k)) × (p ≡ at + k)
placed_is at n p (Ok (m, k)) e = let (x, y) = ok_parts m (at + k) n p _ refl e in (k, ap (λ m. Ok (m, k)) x, sym y)
placed_is at n p (Err x) e = cc

pub stood : (file : List ℕ) (at n p : ℕ) → number_at file at ≡ Ok (n, p) → Stood file at n p
unfolding number_at
stood file at n p e =
    let (k, r, q) = placed_is at n p (decode (drop at file)) e in
    let t = got (drop at file) n k r in
    let d : p - at ≡ k = omega arith in
    record {
      after = omega (arith, t.least);
      within = omega (arith, t.least, t.within, length-drop at file);
      small = t.small;
      same = rw d (λ u. write_undoes_read (drop at file) n k u r);
    }

-- a number that was read at a place has just the bytes that were read
pub number_same : (file : List ℕ) → AllBelowBase 256 file → (at n p : ℕ) → number_at file at ≡ Ok (n, p) → (encode n ≡ between at p file) × (at < p) × (p ≤ length file) × (n < 2 ^ 32)
number_same file u at n p e =
    let t = stood file at n p e in
    (t.same (All-take _ (p - at) _ (All-drop _ at file u)), t.after, t.within, t.small)

-- the bytes of a slice, each of which fits eight bits
pub under_bytes : (file : List ℕ) → ((i : ℕ) → get_or file i 0 < 256) → AllBelowBase 256 file
under_bytes file h = All-from_get_or _ file 0 (λ i _. h i)

-- seven bits a byte
pub next_scale : (group : ℕ) → 2 ^ (7 * group) * 128 ≡ 2 ^ (7 * (group + 1))
next_scale group = let e : 7 * (group + 1) ≡ 7 * group + 7 = omega arith in rw e (sym (pow-add 2 (7 * group) 7))

size_is : (f n : ℕ) → 2 ^ (7 * f) ≤ max n 1 → n < 2 ^ (7 * (f + 1)) → length (encode n) ≡ f + 1
size_is zero n low high = rw (encode_low n high) refl
size_is (suc f) n low high =
    let s : suc f ≡ f + 1 = omega arith in
    let a : 2 ^ (7 * f) * 128 ≤ max n 1 = rw (next_scale f, ← s) low in
    let b : n < 2 ^ (7 * (f + 1)) * 128 = rw (next_scale (f + 1), ← s) high in
    rw (encode_high n (omega (arith, pow_pos (7 * f)))) (omega (arith, size_is f (n / 128) (omega arith) (omega arith)))

-- a number whose highest bit is at `top`; that of 0 is taken to be at 0
pub size_of_top : (n top : ℕ) → 2 ^ top ≤ max n 1 → max n 1 < 2 * 2 ^ top → length (encode n) ≡ top / 7 + 1
size_of_top n top low high =
    let a = pow-le-pow_right {n = 2} (omega arith) {i = 7 * (top / 7)} {j = top} (omega arith) in
    let b = pow-le-pow_right {n = 2} (omega arith) {i = top + 1} {j = 7 * (top / 7 + 1)} (omega arith) in
    size_is (top / 7) n (omega (arith, a)) (omega (arith, b, pow-add 2 top 1))
