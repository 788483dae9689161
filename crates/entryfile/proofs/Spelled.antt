-- The numbers that bytes spell.
use Rattle.std.proofs.Common.{◌≡◌, ℕ, zero, suc, ◌^◌, ◌<◌, ◌≤◌, true, leb, List, [], ◌∷◌, ◌++◌, length, drop, Ok, Err, sym, refl, ap, ◌∙◌, append-nil, zero-add, arith, length-append, length-drop, take-append-drop}
use lib.Seq.{drop-append_seam}
use Rattle.std.specs.Int.Digits.{AllBelowBase}
use Rattle.std.specs.List.{between}
use Rattle.std.proofs.ByRecursion.{All-take, All-drop}
use Rattle.std.proofs.lemmas.Slice.{between_to_end}
use Rattle.std.proofs.lemmas.Bool.{false≢true, and_parts, leb-true}
use Rattle.number.specs.Numbers.{encode, decode, Decoded}
use Rattle.number.proofs.Codec.{read_undoes_write, write_undoes_read, encode_some, got}
use Rattle.entryfile.specs.Forms.{Got, form_at, end_of, accepts}
use Rattle.market.specs.Ranges.{within, limit}
use Rattle.entryfile.specs.Layout.{figures_form}
use Rattle.entryfile.specs.Items.{numbers_bytes}
use Rattle.entryfile.specs.Views.{and_then, numbers_by, numbers_in}
use Rattle.entryfile.proofs.Reading.{form_reads}
use Rattle.entryfile.proofs.Writing.{form_writes}

one_more : (turns : ℕ) (bytes : List ℕ) (n k : ℕ) → decode bytes ≡ Ok (n, k) → 0 < length bytes → numbers_by (suc turns) bytes ≡ n ∷ numbers_by turns (drop k bytes)
unfolding numbers_by
one_more turns [] n k e h = absurd (omega arith)
one_more turns (b ∷ bs) n k e h = ap (and_then (numbers_by turns) (b ∷ bs)) e

-- a turn for each byte is enough
in_turns : (ns : List ℕ) (turns : ℕ) → AllBelowBase (2 ^ 32) ns → length (numbers_bytes ns) ≤ turns → numbers_by turns (numbers_bytes ns) ≡ ns
unfolding numbers_by
in_turns [] zero u h = refl
in_turns [] (suc turns) u h = refl
in_turns (n ∷ ns) zero u h = absurd (omega (arith, encode_some n, length-append (encode n) (numbers_bytes ns)))
in_turns (n ∷ ns) (suc turns) u h =
    let rest = numbers_bytes ns in
    let some = encode_some n in
    let long = length-append (encode n) rest in
    one_more turns (encode n ++ rest) n (length (encode n)) (read_undoes_write n rest u.0) (omega arith)
    ∙ ap (λ l. n ∷ numbers_by turns l) (drop-append_seam (encode n) rest)
    ∙ ap (λ l. n ∷ l) (in_turns ns turns u.1 (omega arith))

pub numbers_in-numbers_bytes : (ns : List ℕ) → AllBelowBase (2 ^ 32) ns → numbers_in (numbers_bytes ns) ≡ ns
unfolding numbers_in
numbers_in-numbers_bytes ns u = in_turns ns (length (numbers_bytes ns)) u (omega arith)

-- a reading that succeeded
end_is : (end : ℕ) (r : Got (List ℕ)) → Ok end ≡ end_of r → (ns : List ℕ) × (r ≡ Ok (ns, end))
end_is end (Ok p) e = let q : p.1 ≡ end = cc in (p.0, ap (λ x. Ok (p.0, x)) q)
end_is end (Err x) e = let z : ◌≡◌ {A = ℕ} 0 1 = cc in absurd (omega arith)

pub figures_part : (count : ℕ) (file : List ℕ) (at end : ℕ) → AllBelowBase 256 file → at ≤ length file → Ok end ≡ end_of (form_at (figures_form count) file at) → Ok (numbers_in (between at end file), end) ≡ form_at (figures_form count) file at
figures_part count file at end u h e =
    let (ns, r) = end_is end (form_at (figures_form count) file at) e in
    let (w, s) = form_writes (figures_form count) file ns at end u h r in
    ap (λ l. Ok (numbers_in l, end)) (sym s.is) ∙ ap (λ l. Ok (l, end)) (numbers_in-numbers_bytes ns w.small) ∙ sym r

module _ (bytes : List ℕ) (u : AllBelowBase 256 bytes) (rest : List ℕ → List ℕ) where
  spelled_on : ((k : ℕ) → 0 < k → AllBelowBase (2 ^ 32) (rest (drop k bytes)) → numbers_bytes (rest (drop k bytes)) ≡ drop k bytes) → (r : Decoded) → decode bytes ≡ r → AllBelowBase (2 ^ 32) (and_then rest bytes r) → numbers_bytes (and_then rest bytes r) ≡ bytes
  spelled_on then (Ok p) e small =
      let k = p.1 in
      ap (λ l. encode p.0 ++ l) (then k (got bytes p.0 k e).least small.1)
      ∙ ap (λ l. l ++ drop k bytes) (write_undoes_read bytes p.0 k (All-take _ k bytes u) e)
      ∙ take-append-drop k bytes
  spelled_on then (Err x) e small = let h = small.0 in absurd (omega arith)

spelled_in : (turns : ℕ) (bytes : List ℕ) → AllBelowBase 256 bytes → length bytes ≤ turns → AllBelowBase (2 ^ 32) (numbers_by turns bytes) → numbers_bytes (numbers_by turns bytes) ≡ bytes
unfolding numbers_by
spelled_in zero [] u h small = refl
spelled_in (suc turns) [] u h small = refl
spelled_in zero (b ∷ bs) u h small = absurd (omega arith)
spelled_in (suc turns) (b ∷ bs) u h small =
    spelled_on (b ∷ bs) u (numbers_by turns)
    (λ k some. spelled_in turns (drop k (b ∷ bs)) (All-drop _ k (b ∷ bs) u) (omega (arith, length-drop k (b ∷ bs))))
    (decode (b ∷ bs)) refl small

pub numbers_spelled : (bytes : List ℕ) → AllBelowBase 256 bytes → AllBelowBase (2 ^ 32) (numbers_in bytes) → numbers_bytes (numbers_in bytes) ≡ bytes
unfolding numbers_in
numbers_spelled bytes u small = spelled_in (length bytes) bytes u (omega arith) small

-- a figure is at most 100,000, so it fits in 32 bits
pub figures_small : (count : ℕ) (ns : List ℕ) → accepts (figures_form count) ns ≡ true → AllBelowBase (2 ^ 32) ns
figures_small zero [] a = tt
figures_small zero (n ∷ ns) a = absurd (false≢true a)
figures_small (suc count) [] a = absurd (false≢true a)
figures_small (suc count) (n ∷ ns) a =
    let (here, rest) = and_parts (within 0 limit n) (accepts (figures_form count) ns) a in
    let h = leb-true n limit (and_parts (leb 0 n) (leb n limit) here).1 in
    (omega arith, figures_small count ns rest)

pub figures_accept : (count : ℕ) (bytes : List ℕ) → AllBelowBase 256 bytes → Ok (length bytes) ≡ end_of (form_at (figures_form count) bytes 0) → accepts (figures_form count) (numbers_in bytes) ≡ true
figures_accept count bytes u e =
    let (ns, r) = end_is (length bytes) (form_at (figures_form count) bytes 0) e in
    let (w, s) = form_writes (figures_form count) bytes ns 0 (length bytes) u (omega arith) r in
    let same : numbers_bytes ns ≡ bytes = s.is ∙ between_to_end bytes 0 (length bytes) (omega arith) in
    ap (λ l. accepts (figures_form count) (numbers_in l)) (sym same) ∙ ap (accepts (figures_form count)) (numbers_in-numbers_bytes ns w.small) ∙ w.fits

pub figures_accept_back : (count : ℕ) (bytes : List ℕ) → AllBelowBase 256 bytes → accepts (figures_form count) (numbers_in bytes) ≡ true → Ok (length bytes) ≡ end_of (form_at (figures_form count) bytes 0)
figures_accept_back count bytes u a =
    let ns = numbers_in bytes in
    let small = figures_small count ns a in
    let same = numbers_spelled bytes u small in
    let r = form_reads (figures_form count) ns bytes 0 [] (record { fits = a; small = small }) (sym same ∙ sym (append-nil (numbers_bytes ns))) in
    ap (λ l. Ok (length l)) (sym same) ∙ ap Ok (sym (zero-add (length (numbers_bytes ns)))) ∙ sym (ap end_of r)
