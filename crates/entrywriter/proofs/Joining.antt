-- The bytes of numbers, part by part.
use Rattle.std.proofs.Common.{◌≡◌, ℕ, ◌+◌, ◌*◌, ◌^◌, ◌<◌, ◌≤◌, List, [], ◌∷◌, ◌++◌, length, get_or, take, drop, sym, refl, ap, ◌∙◌, append-nil, arith, length-append, take-append-drop}
use Rattle.std.specs.Int.Digits.{AllBelowBase}
use Rattle.std.proofs.ByRecursion.{All-from_get_or}
use Rattle.std.proofs.lemmas.Grind.{flat_map-append}
use Rattle.std.proofs.lemmas.List.{at_drop_more, take_more}
use Rattle.number.specs.Numbers.{encode}
use Rattle.number.proofs.Codec.{encode_few}
use Rattle.entryfile.specs.declared.entry.Entry.{Entry}
use Rattle.entryfile.specs.declared.entry.Entry.TheVariants.{Award, Lodge, Approve, Reject, BuyOut, Reduction, Start, Sheet, Standby, DayEnd, Test, Marking, Closing}
use Rattle.entryfile.specs.declared.entry.Turn.{Turn}
use Rattle.entryfile.specs.Items.{numbers_bytes, reference_bytes, item_bytes}
use Rattle.entryfile.specs.Views.{numbers_of, reference_of, item_of}
use Rattle.entrywriter.specs.Leads.{lead_of, figures_in}

-- the bytes of numbers and of more numbers after them
pub bytes_append : (xs ys : List ℕ) → numbers_bytes (xs ++ ys) ≡ numbers_bytes xs ++ numbers_bytes ys
bytes_append xs ys = flat_map-append encode xs ys

-- what is left of numbers, one number on
pub bytes_rest : (ns : List ℕ) (i : ℕ) → i < length ns → numbers_bytes (drop i ns) ≡ encode (get_or ns i 0) ++ numbers_bytes (drop (i + 1) ns)
bytes_rest ns i h = at_drop_more numbers_bytes ns i 0 h

-- how many bytes that is
pub size_more : (ns : List ℕ) (i : ℕ) → i < length ns → length (numbers_bytes (drop i ns)) ≡ length (encode (get_or ns i 0)) + length (numbers_bytes (drop (i + 1) ns))
size_more ns i h = ap length (bytes_rest ns i h) ∙ length-append (encode (get_or ns i 0)) (numbers_bytes (drop (i + 1) ns))

-- one number on
pub bytes_more : (ns : List ℕ) (i : ℕ) → i < length ns → numbers_bytes (take i ns) ++ encode (get_or ns i 0) ≡ numbers_bytes (take (i + 1) ns)
bytes_more ns i h = sym (ap numbers_bytes (take_more ns i 0 h) ∙ flat_map-append encode (take i ns) (get_or ns i 0 ∷ []) ∙ ap (λ l. numbers_bytes (take i ns) ++ l) (append-nil (encode (get_or ns i 0))))

pub room_more : (ns : List ℕ) (i : ℕ) → i < length ns → length (numbers_bytes (take i ns)) + length (encode (get_or ns i 0)) ≤ length (numbers_bytes ns)
room_more ns i h =
    let done = numbers_bytes (take (i + 1) ns) in
    let left = numbers_bytes (drop (i + 1) ns) in
    let whole : done ++ left ≡ numbers_bytes ns = sym (flat_map-append encode (take (i + 1) ns) (drop (i + 1) ns)) ∙ ap numbers_bytes (take-append-drop (i + 1) ns) in
    omega (arith, ap length whole, length-append done left, ap length (bytes_more ns i h), length-append (numbers_bytes (take i ns)) (encode (get_or ns i 0)))

-- the numbers of a slice, each of which fits 32 bits
pub under_numbers : (ns : List ℕ) → ((i : ℕ) → get_or ns i 0 < 2 ^ 32) → AllBelowBase (2 ^ 32) ns
under_numbers ns h = All-from_get_or _ ns 0 (λ i _. h i)

-- each of them takes five bytes at most
pub size_few : (ns : List ℕ) → AllBelowBase (2 ^ 32) ns → length (numbers_bytes ns) ≤ 5 * length ns
size_few [] u = omega arith
size_few (n ∷ ns) u = omega (arith, encode_few n u.0, size_few ns u.1, length-append (encode n) (numbers_bytes ns))

-- an entry's numbers are those before its figures, and the figures
pub in_parts : (s : ℕ) (e : Entry) → numbers_of s e ≡ lead_of s e ++ figures_in e
in_parts s (Award a) = refl
in_parts s (Lodge t) = refl
in_parts s (Approve d) = refl
in_parts s (Reject d) = refl
in_parts s (BuyOut o) = refl
in_parts s (Reduction o) = refl
in_parts s (Start p) = refl
in_parts s (Sheet f) = refl
in_parts s (Standby b) = refl
in_parts s (DayEnd p) = refl
in_parts s (Test c) = refl
in_parts s (Marking m) = refl
in_parts s (Closing p) = refl

-- so are their bytes
pub bytes_in_parts : (s : ℕ) (e : Entry) → numbers_bytes (numbers_of s e) ≡ numbers_bytes (lead_of s e) ++ numbers_bytes (figures_in e)
bytes_in_parts s e = ap numbers_bytes (in_parts s e) ∙ flat_map-append encode (lead_of s e) (figures_in e)

-- the parts of an entry, its numbers as the code holds them
module _ (turn : Turn) (ns : List ℕ) (ls : ns ≡ lead_of turn.sender turn.entry) where
  pub item_bytes_by_parts : (numbers_bytes ns ++ numbers_bytes (figures_in turn.entry)) ++ reference_bytes (reference_of turn.entry) ≡ item_bytes (item_of turn)
  item_bytes_by_parts = rw ls (sym (ap (λ bs. bs ++ reference_bytes (reference_of turn.entry)) (bytes_in_parts turn.sender turn.entry)))

  pub item_size : length (numbers_bytes ns) + length (numbers_bytes (figures_in turn.entry)) + length (reference_bytes (reference_of turn.entry)) ≡ length (item_bytes (item_of turn))
  item_size = sym (ap length (sym item_bytes_by_parts) ∙ simp length-append)
