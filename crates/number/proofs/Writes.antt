-- How writing a number goes from one byte to the next.
use Rattle.std.proofs.Common.{◌≡◌, ℕ, ◌+◌, ◌/◌, ◌%◌, ◌<◌, ◌≤◌, ◌⊎◌, List, [], ◌∷◌, length, get_or, take, drop, sym, ap, ◌∙◌, ⊎_elim, arith, length-drop}
use Rattle.std.proofs.Math.ListN.{set}
use Rattle.std.proofs.lemmas.Grind.{common_steps}
use Rattle.std.proofs.lemmas.List.{drop_more, take_all}
use Rattle.std.proofs.lemmas.List.Edits.{sets, sets-eq}
use borrow.Rule.Slice.PartMut.{put_mid}
use Rattle.number.specs.Writes.{Wrote}
use Rattle.number.specs.Numbers.{encode}
use Rattle.number.proofs.Codec.{encode_low, encode_high, encode_some, read_undoes_write}

-- the state of a writing of `bytes`, before the byte at `next`: `room` has those before it, and `rest` gives the others
pub record Writing (bytes room : List ℕ) (next rest : ℕ) : Type 0 where
  pub done : take next room ≡ take next bytes
  pub left : next < length bytes → drop next bytes ≡ encode rest

pub writing_more : (bytes room : List ℕ) (next rest byte : ℕ) → Writing bytes room next rest → next < length bytes → next < length room → ((rest < 128) × (byte ≡ rest)) ⊎ ((128 ≤ rest) × (byte ≡ rest % 128 + 128)) → Writing bytes (set room next byte) (next + 1) (rest / 128)
writing_more bytes room next rest byte w in' in'' either =
    let e : get_or bytes next 0 ∷ drop (next + 1) bytes ≡ encode rest = sym (drop_more bytes next 0 in') ∙ w.left in' in
    let b : byte ≡ get_or bytes next 0 = ⊎_elim (λ l. let x = e ∙ encode_low rest l.0 in cc) (λ h. let x = e ∙ encode_high rest h.0 in cc) either in
    record {
      done = grind (arith, common_steps, w.done, b);
      left = λ more. ⊎_elim (λ l. let x = e ∙ encode_low rest l.0 in let y : drop (next + 1) bytes ≡ [] = cc in absurd (omega (arith, ap length y, length-drop (next + 1) bytes))) (λ h. let x = e ∙ encode_high rest h.0 in cc) either;
    }

put_mid_sets : (was bytes : List ℕ) (at : ℕ) → at + length bytes ≤ length was → put_mid at (length bytes) was bytes ≡ sets was at bytes
put_mid_sets was bytes at h = rw sets-eq (grind (arith, common_steps))

-- all of them are written, into the part of the buffer that `room` was
pub written : (was bytes room : List ℕ) (at start count end next rest : ℕ) → Writing bytes room next rest → length room ≤ next → length room ≡ count → start ≡ at → count ≡ length bytes → end ≡ at + count → end ≤ length was → Wrote was at bytes end (put_mid start count was room)
written was bytes room at start count end next rest w full long from all e within =
    let same : room ≡ bytes = sym (take_all next room full) ∙ w.done ∙ take_all next bytes (omega arith) in
    let fits : at + length bytes ≤ length was = omega arith in
    record {
      ends = omega arith;
      within = fits;
      left = rw (same, from, all) (put_mid_sets was bytes at fits);
    }

-- what `write_number` asks for besides
pub ruleset writings = (read_undoes_write, encode_some)
