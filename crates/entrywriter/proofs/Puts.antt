-- One write after another.
use Rattle.std.proofs.Common.{◌≡◌, ℕ, suc, ◌+◌, ◌≤◌, List, [], ◌∷◌, ◌++◌, length, set, refl, ap, ◌∙◌, subst, add-zero, arith, length-append}
use borrow.Rule.Slice.PartMut.{put_mid}
use Rattle.std.proofs.lemmas.List.Edits.{sets, sets-eq}
use Rattle.std.proofs.Math.Seq.{length-sets}
use Rattle.std.proofs.lemmas.Grind.{common_steps}
use Rattle.number.specs.Writes.{Wrote}
use Rattle.entrywriter.specs.declared.pen.Pen.{Pen}
use Rattle.entrywriter.specs.Pens.{Penned}

sets-append : (b : List ℕ) (at : ℕ) (xs ys : List ℕ) → sets (sets b at xs) (at + length xs) ys ≡ sets b at (xs ++ ys)
sets-append b at [] ys = ap (λ n. sets b n ys) (add-zero at)
sets-append b at (x ∷ xs) ys = ap (λ n. sets (sets (set b at x) (suc at) xs) n ys) (omega arith) ∙ sets-append (set b at x) (suc at) xs ys

-- a write leaves the buffer as long as it was
pub long : {b c : List ℕ} {at p : ℕ} {xs : List ℕ} → Wrote b at xs p c → length c ≡ length b
long {b} {c} {at} {p} {xs} v = ap length v.left ∙ length-sets b at xs

-- a write into a buffer, and a second one where it ends
pub wrote_then : {b c d : List ℕ} {at p q : ℕ} {xs ys : List ℕ} → Wrote b at xs p c → Wrote c p ys q d → Wrote b at (xs ++ ys) q d
wrote_then {b} {c} {d} {at} {p} {q} {xs} {ys} v w =
    let l = length-append xs ys in
    record {
      ends = omega (arith, v.ends, w.ends);
      within = omega (arith, v.ends, w.within, long v);
      left = w.left ∙ ap (λ a. sets a p ys) v.left ∙ ap (λ n. sets (sets b at xs) n ys) v.ends ∙ sets-append b at xs ys;
    }

pub then : {b c d : Pen} {xs ys : List ℕ} → Penned b xs c → Penned c ys d → Penned b (xs ++ ys) d
then v w = record { wrote = wrote_then v.wrote w.wrote; buffer = w.buffer ∙ v.buffer }

-- bytes that are copied into a part of the buffer
pub part : (b t u : List ℕ) (p k : ℕ) → u ≡ t → k ≡ length t → p + length t ≤ length b → Wrote b p t (p + length t) (put_mid p k b u)
part b t u p k e n h =
    record {
      ends = refl;
      within = h;
      left = rw (e, n, sets-eq t b p h) (grind (arith, common_steps));
    }

-- the same write of bytes that are known to be the same
pub same : {b c : Pen} {xs ys : List ℕ} → xs ≡ ys → Penned b xs c → Penned b ys c
same {b} {c} e v = subst (λ l. Penned b l c) e v

-- so for a write that is known by its buffer alone
pub wrote_same : {b c : List ℕ} {at p : ℕ} {xs ys : List ℕ} → xs ≡ ys → Wrote b at xs p c → Wrote b at ys p c
wrote_same {b} {c} {at} {p} e v = subst (λ l. Wrote b at l p c) e v
