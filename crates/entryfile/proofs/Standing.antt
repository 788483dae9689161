-- Bytes that stand in a file, one part after another.
use Rattle.std.proofs.Common.{◌≡◌, ℕ, ◌+◌, ◌-◌, ◌≤◌, List, [], ◌++◌, length, take, drop, sym, ap, ◌∙◌, arith, drop-drop, take-add}
use Rattle.std.specs.List.{between}
use Rattle.entryfile.specs.Laws.{Stands}

pub stands_none : (file : List ℕ) (at : ℕ) → at ≤ length file → Stands file at [] at
stands_none file at h = let k : at - at ≡ 0 = omega arith in record { is = rw k; on = omega arith; within = h }

-- what is left at a later place
pub drop_on : (file : List ℕ) (at p : ℕ) → at ≤ p → drop (p - at) (drop at file) ≡ drop p file
drop_on file at p h = drop-drop (p - at) at file ∙ ap (λ n. drop n file) (omega arith)

pub stands_join : (file : List ℕ) (at p q : ℕ) (xs ys : List ℕ) → Stands file at xs p → Stands file p ys q → Stands file at (xs ++ ys) q
stands_join file at p q xs ys s t =
    let on = s.on in
    let on' = t.on in
    let k : q - at ≡ (p - at) + (q - p) = omega arith in
    record {
      is = ap (λ l. l ++ ys) s.is ∙ ap (λ l. between at p file ++ l) t.is ∙ ap (λ l. between at p file ++ take (q - p) l) (sym (drop_on file at p on)) ∙ sym (take-add (p - at) (q - p) (drop at file)) ∙ ap (λ n. take n (drop at file)) (sym k);
      on = omega arith;
      within = t.within;
    }
