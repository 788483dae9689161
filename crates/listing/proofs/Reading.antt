-- A buffer that is filled by one read after another.
use Rattle.std.proofs.Common.{◌≡◌, ℕ, ◌+◌, ◌≤◌, List, ◌++◌, length, take, sym, ap, ◌∙◌, length-take-le}
use Rattle.std.proofs.Math.Seq.{take-append-add}
use Rattle.std.proofs.lemmas.List.{take-append-le}
use borrow.Rule.Slice.PartMut.{put_mid, post_of}

-- what was read stands behind what stood before it
pub filled_more : {A : Type 0} (at room n : ℕ) (xs ys : List A) → at ≤ length xs → n ≤ length ys → take at xs ++ take n ys ≡ take (at + n) (put_mid at room xs ys)
filled_more at room n xs ys within fits =
    let after = ys ++ post_of at room xs in
    sym (ap (λ k. take (k + n) (take at xs ++ after)) (sym (length-take-le at xs within)) ∙ take-append-add (take at xs) after n ∙ ap (λ l. take at xs ++ l) (take-append-le n ys (post_of at room xs) fits))
