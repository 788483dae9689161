-- Reading undoes writing.
use Rattle.std.proofs.Common.{◌≡◌, ℕ, zero, suc, ◌+◌, ◌-◌, ◌^◌, ◌<◌, ◌≤◌, Bool, true, leb, List, [], ◌∷◌, ◌++◌, length, drop, None, Ok, sym, refl, ap, ◌∙◌, append_assoc, add-zero, arith, length-append, length-drop, drop-drop}
use lib.Seq.{drop-append_seam, take-append_seam}
use Rattle.std.specs.List.{between, list_all}
use Rattle.std.proofs.lemmas.Bool.{false≢true, and_parts, cond-true, cond-false, le-ltb, le-leb, lt-leb, leb-true}
use Rattle.number.specs.Numbers.{encode}
use Rattle.number.proofs.Codec.{number_reads, encode_some}
use Rattle.market.specs.Ranges.{within}
use Rattle.market.specs.declared.family.Family.{Family}
use Rattle.entryfile.specs.declared.fault.EntryFault.{EntryFault}
use Rattle.entryfile.specs.declared.fault.EntryFault.TheVariants.{OutOfRange}
use Rattle.entryfile.specs.Forms.{Form, done, field, checked_at, more, after_field, form_at, accepts}
use Rattle.entryfile.specs.Layout.{entry_form}
use Rattle.entryfile.specs.Items.{Item, printable, whole_text, text_at, after_length, reference_at, reference_fits, called, with_reference, numbers_bytes, reference_bytes, item_bytes}
use Rattle.entryfile.specs.Files.{listing, also, go_on, entries_by, items_bytes}
use Rattle.entryfile.specs.Laws.{Written, AllGood, FormReads, EntryReads, EntriesRead}
use Rattle.entryfile.proofs.Checks.{check_ok}

drop_past : (file : List ℕ) (at : ℕ) (bs post : List ℕ) → drop at file ≡ bs ++ post → drop (at + length bs) file ≡ post
drop_past file at bs post e = sym (drop-drop (length bs) at file) ∙ ap (drop (length bs)) e ∙ drop-append_seam bs post

past : (at : ℕ) (xs ys : List ℕ) → at + length xs + length ys ≡ at + length (xs ++ ys)
past at xs ys = omega (arith, length-append xs ys)

checked_reads : (fault : ℕ → EntryFault) (test : ℕ → Bool) (file : List ℕ) (at n : ℕ) (post : List ℕ) → test n ≡ true → n < 2 ^ 32 → drop at file ≡ encode n ++ post → checked_at fault test file at ≡ Ok (n, at + length (encode n))
checked_reads fault test file at n post t h e = sym (check_ok fault test file at (sym (number_reads file at n post h e)) t)

pub form_reads : FormReads
form_reads done [] file at post w e = ap (λ q. Ok ([], q)) (sym (add-zero at))
form_reads done (n ∷ ns) file at post w e = absurd (false≢true w.fits)
form_reads (field fault test rest) [] file at post w e = absurd (false≢true w.fits)
form_reads (field fault test rest) (n ∷ ns) file at post w e =
    let bs = encode n in
    let e' = e ∙ append_assoc bs (numbers_bytes ns) post in
    let (t, fits) = and_parts (test n) (accepts (rest n) ns) w.fits in
    ap (after_field (λ m. form_at (rest m) file)) (checked_reads fault test file at n (numbers_bytes ns ++ post) t w.small.0 e')
    ∙ ap (more n) (form_reads (rest n) ns file (at + length bs) post (record { fits = fits; small = w.small.1 }) (drop_past file at bs (numbers_bytes ns ++ post) e'))
    ∙ ap (λ q. Ok (n ∷ ns, q)) (past at bs (numbers_bytes ns))

text_reads : (file : List ℕ) (at : ℕ) (t post : List ℕ) → list_all printable t ≡ true → drop at file ≡ t ++ post → text_at (length t) file at ≡ Ok (t, at + length t)
unfolding text_at
text_reads file at t post p e =
    let n = length t in
    let room : n ≤ length file - at = omega (arith, length-drop at file, ap length e, length-append t post) in
    let k : at + n - at ≡ n = omega arith in
    let part : between at (at + n) file ≡ t = rw (k, e) (take-append_seam t post) in
    cond-false _ _ _ (le-ltb (length file - at) n room) ∙ ap (λ l. whole_text l at (at + n)) part ∙ cond-true _ _ _ p

pub reference_reads : (file : List ℕ) (at : ℕ) (t post : List ℕ) → reference_fits t ≡ true → drop at file ≡ reference_bytes t ++ post → reference_at file at ≡ Ok (t, at + length (reference_bytes t))
reference_reads file at t post f e =
    let bs = encode (length t) in
    let e' = e ∙ append_assoc bs t post in
    let (short, p) = and_parts (within 0 32 (length t)) (list_all printable t) f in
    let small = leb-true (length t) 32 (and_parts (leb 0 (length t)) (leb (length t) 32) short).1 in
    ap (after_length file) (checked_reads OutOfRange (within 0 32) file at (length t) (t ++ post) short (omega arith) e')
    ∙ text_reads file (at + length bs) t post p (drop_past file at bs (t ++ post) e')
    ∙ ap (λ q. Ok (t, q)) (past at bs t)

-- numbers of any form and a reference after them
with_reads : (form : Form) (file : List ℕ) (at : ℕ) (i : Item) (post : List ℕ) → Written form i.numbers → reference_fits i.reference ≡ true → drop at file ≡ item_bytes i ++ post → with_reference file (form_at form file at) ≡ Ok (i, at + length (item_bytes i))
with_reads form file at i post w f e =
    let bs = numbers_bytes i.numbers in
    let ts = reference_bytes i.reference in
    let e' = e ∙ append_assoc bs ts post in
    ap (with_reference file) (form_reads form i.numbers file at (ts ++ post) w e')
    ∙ ap (called i.numbers) (reference_reads file (at + length bs) i.reference post f (drop_past file at bs (ts ++ post) e'))
    ∙ ap (λ q. Ok (i, q)) (past at bs ts)

pub entry_reads : EntryReads
entry_reads zones families file at i post g e = with_reads (entry_form zones families) file at i post g.written g.reference e

item-some : (i : Item) → 0 < length (item_bytes i)
item-some i =
    let t = i.reference in
    omega (arith, length-append (numbers_bytes i.numbers) (reference_bytes t), length-append (encode (length t)) t, encode_some (length t))

items-some : (is : List Item) → length is ≤ length (items_bytes is)
items-some [] = omega arith
items-some (i ∷ is) = omega (arith, length-append (item_bytes i) (items_bytes is), item-some i, items-some is)

module _ (zones : ℕ) (families : List Family) (file : List ℕ) where
  in_turns : (is : List Item) (turns at : ℕ) → AllGood zones families is → at ≤ length file → drop at file ≡ items_bytes is → length is ≤ turns → entries_by turns zones families file at ≡ listing is None
  unfolding entries_by
  in_turns [] zero at g l e h = refl
  in_turns [] (suc turns) at g l e h = cond-true _ _ _ (le-leb (length file) at (omega (arith, length-drop at file, ap length e)))
  in_turns (i ∷ is) zero at g l e h = absurd (omega arith)
  in_turns (i ∷ is) (suc turns) at g l e h =
      let bs = item_bytes i in
      let rest = items_bytes is in
      let long = ap length e ∙ length-append bs rest in
      let some = item-some i in
      let d = length-drop at file in
      cond-false _ _ _ (lt-leb (length file) at (omega arith))
      ∙ ap (go_on (entries_by turns zones families file)) (entry_reads zones families file at i rest g.0 e)
      ∙ ap (also i) (in_turns is turns (at + length bs) g.1 (omega arith) (drop_past file at bs rest e) (omega arith))

pub entries_read : EntriesRead
entries_read zones families file at is g l e = in_turns zones families file is (length file) at g l e (omega (arith, length-drop at file, ap length e, items-some is))
