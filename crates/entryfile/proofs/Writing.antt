-- Writing undoes reading.
use Rattle.std.proofs.Common.{◌≡◌, ℕ, zero, suc, ◌+◌, ◌-◌, ◌^◌, ◌<◌, ◌≤◌, Bool, true, ltb, leb, List, ◌∷◌, ◌++◌, length, drop, IfOk, Some, None, Ok, Err, Option, Result, sym, refl, ap, ◌∙◌, subst, arith, take-append-drop}
use Rattle.std.specs.Int.Digits.{AllBelowBase}
use Rattle.std.specs.List.{between, list_all}
use Rattle.std.proofs.lemmas.List.Edits.{length-between}
use Rattle.std.proofs.lemmas.List.{drop_all}
use Rattle.std.proofs.lemmas.Result.{IfOk-at_ok, IfOk-weaker}
use Rattle.std.proofs.lemmas.Bool.{cond_both, and_from, ltb-false, leb-true}
use Rattle.number.specs.Numbers.{encode, number_at}
use Rattle.number.specs.declared.NumberFault.{NumberFault}
use Rattle.number.proofs.Codec.{number_same}
use Rattle.market.specs.Ranges.{within}
use Rattle.market.specs.declared.family.Family.{Family}
use Rattle.entryfile.specs.declared.fault.EntryFault.{EntryFault}
use Rattle.entryfile.specs.declared.fault.EntryFault.TheVariants.{OutOfRange}
use Rattle.entryfile.specs.Forms.{Form, done, field, Got, checked, checked_at, more, after_field, form_at}
use Rattle.entryfile.specs.Layout.{entry_form}
use Rattle.entryfile.specs.Items.{Item, printable, text_at, after_length, reference_at, reference_fits, called, with_reference, entry_at, numbers_bytes, reference_bytes, item_bytes}
use Rattle.entryfile.specs.Files.{Listing, go_on, entries_by, items_bytes}
use Rattle.entryfile.specs.Laws.{Written, Stands, Good, AllGood, FormWrites, EntryWrites, EntriesWrite}
use Rattle.entryfile.proofs.Standing.{stands_none, stands_join, drop_on}

module _ (file : List ℕ) (under : AllBelowBase 256 file) where
  -- a number that was read and passed its test
  record Held (test : ℕ → Bool) (at n end : ℕ) : Type 0 where
    passes : test n ≡ true
    small : n < 2 ^ 32
    stands : Stands file at (encode n) end
    after : at < end

  checked_is : (fault : ℕ → EntryFault) (test : ℕ → Bool) (at : ℕ) (r : Result (ℕ × ℕ) NumberFault) → number_at file at ≡ r → IfOk (checked fault test at r) (λ q. Held test at q.0 q.1)
  checked_is fault test at (Ok p) e =
      let (same, after, end, small) = number_same file under at p.0 p.1 e in
      cond_both (test p.0) _ _ (λ r. IfOk r (λ q. Held test at q.0 q.1))
      (λ t. record { passes = t; small = small; stands = record { is = same; on = omega arith; within = end }; after = after })
      (λ _. tt)
  checked_is fault test at (Err x) e = tt

  checked_holds : (fault : ℕ → EntryFault) (test : ℕ → Bool) (at : ℕ) → IfOk (checked_at fault test file at) (λ q. Held test at q.0 q.1)
  unfolding checked_at
  checked_holds fault test at = checked_is fault test at (number_at file at) refl

  abbrev Has : Form → ℕ → List ℕ × ℕ → Type 0
  Has form at q = Written form q.0 × Stands file at (numbers_bytes q.0) q.1

  module _ (fault : ℕ → EntryFault) (test : ℕ → Bool) (rest : ℕ → Form) (at : ℕ) where
    more-has : (n p : ℕ) (r : Got (List ℕ)) → Held test at n p → IfOk r (Has (rest n) p) → IfOk (more n r) (Has (field fault test rest) at)
    more-has n p (Ok q) h (w, s) = (record { fits = and_from _ _ h.passes w.fits; small = (h.small, w.small) }, stands_join file at p q.1 (encode n) (numbers_bytes q.0) h.stands s)
    more-has n p (Err e) h t = tt

    field-has : ((n p : ℕ) → p ≤ length file → IfOk (form_at (rest n) file p) (Has (rest n) p)) → (r : Got ℕ) → IfOk r (λ q. Held test at q.0 q.1) → IfOk (after_field (λ n. form_at (rest n) file) r) (Has (field fault test rest) at)
    field-has then (Ok q) h = more-has q.0 q.1 (form_at (rest q.0) file q.1) h (then q.0 q.1 h.stands.within)
    field-has then (Err e) h = tt

  form_has : (form : Form) (at : ℕ) → at ≤ length file → IfOk (form_at form file at) (Has form at)
  form_has done at h = (record { fits = refl; small = tt }, stands_none file at h)
  form_has (field fault test rest) at h = field-has fault test rest at (λ n p l. form_has (rest n) p l) (checked_at fault test file at) (checked_holds fault test at)

  -- so many printable bytes
  abbrev Text : ℕ → ℕ → List ℕ × ℕ → Type 0
  Text n at q = (list_all printable q.0 ≡ true) × (length q.0 ≡ n) × Stands file at q.0 q.1

  text_has : (n at : ℕ) → at ≤ length file → IfOk (text_at n file at) (Text n at)
  unfolding text_at
  text_has n at h =
      cond_both (ltb (length file - at) n) _ _ (λ r. IfOk {E = EntryFault} r (Text n at)) (λ _. tt)
      (λ e.
      let room = ltb-false (length file - at) n e in
      let end : at + n ≤ length file = omega arith in
      let k : at + n - at ≡ n = omega arith in
      cond_both (list_all printable (between at (at + n) file)) _ _ (λ r. IfOk {E = EntryFault} r (Text n at))
      (λ p. (p, length-between file at (at + n) end ∙ k, record { is = refl; on = omega arith; within = end }))
      (λ _. tt))

  abbrev Named : ℕ → List ℕ × ℕ → Type 0
  Named at q = (reference_fits q.0 ≡ true) × Stands file at (reference_bytes q.0) q.1 × (at < q.1)

  length_has : (at : ℕ) (r : Got ℕ) → IfOk r (λ q. Held (within 0 32) at q.0 q.1) → IfOk (after_length file r) (Named at)
  length_has at (Ok p) h =
      IfOk-weaker (text_at p.0 file p.1) (Text p.0 p.1) (Named at)
      (λ q (t, long, s).
      let after = h.after in
      let on = s.on in
      (and_from _ _ (ap (within 0 32) long ∙ h.passes) t, stands_join file at p.1 q.1 (encode (length q.0)) q.0 (rw long h.stands) s, omega arith))
      (text_has p.0 p.1 h.stands.within)
  length_has at (Err e) h = tt

  reference_has : (at : ℕ) → IfOk (reference_at file at) (Named at)
  reference_has at = length_has at (checked_at OutOfRange (within 0 32) file at) (checked_holds OutOfRange (within 0 32) at)

  -- numbers of a form and a reference after them
  abbrev Whole : Form → ℕ → Item × ℕ → Type 0
  Whole form at q = Written form q.0.numbers × (reference_fits q.0.reference ≡ true) × Stands file at (item_bytes q.0) q.1 × (at < q.1)

  called_has : (form : Form) (at p : ℕ) (ns : List ℕ) → Has form at (ns, p) → (r : Got (List ℕ)) → IfOk r (Named p) → IfOk (called ns r) (Whole form at)
  called_has form at p ns (w, s) (Ok q) (f, t, after) = let on = s.on in (w, f, stands_join file at p q.1 (numbers_bytes ns) (reference_bytes q.0) s t, omega arith)
  called_has form at p ns h (Err e) t = tt

  with_has : (form : Form) (at : ℕ) (r : Got (List ℕ)) → IfOk r (Has form at) → IfOk (with_reference file r) (Whole form at)
  with_has form at (Ok p) h = called_has form at p.1 p.0 h (reference_at file p.1) (reference_has p.1)
  with_has form at (Err e) h = tt

  module _ (zones : ℕ) (families : List Family) where
    entry_has : (at : ℕ) → at ≤ length file → IfOk (entry_at zones families file at) (Whole (entry_form zones families) at)
    entry_has at h = with_has (entry_form zones families) at (form_at (entry_form zones families) file at) (form_has (entry_form zones families) at h)

    -- entries that are all that is left of the file, if no fault ends the reading
    abbrev Left : ℕ → List Item → Option EntryFault → Type 0
    Left at is None = AllGood zones families is × (items_bytes is ≡ drop at file)
    Left at is (Some e) = Unit {0}

    also-left : (at p : ℕ) (i : Item) (is : List Item) (f : Option EntryFault) → Good zones families i → Stands file at (item_bytes i) p → Left p is f → Left at (i ∷ is) f
    also-left at p i is None g s (gs, e) =
        ((g, gs), ap (λ l. l ++ items_bytes is) s.is ∙ ap (λ l. between at p file ++ l) (e ∙ sym (drop_on file at p s.on)) ∙ take-append-drop (p - at) (drop at file))
    also-left at p i is (Some e) g s l = tt

    on-left : (at : ℕ) (k : ℕ → Listing) → ((p : ℕ) → at < p → p ≤ length file → Left p (k p).items (k p).fault) → (r : Got Item) → IfOk r (Whole (entry_form zones families) at) → Left at (go_on k r).items (go_on k r).fault
    on-left at k then (Ok q) (w, f, s, after) = also-left at q.1 q.0 (k q.1).items (k q.1).fault (record { written = w; reference = f }) s (then q.1 after s.within)
    on-left at k then (Err e) h = tt

    entries-left : (turns at : ℕ) → at ≤ length file → length file ≤ at + turns → Left at (entries_by turns zones families file at).items (entries_by turns zones families file at).fault
    unfolding entries_by
    entries-left zero at h t = (tt, sym (drop_all at file (omega arith)))
    entries-left (suc turns) at h t =
        cond_both (leb (length file) at) _ _ (λ (l : Listing). Left at l.items l.fault)
        (λ e. (tt, sym (drop_all at file (leb-true (length file) at e))))
        (λ _. on-left at (entries_by turns zones families file) (λ p after end. entries-left turns p end (omega arith)) (entry_at zones families file at) (entry_has at h))

pub form_writes : FormWrites
form_writes form file ns at end under h e = IfOk-at_ok (Has file under form at) e (form_has file under form at h)

pub entry_writes : EntryWrites
entry_writes zones families file at i end under h e =
    let (w, f, s, after) = IfOk-at_ok (Whole file under (entry_form zones families) at) e (entry_has file under zones families at h) in
    (record { written = w; reference = f }, s, after)

pub entries_write : EntriesWrite
entries_write zones families file at is under h e = subst (λ (l : Listing). Left file under zones families at l.items l.fault) e (entries-left file under zones families (length file) at h (omega arith))
