-- Forms that follow one another, and a loop that reads the items of a list.
use Rattle.std.proofs.Common.{◌≡◌, ℕ, zero, suc, ◌-◌, ◌<◌, Bool, List, [], ◌∷◌, ◌++◌, Ok, Err, sym, refl, ap, ◌∙◌, append-nil, arith}
use Rattle.entryfile.specs.declared.fault.EntryFault.{EntryFault}
use Rattle.entryfile.specs.declared.fault.EntryFault.TheVariants.{OutOfRange}
use Rattle.entryfile.specs.Forms.{Form, done, Got, checked_at, more, ahead, then_at, after_field, form_at}
use Rattle.entryfile.specs.Layout.{row_form, items_form}

then_more : (rest : ℕ → Got (List ℕ)) (n : ℕ) (r : Got (List ℕ)) → more n (then_at rest r) ≡ then_at rest (more n r)
then_more rest n (Ok p) = refl
then_more rest n (Err e) = refl

pub ahead-err : (ns : List ℕ) (e : EntryFault) → ahead ns (Err e) ≡ Err e
ahead-err [] e = refl
ahead-err (n ∷ ns) e = ap (more n) (ahead-err ns e)

pub ahead-ok : (first ns : List ℕ) (q : ℕ) → ahead first (Ok (ns, q)) ≡ Ok (first ++ ns, q)
ahead-ok [] ns q = refl
ahead-ok (n ∷ first) ns q = ap (more n) (ahead-ok first ns q)

pub ahead-append : (xs ys : List ℕ) (r : Got (List ℕ)) → ahead xs (ahead ys r) ≡ ahead (xs ++ ys) r
ahead-append [] ys r = refl
ahead-append (x ∷ xs) ys r = ap (more x) (ahead-append xs ys r)

pub ahead_none : (ns : List ℕ) (at : ℕ) → ahead ns (Ok ([], at)) ≡ Ok (ns, at)
ahead_none ns at = ahead-ok ns [] at ∙ ap (λ l. Ok (l, at)) (append-nil ns)

-- one field, and then what follows: it makes no difference whether the rest stands in the form
field_then : (k l : ℕ → ℕ → Got (List ℕ)) (rest : ℕ → Got (List ℕ)) (r : Got ℕ) → ((n p : ℕ) → k n p ≡ then_at rest (l n p)) → after_field k r ≡ then_at rest (after_field l r)
field_then k l rest (Ok p) h = ap (more p.0) (h p.0 p.1) ∙ then_more rest p.0 (l p.0 p.1)
field_then k l rest (Err e) h = refl

row_then : (ranges : List (ℕ → Bool)) (rest : Form) (file : List ℕ) (at : ℕ) → form_at (row_form ranges rest) file at ≡ then_at (form_at rest file) (form_at (row_form ranges done) file at)
row_then [] rest file at = refl
row_then (test ∷ ranges) rest file at =
    field_then _ (λ n p. form_at (row_form ranges done) file p) (form_at rest file) (checked_at OutOfRange test file at) (λ n p. row_then ranges rest file p)

ahead_then : (rest : ℕ → Got (List ℕ)) (ns : List ℕ) (r : Got (List ℕ)) → ahead ns (then_at rest r) ≡ then_at rest (ahead ns r)
ahead_then rest [] r = refl
ahead_then rest (n ∷ ns) r = ap (more n) (ahead_then rest ns r) ∙ then_more rest n (ahead ns r)

then_then : (k l rest : ℕ → Got (List ℕ)) (r : Got (List ℕ)) → ((p : ℕ) → k p ≡ then_at rest (l p)) → then_at k r ≡ then_at rest (then_at l r)
then_then k l rest (Ok p) h = ap (ahead p.0) (h p.1) ∙ ahead_then rest p.0 (l p.1)
then_then k l rest (Err e) h = refl

-- the items of a list, each a row of numbers
module _ (ranges : List (ℕ → Bool)) (rest : Form) (file : List ℕ) where
  abbrev pub item : Form → Form
  item rest = row_form ranges rest

  -- one item was read
  pub item_more : (first : List ℕ) (k next p : ℕ) (ns : List ℕ) → 0 < k → Ok (ns, p) ≡ form_at (item done) file next → ahead first (form_at (items_form item k rest) file next) ≡ ahead (first ++ ns) (form_at (items_form item (k - 1) rest) file p)
  item_more first zero next p ns some e = absurd (omega arith)
  item_more first (suc k) next p ns some e =
      let left = form_at (items_form item k rest) file in
      let d : suc k - 1 ≡ k = omega arith in
      ap (ahead first) (row_then ranges (items_form item k rest) file next ∙ ap (then_at left) (sym e)) ∙ ahead-append first ns (left p) ∙ ap (λ j. ahead (first ++ ns) (form_at (items_form item j rest) file p)) (sym d)

  -- an item has a fault
  pub item_stop : (first : List ℕ) (k next : ℕ) {e : EntryFault} → 0 < k → Err e ≡ form_at (item done) file next → ahead first (form_at (items_form item k rest) file next) ≡ Err e
  item_stop first zero next some e = absurd (omega arith)
  item_stop first (suc k) next some e = ap (ahead first) (row_then ranges (items_form item k rest) file next ∙ ap (then_at (form_at (items_form item k rest) file)) (sym e)) ∙ ahead-err first _

  -- all items, and then what follows: it makes no difference whether the rest stands in the form
  pub items_then : (k at : ℕ) → form_at (items_form item k rest) file at ≡ then_at (form_at rest file) (form_at (items_form item k done) file at)
  items_then zero at = refl
  items_then (suc k) at =
      row_then ranges (items_form item k rest) file at
      ∙ then_then (form_at (items_form item k rest) file) (form_at (items_form item k done) file) (form_at rest file) (form_at (item done) file at) (items_then k)
      ∙ ap (then_at (form_at rest file)) (sym (row_then ranges (items_form item k done) file at))
