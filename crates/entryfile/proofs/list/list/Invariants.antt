use Rattle.std.proofs.Common.{◌≡◌, ◌-◌, length}
use Rattle.std.specs.List.{flat_map}
use Rattle.upto.specs.Listed.{listed}
use Rattle.entryfile.specs.Forms.{Form, ahead, form_at}
use Rattle.entryfile.specs.Layout.{row_form, items_form}
use Rattle.entryfile.specs.Cursors.{SameFile}
use Rattle.entryfile.proofs.list.list.Given as goal

-- what was read stands before what is left to read
abbrev pub invariant-loop-item : goal.invariant-loop-item
invariant-loop-item g l = ((rest : Form) → form_at (items_form (row_form g.T.ListItem.ranges) l.count rest) l.initial.cursor.file.now l.initial.cursor.place ≡ ahead (flat_map g.T.ListItem.numbers (listed l.items)) (form_at (items_form (row_form g.T.ListItem.ranges) (l.count - l._item) rest) l.cursor.file.now l.cursor.place)) × (length (listed l.items) ≡ l._item) × SameFile l.initial.cursor l.cursor
