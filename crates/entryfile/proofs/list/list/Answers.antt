use Rattle.std.proofs.Common.{rules, ◌≡◌, ◌+◌, ◌-◌, leb, [], ◌∷◌, ◌++◌, length, refl, sym, ap, ◌∙◌, append-nil, arith, length-append}
use Rattle.std.specs.List.{flat_map}
use Rattle.std.proofs.lemmas.Bool.{and_parts, leb-true}
use Rattle.std.proofs.lemmas.Grind.{flat_map-append}
use Rattle.upto.specs.Listed.{listed}
use Rattle.entryfile.specs.Forms.{more, then_at, after_field, form_at}
use Rattle.entryfile.specs.Layout.{row_form, items_form}
use Rattle.entryfile.specs.Views.{view_by}
use Rattle.entryfile.specs.Lists.{list_numbers}
use Rattle.entryfile.specs.Cursors.{moved}
use Rattle.entryfile.proofs.Checks.{exit, check_passed}
use Rattle.entryfile.proofs.Sequence.{item_more, item_stop}
use Rattle.entryfile.proofs.list.list.Goals as goal

pub returns-in_err-read-clause-is : goal.returns-in_err-read-clause-is
returns-in_err-read-clause-is g c rest =
    let I = g.T.ListItem in
    let file = c.args.cursor.now.file.now in
    let count = c.in_ok-count.count in
    ap (after_field (λ n x. form_at (items_form (row_form I.ranges) n rest) file x)) (sym c.in_ok-count.ensures.is)
    ∙ ap (λ f. more count (form_at (items_form (row_form I.ranges) count rest) f.now c.range.new.self.place)) (sym c.in_ok-count.ensures.file)
    ∙ ap (more count) (c.loop-item.invariant.0 rest ∙ item_stop I.ranges rest c.loop-item.cursor.file.now (flat_map I.numbers (listed c.loop-item.items)) (count - c.loop-item._item) c.loop-item.cursor.place (omega arith) c.in_err-read.ensures.is)
    ∙ sym (ap (λ r. then_at (form_at rest file) (view_by (list_numbers I.numbers) (moved r c.read.new.cursor))) (exit _ c.from_residual-in_err-read.ensures.1))

pub unwrap-requires : goal.unwrap-requires
unwrap-requires g c =
    let count = c.in_ok-count.count in
    let few = leb-true count g.row.N (and_parts (leb 1 count) (leb count g.row.N) (check_passed _ _ _ _ c.in_ok-count.ensures.is)).1 in
    c.push.ensures.room.1 (omega (arith, few, c.loop-item.invariant.1))

pub loop-item-preserved : goal.loop-item-preserved
loop-item-preserved g c =
    let I = g.T.ListItem in
    let told = c.in_ok-read.ensures in
    let before = listed c.loop-item.items in
    let item = c.in_ok-read.field-0 in
    let k = c.in_ok-count.count - c.loop-item._item in
    let fewer : k - 1 ≡ c.in_ok-count.count - (c.loop-item._item + 1) = omega arith in
    let grown : listed c.push.new.self ≡ before ++ item ∷ [] = search rules in
    let numbers : flat_map I.numbers before ++ I.numbers item ≡ flat_map I.numbers (listed c.push.new.self) = ap (λ l. flat_map I.numbers before ++ l) (sym (append-nil (I.numbers item))) ∙ sym (flat_map-append I.numbers before (item ∷ [])) ∙ ap (flat_map I.numbers) (sym grown) in (
      λ rest. c.loop-item.invariant.0 rest
          ∙ item_more I.ranges rest c.loop-item.cursor.file.now (flat_map I.numbers before) k c.loop-item.cursor.place c.read.new.cursor.place (I.numbers item) (omega arith) told.is
          ∙ rw (numbers, fewer, told.file) refl,
      ap length grown ∙ length-append before (item ∷ []) ∙ ap (λ n. n + 1) c.loop-item.invariant.1,
      told.file ∙ c.loop-item.invariant.2,
    )
