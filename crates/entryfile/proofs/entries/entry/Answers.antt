use Rattle.std.proofs.Common.{rules, [], ◌∷◌, sym, ap, ◌∙◌}
use Rattle.entryfile.specs.declared.entry.Entry.TheVariants as entries
use Rattle.entryfile.specs.Layout.{fields_form}
use Rattle.entryfile.specs.Items.{entry_with}
use Rattle.entryfile.specs.Numbering.{entry_number}
use Rattle.entryfile.proofs.Mapped.{mapped}
use Rattle.entryfile.proofs.entries.entry.Goals as goal

pub returns-in-Award-clause-is : goal.returns-in-Award-clause-is
returns-in-Award-clause-is c s =
    mapped entries.Award s c.new_award.new.cursor c.new_award.result c.map.result (search rules)
    ∙ c.new_award.ensures s
    ∙ ap (λ k. entry_with (entry_number k ∷ s ∷ []) (fields_form c.args.setting.zones c.args.setting.families.now (entry_number k)) c.args.cursor.now.file.now c.args.cursor.now.place) (sym c.in-Award.is)

pub returns-in-Lodge-clause-is : goal.returns-in-Lodge-clause-is
returns-in-Lodge-clause-is c s =
    mapped entries.Lodge s c.transfer.new.cursor c.transfer.result c.map-in-Lodge.result (search rules)
    ∙ c.transfer.ensures s
    ∙ ap (λ k. entry_with (entry_number k ∷ s ∷ []) (fields_form c.args.setting.zones c.args.setting.families.now (entry_number k)) c.args.cursor.now.file.now c.args.cursor.now.place) (sym c.in-Lodge.is)

pub returns-in-Sheet-clause-is : goal.returns-in-Sheet-clause-is
returns-in-Sheet-clause-is c s =
    mapped entries.Sheet s c.sheet.new.cursor c.sheet.result c.map-in-Sheet.result (search rules)
    ∙ c.sheet.ensures.is s
    ∙ ap (λ k. entry_with (entry_number k ∷ s ∷ []) (fields_form c.args.setting.zones c.args.setting.families.now (entry_number k)) c.args.cursor.now.file.now c.args.cursor.now.place) (sym c.in-Sheet.is)
