-- Figures that are the bytes of a file: they can be copied where they spell numbers and nothing else.
use Rattle.std.specs.Prelude.{◌≡◌}
use Rattle.entryfile.specs.declared.entry.Figures.{Figures}
use Rattle.entryfile.specs.declared.entry.Figures.TheVariants.{Encoded, Listed}
use Rattle.entryfile.specs.declared.entry.Entry.{Entry}
use Rattle.entryfile.specs.declared.entry.Entry.TheVariants.{Award, Lodge, Approve, Reject, BuyOut, Reduction, Start, Sheet, Standby, DayEnd, Test, Marking, Closing}
use Rattle.entryfile.specs.Items.{numbers_bytes}
use Rattle.entryfile.specs.Views.{numbers_in}

-- the bytes are those of the numbers that they spell
abbrev pub Spells : Figures → Type 0
Spells (Encoded bytes) = numbers_bytes (numbers_in bytes.now) ≡ bytes.now
Spells (Listed numbers) = Unit {0}

abbrev pub SpellsIn : Entry → Type 0
SpellsIn (Award a) = Unit {0}
SpellsIn (Lodge t) = Unit {0}
SpellsIn (Approve d) = Unit {0}
SpellsIn (Reject d) = Unit {0}
SpellsIn (BuyOut o) = Unit {0}
SpellsIn (Reduction o) = Unit {0}
SpellsIn (Start p) = Unit {0}
SpellsIn (Sheet f) = Spells f.figures
SpellsIn (Standby b) = Unit {0}
SpellsIn (DayEnd p) = Unit {0}
SpellsIn (Test c) = Unit {0}
SpellsIn (Marking m) = Unit {0}
SpellsIn (Closing p) = Unit {0}
