-- An entry's numbers in two parts: those that stand before a sheet's figures, and the figures.
use Rattle.std.specs.Prelude.{ℕ, List, [], ◌∷◌}
use Rattle.market.specs.Kinds.{kind_number, mark_number}
use Rattle.entryfile.specs.declared.entry.Entry.{Entry}
use Rattle.entryfile.specs.declared.entry.Entry.TheVariants.{Award, Lodge, Approve, Reject, BuyOut, Reduction, Start, Sheet, Standby, DayEnd, Test, Marking, Closing}
use Rattle.entryfile.specs.Views.{figures_of}

abbrev pub lead_of : ℕ → Entry → List ℕ
lead_of s (Award a) = 1 ∷ s ∷ a.holder ∷ a.zone ∷ kind_number a.kind ∷ a.quantity ∷ a.cleared_icap ∷ a.capability ∷ []
lead_of s (Lodge t) = 2 ∷ s ∷ t.award ∷ t.new_holder ∷ t.zone ∷ kind_number t.kind ∷ t.quantity ∷ t.capability ∷ []
lead_of s (Approve d) = 3 ∷ s ∷ d.award ∷ []
lead_of s (Reject d) = 4 ∷ s ∷ d.award ∷ []
lead_of s (BuyOut o) = 5 ∷ s ∷ o.award ∷ o.quantity ∷ []
lead_of s (Reduction o) = 6 ∷ s ∷ o.award ∷ o.quantity ∷ []
lead_of s (Start p) = 7 ∷ s ∷ []
lead_of s (Sheet f) = 8 ∷ s ∷ f.award ∷ f.family ∷ []
lead_of s (Standby b) = 9 ∷ s ∷ b.award ∷ b.hour ∷ []
lead_of s (DayEnd p) = 10 ∷ s ∷ []
lead_of s (Test c) = 11 ∷ s ∷ c.award ∷ c.delivered ∷ []
lead_of s (Marking m) = 12 ∷ s ∷ m.award ∷ mark_number m.sort ∷ []
lead_of s (Closing p) = 13 ∷ s ∷ []

abbrev pub figures_in : Entry → List ℕ
figures_in (Award a) = []
figures_in (Lodge t) = []
figures_in (Approve d) = []
figures_in (Reject d) = []
figures_in (BuyOut o) = []
figures_in (Reduction o) = []
figures_in (Start p) = []
figures_in (Sheet f) = figures_of f.figures
figures_in (Standby b) = []
figures_in (DayEnd p) = []
figures_in (Test c) = []
figures_in (Marking m) = []
figures_in (Closing p) = []
