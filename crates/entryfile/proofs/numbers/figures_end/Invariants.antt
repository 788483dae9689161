use Rattle.std.proofs.Common.{◌≡◌, ◌-◌, ◌≤◌, length}
use Rattle.entryfile.specs.Forms.{form_at, end_of}
use Rattle.entryfile.specs.Layout.{figures_form}
use Rattle.entryfile.proofs.numbers.figures_end.Given as goal

-- the figures that are left end where all figures end
abbrev pub invariant-loop-figure : goal.invariant-loop-figure
invariant-loop-figure l = (end_of (form_at (figures_form (l.count - l._figure)) l.file l.next) ≡ end_of (form_at (figures_form l.count) l.file l.at)) × (l.at ≤ length l.file → (l.at ≤ l.next) × (l.next ≤ length l.file))
