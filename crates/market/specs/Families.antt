-- Which families a book has, and how many figures their sheets have.
use Rattle.std.specs.Prelude.{ℕ, ◌*◌, Bool, List, is_some, Option, ◌==◌}
use Rattle.std.specs.List.{find}
use Rattle.std.specs.Option.{option_map, unwrap_or}
use Rattle.market.specs.declared.family.Family.{Family}

-- the figures of a family's sheet: 24 hour records
abbrev pub sheet_figures : Family → ℕ
sheet_figures f = 24 * f.figures_per_hour

-- the figures of a sheet of the first family with this number
abbrev pub figures_for : List Family → ℕ → Option ℕ
figures_for fs n = option_map sheet_figures (find (λ f. f.number == n) fs)

abbrev pub is_family : List Family → ℕ → Bool
is_family fs n = is_some (figures_for fs n)

abbrev pub figure_count : List Family → ℕ → ℕ
figure_count fs n = unwrap_or (figures_for fs n) 0
