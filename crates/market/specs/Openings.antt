-- What an opening says, and the ranges of its numbers.
use Rattle.std.specs.Prelude.{ℕ, Bool, ◌&&◌, List, length}
use Rattle.std.specs.List.{list_all}
use Rattle.market.specs.Ranges.{within, limit}
use Rattle.upto.specs.Listed.{listed}
use Rattle.market.specs.declared.month.Month.{Month}
use Rattle.market.specs.declared.terms.OpeningTerms.{OpeningTerms}

pub record Terms : Type 0 where
  pub months : List Month
  pub first_hour : ℕ
  pub last_hour : ℕ
  pub prices : List ℕ
  pub buyout_rate : ℕ
  pub pass_mark : ℕ

abbrev pub terms : List Month → ℕ → ℕ → List ℕ → ℕ → ℕ → Terms
terms ms first last ps rate mark = record { months = ms; first_hour = first; last_hour = last; prices = ps; buyout_rate = rate; pass_mark = mark }

-- what the code's terms say
abbrev pub said : OpeningTerms → Terms
said t = terms (listed t.months) t.first_hour t.last_hour (listed t.prices) t.buyout_rate t.pass_mark

-- 1 to 23 business days, a factor of 1 to 100 tenths
abbrev pub month_in_range : Month → Bool
month_in_range m = within 1 23 m.days && within 1 100 m.factor

-- 1 to 6 months; a window of hours 1 to 24, the first not after the last
abbrev pub calendar_fits : List Month → ℕ → ℕ → Bool
calendar_fits ms first last = within 1 6 (length ms) && (list_all month_in_range ms && (within 1 24 first && within first 24 last))

-- 1 to 10 zones with a price each; a buy-out rate of 0 to 100 percent and a pass mark of 1 to 100 percent
abbrev pub prices_fit : List ℕ → ℕ → ℕ → Bool
prices_fit ps rate mark = within 1 10 (length ps) && (list_all (within 0 limit) ps && (within 0 100 rate && within 1 100 mark))

abbrev pub terms_in_range : Terms → Bool
terms_in_range t = calendar_fits t.months t.first_hour t.last_hour && prices_fit t.prices t.buyout_rate t.pass_mark
