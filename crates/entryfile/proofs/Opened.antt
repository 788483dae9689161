-- The numbers of an opening, as they are read one after another.
use Rattle.std.proofs.Common.{◌≡◌, ℕ, List, [], ◌∷◌, ◌++◌, length, take, refl, ap, ◌∙◌, append_assoc, arith, length-take}
use Rattle.std.specs.List.{flat_map}
use Rattle.upto.specs.Listed.{listed}
use Rattle.upto.specs.declared.list.UpTo.{UpTo}
use Rattle.market.specs.Openings.{said}
use Rattle.market.specs.declared.terms.OpeningTerms.{OpeningTerms}
use Rattle.entryfile.specs.Files.{month_numbers, opening_numbers}
use Rattle.entryfile.specs.Lists.{price_numbers}

prices_same : (ps : List ℕ) → flat_map price_numbers ps ≡ ps
prices_same [] = refl
prices_same (p ∷ ps) = ap (λ l. p ∷ l) (prices_same ps)

pub spelled : (n : ℕ) (ms : List ℕ) (first last z : ℕ) (ps : List ℕ) (rate mark : ℕ) → (((n ∷ ms) ++ first ∷ last ∷ []) ++ z ∷ flat_map price_numbers ps) ++ rate ∷ mark ∷ [] ≡ n ∷ (ms ++ first ∷ last ∷ z ∷ (ps ++ rate ∷ mark ∷ []))
spelled n ms first last z ps rate mark = ap (λ qs. (((n ∷ ms) ++ first ∷ last ∷ []) ++ z ∷ qs) ++ rate ∷ mark ∷ []) (prices_same ps) ∙ simp append_assoc

-- a list has as many items as it counts
counted : {T : Type 0} {N : ℕ} (l : UpTo T N) → length (listed l) ≡ l.count
counted l = omega (arith, l.few, l.room, length-take l.count l.places)

-- the numbers of an opening with the counts and the places of its lists as the code holds them
abbrev pub counted_numbers : OpeningTerms → List ℕ
counted_numbers t = t.months.count ∷ (month_numbers (take t.months.count t.months.places) ++ t.first_hour ∷ t.last_hour ∷ t.prices.count ∷ (take t.prices.count t.prices.places ++ t.buyout_rate ∷ t.pass_mark ∷ []))

-- what the code's terms say has just these numbers
pub opening_numbers-terms_read : (t : OpeningTerms) → opening_numbers (said t) ≡ counted_numbers t
opening_numbers-terms_read t = rw (counted t.months, counted t.prices)
