-- The numbers of an opening have the form of an opening just where its terms are in their ranges.
use Rattle.std.proofs.Common.{◌≡◌, ℕ, Bool, true, false, ◌&&◌, List, [], ◌∷◌, ◌++◌, length, refl, ap, ◌∙◌}
use Rattle.std.specs.List.{list_all}
use Rattle.market.specs.Ranges.{within, limit}
use Rattle.market.specs.Openings.{Terms, terms_in_range, month_in_range, prices_fit}
use Rattle.market.specs.declared.month.Month.{Month}
use Rattle.entryfile.specs.Forms.{Form, accepts}
use Rattle.entryfile.specs.Layout.{opening_form, months_form, prices_form, shares_form, window_form, zones_form}
use Rattle.entryfile.specs.Files.{month_numbers, zone_numbers, opening_numbers}

and_assoc : (a b c : Bool) → (a && (b && c)) ≡ ((a && b) && c)
and_assoc true b c = refl
and_assoc false b c = refl

and_true : (a : Bool) → (a && true) ≡ a
and_true true = refl
and_true false = refl

months_accept : (ms : List Month) (rest : Form) (ns : List ℕ) → accepts (months_form (length ms) rest) (month_numbers ms ++ ns) ≡ (list_all month_in_range ms && accepts rest ns)
months_accept [] rest ns = refl
months_accept (m ∷ ms) rest ns =
    let days = within 1 23 m.days in
    let factor = within 1 100 m.factor in
    ap (λ b. days && (factor && b)) (months_accept ms rest ns) ∙ and_assoc days factor (list_all month_in_range ms && accepts rest ns) ∙ and_assoc (days && factor) (list_all month_in_range ms) (accepts rest ns)

prices_accept : (ps : List ℕ) (rest : Form) (ns : List ℕ) → accepts (prices_form (length ps) rest) (ps ++ ns) ≡ (list_all (within 0 limit) ps && accepts rest ns)
prices_accept [] rest ns = refl
prices_accept (p ∷ ps) rest ns = ap (λ b. within 0 limit p && b) (prices_accept ps rest ns) ∙ and_assoc (within 0 limit p) (list_all (within 0 limit) ps) (accepts rest ns)

zones_accept : (t : Terms) → accepts zones_form (zone_numbers t) ≡ prices_fit t.prices t.buyout_rate t.pass_mark
zones_accept t =
    ap (λ b. within 1 10 (length t.prices) && b) (prices_accept t.prices shares_form _ ∙ ap (λ b. list_all (within 0 limit) t.prices && (within 0 100 t.buyout_rate && b)) (and_true (within 1 100 t.pass_mark)))

pub opening_accepts : (t : Terms) → accepts opening_form (opening_numbers t) ≡ terms_in_range t
opening_accepts t =
    let months = within 1 6 (length t.months) in
    let all = list_all month_in_range t.months in
    let first = within 1 24 t.first_hour in
    let last = within t.first_hour 24 t.last_hour in
    let prices = prices_fit t.prices t.buyout_rate t.pass_mark in
    ap (λ b. months && b) (months_accept t.months window_form _ ∙ ap (λ b. all && (first && (last && b))) (zones_accept t) ∙ ap (λ b. all && b) (and_assoc first last prices) ∙ and_assoc all (first && last) prices) ∙ and_assoc months (all && (first && last)) prices
