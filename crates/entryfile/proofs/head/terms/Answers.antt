use Rattle.std.proofs.Common.{[], ◌∷◌, Ok, refl, sym, ap, ◌∙◌}
use Rattle.market.specs.Openings.{said}
use Rattle.entryfile.specs.Forms.{done}
use Rattle.entryfile.specs.Layout.{opening_form, window_form, zones_form, shares_form}
use Rattle.entryfile.specs.Files.{opening_numbers}
use Rattle.entryfile.specs.Views.{view_by}
use Rattle.entryfile.specs.Lists.{list_numbers, month_pair, price_numbers}
use Rattle.entryfile.specs.Cursors.{moved}
use Rattle.entryfile.proofs.Checks.{exit}
use Rattle.entryfile.proofs.Opened.{spelled}
use Rattle.entryfile.proofs.Stepwise.{none_read, part_read, part_stop, all_read}
use Rattle.entryfile.proofs.head.terms.Goals as goal

pub returns-in_err-months-clause-is : goal.returns-in_err-months-clause-is
returns-in_err-months-clause-is c =
    let begin = none_read opening_form c.args.cursor.now.file.now c.args.cursor.now.place in
    ap (λ r. view_by (λ t. opening_numbers (said t)) (moved r c.list.new.cursor)) (exit _ c.from_residual.ensures.1) ∙ sym (part_stop refl begin (c.in_err-months.ensures.is window_form))

pub returns-in_err-first_hour-clause-is : goal.returns-in_err-first_hour-clause-is
returns-in_err-first_hour-clause-is c =
    let begin = none_read opening_form c.args.cursor.now.file.now c.args.cursor.now.place in
    let months = part_read refl window_form (list_numbers month_pair c.in_ok-months.months) c.list.new.cursor.place begin (c.in_ok-months.ensures.is window_form) in
    let same = ap (λ f. f.now) c.in_ok-months.ensures.file in
    ap (λ r. view_by (λ t. opening_numbers (said t)) (moved r c.window.new.cursor)) (exit _ c.from_residual-in_err-first_hour.ensures.1) ∙ sym (part_stop same months (c.in_err-first_hour.ensures.is zones_form))

pub returns-in_err-prices-clause-is : goal.returns-in_err-prices-clause-is
returns-in_err-prices-clause-is c =
    let begin = none_read opening_form c.args.cursor.now.file.now c.args.cursor.now.place in
    let months = part_read refl window_form (list_numbers month_pair c.in_ok-months.months) c.list.new.cursor.place begin (c.in_ok-months.ensures.is window_form) in
    let same = ap (λ f. f.now) c.in_ok-months.ensures.file in
    let hours = part_read same zones_form (c.in_ok-first_hour.first_hour ∷ c.in_ok-first_hour.last_hour ∷ []) c.window.new.cursor.place months (c.in_ok-first_hour.ensures.is zones_form) in
    let same = ap (λ f. f.now) c.in_ok-first_hour.ensures.file ∙ same in
    ap (λ r. view_by (λ t. opening_numbers (said t)) (moved r c.list-2.new.cursor)) (exit _ c.from_residual-in_err-prices.ensures.1) ∙ sym (part_stop same hours (c.in_err-prices.ensures.is shares_form))

pub returns-in_err-buyout_rate-clause-is : goal.returns-in_err-buyout_rate-clause-is
returns-in_err-buyout_rate-clause-is c =
    let begin = none_read opening_form c.args.cursor.now.file.now c.args.cursor.now.place in
    let months = part_read refl window_form (list_numbers month_pair c.in_ok-months.months) c.list.new.cursor.place begin (c.in_ok-months.ensures.is window_form) in
    let same = ap (λ f. f.now) c.in_ok-months.ensures.file in
    let hours = part_read same zones_form (c.in_ok-first_hour.first_hour ∷ c.in_ok-first_hour.last_hour ∷ []) c.window.new.cursor.place months (c.in_ok-first_hour.ensures.is zones_form) in
    let same = ap (λ f. f.now) c.in_ok-first_hour.ensures.file ∙ same in
    let prices = part_read same shares_form (list_numbers price_numbers c.in_ok-prices.prices) c.list-2.new.cursor.place hours (c.in_ok-prices.ensures.is shares_form) in
    let same = ap (λ f. f.now) c.in_ok-prices.ensures.file ∙ same in
    ap (λ r. view_by (λ t. opening_numbers (said t)) (moved r c.shares.new.cursor)) (exit _ c.from_residual-in_err-buyout_rate.ensures.1) ∙ sym (part_stop same prices (sym c.in_err-buyout_rate.ensures.is))

pub returns-clause-is : goal.returns-clause-is
returns-clause-is c =
    let begin = none_read opening_form c.args.cursor.now.file.now c.args.cursor.now.place in
    let months = part_read refl window_form (list_numbers month_pair c.in_ok-months.months) c.list.new.cursor.place begin (c.in_ok-months.ensures.is window_form) in
    let same = ap (λ f. f.now) c.in_ok-months.ensures.file in
    let hours = part_read same zones_form (c.in_ok-first_hour.first_hour ∷ c.in_ok-first_hour.last_hour ∷ []) c.window.new.cursor.place months (c.in_ok-first_hour.ensures.is zones_form) in
    let same = ap (λ f. f.now) c.in_ok-first_hour.ensures.file ∙ same in
    let prices = part_read same shares_form (list_numbers price_numbers c.in_ok-prices.prices) c.list-2.new.cursor.place hours (c.in_ok-prices.ensures.is shares_form) in
    let same = ap (λ f. f.now) c.in_ok-prices.ensures.file ∙ same in
    let shares = part_read same done (c.in_ok-buyout_rate.buyout_rate ∷ c.in_ok-buyout_rate.pass_mark ∷ []) c.shares.new.cursor.place prices (sym c.in_ok-buyout_rate.ensures.is) in
    ap (λ ns. Ok (ns, c.shares.new.cursor.place)) (sym (spelled _ _ _ _ _ _ _ _)) ∙ sym (all_read shares)
