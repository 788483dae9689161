use Rattle.std.proofs.Common.{◌≡◌, leb, Ok, sym, ap, ◌∙◌, arith}
use Rattle.std.proofs.lemmas.Bool.{and_parts, leb-true}
use Rattle.number.proofs.Codec.{under_bytes}
use Rattle.market.specs.Opened.{terms_of}
use Rattle.entryfile.specs.Forms.{more, after_field, form_at}
use Rattle.entryfile.specs.Layout.{opening_form}
use Rattle.entryfile.specs.Files.{head_form, head_numbers, opening_numbers}
use Rattle.market.specs.Openings.{said}
use Rattle.entryfile.proofs.Checks.{check_passed}
use Rattle.entryfile.proofs.Writing.{form_writes}
use Rattle.entryfile.proofs.head.head_at.Goals as goal

pub opened-requires : goal.opened-requires
opened-requires c =
    let f = ap (λ b. b.now) c.in_ok-version.ensures.file in
    let told = c.in_ok-terms.ensures.is ∙ ap (λ g. form_at opening_form g c.version.new.self.place) f in
    let within = c.version.new.self.within in
    (form_writes opening_form c.args.file.now (opening_numbers (said c.in_ok-terms.terms)) c.version.new.self.place c.terms.new.cursor.place (under_bytes _ (λ i. omega (arith, c.type_inv.file i))) (rw f at within) (sym told)).0.fits

pub returns : goal.returns
returns c =
    let f = ap (λ b. b.now) c.in_ok-version.ensures.file in
    let n = c.in_ok-version.field-0 in
    let end = c.terms.new.cursor.place in
    let version = c.in_ok-version.ensures.is in
    let known = and_parts (leb 1 n) (leb n 1) (check_passed _ _ _ _ version) in
    let one : n ≡ 1 = omega (arith, leb-true 1 n known.0, leb-true n 1 known.1) in
    let told = c.in_ok-terms.ensures.is ∙ ap (λ g. form_at opening_form g c.version.new.self.place) f in
    let is : Ok (head_numbers (terms_of c.opened.result), end) ≡ form_at head_form c.args.file.now 0 =
    ap (λ t. Ok (head_numbers t, end)) c.opened.ensures
    ∙ ap (more 1) told
    ∙ ap (λ v. more v (form_at opening_form c.args.file.now c.version.new.self.place)) (sym one)
    ∙ ap (after_field (λ _. form_at opening_form c.args.file.now)) version in
    record {
      is = is;
      rewrites = (form_writes head_form c.args.file.now _ 0 _ (under_bytes _ (λ i. omega (arith, c.type_inv.file i))) (omega arith) (sym is)).1;
    }
