use Rattle.std.proofs.Common.{rules, ◌≡◌, ◌^◌, true, length, sym, subst, ap, ◌∙◌, arith}
use Rattle.std.specs.List.{list_all}
use Rattle.std.specs.Int.Digits.{AllBelowBase}
use Rattle.std.proofs.lemmas.Bool.{le-leb}
use Rattle.number.specs.Writes.{Wrote}
use Rattle.market.specs.Opened.{terms_of}
use Rattle.entryfile.specs.Files.{zones_of}
use Rattle.entryfile.specs.Items.{printable, item_bytes}
use Rattle.entryfile.specs.Views.{reference_of, item_of}
use Rattle.entrywriter.specs.Leads.{lead_of}
use Rattle.entrywriter.specs.Writes.{item_in_range}
use Rattle.entrywriter.proofs.Telling.{wrote, reads_back}
use Rattle.entrywriter.proofs.write_entry.Goals as goal

pub returns : goal.returns
returns c =
    let turn = c.args.turn in
    let was = c.args.buf.now in
    let zones = zones_of (terms_of c.args.opening.now) in
    let families = c.args.families.now in
    let (kept, checked) = c.in-Some.ensures in
    let fit : item_in_range zones families (item_of turn) ≡ true = search (rules, checked, c.zones.ensures) in
    let text : list_all printable (reference_of turn.entry) ≡ true = sym (c.if-not-is_printable.ensures ∙ ap (list_all printable) c.reference.ensures) in
    let room = le-leb (length (item_bytes (item_of turn))) (length was) (omega (arith, c.if-buf-entry_size.false, c.entry_size.ensures.is, ap (λ t. length (item_bytes (item_of t))) kept)) in
    let small = subst (λ t. AllBelowBase (2 ^ 32) (lead_of t.sender t.entry)) kept c.entry_size.ensures.small in
    let put = subst (λ t. Wrote was 0 (item_bytes (item_of t)) c.entry.new.self.place c.entry.new.self.buf.now) kept c.entry.ensures.wrote in
    record {
      is = search (rules, wrote was (item_bytes (item_of turn)) _ _ _ put fit text room);
      rereads = reads_back zones families turn fit small text put;
    }
