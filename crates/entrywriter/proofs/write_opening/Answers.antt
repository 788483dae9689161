use Rattle.std.proofs.Common.{rules, length, refl, ap, ◌∙◌, arith}
use Rattle.std.proofs.lemmas.Bool.{le-leb}
use Rattle.market.specs.Opened.{terms_of}
use Rattle.entryfile.specs.Items.{numbers_bytes}
use Rattle.entryfile.specs.Files.{head_bytes}
use Rattle.entrywriter.proofs.Heads.{head_reads_back}
use Rattle.entrywriter.proofs.Puts.{same}
use Rattle.entrywriter.proofs.Telling.{wrote}
use Rattle.entrywriter.proofs.write_opening.Goals as goal

pub returns : goal.returns
returns c =
    let t = terms_of c.args.opening.now in
    let was = c.args.buf.now in
    let said = c.as_slice-numbers.ensures.items ∙ c.head_numbers-head.ensures in
    let put = (same (ap numbers_bytes said) c.numbers.ensures).wrote in
    let room = le-leb (length (head_bytes t)) (length was) (omega (arith, c.if-buf-numbers_size.false, c.numbers_size.ensures.is, ap (λ ns. length (numbers_bytes ns)) said)) in
    record {
      is = search (rules, wrote was (head_bytes t) _ _ _ put refl refl room);
      rereads = head_reads_back t c.args.opening.now.in_range put;
    }
