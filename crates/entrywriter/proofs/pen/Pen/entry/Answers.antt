use Rattle.std.proofs.Common.{◌∙◌, arith}
use Rattle.entrywriter.proofs.Joining.{item_bytes_by_parts, item_size}
use Rattle.entrywriter.proofs.Puts.{then, long, same}
use Rattle.entrywriter.proofs.pen.Pen.entry.Goals as goal

pub returns : goal.returns
returns c =
    same (item_bytes_by_parts c.args.entry.now.turn _ (c.as_slice.ensures.items ∙ c.lead_of.ensures))
    (then (then c.numbers.ensures c.figures.ensures) c.reference.ensures)

pub figures-requires : goal.figures-requires
figures-requires c =
    let w = c.numbers.ensures.wrote in
    omega (arith, c.requires, item_size c.args.entry.now.turn _ (c.as_slice.ensures.items ∙ c.lead_of.ensures), w.ends, long w)

pub reference-requires : goal.reference-requires
reference-requires c =
    let v = c.numbers.ensures.wrote in
    let w = c.figures.ensures.wrote in
    omega (arith, c.requires, item_size c.args.entry.now.turn _ (c.as_slice.ensures.items ∙ c.lead_of.ensures), v.ends, long v, w.ends, long w)
