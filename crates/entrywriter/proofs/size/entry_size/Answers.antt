use Rattle.std.proofs.Common.{◌≤◌, length, ap, arith}
use Rattle.number.proofs.Codec.{encode_few}
use Rattle.entrywriter.proofs.size.entry_size.Goals as goal

-- eight numbers at most take 40 bytes at most, and a reference 37
few : (c : goal.After-number_size) → (c.numbers_size.result ≤ 40) × (c.number_size.result ≤ 5) × (length c.reference-reference.result.now ≤ 32)
few c =
    let short = ap length c.reference-reference.ensures in (
      omega (arith, c.numbers_size.ensures.few, c.as_slice.ensures.few),
      omega (arith, c.number_size.ensures, encode_few (length c.reference-reference.result.now) (omega (arith, short, c.args.entry.now.short))),
      omega (arith, short, c.args.entry.now.short),
    )

pub overflow_add-result : goal.overflow_add-result
overflow_add-result c = omega (arith, few c, c.figures_size.ensures.below)

pub overflow_add-result-2 : goal.overflow_add-result-2
overflow_add-result-2 c = omega (arith, few c, c.figures_size.ensures.below)
