use Rattle.std.proofs.Common.{rules, ◌≡◌, length, ◌∙◌, sym, arith}
use Rattle.std.proofs.lemmas.Iterator.{YieldsList-from_slice, YieldsList-from_map}
use Rattle.std.proofs.lemmas.Iterator.Consumers.{sum_by_from_yields_List, fits_by_from_yields_list}
use Rattle.std.proofs.lemmas.List.Concat.{length-flat_map}
use Rattle.number.specs.Numbers.{encode}
use Rattle.entryfile.specs.Items.{numbers_bytes}
use Rattle.entrywriter.proofs.Joining.{size_few, under_numbers}
use Rattle.entrywriter.proofs.size.numbers_size.Goals as goal

pub sum-requires-clause-fits : goal.sum-requires-clause-fits
sum-requires-clause-fits c =
    let ns = c.args.numbers.now in
    let under = under_numbers ns (λ i. omega (arith, c.type_inv.numbers i)) in
    fits_by_from_yields_list (λ n. length (encode n)) ns c.map.result _ (YieldsList-from_map _ (λ n. length (encode n)) (YieldsList-from_slice ns cc) c.map.ensures.closure (λ x r q k. search rules)) (omega (arith, size_few ns under, length-flat_map encode ns))

pub returns : goal.returns
returns c =
    let ns = c.args.numbers.now in
    let under = under_numbers ns (λ i. omega (arith, c.type_inv.numbers i)) in
    let is : c.sum.result ≡ length (numbers_bytes ns) = sum_by_from_yields_List (λ n. length (encode n)) ns c.map.result _ c.sum.ensures.ran (YieldsList-from_map _ (λ n. length (encode n)) (YieldsList-from_slice ns cc) c.map.ensures.closure (λ x r q k. search rules)) ∙ sym (length-flat_map encode ns) in
    record {
      is = is;
      few = omega (arith, is, size_few ns under);
      below = omega (arith, is, size_few ns under);
      small = under;
    }
