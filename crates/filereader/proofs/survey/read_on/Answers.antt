use Rattle.std.proofs.Common.{rules, ◌≡◌, ◌-◌, ◌<◌, ◌≤◌, length, Err, refl, sym, ap, ◌∙◌, arith}
use Rattle.filereader.specs.Readers.{position_of}
use Rattle.filereader.specs.Surveys.{told}
use Rattle.filereader.proofs.Through.{goes_on, fails, ends, fault_within}
use Rattle.filereader.proofs.survey.read_on.Goals as goal

pub loop-turn-init : goal.loop-turn-init
loop-turn-init c = (length c.args.reader.now.file.now, refl, omega arith)

pub returns-in_err-_turn : goal.returns-in_err-_turn
returns-in_err-_turn c =
    let (turns, left, enough) = c.loop-turn.invariant in
    let is = c.in_err-_turn.ensures.is in
    let here = fault_within c.loop-turn.reader c.in_err-_turn.field-0.0 (position_of c.next_entry.new.self) is in
    let out : c.from_residual.result ≡ Err c.in_err-_turn.field-0.0 = search rules in
    ap (λ r. told r c.next_entry.new.self) out ∙ sym (fails turns c.loop-turn.reader c.next_entry.new.self c.in_err-_turn.field-0.0 (omega arith) is) ∙ left

pub loop-turn-preserved : goal.loop-turn-preserved
loop-turn-preserved c =
    let (turns, left, enough) = c.loop-turn.invariant in
    let r = c.loop-turn.reader in
    let s = c.next_entry.new.self in
    let on : r.place < s.place = search rules in
    let within : s.place ≤ length r.file.now = search rules in
    let told = c.in_ok-_turn.ensures in
    (turns - 1, sym (goes_on turns r s c.in_ok-_turn.field-0 c.in-Some._turn (omega arith) c.in-Some.is told.same told.is) ∙ left, omega (arith, ap length told.same.0))

pub returns : goal.returns
returns c =
    let (turns, left, enough) = c.loop-turn.invariant in
    sym (ends turns c.loop-turn.reader c.next_entry.new.self c.in_ok-_turn.field-0 enough (search rules) c.in_ok-_turn.ensures.is) ∙ left
