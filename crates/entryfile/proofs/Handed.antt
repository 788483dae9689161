-- What an entry that was read has of its file.
use Rattle.std.proofs.Common.{◌≡◌, ℕ, ◌+◌, ◌-◌, ◌≤◌, List, ◌++◌, length, take, drop, IfOk, Ok, Err, Result, sym, refl, ap, ◌∙◌, append_assoc, arith, length-append, drop-drop}
use Rattle.std.specs.Int.Digits.{AllBelowBase}
use Rattle.std.specs.List.{between}
use Rattle.std.proofs.lemmas.List.{drop_at}
use Rattle.std.proofs.lemmas.Slice.{between_is}
use Rattle.number.specs.Numbers.{encode}
use Rattle.market.specs.declared.family.Family.{Family}
use Rattle.entryfile.specs.declared.fault.EntryFault.{EntryFault}
use Rattle.entryfile.specs.declared.entry.Turn.{Turn}
use Rattle.entryfile.specs.Items.{entry_at, item_bytes, numbers_bytes}
use Rattle.entryfile.specs.Laws.{Stands}
use Rattle.entryfile.specs.Views.{item_of, numbers_of, reference_of, turn_view, FiguresStand}
use Rattle.entryfile.specs.Steps.{FromFile}
use Rattle.entryfile.proofs.Places.{length-between}
use Rattle.entryfile.proofs.Writing.{entry_writes}

-- the last of some bytes that stand in a file stand just before their end
last_part : (file : List ℕ) (at end : ℕ) (xs ys : List ℕ) → Stands file at (xs ++ ys) end → ys ≡ between (end - length ys) end file
last_part file at end xs ys s =
    let on = s.on in
    let size = sym (length-append xs ys) ∙ ap length s.is ∙ length-between file at end on s.within in
    let from : at + length xs ≡ end - length ys = omega arith in
    sym (drop_at xs ys (length xs) refl) ∙ ap (drop (length xs)) (s.is ∙ between_is file at end) ∙ drop-drop (length xs) at (take end file) ∙ sym (between_is file (at + length xs) end) ∙ ap (λ a. between a end file) from

module _ (zones : ℕ) (families : List Family) (file : List ℕ) (at : ℕ) (under : AllBelowBase 256 file) (within : at ≤ length file) where
  pub handed : (r : Result (Turn × ℕ) EntryFault) → turn_view r ≡ entry_at zones families file at → IfOk r (λ p. FiguresStand file p.1 p.0.entry) → IfOk r (λ p. FromFile zones families file at p.1 p.0)
  handed (Ok (t, end)) e figures =
      let w = entry_writes zones families file at (item_of t) end under within (sym e) in
      let ns = numbers_bytes (numbers_of t.sender t.entry) in
      let ref = reference_of t.entry in
      let stands = w.1 in
      let joined : (ns ++ encode (length ref)) ++ ref ≡ item_bytes (item_of t) = append_assoc ns (encode (length ref)) ref in
      record {
        good = w.0;
        bytes = stands;
        onward = w.2;
        reference = last_part file at end (ns ++ encode (length ref)) ref (record { is = joined ∙ stands.is; on = stands.on; within = stands.within });
        figures = figures;
      }
  handed (Err x) e figures = tt
