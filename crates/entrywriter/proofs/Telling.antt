-- What a writer answers, by its tests.
use Rattle.std.proofs.Common.{◌≡◌, ℕ, ◌+◌, ◌^◌, ◌≤◌, Bool, true, ◌&&◌, List, ◌++◌, length, drop, Ok, sym, ap, ◌∙◌, zero-add, arith}
use Rattle.std.specs.List.{list_all}
use Rattle.std.proofs.lemmas.List.Edits.{sets-eq}
use Rattle.std.specs.Int.Digits.{AllBelowBase}
use Rattle.std.proofs.ByRecursion.{All-append}
use Rattle.std.proofs.lemmas.Bool.{and_parts, and_from, le-leb}
use Rattle.number.specs.Writes.{Wrote}
use Rattle.market.specs.Ranges.{within, largest}
use Rattle.market.specs.Families.{is_family, figure_count}
use Rattle.market.specs.declared.family.Family.{Family}
use Rattle.entryfile.specs.declared.entry.Entry.{Entry}
use Rattle.entryfile.specs.declared.entry.Entry.TheVariants.{Award, Lodge, Approve, Reject, BuyOut, Reduction, Start, Sheet, Standby, DayEnd, Test, Marking, Closing}
use Rattle.entryfile.specs.declared.entry.Turn.{Turn}
use Rattle.entryfile.specs.Forms.{accepts}
use Rattle.entryfile.specs.Layout.{entry_form, figures_form}
use Rattle.entryfile.specs.Items.{printable, item_bytes}
use Rattle.entryfile.specs.Views.{figures_of, numbers_of, reference_of, item_of}
use Rattle.entryfile.specs.Laws.{Good}
use Rattle.entryfile.proofs.Reading.{entry_reads}
use Rattle.entryfile.proofs.Spelled.{figures_small}
use Rattle.entrywriter.specs.Leads.{lead_of, figures_in}
use Rattle.entrywriter.specs.Writes.{writing, refusal_of, item_in_range, ReadsBack}
use Rattle.entrywriter.proofs.Joining.{in_parts}

-- where every test is passed
pub wrote : (was bytes : List ℕ) (a b c : Bool) {n : ℕ} {is : List ℕ} → Wrote was 0 bytes n is → a ≡ true → b ≡ true → c ≡ true → (Ok n, is) ≡ writing was bytes (refusal_of a b c)
wrote was bytes a b c {n} {is} w p q r =
    ap (λ k. (Ok k, is)) (w.ends ∙ zero-add (length bytes))
    ∙ ap (λ l. (Ok (length bytes), l)) (w.left ∙ sets-eq bytes was 0 w.within ∙ ap (λ k. bytes ++ drop k was) (zero-add (length bytes)))
    ∙ sym (ap (λ x. writing was bytes (refusal_of x b c)) p ∙ ap (λ x. writing was bytes (refusal_of true x c)) q ∙ ap (λ x. writing was bytes (refusal_of true true x)) r)

module _ (zones : ℕ) (families : List Family) (s : ℕ) where
  figures_in_small : (e : Entry) → accepts (entry_form zones families) (numbers_of s e) ≡ true → AllBelowBase (2 ^ 32) (figures_in e)
  figures_in_small (Award a) h = tt
  figures_in_small (Lodge t) h = tt
  figures_in_small (Approve d) h = tt
  figures_in_small (Reject d) h = tt
  figures_in_small (BuyOut o) h = tt
  figures_in_small (Reduction o) h = tt
  figures_in_small (Start p) h = tt
  figures_in_small (Sheet f) h =
      let count = figure_count families f.family in
      let fit = accepts (figures_form count) (figures_of f.figures) in
      let known = is_family families f.family && fit in
      let (_, b) = and_parts (within 0 999 s) (within 0 largest f.award && known) h in
      let (_, d) = and_parts (within 0 largest f.award) known b in
      figures_small count (figures_of f.figures) (and_parts (is_family families f.family) fit d).1
  figures_in_small (Standby b) h = tt
  figures_in_small (DayEnd p) h = tt
  figures_in_small (Test c) h = tt
  figures_in_small (Marking m) h = tt
  figures_in_small (Closing p) h = tt

  -- the numbers of an entry fit in 32 bits where it is in range
  numbers_small : (e : Entry) → accepts (entry_form zones families) (numbers_of s e) ≡ true → AllBelowBase (2 ^ 32) (lead_of s e) → AllBelowBase (2 ^ 32) (numbers_of s e)
  numbers_small e a u = rw (in_parts s e) (All-append _ (lead_of s e) (figures_in e) u (figures_in_small e a))

module _ (zones : ℕ) (families : List Family) (turn : Turn) where
  -- fields in their ranges, and a reference that is short enough
  pub item_is_in_range : accepts (entry_form zones families) (numbers_of turn.sender turn.entry) ≡ true → length (reference_of turn.entry) ≤ 32 → item_in_range zones families (item_of turn) ≡ true
  item_is_in_range fit few = and_from _ _ fit (and_from _ _ (le-leb 0 _ (omega arith)) (le-leb _ 32 few))

  -- an entry that passes every test is read back
  pub reads_back : item_in_range zones families (item_of turn) ≡ true → AllBelowBase (2 ^ 32) (lead_of turn.sender turn.entry) → list_all printable (reference_of turn.entry) ≡ true → {was : List ℕ} {n : ℕ} {is : List ℕ} → Wrote was 0 (item_bytes (item_of turn)) n is → ReadsBack zones families (item_of turn) (Ok n)
  reads_back r u p {n = n} w file at post e =
      let (fit, few) = and_parts (accepts (entry_form zones families) (numbers_of turn.sender turn.entry)) (within 0 32 (length (reference_of turn.entry))) r in
      let good : Good zones families (item_of turn) = record { written = record { fits = fit; small = numbers_small zones families turn.sender turn.entry fit u }; reference = and_from _ _ few p } in
      entry_reads zones families file at (item_of turn) post good e ∙ ap (λ k. Ok (item_of turn, at + k)) (sym (w.ends ∙ zero-add _))

  -- the same, by the fields and the reference
  pub reads_back_by_parts : accepts (entry_form zones families) (numbers_of turn.sender turn.entry) ≡ true → length (reference_of turn.entry) ≤ 32 → AllBelowBase (2 ^ 32) (lead_of turn.sender turn.entry) → list_all printable (reference_of turn.entry) ≡ true → {was : List ℕ} {n : ℕ} {is : List ℕ} → Wrote was 0 (item_bytes (item_of turn)) n is → ReadsBack zones families (item_of turn) (Ok n)
  reads_back_by_parts fit few u p w = reads_back (item_is_in_range fit few) u p w
