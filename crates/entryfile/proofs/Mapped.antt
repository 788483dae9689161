-- An entry that is made of the fields that were read.
use Rattle.std.proofs.Common.{◌≡◌, ℕ, Ok, Err, Result, ap}
use Rattle.std.specs.Result.{MatchResult}
use Rattle.entryfile.specs.declared.cursor.Cursor.{Cursor}
use Rattle.entryfile.specs.declared.entry.Entry.{Entry}
use Rattle.entryfile.specs.declared.fault.EntryFault.{EntryFault}
use Rattle.entryfile.specs.Cursors.{moved}
use Rattle.entryfile.specs.Views.{entry_item, entry_view, item_view}

pub mapped : {X : Type 0} (make : X → Entry) (s : ℕ) (c : Cursor) (r : Result X EntryFault) (m : Result Entry EntryFault) → MatchResult r (λ x. m ≡ Ok (make x)) (λ e. m ≡ Err e) → entry_view s (moved m c) ≡ item_view (λ x. entry_item s (make x)) (moved r c)
mapped make s c (Ok x) m h = ap (λ m. entry_view s (moved m c)) h
mapped make s c (Err e) m h = ap (λ m. entry_view s (moved m c)) h
