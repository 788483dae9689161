-- How a file reads from its first entry to its end: how many entries are read whole, and the fault that ends the reading.
use Rattle.std.specs.Prelude.{◌≡◌, ℕ, ◌+◌, min, List, length, Some, None, Ok, Err, Result}
use Rattle.std.specs.Option.{option_map}
use Rattle.market.specs.Opened.{terms_of}
use Rattle.market.specs.declared.family.Family.{Family}
use Rattle.entryfile.specs.declared.head.Head.{Head}
use Rattle.market.specs.declared.refusal.Fault.{Fault}
use Rattle.filereader.specs.declared.reader.Reader.{Reader}
use Rattle.filereader.specs.declared.survey.Survey.{Survey}
use Rattle.filereader.specs.Readers.{file_of, families_of, zones_in}
use Rattle.entryfile.specs.Files.{Listing, listing, entries_from, head_bytes, file_bytes, zones_of}
use Rattle.entryfile.specs.Items.{Item}
use Rattle.entryfile.specs.Laws.{Stands, AllGood}
use Rattle.entryfile.specs.Steps.{fault_of}

-- what is told of a listing that comes after so many entries: a fault is one of the entry that was to come
abbrev pub survey_after : ℕ → Listing → Survey
survey_after n l = record { entries = n + length l.items; fault = option_map (fault_of (n + length l.items + 1)) l.fault }

-- what is told of the entries that a reader has not read yet, after those that it has
abbrev pub left_of : Reader → Survey
left_of r = survey_after r.entries (entries_from (zones_in r) (families_of r) (file_of r) r.place)

-- what a reader tells that has read to the end, or to a fault
abbrev pub told : Result (Unit {0}) Fault → Reader → Survey
told (Ok _) r = record { entries = r.entries; fault = None }
told (Err f) r = record { entries = r.entries; fault = Some f }

-- the entries of a file behind its head
abbrev pub listing_of : List Family → List ℕ → Head → Listing
listing_of families file h = entries_from (zones_of (terms_of h.opening)) families file (min h.end (length file))

-- a whole file: where its head was read from it and no fault is met, all its entries can be written, and version, opening
-- and entries have just the bytes of the file
abbrev pub WholeFileWrites : List Family → List ℕ → Head → Type 0
WholeFileWrites families file h = Stands file 0 (head_bytes (terms_of h.opening)) h.end → (listing_of families file h).fault ≡ None → AllGood (zones_of (terms_of h.opening)) families (listing_of families file h).items × (file_bytes (terms_of h.opening) (listing_of families file h).items ≡ file)

-- any list of entries that can be written under the opening is read back whole from the bytes of its file
abbrev pub WholeFileReads : List Family → Head → Type 0
WholeFileReads families h = (is : List Item) → AllGood (zones_of (terms_of h.opening)) families is → entries_from (zones_of (terms_of h.opening)) families (file_bytes (terms_of h.opening) is) (length (head_bytes (terms_of h.opening))) ≡ listing is None
