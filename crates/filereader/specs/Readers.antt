-- What stands before the entries, and what a reader knows.
use Rattle.std.specs.Prelude.{◌≡◌, ℕ, min, List, length, Ok, Err, Result}
use Rattle.market.specs.Opened.{terms_of}
use Rattle.market.specs.declared.family.Family.{Family}
use Rattle.market.specs.declared.refusal.Fault.{Fault}
use Rattle.filereader.specs.declared.reader.Reader.{Reader}
use Rattle.entryfile.specs.declared.head.Head.{Head}
use Rattle.entryfile.specs.Forms.{Got, form_at}
use Rattle.entryfile.specs.Files.{head_form, head_numbers, zones_of}
use Rattle.entryfile.specs.Steps.{Answer, Position, position, step, fault_of}

abbrev pub file_of : Reader → List ℕ
file_of r = r.file.now

abbrev pub families_of : Reader → List Family
families_of r = r.families.now

abbrev pub zones_in : Reader → ℕ
zones_in r = zones_of (terms_of r.opening)

abbrev pub position_of : Reader → Position
position_of r = position r.place r.entries

-- what the reader will answer next, and where it will stand
abbrev pub next_of : Reader → Answer × Position
next_of r = step (zones_in r) (families_of r) (file_of r) r.place r.entries

-- version and opening by their numbers, and the place after them; a fault there is one of entry 0
abbrev pub head_by : Got (List ℕ) → Result (List ℕ × ℕ) Fault
head_by (Ok p) = Ok p
head_by (Err e) = Err (fault_of 0 e)

abbrev pub head_of : List ℕ → Result (List ℕ × ℕ) Fault
head_of file = head_by (form_at head_form file 0)

abbrev pub head_answer : Result Head Fault → Result (List ℕ × ℕ) Fault
head_answer (Ok h) = Ok (head_numbers (terms_of h.opening), h.end)
head_answer (Err f) = Err f

-- a reader that was opened, by what it has read and where it stands
abbrev pub opened : Result Reader Fault → Result (List ℕ × ℕ) Fault
opened (Ok r) = Ok (head_numbers (terms_of r.opening), r.place)
opened (Err f) = Err f

-- a new reader has read no entry
abbrev pub StandsBehind : List ℕ → List Family → Head → Reader → Type 0
StandsBehind file families h r = (file_of r ≡ file) × (families_of r ≡ families) × (r.opening ≡ h.opening) × (position_of r ≡ position (min h.end (length file)) 0)

-- all but the position
abbrev pub SameSource : Reader → Reader → Type 0
SameSource r s = (file_of s ≡ file_of r) × (families_of s ≡ families_of r) × (s.opening ≡ r.opening)
