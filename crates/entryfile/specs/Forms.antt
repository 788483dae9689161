-- Forms: which numbers stand one after another in a file, each with the test that it has to pass. A later test may
-- depend on the numbers before it. Reading by a form goes from the left, and the first fault is the answer.
use Rattle.std.specs.Prelude.{ℕ, Bool, true, false, cond, ◌&&◌, List, [], ◌∷◌, Ok, Err, Result}
use Rattle.number.specs.Numbers.{number_at}
use Rattle.number.specs.declared.NumberFault.{NumberFault}
use Rattle.entryfile.specs.declared.fault.EntryFault.{EntryFault}
use Rattle.entryfile.specs.declared.fault.EntryFault.TheVariants.{Number}

pub data Form : Type 0 where
  done : Form
  field : (ℕ → EntryFault) → (ℕ → Bool) → (ℕ → Form) → Form

-- a value and the place after it, or the first fault
abbrev pub Got : Type 0 → Type 0
Got X = Result (X × ℕ) EntryFault

abbrev pub checked : (ℕ → EntryFault) → (ℕ → Bool) → ℕ → Result (ℕ × ℕ) NumberFault → Got ℕ
checked fault test at (Ok p) = cond (test p.0) (Ok p) (Err (fault at))
checked fault test at (Err e) = Err (Number e)

-- the number at a place, if it passes the test; the fault has the place of the number's first byte
unfoldable pub checked_at : (ℕ → EntryFault) → (ℕ → Bool) → List ℕ → ℕ → Got ℕ
checked_at fault test file at = checked fault test at (number_at file at)

abbrev pub more : ℕ → Got (List ℕ) → Got (List ℕ)
more n (Ok p) = Ok (n ∷ p.0, p.1)
more n (Err e) = Err e

-- numbers that were read before these
abbrev pub ahead : List ℕ → Got (List ℕ) → Got (List ℕ)
ahead [] r = r
ahead (n ∷ ns) r = more n (ahead ns r)

-- what is read after these numbers
abbrev pub then_at : (ℕ → Got (List ℕ)) → Got (List ℕ) → Got (List ℕ)
then_at rest (Ok p) = ahead p.0 (rest p.1)
then_at rest (Err e) = Err e

abbrev pub after_field : (ℕ → ℕ → Got (List ℕ)) → Got ℕ → Got (List ℕ)
after_field rest (Ok p) = more p.0 (rest p.0 p.1)
after_field rest (Err e) = Err e

-- the numbers of a form from a place on, and the place after them
abbrev pub form_at : Form → List ℕ → ℕ → Got (List ℕ)
form_at done file at = Ok ([], at)
form_at (field fault test rest) file at = after_field (λ n. form_at (rest n) file) (checked_at fault test file at)

-- numbers that have the form
abbrev pub accepts : Form → List ℕ → Bool
accepts done [] = true
accepts done (n ∷ ns) = false
accepts (field fault test rest) [] = false
accepts (field fault test rest) (n ∷ ns) = test n && accepts (rest n) ns

-- only the place after the numbers
abbrev pub end_of : Got (List ℕ) → Result ℕ EntryFault
end_of (Ok p) = Ok p.1
end_of (Err e) = Err e
