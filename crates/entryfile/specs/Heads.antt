-- What is read before the entries, by the numbers that it stands for.
use Rattle.std.specs.Prelude.{ℕ, List, Ok, Err, Result}
use Rattle.market.specs.Opened.{terms_of}
use Rattle.entryfile.specs.declared.fault.EntryFault.{EntryFault}
use Rattle.entryfile.specs.declared.head.Head.{Head}
use Rattle.entryfile.specs.Forms.{Got}
use Rattle.entryfile.specs.Files.{head_numbers}

-- version and opening by their numbers, and the place after them
abbrev pub head_view : Result Head EntryFault → Got (List ℕ)
head_view (Ok h) = Ok (head_numbers (terms_of h.opening), h.end)
head_view (Err e) = Err e
