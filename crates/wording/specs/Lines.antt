-- The lines of a listing.
use Rattle.std.specs.Prelude.{ℕ, cond, List, ◌++◌, codes, decimal, ◌==◌}
use Rattle.market.specs.Kinds.{kind_number, mark_number}
use Rattle.market.specs.Refusals.{refusal, layer_number}
use Rattle.market.specs.declared.kind.Kind.{Kind}
use Rattle.market.specs.declared.mark.Mark.{Mark}
use Rattle.market.specs.declared.refusal.Cause.{Cause}
use Rattle.market.specs.declared.refusal.Fault.{Fault}
use Rattle.entryfile.specs.declared.entry.Entry.{Entry}
use Rattle.entryfile.specs.declared.entry.Entry.TheVariants.{Award, Lodge, Approve, Reject, BuyOut, Reduction, Start, Sheet, Standby, DayEnd, Test, Marking, Closing}
use Rattle.entryfile.specs.declared.entry.Turn.{Turn}
use Rattle.wording.specs.Words.{kind_name, mark_name, entry_name, sender_name, cause_meaning, megawatts}

abbrev pub numbered_kind : ℕ → List ℕ → List ℕ
numbered_kind n name = codes "kind " ++ (decimal n ++ (codes " (" ++ (name ++ codes ")")))

abbrev pub kind_text : Kind → List ℕ
kind_text k = numbered_kind (kind_number k) (kind_name k)

abbrev pub holding_text : ℕ → ℕ → List ℕ
holding_text h z = codes "holder " ++ (decimal h ++ (codes ", zone " ++ (decimal z)))

abbrev pub award_text : List ℕ → List ℕ → ℕ → ℕ → ℕ → List ℕ
award_text holding kind q i m = holding ++ (codes ", " ++ (kind ++ (codes ", quantity " ++ (megawatts q ++ (codes ", cleared ICAP " ++ (megawatts i ++ (codes ", capability " ++ (megawatts m))))))))

abbrev pub lodge_text : ℕ → List ℕ → List ℕ → ℕ → ℕ → List ℕ
lodge_text a holding kind q m = codes "award " ++ (decimal a ++ (codes ", new " ++ (holding ++ (codes ", " ++ (kind ++ (codes ", quantity " ++ (megawatts q ++ (codes ", capability " ++ (megawatts m)))))))))

abbrev pub named_text : ℕ → List ℕ
named_text a = codes "award " ++ (decimal a)

abbrev pub quantity_text : ℕ → ℕ → List ℕ
quantity_text a q = codes "award " ++ (decimal a ++ (codes ", quantity " ++ (megawatts q)))

abbrev pub sheet_text : ℕ → ℕ → List ℕ
sheet_text a f = codes "award " ++ (decimal a ++ (codes ", family " ++ (decimal f)))

abbrev pub standby_text : ℕ → ℕ → List ℕ
standby_text a h = codes "award " ++ (decimal a ++ (codes ", from hour " ++ (decimal h)))

abbrev pub test_text : ℕ → ℕ → List ℕ
test_text a d = codes "award " ++ (decimal a ++ (codes ", delivered " ++ (megawatts d)))

abbrev pub numbered_mark : ℕ → ℕ → List ℕ → List ℕ
numbered_mark a n name = codes "award " ++ (decimal a ++ (codes ", sort " ++ (decimal n ++ (codes " (" ++ (name ++ codes ")")))))

abbrev pub mark_text : ℕ → Mark → List ℕ
mark_text a m = numbered_mark a (mark_number m) (mark_name m)

abbrev pub plain_text : List ℕ
plain_text = codes "no fields"

-- the fields of an entry; a sheet's figures follow on lines of their own
abbrev pub fields_text : Entry → List ℕ
fields_text (Award a) = award_text (holding_text a.holder a.zone) (kind_text a.kind) a.quantity a.cleared_icap a.capability
fields_text (Lodge t) = lodge_text t.award (holding_text t.new_holder t.zone) (kind_text t.kind) t.quantity t.capability
fields_text (Approve d) = named_text d.award
fields_text (Reject d) = named_text d.award
fields_text (BuyOut o) = quantity_text o.award o.quantity
fields_text (Reduction o) = quantity_text o.award o.quantity
fields_text (Start p) = plain_text
fields_text (Sheet f) = sheet_text f.award f.family
fields_text (Standby b) = standby_text b.award b.hour
fields_text (DayEnd p) = plain_text
fields_text (Test c) = test_text c.award c.delivered
fields_text (Marking m) = mark_text m.award m.sort
fields_text (Closing p) = plain_text

-- the entry's count, the byte where it begins, its name and its sender
abbrev pub heading_text : ℕ → ℕ → Turn → List ℕ
heading_text n place turn = codes "Entry " ++ (decimal n ++ (codes " at byte " ++ (decimal place ++ (codes ": " ++ (entry_name turn.entry ++ (codes ", sent by " ++ (sender_name turn.sender)))))))

-- where the fault lies
abbrev pub part_text : ℕ → List ℕ
part_text entry = cond (entry == 0) (codes "The opening") (codes "Entry " ++ decimal entry)

-- the cause in words, with its number and its layer
abbrev pub cause_text : Cause → List ℕ
cause_text cause = cause_meaning cause ++ (codes " (cause " ++ (decimal (refusal cause).0 ++ (codes ", layer " ++ (decimal (layer_number (refusal cause).1) ++ (codes ")")))))

abbrev pub fault_sentence : List ℕ → List ℕ → ℕ → List ℕ
fault_sentence part cause place = part ++ (codes " cannot be read: " ++ (cause ++ (codes ". The faulty part begins at byte " ++ (decimal place ++ codes "."))))

-- entry, cause, layer and place of a fault
abbrev pub fault_text : Fault → List ℕ
fault_text f = fault_sentence (part_text f.entry) (cause_text f.cause) f.place

abbrev pub one_hour : ℕ → List ℕ → List ℕ
one_hour hour figures = codes "hour " ++ (decimal hour ++ (codes ":" ++ figures))

abbrev pub more_hours : ℕ → ℕ → List ℕ → List ℕ
more_hours first last figures = codes "hours " ++ (decimal first ++ (codes " to " ++ (decimal last ++ (codes ":" ++ figures))))

-- hours that have the same figures
abbrev pub hours_text : ℕ → ℕ → List ℕ → List ℕ
hours_text first last figures = cond (first == last) (one_hour first figures) (more_hours first last figures)
