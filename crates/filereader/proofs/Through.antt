-- How a whole file reads, turn by turn.
use Rattle.std.proofs.Common.{◌≡◌, ℕ, zero, suc, ◌+◌, ◌-◌, ◌<◌, min, Bool, true, false, cond, leb, ◌≤◌, List, [], ◌++◌, length, take, drop, Some, None, Ok, Err, Option, sym, refl, ap, ◌∙◌, subst, ⊎_elim, add-zero, arith, length-append, take-append-drop}
use Rattle.std.proofs.lemmas.Bool.{cond-true, le-leb, cases_lt}
use lib.Seq.{drop-append_seam}
use Rattle.std.specs.Option.{option_map}
use Rattle.std.specs.Int.Digits.{AllBelowBase}
use Rattle.market.specs.Opened.{terms_of}
use Rattle.market.specs.declared.family.Family.{Family}
use Rattle.market.specs.declared.refusal.Fault.{Fault}
use Rattle.entryfile.specs.declared.entry.Turn.{Turn}
use Rattle.entryfile.specs.declared.head.Head.{Head}
use Rattle.filereader.specs.declared.reader.Reader.{Reader}
use Rattle.filereader.specs.declared.survey.Survey.{Survey}
use Rattle.entryfile.specs.Forms.{Got}
use Rattle.entryfile.specs.Items.{Item, entry_at}
use Rattle.entryfile.specs.Files.{Listing, listing, go_on, entries_by, head_bytes, items_bytes, file_bytes, zones_of}
use Rattle.entryfile.specs.Views.{item_of}
use Rattle.entryfile.specs.Steps.{Answer, Position, position, step_by, fault_of, answer_of}
use Rattle.filereader.specs.Readers.{SameSource, file_of, families_of, zones_in, position_of, next_of}
use Rattle.filereader.specs.Surveys.{survey_after, listing_of, WholeFileWrites, WholeFileReads}
use Rattle.entryfile.proofs.Reading.{entries_read}
use Rattle.entryfile.proofs.Writing.{entries_write}

abbrev pub survey : ℕ → Option Fault → Survey
survey n f = record { entries = n; fault = f }

-- what is told where the reader has so many turns left
abbrev pub in_turns : ℕ → ℕ → List Family → List ℕ → Position → Survey
in_turns turns zones families file p = survey_after p.entries (entries_by turns zones families file p.place)

abbrev pub left_in : ℕ → Reader → Survey
left_in turns r = in_turns turns (zones_in r) (families_of r) (file_of r) (position_of r)

-- an entry leaves the rest to be told; the end and a fault leave nothing
abbrev Told : (Position → Survey) → Survey → Answer → Position → Type 0
Told rest s (Ok (Some i)) q = s ≡ rest q
Told rest s (Ok None) q = s ≡ survey q.entries None
Told rest s (Err f) q = s ≡ survey q.entries (Some f)

told_by : (rest : ℕ → Listing) (at n : ℕ) (b : Bool) (r : Got Item) → let next = cond b (Ok None, position at n) (step_by at n r) in Told (λ q. survey_after q.entries (rest q.place)) (survey_after n (cond b (listing [] None) (go_on rest r))) next.0 next.1
told_by rest at n true r = ap (λ m. survey m None) (add-zero n)
told_by rest at n false (Ok p) = ap (λ m. survey m (option_map (fault_of (m + 1)) (rest p.1).fault)) (omega arith)
told_by rest at n false (Err e) = ap (λ m. survey m (Some (fault_of (m + 1) e))) (add-zero n)

told : (turns : ℕ) (r : Reader) (a : Answer) (q : Position) → (a, q) ≡ next_of r → Told (in_turns turns (zones_in r) (families_of r) (file_of r)) (left_in (suc turns) r) a q
unfolding entries_by
told turns r a q e =
    subst (λ (p : Answer × Position). Told (in_turns turns (zones_in r) (families_of r) (file_of r)) (left_in (suc turns) r) p.0 p.1) (sym e)
    (told_by (entries_by turns (zones_in r) (families_of r) (file_of r)) r.place r.entries (leb (length (file_of r)) r.place) (entry_at (zones_in r) (families_of r) (file_of r) r.place))

one_turn : (turns : ℕ) (r : Reader) → 0 < turns → left_in turns r ≡ left_in (suc (turns - 1)) r
one_turn turns r h = ap (λ n. left_in n r) (omega arith)

same_turns : (turns : ℕ) {zones zones' : ℕ} {families families' : List Family} {file file' : List ℕ} {p p' : Position} → zones ≡ zones' → families ≡ families' → file ≡ file' → p ≡ p' → in_turns turns zones families file p ≡ in_turns turns zones' families' file' p'
same_turns turns z f b e = cc

pub goes_on : (turns : ℕ) (r s : Reader) (o : Option Turn) (t : Turn) → 0 < turns → o ≡ Some t → SameSource r s → (answer_of (Ok o), position_of s) ≡ next_of r → left_in turns r ≡ left_in (turns - 1) s
goes_on turns r s o t h is (b, f, x) e =
    one_turn turns r h
    ∙ told (turns - 1) r (Ok (Some (item_of t))) (position_of s) (ap (λ v. (answer_of (Ok v), position_of s)) (sym is) ∙ e)
    ∙ same_turns (turns - 1) (ap (λ v. zones_of (terms_of v)) (sym x)) (sym f) (sym b) refl

pub fails : (turns : ℕ) (r s : Reader) (f : Fault) → 0 < turns → (Err f, position_of s) ≡ next_of r → left_in turns r ≡ survey s.entries (Some f)
fails turns r s f h e = one_turn turns r h ∙ told (turns - 1) r (Err f) (position_of s) e

no_turns : (turns : ℕ) (r : Reader) → turns ≡ 0 → left_in turns r ≡ survey r.entries None
unfolding entries_by
no_turns zero r e = ap (λ m. survey m None) (add-zero r.entries)
no_turns (suc turns) r e = absurd (omega arith)

-- a reader that is through stays where it was
through : (r : Reader) → length (file_of r) ≤ r.place → next_of r ≡ (Ok None, position_of r)
through r h = cond-true _ _ _ (le-leb (length (file_of r)) r.place h)

pub fault_within : (r : Reader) (f : Fault) (q : Position) → (Err f, q) ≡ next_of r → r.place < length (file_of r)
fault_within r f q e = ⊎_elim (λ l. l) (λ h. absurd (apart (e ∙ through r h))) (cases_lt r.place (length (file_of r)))
  where
    apart : {p : Position} → ◌≡◌ {A = Answer × Position} (Err f, q) (Ok None, p) → ⊥
    apart e = let first = ap (λ x. x.0) e in let z : ◌≡◌ {A = ℕ} 0 1 = cc first in omega arith

pub ends : (turns : ℕ) (r s : Reader) (o : Option Turn) → length (file_of r) - r.place ≤ turns → o ≡ None → (answer_of (Ok o), position_of s) ≡ next_of r → left_in turns r ≡ survey s.entries None
ends zero r s o h is e = no_turns zero r refl ∙ ap (λ q. survey q.1.entries None) (sym (e ∙ through r (omega arith)))
ends (suc turns) r s o h is e = told turns r (Ok None) (position_of s) (ap (λ v. (answer_of (Ok v), position_of s)) (sym is) ∙ e)

pub whole_writes : (families : List Family) (file : List ℕ) (h : Head) → AllBelowBase 256 file → WholeFileWrites families file h
whole_writes families file h under s none =
    let end = h.end in
    let l = listing_of families file h in
    let within = s.within in
    let stands : min end (length file) ≡ end = omega arith in
    let k : end - 0 ≡ end = omega arith in
    let (good, bytes) = entries_write (zones_of (terms_of h.opening)) families file (min end (length file)) l.items under (omega arith) (ap (listing l.items) none) in
    (good, ap (λ bs. bs ++ items_bytes l.items) (s.is ∙ ap (λ n. take n file) k) ∙ ap (λ bs. take end file ++ bs) (bytes ∙ ap (λ n. drop n file) stands) ∙ take-append-drop end file)

pub whole_reads : (families : List Family) (h : Head) → WholeFileReads families h
whole_reads families h is good =
    let t = terms_of h.opening in
    entries_read (zones_of t) families (file_bytes t is) (length (head_bytes t)) is good (omega (arith, length-append (head_bytes t) (items_bytes is))) (drop-append_seam (head_bytes t) (items_bytes is))
