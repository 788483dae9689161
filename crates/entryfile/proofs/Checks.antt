-- How one number is read and checked.
use Rattle.std.proofs.Common.{◌≡◌, ℕ, Bool, true, false, List, length, ◌≤◌, IsErrAnd, Ok, Err, Result, refl, sym, ap, ◌∙◌, ⊎_elim, arith}
use Rattle.std.proofs.lemmas.Result.{err_from_is_err_and}
use Rattle.std.proofs.lemmas.List.{drop_all}
use Rattle.std.proofs.lemmas.Bool.{cond-true, cond-false, cases_Bool}
use Rattle.number.specs.Numbers.{decode_by, decode, placed, number_at}
use Rattle.number.specs.declared.NumberFault.{NumberFault}
use Rattle.market.specs.Ranges.{within}
use Rattle.market.specs.Kinds.{kind_number, mark_number}
use Rattle.market.specs.declared.family.Family.{Family}
use Rattle.market.specs.declared.kind.Kind.{Kind}
use Rattle.market.specs.declared.kind.Kind.TheVariants.{VirtualDemandResponse, PhysicalDemandResponse, DispatchableLoad, Generation, Storage, SystemBackedImport, GeneratorBackedImport}
use Rattle.market.specs.declared.mark.Mark.{Mark}
use Rattle.market.specs.declared.mark.Mark.TheVariants.{LateData, FailedImportCall}
use Rattle.entryfile.specs.declared.fault.EntryFault.{EntryFault}
use Rattle.entryfile.specs.declared.fault.EntryFault.TheVariants.{Number, Unknown}
use Rattle.entryfile.specs.Forms.{Got, checked, checked_at, after_field, form_at}
use Rattle.entryfile.specs.Layout.{number, fields_form}
use Rattle.entryfile.specs.Items.{with_reference, entry_at}
use Rattle.entryfile.specs.Cursors.{ends_at}

-- what leaves by a `?`
pub exit : {T E : Type 0} {x : E} (r : Result T E) → IsErrAnd r (λ y. y ≡ x) → r ≡ Err x
exit r h = let p = err_from_is_err_and r h in p.1 ∙ ap Err p.2

ok_not_err : {T E : Type 0} {x : T} {y : E} → ◌≡◌ {A = Result T E} (Ok x) (Err y) → ⊥
ok_not_err e = let z : ◌≡◌ {A = ℕ} 0 1 = cc in omega arith

ok_first : {n p : ℕ} {q : ℕ × ℕ} → ◌≡◌ {A = Got ℕ} (Ok (n, p)) (Ok q) → n ≡ q.0
ok_first e = cc

ok_same : {n p : ℕ} {q : ℕ × ℕ} → ◌≡◌ {A = Got ℕ} (Ok (n, p)) (Ok q) → ◌≡◌ {A = Result (ℕ × ℕ) NumberFault} (Ok (n, p)) (Ok q)
ok_same {n} {p} {q} e = let h : (n, p) ≡ q = cc in ap Ok h

module _ (fault : ℕ → EntryFault) (test : ℕ → Bool) (file : List ℕ) (at : ℕ) where
  pub check_err : {e : NumberFault} → Err e ≡ number_at file at → Err (Number e) ≡ checked_at fault test file at
  unfolding checked_at
  check_err e = ap (checked fault test at) e

  pub check_no : {n p : ℕ} → Ok (n, p) ≡ number_at file at → test n ≡ false → Err (fault at) ≡ checked_at fault test file at
  unfolding checked_at
  check_no e f = sym (cond-false _ _ _ f) ∙ ap (checked fault test at) e

  pub check_ok : {n p : ℕ} → Ok (n, p) ≡ number_at file at → test n ≡ true → Ok (n, p) ≡ checked_at fault test file at
  unfolding checked_at
  check_ok e t = sym (cond-true _ _ _ t) ∙ ap (checked fault test at) e

  -- the fault is always one of the place
  pub fault_here : checked_at (λ _. fault at) test file at ≡ checked_at fault test file at
  unfolding checked_at
  fault_here = same (number_at file at)
    where
      same : (r : Result (ℕ × ℕ) NumberFault) → checked (λ _. fault at) test at r ≡ checked fault test at r
      same (Ok p) = refl
      same (Err e) = refl

  -- what was read passed the test
  pub check_passed : {n p : ℕ} → Ok (n, p) ≡ checked_at fault test file at → test n ≡ true
  unfolding checked_at
  check_passed e = by_cases (number_at file at) e
    where
      by_cases : {n p : ℕ} (r : Result (ℕ × ℕ) NumberFault) → Ok (n, p) ≡ checked fault test at r → test n ≡ true
      by_cases {n} (Ok q) e = ⊎_elim (λ t. ap test (ok_first (e ∙ cond-true _ _ _ t)) ∙ t) (λ f. absurd (ok_not_err (e ∙ cond-false _ _ _ f))) (cases_Bool (test q.0))
      by_cases (Err x) e = absurd (ok_not_err e)

  -- what passed the test was read
  pub check_number : {n p : ℕ} → Ok (n, p) ≡ checked_at fault test file at → Ok (n, p) ≡ number_at file at
  unfolding checked_at
  check_number e = by_cases (number_at file at) e
    where
      by_cases : {n p : ℕ} (r : Result (ℕ × ℕ) NumberFault) → Ok (n, p) ≡ checked fault test at r → Ok (n, p) ≡ r
      by_cases (Ok q) e = ⊎_elim (λ t. ok_same (e ∙ cond-true _ _ _ t)) (λ f. absurd (ok_not_err (e ∙ cond-false _ _ _ f))) (cases_Bool (test q.0))
      by_cases (Err x) e = absurd (ok_not_err e)

-- the number of a kind, and of a sort of mark, is in its range
pub kind_within : (k : Kind) (n : ℕ) → kind_number k ≡ n → within 1 7 n ≡ true
kind_within k n e = ap (within 1 7) (sym e) ∙ known k
  where
    known : (k : Kind) → within 1 7 (kind_number k) ≡ true
    known VirtualDemandResponse = refl
    known PhysicalDemandResponse = refl
    known DispatchableLoad = refl
    known Generation = refl
    known Storage = refl
    known SystemBackedImport = refl
    known GeneratorBackedImport = refl

pub mark_within : (m : Mark) (n : ℕ) → mark_number m ≡ n → within 1 2 n ≡ true
mark_within m n e = ap (within 1 2) (sym e) ∙ known m
  where
    known : (m : Mark) → within 1 2 (mark_number m) ≡ true
    known LateData = refl
    known FailedImportCall = refl

-- where no byte stands, there is no number and no entry
pub number_ends : (file : List ℕ) (at : ℕ) → length file ≤ at → number_at file at ≡ Err (ends_at at)
unfolding number_at decode decode_by
number_ends file at h = ap (λ bytes. placed at (decode bytes)) (drop_all at file h)

pub entry_ends : (zones : ℕ) (families : List Family) (file : List ℕ) (at : ℕ) → length file ≤ at → Err (Number (ends_at at)) ≡ entry_at zones families file at
entry_ends zones families file at h =
    ap (λ r. with_reference file (after_field (λ k. form_at (number (within 0 999) (λ sender. fields_form zones families k)) file) r)) (check_err Unknown (within 1 13) file at (sym (number_ends file at h)))

-- what a call that reads one number and checks it asks for
pub ruleset checks = (check_err, check_no, check_ok, exit)
