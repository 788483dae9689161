-- Which figures fit a sheet.
use Rattle.std.proofs.Common.{◌≡◌, ℕ, zero, suc, Bool, true, false, ◌&&◌, eqb, List, [], ◌∷◌, length, Ok, Err, Result, sym, refl, ap, ◌∙◌, ⊎_elim, arith}
use Rattle.std.specs.List.{list_all}
use Rattle.std.specs.Result.{result_eq}
use Rattle.std.specs.Int.Digits.{AllBelowBase}
use Rattle.std.proofs.lemmas.Bool.{cases_Bool, cases_eq, eq-eqb, ne_eqb, and_right}
use Rattle.market.specs.Ranges.{within, limit}
use Rattle.entryfile.specs.declared.fault.EntryFault.{EntryFault}
use Rattle.entryfile.specs.Forms.{form_at, end_of, accepts}
use Rattle.entryfile.specs.Layout.{figures_form}
use Rattle.entryfile.specs.Items.{numbers_bytes}
use Rattle.entryfile.specs.Views.{numbers_in}
use Rattle.entryfile.proofs.Spelled.{numbers_spelled, figures_small, figures_accept, figures_accept_back}

module _ (count : ℕ) (bytes : List ℕ) (u : AllBelowBase 256 bytes) where
  -- bytes whose figures end elsewhere, or nowhere, are refused
  refused : (r : Result ℕ EntryFault) → r ≡ end_of (form_at (figures_form count) bytes 0) → (Ok (length bytes) ≡ r → ⊥) → false ≡ accepts (figures_form count) (numbers_in bytes)
  refused r e n = ⊎_elim (λ a. absurd (n (figures_accept_back count bytes u a ∙ sym e))) (λ f. sym f) (cases_Bool (accepts (figures_form count) (numbers_in bytes)))

  -- where the figures end at the end of the bytes, they are all of them; how faults are compared makes no difference
  pub encoded_end : (same : EntryFault → EntryFault → Bool) (r : Result ℕ EntryFault) → r ≡ end_of (form_at (figures_form count) bytes 0) → result_eq eqb same r (Ok (length bytes)) ≡ accepts (figures_form count) (numbers_in bytes)
  encoded_end same (Ok end) e =
      ⊎_elim
      (λ here. eq-eqb end (length bytes) here ∙ sym (figures_accept count bytes u (ap Ok (sym here) ∙ e)))
      (λ other. ne_eqb end (length bytes) other ∙ refused (Ok end) e (λ h. other (let q : end ≡ length bytes = cc in q)))
      (cases_eq end (length bytes))
  encoded_end same (Err x) e = refused (Err x) e (λ h. let z : ◌≡◌ {A = ℕ} 0 1 = cc in omega arith)

  pub encoded_spells : accepts (figures_form count) (numbers_in bytes) ≡ true → numbers_bytes (numbers_in bytes) ≡ bytes
  encoded_spells a = numbers_spelled bytes u (figures_small count (numbers_in bytes) a)

-- more or fewer numbers than there are figures
pub listed_other : (count : ℕ) (ns : List ℕ) → (length ns ≡ count → ⊥) → false ≡ accepts (figures_form count) ns
listed_other zero [] n = absurd (n refl)
listed_other zero (x ∷ ns) n = refl
listed_other (suc count) [] n = refl
listed_other (suc count) (x ∷ ns) n = sym (and_right (within 0 limit x) _ (sym (listed_other count ns (λ e. n (ap suc e)))))

as_many : (ns : List ℕ) → list_all (within 0 limit) ns ≡ accepts (figures_form (length ns)) ns
as_many [] = refl
as_many (x ∷ ns) = ap (λ b. within 0 limit x && b) (as_many ns)

-- as many numbers as there are figures
pub listed_every : (count : ℕ) (ns : List ℕ) → length ns ≡ count → list_all (within 0 limit) ns ≡ accepts (figures_form count) ns
listed_every count ns e = as_many ns ∙ ap (λ k. accepts (figures_form k) ns) e
