-- Reading figures one by one.
use Rattle.std.proofs.Common.{◌≡◌, ℕ, zero, suc, ◌-◌, ◌<◌, List, Ok, Err, sym, refl, ap, ◌∙◌, arith}
use Rattle.market.specs.Ranges.{within, limit}
use Rattle.entryfile.specs.declared.fault.EntryFault.{EntryFault}
use Rattle.entryfile.specs.declared.fault.EntryFault.TheVariants.{OutOfRange}
use Rattle.entryfile.specs.Forms.{Got, checked_at, more, after_field, form_at, end_of}
use Rattle.entryfile.specs.Layout.{figures_form}

end_more : (n : ℕ) (r : Got (List ℕ)) → end_of (more n r) ≡ end_of r
end_more n (Ok p) = refl
end_more n (Err e) = refl

module _ (file : List ℕ) (at : ℕ) where
  -- after one figure, one fewer is left
  pub figure_more : (k n p : ℕ) → 0 < k → Ok (n, p) ≡ checked_at OutOfRange (within 0 limit) file at → end_of (form_at (figures_form (k - 1)) file p) ≡ end_of (form_at (figures_form k) file at)
  figure_more zero n p h e = absurd (omega arith)
  figure_more (suc k) n p h e =
      let d : suc k - 1 ≡ k = omega arith in
      ap (λ j. end_of (form_at (figures_form j) file p)) d ∙ sym (end_more n (form_at (figures_form k) file p)) ∙ ap (λ r. end_of (after_field (λ _. form_at (figures_form k) file) r)) e

  pub figure_stop : (k : ℕ) {e : EntryFault} → 0 < k → Err e ≡ checked_at OutOfRange (within 0 limit) file at → Err e ≡ end_of (form_at (figures_form k) file at)
  figure_stop zero h e = absurd (omega arith)
  figure_stop (suc k) h e = ap (λ r. end_of (after_field (λ _. form_at (figures_form k) file) r)) e

  pub figures_none : (k : ℕ) → k ≡ 0 → Ok at ≡ end_of (form_at (figures_form k) file at)
  figures_none k e = sym (ap (λ j. end_of (form_at (figures_form j) file at)) e)
