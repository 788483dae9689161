-- Reading a form part by part.
use Rattle.std.proofs.Common.{◌≡◌, ℕ, List, [], ◌++◌, Ok, Err, sym, refl, ap, ◌∙◌}
use Rattle.entryfile.specs.declared.fault.EntryFault.{EntryFault}
use Rattle.entryfile.specs.Forms.{Form, done, Got, ahead, then_at, form_at}
use Rattle.entryfile.proofs.Sequence.{ahead-err, ahead-append, ahead_none}

-- of the whole form, these numbers are read, and what is left begins at a place
pub record Read (whole : Form) (file : List ℕ) (at : ℕ) (ns : List ℕ) (p : ℕ) (left : Form) : Type 0 where
  pub so_far : form_at whole file at ≡ ahead ns (form_at left file p)

pub none_read : (whole : Form) (file : List ℕ) (at : ℕ) → Read whole file at [] at whole
none_read whole file at = record { so_far = refl }

-- what a call says of a file that is the same
there : {file f : List ℕ} → f ≡ file → (left rest : Form) (p : ℕ) (got : Got (List ℕ)) → form_at left f p ≡ then_at (form_at rest f) got → form_at left file p ≡ then_at (form_at rest file) got
there same left rest p got e = sym (ap (λ g. form_at left g p) same) ∙ e ∙ ap (λ g. then_at (form_at rest g) got) same

module _ {whole left : Form} {file f : List ℕ} {at p : ℕ} {ns : List ℕ} (same : f ≡ file) where
  -- the next part, as the call that reads it says
  pub part_read : (rest : Form) (ms : List ℕ) (q : ℕ) → Read whole file at ns p left → form_at left f p ≡ then_at (form_at rest f) (Ok (ms, q)) → Read whole file at (ns ++ ms) q rest
  part_read rest ms q r e = record { so_far = r.so_far ∙ ap (ahead ns) (there same left rest p (Ok (ms, q)) e) ∙ ahead-append ns ms (form_at rest file q) }

  pub part_stop : {x : EntryFault} → Read whole file at ns p left → form_at left f p ≡ Err x → form_at whole file at ≡ Err x
  part_stop {x} r e = r.so_far ∙ ap (ahead ns) (there same left done p (Err x) e) ∙ ahead-err ns x

pub all_read : {whole : Form} {file : List ℕ} {at p : ℕ} {ns : List ℕ} → Read whole file at ns p done → form_at whole file at ≡ Ok (ns, p)
all_read {p = p} {ns} r = r.so_far ∙ ahead_none ns p
