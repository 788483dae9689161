-- The numbers and the bytes of the head of a file.
use Rattle.std.proofs.Common.{◌≡◌, ℕ, ◌+◌, ◌^◌, ◌≤◌, true, List, [], ◌∷◌, ◌++◌, length, Ok, sym, ap, ◌∙◌, append_assoc, arith, length-append, length-take}
use Rattle.std.specs.Int.Digits.{AllBelowBase}
use Rattle.std.specs.List.{list_all}
use Rattle.std.proofs.ByRecursion.{All-append}
use Rattle.std.proofs.lemmas.Grind.{flat_map-append}
use Rattle.std.proofs.lemmas.Bool.Decides.{nat_tests}
use Rattle.number.specs.Writes.{Wrote}
use Rattle.upto.specs.Listed.{listed}
use Rattle.upto.specs.declared.list.UpTo.{UpTo}
use Rattle.market.specs.Ranges.{within, limit}
use Rattle.market.specs.Openings.{Terms, month_in_range, terms_in_range}
use Rattle.market.specs.declared.month.Month.{Month}
use Rattle.entryfile.specs.Items.{numbers_bytes}
use Rattle.entryfile.specs.Files.{month_numbers, head_form, head_numbers, head_bytes}
use Rattle.entryfile.proofs.Reading.{form_reads}
use Rattle.entryfile.proofs.Ranged.{opening_accepts}
use Rattle.entrywriter.specs.Writes.{HeadReadsBack}

-- a list has no more items than it can hold
pub few_listed : {T : Type 0} {N : ℕ} (l : UpTo T N) → length (listed l) ≤ N
few_listed l = omega (arith, l.few, length-take l.count l.places)

-- the parts of the head as the code holds them
module _ (t : Terms) (ms : List Month) (ps : List ℕ) (f l z r m : ℕ) (e₁ : ms ≡ t.months) (e₂ : ps ≡ t.prices) (e₃ : f ≡ t.first_hour) (e₄ : l ≡ t.last_hour) (e₅ : z ≡ length t.prices) (e₆ : r ≡ t.buyout_rate) (e₇ : m ≡ t.pass_mark) where
  pub head_bytes_by_parts : numbers_bytes (1 ∷ length ms ∷ []) ++ (numbers_bytes (month_numbers ms) ++ (numbers_bytes (f ∷ l ∷ z ∷ []) ++ (numbers_bytes ps ++ numbers_bytes (r ∷ m ∷ [])))) ≡ head_bytes t
  head_bytes_by_parts = rw (e₁, e₂, e₃, e₄, e₅, e₆, e₇) (simp (append_assoc, flat_map-append))

  -- how many bytes they take
  pub head_size : length (numbers_bytes (1 ∷ length ms ∷ [])) + (length (numbers_bytes (month_numbers ms)) + (length (numbers_bytes (f ∷ l ∷ z ∷ [])) + (length (numbers_bytes ps) + length (numbers_bytes (r ∷ m ∷ []))))) ≡ length (head_bytes t)
  head_size = sym (ap length (sym head_bytes_by_parts) ∙ simp length-append)

-- the numbers of months in their ranges fit in 32 bits, and so do prices
months_small : (ms : List Month) → list_all month_in_range ms ≡ true → AllBelowBase (2 ^ 32) (month_numbers ms)
months_small [] e = tt
months_small (m ∷ ms) e = grind (arith, nat_tests, months_small ms)

prices_small : (ps : List ℕ) → list_all (within 0 limit) ps ≡ true → AllBelowBase (2 ^ 32) ps
prices_small [] e = tt
prices_small (p ∷ ps) e = grind (arith, nat_tests, prices_small ps)

-- so the numbers of a head fit in 32 bits where its terms are in their ranges
head_small : (t : Terms) → terms_in_range t ≡ true → AllBelowBase (2 ^ 32) (head_numbers t)
head_small t e = grind (arith, nat_tests, months_small t.months, prices_small t.prices, All-append)

-- an opening that was written is read back
pub head_reads_back : (t : Terms) → terms_in_range t ≡ true → {was : List ℕ} {n : ℕ} {is : List ℕ} → Wrote was 0 (head_bytes t) n is → HeadReadsBack t (Ok n)
head_reads_back t e {n = n} w file post f = form_reads head_form (head_numbers t) file 0 post (record { fits = opening_accepts t ∙ e; small = head_small t e }) f ∙ ap (λ k. Ok (head_numbers t, k)) (sym w.ends)
