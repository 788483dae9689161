-- What a value of the type Opening says.
use Rattle.std.specs.Prelude.{◌≡◌, true, false, Ok, Err, Result}
use Rattle.market.specs.Openings.{Terms, said, terms_in_range}
use Rattle.market.specs.Refusals.{refused_call}
use Rattle.market.specs.declared.opening.Opening.{Opening}
use Rattle.market.specs.declared.refusal.Fault.{Fault}
use Rattle.market.specs.declared.refusal.Cause.TheVariants.{OutOfRange}

abbrev pub terms_of : Opening → Terms
terms_of o = said o.terms

-- terms in their ranges make an opening that says them; any others are refused with cause 5
abbrev pub Made : Terms → Result Opening Fault → Type 0
Made t (Ok o) = (terms_in_range t ≡ true) × (terms_of o ≡ t)
Made t (Err f) = (terms_in_range t ≡ false) × (f ≡ refused_call OutOfRange)
