-- The kinds of resource and the sorts of mark, by their numbers.
use Rattle.std.specs.Prelude.{ℕ, Bool, cond, ◌==◌}
use Rattle.market.specs.Ranges.{within, limit}
use Rattle.market.specs.declared.kind.Kind.{Kind}
use Rattle.market.specs.declared.kind.Kind.TheVariants.{VirtualDemandResponse, PhysicalDemandResponse, DispatchableLoad, Generation, Storage, SystemBackedImport, GeneratorBackedImport}
use Rattle.market.specs.declared.kind.AssessmentFamily.{AssessmentFamily}
use Rattle.market.specs.declared.kind.AssessmentFamily.TheVariants.{Dispatchable, HourlyDemandResponse, BackedImport}
use Rattle.market.specs.declared.mark.Mark.{Mark}
use Rattle.market.specs.declared.mark.Mark.TheVariants.{LateData, FailedImportCall}

abbrev pub kind_number : Kind → ℕ
kind_number VirtualDemandResponse = 1
kind_number PhysicalDemandResponse = 2
kind_number DispatchableLoad = 3
kind_number Generation = 4
kind_number Storage = 5
kind_number SystemBackedImport = 6
kind_number GeneratorBackedImport = 7

-- the family by which a kind is assessed
abbrev pub kind_family : Kind → AssessmentFamily
kind_family VirtualDemandResponse = HourlyDemandResponse
kind_family PhysicalDemandResponse = HourlyDemandResponse
kind_family DispatchableLoad = Dispatchable
kind_family Generation = Dispatchable
kind_family Storage = Dispatchable
kind_family SystemBackedImport = Dispatchable
kind_family GeneratorBackedImport = BackedImport

abbrev pub family_number : AssessmentFamily → ℕ
family_number Dispatchable = 1
family_number HourlyDemandResponse = 2
family_number BackedImport = 3

abbrev pub mark_number : Mark → ℕ
mark_number LateData = 1
mark_number FailedImportCall = 2

-- virtual demand response, kind 1, registers a capability of 1 to the limit; every other kind has 0
abbrev pub capability_fits : ℕ → ℕ → Bool
capability_fits kind capability = cond (kind == 1) (within 1 limit capability) (capability == 0)
