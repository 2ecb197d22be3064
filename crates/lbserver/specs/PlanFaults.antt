-- The fault of a track plan's text.
use Rattle.std.specs.Prelude.{ℕ, ◌≡◌, ◌⊎◌, List}
use Rattle.console.specs.declared.fault.RunFault.TheVariants.{NoMemory}
use Rattle.roster.specs.Entry.{Entry}
use Rattle.railway_plan.specs.declared.details.LocatedFault.{LocatedFault}
use Rattle.railway_plan.specs.declared.fault.PlanTextFault.{PlanTextFault}
use Rattle.railway_plan.specs.Located.{IsLocated}
use Rattle.railway_plan.specs.Railways.{IsFaultIn}
use Rattle.lbserver.specs.declared.fault.ServerFault.{ServerFault}
use Rattle.lbserver.specs.declared.fault.ServerFault.TheVariants.{Plan, Run}

-- Why the text of a file of this name is no plan for the decoders of a roster: memory ran out, or it
-- has this fault, the first, which is shown with its details.
abbrev pub HasPlanFault : (file : List ℕ) → List Entry → (text : List ℕ) → ServerFault → Type 0
HasPlanFault file entries text fault =
    (fault ≡ Run NoMemory)
    ⊎ ((bad : PlanTextFault) × (located : LocatedFault) × IsFaultIn entries text bad
    × IsLocated text bad located × (fault ≡ Plan file located))
