-- The fault of a roster's text.
use Rattle.std.specs.Prelude.{ℕ, ◌≡◌, ◌⊎◌, List, Err}
use Rattle.console.specs.declared.fault.RunFault.TheVariants.{NoMemory}
use Rattle.roster.specs.declared.fault.RosterFault.{RosterFault}
use Rattle.roster.specs.Details.{AreDetails, FaultDetails}
use Rattle.roster.specs.Format.{roster_in}
use Rattle.roster.specs.Toml.{table_in}
use Rattle.lbserver.specs.declared.fault.ServerFault.{ServerFault}
use Rattle.lbserver.specs.declared.fault.ServerFault.TheVariants.{Roster, Run}

-- Why the text of a file of this name is no roster: memory ran out, or it has this fault, the first.
abbrev pub HasFault : (file text : List ℕ) → ServerFault → Type 0
HasFault file text fault =
    (fault ≡ Run NoMemory)
    ⊎ ((bad : RosterFault) × (details : FaultDetails) × (roster_in text ≡ Err bad) × AreDetails text (table_in text) bad.node details × (fault ≡ Roster file bad details))
