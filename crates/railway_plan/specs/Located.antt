-- A fault of a plan's text, with its details.
use Rattle.std.specs.Prelude.{◌≡◌}
use Rattle.roster.specs.Toml.{table_in}
use Rattle.railway_plan.specs.declared.details.LocatedFault.{LocatedFault}
use Rattle.railway_plan.specs.declared.fault.PlanTextFault.{PlanTextFault}
use Rattle.railway_plan.specs.Details.{AreDetails}
use Rattle.railway_plan.specs.Format.{Text}

pub record IsLocated (text : Text) (fault : PlanTextFault) (located : LocatedFault) : Type 0 where
  pub same : located.fault ≡ fault
  pub details : AreDetails text (table_in text) fault located.details
