-- A layout with a track plan, for C.
use Rattle.std.specs.Prelude.{ℕ, ◌≡◌, ◌⊎◌, ◌&&◌, ◌==◌, Bool, true, false, if◌then◌else◌, is_some, List, [], ◌∷◌, map, Option, Some, None, Result, Ok, Err, option_map, slice_get}
use Rattle.station_core.specs.Seen.{is_line_count}
use Rattle.ln_ops.specs.declared.sensor.SensorReport.{SensorReport}
use Rattle.layout_core.specs.declared.node.Node.{Node}
use Rattle.refresh_ring.specs.declared.pick.Power.{Power}
use Rattle.railway.specs.Railway.{RailwayState, elapsed, is_sensed, speed_in}
use Rattle.railway.specs.Reports.{full}
use Rattle.railway_plan.specs.declared.fault.PlanTextFault.{PlanTextFault}
use Rattle.railway_plan.specs.Railways.{IsFaultIn, IsRailwayIn}
use Rattle.roster.specs.declared.fault.RosterFault.{RosterFault}
use Rattle.roster.specs.Entry.{Entry, spec_of}
use Rattle.station_c.specs.declared.layout.Layout.{Layout}
use Rattle.station_c.specs.declared.train.Train.{Train}
use Rattle.station_c.specs.Layout.{IsNew, railway_of}
use Rattle.station_c.specs.Train.{told}

-- there is a layout with a track plan
abbrev pub has_railway : Layout → Bool
has_railway layout = layout.made && is_some (railway_of layout)

-- a new layout has the decoders of a roster and the railway of a plan
abbrev pub HasPlan : (lines : ℕ) → Result (List Entry) RosterFault → (plan : List ℕ) → Layout → Type 0
HasPlan lines (Err fault) plan layout = ⊥
HasPlan lines (Ok entries) plan layout =
    (railway : RailwayState) × IsRailwayIn entries plan railway × IsNew lines (map spec_of entries) (Some railway) layout

-- the plan has a fault for the decoders of a roster
abbrev pub HasPlanFault : Result (List Entry) RosterFault → (plan : List ℕ) → Type 0
HasPlanFault (Ok entries) plan = (fault : PlanTextFault) × IsFaultIn entries plan fault
HasPlanFault (Err fault) plan = ⊥

-- What a status says, unless memory runs out: 4 there is a layout already, 2 the roster has a fault, 5 the plan has one, 1 the
-- lines are not 1 to 8, in this order; 0 if nothing is wrong.
abbrev pub IsPlanStatus : (made : Bool) → Result (List Entry) RosterFault → (plan : List ℕ) → (lines status : ℕ) → Type 0
IsPlanStatus true roster plan lines status = status ≡ 4
IsPlanStatus false (Err fault) plan lines status = status ≡ 2
IsPlanStatus false (Ok entries) plan lines status =
    (HasPlanFault (Ok entries) plan × (status ≡ 5))
    ⊎ ((railway : RailwayState) × IsRailwayIn entries plan railway × (status ≡ (if is_line_count lines then 0 else 1)))

-- the railway of a layout after so many microseconds in which its decoders do this
abbrev pub railway_after : Option RailwayState → (micros : ℕ) → Power → List Node → Option RailwayState
railway_after None micros power nodes = None
railway_after (Some railway) micros power nodes = Some (elapsed railway micros power nodes)

-- what the first of these reports says of a sensor
abbrev pub level_in : List SensorReport → (sensor : ℕ) → Option Bool
level_in [] sensor = None
level_in (report ∷ reports) sensor =
    if report.sensor == sensor then Some report.occupied else level_in reports sensor

-- whether a sensor finds its block occupied, if a block has it
abbrev pub sensed_by : Option RailwayState → (sensor : ℕ) → Option Bool
sensed_by None sensor = None
sensed_by (Some railway) sensor = level_in (full railway.network.blocks (is_sensed railway)) sensor

-- where the train of this index is, if there is one
abbrev pub train_of : Option RailwayState → (i : ℕ) → Option Train
train_of None i = None
train_of (Some railway) i = option_map (λ train. told train (speed_in railway i)) (slice_get railway.trains i)
