-- The railway that a text describes, for the decoders of a roster, or its first fault.
use Rattle.std.specs.Prelude.{ℕ, ◌≡◌, ◌⊎◌, ◌+◌, ◌-◌, ◌^◌, List, Option, None, Some, Ok, Err, map, min, slice_get}
use Rattle.arrayvec.specs.ArrayString.{ArrayString}
use Rattle.roster.specs.Decoders.{decoder_name}
use Rattle.roster.specs.Entry.{Entry, name_of, spec_of}
use Rattle.railway.specs.declared.fault.Part.{Part}
use Rattle.railway.specs.declared.fault.Part.TheVariants as part
use Rattle.railway.specs.declared.fault.PlanFault.{PlanFault}
use Rattle.railway.specs.declared.fault.PlanFault.TheVariants as bad
use Rattle.railway.specs.declared.plan.Plan.{Plan}
use Rattle.railway.specs.Faults.{fault_of}
use Rattle.railway.specs.Railway.{RailwayState, planned}
use Rattle.railway_plan.specs.declared.fault.PlanTextFault.{PlanTextFault}
use Rattle.railway_plan.specs.declared.fault.Section.{Section}
use Rattle.railway_plan.specs.declared.fault.Section.TheVariants.{Block, Joint, Turnout, Train}
use Rattle.railway_plan.specs.declared.fault.TrainNames.{TrainNames}
use Rattle.railway_plan.specs.declared.fault.Reason.{Reason}
use Rattle.railway_plan.specs.declared.fault.Reason.TheVariants.{BadKey, UnknownBlock, RepeatedName, RepeatedSensor, RepeatedEnd, NoDecoder, RepeatedDecoder, LongTrain, FastTrain, OffTrack}
use Rattle.railway_plan.specs.declared.key.Key.TheVariants.{Acceleration, Length, Sensor}
use Rattle.railway_plan.specs.Entries.{plan_entries}
use Rattle.railway_plan.specs.Format.{Text, plan_in}

-- the number of a part, from 1; it has 64 bits
abbrev pub number_of : (index : ℕ) → ℕ
number_of index = min (index + 1) (2 ^ 64 - 1)

abbrev pub section_of : Part → Section
section_of (part.Joint i) = Joint (number_of i)
section_of (part.Turnout i) = Turnout (number_of i)
section_of (part.Train i) = Train (number_of i)

-- the part of the text that has the fault of a plan
abbrev pub section_at : PlanFault → Section
section_at (bad.BlockLength i) = Block (number_of i)
section_at (bad.NameTwice i) = Block (number_of i)
section_at (bad.Sensor i) = Block (number_of i)
section_at (bad.SensorTwice i) = Block (number_of i)
section_at (bad.UnknownBlock part) = section_of part
section_at (bad.EndTwice end) = Block (number_of end.block)
section_at (bad.UnknownDecoder part) = section_of part
section_at (bad.DecoderTwice i) = Train (number_of i)
section_at (bad.TrainLength i) = Train (number_of i)
section_at (bad.Momentum i) = Train (number_of i)
section_at (bad.OffTrack i) = Train (number_of i)
section_at (bad.LongTrain train decoder block) = Train (number_of train)
section_at (bad.FastTrain train decoder block) = Train (number_of train)

abbrev pub why_of : PlanFault → Reason
why_of (bad.BlockLength i) = BadKey Length
why_of (bad.NameTwice i) = RepeatedName
why_of (bad.Sensor i) = BadKey Sensor
why_of (bad.SensorTwice i) = RepeatedSensor
why_of (bad.UnknownBlock part) = UnknownBlock
why_of (bad.EndTwice end) = RepeatedEnd end.end
why_of (bad.UnknownDecoder part) = NoDecoder
why_of (bad.DecoderTwice i) = RepeatedDecoder
why_of (bad.TrainLength i) = BadKey Length
why_of (bad.Momentum i) = BadKey Acceleration
why_of (bad.OffTrack i) = OffTrack
why_of (bad.LongTrain train decoder block) = LongTrain
why_of (bad.FastTrain train decoder block) = FastTrain

-- the name of the train of a decoder of the roster, and this one of a block
abbrev pub AreNames : List Entry → (decoder : ℕ) → (block : ArrayString) → Option TrainNames
    → Type 0
AreNames entries decoder block None = ⊥
AreNames entries decoder block (Some names) =
    (names.train.bytes ≡ decoder_name (slice_get entries decoder)) × (names.block ≡ block)

-- If a train is too long, its name, and that of the block in which the track behind it ends. If it is
-- too fast, its name, and that of the shortest block.
abbrev pub HasNames : List Entry → PlanFault → Option TrainNames → Type 0
HasNames entries (bad.LongTrain train decoder block) names = AreNames entries decoder block names
HasNames entries (bad.FastTrain train decoder block) names = AreNames entries decoder block names
HasNames entries (bad.BlockLength i) names = names ≡ None
HasNames entries (bad.NameTwice i) names = names ≡ None
HasNames entries (bad.Sensor i) names = names ≡ None
HasNames entries (bad.SensorTwice i) names = names ≡ None
HasNames entries (bad.UnknownBlock part) names = names ≡ None
HasNames entries (bad.EndTwice end) names = names ≡ None
HasNames entries (bad.UnknownDecoder part) names = names ≡ None
HasNames entries (bad.DecoderTwice i) names = names ≡ None
HasNames entries (bad.TrainLength i) names = names ≡ None
HasNames entries (bad.Momentum i) names = names ≡ None
HasNames entries (bad.OffTrack i) names = names ≡ None

-- the fault of a plan for the decoders of a roster, as one of its text
pub record IsTextFault (entries : List Entry) (plan : PlanFault)
    (fault : PlanTextFault) : Type 0 where
  pub section : fault.section ≡ section_at plan
  pub why : fault.why ≡ why_of plan
  pub names : HasNames entries plan fault.names

-- the text is a plan without a fault, and this is its railway
pub record IsRailwayIn (entries : List Entry) (text : Text) (railway : RailwayState) : Type 0 where
  pub plan : Plan
  pub written : plan_in (map name_of entries) text ≡ Ok (plan_entries plan)
  pub sound : fault_of (map spec_of entries) plan ≡ None
  pub laid : railway ≡ planned (map spec_of entries) plan

-- the plan of the text has this fault, the first
pub record IsPlanFault (entries : List Entry) (text : Text) (fault : PlanTextFault) : Type 0 where
  pub plan : Plan
  pub first : PlanFault
  pub written : plan_in (map name_of entries) text ≡ Ok (plan_entries plan)
  pub found : fault_of (map spec_of entries) plan ≡ Some first
  pub same : IsTextFault entries first fault

-- the text is no plan for this fault, the first, or its plan has it
abbrev pub IsFaultIn : List Entry → Text → PlanTextFault → Type 0
IsFaultIn entries text fault =
    (plan_in (map name_of entries) text ≡ Err fault) ⊎ IsPlanFault entries text fault
