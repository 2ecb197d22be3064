-- The trains and blocks that clients name, and what sensors report of a train that is put there.
use Rattle.std.proofs.Common.{◌≡◌, ℕ, ◌+◌, ◌≤◌, Bool, true, false, List, [], ◌∷◌, ◌++◌, Option, None, Some, ap, ap₂, refl, arith, inl, inr, length, sym, ◌∙◌, if◌then◌else◌}
use Rattle.std.specs.Prelude.{position, unwrap_or}
use Rattle.std.specs.List.{position_or_len}
use Rattle.std.proofs.lemmas.Bool.{cases_lt, le-ltb, lt-ltb}
use Rattle.std.proofs.lemmas.List.Sums.{prefix_len-le-length}
use Rattle.ln_ops.specs.declared.sensor.SensorReport.{SensorReport}
use Rattle.railway.specs.declared.block.Block.{Block}
use Rattle.railway.specs.declared.fault.PlaceFault.{PlaceFault}
use Rattle.railway.specs.declared.train.Position.{Position}
use Rattle.railway.specs.Course.{after, reports_of, sensor_failed, unless_refused}
use Rattle.railway.specs.Course.Happening.{Places, SensorFails, TurnoutFails}
use Rattle.railway.specs.Failures.{block_with}
use Rattle.railway.specs.Railway.{RailwayState, is_sensed, place_fault, placed_in}
use Rattle.railway.specs.Reports.{change_of, changes, changes_from, onto}

pub first_within : {X : Type 0} (p : X → Bool) (xs : List X) → position_or_len p xs ≤ length xs
first_within p xs = prefix_len-le-length _ xs

pub first_or_length : {X : Type 0} (p : X → Bool) (xs : List X) → unwrap_or (position p xs) (length xs) ≡ position_or_len p xs
first_or_length p xs =
    let n = position_or_len p xs in
    let value = λ (less : Bool). unwrap_or (if less then Some n else None) (length xs) in
    elim (cases_lt n (length xs)) [
      | inl less ↦ ap value (lt-ltb n (length xs) less)
      | inr most ↦ ap value (le-ltb n (length xs) most) ∙ omega (arith, most, first_within p xs)
    ]

-- What sensors report of a train that is put on the track, or is not.

placed_after : (railway new : RailwayState) (train : ℕ) (position : Position) → place_fault railway train position ≡ None → new ≡ placed_in railway train position → new ≡ after railway (Places train position)
placed_after railway new train position fits is = is ∙ sym (ap (λ (fault : Option PlaceFault). unless_refused fault (placed_in railway train position) railway) fits)

pub placed_reports : (railway new : RailwayState) (train : ℕ) (position : Position) (reports : List SensorReport) → place_fault railway train position ≡ None → new ≡ placed_in railway train position
    → reports ≡ changes railway.network.blocks (is_sensed railway) (is_sensed new) → reports ≡ reports_of railway (Places train position)
placed_reports railway new train position reports fits is made =
    made ∙ ap (λ (r : RailwayState). changes railway.network.blocks (is_sensed railway) (is_sensed r)) (placed_after railway new train position fits is)

no_change : (level is : Bool) (sensor : Option ℕ) → change_of level sensor is is ≡ None
no_change level is None = refl
no_change true true (Some sensor) = refl
no_change true false (Some sensor) = refl
no_change false true (Some sensor) = refl
no_change false false (Some sensor) = refl

no_changes : (level : Bool) (is : ℕ → Bool) (i : ℕ) (blocks : List Block) → changes_from level is is i blocks ≡ []
no_changes level is i [] = refl
no_changes level is i (block ∷ blocks) = ap₂ onto (no_change level (is i) block.sensor) (no_changes level is (i + 1) blocks)

none_changed : (blocks : List Block) (is : ℕ → Bool) → changes blocks is is ≡ []
none_changed blocks is = ap₂ (λ (these those : List SensorReport). these ++ those) (no_changes true is 0 blocks) (no_changes false is 0 blocks)

pub refused_reports : (railway : RailwayState) (train : ℕ) (position : Position) (fault : PlaceFault) → place_fault railway train position ≡ Some fault → [] ≡ reports_of railway (Places train position)
refused_reports railway train position fault refused =
    sym (ap (λ (fault : Option PlaceFault). changes railway.network.blocks (is_sensed railway) (is_sensed (unless_refused fault (placed_in railway train position) railway))) refused
    ∙ none_changed railway.network.blocks (is_sensed railway))

-- A sensor that no block has reports nothing, and so does a turnout.

pub unknown_reports : (railway : RailwayState) (sensor : ℕ) (occupied : Bool) → block_with sensor railway.network.blocks ≡ None → [] ≡ reports_of railway (SensorFails sensor occupied)
unknown_reports railway sensor occupied unknown =
    sym (ap (λ (block : Option ℕ). changes railway.network.blocks (is_sensed railway) (is_sensed (sensor_failed block occupied railway))) unknown
    ∙ none_changed railway.network.blocks (is_sensed railway))

pub turnout_reports : (railway : RailwayState) (switch : ℕ) → [] ≡ reports_of railway (TurnoutFails switch)
turnout_reports railway switch = sym (none_changed railway.network.blocks (is_sensed railway))
