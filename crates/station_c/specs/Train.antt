-- Where a train is, for C.
use Rattle.std.specs.Prelude.{ℕ, ◌/◌, Bool, false, true, Option, Some, None}
use Rattle.railway.specs.declared.block.End.{End}
use Rattle.railway.specs.declared.block.End.TheVariants.{A, B}
use Rattle.railway.specs.declared.train.TrainState.{TrainState}
use Rattle.railway.specs.Places.{way_from_a}
use Rattle.station_c.specs.declared.train.Train.{Train}

abbrev pub is_b : End → Bool
is_b A = false
is_b B = true

abbrev pub number_or_none : Option ℕ → ℕ
number_or_none None = 0
number_or_none (Some number) = number

-- a train of this speed, with its front in millimetres of 10 ^ 12 femtometres
abbrev pub told : TrainState → (speed : ℕ) → Train
told train speed = record {
  front = way_from_a train.front.toward train.front.at / 1000000000000;
  speed = speed;
  derailed_at = number_or_none train.derailed_at;
  block = train.front.block;
  rear_block = train.rear.block;
  faces_b = is_b train.front.toward;
}
