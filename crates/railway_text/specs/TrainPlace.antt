-- Where a train is, as clients and pages are told of it (own).
use Rattle.std.specs.Prelude.{ℕ, ◌/◌, ◌==◌, ◌&&◌, min, Bool, if◌then◌else◌, List, [], ◌++◌, Option, Some, None, codes, slice_get}
use Rattle.std.specs.Fmt.{decimal}
use Rattle.railway.specs.declared.block.Block.{Block}
use Rattle.railway.specs.declared.train.Place.{Place}
use Rattle.railway.specs.declared.train.TrainState.{TrainState}
use Rattle.railway.specs.Blocks.{same_end}
use Rattle.railway.specs.Places.{is_derailed, way_from_a}
use Rattle.railway.specs.Turnouts.{same_bool}
use Rattle.railway_text.specs.declared.train_place.TrainPlace.{TrainPlace}
use Rattle.railway_text.specs.Words.{letter_of, name_in}

-- the tenths of a block that lie on that way, at most ten: a tenth of a millimetre has 10 ^ 11
-- femtometres
abbrev pub tenths_in : Option Block → (way : ℕ) → ℕ
tenths_in None way = 0
tenths_in (Some block) way = min (way / 100000000000 / block.length) 10

abbrev pub tenths_of : List Block → Place → ℕ
tenths_of blocks front =
    tenths_in (slice_get blocks front.block) (way_from_a front.toward front.at)

abbrev pub place_of : List Block → TrainState → (speed : ℕ) → TrainPlace
place_of blocks train speed = record {
  front = train.front.block;
  tenths = tenths_of blocks train.front;
  facing = train.front.toward;
  rear = train.rear.block;
  speed = speed;
  derailed = is_derailed train;
}

abbrev pub same_train_place : TrainPlace → TrainPlace → Bool
same_train_place one other =
    one.front == other.front && one.tenths == other.tenths && same_end one.facing other.facing
    && one.rear == other.rear && one.speed == other.speed
    && same_bool one.derailed other.derailed

-- a train of this name: the block of its front, how many tenths of the block the front is from
-- end a, the end that it faces, the block of its rear, and its speed in millimetres a second
abbrev pub train_line : (name : List ℕ) → List Block → TrainPlace → List ℕ
train_line name blocks place =
    codes "TRAIN " ++ name ++ codes " " ++ name_in blocks place.front ++ codes " "
    ++ decimal place.tenths ++ codes " " ++ letter_of place.facing ++ codes " "
    ++ name_in blocks place.rear ++ codes " " ++ decimal place.speed
    ++ (if place.derailed then codes " derailed" else [])
