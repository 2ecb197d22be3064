-- How trains are put on the track.
use Rattle.std.specs.Prelude.{ℕ, ◌-◌, ◌*◌, ◌&&◌, Bool, nat_le, nat_lt, is_some, List, length, Option, Some, None}
use Rattle.std.specs.List.{slice_index_or}
use Rattle.railway.specs.declared.block.Block.{Block}
use Rattle.railway.specs.declared.block.End.{End}
use Rattle.railway.specs.declared.block.End.TheVariants.{A, B}
use Rattle.railway.specs.declared.train.Place.{Place}
use Rattle.railway.specs.declared.train.Position.{Position}
use Rattle.railway.specs.declared.train.Train.{Train}
use Rattle.railway.specs.declared.train.TrainState.{TrainState}
use Rattle.railway.specs.Blocks.{default_block, no_blocks}
use Rattle.railway.specs.Network.{Network, marked, way_on}
use Rattle.railway.specs.Places.{turned_place}
use Rattle.railway.specs.Trains.{standstill}

-- the foremost femtometre of a train whose front is so many millimetres from end A
abbrev pub front_at : End → (at : ℕ) → ℕ
front_at A at = at * 1000000000000
front_at B at = at * 1000000000000 - 1

abbrev pub front_of : Position → Place
front_of position = record {
  block = position.block;
  at = front_at position.facing position.at;
  toward = position.facing;
}

-- such a front is in a block of this length in millimetres
abbrev pub is_front : (length at : ℕ) → End → Bool
is_front length at A = nat_lt at length
is_front length at B = nat_le 1 at && nat_le at length

abbrev pub has_front : List Block → Position → Bool
has_front blocks position =
    is_front (slice_index_or blocks position.block default_block).length position.at position.facing

-- a train of a plan has its front in a block of it
abbrev pub is_in_block : List Block → Train → Bool
is_in_block blocks train =
    nat_lt train.position.block (length blocks) && has_front blocks train.position

-- how far the front of a train is from its rear, in femtometres
abbrev pub span_of : Train → ℕ
span_of train = train.length * 1000000000000 - 1

-- where the track behind the front of a train leads over its length, as the turnouts lie
abbrev pub back_of : Network → Train → Option Place
back_of network train = way_on network (turned_place (front_of train.position)) (span_of train)

-- the track behind the front of a train is as long as the train
abbrev pub is_room : Network → Train → Bool
is_room network train = is_some (back_of network train)

-- a train at rest from its front back to a place
abbrev pub state_to : Train → (back : Place) → TrainState
state_to train back = record {
  decoder = train.decoder;
  top = train.top;
  length = train.length;
  momentum = train.momentum;
  front = front_of train.position;
  rear = turned_place back;
  velocity = standstill;
  derailed_at = None;
  under = no_blocks;
}

abbrev pub place_or : Place → Option Place → Place
place_or place None = place
place_or place (Some there) = there

-- A train at rest where it is put: its front there, and the rest of it behind, over any number of
-- blocks, as the turnouts lie.
abbrev pub state_of_train : Network → Train → TrainState
state_of_train network train =
    marked network (state_to train
    (place_or (turned_place (front_of train.position)) (back_of network train)))
