-- Places on the track. A block of n femtometres has the femtometres 0 to n - 1, from end A on.
use Rattle.std.specs.Prelude.{ℕ, ◌+◌, ◌-◌, ◌*◌, ◌==◌, ◌&&◌, Bool, min, nat_lt, if◌then◌else◌, List, length, is_some}
use Rattle.railway.specs.declared.block.Block.{Block}
use Rattle.railway.specs.declared.block.BlockEnd.{BlockEnd}
use Rattle.railway.specs.declared.block.End.{End}
use Rattle.railway.specs.declared.block.End.TheVariants.{A, B}
use Rattle.railway.specs.declared.train.Place.{Place}
use Rattle.railway.specs.declared.train.TrainState.{TrainState}
use Rattle.railway.specs.Blocks.{length_of, other, same_end}

-- the femtometre at an end
abbrev pub end_at : End → (length : ℕ) → ℕ
end_at A length = 0
end_at B length = length - 1

abbrev pub left_to : End → (length at : ℕ) → ℕ
left_to A length at = at
left_to B length at = length - 1 - at

-- how many femtometres lie ahead in the block
abbrev pub to_end : (length : ℕ) → Place → ℕ
to_end length place = left_to place.toward length place.at

-- How far a place is from end A, in femtometres, at most 2 ^ 64 - 1. Its own femtometre counts if it
-- faces end B.
abbrev pub way_from_a : (facing : End) → (at : ℕ) → ℕ
way_from_a A at = at
way_from_a B at = min (at + 1) 0xFFFFFFFFFFFFFFFF

abbrev pub moved_to : End → (at way : ℕ) → ℕ
moved_to A at way = at - way
moved_to B at way = at + way

-- so many femtometres ahead, in the same block
abbrev pub further : Place → (way : ℕ) → Place
further place way = record place { at = moved_to place.toward place.at way }

-- the same place, with the other end ahead
abbrev pub turned_place : Place → Place
turned_place place = record place { toward = other place.toward }

-- the end ahead
abbrev pub end_ahead : Place → BlockEnd
end_ahead place = record { block = place.block; end = place.toward }

-- the first femtometre beyond an end, for a train that comes in there
abbrev pub start_at : List Block → BlockEnd → Place
start_at blocks end = record {
  block = end.block;
  at = end_at end.end (length_of blocks end.block);
  toward = other end.end;
}

abbrev pub same_place : Place → Place → Bool
same_place one two = one.block == two.block && one.at == two.at && same_end one.toward two.toward

-- the place is in a block of the plan, within its length
abbrev pub is_on_track : List Block → Place → Bool
is_on_track blocks place =
    nat_lt place.block (length blocks) && nat_lt place.at (length_of blocks place.block)

-- the train left the rails at a turnout
abbrev pub is_derailed : TrainState → Bool
is_derailed train = is_some train.derailed_at

-- a train that stands where it is
abbrev pub still : TrainState → TrainState
still train = record train { velocity = record train.velocity { speed = 0 } }

-- a train seen from behind: its rear leads
abbrev pub turned : TrainState → TrainState
turned train = record train { front = turned_place train.rear; rear = turned_place train.front }

-- the end of a train that leads, its front or its rear, with what lies ahead of it
abbrev pub leading_end : (forward : Bool) → TrainState → Place
leading_end forward train = if forward then train.front else turned_place train.rear

-- a train so many femtometres ahead, with both ends in the same blocks
abbrev pub moved : TrainState → (way : ℕ) → TrainState
moved train way = record train { front = further train.front way; rear = further train.rear way }

-- how far the front of a train is from its rear, in femtometres
abbrev pub span : TrainState → ℕ
span train = train.length * 1000000000000 - 1
