-- Trains that clients put on the track.
use Rattle.std.specs.Prelude.{ℕ, Bool, false, List, Option, Some, None, Result, Ok, Err, slice_get}
use Rattle.std.specs.List.{position_or_len, slice_index_or}
use Rattle.std.specs.Str.{bytes_eq}
use Rattle.railway.specs.declared.block.Block.{Block}
use Rattle.railway.specs.declared.block.End.{End}
use Rattle.railway.specs.declared.block.End.TheVariants as end
use Rattle.railway.specs.declared.fault.PlaceFault.{PlaceFault}
use Rattle.railway.specs.declared.fault.PlaceFault.TheVariants as fault
use Rattle.railway.specs.declared.train.Position.{Position}
use Rattle.railway.specs.declared.train.TrainState.{TrainState}
use Rattle.railway.specs.Course.{Happening}
use Rattle.railway.specs.Course.Happening.{Places}
use Rattle.railway.specs.Railway.{RailwayState, place_fault}
use Rattle.railway.specs.Trains.{default_state}
use Rattle.bus.specs.declared.outcome.Outcome.{Outcome}
use Rattle.bus.specs.declared.outcome.Outcome.TheVariants.{PlaceRequested, Placed}
use Rattle.loconet_tcp.specs.declared.request.Facing.{Facing}
use Rattle.loconet_tcp.specs.declared.request.Facing.TheVariants.{A, B}
use Rattle.loconet_tcp.specs.declared.request.PlaceError.{PlaceError}
use Rattle.loconet_tcp.specs.declared.request.PlaceError.TheVariants.{NoPlan, UnknownTrain, UnknownBlock, OffTrack}
use Rattle.loconet_tcp.specs.declared.request.Placement.{Placement}

-- a decoder, if there is one, has this name
abbrev pub is_name : (name : List ℕ) → Option (List ℕ) → Bool
is_name name None = false
is_name name (Some own) = bytes_eq own name

-- the index of the first train whose decoder has this name; if none has, the number of trains
abbrev pub train_named : (names : List (List ℕ)) → List TrainState → (name : List ℕ) → ℕ
train_named names trains name =
    position_or_len (λ train. is_name name (slice_get names train.decoder)) trains

-- the index of the block of this name; if there is none, the number of blocks
abbrev pub block_named : List Block → (name : List ℕ) → ℕ
block_named blocks name = position_or_len (λ block. bytes_eq block.name.bytes name) blocks

-- the end that a train is to face: without one, the end that it faces now
abbrev pub end_or : (now : End) → Option Facing → End
end_or now None = now
end_or now (Some A) = end.A
end_or now (Some B) = end.B

-- where a train is to be put
abbrev pub position_of : RailwayState → (train : ℕ) → Placement → Position
position_of railway train placement = record {
  block = block_named railway.network.blocks placement.block.items;
  at = placement.front;
  facing = end_or (slice_index_or railway.trains train default_state).front.toward placement.facing;
}

-- the train that a client names
abbrev pub train_of : (names : List (List ℕ)) → RailwayState → Placement → ℕ
train_of names railway placement = train_named names railway.trains placement.train.items

-- It is put where the client asks for.
abbrev pub places : (names : List (List ℕ)) → RailwayState → Placement → Happening
places names railway placement =
    let train : ℕ = train_of names railway placement in
    Places train (position_of railway train placement)

abbrev pub error_of : PlaceFault → PlaceError
error_of fault.UnknownTrain = UnknownTrain
error_of fault.UnknownBlock = UnknownBlock
error_of fault.OffTrack = OffTrack

abbrev pub unless_fault : Option PlaceFault → Result (Unit {0}) PlaceError
unless_fault None = Ok tt
unless_fault (Some fault) = Err (error_of fault)

-- the answer to a client: the train was put there, or why it was not
abbrev pub place_answer : (names : List (List ℕ)) → Option RailwayState
    → Result Placement PlaceError → Result (Unit {0}) PlaceError
place_answer names None placement = Err NoPlan
place_answer names (Some railway) (Err error) = Err error
place_answer names (Some railway) (Ok placement) =
    let train : ℕ = train_of names railway placement in
    unless_fault (place_fault railway train (position_of railway train placement))

-- The outcome of an event, which a bus without trains leaves open where a client puts one.
abbrev pub answered : (names : List (List ℕ)) → Option RailwayState → Outcome → Outcome
answered names railway (PlaceRequested client placement) =
    Placed client (place_answer names railway placement)
answered names railway other = other
