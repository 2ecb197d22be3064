-- How a train runs while its decoder does the same and nothing else happens to it.
use Rattle.std.specs.Prelude.{ℕ, ◌≡◌, ◌≢◌, ◌⊎◌, ◌+◌, ◌*◌, ◌<◌, ◌≤◌, ◌&&◌, Bool, false, not, if◌then◌else◌, All, List, [], ◌∷◌, Some, None, IsTrue, is_some}
use Rattle.std.specs.List.{slice_index_or}
use Rattle.decoder_node.specs.declared.running.Running.{Running}
use Rattle.layout_core.specs.declared.node.Node.{Node}
use Rattle.motion.specs.Velocity.{next_velocity, ramp, velocity}
use Rattle.motion.specs.declared.velocity.Velocity.{Velocity}
use Rattle.refresh_ring.specs.declared.pick.Power.TheVariants.{Off}
use Rattle.railway.specs.declared.exit.Onward.TheVariants.{BufferStop, Against}
use Rattle.railway.specs.declared.joint.TurnoutState.{TurnoutState}
use Rattle.railway.specs.declared.train.Place.{Place}
use Rattle.railway.specs.declared.train.TrainState.{TrainState}
use Rattle.railway.specs.Course.{Happening, after}
use Rattle.railway.specs.Course.Happening.{Elapses, Places}
use Rattle.railway.specs.Network.{Network, first_at, is_end_of, lies, onward, switch_at, way_on}
use Rattle.railway.specs.Places.{end_ahead, is_derailed, leading_end, span, turned_place}
use Rattle.railway.specs.Railway.{RailwayState}
use Rattle.railway.specs.Running.{run_for}
use Rattle.railway.specs.Trains.{default_state, drive_of, running_in, speed_at}
use Rattle.railway.specs.Turnouts.{is_moved}

-- the microseconds that pass
abbrev pub time_of : Happening → ℕ
time_of (Elapses micros power nodes) = micros
time_of other = 0

abbrev pub time_in : List Happening → ℕ
time_in [] = 0
time_in (happening ∷ happenings) = time_of happening + time_in happenings

-- a way of so many femtometres reaches an end of a turnout, whether it leads on from there or not
abbrev pub reaches : Network → Place → (way : ℕ) → TurnoutState → Bool
reaches network place way state =
    is_some (first_at (λ end. is_end_of end state) network place way)

-- a train lies over a turnout: the way from its rear to its front reaches it
abbrev pub lies_over : Network → TrainState → TurnoutState → Bool
lies_over network train state = reaches network train.rear (span train) state

-- the end of a train that trails, its rear or its front, with the train ahead of it
abbrev pub trailing_end : (forward : Bool) → TrainState → Place
trailing_end forward train = if forward then train.rear else turned_place train.front

-- its velocity in the next microsecond
abbrev pub next_velocity_of : Running → TrainState → Velocity
next_velocity_of running train = next_velocity (drive_of train (Some running)) train.velocity

-- In the next microsecond a train runs over a turnout, or comes to it.
abbrev pub runs_over : Network → Running → TrainState → TurnoutState → Bool
runs_over network running train state =
    reaches network (trailing_end (next_velocity_of running train).forward train)
    (span train + (next_velocity_of running train).speed) state

-- A turnout is on the way of a train for so many microseconds in which its decoder runs like this:
-- at a moment of them the train lies over it, or in one of them it runs over it or comes to it. A
-- derailed train has no way.
pub record IsOnWayOf (network : Network) (running : Running) (micros : ℕ) (train : TrainState)
    (state : TurnoutState) : Type 0 where
  pub rails : is_derailed train ≡ false
  pub moment : ℕ
  pub within : moment ≤ micros
  pub met : IsTrue (lies_over network (run_for network moment (Some running) train) state)
      ⊎ ((moment < micros)
      × IsTrue (runs_over network running (run_for network moment (Some running) train) state))

-- a turnout lies, and its decoder leaves it as it lies
abbrev pub stays : List Node → TurnoutState → Bool
stays nodes state = lies state && not (is_moved nodes state)

-- the turnouts on the way of a train stay
abbrev pub WayStays : Network → Running → (micros : ℕ) → TrainState → List Node → Type 0
WayStays network running micros train nodes =
    All (λ state. IsOnWayOf network running micros train state → IsTrue (stays nodes state))
    network.turnouts

-- The train of this index, which still runs for so many microseconds, is left alone: it is not
-- placed, and the turnouts on its way in them stay.
abbrev pub LeavesAlone : (train : ℕ) → Running → (micros : ℕ) → RailwayState → Happening → Type 0
LeavesAlone train running left railway (Elapses micros power nodes) =
    WayStays railway.network running left
    (slice_index_or railway.trains train default_state) nodes
LeavesAlone train running left railway (Places other position) = other ≢ train
LeavesAlone train running left railway other = Unit {0}

-- it is left alone by all that happens, up to the last of it
abbrev pub AllLeaveAlone : (train : ℕ) → Running → RailwayState → List Happening → Type 0
AllLeaveAlone train running railway [] = Unit {0}
AllLeaveAlone train running railway (happening ∷ happenings) =
    LeavesAlone train running (time_in (happening ∷ happenings)) railway happening
    × AllLeaveAlone train running (after railway happening) happenings

-- In a time there is track power, and the decoder of this index runs like this.
abbrev pub IsDrivenBy : (decoder : ℕ) → Running → Happening → Type 0
IsDrivenBy decoder running (Elapses micros power nodes) =
    (power ≢ Off) × (running_in nodes decoder ≡ Some running)
IsDrivenBy decoder running other = Unit {0}

abbrev pub AreDrivenBy : (decoder : ℕ) → Running → List Happening → Type 0
AreDrivenBy decoder running [] = Unit {0}
AreDrivenBy decoder running (happening ∷ happenings) =
    IsDrivenBy decoder running happening × AreDrivenBy decoder running happenings

-- its speed times the time, in femtometres
abbrev pub way_asked : Running → (micros : ℕ) → TrainState → ℕ
way_asked running micros train = speed_at train.top running.motion * micros

-- the track leads so far ahead of a train without momentum, to this place
pub record LeadsTo (network : Network) (running : Running) (train : TrainState) (ahead : ℕ)
    (place : Place) : Type 0 where
  pub at_once : train.momentum ≡ None
  pub on_rails : is_derailed train ≡ false
  pub leads : way_on network (leading_end running.forward train) ahead ≡ Some place

-- A train has run for so many microseconds as its decoder runs. Without momentum it has moved exactly
-- its speed times the time, until the track stops it: at a buffer stop, or off the rails at a turnout
-- that lies against it. With momentum it has its speed after its ramp.
pub record HasRun (network : Network) (running : Running) (micros : ℕ)
    (old new : TrainState) : Type 0 where
  pub run : new ≡ run_for network micros (Some running) old
  pub way : (place : Place)
      → LeadsTo network running old (way_asked running micros old) place
      → (leading_end running.forward new ≡ place) × (is_derailed new ≡ false)
  pub stopped : (place : Place) (ahead : ℕ) → LeadsTo network running old ahead place
      → onward network place ≡ BufferStop → ahead ≤ way_asked running micros old
      → leading_end running.forward new ≡ place
  pub derailed : (place : Place) (ahead : ℕ) → LeadsTo network running old ahead place
      → onward network place ≡ Against → ahead < way_asked running micros old
      → new.derailed_at ≡ Some (switch_at network.turnouts (end_ahead place))
  pub speed : is_derailed new ≡ false → ramp (drive_of old (Some running)) old.velocity ≤ micros
      → new.velocity ≡ velocity running.forward (speed_at old.top running.motion)
