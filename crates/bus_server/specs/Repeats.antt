-- Runs repeat: what comes from outside decides all else.
use Rattle.std.specs.Prelude.{ℕ, ◌≡◌, ◌-◌, ◌++◌, ◌||◌, Bool, true, false, if◌then◌else◌, nat_lt, replicate, List, [], ◌∷◌}
use Rattle.bus.specs.declared.event.Event.{Event}
use Rattle.bus.specs.declared.event.Event.TheVariants.{Connects, Elapses, Receives, Turn}
use Rattle.bus.specs.declared.outcome.Outcome.TheVariants.{Sent}
use Rattle.bus_server.specs.declared.pace.Pace.TheVariants.{AfterMessages}
use Rattle.bus_server.specs.ServerState.{LoggedEvent, ServerState, events_of, has_turns_to_follow, observations_of}
use Rattle.bus_server.specs.TrackDue.{none_due}
use Rattle.bus_server.specs.Observations.{Observation, Observed}
use Rattle.bus_server.specs.Running.{Round, RunsRounds, logged_in}
use Rattle.bus_server.specs.Sensors.{is_report}

-- an event, but for what decoders miss of it
abbrev pub unmissed : Event → Event
unmissed (Turn missed) = Turn 0
unmissed (Elapses micros missed) = Elapses micros 0
unmissed event = event

-- What comes from outside, in order: each event of a client, and each turn or time. What decoders miss, and what devices report, does
-- not.
abbrev pub inputs_of : List Event → List Event
inputs_of [] = []
inputs_of (event ∷ events) = (if is_report event then [] else unmissed event ∷ []) ++ inputs_of events

-- Two servers have the same bus, the same decoders under the same names, the same railway and programming track, and draw the same losses. How far their
-- clients have been read and written to may differ.
pub record IsAlike (a b : ServerState) : Type 0 where
  pub bus : b.bus ≡ a.bus
  pub nodes : b.nodes ≡ a.nodes
  pub names : b.names ≡ a.names
  pub railway : b.railway ≡ a.railway
  pub programming : b.programming ≡ a.programming
  pub unreported : b.unreported ≡ a.unreported
  pub losses : b.losses ≡ a.losses

-- If the same comes from outside to two servers that are alike, they are alike after it, and each event has the same outcome, and so
-- the same text and lines of the log: whatever the clock and the sizes of reads were, and with them the rounds.
abbrev pub RunsRepeat : Type 0
RunsRepeat = (most most' : ℕ) (rounds rounds' : List Round) (old old' new new' : ServerState)
    → IsAlike old old' → RunsRounds most rounds old new → RunsRounds most' rounds' old' new' → new.unreported ≡ [] → new'.unreported ≡ []
    → inputs_of (events_of (logged_in rounds)) ≡ inputs_of (events_of (logged_in rounds'))
    → IsAlike new new' × (observations_of (logged_in rounds) ≡ observations_of (logged_in rounds'))

-- Where turns follow messages, their order decides.

-- a message was sent
abbrev pub is_sent : Observation → Bool
is_sent (Observed (Sent client message reply) nodes railway) = true
is_sent other = false

-- how many turns are still to follow a message, after an event
abbrev pub left_after : (turns left : ℕ) → Event → Observation → ℕ
left_after turns left (Turn missed) observed = left - 1
left_after turns left (Receives client byte) observed = if is_sent observed then turns else left
left_after turns left other observed = left

-- a client sends a byte, or connects
abbrev pub is_from_client : Event → Bool
is_from_client (Receives client byte) = true
is_from_client (Connects client) = true
is_from_client other = false

-- None does before all turns have passed that follow a message.
abbrev pub TurnsFollow : (turns left : ℕ) → List LoggedEvent → Type 0
TurnsFollow turns left [] = Unit {0}
TurnsFollow turns left (one ∷ more) =
    (is_from_client one.event ≡ true → left ≡ 0) × TurnsFollow turns (left_after turns left one.event one.observed) more

-- so many turns follow each message, and none are due
abbrev pub BeginsInTurns : (turns : ℕ) → ServerState → Type 0
BeginsInTurns turns state = (state.pace ≡ AfterMessages turns) × (state.turns_due ≡ replicate 8 none_due)

-- So it is in every run.
abbrev pub TurnsFollowMessages : Type 0
TurnsFollowMessages = (turns most : ℕ) (rounds : List Round) (old new : ServerState) → BeginsInTurns turns old
    → RunsRounds most rounds old new → TurnsFollow turns 0 (logged_in rounds)

-- an event, and how many turns are still to follow a message then
pub record InOrder : Type 0 where
  pub left : ℕ
  pub event : Event

-- a turn that follows a message
abbrev pub follows : (left : ℕ) → Event → Bool
follows left (Turn missed) = nat_lt 0 left
follows left other = false

-- What comes from outside, in order, without the turns that follow messages.
abbrev pub in_order : (turns left : ℕ) → List LoggedEvent → List InOrder
in_order turns left [] = []
in_order turns left (one ∷ more) =
    (if is_report one.event || follows left one.event then [] else record { left = left; event = unmissed one.event } ∷ [])
    ++ in_order turns (left_after turns left one.event one.observed) more

-- all is reported, and no turn is left that follows a message
abbrev pub IsSettled : ServerState → Type 0
IsSettled state = (state.unreported ≡ []) × (has_turns_to_follow state ≡ false)

-- Where turns follow messages, they need not be compared: if the events of clients, and the turns that they request, come in the
-- same order to two servers that are alike, the servers are alike once the turns have passed, and each event has the same outcome.
abbrev pub OrderDecides : Type 0
OrderDecides = (turns most most' : ℕ) (rounds rounds' : List Round) (old old' new new' : ServerState)
    → IsAlike old old' → BeginsInTurns turns old → BeginsInTurns turns old'
    → RunsRounds most rounds old new → RunsRounds most' rounds' old' new' → IsSettled new → IsSettled new'
    → in_order turns 0 (logged_in rounds) ≡ in_order turns 0 (logged_in rounds')
    → IsAlike new new' × (observations_of (logged_in rounds) ≡ observations_of (logged_in rounds'))
