-- What is sent: of switch requests, and where it goes.
use Rattle.std.specs.Prelude.{ℕ, ◌≡◌, ◌+◌, ◌≤◌, true, false, List, [], ◌∷◌, ◌++◌, Option, Some, None}
use Rattle.std.specs.List.{Contains}
use Rattle.dcc_packet.specs.Sent.{last_switch}
use Rattle.refresh_ring.specs.Places.{IsSlot, is_refreshed}
use Rattle.refresh_ring.specs.Scheduled.{Scheduled}
use Rattle.refresh_ring.specs.Left.{turns_for}
use Rattle.refresh_ring.specs.Picked.{Picked, address_of, module_of, is_last}
use Rattle.refresh_ring.specs.declared.job.Job.{Job}
use Rattle.refresh_ring.specs.declared.job.Job.TheVariants.{Place, Request}
use Rattle.refresh_ring.specs.declared.job.Destination.{Destination}
use Rattle.refresh_ring.specs.declared.job.Destination.TheVariants.{Loco, Module}
use Rattle.refresh_ring.specs.declared.pick.Pick.{Pick}
use Rattle.refresh_ring.specs.declared.pick.Pick.TheVariants.{Off, StopAll, Idle, Place as PlacePick, Switch}

-- the switch packets that are still to send, each request twice, or once where it was sent once
abbrev pub sends_left : Job → List Pick
sends_left (Place slot kind) = []
sends_left (Request number closed on true) = Switch number closed on ∷ Switch number closed on ∷ []
sends_left (Request number closed on false) = Switch number closed on ∷ []

abbrev pub to_send : List Job → List Pick
to_send [] = []
to_send (job ∷ jobs) = sends_left job ++ to_send jobs

-- the switch packet of a turn, if it sends one
abbrev pub switch_in : Pick → List Pick
switch_in (Switch number closed on) = Switch number closed on ∷ []
switch_in pick = []

-- where a packet goes, if it goes to one decoder
abbrev pub goes_to : List ℕ → Pick → Option Destination
goes_to addresses Off = None
goes_to addresses StopAll = None
goes_to addresses Idle = None
goes_to addresses (PlacePick slot kind) = Some (Loco (address_of addresses slot))
goes_to addresses (Switch number closed on) = Some (Module (module_of number))

-- a packet does not go where the last one went
abbrev pub IsApart : Option Destination → Option Destination → Type 0
IsApart last None = Unit {0}
IsApart last (Some there) = is_last last there ≡ false

-- what a running turn may send: idle, the packet of a refreshed slot, or that of a switch request
-- that waits
abbrev pub IsDue : Scheduled → Pick → Type 0
IsDue s Off = ⊥
IsDue s StopAll = ⊥
IsDue s Idle = Unit {0}
IsDue s (PlacePick slot kind) = is_refreshed s.slots slot ≡ true
IsDue s (Switch number closed on) = Contains (to_send s.jobs) (Switch number closed on)

-- slots are 1 to 119, and switches those that a packet can name
abbrev pub IsLegalPick : Pick → Type 0
IsLegalPick (PlacePick slot kind) = IsSlot slot
IsLegalPick (Switch number closed on) = number ≤ last_switch
IsLegalPick pick = Unit {0}

-- of the jobs in front, the rest after a turn; what they still had to send was sent or is left, and
-- fewer turns are left
pub record LessLeft (front back : List Job) (turns : ℕ) (m : Picked) : Type 0 where
  pub left : List Job
  pub jobs_are : m.state.jobs ≡ left ++ back
  pub sends : switch_in m.answer ++ to_send left ≡ to_send front
  pub falls : turns_for left m.state + 1 ≤ turns
