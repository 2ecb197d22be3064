-- When a running turn sends idle.
use Rattle.std.specs.Prelude.{ℕ, ◌≡◌, ◌⊎◌, Bool, true, false, if◌then◌else◌, List, [], Option, Some, None}
use Rattle.refresh_ring.specs.Places.{IsSlot, is_refreshed}
use Rattle.refresh_ring.specs.Picked.{picked, is_last}
use Rattle.refresh_ring.specs.Scheduled.{Scheduled}
use Rattle.refresh_ring.specs.Sent.{goes_to, to_send}
use Rattle.refresh_ring.specs.declared.job.Destination.{Destination}
use Rattle.refresh_ring.specs.declared.pick.Pick.{Pick}
use Rattle.refresh_ring.specs.declared.pick.Pick.TheVariants.{Idle}

-- nothing is due: no slot is refreshed, and so none of a change that waits, and no switch request
-- waits
pub record NothingIsDue (s : Scheduled) : Type 0 where
  pub slots : (slot : ℕ) → IsSlot slot → is_refreshed s.slots slot ≡ false
  pub requests : to_send s.jobs ≡ []

-- the packet that is next: the one that a turn sends if the last packet went to no one decoder
abbrev pub next_of : List ℕ → Scheduled → Pick
next_of addresses s = (picked addresses (record s { last = None })).answer

-- it goes to the decoder, or to the module, that the last one went to (S-9.2 gives a decoder 5 ms
-- between two packets to it)
abbrev pub is_too_soon : Option Destination → Option Destination → Bool
is_too_soon last None = false
is_too_soon last (Some there) = is_last last there

-- what is next, or idle where that comes too soon
abbrev pub unless_too_soon : List ℕ → Scheduled → Pick → Pick
unless_too_soon addresses s pick = if is_too_soon s.last (goes_to addresses pick) then Idle else pick

-- the two causes of idle
abbrev pub HasCauseToIdle : List ℕ → Scheduled → Type 0
HasCauseToIdle addresses s = NothingIsDue s ⊎ (is_too_soon s.last (goes_to addresses (next_of addresses s)) ≡ true)
