-- What a turn sends can be sent.
use Rattle.std.proofs.Common.{◌≡◌, ℕ, ◌+◌, ◌-◌, Bool, true, nat_le, List, refl, ap, sym, ◌∙◌, arith}
use Rattle.std.proofs.lemmas.Bool.{le-leb}
use Rattle.ln_ops.specs.Slot.{is_held}
use Rattle.ln_ops.specs.declared.row.State.{State}
use Rattle.ln_ops.specs.declared.row.State.TheVariants.{Free, Common, Idle, InUse}
use Rattle.slot_table.specs.Desk.{Desk}
use Rattle.slot_table.specs.Reading.{row_of}
use Rattle.refresh_ring.specs.Picked.{turned, picked}
use Rattle.refresh_ring.specs.Places.{IsSlot, is_refreshed as is_slot_on}
use Rattle.refresh_ring.specs.Scheduled.{Scheduled}
use Rattle.refresh_ring.specs.Sent.{IsDue, IsLegalPick}
use Rattle.refresh_ring.specs.declared.pick.Pick.{Pick}
use Rattle.refresh_ring.specs.declared.pick.Pick.TheVariants as pick
use Rattle.refresh_ring.specs.declared.pick.Power.{Power}
use Rattle.refresh_ring.specs.declared.pick.Power.TheVariants as power
use Rattle.station_core.specs.Packets.{IsPickOf}
use Rattle.station_core.specs.Refreshed.{is_driven, is_refreshed}
use Rattle.station_core.specs.Slots.{refreshed_slots}
use Rattle.station_core.proofs.Steps.{get-refreshed_slots}

pub driven_held : (s : State) → is_driven s ≡ true → is_held s ≡ true
driven_held Free e = cc
driven_held Common e = refl
driven_held Idle e = cc
driven_held InUse e = refl

-- a slot of the schedule is one of the desk
pub slot_on : (desk : Desk) (n : ℕ) → IsSlot n → is_slot_on (refreshed_slots desk) n ≡ is_refreshed desk n
slot_on desk n is =
    let place : n - 1 + 1 ≡ n = omega arith in
    let low : nat_le 1 n ≡ true = le-leb 1 n is.0 in
    rw low (get-refreshed_slots desk (n - 1) (omega arith) ∙ ap (is_refreshed desk) place)

pub is_pick_of : (desk : Desk) (s : Scheduled) (p : Power) (addresses : List ℕ) (picks : Pick) → s.slots ≡ refreshed_slots desk → picks ≡ (turned p addresses s).answer → IsLegalPick picks → (p ≡ power.Running → IsDue s picks) → IsPickOf desk picks
is_pick_of desk s p addresses pick.Off same e legal is_due = tt
is_pick_of desk s p addresses pick.StopAll same e legal is_due = tt
is_pick_of desk s p addresses pick.Idle same e legal is_due = tt
is_pick_of desk s power.Off addresses (pick.Place slot kind) same e legal is_due = cc
is_pick_of desk s power.Paused addresses (pick.Place slot kind) same e legal is_due = cc
is_pick_of desk s power.Running addresses (pick.Place slot kind) same e legal is_due =
    (legal, driven_held (row_of desk slot).state (sym (slot_on desk slot legal) ∙ ap (λ (xs : List Bool). is_slot_on xs slot) (sym same) ∙ is_due refl))
is_pick_of desk s p addresses (pick.Switch number closed on) same e legal is_due = legal

pub slots-turned : ((addresses : List ℕ) (s : Scheduled) → (picked addresses s).state.slots ≡ s.slots) → (p : Power) (addresses : List ℕ) (s : Scheduled) → (turned p addresses s).state.slots ≡ s.slots
slots-turned law power.Off addresses s = refl
slots-turned law power.Running addresses s = law addresses s
slots-turned law power.Paused addresses s = refl
