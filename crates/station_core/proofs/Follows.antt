-- The schedule follows the desk.
use Rattle.std.proofs.Common.{◌≡◌, ◌≢◌, ℕ, ◌-◌, ◌==◌, ◌||◌, Bool, true, false, List, [], ◌∷◌, if◌then◌else◌, Result, Ok, Err, is_ok, OnOk, set, refl, ap, ap₂, sym, ◌∙◌}
use Rattle.std.proofs.Common.{Option, Some, None}
use Rattle.std.specs.Result.{is_err}
use Rattle.slot_table.specs.Laws.{OthersStay}
use Rattle.slot_table.specs.Moves.{after_dispatch_get, after_dispatch_put, after_null_move, after_shift, can_shift, dispatch_get_answer}
use Rattle.slot_table.specs.declared.fault.SlotFault.{SlotFault}
use Rattle.slot_table.specs.Changes.{done_if, slot_if}
use Rattle.slot_table.specs.Desk.{Desk, IsDesk}
use Rattle.slot_table.specs.Entry.{IsSlot}
use Rattle.slot_table.specs.Reading.{is_placed, row_of}
use Rattle.refresh_ring.specs.Scheduled.{Scheduled, IsScheduled, after_refresh, after_changed}
use Rattle.refresh_ring.specs.declared.kind.Kind.{Kind}
use Rattle.refresh_ring.specs.declared.pick.Power.{Power}
use Rattle.station_core.specs.After.{after_move}
use Rattle.station_core.specs.Answer.{move_answer}
use Rattle.station_core.specs.Schedule.{after_places, of_write, places_with}
use Rattle.station_core.specs.declared.schedule.Change.TheVariants.{All}
use Rattle.station_core.specs.Kept.{InStep}
use Rattle.station_core.specs.Station.{after_change}
use Rattle.station_core.specs.Refreshed.{is_refreshed}
use Rattle.station_core.specs.Slots.{refreshed_slots}
use Rattle.station_core.specs.Seen.{seen_with}
use Rattle.station_core.proofs.Steps.{followed, followed_both}

-- all slots but this one read as before
abbrev pub Others : Desk → Desk → ℕ → Type 0
Others old new n = (m : ℕ) → m ≢ n → row_of new m ≡ row_of old m

pub follows : (old new : Desk) (n : ℕ) (s : Scheduled) → IsSlot n → s.slots ≡ refreshed_slots old → Others old new n → after_refresh n (is_refreshed new n) s ≡ record s { slots = refreshed_slots new }
follows old new n s is before others =
    ap (λ (xs : List Bool). record s { slots = xs })
    (ap (λ (xs : List Bool). set xs (n - 1) (is_refreshed new n)) before ∙ followed old new n is others)

slots-changed : (n : ℕ) (kind : Kind) (s : Scheduled) → (after_changed n kind s).slots ≡ s.slots
slots-changed n kind s = refl

pub slots-places : (places : List (ℕ × Kind)) (s : Scheduled) → (after_places places s).slots ≡ s.slots
slots-places [] s = refl
slots-places (p ∷ places) s = slots-places places (after_changed p.0 p.1 s) ∙ slots-changed p.0 p.1 s

-- what a station is after an accepted message
pub noted : (lines : List (List ℕ)) (power : Power) (old new : Desk) (n : ℕ) (s t : Scheduled) (places : List (ℕ × Kind)) → IsSlot n → s.slots ≡ refreshed_slots old → Others old new n → t ≡ after_places places (after_refresh n (is_refreshed new n) s)
    → seen_with lines (record { power = power; desk = new }) t ≡ after_change (seen_with lines (record { power = power; desk = old }) s) new places
noted lines power old new n s t places is before others e =
    ap (seen_with lines (record { power = power; desk = new })) (e ∙ ap (after_places places) (follows old new n s is before others))

pub in_step : (old new : Desk) (n : ℕ) (s t : Scheduled) (places : List (ℕ × Kind)) → IsDesk new → IsScheduled t → IsSlot n → s.slots ≡ refreshed_slots old → Others old new n → t ≡ after_places places (after_refresh n (is_refreshed new n) s) → InStep new t
in_step old new n s t places legal kept is before others e = record {
  desk = legal;
  slots = ap (λ (u : Scheduled). u.slots) (e ∙ ap (after_places places) (follows old new n s is before others)) ∙ slots-places places (record s { slots = refreshed_slots new });
  schedule = kept;
}

-- and after a refused one
pub refused : (lines : List (List ℕ)) (power : Power) (old new target : Desk) (s : Scheduled) (places : List (ℕ × Kind)) → s.slots ≡ refreshed_slots old → new ≡ target → new ≡ old → places ≡ []
    → seen_with lines (record { power = power; desk = new }) s ≡ after_change (seen_with lines (record { power = power; desk = old }) s) target places
refused lines power old new target s places before after same none =
    let to_old : target ≡ old = sym after ∙ same in
    let here : record s { slots = refreshed_slots target } ≡ s = ap (λ (d : Desk). record s { slots = refreshed_slots d }) to_old ∙ ap (λ (xs : List Bool). record s { slots = xs }) (sym before) in
    ap (λ (d : Desk). seen_with lines (record { power = power; desk = d }) s) after
    ∙ ap (seen_with lines (record { power = power; desk = target })) (sym here)
    ∙ ap (λ (ps : List (ℕ × Kind)). seen_with lines (record { power = power; desk = target }) (after_places ps (record s { slots = refreshed_slots target }))) (sym none)

pub done : (b : Bool) (r : Result (Unit {0}) SlotFault) → r ≡ done_if b → is_ok r ≡ true → b ≡ true
done true r e h = refl
done false r e h = cc

pub not_done : (b : Bool) (r : Result (Unit {0}) SlotFault) → r ≡ done_if b → is_ok r ≡ false → b ≡ false
not_done true r e h = cc
not_done false r e h = refl

-- the same, with the desk and the places as the message's definitions have them
pub noted_as : (lines : List (List ℕ)) (power : Power) (old new target : Desk) (n : ℕ) (s t : Scheduled) (places chosen : List (ℕ × Kind)) → IsSlot n → s.slots ≡ refreshed_slots old → Others old new n → t ≡ after_places places (after_refresh n (is_refreshed new n) s) → new ≡ target → chosen ≡ places
    → seen_with lines (record { power = power; desk = new }) t ≡ after_change (seen_with lines (record { power = power; desk = old }) s) target chosen
noted_as lines power old new target n s t places chosen is before others e after same =
    noted lines power old new n s t places is before others e
    ∙ ap₂ (λ (d : Desk) (ps : List (ℕ × Kind)). after_change (seen_with lines (record { power = power; desk = old }) s) d ps) after (sym same)

pub chosen_if : (b : Bool) (places : List (ℕ × Kind)) → b ≡ true → (if b then places else []) ≡ places
chosen_if b places e = rw e refl

pub ok_of : {X Y : Type 0} (r : Result X Y) → is_err r ≡ false → is_ok r ≡ true
ok_of (Ok x) e = refl
ok_of (Err y) e = cc

pub from_ok : {X Y P : Type 0} (r : Result X Y) → is_ok r ≡ true → OnOk r P → P
from_ok (Ok x) e h = h
from_ok (Err x) e h = cc

pub given_slot : (b : Bool) (n m : ℕ) → Ok m ≡ slot_if b n → m ≡ n
given_slot true n m e = cc
given_slot false n m e = cc

pub marked_slot : (mark : Option ℕ) (m : ℕ) → Ok m ≡ dispatch_get_answer mark → mark ≡ Some m
marked_slot None m e = cc
marked_slot (Some n) m e = cc

-- dispatch get, null move and dispatch put: the slot that is given reads anew, and no other
handed_over_by : (get same put : Bool) (desk : Desk) (src dest n m : ℕ) → (get || (same || put)) ≡ true → OthersStay desk m
    → Ok n ≡ (if get then dispatch_get_answer desk.mark else (if same then slot_if (is_placed desk src) src else (if put then slot_if (is_placed desk src) src else slot_if (can_shift desk src dest) dest))) → m ≢ n
    → row_of (if get then after_dispatch_get desk else (if same then after_null_move desk src else (if put then after_dispatch_put desk src else after_shift desk src dest))) m ≡ row_of desk m
handed_over_by true same put desk src dest n m stays law given ne = law.dispatch_get (λ e. let found = marked_slot desk.mark n given in ne (cc))
handed_over_by false true put desk src dest n m stays law given ne = law.null_move src (λ e. ne (e ∙ sym (given_slot (is_placed desk src) src n given)))
handed_over_by false false true desk src dest n m stays law given ne = law.dispatch_put src (λ e. ne (e ∙ sym (given_slot (is_placed desk src) src n given)))
handed_over_by false false false desk src dest n m stays law given ne = cc

pub handed_over : (desk : Desk) (src dest n m : ℕ) → (src == 0 || (src == dest || dest == 0)) ≡ true → OthersStay desk m → Ok n ≡ move_answer desk src dest → m ≢ n → row_of (after_move desk src dest) m ≡ row_of desk m
handed_over desk src dest = handed_over_by (src == 0) (src == dest) (dest == 0) desk src dest

-- a move of a slot to another
pub follows_both : (old new : Desk) (src dest : ℕ) (s u : Scheduled) → IsSlot src → IsSlot dest → src ≢ dest → s.slots ≡ refreshed_slots old → ((m : ℕ) → m ≢ src → m ≢ dest → row_of new m ≡ row_of old m) → u ≡ after_refresh src (is_refreshed new src) s
    → after_refresh dest (is_refreshed new dest) u ≡ record s { slots = refreshed_slots new }
follows_both old new src dest s u is_src is_dest apart before others e =
    ap (after_refresh dest (is_refreshed new dest)) e
    ∙ ap (λ (xs : List Bool). record s { slots = xs })
    (ap (λ (xs : List Bool). set (set xs (src - 1) (is_refreshed new src)) (dest - 1) (is_refreshed new dest)) before ∙ followed_both old new src dest is_src is_dest apart others)

pub moved_in_step : (old new : Desk) (src dest : ℕ) (s u t : Scheduled) (places : List (ℕ × Kind)) → IsDesk new → IsScheduled t → IsSlot src → IsSlot dest → src ≢ dest → s.slots ≡ refreshed_slots old → ((m : ℕ) → m ≢ src → m ≢ dest → row_of new m ≡ row_of old m) → u ≡ after_refresh src (is_refreshed new src) s → t ≡ after_places places (after_refresh dest (is_refreshed new dest) u) → InStep new t
moved_in_step old new src dest s u t places legal kept is_src is_dest apart before others e f = record {
  desk = legal;
  slots = ap (λ (v : Scheduled). v.slots) (f ∙ ap (after_places places) (follows_both old new src dest s u is_src is_dest apart before others e)) ∙ slots-places places (record s { slots = refreshed_slots new });
  schedule = kept;
}

pub moved_as : (lines : List (List ℕ)) (power : Power) (old new target : Desk) (src dest : ℕ) (s u t : Scheduled) (places : List (ℕ × Kind)) → IsSlot src → IsSlot dest → src ≢ dest → s.slots ≡ refreshed_slots old → ((m : ℕ) → m ≢ src → m ≢ dest → row_of new m ≡ row_of old m) → u ≡ after_refresh src (is_refreshed new src) s → t ≡ after_places places (after_refresh dest (is_refreshed new dest) u) → new ≡ target
    → seen_with lines (record { power = power; desk = new }) t ≡ after_change (seen_with lines (record { power = power; desk = old }) s) target places
moved_as lines power old new target src dest s u t places is_src is_dest apart before others e f after =
    ap (seen_with lines (record { power = power; desk = new })) (f ∙ ap (after_places places) (follows_both old new src dest s u is_src is_dest apart before others e))
    ∙ ap (λ (d : Desk). after_change (seen_with lines (record { power = power; desk = old }) s) d places) after

pub chosen_write : (n : ℕ) (r : Result (Unit {0}) SlotFault) → is_ok r ≡ true → of_write n r ≡ places_with n All
chosen_write n (Ok d) e = refl
chosen_write n (Err f) e = cc
