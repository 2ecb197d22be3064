-- The same turns begin in a time, however it is divided.
use Rattle.std.proofs.Common.{◌≡◌, ℕ, zero, suc, ◌-◌, ◌<◌, Bool, true, false, if◌then◌else◌, nat_le, List, [], ◌∷◌, ◌++◌, length, get_or, Option, refl, ap, subst, sym, ◌∙◌, arith}
use Rattle.std.specs.List.{list_all}
use Rattle.station_core.specs.Station.{after_turn, packet_of_turn}
use Rattle.station_core.specs.Seen.{Seen}
use Rattle.bus.specs.declared.event.Event.{Event}
use Rattle.bus.specs.declared.options.BusOptions.{BusOptions}
use Rattle.bus.specs.declared.event.Event.TheVariants.{Connects, Receives, Disconnects, Reports, Programs, Elapses, Turn}
use Rattle.bus.specs.declared.outcome.Outcome.TheVariants.{Nothing, TurnBegan}
use Rattle.bus.specs.Bus.{BusState, after_events, duration, outcomes_of, after_turn_boundary}
use Rattle.bus.specs.Course.{is_time, durations_in, micros_in, turn_durations}
use Rattle.bus.specs.Time.{IsTimeAccount}
use Rattle.bus.proofs.Account.{same}

-- the durations of n turns of a station, and the station after them
durations : ℕ → Seen → List ℕ
durations zero seen = []
durations (suc n) seen = duration (packet_of_turn seen) ∷ durations n (after_turn seen)

turned_by : ℕ → Seen → Seen
turned_by zero seen = seen
turned_by (suc n) seen = turned_by n (after_turn seen)

-- turns, and nothing else, lead from the first bus to the second
record IsCourse (bus later : BusState) (turns : List ℕ) : Type 0 where
  count : ℕ
  turns_are : turns ≡ durations count bus.station
  station : later.station ≡ turned_by count bus.station
  clients : later.clients ≡ bus.clients
  options : later.options ≡ bus.options

abbrev IsCourseOf : List Event → BusState → Type 0
IsCourseOf events bus = IsCourse bus (after_events bus events) (turn_durations (outcomes_of bus events))

one_more : (events : List Event) (bus : BusState) (micros : ℕ) → IsCourseOf events (after_turn_boundary bus micros)
    → IsCourse bus (after_events (after_turn_boundary bus micros) events) (duration (packet_of_turn bus.station) ∷ turn_durations (outcomes_of (after_turn_boundary bus micros) events))
unfolding durations turned_by
one_more events bus micros rest = record {
  count = suc rest.count;
  turns_are = ap (λ (turns : List ℕ). duration (packet_of_turn bus.station) ∷ turns) rest.turns_are;
  station = rest.station;
  clients = rest.clients;
  options = rest.options;
}

passing : (ends : Bool) (events : List Event) (bus : BusState) (micros : ℕ) → ((later : BusState) → IsCourseOf events later)
    → IsCourse bus (after_events (if ends then after_turn_boundary bus micros else record bus { remaining = bus.remaining - micros }) events)
    (durations_in (if ends then TurnBegan (packet_of_turn bus.station) else Nothing) ++ turn_durations (outcomes_of (if ends then after_turn_boundary bus micros else record bus { remaining = bus.remaining - micros }) events))
passing true events bus micros course = one_more events bus micros (course (after_turn_boundary bus micros))
passing false events bus micros course =
    let rest = course (record bus { remaining = bus.remaining - micros }) in
    record { count = rest.count; turns_are = rest.turns_are; station = rest.station; clients = rest.clients; options = rest.options }

is_course : (events : List Event) (bus : BusState) → list_all is_time events ≡ true → IsCourseOf events bus
unfolding durations turned_by
is_course [] bus all = record { count = 0; turns_are = refl; station = refl; clients = refl; options = refl }
is_course (Connects client ∷ events) bus all = cc
is_course (Receives client byte ∷ events) bus all = cc
is_course (Disconnects client ∷ events) bus all = cc
is_course (Reports message ∷ events) bus all = is_course events bus all
is_course (Programs packet change ∷ events) bus all = is_course events bus all
is_course (Turn missed ∷ events) bus all = one_more events bus bus.remaining (is_course events (after_turn_boundary bus bus.remaining) all)
is_course (Elapses micros missed ∷ events) bus all = passing (nat_le bus.remaining micros) events bus micros (λ later. is_course events later all)

agree : (n m : ℕ) (seen : Seen) (i : ℕ) → i < length (durations n seen) → i < length (durations m seen) → get_or (durations n seen) i 0 ≡ get_or (durations m seen) i 0
unfolding durations
agree zero m seen i h k = absurd (omega (arith, h))
agree (suc n) zero seen i h k = absurd (omega (arith, k))
agree (suc n) (suc m) seen zero h k = refl
agree (suc n) (suc m) seen (suc i) h k = agree n m (after_turn seen) i (omega (arith, h)) (omega (arith, k))

length-durations : (n : ℕ) (seen : Seen) → length (durations n seen) ≡ n
unfolding durations
length-durations zero seen = refl
length-durations (suc n) seen = ap suc (length-durations n (after_turn seen))

equal : (a b : BusState) → a.station ≡ b.station → a.clients ≡ b.clients → a.options ≡ b.options → a.remaining ≡ b.remaining → a ≡ b
equal a b station clients options remaining =
    let first : a ≡ record a { station = b.station } = ap (λ (x : Seen). record a { station = x }) station in
    let second : record a { station = b.station } ≡ record a { station = b.station; clients = b.clients } = ap (λ (x : List (Option (List ℕ))). record a { station = b.station; clients = x }) clients in
    let third : record a { station = b.station; clients = b.clients } ≡ record b { remaining = a.remaining } = ap (λ (x : BusOptions). record b { remaining = a.remaining; options = x }) options in
    first ∙ second ∙ third ∙ ap (λ (x : ℕ). record b { remaining = x }) remaining

both : (bus one other : BusState) (micros : ℕ) (these those : List ℕ) → IsCourse bus one these → IsCourse bus other those
    → IsTimeAccount bus.remaining micros these one.remaining → IsTimeAccount bus.remaining micros those other.remaining → (one ≡ other) × (these ≡ those)
both bus one other micros these those c d p q =
    let agrees : (i : ℕ) → i < length these → i < length those → get_or these i 0 ≡ get_or those i 0 =
    subst (λ (xs : List ℕ). (i : ℕ) → i < length xs → i < length those → get_or xs i 0 ≡ get_or those i 0) (sym c.turns_are)
    (subst (λ (ys : List ℕ). (i : ℕ) → i < length (durations c.count bus.station) → i < length ys → get_or (durations c.count bus.station) i 0 ≡ get_or ys i 0) (sym d.turns_are)
    (agree c.count d.count bus.station)) in
    let are = same bus.remaining micros one.remaining other.remaining these those agrees p q in
    let count : c.count ≡ d.count =
    sym (length-durations c.count bus.station) ∙ ap length (sym c.turns_are ∙ are.0 ∙ d.turns_are) ∙ length-durations d.count bus.station in
    (equal one other (c.station ∙ ap (λ (n : ℕ). turned_by n bus.station) count ∙ sym d.station) (c.clients ∙ sym d.clients) (c.options ∙ sym d.options) are.1, are.0)

pub cut : (bus : BusState) (these those : List Event) → list_all is_time these ≡ true → list_all is_time those ≡ true
    → IsTimeAccount bus.remaining (micros_in bus these) (turn_durations (outcomes_of bus these)) (after_events bus these).remaining
    → IsTimeAccount bus.remaining (micros_in bus those) (turn_durations (outcomes_of bus those)) (after_events bus those).remaining
    → micros_in bus these ≡ micros_in bus those
    → (after_events bus these ≡ after_events bus those) × (turn_durations (outcomes_of bus these) ≡ turn_durations (outcomes_of bus those))
cut bus these those h k p q e =
    both bus (after_events bus these) (after_events bus those) (micros_in bus those) (turn_durations (outcomes_of bus these)) (turn_durations (outcomes_of bus those))
    (is_course these bus h) (is_course those bus k)
    (subst (λ (micros : ℕ). IsTimeAccount bus.remaining micros (turn_durations (outcomes_of bus these)) (after_events bus these).remaining) e p) q
