-- The premises of the law from slider to rail can be met.
use Rattle.std.proofs.Common.{◌≡◌, ℕ, ◌+◌, ◌-◌, ◌*◌, ◌/◌, ◌%◌, ◌<◌, ◌≤◌, ◌||◌, ◌==◌, zero, suc, inl, inr, Bool, true, false, if◌then◌else◌, List, [], ◌∷◌, ◌++◌, length, map, replicate, Option, Some, None, refl, ap, ap₂, sym, subst, ◌∙◌, arith, bit_xor, lt-ltb}
use Rattle.std.proofs.lemmas.Bool.{and_from}
use Rattle.std.proofs.lemmas.Bool.Decides.{nat_tests}
use Rattle.std.proofs.lemmas.List.Elements.{All-nil, filter_agree}
use Rattle.std.proofs.lemmas.Nat.{xor_lt}
use Rattle.std.proofs.lemmas.Nat.Bits.{bit_at-zero}
use Rattle.std.specs.Bool.{beq}
use Rattle.std.specs.Cmp.{nat_cmp_total}
use Rattle.std.specs.Cmp.Lexicographic.{pointwise}
use Rattle.std.specs.FinMap.{FinMap, get, insert, empty, get-insert, get-empty}
use Rattle.std.specs.List.{list_all, slice_index_or}
use Rattle.std.specs.Option.{option_and_then, option_eq}
use Rattle.std.specs.Ordering.{eq_by_cmp, nat_cmp}
use Rattle.std.specs.Prelude.{◌&&◌, IsSome, IsSomeAnd, IsTrue, MatchBool, nat_le, nat_lt}
use Rattle.dcc_packet.specs.Packet.{IsPacket}
use Rattle.dcc_packet.specs.Sent.{accessory_bytes, module_of}
use Rattle.dcc_packet.specs.Form.{bit, with_check}
use Rattle.dcc_packet.specs.Wave.{IsWave, bit_of, bits_of, doubled}
use Rattle.dcc_packet.specs.declared.address.Address.TheVariants.{Short}
use Rattle.half_bits.specs.Halves.{halves_of, micros}
use Rattle.ln_ops.specs.declared.row.Row.{Row}
use Rattle.slot_table.specs.Desk.{Desk, IsDesk}
use Rattle.slot_table.specs.Entry.{Entry, IsAddress, IsEntry, IsSlot, entry_of, state_of_number}
use Rattle.slot_table.specs.Reading.{all_slots, entry_at, row_at, row_of}
use Rattle.refresh_ring.specs.Scheduled.{Scheduled}
use Rattle.refresh_ring.specs.declared.kind.Kind.{Kind}
use Rattle.refresh_ring.specs.declared.kind.Kind.TheVariants.{Speed, GroupOne, GroupTwo, GroupThree}
use Rattle.refresh_ring.specs.declared.pick.Power.TheVariants.{Running as PowerRuns}
use Rattle.station_core.specs.Moments.{AtEveryMoment, IsLive, ever_refreshed, slots_refreshed}
use Rattle.station_core.specs.Packets.{entry_packet, place_packet}
use Rattle.station_core.specs.Powered.{PoweredDesk}
use Rattle.station_core.specs.Refreshed.{is_driven, is_refreshed}
use Rattle.station_core.specs.Seen.{Seen, first_seen, known_of, scheduled, seen_with}
use Rattle.station_core.specs.Sent.{IsPacketOfDesk, IsRunningPacket}
use Rattle.station_core.specs.Station.{after_turn, moved, packet_of_turn, sent}
use Rattle.station_core.specs.ThrottleView.{known_after}
use Rattle.decoder_node.specs.Decoder.{LocoDecoder, fresh}
use Rattle.decoder_node.specs.Hearing.{Receives, heard_all}
use Rattle.decoder_node.specs.Obey.{obey, obeyed}
use Rattle.decoder_node.specs.Running.{first_running}
use Rattle.decoder_node.specs.declared.node.NodeSpec.TheVariants.{Loco as LocoSpec}
use Rattle.layout_core.specs.declared.event.Event.{Event as LayoutEvent}
use Rattle.layout_core.specs.declared.event.Event.TheVariants.{Turn as LayoutTurn}
use Rattle.layout_core.specs.declared.node.Node.{Node}
use Rattle.layout_core.specs.declared.node.Node.TheVariants.{Loco}
use Rattle.layout_core.specs.Cycle.{MissesNone, StandsIn}
use Rattle.layout_core.specs.Events.{NoNoise, calls_in}
use Rattle.layout_core.specs.Heard.{HearsAll, Sound, sounds_at, sounds_in, sounds_of_turn}
use Rattle.layout_core.specs.Hearing.{HearsPacket}
use Rattle.layout_core.specs.World.{HaveHeard}
use Rattle.railway.specs.Blocks.{default_block}
use Rattle.railway.specs.Driven.{IsOnWayOf, stays}
use Rattle.railway.specs.Failures.{none_failing}
use Rattle.railway.specs.Network.{Network, exit_of, is_sound, is_whole, marked, onward, onward_by, place_of, spans, under, way_on}
use Rattle.railway.specs.Places.{end_ahead, same_place, span}
use Rattle.railway.specs.Railway.{RailwayState, is_railway, is_train}
use Rattle.railway.specs.Trains.{default_state, is_movable}
use Rattle.railway.specs.Passing.{is_slow}
use Rattle.railway.specs.declared.block.End.TheVariants.{B}
use Rattle.railway.specs.declared.train.Place.{Place}
use Rattle.railway.specs.declared.train.TrainState.{TrainState}
use Rattle.bus.specs.declared.event.Event.{Event}
use Rattle.bus.specs.declared.event.Event.TheVariants.{Elapses, Turn}
use Rattle.bus.specs.Below.{TurnsAreBounded}
use Rattle.bus.specs.Bus.{AreEvents, BusState, after_event, after_events, duration, first_bus, outcome_of}
use Rattle.bus.specs.Course.{micros_in}
use Rattle.bus.specs.Cycle.{Assignment, IsHeard, wanted_of}
use Rattle.bus.specs.Layout.{layout_events, turn_of}
use Rattle.bus_server.specs.declared.losses.Losses.{Losses}
use Rattle.bus_server.specs.declared.pace.Pace.TheVariants.{RealTime}
use Rattle.bus_server.specs.Answers.{answers_after}
use Rattle.bus_server.specs.Generator.{is_missed, share_at, word_at}
use Rattle.bus_server.specs.Losses.{IsDraw}
use Rattle.bus_server.specs.Observations.{Observation, Observed}
use Rattle.bus_server.specs.Running.{AreDrawn, IsEventRun}
use Rattle.bus_server.specs.SendQueues.{queues_after}
use Rattle.bus_server.specs.Sensors.{programming_after, railway_after, reports_after}
use Rattle.bus_server.specs.ServerState.{RunsEvent, ServerState, disconnected_after, first_after, initial_state, outcome_in}
use Rattle.bus_server.specs.SliderToRail.{RunsLeavingAlone, SliderReachesRail}
use Rattle.bus_server.specs.TrackDue.{due_after}

-- SPD 40 in 128 steps, in use
abbrev entry : Entry
entry = record { state = state_of_number 3; kind = 3; spd = 0x40; dirf = 0; snd = 0; more = 0; ss2 = 0; id1 = 0; id2 = 0 }

-- address 3 is in slot 1, and power is on
abbrev desk : Desk
desk = record { place = insert empty 1 3; asked = insert empty 3 entry; mark = None }

abbrev powered : PoweredDesk
powered = record { power = PowerRuns; desk = desk }

abbrev bus : BusState
bus = record (first_bus (record { is_stepped = false; has_sensors = true; has_programmer = false })) { station = record (first_seen 8) { powered = powered } }

-- a new decoder of address 3 in 28 or 128 steps
abbrev loco : LocoDecoder
loco = fresh (record { address = Short 3; reversed = false; fourteen = false }) first_running

abbrev assigned : Assignment
assigned = record { node = 0; loco = loco; slot = 1; address = 3; entry = entry }

-- ---- what the desk has in its slots

abbrev put : {X : Type 0} → ℕ → X → ℕ → Option X
put k v q = if q == k then Some v else None

get_put : {X : Type 0} (m : FinMap nat_cmp X) → ((q : ℕ) → get m q ≡ None) → (k : ℕ) (v : X) (q : ℕ) → get (insert m k v) q ≡ put k v q
get_put {X} m none k v q =
    let test : eq_by_cmp nat_cmp q k ≡ (q == k) = grind (arith, nat_tests) in
    get-insert nat_cmp_total m k v q ∙ ap₂ (λ (b : Bool) (o : Option X). if b then Some v else o) test (none q)

in_slots : (n : ℕ) → get desk.place n ≡ put 1 3 n
in_slots n = get_put empty (get-empty nat_cmp) 1 3 n

in_entries : (a : ℕ) → get desk.asked a ≡ put 3 entry a
in_entries a = get_put empty (get-empty nat_cmp) 3 entry a

-- what is found was put there
found : {X : Type 0} (k : ℕ) (v : X) (q : ℕ) (x : X) → put k v q ≡ Some x → (q ≡ k) × (x ≡ v)
found {X} k v q x h = by_test (q == k) refl h
  where
    by_test : (b : Bool) → (q == k) ≡ b → (if b then Some v else None) ≡ Some x → (q ≡ k) × (x ≡ v)
    by_test true same is = (grind (arith, nat_tests, same), cc)
    by_test false other is = cc

abbrev entry_in : Option ℕ → Option Entry
entry_in None = None
entry_in (Some a) = put 3 entry a

row_is : (n : ℕ) → row_of desk n ≡ row_at (put 1 3 n) (entry_in (put 1 3 n))
row_is n = ap (λ (o : Option ℕ). row_at o (entry_at o desk.asked)) (in_slots n) ∙ by_place (put 1 3 n)
  where
    by_place : (o : Option ℕ) → row_at o (entry_at o desk.asked) ≡ row_at o (entry_in o)
    by_place None = refl
    by_place (Some a) = ap (row_at (Some a)) (in_entries a)

alone : (n : ℕ) → is_refreshed desk n ≡ (n == 1)
alone n = ap (λ (r : Row). is_driven r.state) (row_is n) ∙ by_test (n == 1)
  where
    by_test : (here : Bool) → is_driven (row_at (if here then Some 3 else None) (entry_in (if here then Some 3 else None))).state ≡ here
    by_test true = refl
    by_test false = refl

is_desk : IsDesk desk
is_desk = record {
  slots = λ n a h. let at = found 1 3 n a (sym (in_slots n) ∙ h) in (subst IsSlot (sym at.0) (omega arith, omega arith), subst IsAddress (sym at.1) (omega arith, omega arith));
  one_place = λ m n a h k. (found 1 3 m a (sym (in_slots m) ∙ h)).0 ∙ sym (found 1 3 n a (sym (in_slots n) ∙ k)).0;
  has_entry = λ n a h. let at = found 1 3 n a (sym (in_slots n) ∙ h) in subst (λ (b : ℕ). IsSomeAnd (get desk.asked b) IsEntry) (sym at.1) (subst (λ (o : Option Entry). IsSomeAnd o IsEntry) (sym (in_entries 3)) is_entry);
  has_place = λ a h. (1, in_slots 1 ∙ address a (put 3 entry a) refl (subst (λ (o : Option Entry). IsSome o) (in_entries a) h));
  marked = λ n h. cc;
}
  where
    is_entry : IsEntry entry
    is_entry = record { held = refl; kind = refl; spd = omega arith; dirf = omega arith; snd = omega arith; more = omega arith; ss2 = omega arith; id1 = omega arith; id2 = omega arith }

    address : (a : ℕ) (o : Option Entry) → put 3 entry a ≡ o → IsSome o → Some 3 ≡ Some a
    address a None is some = cc
    address a (Some e) is some = ap (λ (b : ℕ). Some b) (sym (found 3 entry a e is).0)

-- ---- turns, and then 5 milliseconds of a turn

abbrev piece : Event
piece = Elapses 5000 0

turns : ℕ → List Event
turns n = replicate n (Turn 0)

layout_turns : ℕ → List LayoutEvent
layout_turns n = replicate n (LayoutTurn 0)

are_events : (n : ℕ) → AreEvents (turns n)
unfolding turns
are_events zero = refl
are_events (suc n) = are_events n

as_turns : (n : ℕ) (start : BusState) → layout_events start (turns n) ≡ layout_turns n
unfolding turns layout_turns
as_turns zero start = refl
as_turns (suc n) start = ap (λ (events : List LayoutEvent). LayoutTurn 0 ∷ events) (as_turns n (after_event start (Turn 0)))

-- no turn ends in it, as each takes longer
is_short : (remaining : ℕ) → 5796 ≤ remaining → nat_le remaining 5000 ≡ false
is_short remaining h = grind (arith, nat_tests, h)

at_turns : (P : PoweredDesk → Type 0) → P powered → (n : ℕ) → AtEveryMoment P (known_of bus.station) (calls_in (layout_turns n))
unfolding layout_turns known_after
at_turns P now zero = now
at_turns P now (suc n) = (now, at_turns P now n)

is_live : IsLive 1 powered
is_live = record { running = refl; refreshed = alone 1 }

stands : StandsIn 1 3 entry powered
stands = record {
  address = ap (λ (row : Row). row.address) (row_is 1);
  kind = ap (λ (row : Row). row.kind) (row_is 1);
  spd = ap (λ (row : Row). row.spd) (row_is 1);
  dirf = ap (λ (row : Row). row.dirf) (row_is 1);
  snd = ap (λ (row : Row). row.snd) (row_is 1);
  more = ap (λ (row : Row). row.more) (row_is 1);
}

or_same : (a b : Bool) → b ≡ a → (a || b) ≡ a
or_same true b same = refl
or_same false b same = same

ever_alone : (n slot : ℕ) → ever_refreshed (known_of bus.station) (calls_in (layout_turns n)) slot ≡ (slot == 1)
unfolding layout_turns known_after
ever_alone zero slot = alone slot
ever_alone (suc n) slot = or_same _ _ (ever_alone n slot ∙ sym (alone slot)) ∙ alone slot

one_slot : (n : ℕ) → slots_refreshed (known_of bus.station) (calls_in (layout_turns n)) ≡ 1
unfolding all_slots
one_slot n = ap (λ (slots : List ℕ). length slots) (filter_agree _ (λ slot. slot == 1) (ever_alone n) all_slots)

none_missed : (n : ℕ) → MissesNone 0 (layout_turns n)
unfolding layout_turns
none_missed zero = tt
none_missed (suc n) = (refl, none_missed n)

no_noise : (n : ℕ) → NoNoise 0 (layout_turns n)
unfolding layout_turns
no_noise zero = tt
no_noise (suc n) = no_noise n

-- ---- no decoder is to miss anything

abbrev losses : Losses
losses = record { shares = record { items = [] }; generator = record { state = 1; increment = 1 } }

none_passes : (a b : Bool) → b ≡ false → ◌≡◌ {A = ℕ} (if a && b then 1 else 0) 0
none_passes true b h = ap {A = Bool} {B = ℕ} (λ b. if b then 1 else 0) h
none_passes false b h = refl

is_draw : IsDraw 1 0 losses losses
is_draw = record {
  drawn = λ node. bit_at-zero node ∙ sym (none_passes (nat_lt node 1) (is_missed (share_at [] node) (word_at node losses.generator)) (nothing (word_at node losses.generator) (share_at [] node) refl));
  none = λ all. refl;
  shares = refl;
  generator = refl;
}
  where
    nothing : (word share : ℕ) → share ≡ 0 → is_missed share word ≡ false
    nothing word share h = grind (arith, nat_tests, h)

are_drawn : (n : ℕ) (start : BusState) → AreDrawn (turns n) start 1 losses losses
unfolding turns
are_drawn zero start = refl
are_drawn (suc n) start = (losses, is_draw, are_drawn n (after_event start (Turn 0)))

-- ---- a line of a metre, and a train of 100 millimetres with its front 200 millimetres from end A

abbrev line : Network
line = record { blocks = record default_block { length = 1000 } ∷ []; joints = []; turnouts = [] }

abbrev on_line : ℕ → Place
on_line at = record { block = 0; at = at; toward = B }

abbrev placed : TrainState
placed = record default_state { top = 300; length = 100; front = on_line 199999999999999; rear = on_line 100000000000000 }

train : TrainState
train = marked line placed

abbrev railway : RailwayState
railway = record { network = line; trains = train ∷ []; failing = none_failing }

by_else : {X : Type 0} {Y : Type 0} (f : X → Y) (test : Bool) (one two : X) → test ≡ false → f (if test then one else two) ≡ f two
by_else {X} {Y} f test one two h = ap (λ (b : Bool). f (if b then one else two)) h

next : (at : ℕ) → at + 1 ≤ 999999999999999 → place_of (onward line (on_line at)) ≡ Some (on_line (at + 1))
next at h =
    let inside : (999999999999999 - at == 0) ≡ false = grind (arith, nat_tests, h) in
    by_else place_of (999999999999999 - at == 0) (onward_by line.blocks (exit_of line (end_ahead (on_line at)))) _ inside

ahead : (at way : ℕ) → at + way ≤ 999999999999999 → way_on line (on_line at) way ≡ Some (on_line (at + way))
unfolding way_on
ahead at zero h = let same : at ≡ at + zero = omega arith in ap (λ (x : ℕ). Some (on_line x)) same
ahead at (suc way) h =
    let same : at + 1 + way ≡ at + suc way = omega arith in
    ap (λ (o : Option Place). option_and_then (λ place. way_on line place way) o) (next at (omega (arith, h)))
    ∙ ahead (at + 1) way (omega (arith, h)) ∙ ap (λ (x : ℕ). Some (on_line x)) same

same_marks : (marks : List Bool) → pointwise beq marks marks ≡ true
same_marks [] = refl
same_marks (true ∷ marks) = same_marks marks
same_marks (false ∷ marks) = same_marks marks

is_line : is_railway railway ≡ true
unfolding train
is_line =
    let spanned : spans line placed ≡ true = ap (λ (o : Option Place). option_eq same_place o (Some (on_line 199999999999999))) (ahead 100000000000000 (span placed) (omega arith)) in
    let whole : is_whole line train ≡ true = and_from (spans line train) (pointwise beq (under line train) train.under) spanned (same_marks train.under) in
    and_from (is_sound line) (list_all (is_train line) (train ∷ [])) refl
    (and_from (is_train line train) true (and_from _ (is_slow line.blocks train) (and_from _ (is_movable train) (and_from _ (is_whole line train) refl whole) refl) refl) refl)

-- ---- what a turn sends is heard

is_wave : (packet : List ℕ) → IsWave packet (halves_of packet)
unfolding halves_of
is_wave packet = (28, omega arith, each (doubled (replicate 14 true ++ (bits_of packet ++ true ∷ []))))
  where
    each : (bits : List Bool) → map bit_of (map micros bits) ≡ map Some bits
    each [] = refl
    each (true ∷ bits) = ap (λ (rest : List (Option Bool)). Some true ∷ rest) (each bits)
    each (false ∷ bits) = ap (λ (rest : List (Option Bool)). Some false ∷ rest) (each bits)

of_two : (a b : ℕ) → a < 256 → b < 256 → IsPacket (with_check (a ∷ b ∷ []))
of_two a b h k =
    let check : nat_lt (bit_xor (bit_xor 0 a) b) 256 ≡ true = lt-ltb (bit_xor (bit_xor 0 a) b) 256 (xor_lt 8 (bit_xor 0 a) b (xor_lt 8 0 a (omega arith) h) k) in
    and_from (nat_lt a 256) _ (lt-ltb a 256 h) (and_from (nat_lt b 256) _ (lt-ltb b 256 k) (and_from _ true check refl))

of_switch : (number : ℕ) (closed on : Bool) → IsPacket (accessory_bytes number closed on)
of_switch number closed on =
    let one : bit on ≤ 1 = is_bit on in
    let other : bit closed ≤ 1 = is_bit closed in
    of_two (128 + module_of number % 64) (128 + 16 * (7 - module_of number / 64) + 8 * bit on + 2 * (number % 4) + bit closed) (omega arith) (omega (arith, one, other))
  where
    is_bit : (b : Bool) → bit b ≤ 1
    is_bit true = omega arith
    is_bit false = omega arith

of_kind : (kind : Kind) → IsPacket (entry_packet kind 3 entry)
of_kind Speed = refl
of_kind GroupOne = refl
of_kind GroupTwo = refl
of_kind GroupThree = refl

-- the station at any of these moments
abbrev seen_at : Scheduled → Seen
seen_at schedule = seen_with bus.station.lines powered schedule

of_slot : (slot : ℕ) (kind : Kind) → is_refreshed desk slot ≡ true → IsPacket (place_packet desk slot kind)
of_slot slot kind h =
    let test : (slot == 1) ≡ true = sym (alone slot) ∙ h in
    let at : slot ≡ 1 = grind (arith, nat_tests, test) in
    subst (λ (n : ℕ). IsPacket (place_packet desk n kind)) (sym at)
    (subst (λ (row : Row). IsPacket (entry_packet kind row.address (entry_of row))) (sym (row_is 1)) (of_kind kind))

is_packet : (schedule : Scheduled) (packet : List ℕ) → IsRunningPacket (seen_at schedule) packet → IsPacket packet
is_packet schedule packet (inl idle) = subst IsPacket (sym idle) refl
is_packet schedule packet (inr (inl (slot, kind, refreshed, is))) = subst IsPacket (sym is) (of_slot slot kind refreshed)
is_packet schedule packet (inr (inr (number, closed, on, waits, is))) = subst IsPacket (sym is) (of_switch number closed on)

-- what the layers below promise: of turns `turns_are_bounded` and `packets_of_the_desk`, of decoders
-- `waves_are_obeyed`
record Below : Type 0 where
  bounds : TurnsAreBounded
  of_the_desk : (seen : Seen) → IsPacketOfDesk seen.powered.power seen (packet_of_turn seen)
  heard : (old : LocoDecoder) (halves : List ℕ) → Receives obeyed old halves (heard_all obeyed old halves)

hears_more : (first second : List Sound) (old mid new : Node) → HearsAll first old mid → HearsAll second mid new → HearsAll (first ++ second) old new
hears_more [] second old mid new h k = subst (λ (from : Node). HearsAll second from new) h k
hears_more (sound ∷ sounds) second old mid new h k = (h.0, h.1, hears_more sounds second h.0 mid new h.2 k)

module _ (below : Below) where
  hears : (packet : List ℕ) → IsPacket packet → (old : LocoDecoder) → HearsPacket packet (Loco old) (Loco (heard_all obeyed old (halves_of packet)))
  unfolding obey
  hears packet is old =
      let all = below.heard old (halves_of packet) in
      record {
        in_halves = refl;
        kept = ap LocoSpec all.kept;
        settles = all.waves.settles packet is (is_wave packet);
        obeys = all.waves.obeys packet is (is_wave packet);
      }

  one_turn : (schedule : Scheduled) (old : LocoDecoder) → (new : LocoDecoder) × HearsAll (sounds_at 0 (seen_at schedule) (LayoutTurn 0)) (Loco old) (Loco new)
  unfolding moved
  one_turn schedule old =
      let sends = below.of_the_desk (seen_at schedule) in
      let new : LocoDecoder = heard_all obeyed old (halves_of sends.0) in
      (new, subst (λ (o : Option (List ℕ)). HearsAll (sounds_of_turn false (sent o)) (Loco old) (Loco new)) (sym sends.1) (Loco new, hears sends.0 (is_packet schedule sends.0 sends.2) old, refl))

  all_turns : (n : ℕ) (schedule : Scheduled) (old : LocoDecoder) → (new : LocoDecoder) × HearsAll (sounds_in 0 (seen_at schedule) (layout_turns n)) (Loco old) (Loco new)
  unfolding moved layout_turns
  all_turns zero schedule old = (old, refl)
  all_turns (suc n) schedule old =
      let first = one_turn schedule old in
      let rest = all_turns n (scheduled (after_turn (seen_at schedule))) first.0 in
      (rest.0, hears_more (sounds_at 0 (seen_at schedule) (LayoutTurn 0)) (sounds_in 0 (after_turn (seen_at schedule)) (layout_turns n)) (Loco old) (Loco first.0) (Loco rest.0) first.1 rest.1)

  -- ---- the server

  -- as a turn begins there is more left of it than 5 milliseconds
  next_remains : (start : BusState) → 5796 ≤ (after_event start (Turn 0)).remaining
  next_remains start =
      let whole : start.remaining + duration (packet_of_turn start.station) - start.remaining ≡ duration (packet_of_turn start.station) = omega arith in
      omega (arith, whole, below.bounds.shortest start.station)

  remains : (n : ℕ) (start : BusState) → 5796 ≤ start.remaining → 5796 ≤ (after_events start (turns n)).remaining
  unfolding turns
  remains zero start h = h
  remains (suc n) start h =
      remains n (after_event start (Turn 0)) (next_remains start)

  long_enough : (n : ℕ) (start : BusState) → 5796 ≤ start.remaining → 5796 * n ≤ micros_in start (turns n)
  unfolding turns
  long_enough zero start h = omega arith
  long_enough (suc n) start h =
      let rest = long_enough n (after_event start (Turn 0)) (next_remains start) in
      omega (arith, h, rest)

  as_layout : (n : ℕ) (start : BusState) → 5796 ≤ start.remaining → layout_events start (turns n ++ piece ∷ []) ≡ layout_turns n
  unfolding turns layout_turns
  as_layout zero start h = ap (λ (ends : Bool). (if ends then turn_of 0 else []) ++ []) (is_short start.remaining h)
  as_layout (suc n) start h =
      ap (λ (events : List LayoutEvent). LayoutTurn 0 ∷ events) (as_layout n (after_event start (Turn 0)) (next_remains start))

  is_heard : IsHeard assigned bus [] (turns 30) (piece ∷ [])
  is_heard =
      let cycle : layout_events bus (turns 30) ≡ layout_turns 30 = as_turns 30 bus in
      let all : layout_events bus (turns 30 ++ piece ∷ []) ≡ layout_turns 30 = as_layout 30 bus (omega arith) in
      let at : (P : PoweredDesk → Type 0) → P powered → (events : List LayoutEvent) → events ≡ layout_turns 30 → AtEveryMoment P (known_of bus.station) (calls_in events) =
      λ P now events is. subst (λ (those : List LayoutEvent). AtEveryMoment P (known_of bus.station) (calls_in those)) (sym is) (at_turns P now 30) in
      let one = ap (λ (events : List LayoutEvent). slots_refreshed (known_of bus.station) (calls_in events)) cycle ∙ one_slot 30 in
      let long = long_enough 30 bus (omega arith) in
      record {
        between = refl;
        hears = record {
          answers = refl;
          steps = refl;
          misses = subst (MissesNone 0) (sym all) (none_missed 30);
          quiet = subst (NoNoise 0) (sym all) (no_noise 30);
        };
        timed = record {
          is_slot = (omega arith, omega arith);
          live = at (IsLive 1) is_live (layout_events bus (turns 30)) cycle;
          stands = at (StandsIn 1 3 entry) stands (layout_events bus (turns 30)) cycle;
          enough = omega (arith, one, long);
        };
        asks = record {
          live = at (IsLive 1) is_live (layout_events bus (turns 30 ++ piece ∷ [])) all;
          stands = at (StandsIn 1 3 entry) stands (layout_events bus (turns 30 ++ piece ∷ [])) all;
        };
      }

  -- a new server with this bus, this decoder and this railway
  abbrev start : ServerState
  start = record (initial_state (LocoSpec loco.settings ∷ []) ([] ∷ []) (Some railway) None (RealTime 1) losses) { bus = bus }

  -- after thirty turns
  abbrev settled : ServerState
  settled = record start { bus = after_events bus (turns 30); nodes = Loco (all_turns 30 (scheduled bus.station) loco).0 ∷ [] }

  -- 5 milliseconds later, within a turn
  abbrev ended : ServerState
  ended = record settled {
    bus = after_event settled.bus piece;
    railway = railway_after settled.names settled.bus settled.nodes piece settled.railway;
    programming = programming_after settled.bus piece settled.programming;
    unreported = reports_after settled.names settled.bus settled.nodes piece settled.railway settled.programming;
    queues = queues_after (outcome_in settled piece) settled.queues;
    answers = answers_after (outcome_of settled.bus piece) settled.answers;
    turns_due = due_after (outcome_of settled.bus piece) settled.pace settled.turns_due;
    first_client = first_after (outcome_of settled.bus piece) settled.first_client;
    disconnected = disconnected_after (outcome_of settled.bus piece) settled.disconnected;
  }

  abbrev observed : Observation
  observed = Observed (outcome_in settled piece) ended.nodes ended.railway

  is_run : IsEventRun (turns 30) start settled
  is_run =
      let ran = all_turns 30 (scheduled bus.station) loco in
      record {
        legal = are_events 30;
        bus = refl;
        nodes = subst (λ (events : List LayoutEvent). HaveHeard bus.station events start.nodes settled.nodes) (sym (as_turns 30 bus)) (record {
          count = refl;
          each = λ i none here.
              let first : i ≡ 0 = omega (arith, here) in
              subst (λ (k : ℕ). HearsAll (sounds_in k bus.station (layout_turns 30)) (slice_index_or start.nodes k none) (slice_index_or settled.nodes k none)) (sym first) ran.1;
        });
        losses = are_drawn 30 bus;
      }

  runs_piece : RunsEvent piece observed settled ended
  runs_piece =
      let left : 5796 ≤ settled.bus.remaining = remains 30 bus (omega arith) in
      let short : nat_le settled.bus.remaining 5000 ≡ false = is_short settled.bus.remaining left in
      record {
        legal = refl;
        bus = refl;
        nodes = subst (λ (ends : Bool). HaveHeard settled.bus.station (if ends then turn_of 0 else []) settled.nodes settled.nodes) (sym short) (record { count = refl; each = λ i none here. refl });
        piece = omega (arith, left);
        railway = refl;
        programming = refl;
        unreported = (refl, refl);
        queues = refl;
        names = refl;
        answers = refl;
        turns_due = refl;
        time_due = refl;
        losses = subst (λ (ends : Bool). MatchBool ends (IsDraw 1 0 losses losses) (◌≡◌ {A = ℕ} 0 0 × (losses ≡ losses))) (sym short) (refl, refl);
        pace = refl;
        first_client = refl;
        has_backlog = refl;
        disconnected = refl;
        saw = refl;
      }

  runs_alone : RunsLeavingAlone 0 (wanted_of assigned) (record { event = piece; observed = observed } ∷ []) settled ended
  unfolding train
  runs_alone = (
    settled,
    ended,
    record { bus = refl; nodes = refl; names = refl; railway = refl },
    runs_piece,
    All-nil (λ state. IsOnWayOf line (wanted_of assigned) 5000 (marked line placed) state → IsTrue (stays settled.nodes state)),
    record { bus = refl; nodes = refl; names = refl; railway = refl },
  )

  -- In these 5 milliseconds the train moves 0.75 millimetres, at step 63 of 128.
  after_a_piece : SliderReachesRail → (now : RailwayState) × (ended.railway ≡ Some now) × ((slice_index_or now.trains 0 default_state).front ≡ on_line 200749999999999)
  unfolding train
  after_a_piece law =
      let reached = law assigned [] (turns 30) (record { event = piece; observed = observed } ∷ []) start settled ended (Loco loco)
      (record { idle = refl; client_count = refl; under_way = omega arith; longest = omega arith }) is_desk (omega arith) refl is_heard is_run
      0 default_state railway refl is_line (omega arith) refl runs_alone in (
        reached.0,
        reached.1,
        (reached.2.way (on_line 200749999999999) (record {
          at_once = refl;
          on_rails = refl;
          leads = ahead 199999999999999 750000000000 (omega arith);
        })).0,
      )
