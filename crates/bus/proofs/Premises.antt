-- The premises of the headline in time can be met.
use Rattle.std.proofs.Common.{◌≡◌, ℕ, ◌+◌, ◌-◌, ◌*◌, ◌≤◌, ◌||◌, ◌==◌, zero, suc, Bool, true, false, if◌then◌else◌, List, [], ◌∷◌, ◌++◌, length, replicate, Option, Some, None, refl, ap, ap₂, sym, subst, ◌∙◌, arith}
use Rattle.std.proofs.lemmas.Bool.Decides.{nat_tests}
use Rattle.std.proofs.lemmas.List.Elements.{filter_agree}
use Rattle.std.specs.FinMap.{FinMap, get, insert, empty, get-insert, get-empty}
use Rattle.std.specs.Cmp.{nat_cmp_total}
use Rattle.std.specs.Ordering.{eq_by_cmp, nat_cmp}
use Rattle.std.specs.List.{slice_index_or}
use Rattle.dcc_packet.specs.declared.address.Address.TheVariants.{Short}
use Rattle.dcc_packet.specs.declared.steps.Steps.TheVariants.{S128}
use Rattle.dcc_packet.specs.declared.steps.Motion.TheVariants.{Step}
use Rattle.ln_ops.specs.declared.op.Op.TheVariants.{PowerOn}
use Rattle.ln_ops.specs.declared.row.Row.{Row}
use Rattle.slot_table.specs.Desk.{Desk}
use Rattle.slot_table.specs.Entry.{Entry, row_with, state_of_number}
use Rattle.slot_table.specs.Reading.{all_slots, entry_at, row_at, row_of}
use Rattle.station_core.specs.After.{after}
use Rattle.station_core.specs.declared.call.Call.{Call}
use Rattle.station_core.specs.ThrottleView.{ThrottleView, known_after}
use Rattle.station_core.specs.Moments.{AtEveryMoment, IsLive, ever_refreshed, slots_refreshed}
use Rattle.station_core.specs.Powered.{PoweredDesk}
use Rattle.station_core.specs.Refreshed.{is_driven, is_refreshed}
use Rattle.station_core.specs.Seen.{first_seen, known_of}
use Rattle.decoder_node.specs.Decoder.{LocoDecoder, fresh}
use Rattle.decoder_node.specs.Running.{first_running}
use Rattle.layout_core.specs.declared.event.Event.{Event as LayoutEvent}
use Rattle.layout_core.specs.declared.event.Event.TheVariants.{Turn as LayoutTurn}
use Rattle.layout_core.specs.declared.node.Node.{Node}
use Rattle.layout_core.specs.declared.node.Node.TheVariants.{Loco}
use Rattle.layout_core.specs.Cycle.{MissesNone, StandsIn}
use Rattle.layout_core.specs.Events.{NoNoise, calls_in}
use Rattle.layout_core.specs.Nodes.{running_of}
use Rattle.bus.specs.declared.event.Event.{Event}
use Rattle.bus.specs.declared.event.Event.TheVariants.{Turn}
use Rattle.bus.specs.Below.{TurnsAreBounded}
use Rattle.bus.specs.Bus.{BusState, after_event, duration, first_bus}
use Rattle.bus.specs.Course.{micros_in}
use Rattle.bus.specs.Cycle.{Assignment, IsHeard, RunsOnInTime}
use Rattle.bus.specs.Layout.{layout_events}
use Rattle.station_core.specs.Station.{packet_of_turn}

-- SPD 40 in 128 steps, in use
abbrev asked : Entry
asked = record { state = state_of_number 3; kind = 3; spd = 0x40; dirf = 0; snd = 0; more = 0; ss2 = 0; id1 = 0; id2 = 0 }

-- it is asked of address 3, which is in slot 1
abbrev desk : Desk
desk = record { place = insert empty 1 3; asked = insert empty 3 asked; mark = None }

-- power is on
abbrev powered : PoweredDesk
powered = after (record (first_seen 8).powered { desk = desk }) PowerOn

abbrev start : BusState
start = record (first_bus (record { is_stepped = true; has_sensors = false; has_programmer = false })) { station = record (first_seen 8) { powered = powered } }

-- a new decoder of address 3 in 28 or 128 steps
abbrev loco : LocoDecoder
loco = fresh (record { address = Short 3; reversed = false; fourteen = false }) first_running

abbrev assigned : Assignment
assigned = record { node = 0; loco = loco; slot = 1; address = 3; entry = asked }

-- ---- what the desk has in its slots

abbrev put : {X : Type 0} → ℕ → X → ℕ → Option X
put k v q = if q == k then Some v else None

get_put : {X : Type 0} (m : FinMap nat_cmp X) → ((q : ℕ) → get m q ≡ None) → (k : ℕ) (v : X) (q : ℕ) → get (insert m k v) q ≡ put k v q
get_put {X} m none k v q =
    let test : eq_by_cmp nat_cmp q k ≡ (q == k) = grind (arith, nat_tests) in
    get-insert nat_cmp_total m k v q ∙ ap₂ (λ (b : Bool) (o : Option X). if b then Some v else o) test (none q)

abbrev entry_in : Option ℕ → Option Entry
entry_in None = None
entry_in (Some a) = put 3 asked a

row_is : (n : ℕ) → row_of desk n ≡ row_at (put 1 3 n) (entry_in (put 1 3 n))
row_is n = ap (λ (o : Option ℕ). row_at o (entry_at o desk.asked)) (get_put empty (get-empty nat_cmp) 1 3 n) ∙ by_place (put 1 3 n)
  where
    by_place : (o : Option ℕ) → row_at o (entry_at o desk.asked) ≡ row_at o (entry_in o)
    by_place None = refl
    by_place (Some a) = ap (row_at (Some a)) (get_put empty (get-empty nat_cmp) 3 asked a)

alone : (n : ℕ) → is_refreshed desk n ≡ (n == 1)
alone n = ap (λ (r : Row). is_driven r.state) (row_is n) ∙ by_test (n == 1)
  where
    by_test : (here : Bool) → is_driven (row_at (if here then Some 3 else None) (entry_in (if here then Some 3 else None))).state ≡ here
    by_test true = refl
    by_test false = refl

-- ---- moments

record IsAsked (p : PoweredDesk) : Type 0 where
  live : IsLive 1 p
  row : row_of p.desk 1 ≡ row_with 3 asked
  alone : (n : ℕ) → is_refreshed p.desk n ≡ (n == 1)

is_asked : IsAsked powered
is_asked = record { live = record { running = refl; refreshed = alone 1 }; row = row_is 1; alone = alone }

stands : (p : PoweredDesk) → IsAsked p → StandsIn 1 3 asked p
stands p is = record {
  address = ap (λ (row : Row). row.address) is.row;
  kind = ap (λ (row : Row). row.kind) is.row;
  spd = ap (λ (row : Row). row.spd) is.row;
  dirf = ap (λ (row : Row). row.dirf) is.row;
  snd = ap (λ (row : Row). row.snd) is.row;
  more = ap (λ (row : Row). row.more) is.row;
}

at_all : (P : PoweredDesk → Type 0) → ((p : PoweredDesk) → IsAsked p → P p) → (known : ThrottleView) (calls : List Call) → AtEveryMoment IsAsked known calls → AtEveryMoment P known calls
at_all P gives known [] now = gives known.powered now
at_all P gives known (call ∷ calls) now = (gives known.powered now.0, at_all P gives (known_after known call) calls now.1)

or_same : (a b : Bool) → b ≡ a → (a || b) ≡ a
or_same true b same = refl
or_same false b same = same

ever_alone : (known : ThrottleView) (calls : List Call) → AtEveryMoment IsAsked known calls → (n : ℕ) → ever_refreshed known calls n ≡ (n == 1)
ever_alone known [] now n = now.alone n
ever_alone known (call ∷ calls) now n = or_same _ _ (ever_alone (known_after known call) calls now.1 n ∙ sym (now.0.alone n)) ∙ now.0.alone n

one_slot : (known : ThrottleView) (calls : List Call) → AtEveryMoment IsAsked known calls → slots_refreshed known calls ≡ 1
unfolding all_slots
one_slot known calls now = ap (λ (slots : List ℕ). length slots) (filter_agree _ (λ n. n == 1) (ever_alone known calls now) all_slots)

-- ---- turns

turns : ℕ → List Event
turns n = replicate n (Turn 0)

layout_turns : ℕ → List LayoutEvent
layout_turns n = replicate n (LayoutTurn 0)

as_layout : (n : ℕ) (bus : BusState) → layout_events bus (turns n) ≡ layout_turns n
unfolding turns layout_turns
as_layout zero bus = refl
as_layout (suc n) bus = ap (λ (events : List LayoutEvent). LayoutTurn 0 ∷ events) (as_layout n (after_event bus (Turn 0)))

turns-turns : (n more : ℕ) → turns n ++ turns more ≡ turns (n + more)
unfolding turns
turns-turns zero more = let e : zero + more ≡ more = omega arith in ap (λ (k : ℕ). replicate k (Turn 0)) (sym e)
turns-turns (suc n) more = let e : suc n + more ≡ suc (n + more) = omega arith in ap (λ (events : List Event). Turn 0 ∷ events) (turns-turns n more) ∙ ap (λ (k : ℕ). replicate k (Turn 0)) (sym e)

at_turns : (n : ℕ) (known : ThrottleView) → IsAsked known.powered → AtEveryMoment IsAsked known (calls_in (layout_turns n))
unfolding layout_turns known_after
at_turns zero known is = is
at_turns (suc n) known is = (is, at_turns n known is)

none_missed : (n : ℕ) → MissesNone 0 (layout_turns n)
unfolding layout_turns
none_missed zero = tt
none_missed (suc n) = (refl, none_missed n)

no_noise : (n : ℕ) → NoNoise 0 (layout_turns n)
unfolding layout_turns
no_noise zero = tt
no_noise (suc n) = no_noise n

-- each takes the time of the shortest packet, if not more
long_enough : TurnsAreBounded → (n : ℕ) (bus : BusState) → 5796 ≤ bus.remaining → 5796 * n ≤ micros_in bus (turns n)
unfolding turns
long_enough bounds zero bus h = omega arith
long_enough bounds (suc n) bus h =
    let next : BusState = after_event bus (Turn 0) in
    let whole : bus.remaining + duration (packet_of_turn bus.station) - bus.remaining ≡ duration (packet_of_turn bus.station) = omega arith in
    let least : 5796 ≤ duration (packet_of_turn bus.station) = bounds.shortest bus.station in
    let more : 5796 ≤ next.remaining = omega (arith, whole, least) in
    let rest = long_enough bounds n next more in
    omega (arith, h, rest)

-- ---- a cycle of thirty turns, and any number later

moments : (n : ℕ) → AtEveryMoment IsAsked (known_of start.station) (calls_in (layout_events start (turns n)))
moments n = subst (λ (events : List LayoutEvent). AtEveryMoment IsAsked (known_of start.station) (calls_in events)) (sym (as_layout n start)) (at_turns n (known_of start.station) is_asked)

is_heard : TurnsAreBounded → (later : ℕ) → IsHeard assigned start [] (turns 30) (turns later)
is_heard bounds later =
    let whole : turns 30 ++ turns later ≡ turns (30 + later) = turns-turns 30 later in
    let layout : layout_events start (turns 30 ++ turns later) ≡ layout_turns (30 + later) = ap (layout_events start) whole ∙ as_layout (30 + later) start in
    let all : AtEveryMoment IsAsked (known_of start.station) (calls_in (layout_events start (turns 30 ++ turns later))) =
    subst (λ (events : List Event). AtEveryMoment IsAsked (known_of start.station) (calls_in (layout_events start events))) (sym whole) (moments (30 + later)) in
    let one = one_slot (known_of start.station) (calls_in (layout_events start (turns 30))) (moments 30) in
    let long = long_enough bounds 30 start (omega arith) in
    record {
      between = refl;
      hears = record {
        answers = refl;
        steps = refl;
        misses = subst (MissesNone 0) (sym layout) (none_missed (30 + later));
        quiet = subst (NoNoise 0) (sym layout) (no_noise (30 + later));
      };
      timed = record {
        is_slot = (omega arith, omega arith);
        live = at_all (IsLive 1) (λ p is. is.live) (known_of start.station) (calls_in (layout_events start (turns 30))) (moments 30);
        stands = at_all (StandsIn 1 3 asked) stands (known_of start.station) (calls_in (layout_events start (turns 30))) (moments 30);
        enough = omega (arith, one, long);
      };
      asks = record {
        live = at_all (IsLive 1) (λ p is. is.live) (known_of start.station) (calls_in (layout_events start (turns 30 ++ turns later))) all;
        stands = at_all (StandsIn 1 3 asked) stands (known_of start.station) (calls_in (layout_events start (turns 30 ++ turns later))) all;
      };
    }

-- After thirty turns, and however many more, the locomotive runs at step 63 of 128.
after_thirty_turns : TurnsAreBounded → (later : ℕ) (new : List Node) → RunsOnInTime start (turns 30 ++ turns later) (Loco loco ∷ []) new
    → running_of (slice_index_or new 0 (Loco loco)) ≡ Some (record { motion = Step S128 63; forward = true; functions = 0 })
after_thirty_turns bounds later new law = (law assigned [] (turns 30) (turns later) (Loco loco) refl (omega arith) refl (is_heard bounds later)).0
