-- A full refresh cycle sends a locomotive all that its entry asks, and nothing else.
use Rattle.std.proofs.Common.{◌≡◌, ◌⊎◌, ℕ, ◌+◌, ◌*◌, ◌<◌, ◌≤◌, nat_eq, Bool, true, false, if◌then◌else◌, List, [], ◌∷◌, ◌++◌, length, Some, suc, refl, ap, sym, subst, ◌∙◌, arith, inl, inr, append_assoc}
use Rattle.std.proofs.lemmas.Bool.{both_ways, cases_eq, or_right}
use Rattle.std.proofs.lemmas.List.Elements.{All-from_recursion}
use Rattle.std.specs.List.{AllByRecursion, filter, slice_index_or}
use Rattle.std.specs.Prelude.{Contains, IsTrue, ◌≢◌}
use Rattle.dcc_packet.specs.Kinds.{kinds}
use Rattle.dcc_packet.specs.Sent.{accessory_bytes, idle_bytes}
use Rattle.ln_ops.specs.declared.row.Row.{Row}
use Rattle.ln_ops.specs.declared.row.State.{State}
use Rattle.ln_ops.specs.declared.row.State.TheVariants as state
use Rattle.ln_ops.specs.Slot.{is_held}
use Rattle.slot_table.specs.Desk.{Desk, IsDesk}
use Rattle.slot_table.specs.Entry.{Entry, IsAddress, IsEntry, IsRow, entry_of}
use Rattle.slot_table.specs.Laws.{RowsAreLegal}
use Rattle.slot_table.specs.Reading.{all_slots, row_of}
use Rattle.refresh_ring.specs.declared.kind.Kind.{Kind}
use Rattle.refresh_ring.specs.declared.kind.Kind.TheVariants as kind
use Rattle.station_core.specs.declared.call.Call.{Call}
use Rattle.station_core.specs.declared.call.Call.TheVariants.{Turn as TurnCall}
use Rattle.station_core.specs.declared.call.Step.{Step}
use Rattle.station_core.specs.declared.call.Step.TheVariants.{Packet}
use Rattle.station_core.specs.Station.{packet_of_turn, sent}
use Rattle.station_core.specs.Packets.{entry_packet, place_packet}
use Rattle.station_core.specs.Refreshed.{is_driven, is_refreshed}
use Rattle.station_core.specs.ThrottleView.{ThrottleView, known_after, known_after_all}
use Rattle.station_core.specs.Moments.{AtEveryMoment, IsLive, ever_refreshed, slots_refreshed, turns_in}
use Rattle.station_core.specs.Powered.{HasDesk, PoweredDesk}
use Rattle.station_core.specs.Runs.{Covers, Sends, answer_of, state_after, state_of}
use Rattle.station_core.specs.Seen.{Seen, known_of}
use Rattle.station_core.specs.Sent.{IsPacketOfDesk, IsRunningPacket}
use Rattle.decoder_cv.specs.Answering.{AgreesInSteps, answers_to}
use Rattle.decoder_cv.specs.Settings.{Settings}
use Rattle.decoder_node.specs.declared.node.NodeSpec.TheVariants.{Loco as LocoSpec}
use Rattle.decoder_node.specs.Decoder.{LocoDecoder}
use Rattle.decoder_node.specs.Obey.{obey, runs}
use Rattle.decoder_node.specs.declared.running.Running.{Running}
use Rattle.layout_core.specs.declared.event.Event.{Event}
use Rattle.layout_core.specs.declared.event.Event.TheVariants.{Byte, Turn, Noise}
use Rattle.layout_core.specs.declared.node.Node.{Node}
use Rattle.layout_core.specs.declared.node.Node.TheVariants.{Loco, Accessory}
use Rattle.layout_core.specs.Cycle.{KeepsAsking, MissesNone, StandsIn, IsCycleOf, RunsAfterNoise, RunsAsWanted, RunsOnAsWanted}
use Rattle.layout_core.specs.Events.{NoNoise, calls_in, calls_of}
use Rattle.layout_core.specs.Heard.{Sound, Whole, Single, HearsAll, heard, packets_among, sounds_at, sounds_in, sounds_of_turn}
use Rattle.layout_core.specs.Hearing.{Obeyed}
use Rattle.layout_core.specs.Nodes.{IsBetween, is_missed, running_of, spec_of}
use Rattle.layout_core.specs.Played.{after_event, after_events}
use Rattle.layout_core.specs.Settling.{IsPacketOf, speed, group_one, group_two, group_three, LeavesAsItIs, IsAskedBy, TellsAll}
use Rattle.layout_core.specs.Wanted.{wanted}
use Rattle.layout_core.specs.World.{HaveHeard}
use Rattle.layout_core.proofs.Heard.{all_keep, all_split, same_cv, sounds-append, sounds_are_whole, whole_obeyed}
use Rattle.layout_core.proofs.Moments.{AtEach, Follows, at_each, cycle_here, follows_behind}

-- the laws that it depends on
pub record Laws : Type 0 where
  pub turns : (seen : Seen) → answer_of seen TurnCall ≡ sent (packet_of_turn seen)
  pub reported : (start : Seen) → Follows start (known_of start)
  pub desks : (known : ThrottleView) (calls : List Call) → HasDesk known.powered → AtEveryMoment HasDesk known calls
  pub coverage : (start : Seen) (calls : List Call) → Covers start calls
  pub packets : (seen : Seen) → IsPacketOfDesk seen.powered.power seen (packet_of_turn seen)
  pub rows : (desk : Desk) → IsDesk desk → RowsAreLegal desk
  pub settling : (cv : Settings) (a : ℕ) (e : Entry) (start : Running) (packets : List (List ℕ)) → IsAskedBy cv a e → TellsAll cv a e packets → runs cv start packets ≡ wanted e cv.reversed
  pub other : (cv : Settings) (a b : ℕ) (e : Entry) (packet : List ℕ) → IsAddress b → IsEntry e → IsTrue (answers_to cv a) → a ≢ b → IsPacketOf b e packet → LeavesAsItIs cv packet
  pub idle : (cv : Settings) → LeavesAsItIs cv idle_bytes
  pub accessory : (cv : Settings) (number : ℕ) (closed on : Bool) → LeavesAsItIs cv (accessory_bytes number closed on)

of_kind : (k : Kind) (a : ℕ) (e : Entry) → IsPacketOf a e (entry_packet k a e)
of_kind kind.Speed a e = speed refl
of_kind kind.GroupOne a e = group_one refl
of_kind kind.GroupTwo a e = group_two refl
of_kind kind.GroupThree a e = group_three refl

driven-held : (s : State) → is_driven s ≡ true → is_held s ≡ true
driven-held state.Free h = h
driven-held state.Common h = refl
driven-held state.Idle h = refl
driven-held state.InUse h = refl

entry_in : (row : Row) → IsRow row → is_held row.state ≡ true → IsEntry (entry_of row)
entry_in row is held = record { held = held; kind = is.kind; spd = is.spd; dirf = is.dirf; snd = is.snd; more = is.more; ss2 = is.ss2; id1 = is.id1; id2 = is.id2 }

-- the first of the moments
first_moment : (P : PoweredDesk → Type 0) (seen : Seen) (calls : List Call) → AtEach P seen calls → P seen.powered
first_moment P seen [] now = now
first_moment P seen (call ∷ calls) moments = moments.0

each_moment : (P Q : PoweredDesk → Type 0) → ((p : PoweredDesk) → P p → Q p) → (seen : Seen) (calls : List Call) → AtEach P seen calls → AtEach Q seen calls
each_moment P Q from seen [] now = from seen.powered now
each_moment P Q from seen (call ∷ calls) moments = (from seen.powered moments.0, each_moment P Q from (state_of seen call) calls moments.1)

-- what is heard at a turn
heard_turn : (i missed : ℕ) (seen : Seen) (packet : List ℕ) → answer_of seen TurnCall ≡ Packet packet → is_missed missed i ≡ false → (rest : List Sound) → packets_among (sounds_at i seen (Turn missed) ++ rest) ≡ packet ∷ packets_among rest
heard_turn i missed seen packet is listens rest =
    ap (λ (step : Step). packets_among (sounds_of_turn (is_missed missed i) step ++ rest)) is
    ∙ ap (λ (b : Bool). packets_among (sounds_of_turn b (Packet packet) ++ rest)) listens

-- noise is not a packet
heard_noise : (b : Bool) (half : ℕ) (rest : List Sound) → packets_among ((if b then Single half ∷ [] else []) ++ rest) ≡ packets_among rest
heard_noise true half rest = refl
heard_noise false half rest = refl

-- the calls of events are those of the station
pub after_is : (seen : Seen) (events : List Event) → after_events seen events ≡ state_after seen (calls_in events)
after_is seen [] = refl
after_is seen (Byte line byte ∷ events) = after_is (after_event seen (Byte line byte)) events
after_is seen (Turn missed ∷ events) = after_is (after_event seen (Turn missed)) events
after_is seen (Noise node half ∷ events) = after_is seen events

calls-append : (events later : List Event) → calls_in (events ++ later) ≡ calls_in events ++ calls_in later
calls-append [] later = refl
calls-append (event ∷ events) later =
    ap (λ (calls : List Call). calls_of event ++ calls) (calls-append events later) ∙ sym (append_assoc (calls_of event) (calls_in events) (calls_in later))

last_moment : (known : ThrottleView) (calls : List Call) → AtEveryMoment HasDesk known calls → HasDesk (known_after_all known calls).powered
last_moment known [] now = now
last_moment known (call ∷ calls) moments = last_moment (known_after known call) calls moments.1

-- a desk after some of the calls
desk_behind : (laws : Laws) (start : Seen) (before : List Call) → HasDesk start.powered → HasDesk (state_after start before).powered
desk_behind laws start before is = subst HasDesk (sym (laws.reported start before)) (last_moment (known_of start) before (laws.desks (known_of start) before is))

-- two entries ask for the same
record AskAlike (one other : Entry) : Type 0 where
  kind : one.kind ≡ other.kind
  spd : one.spd ≡ other.spd
  dirf : one.dirf ≡ other.dirf
  snd : one.snd ≡ other.snd
  more : one.more ≡ other.more

alike : {X : Type 0} (f : Entry → X) (g : (kind spd dirf snd more : ℕ) → X) → ((e : Entry) → f e ≡ g e.kind e.spd e.dirf e.snd e.more) → (one other : Entry) → AskAlike one other → f one ≡ f other
alike f g reads one other same =
    reads one
    ∙ ap (λ (n : ℕ). g n one.spd one.dirf one.snd one.more) same.kind
    ∙ ap (λ (n : ℕ). g other.kind n one.dirf one.snd one.more) same.spd
    ∙ ap (λ (n : ℕ). g other.kind other.spd n one.snd one.more) same.dirf
    ∙ ap (λ (n : ℕ). g other.kind other.spd other.dirf n one.more) same.snd
    ∙ ap (λ (n : ℕ). g other.kind other.spd other.dirf other.snd n) same.more
    ∙ sym (reads other)

-- an entry of these bytes
abbrev of_bytes : (kind spd dirf snd more : ℕ) → Entry
of_bytes kind spd dirf snd more = record { state = state.InUse; kind = kind; spd = spd; dirf = dirf; snd = snd; more = more; ss2 = 0; id1 = 0; id2 = 0 }

same_packet : (k : Kind) (a : ℕ) (one other : Entry) → AskAlike one other → entry_packet k a one ≡ entry_packet k a other
same_packet kind.Speed a = alike (entry_packet kind.Speed a) (λ n spd dirf snd more. entry_packet kind.Speed a (of_bytes n spd dirf snd more)) (λ e. refl)
same_packet kind.GroupOne a = alike (entry_packet kind.GroupOne a) (λ n spd dirf snd more. entry_packet kind.GroupOne a (of_bytes n spd dirf snd more)) (λ e. refl)
same_packet kind.GroupTwo a = alike (entry_packet kind.GroupTwo a) (λ n spd dirf snd more. entry_packet kind.GroupTwo a (of_bytes n spd dirf snd more)) (λ e. refl)
same_packet kind.GroupThree a = alike (entry_packet kind.GroupThree a) (λ n spd dirf snd more. entry_packet kind.GroupThree a (of_bytes n spd dirf snd more)) (λ e. refl)

same_wanted : (reversed : Bool) (one other : Entry) → AskAlike one other → wanted one reversed ≡ wanted other reversed
same_wanted reversed = alike (λ e. wanted e reversed) (λ kind spd dirf snd more. wanted (of_bytes kind spd dirf snd more) reversed) (λ e. refl)

module _ (laws : Laws) (cv : Settings) (i slot a : ℕ) (e : Entry) (mine : IsTrue (answers_to cv a)) where
  abbrev IsHarmless : List ℕ → Type 0
  IsHarmless packet = IsPacketOf a e packet ⊎ LeavesAsItIs cv packet

  own_packet : (seen : Seen) → StandsIn slot a e seen.powered → (k : Kind) → place_packet seen.powered.desk slot k ≡ entry_packet k a e
  own_packet seen stands k =
      ap (λ (b : ℕ). entry_packet k b (entry_of (row_of seen.powered.desk slot))) stands.address
      ∙ same_packet k a (entry_of (row_of seen.powered.desk slot)) e (record { kind = stands.kind; spd = stands.spd; dirf = stands.dirf; snd = stands.snd; more = stands.more })

  -- the packet of a refreshed slot
  of_slot : (seen : Seen) → IsDesk seen.powered.desk → StandsIn slot a e seen.powered → IsLive slot seen.powered → (n : ℕ) (k : Kind) → is_refreshed seen.powered.desk n ≡ true → IsHarmless (place_packet seen.powered.desk n k)
  of_slot seen desk stands live n k refreshed = elim (cases_eq n slot) [
    | inl same ↦
        subst (λ (m : ℕ). IsHarmless (place_packet seen.powered.desk m k)) (sym same)
        (inl (subst (λ (packet : List ℕ). IsPacketOf a e packet) (sym (own_packet seen stands k)) (of_kind k a e)))
    | inr differs ↦
        let row : Row = row_of seen.powered.desk n in
        let rows = laws.rows seen.powered.desk desk in
        let held : is_held row.state ≡ true = driven-held row.state refreshed in
        let held_own : is_held (row_of seen.powered.desk slot).state ≡ true = driven-held (row_of seen.powered.desk slot).state live.refreshed in
        let stands_own : (row_of seen.powered.desk slot).address ≡ a = stands.address in
        inr (laws.other cv a row.address (entry_of row) (place_packet seen.powered.desk n k) ((rows.legal n).held held) (entry_in row (rows.legal n) held) mine
        (λ same. differs (rows.one_slot n slot a (held, sym same) (held_own, stands_own)))
        (of_kind k row.address (entry_of row)))
  ]

  running_packet : (seen : Seen) → IsDesk seen.powered.desk → StandsIn slot a e seen.powered → IsLive slot seen.powered → (packet : List ℕ) → IsRunningPacket seen packet → IsHarmless packet
  running_packet seen desk stands live packet of = elim of [
    | inl idle ↦ inr (subst (λ (bytes : List ℕ). LeavesAsItIs cv bytes) (sym idle) (laws.idle cv))
    | inr sent_else ↦ elim sent_else [
      | inl place ↦ subst IsHarmless (sym place.3) (of_slot seen desk stands live place.0 place.1 place.2)
      | inr switch ↦ inr (subst (λ (bytes : List ℕ). LeavesAsItIs cv bytes) (sym switch.4) (laws.accessory cv switch.0 switch.1 switch.2))
    ]
  ]

  -- a turn sends one packet, which is harmless
  turn_packet : (seen : Seen) → IsDesk seen.powered.desk → StandsIn slot a e seen.powered → IsLive slot seen.powered → (packet : List ℕ) × (answer_of seen TurnCall ≡ Packet packet) × IsHarmless packet
  turn_packet seen desk stands live =
      let reported = subst (λ power. IsPacketOfDesk power seen (packet_of_turn seen)) live.running (laws.packets seen) in
      (reported.0, laws.turns seen ∙ ap sent reported.1, running_packet seen desk stands live reported.0 reported.2)

  all_harmless : (seen : Seen) (cycle : List Event) → AtEach HasDesk seen (calls_in cycle) → AtEach (StandsIn slot a e) seen (calls_in cycle) → AtEach (IsLive slot) seen (calls_in cycle) → MissesNone i cycle → AllByRecursion IsHarmless (heard i seen cycle)
  all_harmless seen [] desks stands live misses = tt
  all_harmless seen (Byte line byte ∷ cycle) desks stands live misses =
      all_harmless (after_event seen (Byte line byte)) cycle desks.1 stands.1 live.1 misses
  all_harmless seen (Turn missed ∷ cycle) desks stands live misses =
      let reported = turn_packet seen desks.0 stands.0 live.0 in
      subst (AllByRecursion IsHarmless) (sym (heard_turn i missed seen reported.0 reported.1 misses.0 (sounds_in i (state_of seen TurnCall) cycle)))
      (reported.2, all_harmless (state_of seen TurnCall) cycle desks.1 stands.1 live.1 misses.1)
  all_harmless seen (Noise node half ∷ cycle) desks stands live misses =
      subst (AllByRecursion IsHarmless) (sym (heard_noise (nat_eq node i) half (sounds_in i seen cycle))) (all_harmless seen cycle desks stands live misses)

  has_packet : (k : Kind) (seen : Seen) (cycle : List Event) → AtEach HasDesk seen (calls_in cycle) → AtEach (StandsIn slot a e) seen (calls_in cycle) → AtEach (IsLive slot) seen (calls_in cycle) → MissesNone i cycle → Sends slot k seen (calls_in cycle) → Contains (heard i seen cycle) (entry_packet k a e)
  has_packet k seen [] desks stands live misses sends = absurd sends
  has_packet k seen (Byte line byte ∷ cycle) desks stands live misses sends =
      has_packet k (after_event seen (Byte line byte)) cycle desks.1 stands.1 live.1 misses sends
  has_packet k seen (Turn missed ∷ cycle) desks stands live misses sends = elim sends [
    | inl is ↦
        let asked : answer_of seen TurnCall ≡ Packet (entry_packet k a e) = is ∙ ap Packet (own_packet seen stands.0 k) in
        subst (λ (packets : List (List ℕ)). Contains packets (entry_packet k a e)) (sym (heard_turn i missed seen (entry_packet k a e) asked misses.0 (sounds_in i (state_of seen TurnCall) cycle)))
        (0, omega arith, refl)
    | inr later ↦
        let reported = turn_packet seen desks.0 stands.0 live.0 in
        let at = has_packet k (state_of seen TurnCall) cycle desks.1 stands.1 live.1 misses.1 later in
        subst (λ (packets : List (List ℕ)). Contains packets (entry_packet k a e)) (sym (heard_turn i missed seen reported.0 reported.1 misses.0 (sounds_in i (state_of seen TurnCall) cycle)))
        (suc at.0, omega (arith, at.1), at.2)
  ]
  has_packet k seen (Noise node half ∷ cycle) desks stands live misses sends =
      subst (λ (packets : List (List ℕ)). Contains packets (entry_packet k a e)) (sym (heard_noise (nat_eq node i) half (sounds_in i seen cycle)))
      (has_packet k seen cycle desks stands live misses sends)

  module _ (steps : AgreesInSteps cv e.kind) (legal_entry : IsEntry e) (is_address : IsAddress a) (seen : Seen) (cycle : List Event)
      (desks : AtEach HasDesk seen (calls_in cycle)) (stands : AtEach (StandsIn slot a e) seen (calls_in cycle)) (live : AtEach (IsLive slot) seen (calls_in cycle))
      (sends : (k : Kind) → Sends slot k seen (calls_in cycle)) (misses : MissesNone i cycle) where
    tells : TellsAll cv a e (heard i seen cycle)
    tells = record {
      only = All-from_recursion IsHarmless (heard i seen cycle) (all_harmless seen cycle desks stands live misses);
      has_speed = has_packet kind.Speed seen cycle desks stands live misses (sends kind.Speed);
      has_group_one = has_packet kind.GroupOne seen cycle desks stands live misses (sends kind.GroupOne);
      has_group_two = has_packet kind.GroupTwo seen cycle desks stands live misses (sends kind.GroupTwo);
      has_group_three = has_packet kind.GroupThree seen cycle desks stands live misses (sends kind.GroupThree);
    }

    settled_as : (r : Running) → runs cv r (heard i seen cycle) ≡ wanted e cv.reversed
    settled_as r =
        laws.settling cv a e r (heard i seen cycle) (record { address = is_address; entry = legal_entry; answers = mine; steps = steps }) tells

-- after a full refresh cycle, by what is known, the decoder runs as its entry wants
settled : (laws : Laws) (cv : Settings) (i slot a : ℕ) (e : Entry) → IsTrue (answers_to cv a) → AgreesInSteps cv e.kind → (seen : Seen) (known : ThrottleView) → Follows seen known → HasDesk seen.powered → (cycle : List Event)
    → IsCycleOf slot a e known (calls_in cycle) → MissesNone i cycle → (r : Running) → runs cv r (heard i seen cycle) ≡ wanted e cv.reversed
settled laws cv i slot a e mine steps seen known follows desk cycle full misses r =
    let calls : List Call = calls_in cycle in
    let own : Follows seen (known_of seen) = laws.reported seen in
    let desks : AtEach HasDesk seen calls = at_each HasDesk seen (known_of seen) calls own (laws.desks (known_of seen) calls desk) in
    let live : AtEach (IsLive slot) seen calls = at_each (IsLive slot) seen known calls follows full.full.live in
    let stands : AtEach (StandsIn slot a e) seen calls = at_each (StandsIn slot a e) seen known calls follows full.stands in
    let row : Row = row_of seen.powered.desk slot in
    let here : StandsIn slot a e seen.powered = first_moment (StandsIn slot a e) seen calls stands in
    let held : is_held row.state ≡ true = driven-held row.state (first_moment (IsLive slot) seen calls live).refreshed in
    let legal : IsRow row = (laws.rows seen.powered.desk desk).legal slot in
    let first : Entry = entry_of row in
    let as_first : (p : PoweredDesk) → StandsIn slot a e p → StandsIn slot a first p =
    λ p there. record { address = there.address; kind = there.kind ∙ sym here.kind; spd = there.spd ∙ sym here.spd; dirf = there.dirf ∙ sym here.dirf; snd = there.snd ∙ sym here.snd; more = there.more ∙ sym here.more } in
    settled_as laws cv i slot a first mine
    (subst (AgreesInSteps cv) (sym here.kind) steps)
    (entry_in row legal held)
    (subst (λ (b : ℕ). IsAddress b) here.address (legal.held held))
    seen cycle desks
    (each_moment (StandsIn slot a e) (StandsIn slot a first) as_first seen calls stands)
    live
    (λ k. laws.coverage seen calls slot k full.is_slot (cycle_here slot seen known calls follows own full.full))
    misses r
    ∙ same_wanted cv.reversed first e (record { kind = here.kind; spd = here.spd; dirf = here.dirf; snd = here.snd; more = here.more })

-- ---- what is known, part by part

pub known_after-append : (known : ThrottleView) (calls later : List Call) → known_after_all known (calls ++ later) ≡ known_after_all (known_after_all known calls) later
known_after-append known [] later = refl
known_after-append known (call ∷ calls) later = known_after-append (known_after known call) calls later

moments_behind : (P : PoweredDesk → Type 0) (known : ThrottleView) (calls later : List Call) → AtEveryMoment P known (calls ++ later) → AtEveryMoment P (known_after_all known calls) later
moments_behind P known [] later moments = moments
moments_behind P known (call ∷ calls) later moments = moments_behind P (known_after known call) calls later moments.1

first_known : (P : PoweredDesk → Type 0) (known : ThrottleView) (calls : List Call) → AtEveryMoment P known calls → P known.powered
first_known P known [] now = now
first_known P known (call ∷ calls) moments = moments.0

ever_behind : (known : ThrottleView) (calls later : List Call) (slot : ℕ) → ever_refreshed (known_after_all known calls) later slot ≡ true → ever_refreshed known (calls ++ later) slot ≡ true
ever_behind known [] later slot h = h
ever_behind known (call ∷ calls) later slot h = or_right (is_refreshed known.powered.desk slot) _ (ever_behind (known_after known call) calls later slot h)

fewer : (b c : Bool) (x : ℕ) (xs ys : List ℕ) → (b ≡ true → c ≡ true) → length xs ≤ length ys → length (if b then x ∷ xs else xs) ≤ length (if c then x ∷ ys else ys)
fewer true true x xs ys h less = omega (arith, less)
fewer true false x xs ys h less = absurd (both_ways false refl (h refl))
fewer false true x xs ys h less = omega (arith, less)
fewer false false x xs ys h less = less

fewer_pass : (test other : ℕ → Bool) (xs : List ℕ) → ((n : ℕ) → test n ≡ true → other n ≡ true) → length (filter test xs) ≤ length (filter other xs)
fewer_pass test other [] h = omega arith
fewer_pass test other (x ∷ xs) h = fewer (test x) (other x) x (filter test xs) (filter other xs) (h x) (fewer_pass test other xs h)

turns-append : (calls later : List Call) → turns_in (calls ++ later) ≡ turns_in calls + turns_in later
turns-append [] later = omega arith
turns-append (call ∷ calls) later = let rest : turns_in (calls ++ later) ≡ turns_in calls + turns_in later = turns-append calls later in omega (arith, rest)

-- the events after one turn of a cycle are a cycle, if the cycle has a turn more than it needs
cycle_behind : (slot a : ℕ) (e : Entry) (known : ThrottleView) (calls later : List Call) → turns_in calls ≡ 1 → IsCycleOf slot a e known (calls ++ later) → 4 * kinds * slots_refreshed known (calls ++ later) + 1 ≤ turns_in (calls ++ later) → IsCycleOf slot a e (known_after_all known calls) later
cycle_behind slot a e known calls later one full more =
    let count : slots_refreshed (known_after_all known calls) later ≤ slots_refreshed known (calls ++ later) =
    fewer_pass (ever_refreshed (known_after_all known calls) later) (ever_refreshed known (calls ++ later)) all_slots (ever_behind known calls later) in
    let turns : turns_in (calls ++ later) ≡ turns_in calls + turns_in later = turns-append calls later in
    record {
      is_slot = full.is_slot;
      full = record {
        live = moments_behind (IsLive slot) known calls later full.full.live;
        enough = omega (arith, count, turns, one, more);
      };
      stands = moments_behind (StandsIn slot a e) known calls later full.stands;
    }

-- the first turn of events
record FirstTurn (events : List Event) : Type 0 where
  front : List Event
  missed : ℕ
  rest : List Event
  parts : events ≡ front ++ (Turn missed ∷ rest)
  before : turns_in (calls_in front) ≡ 0

first_turn : (events : List Event) → 1 ≤ turns_in (calls_in events) → FirstTurn events
first_turn [] some = absurd (omega (arith, some))
first_turn (Byte line byte ∷ events) some =
    let later : FirstTurn events = first_turn events (omega (arith, some)) in
    record { front = Byte line byte ∷ later.front; missed = later.missed; rest = later.rest; parts = ap (λ (es : List Event). Byte line byte ∷ es) later.parts; before = omega (arith, later.before) }
first_turn (Turn missed ∷ events) some = record { front = []; missed = missed; rest = events; parts = refl; before = refl }
first_turn (Noise node half ∷ events) some =
    let later : FirstTurn events = first_turn events some in
    record { front = Noise node half ∷ later.front; missed = later.missed; rest = later.rest; parts = ap (λ (es : List Event). Noise node half ∷ es) later.parts; before = later.before }

misses_behind : (i : ℕ) (events later : List Event) → MissesNone i (events ++ later) → MissesNone i later
misses_behind i [] later misses = misses
misses_behind i (Byte line byte ∷ events) later misses = misses_behind i events later misses
misses_behind i (Turn missed ∷ events) later misses = misses_behind i events later misses.1
misses_behind i (Noise node half ∷ events) later misses = misses_behind i events later misses

quiet_behind : (i : ℕ) (events later : List Event) → NoNoise i (events ++ later) → NoNoise i later
quiet_behind i [] later quiet = quiet
quiet_behind i (Byte line byte ∷ events) later quiet = quiet_behind i events later quiet
quiet_behind i (Turn missed ∷ events) later quiet = quiet_behind i events later quiet
quiet_behind i (Noise node half ∷ events) later quiet = quiet_behind i events later quiet.1

-- ---- a locomotive over a cycle

-- a node that is made from a locomotive's settings is a locomotive with these
is_loco : (node : Node) (cv : Settings) → spec_of node ≡ LocoSpec cv → (loco : LocoDecoder) × (node ≡ Loco loco) × (loco.settings ≡ cv)
is_loco (Loco loco) cv e = (loco, refl, same_cv loco.settings cv e)
is_loco (Accessory accessory) cv e = cc

running_from : (packets : List (List ℕ)) (loco : LocoDecoder) (new : Node) → Obeyed packets (Loco loco) new → running_of new ≡ Some (runs loco.settings loco.state packets)
running_from packets loco (Loco new) obeyed = ap Some obeyed
running_from packets loco (Accessory new) obeyed = absurd obeyed

-- with no packet under way, it runs as its entry wants after a cycle, and none is under way
over_cycle : (laws : Laws) (i slot a : ℕ) (e : Entry) (cv : Settings) → IsTrue (answers_to cv a) → AgreesInSteps cv e.kind → (seen : Seen) (known : ThrottleView) → Follows seen known → HasDesk seen.powered → (cycle : List Event)
    → IsCycleOf slot a e known (calls_in cycle) → MissesNone i cycle → NoNoise i cycle → (old new : Node) → spec_of old ≡ LocoSpec cv → IsBetween old → HearsAll (sounds_in i seen cycle) old new
    → (running_of new ≡ Some (wanted e cv.reversed)) × IsBetween new
over_cycle laws i slot a e cv mine steps seen known follows desk cycle full misses quiet old new made between hears =
    let is = is_loco old cv made in
    let loco : LocoDecoder = is.0 in
    let done = whole_obeyed (sounds_in i seen cycle) old new (sounds_are_whole i seen cycle quiet) hears between in
    let obeyed : Obeyed (heard i seen cycle) (Loco loco) new = subst (λ (node : Node). Obeyed (heard i seen cycle) node new) is.1 done.0 in (
      running_from (heard i seen cycle) loco new obeyed
          ∙ ap (λ (c : Settings). Some (runs c loco.state (heard i seen cycle))) is.2
          ∙ ap Some (settled laws cv i slot a e mine steps seen known follows desk cycle full misses loco.state),
      done.1,
    )

-- what a station is after some of the events, and what is known then
follows_events : (laws : Laws) (start : Seen) (events : List Event) → Follows (after_events start events) (known_after_all (known_of start) (calls_in events))
follows_events laws start events =
    subst (λ (seen : Seen). Follows seen (known_after_all (known_of start) (calls_in events))) (sym (after_is start events))
    (follows_behind start (known_of start) (calls_in events) (laws.reported start))

desk_after_events : (laws : Laws) (start : Seen) (events : List Event) → HasDesk start.powered → HasDesk (after_events start events).powered
desk_after_events laws start events is =
    subst (λ (seen : Seen). HasDesk seen.powered) (sym (after_is start events)) (desk_behind laws start (calls_in events) is)

-- what a node heard before the cycle, and of it
heard_apart : (start : Seen) (events before cycle : List Event) (old new : List Node) → HaveHeard start events old new → events ≡ before ++ cycle
    → (i : ℕ) (node none : Node) → i < length old → slice_index_or old i none ≡ node
    → (mid : Node) × HearsAll (sounds_in i start before) node mid × HearsAll (sounds_in i (after_events start before) cycle) mid (slice_index_or new i none)
heard_apart start events before cycle old new has parts i node none below is =
    let here : Node = slice_index_or new i none in
    let so_far : List Sound = sounds_in i start before in
    let later : List Sound = sounds_in i (after_events start before) cycle in
    let all : sounds_in i start events ≡ so_far ++ later = ap (sounds_in i start) parts ∙ sounds-append i start before cycle in
    all_split so_far later node here
    (subst (λ (from : Node). HearsAll (so_far ++ later) from here) is (subst (λ (sounds : List Sound). HearsAll sounds (slice_index_or old i none) here) all (has.each i none below)))

-- the headline
pub runs_as_wanted : Laws → (start : Seen) (events : List Event) (old new : List Node) → HasDesk start.powered → HaveHeard start events old new → RunsAsWanted (known_of start) events old new
runs_as_wanted laws start events old new desk has before cycle i loco none parts below is slot a e between quiet hears full =
    let cut = heard_apart start events before cycle old new has parts i (Loco loco) none below is in
    let so_far = whole_obeyed (sounds_in i start before) (Loco loco) cut.0 (sounds_are_whole i start before quiet) cut.1 between in
    (over_cycle laws i slot a e loco.settings hears.answers hears.steps (after_events start before) (known_after_all (known_of start) (calls_in before)) (follows_events laws start before) (desk_after_events laws start before desk) cycle full hears.misses hears.quiet
    cut.0 (slice_index_or new i none) (all_keep (sounds_in i start before) (Loco loco) cut.0 cut.1) so_far.1 cut.2).0

-- The headline after noise: the packet of the first turn leaves no packet under way, and the rest
-- is a cycle.
module _ (laws : Laws) (i slot a : ℕ) (e : Entry) (cv : Settings) (mine : IsTrue (answers_to cv a)) (steps : AgreesInSteps cv e.kind) where
  settles_at_turn : (seen : Seen) (known : ThrottleView) → Follows seen known → HasDesk seen.powered → (missed : ℕ) → StandsIn slot a e known.powered → IsLive slot known.powered → is_missed missed i ≡ false
      → (old new : Node) → HearsAll (sounds_at i seen (Turn missed)) old new → IsBetween new
  settles_at_turn seen known follows desk missed stands live listens old new hears =
      let now : known.powered ≡ seen.powered = sym (follows []) in
      let reported = turn_packet laws cv i slot a e mine seen desk (subst (StandsIn slot a e) now stands) (subst (IsLive slot) now live) in
      let sounds : sounds_at i seen (Turn missed) ≡ Whole reported.0 ∷ [] =
      ap (λ (step : Step). sounds_of_turn (is_missed missed i) step) reported.1 ∙ ap (λ (b : Bool). sounds_of_turn b (Packet reported.0)) listens in
      let whole : HearsAll (Whole reported.0 ∷ []) old new = subst (λ (ss : List Sound). HearsAll ss old new) sounds hears in
      subst IsBetween (sym whole.2) whole.1.settles

  over_longer_cycle : (seen : Seen) (known : ThrottleView) → Follows seen known → HasDesk seen.powered → (cycle : List Event) → IsCycleOf slot a e known (calls_in cycle) → 4 * kinds * slots_refreshed known (calls_in cycle) + 1 ≤ turns_in (calls_in cycle)
      → MissesNone i cycle → NoNoise i cycle → (old new : Node) → spec_of old ≡ LocoSpec cv → HearsAll (sounds_in i seen cycle) old new → (running_of new ≡ Some (wanted e cv.reversed)) × IsBetween new
  over_longer_cycle seen known follows desk cycle full more misses quiet old new made hears =
      let cut : FirstTurn cycle = first_turn cycle (omega (arith, more)) in
      let turn : List Event = Turn cut.missed ∷ [] in
      let behind : List Event = Turn cut.missed ∷ cut.rest in
      -- before the turn, and after it
      let at_turn : Seen = after_events seen cut.front in
      let known_at : ThrottleView = known_after_all known (calls_in cut.front) in
      let after : Seen = after_event at_turn (Turn cut.missed) in
      let known_behind : ThrottleView = known_after_all known_at (TurnCall ∷ []) in
      let calls : calls_in cycle ≡ calls_in cut.front ++ (TurnCall ∷ calls_in cut.rest) = ap calls_in cut.parts ∙ calls-append cut.front behind in
      let full_parts : IsCycleOf slot a e known (calls_in cut.front ++ (TurnCall ∷ calls_in cut.rest)) = subst (IsCycleOf slot a e known) calls full in
      let more_parts : 4 * kinds * slots_refreshed known (calls_in cut.front ++ (TurnCall ∷ calls_in cut.rest)) + 1 ≤ turns_in (calls_in cut.front ++ (TurnCall ∷ calls_in cut.rest)) =
      subst (λ (cs : List Call). 4 * kinds * slots_refreshed known cs + 1 ≤ turns_in cs) calls more in
      let regroup : calls_in cut.front ++ (TurnCall ∷ calls_in cut.rest) ≡ (calls_in cut.front ++ TurnCall ∷ []) ++ calls_in cut.rest = sym (append_assoc (calls_in cut.front) (TurnCall ∷ []) (calls_in cut.rest)) in
      let one : turns_in (calls_in cut.front ++ TurnCall ∷ []) ≡ 1 = let count : turns_in (calls_in cut.front ++ TurnCall ∷ []) ≡ turns_in (calls_in cut.front) + 1 = turns-append (calls_in cut.front) (TurnCall ∷ []) in omega (arith, count, cut.before) in
      let rest_cycle : IsCycleOf slot a e (known_after_all known (calls_in cut.front ++ TurnCall ∷ [])) (calls_in cut.rest) =
      cycle_behind slot a e known (calls_in cut.front ++ TurnCall ∷ []) (calls_in cut.rest) one (subst (IsCycleOf slot a e known) regroup full_parts)
      (subst (λ (cs : List Call). 4 * kinds * slots_refreshed known cs + 1 ≤ turns_in cs) regroup more_parts) in
      let follows_at : Follows at_turn known_at = subst (λ (s : Seen). Follows s known_at) (sym (after_is seen cut.front)) (follows_behind seen known (calls_in cut.front) follows) in
      let follows_after : Follows after known_behind = λ later. follows_at (TurnCall ∷ later) in
      let desk_at : HasDesk at_turn.powered = desk_after_events laws seen cut.front desk in
      let desk_then : HasDesk after.powered = desk_after_events laws at_turn turn desk_at in
      let live_at : AtEveryMoment (IsLive slot) known_at (TurnCall ∷ calls_in cut.rest) = moments_behind (IsLive slot) known (calls_in cut.front) (TurnCall ∷ calls_in cut.rest) full_parts.full.live in
      let stands_at : AtEveryMoment (StandsIn slot a e) known_at (TurnCall ∷ calls_in cut.rest) = moments_behind (StandsIn slot a e) known (calls_in cut.front) (TurnCall ∷ calls_in cut.rest) full_parts.stands in
      let misses_parts : MissesNone i (cut.front ++ behind) = subst (MissesNone i) cut.parts misses in
      let misses_turn : MissesNone i behind = misses_behind i cut.front behind misses_parts in
      let quiet_turn : NoNoise i behind = quiet_behind i cut.front behind (subst (NoNoise i) cut.parts quiet) in
      let all : sounds_in i seen cycle ≡ sounds_in i seen cut.front ++ (sounds_at i at_turn (Turn cut.missed) ++ sounds_in i after cut.rest) = ap (sounds_in i seen) cut.parts ∙ sounds-append i seen cut.front behind in
      let first = all_split (sounds_in i seen cut.front) (sounds_at i at_turn (Turn cut.missed) ++ sounds_in i after cut.rest) old new (subst (λ (ss : List Sound). HearsAll ss old new) all hears) in
      let second = all_split (sounds_at i at_turn (Turn cut.missed)) (sounds_in i after cut.rest) first.0 new first.2 in
      let between : IsBetween second.0 = settles_at_turn at_turn known_at follows_at desk_at cut.missed stands_at.0 live_at.0 misses_turn.0 first.0 second.0 second.1 in
      let kept : spec_of second.0 ≡ LocoSpec cv = all_keep (sounds_at i at_turn (Turn cut.missed)) first.0 second.0 second.1 ∙ all_keep (sounds_in i seen cut.front) old first.0 first.1 ∙ made in
      over_cycle laws i slot a e cv mine steps after known_behind follows_after desk_then cut.rest
      (subst (λ (k : ThrottleView). IsCycleOf slot a e k (calls_in cut.rest)) (known_after-append known (calls_in cut.front) (TurnCall ∷ [])) rest_cycle)
      misses_turn.1 quiet_turn second.0 new kept between second.2

pub runs_after_noise : Laws → (start : Seen) (events : List Event) (old new : List Node) → HasDesk start.powered → HaveHeard start events old new → RunsAfterNoise (known_of start) events old new
runs_after_noise laws start events old new desk has before cycle i loco none parts below is slot a e hears full more =
    let cut = heard_apart start events before cycle old new has parts i (Loco loco) none below is in
    over_longer_cycle laws i slot a e loco.settings hears.answers hears.steps (after_events start before) (known_after_all (known_of start) (calls_in before)) (follows_events laws start before) (desk_after_events laws start before desk) cycle full more hears.misses hears.quiet
    cut.0 (slice_index_or new i none) (all_keep (sounds_in i start before) (Loco loco) cut.0 cut.1) cut.2

-- ---- the headline holds on

misses_front : (i : ℕ) (events later : List Event) → MissesNone i (events ++ later) → MissesNone i events
misses_front i [] later misses = tt
misses_front i (Byte line byte ∷ events) later misses = misses_front i events later misses
misses_front i (Turn missed ∷ events) later misses = (misses.0, misses_front i events later misses.1)
misses_front i (Noise node half ∷ events) later misses = misses_front i events later misses

quiet_front : (i : ℕ) (events later : List Event) → NoNoise i (events ++ later) → NoNoise i events
quiet_front i [] later quiet = tt
quiet_front i (Byte line byte ∷ events) later quiet = quiet_front i events later quiet
quiet_front i (Turn missed ∷ events) later quiet = quiet_front i events later quiet
quiet_front i (Noise node half ∷ events) later quiet = (quiet.0, quiet_front i events later quiet.1)

runs-append : (cv : Settings) (r : Running) (these those : List (List ℕ)) → runs cv r (these ++ those) ≡ runs cv (runs cv r these) those
runs-append cv r [] those = refl
runs-append cv r (packet ∷ these) those = runs-append cv (obey cv r packet) these those

-- harmless packets leave a decoder that runs as its entry wants
stays_settled : (laws : Laws) (cv : Settings) (a : ℕ) (e : Entry) → IsAskedBy cv a e → (packets : List (List ℕ)) → AllByRecursion (λ packet. IsPacketOf a e packet ⊎ LeavesAsItIs cv packet) packets
    → runs cv (wanted e cv.reversed) packets ≡ wanted e cv.reversed
stays_settled laws cv a e asked packets harmless =
    let own : List (List ℕ) = entry_packet kind.Speed a e ∷ entry_packet kind.GroupOne a e ∷ entry_packet kind.GroupTwo a e ∷ entry_packet kind.GroupThree a e ∷ [] in
    let start : Running = wanted e cv.reversed in
    ap (λ (r : Running). runs cv r packets) (sym (laws.settling cv a e start own asked (tells own [] (behind [] tt) refl)))
    ∙ sym (runs-append cv start own packets)
    ∙ laws.settling cv a e start (own ++ packets) asked (tells (own ++ packets) packets (behind packets harmless) refl)
  where
    -- the four packets of the entry, and then these
    behind : (rest : List (List ℕ)) → AllByRecursion (λ packet. IsPacketOf a e packet ⊎ LeavesAsItIs cv packet) rest
        → AllByRecursion (λ packet. IsPacketOf a e packet ⊎ LeavesAsItIs cv packet) (entry_packet kind.Speed a e ∷ entry_packet kind.GroupOne a e ∷ entry_packet kind.GroupTwo a e ∷ entry_packet kind.GroupThree a e ∷ rest)
    behind rest each = (inl (of_kind kind.Speed a e), (inl (of_kind kind.GroupOne a e), (inl (of_kind kind.GroupTwo a e), (inl (of_kind kind.GroupThree a e), each))))

    tells : (all rest : List (List ℕ)) → AllByRecursion (λ packet. IsPacketOf a e packet ⊎ LeavesAsItIs cv packet) all
        → all ≡ entry_packet kind.Speed a e ∷ entry_packet kind.GroupOne a e ∷ entry_packet kind.GroupTwo a e ∷ entry_packet kind.GroupThree a e ∷ rest → TellsAll cv a e all
    tells all rest each is = record {
      only = All-from_recursion (λ packet. IsPacketOf a e packet ⊎ LeavesAsItIs cv packet) all each;
      has_speed = subst (λ (packets : List (List ℕ)). Contains packets (entry_packet kind.Speed a e)) (sym is) (0, omega arith, refl);
      has_group_one = subst (λ (packets : List (List ℕ)). Contains packets (entry_packet kind.GroupOne a e)) (sym is) (1, omega arith, refl);
      has_group_two = subst (λ (packets : List (List ℕ)). Contains packets (entry_packet kind.GroupTwo a e)) (sym is) (2, omega arith, refl);
      has_group_three = subst (λ (packets : List (List ℕ)). Contains packets (entry_packet kind.GroupThree a e)) (sym is) (3, omega arith, refl);
    }

-- so it stays, while its slot says the same
settled_on : (laws : Laws) (cv : Settings) (i slot a : ℕ) (e : Entry) → IsTrue (answers_to cv a) → AgreesInSteps cv e.kind → (seen : Seen) (known : ThrottleView) → Follows seen known → HasDesk seen.powered → (later : List Event)
    → KeepsAsking slot a e known (calls_in later) → MissesNone i later → runs cv (wanted e cv.reversed) (heard i seen later) ≡ wanted e cv.reversed
settled_on laws cv i slot a e mine steps seen known follows desk later keeps misses =
    let calls : List Call = calls_in later in
    let desks : AtEach HasDesk seen calls = at_each HasDesk seen (known_of seen) calls (laws.reported seen) (laws.desks (known_of seen) calls desk) in
    let live : AtEach (IsLive slot) seen calls = at_each (IsLive slot) seen known calls follows keeps.live in
    let stands : AtEach (StandsIn slot a e) seen calls = at_each (StandsIn slot a e) seen known calls follows keeps.stands in
    let row : Row = row_of seen.powered.desk slot in
    let here : StandsIn slot a e seen.powered = first_moment (StandsIn slot a e) seen calls stands in
    let held : is_held row.state ≡ true = driven-held row.state (first_moment (IsLive slot) seen calls live).refreshed in
    let legal : IsRow row = (laws.rows seen.powered.desk desk).legal slot in
    let first : Entry = entry_of row in
    let as_first : (p : PoweredDesk) → StandsIn slot a e p → StandsIn slot a first p =
    λ p there. record { address = there.address; kind = there.kind ∙ sym here.kind; spd = there.spd ∙ sym here.spd; dirf = there.dirf ∙ sym here.dirf; snd = there.snd ∙ sym here.snd; more = there.more ∙ sym here.more } in
    let same : wanted first cv.reversed ≡ wanted e cv.reversed = same_wanted cv.reversed first e (record { kind = here.kind; spd = here.spd; dirf = here.dirf; snd = here.snd; more = here.more }) in
    let asked : IsAskedBy cv a first = record { address = subst (λ (b : ℕ). IsAddress b) here.address (legal.held held); entry = entry_in row legal held; answers = mine; steps = subst (AgreesInSteps cv) (sym here.kind) steps } in
    ap (λ (r : Running). runs cv r (heard i seen later)) (sym same)
    ∙ stays_settled laws cv a first asked (heard i seen later)
    (all_harmless laws cv i slot a first mine seen later desks (each_moment (StandsIn slot a e) (StandsIn slot a first) as_first seen calls stands) live misses)
    ∙ same

some_running : (r s : Running) → Some r ≡ Some s → r ≡ s
some_running r s h = cc

over_later : (laws : Laws) (i slot a : ℕ) (e : Entry) (cv : Settings) → IsTrue (answers_to cv a) → AgreesInSteps cv e.kind → (seen : Seen) (known : ThrottleView) → Follows seen known → HasDesk seen.powered → (later : List Event)
    → KeepsAsking slot a e known (calls_in later) → MissesNone i later → NoNoise i later → (old new : Node) → spec_of old ≡ LocoSpec cv → running_of old ≡ Some (wanted e cv.reversed) → IsBetween old → HearsAll (sounds_in i seen later) old new
    → running_of new ≡ Some (wanted e cv.reversed)
over_later laws i slot a e cv mine steps seen known follows desk later keeps misses quiet old new made runs_so between hears =
    let is = is_loco old cv made in
    let loco : LocoDecoder = is.0 in
    let done = whole_obeyed (sounds_in i seen later) old new (sounds_are_whole i seen later quiet) hears between in
    let obeyed : Obeyed (heard i seen later) (Loco loco) new = subst (λ (node : Node). Obeyed (heard i seen later) node new) is.1 done.0 in
    let state : loco.state ≡ wanted e cv.reversed = some_running loco.state (wanted e cv.reversed) (sym (ap running_of is.1) ∙ runs_so) in
    running_from (heard i seen later) loco new obeyed
    ∙ ap (λ (c : Settings). Some (runs c loco.state (heard i seen later))) is.2
    ∙ ap (λ (r : Running). Some (runs cv r (heard i seen later))) state
    ∙ ap Some (settled_on laws cv i slot a e mine steps seen known follows desk later keeps misses)

pub runs_on_as_wanted : Laws → (start : Seen) (events : List Event) (old new : List Node) → HasDesk start.powered → HaveHeard start events old new → RunsOnAsWanted (known_of start) events old new
runs_on_as_wanted laws start events old new desk has before heard i loco none parts below is cycle later slot a e split between quiet hears full keeps =
    let at : Seen = after_events start before in
    let known : ThrottleView = known_after_all (known_of start) (calls_in before) in
    let there : Seen = after_events at cycle in
    let known_there : ThrottleView = known_after_all known (calls_in cycle) in
    let follows : Follows at known = follows_events laws start before in
    let follows_there : Follows there known_there = subst (λ (s : Seen). Follows s known_there) (sym (after_is at cycle)) (follows_behind at known (calls_in cycle) follows) in
    let desk_at : HasDesk at.powered = desk_after_events laws start before desk in
    let desk_there : HasDesk there.powered = desk_after_events laws at cycle desk_at in
    let cut = heard_apart start events before heard old new has parts i (Loco loco) none below is in
    let so_far = whole_obeyed (sounds_in i start before) (Loco loco) cut.0 (sounds_are_whole i start before quiet) cut.1 between in
    let sounds : sounds_in i at heard ≡ sounds_in i at cycle ++ sounds_in i there later = ap (sounds_in i at) split ∙ sounds-append i at cycle later in
    let parted = all_split (sounds_in i at cycle) (sounds_in i there later) cut.0 (slice_index_or new i none) (subst (λ (ss : List Sound). HearsAll ss cut.0 (slice_index_or new i none)) sounds cut.2) in
    let misses : MissesNone i (cycle ++ later) = subst (MissesNone i) split hears.misses in
    let still : NoNoise i (cycle ++ later) = subst (NoNoise i) split hears.quiet in
    let calls : calls_in heard ≡ calls_in cycle ++ calls_in later = ap calls_in split ∙ calls-append cycle later in
    let made = all_keep (sounds_in i start before) (Loco loco) cut.0 cut.1 in
    let settles = over_cycle laws i slot a e loco.settings hears.answers hears.steps at known follows desk_at cycle full (misses_front i cycle later misses) (quiet_front i cycle later still) cut.0 parted.0 made so_far.1 parted.1 in
    over_later laws i slot a e loco.settings hears.answers hears.steps there known_there follows_there desk_there later
    (record {
      live = moments_behind (IsLive slot) known (calls_in cycle) (calls_in later) (subst (AtEveryMoment (IsLive slot) known) calls keeps.live);
      stands = moments_behind (StandsIn slot a e) known (calls_in cycle) (calls_in later) (subst (AtEveryMoment (StandsIn slot a e) known) calls keeps.stands);
    })
    (misses_behind i cycle later misses) (quiet_behind i cycle later still) parted.0 (slice_index_or new i none)
    (all_keep (sounds_in i at cycle) cut.0 parted.0 parted.1 ∙ made) settles.0 settles.1 parted.2
