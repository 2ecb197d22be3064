-- The premises of the headlines can be met.
use Rattle.std.proofs.Common.{◌≡◌, ℕ, ◌*◌, ◌+◌, ◌≤◌, ◌||◌, ◌&&◌, ◌==◌, not, zero, suc, Bool, true, false, if◌then◌else◌, List, [], ◌∷◌, ◌++◌, length, map, replicate, Option, Some, None, is_some, is_none, refl, ap, ap₂, sym, subst, ◌∙◌, arith}
use Rattle.std.proofs.lemmas.Bool.Decides.{nat_tests}
use Rattle.std.proofs.lemmas.List.Elements.{filter_agree}
use Rattle.std.specs.FinMap.{FinMap, get, insert, remove, empty, get-insert, get-remove, get-empty}
use Rattle.std.specs.Cmp.{nat_cmp_total}
use Rattle.std.specs.Ordering.{eq_by_cmp, nat_cmp}
use Rattle.std.specs.Prelude.{find}
use Rattle.std.specs.List.{slice_index_or}
use Rattle.dcc_packet.specs.Kinds.{kinds}
use Rattle.dcc_packet.specs.declared.steps.Steps.TheVariants.{S128}
use Rattle.dcc_packet.specs.declared.steps.Motion.TheVariants.{Step}
use Rattle.ln_ops.specs.declared.row.Row.{Row}
use Rattle.ln_ops.specs.Slot.{is_slot, is_stat}
use Rattle.refresh_ring.specs.declared.pick.Power.TheVariants.{Running}
use Rattle.slot_table.specs.Changes.{entered, unmarked, without}
use Rattle.slot_table.specs.declared.field.Field.TheVariants.{Stat}
use Rattle.slot_table.specs.Desk.{Desk}
use Rattle.slot_table.specs.Entry.{Entry, row_with, state_of_number}
use Rattle.slot_table.specs.Moves.{after_shift, may_move, move_place}
use Rattle.slot_table.specs.Reading.{all_slots, entry_at, is_same, row_at, row_of}
use Rattle.slot_table.specs.Writes.{after_field, after_take, new_entry, take_at}
use Rattle.station_core.specs.declared.call.Call.{Call}
use Rattle.station_core.specs.ThrottleView.{ThrottleView, known_after}
use Rattle.station_core.specs.Moments.{AtEveryMoment, IsLive, ever_refreshed, slots_refreshed, turns_in}
use Rattle.station_core.specs.Powered.{PoweredDesk}
use Rattle.station_core.specs.Refreshed.{is_driven, is_refreshed}
use Rattle.decoder_cv.specs.Settings.{settings}
use Rattle.decoder_node.specs.Decoder.{LocoDecoder, fresh}
use Rattle.decoder_node.specs.Hearing.{heard_all}
use Rattle.decoder_node.specs.Obey.{obeyed}
use Rattle.decoder_node.specs.Running.{first_running}
use Rattle.layout_core.specs.declared.event.Event.{Event}
use Rattle.layout_core.specs.declared.event.Event.TheVariants.{Turn, Noise}
use Rattle.layout_core.specs.declared.node.Node.{Node}
use Rattle.layout_core.specs.declared.node.Node.TheVariants.{Loco}
use Rattle.layout_core.specs.Cycle.{HearsCycle, IsCycleOf, MissesNone, RunsAfterNoise, RunsAsWanted, StandsIn}
use Rattle.layout_core.specs.Events.{calls_in, NoNoise}
use Rattle.layout_core.specs.Nodes.{running_of, IsBetween}
use Rattle.layout_core.specs.Served.{served_events}

-- SPD 40 in 128 steps, in use
abbrev asked : Entry
asked = record { state = state_of_number 3; kind = 3; spd = 0x40; dirf = 0; snd = 0; more = 0; ss2 = 0; id1 = 0; id2 = 0 }

-- it is asked of address 3, which is in slot 1
abbrev first : Desk
first = record { place = insert empty 1 3; asked = insert empty 3 asked; mark = None }

abbrev running : Desk → PoweredDesk
running desk = record { power = Running; desk = desk }

abbrev start : ThrottleView
start = record { lines = [] ∷ []; powered = running first }

-- a decoder of address 3 in 28 or 128 steps that else is as this one, and a new one
abbrev at_3 : LocoDecoder → LocoDecoder
at_3 loco = record loco { settings = settings 3 0 0 2 }

abbrev new_at_3 : LocoDecoder
new_at_3 = fresh (settings 3 0 0 2) first_running

-- ---- moments at which slot 1 alone is refreshed

record IsAsked (powered : PoweredDesk) : Type 0 where
  runs : powered.power ≡ Running
  row : row_of powered.desk 1 ≡ row_with 3 asked
  alone : (n : ℕ) → is_refreshed powered.desk n ≡ (n == 1)

at_all : (P : PoweredDesk → Type 0) → ((powered : PoweredDesk) → IsAsked powered → P powered) → (known : ThrottleView) (calls : List Call) → AtEveryMoment IsAsked known calls → AtEveryMoment P known calls
at_all P gives known [] now = gives known.powered now
at_all P gives known (call ∷ calls) now = (gives known.powered now.0, at_all P gives (known_after known call) calls now.1)

or_same : (a b : Bool) → b ≡ a → (a || b) ≡ a
or_same true b same = refl
or_same false b same = same

ever_alone : (known : ThrottleView) (calls : List Call) → AtEveryMoment IsAsked known calls → (n : ℕ) → ever_refreshed known calls n ≡ (n == 1)
ever_alone known [] now n = now.alone n
ever_alone known (call ∷ calls) now n =
    or_same _ _ (ever_alone (known_after known call) calls now.1 n ∙ sym (now.0.alone n)) ∙ now.0.alone n

one_slot : (known : ThrottleView) (calls : List Call) → AtEveryMoment IsAsked known calls → slots_refreshed known calls ≡ 1
unfolding all_slots
one_slot known calls now = ap (λ (slots : List ℕ). length slots) (filter_agree _ (λ n. n == 1) (ever_alone known calls now) all_slots)

is_cycle : (known : ThrottleView) (calls : List Call) → AtEveryMoment IsAsked known calls → 16 ≤ turns_in calls → IsCycleOf 1 3 asked known calls
is_cycle known calls now enough = record {
  is_slot = (omega arith, omega arith);
  full = record {
    live = at_all (IsLive 1) (λ powered is. record { running = is.runs; refreshed = is.alone 1 }) known calls now;
    enough = subst (λ (slots : ℕ). 4 * kinds * slots ≤ turns_in calls) (sym (one_slot known calls now)) enough;
  };
  stands = at_all (StandsIn 1 3 asked) (λ powered is. record {
    address = ap (λ (row : Row). row.address) is.row;
    kind = ap (λ (row : Row). row.kind) is.row;
    spd = ap (λ (row : Row). row.spd) is.row;
    dirf = ap (λ (row : Row). row.dirf) is.row;
    snd = ap (λ (row : Row). row.snd) is.row;
    more = ap (λ (row : Row). row.more) is.row;
  }) known calls now;
}

hears : (loco : LocoDecoder) (cycle : List Event) → MissesNone 0 cycle → NoNoise 0 cycle → HearsCycle 0 3 asked (at_3 loco) cycle
hears loco cycle misses quiet = record { answers = refl; steps = refl; misses = misses; quiet = quiet }

-- ---- what a desk has in its slots

abbrev entry_in : (ℕ → Option Entry) → Option ℕ → Option Entry
entry_in entry None = None
entry_in entry (Some a) = entry a

abbrev is_driven_at : (ℕ → Option Entry) → Option ℕ → Bool
is_driven_at entry o = is_driven (row_at o (entry_in entry o)).state

abbrev row_in : (ℕ → Option ℕ) → (ℕ → Option Entry) → ℕ → Row
row_in place entry n = row_at (place n) (entry_in entry (place n))

record Shows (desk : Desk) (place : ℕ → Option ℕ) (entry : ℕ → Option Entry) : Type 0 where
  places : (n : ℕ) → get desk.place n ≡ place n
  entries : (a : ℕ) → get desk.asked a ≡ entry a

shown : {desk : Desk} {place : ℕ → Option ℕ} {entry : ℕ → Option Entry} → Shows desk place entry → (n : ℕ) → row_of desk n ≡ row_in place entry n
shown {desk} {place} {entry} shows n = ap (λ (o : Option ℕ). row_at o (entry_at o desk.asked)) (shows.places n) ∙ by_place (place n)
  where
    by_place : (o : Option ℕ) → row_at o (entry_at o desk.asked) ≡ row_at o (entry_in entry o)
    by_place None = refl
    by_place (Some a) = ap (row_at (Some a)) (shows.entries a)

is_asked : {desk : Desk} {place : ℕ → Option ℕ} {entry : ℕ → Option Entry} → Shows desk place entry → row_in place entry 1 ≡ row_with 3 asked
    → ((n : ℕ) → is_driven_at entry (place n) ≡ (n == 1)) → IsAsked (running desk)
is_asked shows row alone = record {
  runs = refl;
  row = shown shows 1 ∙ row;
  alone = λ n. ap (λ (r : Row). is_driven r.state) (shown shows n) ∙ alone n;
}

abbrev put : {X : Type 0} → ℕ → X → (ℕ → Option X) → ℕ → Option X
put k v look q = if q == k then Some v else look q

abbrev taken : {X : Type 0} → ℕ → (ℕ → Option X) → ℕ → Option X
taken k look q = if q == k then None else look q

eq_test : (q k : ℕ) → eq_by_cmp nat_cmp q k ≡ (q == k)
eq_test q k = grind (arith, nat_tests)

get_put : {X : Type 0} (m : FinMap nat_cmp X) (look : ℕ → Option X) (k : ℕ) (v : X) → ((q : ℕ) → get m q ≡ look q) → (q : ℕ) → get (insert m k v) q ≡ put k v look q
get_put {X} m look k v same q = get-insert nat_cmp_total m k v q ∙ ap₂ (λ (b : Bool) (o : Option X). if b then Some v else o) (eq_test q k) (same q)

get_taken : {X : Type 0} (m : FinMap nat_cmp X) (look : ℕ → Option X) (k : ℕ) → ((q : ℕ) → get m q ≡ look q) → (q : ℕ) → get (remove m k) q ≡ taken k look q
get_taken {X} m look k same q = get-remove nat_cmp_total m k q ∙ ap₂ (λ (b : Bool) (o : Option X). if b then None else o) (eq_test q k) (same q)

abbrev nothing : {X : Type 0} → ℕ → Option X
nothing q = None

first_shows : Shows first (put 1 3 nothing) (put 3 asked nothing)
first_shows = record {
  places = get_put empty nothing 1 3 (get-empty nat_cmp);
  entries = get_put empty nothing 3 asked (get-empty nat_cmp);
}

first_asked : IsAsked (running first)
first_asked = is_asked first_shows refl (λ n. by_test (n == 1))
  where
    by_test : (here : Bool) → is_driven_at (put 3 asked nothing) (if here then Some 3 else None) ≡ here
    by_test true = refl
    by_test false = refl

-- ---- turns alone

turns : ℕ → List Event
turns n = replicate n (Turn 0)

at_turns : (n : ℕ) → AtEveryMoment IsAsked start (calls_in (turns n))
unfolding turns known_after
at_turns zero = first_asked
at_turns (suc n) = (first_asked, at_turns n)

none_missed : (n : ℕ) → MissesNone 0 (turns n)
unfolding turns
none_missed zero = tt
none_missed (suc n) = (refl, none_missed n)

no_noise : (n : ℕ) → NoNoise 0 (turns n)
unfolding turns
no_noise zero = tt
no_noise (suc n) = no_noise n

-- After sixteen turns the locomotive runs at step 63 of 128.
after_sixteen_turns : (new : List Node) → RunsAsWanted start (turns 16) (Loco new_at_3 ∷ []) new
    → running_of (slice_index_or new 0 (Loco new_at_3)) ≡ Some (record { motion = Step S128 63; forward = true; functions = 0 })
unfolding turns
after_sixteen_turns new law =
    law [] (turns 16) 0 new_at_3 (Loco new_at_3) refl (omega arith) refl 1 3 asked refl tt (hears new_at_3 (turns 16) (none_missed 16) (no_noise 16))
    (is_cycle start (calls_in (turns 16)) (at_turns 16) (omega arith))

-- ---- another slot, and a switch

find_agree : (p q : ℕ → Bool) → ((n : ℕ) → p n ≡ q n) → (ns : List ℕ) → find p ns ≡ find q ns
find_agree p q same [] = refl
find_agree p q same (n ∷ ns) = ap₂ (λ (b : Bool) (rest : Option ℕ). if b then Some n else rest) (same n) (find_agree p q same ns)

apart : (n k : ℕ) → 2 ≤ k → (n == k) ≡ true → (n == 1) ≡ false
apart n k above here = grind (arith, nat_tests)

-- address 4 is accepted, and gets slot 2
abbrev second : Desk
second = entered first 2 4 new_entry

second_shows : Shows second (put 2 4 (put 1 3 nothing)) (put 4 new_entry (put 3 asked nothing))
second_shows = record {
  places = get_put first.place (put 1 3 nothing) 2 4 first_shows.places;
  entries = get_put first.asked (put 3 asked nothing) 4 new_entry first_shows.entries;
}

second_asked : IsAsked (running second)
second_asked = is_asked second_shows refl (λ n. by_tests (n == 2) (n == 1) (apart n 2 (omega arith)))
  where
    by_tests : (at_2 here : Bool) → (at_2 ≡ true → here ≡ false)
        → is_driven_at (put 4 new_entry (put 3 asked nothing)) (if at_2 then Some 4 else (if here then Some 3 else None)) ≡ here
    by_tests true here not_2 = sym (not_2 refl)
    by_tests false true not_2 = refl
    by_tests false false not_2 = refl

takes : after_take first 4 ≡ second
unfolding all_slots
takes =
    ap₂ (take_at first 4)
    (find_agree _ (λ n. is_same (put 1 3 nothing n) 4) (λ n. ap (λ (o : Option ℕ). is_same o 4) (first_shows.places n)) all_slots)
    (find_agree _ (λ n. is_none (put 1 3 nothing n)) (λ n. ap (λ (o : Option ℕ). is_none o) (first_shows.places n)) all_slots)

-- it moves to slot 5
abbrev third : Desk
third = record second { place = insert (remove second.place 2) 5 4 }

third_shows : Shows third (put 5 4 (taken 2 (put 2 4 (put 1 3 nothing)))) (put 4 new_entry (put 3 asked nothing))
third_shows = record {
  places = get_put (remove second.place 2) (taken 2 (put 2 4 (put 1 3 nothing))) 5 4 (get_taken second.place (put 2 4 (put 1 3 nothing)) 2 second_shows.places);
  entries = second_shows.entries;
}

third_asked : IsAsked (running third)
third_asked = is_asked third_shows refl (λ n. by_tests (n == 5) (n == 2) (n == 1) (apart n 5 (omega arith)) (apart n 2 (omega arith)))
  where
    by_tests : (at_5 at_2 here : Bool) → (at_5 ≡ true → here ≡ false) → (at_2 ≡ true → here ≡ false)
        → is_driven_at (put 4 new_entry (put 3 asked nothing)) (if at_5 then Some 4 else (if at_2 then None else (if at_2 then Some 4 else (if here then Some 3 else None)))) ≡ here
    by_tests true at_2 here not_5 not_2 = sym (not_5 refl)
    by_tests false true here not_5 not_2 = sym (not_2 refl)
    by_tests false false true not_5 not_2 = refl
    by_tests false false false not_5 not_2 = refl

moves : after_shift second 2 5 ≡ third
moves =
    ap₂ (λ (can : Bool) (o : Option ℕ). if can then move_place second 2 5 o else second)
    (ap₂ (λ (row : Row) (o : Option ℕ). may_move row.state && is_slot 5 && not (is_some o)) (shown second_shows 2) (second_shows.places 5))
    (second_shows.places 2)

-- and is freed
abbrev fourth : Desk
fourth = record { place = remove third.place 5; asked = remove third.asked 4; mark = None }

fourth_shows : Shows fourth (taken 5 (put 5 4 (taken 2 (put 2 4 (put 1 3 nothing))))) (taken 4 (put 4 new_entry (put 3 asked nothing)))
fourth_shows = record {
  places = get_taken third.place (put 5 4 (taken 2 (put 2 4 (put 1 3 nothing)))) 5 third_shows.places;
  entries = get_taken third.asked (put 4 new_entry (put 3 asked nothing)) 4 third_shows.entries;
}

fourth_asked : IsAsked (running fourth)
fourth_asked = is_asked fourth_shows refl (λ n. by_tests (n == 5) (n == 2) (n == 1) (apart n 5 (omega arith)) (apart n 2 (omega arith)))
  where
    by_tests : (at_5 at_2 here : Bool) → (at_5 ≡ true → here ≡ false) → (at_2 ≡ true → here ≡ false)
        → is_driven_at (taken 4 (put 4 new_entry (put 3 asked nothing))) (if at_5 then None else (if at_5 then Some 4 else (if at_2 then None else (if at_2 then Some 4 else (if here then Some 3 else None))))) ≡ here
    by_tests true at_2 here not_5 not_2 = sym (not_5 refl)
    by_tests false true here not_5 not_2 = sym (not_2 refl)
    by_tests false false true not_5 not_2 = refl
    by_tests false false false not_5 not_2 = refl

frees : after_field third 5 (Stat 0) ≡ fourth
frees =
    ap₂ (λ (can : Bool) (o : Option ℕ). if can then record { place = remove third.place 5; asked = without third.asked o; mark = unmarked None 5 } else third)
    (ap (λ (o : Option ℕ). is_stat 0 && is_some o) (third_shows.places 5)) (third_shows.places 5)

-- address 4 is accepted, its slot 2 is moved to 5 and freed, and a switch is requested to close
abbrev others : List ℕ
others = 0xBF ∷ 0 ∷ 4 ∷ 0x44 ∷ 0xBA ∷ 2 ∷ 5 ∷ 0x42 ∷ 0xB5 ∷ 5 ∷ 0 ∷ 0x4F ∷ 0xB0 ∷ 0 ∷ 0x30 ∷ 0x7F ∷ []

-- with a turn after each byte
abbrev busy : List Event
busy = served_events 0 1 others

at_busy : AtEveryMoment IsAsked start (calls_in busy)
unfolding known_after
at_busy =
    let one = first_asked in
    let two = subst (λ (desk : Desk). IsAsked (running desk)) (sym takes) second_asked in
    let three = subst (λ (desk : Desk). IsAsked (running desk)) (sym (ap (λ (desk : Desk). after_shift desk 2 5) takes ∙ moves)) third_asked in
    let four = subst (λ (desk : Desk). IsAsked (running desk)) (sym (ap (λ (desk : Desk). after_field (after_shift desk 2 5) 5 (Stat 0)) takes ∙ ap (λ (desk : Desk). after_field desk 5 (Stat 0)) moves ∙ frees)) fourth_asked in
    (one, (one, (one, (one, (one, (one, (one, (two, (two, (two, (two, (two, (two, (two, (two, (three, (three, (three, (three, (three, (three, (three, (three, (four, (four, (four, (four, (four, (four, (four, (four, (four, four))))))))))))))))))))))))))))))))

none_missed_of : (bytes : List ℕ) → MissesNone 0 (served_events 0 1 bytes)
none_missed_of [] = tt
none_missed_of (byte ∷ bytes) = (refl, none_missed_of bytes)

no_noise_of : (bytes : List ℕ) → NoNoise 0 (served_events 0 1 bytes)
no_noise_of [] = tt
no_noise_of (byte ∷ bytes) = no_noise_of bytes

-- After these bytes and sixteen turns it runs at step 63 of 128.
after_a_busy_cycle : (new : List Node) → RunsAsWanted start busy (Loco new_at_3 ∷ []) new
    → running_of (slice_index_or new 0 (Loco new_at_3)) ≡ Some (record { motion = Step S128 63; forward = true; functions = 0 })
after_a_busy_cycle new law =
    law [] busy 0 new_at_3 (Loco new_at_3) refl (omega arith) refl 1 3 asked refl tt (hears new_at_3 busy (none_missed_of others) (no_noise_of others))
    (is_cycle start (calls_in busy) at_busy (omega arith))

-- ---- noise, and turns

-- ten ones and a zero, which leave a new decoder in the middle of a packet
abbrev dirt : List ℕ
dirt = replicate 20 58 ++ 100 ∷ 100 ∷ []

in_mid_packet : ¬ (IsBetween (Loco (heard_all obeyed new_at_3 dirt)))
in_mid_packet between = cc

-- However the locomotive ran, and whatever state noise left its receiver in: after seventeen turns
-- it runs at step 63 of 128, and no packet is under way.
after_noise_and_turns : (loco : LocoDecoder) (new : List Node) → RunsAfterNoise start (map (Noise 0) dirt ++ turns 17) (Loco (at_3 loco) ∷ []) new
    → (running_of (slice_index_or new 0 (Loco loco)) ≡ Some (record { motion = Step S128 63; forward = true; functions = 0 }))
    × IsBetween (slice_index_or new 0 (Loco loco))
unfolding turns
after_noise_and_turns loco new law =
    law (map (Noise 0) dirt) (turns 17) 0 (at_3 loco) (Loco loco) refl (omega arith) refl 1 3 asked (hears loco (turns 17) (none_missed 17) (no_noise 17))
    (is_cycle start (calls_in (turns 17)) (at_turns 17) (omega arith))
    (subst (λ (slots : ℕ). 4 * kinds * slots + 1 ≤ 17) (sym (one_slot start (calls_in (turns 17)) (at_turns 17))) (omega arith))
