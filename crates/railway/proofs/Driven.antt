-- A train whose decoder does the same runs so in one go.
use Rattle.std.proofs.Common.{◌≡◌, ◌≢◌, ℕ, zero, suc, ◌+◌, ◌*◌, ◌<◌, ◌≤◌, Bool, true, false, not, inl, inr, List, [], ◌∷◌, Option, Some, None, length, map, refl, ap, sym, subst, ◌∙◌, arith, length-set}
use Rattle.std.proofs.lemmas.Bool.{and_parts, cases_Bool}
use Rattle.std.proofs.lemmas.List.{get_or-map, get_or-set_other, get_or_default, length-map}
use Rattle.std.specs.List.{list_all, list_any, slice_index_or}
use Rattle.std.specs.Prelude.{if◌then◌else◌, IsTrue, slice_set}
use Rattle.dcc_packet.specs.declared.address.Address.TheVariants.{Short}
use Rattle.dcc_packet.specs.declared.steps.Motion.{Motion}
use Rattle.dcc_packet.specs.declared.steps.Motion.TheVariants.{Stop, Emergency, Step}
use Rattle.decoder_node.specs.Decoder.{fresh}
use Rattle.decoder_node.specs.declared.running.Running.{Running}
use Rattle.layout_core.specs.declared.node.Node.{Node}
use Rattle.layout_core.specs.declared.node.Node.TheVariants.{Loco}
use Rattle.motion.specs.Velocity.{is_momentum, ramp, velocity, velocity_after}
use Rattle.motion.specs.declared.velocity.Drive.{Drive}
use Rattle.motion.specs.declared.velocity.Momentum.{Momentum}
use Rattle.motion.specs.declared.velocity.Velocity.{Velocity}
use Rattle.refresh_ring.specs.declared.pick.Power.{Power}
use Rattle.refresh_ring.specs.declared.pick.Power.TheVariants.{Off, Running as PowerOn, Paused}
use Rattle.railway.specs.declared.fault.PlaceFault.{PlaceFault}
use Rattle.railway.specs.declared.joint.TurnoutState.{TurnoutState}
use Rattle.railway.specs.declared.train.Place.{Place}
use Rattle.railway.specs.declared.train.Position.{Position}
use Rattle.railway.specs.declared.train.TrainState.{TrainState}
use Rattle.railway.specs.Course.{Happening, after, after_all, sensor_failed, unless_refused}
use Rattle.railway.specs.Course.Happening.{Elapses, FailuresEnd, Places, SensorFails, TurnoutFails}
use Rattle.railway.specs.Driven.{AllLeaveAlone, AreDrivenBy, HasRun, IsDrivenBy, LeadsTo, LeavesAlone, WayStays, trailing_end, next_velocity_of, stays, time_in, time_of, way_asked}
use Rattle.railway.specs.Failures.{block_with, failing_by, with_failing}
use Rattle.railway.specs.Laws.{asked_of, runs_only, speed_times_time, way_of}
use Rattle.railway.specs.Network.{Network, first_at, is_sound, marked, way_on}
use Rattle.railway.specs.Places.{is_derailed, leading_end, span}
use Rattle.railway.specs.Railway.{RailwayState, advanced_under, elapsed, is_railway, is_train, laid_in, place_fault, placed_in, ran_in, replaced, run_in, run_through, run_under}
use Rattle.railway.specs.Running.{ridden, run_for}
use Rattle.railway.specs.Trains.{default_state, drive_of, is_forward, momentum_at, running_in, speed_at, speed_of}
use Rattle.railway.specs.Turnouts.{advanced, checked, is_moved, laid, moved_on, observed, thrown_under}
use Rattle.railway.proofs.Elsewhere.{KeepsLying, advanced-changed, for-derailed, moved_on-keeps, moves, observed-keeps, off-way, one-elsewhere, stays-parts}
use Rattle.railway.proofs.Facts.{not-both}
use Rattle.railway.proofs.Faulty.{failing-changes, no_turnout}
use Rattle.railway.proofs.Keeping.{whole-of}
use Rattle.railway.proofs.Pieces.{for-same-track, same-track}
use Rattle.railway.proofs.Placing.{all-at}
use Rattle.railway.proofs.Riding.{Same, movable-of}
use Rattle.railway.proofs.Running.{in-derails, in-reaches, in-same, in-stops, in-velocity, under-train}
use Rattle.railway.proofs.Runs.{parts-of}
use Rattle.railway.proofs.Throwing.{changed, checked-derailed, checked-stays, end_of_any, train-changed}
use Rattle.railway.proofs.Times.{in-in}

-- Decoders of which one runs like this.

some_loco : Running → Node
some_loco running = Loco (fresh (record { address = Short 3; reversed = false; fourteen = false }) running)

nodes_with : (decoder : ℕ) → Running → List Node
nodes_with zero running = some_loco running ∷ []
nodes_with (suc decoder) running = some_loco running ∷ nodes_with decoder running

runs-there : (decoder : ℕ) (running : Running) → running_in (nodes_with decoder running) decoder ≡ Some running
unfolding some_loco nodes_with
runs-there zero running = refl
runs-there (suc decoder) running = runs-there decoder running

as-in : (n : Network) (micros : ℕ) (running : Running) (t : TrainState) → run_for n micros (Some running) t ≡ run_in n micros (nodes_with t.decoder running) t
as-in n micros running t = ap (λ (r : Option Running). run_for n micros r t) (sym (runs-there t.decoder running))

-- Times of it add up.

pub for-for : (n : Network) (running : Running) (these those : ℕ) (t : TrainState) → run_for n those (Some running) (run_for n these (Some running) t) ≡ run_for n (these + those) (Some running) t
for-for n running these those t =
    let nodes : List Node = nodes_with t.decoder running in
    let mid : TrainState = run_in n these nodes t in
    let same : running_in nodes mid.decoder ≡ Some running = ap (λ (d : ℕ). running_in nodes d) (in-same n these nodes t).decoder ∙ runs-there t.decoder running in
    ap (λ (u : TrainState). run_for n those (Some running) u) (as-in n these running t)
    ∙ ap (λ (r : Option Running). run_for n those r mid) (sym same)
    ∙ in-in n nodes these those t ∙ sym (as-in n (these + those) running t)

pub for-zero : (n : Network) (running : Option Running) (t : TrainState) → is_train n t ≡ true → run_for n 0 running t ≡ t
unfolding ridden
for-zero n running t h = elim (cases_Bool (is_derailed t)) [
  | inl derailed ↦ ap (λ (b : Bool). if b then t else marked n t) derailed
  | inr rails ↦
      ap (λ (b : Bool). if b then t else marked n t) rails
      ∙ ap (λ (m : List Bool). record t { under = m }) (sym (whole-of n t (parts-of n t h).whole rails).knows)
]

-- Networks on which trains run alike.

abbrev RunsAlike : Network → Network → Type 0
RunsAlike n m = (micros : ℕ) (running : Option Running) (t : TrainState) → run_for m micros running t ≡ run_for n micros running t

no-turnouts : (states : List TurnoutState) → list_any no_turnout states ≡ false
unfolding no_turnout
no-turnouts [] = refl
no-turnouts (state ∷ states) = no-turnouts states

failing-alike : (switch : Option ℕ) (n : Network) → RunsAlike n (with_failing switch n)
failing-alike switch n = for-same-track (failing_by switch) n (same-track (failing_by switch) no_turnout (failing-changes switch) n (no-turnouts n.turnouts))

-- A train of which the way stays, while time passes.

pub for-same : (n : Network) (micros : ℕ) (running : Running) (t : TrainState) → Same t (run_for n micros (Some running) t)
for-same n micros running t = subst (λ (u : TrainState). Same t u) (sym (as-in n micros running t)) (in-same n micros (nodes_with t.decoder running) t)

for-decoder : (n : Network) (micros : ℕ) (running : Running) (t : TrainState) → (run_for n micros (Some running) t).decoder ≡ t.decoder
for-decoder n micros running t = (for-same n micros running t).decoder

pub for-train : (n : Network) (micros : ℕ) (running : Running) (t : TrainState) → IsTrue (is_sound n) → is_train n t ≡ true → is_train n (run_for n micros (Some running) t) ≡ true
for-train n micros running t sound h =
    ap (λ (u : TrainState). is_train n u) (as-in n micros running t) ∙ under-train PowerOn n micros (nodes_with t.decoder running) t sound h

pub powered : (p : Power) (n : Network) (micros : ℕ) (nodes : List Node) (t : TrainState) → p ≢ Off → run_under p n micros nodes t ≡ run_in n micros nodes t
powered Off n micros nodes t h = absurd (h refl)
powered PowerOn n micros nodes t h = refl
powered Paused n micros nodes t h = refl

power-moves : (p : Power) (micros : ℕ) (n : Network) → p ≢ Off → advanced_under p micros n ≡ advanced micros n
power-moves Off micros n h = absurd (h refl)
power-moves PowerOn micros n h = refl
power-moves Paused micros n h = refl

module _ (n : Network) (running : Running) (left : ℕ) (t : TrainState) (nodes : List Node) (sound : IsTrue (is_sound n)) (h : is_train n t ≡ true) (way : WayStays n running left t nodes) where
  -- the train at a moment
  abbrev at : ℕ → TrainState
  at moment = run_for n moment (Some running) t

  at-rails : (moment : ℕ) → is_derailed (at moment) ≡ false → is_derailed t ≡ false
  at-rails moment rails = elim (cases_Bool (is_derailed t)) [
    | inl derailed ↦ absurd (not-both (is_derailed t) derailed (sym (ap (λ (u : TrainState). is_derailed u) (for-derailed n moment (Some running) t derailed)) ∙ rails))
    | inr on_rails ↦ on_rails
  ]

  at-on : (moment micros : ℕ) → run_for n micros (Some running) (at moment) ≡ at (moment + micros)
  at-on moment micros = for-for n running moment micros t

  -- what it runs over stays
  over : (moment : ℕ) → moment < left → is_derailed (at moment) ≡ false
      → first_at (end_of_any (moves nodes) n.turnouts) n (trailing_end (next_velocity_of running (at moment)).forward (at moment)) (span (at moment) + (next_velocity_of running (at moment)).speed) ≡ None
  over moment less rails =
      off-way (moves nodes) n (trailing_end (next_velocity_of running (at moment)).forward (at moment)) (span (at moment) + (next_velocity_of running (at moment)).speed)
      (λ k d within met.
      ap (λ (b : Bool). not b) (way k d within (record { rails = at-rails moment rails; moment = moment; within = omega (arith, less); met = inr (less, met) })))

  -- what it lies over stays
  lain : (is : TurnoutState → Bool) → ((state : TurnoutState) → stays nodes state ≡ true → is state ≡ false) → (moment : ℕ) → moment ≤ left → is_derailed t ≡ false
      → first_at (end_of_any is n.turnouts) n (at moment).rear (span (at moment)) ≡ None
  lain is none moment less rails =
      off-way is n (at moment).rear (span (at moment))
      (λ k d within met. none (slice_index_or n.turnouts k d) (way k d within (record { rails = rails; moment = moment; within = less; met = inl met })))

  under : (moment : ℕ) → moment ≤ left → is_derailed t ≡ false → first_at (end_of_any (moves nodes) n.turnouts) n (at moment).rear (span (at moment)) ≡ None
  under moment less rails = lain (moves nodes) (λ state stay. ap (λ (b : Bool). not b) stay) moment less rails

  -- so it runs on as it would
  one-on : (f : TurnoutState → TurnoutState) → KeepsLying nodes f → (moment : ℕ) → moment < left → run_for (changed f n) 1 (Some running) (at moment) ≡ at (moment + 1)
  one-on f keeps moment less =
      one-elsewhere f (moves nodes) keeps.changes n running (at moment) sound (for-train n moment running t sound h) (over moment less)
      (λ rails. subst (λ (u : TrainState). first_at (end_of_any (moves nodes) n.turnouts) n u.rear (span u) ≡ None) (sym (at-on moment 1))
      (under (moment + 1) (omega (arith, less)) (at-rails moment rails)))
      ∙ at-on moment 1

  still-train : (f : TurnoutState → TurnoutState) → KeepsLying nodes f → (moment : ℕ) → moment ≤ left → is_train (changed f n) (at moment) ≡ true
  still-train f keeps moment less =
      train-changed f (moves nodes) keeps.changes n (at moment) (for-train n moment running t sound h) (λ rails. under moment less (at-rails moment rails))

  pub runs-on : (f : TurnoutState → TurnoutState) → KeepsLying nodes f → (micros moment : ℕ) → moment + micros ≤ left → run_for (changed f n) micros (Some running) (at moment) ≡ at (moment + micros)
  runs-on f keeps zero moment less =
      let same : moment + 0 ≡ moment = omega arith in
      for-zero (changed f n) (Some running) (at moment) (still-train f keeps moment (omega (arith, less))) ∙ ap (λ (k : ℕ). at k) (sym same)
  runs-on f keeps (suc micros) moment less =
      let one : 1 + micros ≡ suc micros = omega arith in
      let all : moment + 1 + micros ≡ moment + suc micros = omega arith in
      ap (λ (k : ℕ). run_for (changed f n) k (Some running) (at moment)) (sym one)
      ∙ sym (for-for (changed f n) running 1 micros (at moment))
      ∙ ap (λ (u : TrainState). run_for (changed f n) micros (Some running) u) (one-on f keeps moment (omega (arith, less)))
      ∙ runs-on f keeps micros (moment + 1) (omega (arith, less)) ∙ ap (λ (k : ℕ). at k) all

  -- a railway on which it has run so far
  pub record RanSoFar (i moment : ℕ) (none : TrainState) (s : RailwayState) : Type 0 where
    pub by : TurnoutState → TurnoutState
    pub keeps : KeepsLying nodes by
    pub network : s.network ≡ changed by n
    pub count : i < length s.trains
    pub train : slice_index_or s.trains i none ≡ at moment

  unmoved : checked nodes n t ≡ t
  unmoved = elim (cases_Bool (is_derailed t)) [
    | inl derailed ↦ checked-derailed nodes n t derailed
    | inr rails ↦
        checked-stays nodes n t
        (subst (λ (u : TrainState). thrown_under nodes n u ≡ None) (for-zero n (Some running) t h)
        (lain (is_moved nodes) (λ state stay. (stays-parts nodes state stay).unmoved) 0 (omega arith) rails))
  ]

  laid-so_far : (r : RailwayState) (i : ℕ) (none : TrainState) → r.network ≡ n → i < length r.trains → slice_index_or r.trains i none ≡ t → RanSoFar i 0 none (laid_in nodes r)
  laid-so_far r i none track within own =
      let count : length (map (checked nodes r.network) r.trains) ≡ length r.trains = length-map r.trains (checked nodes r.network) in
      record {
        by = observed nodes;
        keeps = observed-keeps nodes;
        network = ap (λ (track : Network). laid nodes track) track;
        count = omega (arith, count, within);
        train = get_or-map (checked nodes r.network) r.trains i none none within
            ∙ ap (λ (u : TrainState). checked nodes r.network u) own ∙ ap (λ (track : Network). checked nodes track t) track
            ∙ unmoved ∙ sym (for-zero n (Some running) t h);
      }

  ran-so_far : (p : Power) (i moment : ℕ) (none : TrainState) (s : RailwayState) → p ≢ Off → running_in nodes t.decoder ≡ Some running → moment < left → RanSoFar i moment none s → RanSoFar i (moment + 1) none (ran_in p 1 nodes s)
  ran-so_far p i moment none s on runs less so_far =
      let count : length (map (run_under p s.network 1 nodes) s.trains) ≡ length s.trains = length-map s.trains (run_under p s.network 1 nodes) in
      let asks : running_in nodes (at moment).decoder ≡ Some running = ap (λ (decoder : ℕ). running_in nodes decoder) (for-decoder n moment running t) ∙ runs in
      record {
        by = λ state. moved_on 1 (so_far.by state);
        keeps = moved_on-keeps nodes 1 so_far.by so_far.keeps;
        network = power-moves p 1 s.network on ∙ ap (λ (track : Network). advanced 1 track) so_far.network ∙ advanced-changed 1 so_far.by n;
        count = omega (arith, count, so_far.count);
        train = get_or-map (run_under p s.network 1 nodes) s.trains i none none so_far.count
            ∙ ap (λ (u : TrainState). run_under p s.network 1 nodes u) so_far.train
            ∙ powered p s.network 1 nodes (at moment) on
            ∙ ap (λ (track : Network). run_in track 1 nodes (at moment)) so_far.network
            ∙ ap (λ (asked : Option Running). run_for (changed so_far.by n) 1 asked (at moment)) asks
            ∙ one-on so_far.by so_far.keeps moment less;
      }

  through-so_far : (p : Power) (i micros moment : ℕ) (none : TrainState) (s : RailwayState) → p ≢ Off → running_in nodes t.decoder ≡ Some running → moment + micros ≤ left → RanSoFar i moment none s
      → RanSoFar i (moment + micros) none (run_through p micros nodes s)
  unfolding run_through
  through-so_far p i zero moment none s on runs less so_far =
      let same : moment ≡ moment + 0 = omega arith in
      subst (λ (k : ℕ). RanSoFar i k none s) same so_far
  through-so_far p i (suc micros) moment none s on runs less so_far =
      let all : moment + 1 + micros ≡ moment + suc micros = omega arith in
      subst (λ (k : ℕ). RanSoFar i k none (run_through p micros nodes (ran_in p 1 nodes s))) all
      (through-so_far p i micros (moment + 1) none (ran_in p 1 nodes s) on runs (omega (arith, less)) (ran-so_far p i moment none s on runs (omega (arith, less)) so_far))

-- What happens to a train that is left alone.

record Goes (r s : RailwayState) (i micros left : ℕ) (running : Running) (none : TrainState) : Type 0 where
  count : i < length s.trains
  train : slice_index_or s.trains i none ≡ run_for r.network micros (Some running) (slice_index_or r.trains i none)
  on : (more : ℕ) → micros + more ≤ left
      → run_for s.network more (Some running) (run_for r.network micros (Some running) (slice_index_or r.trains i none)) ≡ run_for r.network (micros + more) (Some running) (slice_index_or r.trains i none)

stands : (r s : RailwayState) (i left : ℕ) (running : Running) (none : TrainState) → is_train r.network (slice_index_or r.trains i none) ≡ true
    → RunsAlike r.network s.network → i < length s.trains → slice_index_or s.trains i none ≡ slice_index_or r.trains i none → Goes r s i 0 left running none
stands r s i left running none h alike count same =
    let zero_on : run_for r.network 0 (Some running) (slice_index_or r.trains i none) ≡ slice_index_or r.trains i none = for-zero r.network (Some running) (slice_index_or r.trains i none) h in
    record {
      count = count;
      train = same ∙ sym zero_on;
      on = λ more less. alike more (Some running) (run_for r.network 0 (Some running) (slice_index_or r.trains i none)) ∙ for-for r.network running 0 more (slice_index_or r.trains i none);
    }

same-alike : (n : Network) → RunsAlike n n
same-alike n micros running t = refl

elapses : (r : RailwayState) (i micros left : ℕ) (p : Power) (nodes : List Node) (running : Running) (none : TrainState) → IsTrue (is_sound r.network) → is_train r.network (slice_index_or r.trains i none) ≡ true → i < length r.trains
    → micros ≤ left → WayStays r.network running left (slice_index_or r.trains i none) nodes → p ≢ Off → running_in nodes (slice_index_or r.trains i none).decoder ≡ Some running → Goes r (elapsed r micros p nodes) i micros left running none
elapses r i micros left p nodes running none sound h within less way on runs =
    let n = r.network in
    let t : TrainState = slice_index_or r.trains i none in
    let start = laid-so_far n running left t nodes sound h way r i none refl within refl in
    let whole : 0 + micros ≡ micros = omega arith in
    let so_far = subst (λ (k : ℕ). RanSoFar n running left t nodes sound h way i k none (elapsed r micros p nodes)) whole
    (through-so_far n running left t nodes sound h way p i micros 0 none (laid_in nodes r) on runs (omega (arith, less)) start) in
    record {
      count = so_far.count;
      train = so_far.train;
      on = λ more within_left.
          ap (λ (track : Network). run_for track more (Some running) (run_for n micros (Some running) t)) so_far.network
          ∙ runs-on n running left t nodes sound h way so_far.by so_far.keeps more micros within_left;
    }

placed : (r : RailwayState) (i left : ℕ) (running : Running) (none : TrainState) (other : ℕ) (position : Position) (fault : Option PlaceFault) → is_train r.network (slice_index_or r.trains i none) ≡ true → i < length r.trains → other ≢ i
    → Goes r (unless_refused fault (placed_in r other position) r) i 0 left running none
placed r i left running none other position (Some fault) h within apart = stands r r i left running none h (same-alike r.network) within refl
placed r i left running none other position None h within apart =
    let new : TrainState = replaced r.network (slice_index_or r.trains other default_state) position in
    let count : length (slice_set r.trains other new) ≡ length r.trains = length-set r.trains other new in
    stands r (placed_in r other position) i left running none h (same-alike r.network) (omega (arith, count, within)) (get_or-set_other r.trains other i new none (λ same. apart (sym same)))

sensor : (r : RailwayState) (i left : ℕ) (running : Running) (none : TrainState) (block : Option ℕ) (occupied : Bool) → is_train r.network (slice_index_or r.trains i none) ≡ true → i < length r.trains
    → Goes r (sensor_failed block occupied r) i 0 left running none
sensor r i left running none None occupied h within = stands r r i left running none h (same-alike r.network) within refl
sensor r i left running none (Some block) occupied h within = stands r (sensor_failed (Some block) occupied r) i left running none h (same-alike r.network) within refl

goes : (r : RailwayState) (happening : Happening) (i left : ℕ) (running : Running) (none : TrainState) → is_railway r ≡ true → i < length r.trains → time_of happening ≤ left → LeavesAlone i running left r happening
    → IsDrivenBy (slice_index_or r.trains i none).decoder running happening → Goes r (after r happening) i (time_of happening) left running none
goes r happening i left running none h within less alone driven = by happening less alone driven where
  parts : (is_sound r.network ≡ true) × (list_all (is_train r.network) r.trains ≡ true)
  parts = and_parts (is_sound r.network) (list_all (is_train r.network) r.trains) h

  train : is_train r.network (slice_index_or r.trains i none) ≡ true
  train = all-at (is_train r.network) r.trains i none parts.1 within

  by : (happening : Happening) → time_of happening ≤ left → LeavesAlone i running left r happening → IsDrivenBy (slice_index_or r.trains i none).decoder running happening → Goes r (after r happening) i (time_of happening) left running none
  by (Elapses micros power nodes) less alone driven =
      elapses r i micros left power nodes running none parts.0 train within less
      (subst (λ (t : TrainState). WayStays r.network running left t nodes) (get_or_default r.trains i default_state none within) alone) driven.0 driven.1
  by (Places other position) less alone driven = placed r i left running none other position (place_fault r other position) train within alone
  by (SensorFails sensor_number occupied) less alone driven = sensor r i left running none (block_with sensor_number r.network.blocks) occupied train within
  by (TurnoutFails switch) less alone driven = stands r (after r (TurnoutFails switch)) i left running none train (failing-alike (Some switch) r.network) within refl
  by FailuresEnd less alone driven = stands r (after r FailuresEnd) i left running none train (failing-alike None r.network) within refl

-- Through all that happens.

abbrev pub KeepsRailways : Type 0
KeepsRailways = (railway : RailwayState) (happening : Happening) → IsTrue (is_railway railway) → IsTrue (is_railway (after railway happening))

all-go : KeepsRailways → (happenings : List Happening) (r : RailwayState) (i decoder : ℕ) (running : Running) (none : TrainState) → is_railway r ≡ true → i < length r.trains
    → AllLeaveAlone i running r happenings → AreDrivenBy decoder running happenings → (slice_index_or r.trains i none).decoder ≡ decoder
    → slice_index_or (after_all r happenings).trains i none ≡ run_for r.network (time_in happenings) (Some running) (slice_index_or r.trains i none)
all-go keeps [] r i decoder running none h within alone driven own =
    sym (for-zero r.network (Some running) (slice_index_or r.trains i none)
    (all-at (is_train r.network) r.trains i none (and_parts (is_sound r.network) (list_all (is_train r.network) r.trains) h).1 within))
all-go keeps (happening ∷ happenings) r i decoder running none h within alone driven own =
    let s : RailwayState = after r happening in
    let t : TrainState = slice_index_or r.trains i none in
    let u : TrainState = slice_index_or s.trains i none in
    let here : ℕ = time_of happening in
    let rest : ℕ = time_in happenings in
    let first = goes r happening i (here + rest) running none h within (omega arith) alone.0 (subst (λ (d : ℕ). IsDrivenBy d running happening) (sym own) driven.0) in
    let still_own : u.decoder ≡ decoder = ap (λ (w : TrainState). w.decoder) first.train ∙ for-decoder r.network here running t ∙ own in
    all-go keeps happenings s i decoder running none (keeps r happening h) first.count alone.1 driven.1 still_own
    ∙ ap (λ (w : TrainState). run_for s.network rest (Some running) w) first.train ∙ first.on rest (omega arith)

-- What that is.

abbrev pub IsWay : Type 0
IsWay = (train : TrainState) (micros : ℕ) (nodes : List Node) → train.momentum ≡ None → way_of nodes micros train ≡ speed_times_time nodes micros train

abbrev pub GoesOneWay : Type 0
GoesOneWay = (train : TrainState) (micros : ℕ) (nodes : List Node) → train.momentum ≡ None → IsTrue (runs_only (is_forward (running_in nodes train.decoder)) nodes micros train)

abbrev pub EndsRamps : Type 0
EndsRamps = (drive : Drive) (v : Velocity) (micros : ℕ) → IsTrue (is_momentum drive.momentum) → ramp drive v ≤ micros → velocity_after drive micros v ≡ velocity drive.forward drive.speed

still-rates : (motion : Motion) (momentum : Option Momentum) → is_momentum momentum ≡ true → is_momentum (momentum_at motion momentum) ≡ true
still-rates Stop momentum h = h
still-rates Emergency momentum h = refl
still-rates (Step steps n) momentum h = h

module _ (is_way : IsWay) (one_way : GoesOneWay) (ramps : EndsRamps) (n : Network) (running : Running) (micros : ℕ) (t : TrainState) (is : IsTrue (is_sound n)) (h : is_train n t ≡ true) where
  nodes : List Node
  nodes = nodes_with t.decoder running

  found : running_in nodes t.decoder ≡ Some running
  unfolding nodes
  found = runs-there t.decoder running

  there : TrainState
  there = run_in n micros nodes t

  far : t.momentum ≡ None → way_of nodes micros t ≡ way_asked running micros t
  far none = is_way t micros nodes none ∙ ap (λ (r : Option Running). speed_of t.top r * micros) found

  only : t.momentum ≡ None → runs_only running.forward nodes micros t ≡ true
  only none = sym (ap (λ (r : Option Running). runs_only (is_forward r) nodes micros t) found) ∙ one_way t micros nodes none

  asked : asked_of nodes t ≡ drive_of t (Some running)
  asked = ap (λ (r : Option Running). drive_of t r) found

  goes-way : (place : Place) → LeadsTo n running t (way_asked running micros t) place → (leading_end running.forward there ≡ place) × (is_derailed there ≡ false)
  unfolding there
  goes-way place leads =
      in-reaches n running.forward micros nodes t place is h leads.on_rails (only leads.at_once)
      (ap (λ (w : ℕ). way_on n (leading_end running.forward t) w) (far leads.at_once) ∙ leads.leads)

  has-speed : is_derailed there ≡ false → ramp (drive_of t (Some running)) t.velocity ≤ micros → there.velocity ≡ velocity running.forward (speed_at t.top running.motion)
  unfolding there
  has-speed rails long =
      in-velocity n micros nodes t rails ∙ ap (λ (d : Drive). velocity_after d micros t.velocity) asked
      ∙ ramps (drive_of t (Some running)) t.velocity micros (still-rates running.motion t.momentum (movable-of t (parts-of n t h).movable).rates) long

  pub has-run : HasRun n running micros t (run_for n micros (Some running) t)
  unfolding there nodes
  has-run =
      subst (λ (u : TrainState). HasRun n running micros t u) (sym (as-in n micros running t))
      (record {
        run = sym (as-in n micros running t);
        way = goes-way;
        stopped = λ place ahead leads stop less.
            in-stops n running.forward micros nodes t ahead place is h leads.on_rails (only leads.at_once) leads.leads stop (omega (arith, less, far leads.at_once));
        derailed = λ place ahead leads against less.
            in-derails n running.forward micros nodes t ahead place is h leads.on_rails (only leads.at_once) leads.leads against (omega (arith, less, far leads.at_once));
        speed = has-speed;
      })

pub runs-as-driven : KeepsRailways → IsWay → GoesOneWay → EndsRamps → (r : RailwayState) (happenings : List Happening) (i : ℕ) (none : TrainState) (running : Running) → IsTrue (is_railway r) → i < length r.trains
    → AllLeaveAlone i running r happenings → AreDrivenBy (slice_index_or r.trains i none).decoder running happenings
    → HasRun r.network running (time_in happenings) (slice_index_or r.trains i none) (slice_index_or (after_all r happenings).trains i none)
runs-as-driven keeps is_way one_way ramps r happenings i none running h within alone driven =
    let t : TrainState = slice_index_or r.trains i none in
    let parts = and_parts (is_sound r.network) (list_all (is_train r.network) r.trains) h in
    let train : is_train r.network t ≡ true = all-at (is_train r.network) r.trains i none parts.1 within in
    subst (λ (u : TrainState). HasRun r.network running (time_in happenings) t u)
    (sym (all-go keeps happenings r i t.decoder running none h within alone driven refl))
    (has-run is_way one_way ramps r.network running (time_in happenings) t parts.0 train)
