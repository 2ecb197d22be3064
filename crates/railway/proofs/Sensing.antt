-- What sensors find at a moment of a time.
use Rattle.std.proofs.Common.{◌≡◌, ℕ, zero, suc, ◌+◌, ◌-◌, ◌<◌, ◌≤◌, ◌==◌, ◌&&◌, ◌||◌, ◌++◌, Bool, true, false, not, inl, inr, List, [], ◌∷◌, Option, Some, None, length, map, refl, ap, ap₂, sym, subst, ◌∙◌, arith}
use Rattle.std.proofs.lemmas.Bool.{and_from, and_parts, eq-eqb, or_cases}
use Rattle.std.proofs.lemmas.List.{length-map}
use Rattle.std.proofs.lemmas.List.Folds.{list_any-append, list_any_at}
use Rattle.std.specs.List.{list_all, list_any, slice_index_or}
use Rattle.std.specs.Prelude.{if◌then◌else◌, nat_lt}
use Rattle.ln_ops.specs.declared.sensor.SensorReport.{SensorReport}
use Rattle.layout_core.specs.declared.node.Node.{Node}
use Rattle.motion.specs.Velocity.{next_velocity, velocity_after, way}
use Rattle.motion.specs.declared.velocity.Drive.{Drive}
use Rattle.motion.specs.declared.velocity.Velocity.{Velocity}
use Rattle.refresh_ring.specs.declared.pick.Power.{Power}
use Rattle.railway.specs.declared.block.Block.{Block}
use Rattle.railway.specs.declared.failing_sensors.FailingSensors.{FailingSensors}
use Rattle.railway.specs.declared.train.TrainState.{TrainState}
use Rattle.railway.specs.Blocks.{default_block, length_of}
use Rattle.railway.specs.Laws.{IsSensedAt, is_one_way}
use Rattle.railway.specs.Network.{is_sound}
use Rattle.railway.specs.Passing.{longest_turn}
use Rattle.railway.specs.Places.{span}
use Rattle.railway.specs.Railway.{RailwayState, elapsed, is_railway, is_sensed, is_sensed_in, is_sensed_through, is_train, laid_in, ran_in, reports_in, run_through, run_under}
use Rattle.railway.specs.Reports.{change_of, changes_from, changes_through, has_report, is_occupied, occupies, onto}
use Rattle.railway.specs.Trains.{default_state}
use Rattle.railway.specs.Turnouts.{checked, same_bool}
use Rattle.railway.proofs.Facts.{or-left-true, or-right-true}
use Rattle.railway.proofs.Faulty.{run_through-failing}
use Rattle.railway.proofs.Placing.{all-at}
use Rattle.railway.proofs.Runs.{parts-of}
use Rattle.railway.proofs.Slow.{goes-short}
use Rattle.railway.proofs.Straight.{one-way}
use Rattle.railway.proofs.Throwing.{checked-under}
use Rattle.railway.proofs.Unseen.{GoesAhead, run-seen}

-- The moments of a time.

pub first-sensed : (p : Power) (nodes : List Node) (k : ℕ) (r : RailwayState) (block : ℕ) → is_sensed r block ≡ true → is_sensed_through p k nodes r block ≡ true
unfolding is_sensed_through
first-sensed p nodes zero r block h = h
first-sensed p nodes (suc k) r block h = or-left-true (is_sensed r block) (is_sensed_through p k nodes (ran_in p 1 nodes r) block) h

pub moment-sensed : (p : Power) (nodes : List Node) (j k : ℕ) (r : RailwayState) (block : ℕ) → j ≤ k → is_sensed (run_through p j nodes r) block ≡ true → is_sensed_through p k nodes r block ≡ true
unfolding is_sensed_through run_through
moment-sensed p nodes zero k r block less h = first-sensed p nodes k r block h
moment-sensed p nodes (suc j) zero r block less h = absurd (omega (arith, less))
moment-sensed p nodes (suc j) (suc k) r block less h =
    or-right-true (is_sensed r block) (is_sensed_through p k nodes (ran_in p 1 nodes r) block) (moment-sensed p nodes j k (ran_in p 1 nodes r) block (omega (arith, less)) h)

record Moment (p : Power) (nodes : List Node) (k : ℕ) (r : RailwayState) (block : ℕ) : Type 0 where
  moment : ℕ
  within : moment ≤ k
  sensed : is_sensed (run_through p moment nodes r) block ≡ true

sensed-moment : (p : Power) (nodes : List Node) (k : ℕ) (r : RailwayState) (block : ℕ) → is_sensed_through p k nodes r block ≡ true → Moment p nodes k r block
unfolding is_sensed_through run_through
sensed-moment p nodes zero r block h = record { moment = 0; within = omega arith; sensed = h }
sensed-moment p nodes (suc k) r block h = elim (or_cases (is_sensed r block) (is_sensed_through p k nodes (ran_in p 1 nodes r) block) h) [
  | inl first ↦ record { moment = 0; within = omega arith; sensed = first }
  | inr later ↦
      let rest = sensed-moment p nodes k (ran_in p 1 nodes r) block later in
      record { moment = suc rest.moment; within = omega (arith, rest.within); sensed = rest.sensed }
]

-- those of a part of it, and of the rest

or-again : (one two : Bool) → (one || two) ≡ (one || (one || two))
or-again true two = refl
or-again false two = refl

or-itself : (one : Bool) → one ≡ (one || one)
or-itself true = refl
or-itself false = refl

or-into : (one two three all : Bool) → all ≡ (two || three) → (one || all) ≡ ((one || two) || three)
or-into true two three all h = refl
or-into false two three all h = h

start-sensed : (p : Power) (nodes : List Node) (k : ℕ) (r : RailwayState) (block : ℕ) → is_sensed_through p k nodes r block ≡ (is_sensed r block || is_sensed_through p k nodes r block)
unfolding is_sensed_through
start-sensed p nodes zero r block = or-itself (is_sensed r block)
start-sensed p nodes (suc k) r block = or-again (is_sensed r block) (is_sensed_through p k nodes (ran_in p 1 nodes r) block)

sensed-add : (p : Power) (nodes : List Node) (a b : ℕ) (r : RailwayState) (block : ℕ)
    → is_sensed_through p (a + b) nodes r block ≡ (is_sensed_through p a nodes r block || is_sensed_through p b nodes (run_through p a nodes r) block)
unfolding is_sensed_through run_through
sensed-add p nodes zero b r block =
    let e : zero + b ≡ b = omega arith in
    ap (λ (k : ℕ). is_sensed_through p k nodes r block) e ∙ start-sensed p nodes b r block
sensed-add p nodes (suc a) b r block =
    let e : suc a + b ≡ suc (a + b) = omega arith in
    let next : RailwayState = ran_in p 1 nodes r in
    ap (λ (k : ℕ). is_sensed_through p k nodes r block) e
    ∙ or-into (is_sensed r block) (is_sensed_through p a nodes next block) (is_sensed_through p b nodes (run_through p a nodes next) block)
    (is_sensed_through p (a + b) nodes next block) (sensed-add p nodes a b next block)

-- What a sensor finds goes by a part of one train.

record Any (f : TrainState → Bool) (ts : List TrainState) (none : TrainState) : Type 0 where
  index : ℕ
  within : index < length ts
  holds : f (slice_index_or ts index none) ≡ true

any-of : (f : TrainState → Bool) (ts : List TrainState) (none : TrainState) → list_any f ts ≡ true → Any f ts none
any-of f [] none h = cc
any-of f (t ∷ ts) none h = elim (or_cases (f t) (list_any f ts) h) [
  | inl first ↦ record { index = 0; within = omega arith; holds = first }
  | inr later ↦ let rest = any-of f ts none later in record { index = suc rest.index; within = omega (arith, rest.within); holds = rest.holds }
]

abbrev Fails : FailingSensors → ℕ → Bool
Fails failing block = slice_index_or failing.occupied block false

abbrev IsFree : FailingSensors → ℕ → Bool
IsFree failing block = slice_index_or failing.free block false

sensed-from : (r : RailwayState) (block : ℕ) → (is_occupied r.trains block || Fails r.failing block) ≡ true → not (IsFree r.failing block) ≡ true → is_sensed r block ≡ true
sensed-from r block h g = and_from (is_occupied r.trains block || Fails r.failing block) (not (IsFree r.failing block)) h g

pub train-sensed : (r : RailwayState) (i block : ℕ) (none : TrainState) → i < length r.trains → occupies block (slice_index_or r.trains i none) ≡ true → not (IsFree r.failing block) ≡ true → is_sensed r block ≡ true
train-sensed r i block none within h g =
    sensed-from r block (or-left-true (is_occupied r.trains block) (Fails r.failing block) (list_any_at (occupies block) r.trains i none within h)) g

run-count : (p : Power) (nodes : List Node) (k : ℕ) (r : RailwayState) → length (run_through p k nodes r).trains ≡ length r.trains
unfolding run_through
run-count p nodes zero r = refl
run-count p nodes (suc k) r = run-count p nodes k (ran_in p 1 nodes r) ∙ length-map r.trains (run_under p r.network 1 nodes)

-- The way adds up.

way-add : (d : Drive) (v : Velocity) (a b : ℕ) → way d (a + b) v ≡ way d a v + way d b (velocity_after d a v)
unfolding way velocity_after
way-add d v zero b =
    let e : zero + b ≡ b = omega arith in
    let same : way d (zero + b) v ≡ way d b v = ap (λ (k : ℕ). way d k v) e in
    omega (arith, same)
way-add d v (suc a) b =
    let e : suc a + b ≡ suc (a + b) = omega arith in
    let next : Velocity = next_velocity d v in
    let rest : way d (a + b) next ≡ way d a next + way d b (velocity_after d a next) = way-add d next a b in
    let first : way d (suc a + b) v ≡ next.speed + way d (a + b) next = ap (λ (k : ℕ). way d k v) e in
    omega (arith, first, rest)

-- In a piece of time each train goes one way, and less far than it and a block are long.

module _ (p : Power) (nodes : List Node) (k : ℕ) (r : RailwayState) (block : ℕ) (h : is_railway r ≡ true) (straight : list_all (is_one_way nodes k) r.trains ≡ true) (short : k ≤ longest_turn) (plan : block < length r.network.blocks) where
  end-sensed : (j : ℕ) → j ≤ k → is_sensed (run_through p j nodes r) block ≡ true → (is_sensed r block || is_sensed (run_through p k nodes r) block) ≡ true
  end-sensed j less there =
      let s : RailwayState = run_through p j nodes r in
      let end : RailwayState = run_through p k nodes r in
      let parts = and_parts (is_occupied s.trains block || Fails s.failing block) (not (IsFree s.failing block)) there in
      let same : s.failing ≡ r.failing = run_through-failing p nodes j r in
      let same_end : r.failing ≡ end.failing = sym (run_through-failing p nodes k r) in
      let free : not (IsFree r.failing block) ≡ true = subst (λ (f : FailingSensors). not (IsFree f block) ≡ true) same parts.1 in
      let free_end : not (IsFree end.failing block) ≡ true = subst (λ (f : FailingSensors). not (IsFree f block) ≡ true) same_end free in
      elim (or_cases (is_occupied s.trains block) (Fails s.failing block) parts.0) [
        | inr fails ↦
            or-left-true (is_sensed r block) (is_sensed end block)
            (sensed-from r block (or-right-true (is_occupied r.trains block) (Fails r.failing block) (subst (λ (f : FailingSensors). Fails f block ≡ true) same fails)) free)
        | inl part ↦
            let at = any-of (occupies block) s.trains default_state part in
            let i : ℕ = at.index in
            let count : length s.trains ≡ length r.trains = run-count p nodes j r in
            let count_end : length end.trains ≡ length r.trains = run-count p nodes k r in
            let within : i < length r.trains = omega (arith, count, at.within) in
            let within_end : i < length end.trains = omega (arith, count_end, within) in
            let t : TrainState = slice_index_or r.trains i default_state in
            let railway = and_parts (is_sound r.network) (list_all (is_train r.network) r.trains) h in
            let train = parts-of r.network t (all-at (is_train r.network) r.trains i default_state railway.1 within) in
            let one = one-way nodes k t (all-at (is_one_way nodes k) r.trains i default_state straight within) in
            let sum : j + (k - j) ≡ k = omega (arith, less) in
            let goes : GoesAhead nodes one.forward (j + (k - j)) (span t + length_of r.network.blocks block) t =
            subst (λ (m : ℕ). GoesAhead nodes one.forward m (span t + length_of r.network.blocks block) t) (sym sum)
            (record { one_way = one.only; short = goes-short r.network.blocks block k nodes t train.slow train.size plan short }) in
            elim (run-seen (way-add) p nodes one.forward i block default_state j (k - j) r h within (λ _. goes) at.holds) [
              | inl before ↦ or-left-true (is_sensed r block) (is_sensed end block) (train-sensed r i block default_state within before free)
              | inr after ↦
                  or-right-true (is_sensed r block) (is_sensed end block)
                  (train-sensed end i block default_state within_end (subst (λ (m : ℕ). occupies block (slice_index_or (run_through p m nodes r).trains i default_state) ≡ true) sum after) free_end)
            ]
      ]

  both-ends : (is_sensed r block || is_sensed (run_through p k nodes r) block) ≡ true → is_sensed_through p k nodes r block ≡ true
  both-ends ends = elim (or_cases (is_sensed r block) (is_sensed (run_through p k nodes r) block) ends) [
    | inl start ↦ first-sensed p nodes k r block start
    | inr end ↦ let all : k ≤ k = omega arith in moment-sensed p nodes k k r block all end
  ]

  any-moment : is_sensed_through p k nodes r block ≡ true → (is_sensed r block || is_sensed (run_through p k nodes r) block) ≡ true
  any-moment sensed = let at = sensed-moment p nodes k r block sensed in end-sensed at.moment at.within at.sensed

  pub piece-seen : is_sensed_through p k nodes r block ≡ (is_sensed r block || is_sensed (run_through p k nodes r) block)
  piece-seen = same (is_sensed_through p k nodes r block) (is_sensed r block || is_sensed (run_through p k nodes r) block) any-moment both-ends where
    same : (one two : Bool) → (one ≡ true → two ≡ true) → (two ≡ true → one ≡ true) → one ≡ two
    same true two there back = sym (there refl)
    same false true there back = back refl
    same false false there back = refl

-- So the blocks that sensors find occupied at the ends of pieces are all that they find so.

added : (marked first last rest whole all : Bool) → (marked || whole) ≡ all → whole ≡ ((first || last) || rest) → (first ≡ true → marked ≡ true) → ((marked || last) || rest) ≡ all
added true first last rest whole all h g known = h
added false true last rest whole all h g known = let no = known refl in cc
added false false last rest whole all h g known = sym g ∙ h

pub piece-added : (p : Power) (nodes : List Node) (piece left : ℕ) (r : RailwayState) (block : ℕ) (marked all : Bool) → piece ≤ left
    → is_sensed_through p piece nodes r block ≡ (is_sensed r block || is_sensed (run_through p piece nodes r) block)
    → (marked || is_sensed_through p left nodes r block) ≡ all → (is_sensed r block ≡ true → marked ≡ true)
    → ((marked || is_sensed (run_through p piece nodes r) block) || is_sensed_through p (left - piece) nodes (run_through p piece nodes r) block) ≡ all
piece-added p nodes piece left r block marked all less seen h known =
    let sum : piece + (left - piece) ≡ left = omega (arith, less) in
    let next : RailwayState = run_through p piece nodes r in
    let whole : is_sensed_through p left nodes r block ≡ ((is_sensed r block || is_sensed next block) || is_sensed_through p (left - piece) nodes next block) =
    ap (λ (k : ℕ). is_sensed_through p k nodes r block) (sym sum) ∙ sensed-add p nodes piece (left - piece) r block
    ∙ ap (λ (b : Bool). b || is_sensed_through p (left - piece) nodes next block) seen in
    added marked (is_sensed r block) (is_sensed next block) (is_sensed_through p (left - piece) nodes next block) (is_sensed_through p left nodes r block) all h whole known

pub all-added : (p : Power) (nodes : List Node) (r : RailwayState) (block : ℕ) (marked all : Bool) → (marked || is_sensed_through p 0 nodes r block) ≡ all → (is_sensed r block ≡ true → marked ≡ true) → marked ≡ all
unfolding is_sensed_through
all-added p nodes r block marked all h known = by marked (is_sensed r block) h known where
  by : (one two : Bool) → (one || two) ≡ all → (two ≡ true → one ≡ true) → one ≡ all
  by true two e so = e
  by false true e so = so refl ∙ e
  by false false e so = e

-- at first nothing is added
pub start-found : (p : Power) (nodes : List Node) (k : ℕ) (r : RailwayState) (block : ℕ) (marked : Bool) → marked ≡ is_sensed r block → (marked || is_sensed_through p k nodes r block) ≡ is_sensed_through p k nodes r block
start-found p nodes k r block marked h = ap (λ (b : Bool). b || is_sensed_through p k nodes r block) h ∙ sym (start-sensed p nodes k r block)

-- Turnouts that are thrown move no train.

laid-occupied : (nodes : List Node) (r : RailwayState) (block : ℕ) (ts : List TrainState) → is_occupied (map (checked nodes r.network) ts) block ≡ is_occupied ts block
laid-occupied nodes r block [] = refl
laid-occupied nodes r block (t ∷ ts) =
    ap₂ (λ (one two : Bool). one || two) (ap (λ (under : List Bool). nat_lt block 64 && slice_index_or under block false) (checked-under nodes r.network t)) (laid-occupied nodes r block ts)

pub laid-sensed : (nodes : List Node) (r : RailwayState) (block : ℕ) → is_sensed (laid_in nodes r) block ≡ is_sensed r block
laid-sensed nodes r block = ap (λ (b : Bool). (b || Fails r.failing block) && not (IsFree r.failing block)) (laid-occupied nodes r block r.trains)

-- What is sensed before a time and after it is sensed in it.

pub before-sensed : (r : RailwayState) (micros : ℕ) (p : Power) (nodes : List Node) (block : ℕ) → is_sensed r block ≡ true → is_sensed_in r micros p nodes block ≡ true
before-sensed r micros p nodes block h = first-sensed p nodes micros (laid_in nodes r) block (laid-sensed nodes r block ∙ h)

pub after-sensed : (r : RailwayState) (micros : ℕ) (p : Power) (nodes : List Node) (block : ℕ) → is_sensed (elapsed r micros p nodes) block ≡ true → is_sensed_in r micros p nodes block ≡ true
after-sensed r micros p nodes block h = let all : micros ≤ micros = omega arith in moment-sensed p nodes micros micros (laid_in nodes r) block all h

pub sensed-at : (r : RailwayState) (micros : ℕ) (p : Power) (nodes : List Node) (block : ℕ) → is_sensed_in r micros p nodes block ≡ true → IsSensedAt r micros p nodes block
sensed-at r micros p nodes block h =
    let at = sensed-moment p nodes micros (laid_in nodes r) block h in
    record { moment = at.moment; within = at.within; sensed = at.sensed }

pub at-sensed : (r : RailwayState) (micros : ℕ) (p : Power) (nodes : List Node) (block : ℕ) → IsSensedAt r micros p nodes block → is_sensed_in r micros p nodes block ≡ true
at-sensed r micros p nodes block at = moment-sensed p nodes at.moment micros (laid_in nodes r) block at.within at.sensed

-- What is sensed is reported.

same-itself : (b : Bool) → same_bool b b ≡ true
same-itself true = refl
same-itself false = refl

onto-has : (sensor : ℕ) (level : Bool) (report : Option SensorReport) (reports : List SensorReport) → has_report sensor level reports ≡ true → has_report sensor level (onto report reports) ≡ true
onto-has sensor level None reports h = h
onto-has sensor level (Some report) reports h = or-right-true (report.sensor == sensor && same_bool report.occupied level) (has_report sensor level reports) h

own-has : (sensor : ℕ) (level was is : Bool) (reports : List SensorReport) → same_bool is level ≡ true → same_bool was level ≡ false → has_report sensor level (onto (change_of level (Some sensor) was is) reports) ≡ true
own-has sensor level was is reports h g =
    let changed : (same_bool is level && not (same_bool was level)) ≡ true = and_from (same_bool is level) (not (same_bool was level)) h (ap not g) in
    ap (λ (b : Bool). has_report sensor level (onto (if b then Some (record { sensor = sensor; occupied = level }) else None) reports)) changed
    ∙ or-left-true (sensor == sensor && same_bool level level) (has_report sensor level reports)
    (and_from (sensor == sensor) (same_bool level level) (eq-eqb sensor sensor refl) (same-itself level))

from-has : (level : Bool) (was is : ℕ → Bool) (k : ℕ) (blocks : List Block) (j sensor : ℕ) → j < length blocks → (slice_index_or blocks j default_block).sensor ≡ Some sensor
    → same_bool (is (k + j)) level ≡ true → same_bool (was (k + j)) level ≡ false → has_report sensor level (changes_from level was is k blocks) ≡ true
from-has level was is k [] j sensor within there h g = absurd (omega (arith, within))
from-has level was is k (block ∷ blocks) zero sensor within there h g =
    let here : k + 0 ≡ k = omega arith in
    ap (λ (own : Option ℕ). has_report sensor level (onto (change_of level own (was k) (is k)) (changes_from level was is (k + 1) blocks))) there
    ∙ own-has sensor level (was k) (is k) (changes_from level was is (k + 1) blocks) (subst (λ (m : ℕ). same_bool (is m) level ≡ true) here h) (subst (λ (m : ℕ). same_bool (was m) level ≡ false) here g)
from-has level was is k (block ∷ blocks) (suc j) sensor within there h g =
    let further : k + suc j ≡ k + 1 + j = omega arith in
    onto-has sensor level (change_of level block.sensor (was k) (is k)) (changes_from level was is (k + 1) blocks)
    (from-has level was is (k + 1) blocks j sensor (omega (arith, within)) there
    (subst (λ (m : ℕ). same_bool (is m) level ≡ true) further h) (subst (λ (m : ℕ). same_bool (was m) level ≡ false) further g))

through-has : (sensor : ℕ) (level : Bool) (these those : List SensorReport) → (has_report sensor level these || has_report sensor level those) ≡ true → has_report sensor level (these ++ those) ≡ true
through-has sensor level these those h = list_any-append (λ (report : SensorReport). report.sensor == sensor && same_bool report.occupied level) these those ∙ h

rises : (blocks : List Block) (was sensed is : ℕ → Bool) (j sensor : ℕ) → j < length blocks → (slice_index_or blocks j default_block).sensor ≡ Some sensor → was j ≡ false → sensed j ≡ true → has_report sensor true (changes_through blocks was sensed is) ≡ true
rises blocks was sensed is j sensor within there low high =
    through-has sensor true (changes_from true was sensed 0 blocks) (changes_from false sensed is 0 blocks)
    (or-left-true (has_report sensor true (changes_from true was sensed 0 blocks)) (has_report sensor true (changes_from false sensed is 0 blocks))
    (from-has true was sensed 0 blocks j sensor within there (ap (λ (b : Bool). same_bool b true) (at sensed true high)) (ap (λ (b : Bool). same_bool b true) (at was false low)))) where
      at : (f : ℕ → Bool) (b : Bool) → f j ≡ b → f (0 + j) ≡ b
      at f b h = let same : 0 + j ≡ j = omega arith in ap f same ∙ h

falls : (blocks : List Block) (was sensed is : ℕ → Bool) (j sensor : ℕ) → j < length blocks → (slice_index_or blocks j default_block).sensor ≡ Some sensor → sensed j ≡ true → is j ≡ false → has_report sensor false (changes_through blocks was sensed is) ≡ true
falls blocks was sensed is j sensor within there high low =
    through-has sensor false (changes_from true was sensed 0 blocks) (changes_from false sensed is 0 blocks)
    (or-right-true (has_report sensor false (changes_from true was sensed 0 blocks)) (has_report sensor false (changes_from false sensed is 0 blocks))
    (from-has false sensed is 0 blocks j sensor within there (ap (λ (b : Bool). same_bool b false) (at is false low)) (ap (λ (b : Bool). same_bool b false) (at sensed true high)))) where
      at : (f : ℕ → Bool) (b : Bool) → f j ≡ b → f (0 + j) ≡ b
      at f b h = let same : 0 + j ≡ j = omega arith in ap f same ∙ h

-- a part of a train in a block at a moment
part-sensed : (r : RailwayState) (micros moment : ℕ) (p : Power) (nodes : List Node) (i block : ℕ) (none : TrainState) → i < length r.trains → moment ≤ micros
    → occupies block (slice_index_or (elapsed r moment p nodes).trains i none) ≡ true → IsFree r.failing block ≡ false → is_sensed_in r micros p nodes block ≡ true
part-sensed r micros moment p nodes i block none within less here works =
    let start : RailwayState = laid_in nodes r in
    let there : RailwayState = run_through p moment nodes start in
    let count : length there.trains ≡ length start.trains = run-count p nodes moment start in
    let same : length start.trains ≡ length r.trains = length-map r.trains (checked nodes r.network) in
    let of_it : i < length there.trains = omega (arith, count, same, within) in
    let free : not (IsFree there.failing block) ≡ true = ap (λ (f : FailingSensors). not (IsFree f block)) (run_through-failing p nodes moment start) ∙ ap not works in
    moment-sensed p nodes moment micros start block less (train-sensed there i block none of_it here free)

pub reported-occupied : (r : RailwayState) (micros moment : ℕ) (p : Power) (nodes : List Node) (i block sensor : ℕ) (none : TrainState) → i < length r.trains → moment ≤ micros
    → occupies block (slice_index_or (elapsed r moment p nodes).trains i none) ≡ true → IsFree r.failing block ≡ false → block < length r.network.blocks
    → (slice_index_or r.network.blocks block default_block).sensor ≡ Some sensor → is_sensed r block ≡ false → has_report sensor true (reports_in r micros p nodes) ≡ true
reported-occupied r micros moment p nodes i block sensor none within less here works plan there low =
    rises r.network.blocks (is_sensed r) (is_sensed_in r micros p nodes) (is_sensed (elapsed r micros p nodes)) block sensor plan there low
    (part-sensed r micros moment p nodes i block none within less here works)

pub reported-free : (r : RailwayState) (micros moment : ℕ) (p : Power) (nodes : List Node) (i block sensor : ℕ) (none : TrainState) → i < length r.trains → moment ≤ micros
    → occupies block (slice_index_or (elapsed r moment p nodes).trains i none) ≡ true → IsFree r.failing block ≡ false → block < length r.network.blocks
    → (slice_index_or r.network.blocks block default_block).sensor ≡ Some sensor → is_sensed (elapsed r micros p nodes) block ≡ false → has_report sensor false (reports_in r micros p nodes) ≡ true
reported-free r micros moment p nodes i block sensor none within less here works plan there low =
    falls r.network.blocks (is_sensed r) (is_sensed_in r micros p nodes) (is_sensed (elapsed r micros p nodes)) block sensor plan there
    (part-sensed r micros moment p nodes i block none within less here works) low
