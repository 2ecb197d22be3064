-- No train is faster than at its last step, so none passes a block unseen in the time of a turn.
use Rattle.std.proofs.Common.{◌≡◌, ℕ, zero, suc, ◌+◌, ◌-◌, ◌*◌, ◌<◌, ◌≤◌, Bool, true, false, List, [], ◌∷◌, Option, Some, None, length, refl, ap, ◌∙◌, arith}
use Rattle.std.proofs.Math.Nat.{mul-le-mul_left, mul-suc}
use Rattle.std.proofs.lemmas.Bool.{and_from, and_parts, le-leb, leb-true}
use Rattle.std.proofs.lemmas.Bool.Decides.{nat_tests}
use Rattle.std.specs.List.{slice_index_or}
use Rattle.std.specs.Prelude.{if◌then◌else◌, min, nat_le, not}
use Rattle.dcc_packet.specs.declared.steps.Motion.{Motion}
use Rattle.dcc_packet.specs.declared.steps.Motion.TheVariants.{Stop, Emergency, Step}
use Rattle.dcc_packet.specs.declared.steps.Steps.TheVariants.{S14, S28, S128}
use Rattle.decoder_node.specs.declared.running.Running.{Running}
use Rattle.layout_core.specs.declared.node.Node.{Node}
use Rattle.motion.specs.Velocity.{next_velocity, next_velocity_by, toward, velocity, way}
use Rattle.motion.specs.declared.velocity.Drive.{Drive}
use Rattle.motion.specs.declared.velocity.Momentum.{Momentum}
use Rattle.motion.specs.declared.velocity.Velocity.{Velocity}
use Rattle.railway.specs.declared.block.Block.{Block}
use Rattle.railway.specs.declared.train.TrainState.{TrainState}
use Rattle.railway.specs.Blocks.{default_block, length_of}
use Rattle.railway.specs.Laws.{asked_of, way_of}
use Rattle.railway.specs.Network.{Network}
use Rattle.railway.specs.Passing.{is_slow, longest_turn, passes_none, passes_unseen, top_speed}
use Rattle.railway.specs.Places.{span, still}
use Rattle.railway.specs.Running.{ridden, rode}
use Rattle.railway.specs.Trains.{running_in, speed_at, speed_of}
use Rattle.railway.proofs.Riding.{Same, by-slow, moved-by, ridden-keeps}

-- A speed is never passed that is at least that of a train and that asked for.

toward-most : (a b s t most : ℕ) → s ≤ most → t ≤ most → toward a b s t ≤ most
toward-most a b s t most h g = grind (arith, nat_tests, h, g)

next-most : (d : Drive) (v : Velocity) (most : ℕ) → d.speed ≤ most → v.speed ≤ most → (next_velocity d v).speed ≤ most
next-most d v most h g = by d.momentum where
  eased : (r : Momentum) (facing : Bool)
      → (if facing then velocity d.forward (toward r.acceleration r.braking v.speed d.speed) else velocity v.forward (v.speed - r.braking)).speed ≤ most
  eased r true = toward-most r.acceleration r.braking v.speed d.speed most g h
  eased r false = omega (arith, g)

  by : (o : Option Momentum) → (next_velocity_by o d v).speed ≤ most
  by None = h
  by (Some r) = eased r _

way-most : (d : Drive) (k : ℕ) (v : Velocity) (most : ℕ) → d.speed ≤ most → v.speed ≤ most → way d k v ≤ most * k
unfolding way
way-most d zero v most h g = omega arith
way-most d (suc k) v most h g =
    let next : (next_velocity d v).speed ≤ most = next-most d v most h g in
    let rest : way d k (next_velocity d v) ≤ most * k = way-most d k (next_velocity d v) most h next in
    let all : most * suc k ≡ most * k + most = mul-suc most k in
    omega (arith, next, rest, all)

-- A decoder asks for no more than the speed at the last step.

step-most : (top most n : ℕ) → top * min n most ≤ top * most
step-most top most n = let less : min n most ≤ most = grind (arith, nat_tests) in mul-le-mul_left top less

at-most : (top : ℕ) (motion : Motion) → speed_at top motion ≤ top * 1000000
at-most top Stop = omega arith
at-most top Emergency = omega arith
at-most top (Step S14 n) = let less = step-most (top * 1000000) 14 n in omega (arith, less)
at-most top (Step S28 n) = let less = step-most (top * 1000000) 28 n in omega (arith, less)
at-most top (Step S128 n) = let less = step-most (top * 1000000) 126 n in omega (arith, less)

of-most : (top : ℕ) (running : Option Running) → speed_of top running ≤ top * 1000000
of-most top None = omega arith
of-most top (Some running) = at-most top running.motion

rode-most : (n : Network) (d : Drive) (u : TrainState) (most : ℕ) → d.speed ≤ most → u.velocity.speed ≤ most → (rode n d u).velocity.speed ≤ most
rode-most n d u most h g =
    let next : Velocity = next_velocity d u.velocity in
    moved-by (λ (w : TrainState). w.velocity.speed ≤ most) n next next.speed u g
    (λ _. by-slow n next.forward next.speed most (record u { velocity = next }) (next-most d u.velocity most h g))

-- So a train stays slow.

pub record Slow (blocks : List Block) (t : TrainState) : Type 0 where
  pub speed : t.velocity.speed ≤ t.top * 1000000
  pub passes : passes_none blocks t.top t.length ≡ true

pub slow-of : (blocks : List Block) (t : TrainState) → is_slow blocks t ≡ true → Slow blocks t
slow-of blocks t h =
    let parts = and_parts (nat_le t.velocity.speed (top_speed t)) (passes_none blocks t.top t.length) h in
    record { speed = leb-true t.velocity.speed (top_speed t) parts.0; passes = parts.1 }

pub slow-from : (blocks : List Block) (t : TrainState) → Slow blocks t → is_slow blocks t ≡ true
slow-from blocks t h =
    and_from (nat_le t.velocity.speed (top_speed t)) (passes_none blocks t.top t.length) (le-leb t.velocity.speed (top_speed t) h.speed) h.passes

pub still-slow : (blocks : List Block) (t : TrainState) → is_slow blocks t ≡ true → is_slow blocks (still t) ≡ true
still-slow blocks t h = slow-from blocks (still t) (record { speed = omega arith; passes = (slow-of blocks t h).passes })

pub ridden-slow : (n : Network) (nodes : List Node) (micros : ℕ) (blocks : List Block) (t : TrainState) → Same t (ridden n (asked_of nodes t) micros t) → is_slow blocks t ≡ true → is_slow blocks (ridden n (asked_of nodes t) micros t) ≡ true
ridden-slow n nodes micros blocks t same h =
    let u : TrainState = ridden n (asked_of nodes t) micros t in
    let is = slow-of blocks t h in
    let most : u.velocity.speed ≤ t.top * 1000000 =
    ridden-keeps (λ (w : TrainState). w.velocity.speed ≤ t.top * 1000000) n (asked_of nodes t) micros t
    (λ w one. rode-most n (asked_of nodes t) w (t.top * 1000000) (of-most t.top (running_in nodes t.decoder)) one) is.speed in
    let top : u.top ≡ t.top = same.top in
    slow-from blocks u (record {
      speed = omega (arith, most, top);
      passes = ap (λ (k : ℕ). passes_none blocks k u.length) same.top ∙ ap (λ (k : ℕ). passes_none blocks t.top k) same.length ∙ is.passes;
    })

-- It goes no farther than it and a block together are long.

passes-at : (blocks : List Block) (top size block : ℕ) → passes_none blocks top size ≡ true → block < length blocks → passes_unseen top size (slice_index_or blocks block default_block).length ≡ false
passes-at [] top size block h within = absurd (omega (arith, within))
passes-at (first ∷ blocks) top size zero h within =
    let parts = and_parts (not (passes_unseen top size first.length)) (passes_none blocks top size) h in
    by (passes_unseen top size first.length) parts.0 where
      by : (b : Bool) → not b ≡ true → b ≡ false
      by true e = cc
      by false e = refl
passes-at (first ∷ blocks) top size (suc block) h within =
    passes-at blocks top size block (and_parts (not (passes_unseen top size first.length)) (passes_none blocks top size) h).1 (omega (arith, within))

pub goes-short : (blocks : List Block) (block micros : ℕ) (nodes : List Node) (t : TrainState) → is_slow blocks t ≡ true → nat_le 1 t.length ≡ true → block < length blocks → micros ≤ longest_turn
    → way_of nodes micros t ≤ span t + length_of blocks block
goes-short blocks block micros nodes t slow size within time =
    let is = slow-of blocks t slow in
    let long : ℕ = (slice_index_or blocks block default_block).length in
    let passes : passes_unseen t.top t.length long ≡ false = passes-at blocks t.top t.length block is.passes within in
    let less : t.top * 10740 < (t.length + long) * 1000000 = grind (arith, nat_tests, passes) in
    let far : way_of nodes micros t ≤ t.top * 1000000 * micros = way-most (asked_of nodes t) micros t.velocity (t.top * 1000000) (of-most t.top (running_in nodes t.decoder)) is.speed in
    let most : t.top * 1000000 * micros ≤ t.top * 1000000 * 10740 = mul-le-mul_left (t.top * 1000000) time in
    let long_enough : 1 ≤ t.length = leb-true 1 t.length size in
    omega (arith, far, most, less, long_enough)
