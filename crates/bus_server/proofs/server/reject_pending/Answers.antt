use Rattle.std.proofs.Common.{◌≡◌, ◌∷◌, ◌++◌, [], Bool, false, ℕ, List, append-nil, arith, if◌then◌else◌, ne_eqb, replicate, subst, sym, ◌∙◌, ap}
use Rattle.std.specs.Prelude.{◌==◌}
use Rattle.bus.specs.Log.{Extends}
use Rattle.bus_server.specs.TransportEvents.{NonePending, TransportEvent, Refused}
use Rattle.bus_server.proofs.Going.{grows_more}
use Rattle.bus_server.proofs.Keeping.{one_turned_more}
use Rattle.bus_server.proofs.server.reject_pending.Goals as goal

pub loop-refused-preserved : goal.loop-refused-preserved
loop-refused-preserved g c =
    let log = g.W.Transport.log in
    let first = c.loop-refused in
    let away = rw c.if-not-reject.false at c.reject.ensures in
    subst (λ (all : List TransportEvent). Extends (log c.args.transport.now) (log c.reject.new.self) all) (one_turned_more first.refused)
    (grows_more (log c.args.transport.now) (log first.transport) (log c.reject.new.self) (replicate first.refused Refused) (Refused ∷ []) first.invariant away)

pub returns-then-not-reject : goal.returns-then-not-reject
returns-then-not-reject g c =
    let log = g.W.Transport.log in
    let first = c.loop-refused in
    let nobody = rw c.if-not-reject.true at c.reject.ensures in
    let fewer : (first.refused == 8) ≡ false = ne_eqb first.refused 8 (λ same. omega (arith, same, first.auto.refused-end, c.loop-refused-test.true)) in
    subst (λ (eight : Bool). Extends (log c.args.transport.now) (log c.reject.new.self) (replicate first.refused Refused ++ (if eight then [] else NonePending ∷ []))) (sym fewer)
    (grows_more (log c.args.transport.now) (log first.transport) (log c.reject.new.self) (replicate first.refused Refused) (NonePending ∷ []) first.invariant nobody)

pub returns : goal.returns
returns g c =
    let log = g.W.Transport.log in
    let first = c.loop-refused in
    let eight : first.refused ≡ 8 = omega (arith, first.auto.refused-end, c.loop-refused-test.false) in
    subst (λ (all : List TransportEvent). Extends (log c.args.transport.now) (log first.transport) all) (ap (λ (n : ℕ). replicate n Refused) eight ∙ sym (append-nil (replicate 8 Refused))) first.invariant
