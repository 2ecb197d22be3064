use Rattle.std.proofs.Common.{◌≡◌, ◌*◌, ◌+◌, ◌^◌, ◌<◌, ◌≤◌, ℕ, List, [], ◌++◌, length, take, refl, ap, sym, subst, ◌∙◌, arith, rules}
use Rattle.std.proofs.lemmas.Bool.{ne_eqb}
use Rattle.std.proofs.lemmas.List.{append-nil}
use Rattle.std.specs.Io.KnownBytes.{Consumes}
use Rattle.station_core.specs.declared.call.Step.{Step}
use Rattle.layout_core.specs.declared.engine.ServeFault.{ServeFault}
use Rattle.layout_core.specs.declared.engine.ServeFault.TheVariants.{TooManyReads}
use Rattle.layout_core.specs.declared.event.Event.{Event}
use Rattle.layout_core.specs.Faults.{HasFaulted, StopsWithin, is_read}
use Rattle.layout_core.specs.Served.{Input, Moment, input_of, moment_of, served_events, turns_in}
use Rattle.layout_core.specs.Played.{answers_to}
use Rattle.layout_core.proofs.Counting.{chunk_fits, counted_more, few_of, room_behind, served_length}
use Rattle.layout_core.proofs.ServeSteps.{reads_chunk, reads_end, reads_failed, reads_none, served-append, serves_none, serves_then, turns_served}
use Rattle.layout_core.proofs.Stopping.{ended_passed_up, no_limit_stops, no_read_stops, passed_up, same_passed_up, stop_heard, stops_leave, stops_then}
use Rattle.layout_core.proofs.engine.serve.Goals as goal

pub loop-reads-init : goal.loop-reads-init
loop-reads-init g c = record {
  served = ([], reads_none _, refl, serves_none c.args.line _);
  whole = refl;
  open_still = c.requires.open;
  source_works = c.requires.source_works;
  sink_works = c.requires.sink_works;
  trace_works = c.requires.trace_works;
}

pub loop-reads-preserved : goal.loop-reads-preserved
loop-reads-preserved g c =
    let chunk = take c.in-Ok.n c.get.new.buf in
    let so_far = c.loop-reads.invariant.served in
    record {
      served = (
        so_far.0 ++ chunk,
        reads_chunk c.loop-reads.reads c.in-Ok.n so_far.0 c.get.new.buf _ _ _ so_far.1 c.in-Ok.ensures.bytes.0 c.get.ensures.counted c.in-Ok.ensures.bound (c.get.auto.buf ∙ c.loop-reads.invariant.whole),
        counted_more c.loop-reads.bytes c.in-Ok.n so_far.0 c.get.new.buf so_far.2 c.in-Ok.ensures.bound,
        serves_then c.args.line _ _ _ _ _ _ (served-append c.args.line c.args.limits.turns so_far.0 chunk) so_far.3 c.in_ok-serve_bytes.ensures.0,
      );
      whole = c.get.auto.buf ∙ c.loop-reads.invariant.whole;
      open_still = c.in-Ok.ensures.end ∙ ne_eqb _ _ c.if-n-eq0.false;
      source_works = c.in-Ok.ensures.failed_ok ∙ c.loop-reads.invariant.source_works;
      sink_works = c.in_ok-serve_bytes.ensures.1;
      trace_works = c.in_ok-serve_bytes.ensures.2;
    }

pub returns-then-n-eq0-clause-served : goal.returns-then-n-eq0-clause-served
returns-then-n-eq0-clause-served g c =
    let so_far = c.loop-reads.invariant.served in
    let end : Consumes (g.S.Source.left c.loop-reads.source) (g.S.Source.left c.get.new.self) [] =
    subst (λ (n : ℕ). Consumes (g.S.Source.left c.loop-reads.source) (g.S.Source.left c.get.new.self) (take n c.get.new.buf)) c.if-n-eq0.true c.in-Ok.ensures.bytes.0 in
    (so_far.0, reads_end c.loop-reads.reads so_far.0 _ _ _ so_far.1 end c.get.ensures.counted, so_far.2, so_far.3, c.headline.ensures.headline c.args.world.now.station (served_events c.args.line c.args.limits.turns so_far.0) c.args.world.now.nodes c.loop-reads.world.nodes c.always_legal.ensures.desk so_far.3.nodes)

pub returns-then-n-eq0-clause-turns : goal.returns-then-n-eq0-clause-turns
returns-then-n-eq0-clause-turns g c =
    let so_far = c.loop-reads.invariant.served in
    let steps : List Step = answers_to c.args.world.now.station (served_events c.args.line c.args.limits.turns so_far.0) in
    let all : turns_in steps ≡ c.args.limits.turns * c.loop-reads.bytes =
    turns_served c.calls_are_moves.ensures.to_byte c.calls_are_moves.ensures.to_turn c.args.line c.args.limits.turns so_far.0 c.args.world.now.station ∙ ap (λ (n : ℕ). c.args.limits.turns * n) (sym so_far.2) in
    let counted : c.loop-reads.counts.turns ≡ 0 + turns_in steps = so_far.3.turns in
    omega (arith, counted, all)

pub returns-in_default-clause-faulted : goal.returns-in_default-clause-faulted
returns-in_default-clause-faulted g c =
    let so_far = c.loop-reads.invariant.served in (
      c.loop-reads.reads + 1,
      c.loop-reads.counts.replies,
      c.loop-reads.counts.turns,
      so_far.0,
      served_events c.args.line c.args.limits.turns so_far.0,
      reads_failed c.loop-reads.reads so_far.0 _ _ _ so_far.1 c.in_default.ensures.bytes c.get.ensures.counted,
      (refl, so_far.3),
      c.headline.ensures.headline c.args.world.now.station (served_events c.args.line c.args.limits.turns so_far.0) c.args.world.now.nodes c.loop-reads.world.nodes c.always_legal.ensures.desk so_far.3.nodes,
    )

pub returns-in_err-serve_bytes-clause-faulted : goal.returns-in_err-serve_bytes-clause-faulted
returns-in_err-serve_bytes-clause-faulted g c =
    let chunk = take c.in-Ok.n c.get.new.buf in
    let so_far = c.loop-reads.invariant.served in
    let first : Input = input_of (g.S.Source.left c.args.source.now) (g.S.Source.reads c.args.source.now) in
    let after : Input = input_of (g.S.Source.left c.get.new.self) (g.S.Source.reads c.get.new.self) in
    let old : Moment = moment_of c.args.world.now (g.K.Sink.held c.args.sink.now) (g.T.Sink.held c.args.trace.now) 0 0 in
    let new : Moment = moment_of c.serve_bytes.new.world (g.K.Sink.held c.serve_bytes.new.sink) (g.T.Sink.held c.serve_bytes.new.trace) c.serve_bytes.new.counts.replies c.serve_bytes.new.counts.turns in
    let front : List Event = served_events c.args.line c.args.limits.turns so_far.0 in
    let now : List Event = served_events c.args.line c.args.limits.turns chunk in
    let all : List Event = served_events c.args.line c.args.limits.turns (so_far.0 ++ chunk) in
    let parts : all ≡ front ++ (now ++ []) = served-append c.args.line c.args.limits.turns so_far.0 chunk ∙ ap (λ (events : List Event). front ++ events) (sym (append-nil now)) in
    let fault : ServeFault = c.in_err-serve_bytes.field-0.0 in
    let stop : StopsWithin fault c.args.line all old new = stops_then fault c.args.line all front now [] old _ new parts so_far.3 c.in_err-serve_bytes.ensures.0 in
    passed_up c.from_residual.result fault
    (λ (e : ServeFault). HasFaulted e c.args.line c.args.limits.turns first after old c.serve_bytes.new.world (g.K.Sink.held c.serve_bytes.new.sink) (g.T.Sink.held c.serve_bytes.new.trace))
    c.from_residual.ensures.1 (
      c.loop-reads.reads + 1,
      c.serve_bytes.new.counts.replies,
      c.serve_bytes.new.counts.turns,
      so_far.0 ++ chunk,
      stop.0,
      reads_chunk c.loop-reads.reads c.in-Ok.n so_far.0 c.get.new.buf _ _ _ so_far.1 c.in-Ok.ensures.bytes.0 c.get.ensures.counted c.in-Ok.ensures.bound (c.get.auto.buf ∙ c.loop-reads.invariant.whole),
      stops_leave fault c.args.line all old new stop,
      c.headline.ensures.headline c.args.world.now.station stop.0 c.args.world.now.nodes c.serve_bytes.new.world.nodes c.always_legal.ensures.desk (stop_heard fault c.args.line all old new stop),
    )

pub returns-clause-faulted : goal.returns-clause-faulted
returns-clause-faulted g c =
    let so_far = c.loop-reads.invariant.served in
    let done : List Event = served_events c.args.line c.args.limits.turns so_far.0 in (
      c.loop-reads.reads,
      c.loop-reads.counts.replies,
      c.loop-reads.counts.turns,
      so_far.0,
      done,
      so_far.1,
      (refl, so_far.3),
      c.headline.ensures.headline c.args.world.now.station done c.args.world.now.nodes c.loop-reads.world.nodes c.always_legal.ensures.desk so_far.3.nodes,
    )

pub returns-in_err-serve_bytes-clause-too_many : goal.returns-in_err-serve_bytes-clause-too_many
returns-in_err-serve_bytes-clause-too_many g c is =
    absurd (no_limit_stops c.in_err-serve_bytes.field-0.0 _ _ _ _ c.in_err-serve_bytes.ensures.0 (same_passed_up c.from_residual.result c.in_err-serve_bytes.field-0.0 TooManyReads c.from_residual.ensures.1 is))

pub returns-in_err-serve_bytes-clause-source_failed : goal.returns-in_err-serve_bytes-clause-source_failed
returns-in_err-serve_bytes-clause-source_failed g c =
    (c.in-Ok.ensures.failed_ok ∙ c.loop-reads.invariant.source_works)
    ∙ sym (ended_passed_up c.from_residual.result c.in_err-serve_bytes.field-0.0 is_read c.from_residual.ensures.1 ∙ no_read_stops c.in_err-serve_bytes.field-0.0 _ _ _ _ c.in_err-serve_bytes.ensures.0)

pub serve_bytes-requires-clause-room : goal.serve_bytes-requires-clause-room
serve_bytes-requires-clause-room g c =
    let so_far = c.loop-reads.invariant.served in
    let chunk = take c.in-Ok.n c.get.new.buf in
    let few : length chunk ≤ 64 = few_of c.in-Ok.n c.get.new.buf c.in-Ok.ensures.bound (c.get.auto.buf ∙ c.loop-reads.invariant.whole) in
    let made : c.loop-reads.reads < 4294967296 = omega (arith, c.loop-reads-test.true) in
    let small : c.args.limits.turns < 256 = search rules in
    let most : 0 + (256 * length so_far.0 + 256 * length chunk) < 2 ^ 64 = chunk_fits c.loop-reads.reads (length so_far.0) (length chunk) made so_far.1.few few in
    room_behind (256 * length chunk) (256 * length so_far.0 + 256 * length chunk) _ _ (record { replies = 0; turns = 0 }) c.loop-reads.counts _ _ _ _ _ _
    (omega (arith, served_length c.args.line c.args.limits.turns so_far.0 small)) (record { replies = most; turns = most }) so_far.3
