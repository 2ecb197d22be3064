use Rattle.std.proofs.Common.{ℕ, List, Option, None, Some, ap, drop, length, refl, take, ◌∙◌}
use Rattle.std.specs.List.{slice_index_or}
use Rattle.bus_server.specs.Snapshots.{state_of}
use Rattle.bus_server.specs.SendQueue.{is_within_capacity, queued}
use Rattle.bus_server.specs.SendQueues.{SendQueues}
use Rattle.std.specs.List.{list_all}
use Rattle.std.proofs.lemmas.List.{length-set}
use Rattle.bus_server.proofs.Keeping.{room_at, room_set}
use Rattle.bus_server.proofs.Placing.{within_capacity-dropped}
use Rattle.bus_server.proofs.Going.{piece_of, some_of}
use Rattle.bus_server.proofs.hub.Hub.write.Goals as goal

pub returns-in-Bytes-clause-wrote : goal.returns-in-Bytes-clause-wrote
returns-in-Bytes-clause-wrote g c =
    let client = c.args.client in
    let send_queue : Option (List ℕ) = slice_index_or c.args.self.now.queues client None in
    let bytes : List ℕ = take c.in-Bytes.count c.front-piece.result.now in (
      bytes,
      c.in-Bytes.ensures.log,
      (
        refl,
        drop c.in-Bytes.count (queued send_queue),
        piece_of send_queue c.front-piece.result.now c.in-Bytes.count c.front-piece.ensures.front (some_of (length c.front-piece.result.now) c.if-is_empty.ensures) c.in-Bytes.ensures.within.1,
        ap (λ (queues : SendQueues). record (state_of c.args.self.now) { queues = queues }) c.consume.ensures,
      ),
    )

pub invariant_of-self : goal.invariant_of-self
invariant_of-self g c =
    let old = c.args.self.now in
    let client = c.args.client in
    let rest : Option (List ℕ) = Some (drop c.in-Bytes.count (queued (slice_index_or old.queues client None))) in
    record {
      eight = ap length c.consume.ensures ∙ length-set old.queues client rest ∙ old.eight;
      within_capacity = ap (list_all is_within_capacity) c.consume.ensures ∙ room_set old.queues client rest old.within_capacity (within_capacity-dropped c.in-Bytes.count (slice_index_or old.queues client None) (room_at old.queues client old.within_capacity));
      first = old.first;
      paced = old.paced;
      named = old.named;
    }
