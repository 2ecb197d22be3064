use Rattle.std.proofs.Common.{◌<◌, ◌∷◌, ◌++◌, [], ℕ, List, Some, None, length, set, sym, subst, ◌≡◌}
use Rattle.std.specs.List.{refill}
use Rattle.std.specs.Prelude.{slice_index_or}
use Rattle.std.specs.Option.{option_to_list}
use Rattle.ln_frame.specs.Stream.{messages_of}
use Rattle.ln_ops.specs.Message.{op_of}
use Rattle.slot_table.specs.Desk.{IsDesk}
use Rattle.station_core.specs.Station.{after_byte, answer_to_byte, message_ended}
use Rattle.station_core.specs.Seen.{Seen, line_of, seen_with}
use Rattle.station_core.proofs.Framed.{stays_station}
use Rattle.station_core.proofs.Heard.{Heard, heard_by, kept_count, kept_messages, quiet_reply, quiet_state, told_reply, told_state}
use Rattle.station_core.proofs.station.Station.byte.Goals as goal
use Rattle.station_core.proofs.station.Station.byte.Goals.{In-None, After-carry_out_op}

pub invariant_of-self : goal.invariant_of-self
invariant_of-self c =
    stays_station c.self.inside.framers.items c.deref_mut.result.now c.args.line (slice_index_or c.deref_mut.result.now c.args.line c.index-deref_mut-line.result ++ c.args.byte ∷ []) c.push.new.self c.self.inside.table c.self.inside.schedule c.self.invariant
    (subst (λ (seen : Seen). c.args.line < length seen.lines) (sym c.self.view_is) c.requires) c.deref_mut.ensures.value c.left_is_enough.ensures.once c.push.ensures.unfinished

pub invariant_of-self-in-None : goal.invariant_of-self-in-None
invariant_of-self-in-None c =
    stays_station c.self.inside.framers.items c.deref_mut.result.now c.args.line (slice_index_or c.deref_mut.result.now c.args.line c.index-deref_mut-line.result ++ c.args.byte ∷ []) c.push.new.self c.self.inside.table c.self.inside.schedule c.self.invariant
    (subst (λ (seen : Seen). c.args.line < length seen.lines) (sym c.self.view_is) c.requires) c.deref_mut.ensures.value c.left_is_enough.ensures.once c.push.ensures.unfinished

pub returns-in-None-clause-changes_queued : goal.returns-in-None-clause-changes_queued
returns-in-None-clause-changes_queued c = λ message ended. c.changes_wait.ensures c.args.self.now (op_of message)

pub returns-in-None-clause-desk : goal.returns-in-None-clause-desk
returns-in-None-clause-desk c = subst (λ (seen : Seen). IsDesk seen.powered.desk) c.self.view_is c.self.invariant.in_step.desk

pub returns-in-Some-clause-changes_queued : goal.returns-in-Some-clause-changes_queued
returns-in-Some-clause-changes_queued c = λ message ended. c.changes_wait.ensures c.args.self.now (op_of message)

pub returns-in-Some-clause-desk : goal.returns-in-Some-clause-desk
returns-in-Some-clause-desk c = subst (λ (seen : Seen). IsDesk seen.powered.desk) c.self.view_is c.self.invariant.in_step.desk

quiet : (c : In-None) → Heard (seen_with c.self.inside.framers.items (record { power = c.self.inside.power; desk = c.self.inside.table }) c.self.inside.schedule) c.args.line c.args.byte (refill (length c.self.inside.framers.items) c.self.inside.framers.items (set c.deref_mut.result.now c.args.line c.push.new.self)) None
quiet c =
    heard_by c.self.inside.framers.items c.deref_mut.result.now (record { power = c.self.inside.power; desk = c.self.inside.table }) c.self.inside.schedule c.args.line c.args.byte c.index-deref_mut-line.result c.push.new.self c.push.result None c.deref_mut.ensures.value
    (subst (λ (seen : Seen). c.args.line < length seen.lines) (sym c.self.view_is) c.requires)
    c.push.ensures.given c.push.ensures.unfinished c.push.ensures.further c.in-None.is

reported : (c : After-carry_out_op) → Heard (seen_with c.self.inside.framers.items (record { power = c.self.inside.power; desk = c.self.inside.table }) c.self.inside.schedule) c.args.line c.args.byte (refill (length c.self.inside.framers.items) c.self.inside.framers.items (set c.deref_mut.result.now c.args.line c.push.new.self)) (Some c.in-Some.message)
reported c =
    heard_by c.self.inside.framers.items c.deref_mut.result.now (record { power = c.self.inside.power; desk = c.self.inside.table }) c.self.inside.schedule c.args.line c.args.byte c.index-deref_mut-line.result c.push.new.self c.push.result (Some c.in-Some.message) c.deref_mut.ensures.value
    (subst (λ (seen : Seen). c.args.line < length seen.lines) (sym c.self.view_is) c.requires)
    c.push.ensures.given c.push.ensures.unfinished c.push.ensures.further c.in-Some.is

pub returns-in-None-clause-reply : goal.returns-in-None-clause-reply
returns-in-None-clause-reply c =
    subst (λ (seen : Seen). None ≡ answer_to_byte seen c.args.line c.args.byte) c.self.view_is
    (quiet_reply c.self.inside.framers.items (record { power = c.self.inside.power; desk = c.self.inside.table }) c.self.inside.schedule c.args.line c.args.byte
    (refill (length c.self.inside.framers.items) c.self.inside.framers.items (set c.deref_mut.result.now c.args.line c.push.new.self)) (quiet c))

pub returns-in-None-clause-state : goal.returns-in-None-clause-state
returns-in-None-clause-state c =
    subst (λ (seen : Seen). seen_with (refill (length c.self.inside.framers.items) c.self.inside.framers.items (set c.deref_mut.result.now c.args.line c.push.new.self)) (record { power = c.self.inside.power; desk = c.self.inside.table }) c.self.inside.schedule ≡ after_byte seen c.args.line c.args.byte) c.self.view_is
    (quiet_state c.self.inside.framers.items (record { power = c.self.inside.power; desk = c.self.inside.table }) c.self.inside.schedule c.args.line c.args.byte
    (refill (length c.self.inside.framers.items) c.self.inside.framers.items (set c.deref_mut.result.now c.args.line c.push.new.self)) (quiet c))

pub returns-in-None-clause-lines : goal.returns-in-None-clause-lines
returns-in-None-clause-lines c =
    subst (λ (seen : Seen). length (refill (length c.self.inside.framers.items) c.self.inside.framers.items (set c.deref_mut.result.now c.args.line c.push.new.self)) ≡ length seen.lines) c.self.view_is
    (kept_count (seen_with c.self.inside.framers.items (record { power = c.self.inside.power; desk = c.self.inside.table }) c.self.inside.schedule) (seen_with (refill (length c.self.inside.framers.items) c.self.inside.framers.items (set c.deref_mut.result.now c.args.line c.push.new.self)) (record { power = c.self.inside.power; desk = c.self.inside.table }) c.self.inside.schedule) c.args.line c.args.byte
    (quiet_state c.self.inside.framers.items (record { power = c.self.inside.power; desk = c.self.inside.table }) c.self.inside.schedule c.args.line c.args.byte
    (refill (length c.self.inside.framers.items) c.self.inside.framers.items (set c.deref_mut.result.now c.args.line c.push.new.self)) (quiet c)))

pub returns-in-None-clause-sendable : goal.returns-in-None-clause-sendable
returns-in-None-clause-sendable c = tt

pub returns-in-None-clause-further : goal.returns-in-None-clause-further
returns-in-None-clause-further c =
    subst (λ (seen : Seen). (z : List ℕ) → messages_of (line_of seen c.args.line ++ c.args.byte ∷ z) ≡ option_to_list (message_ended seen c.args.line c.args.byte) ++ messages_of (line_of (seen_with (refill (length c.self.inside.framers.items) c.self.inside.framers.items (set c.deref_mut.result.now c.args.line c.push.new.self)) (record { power = c.self.inside.power; desk = c.self.inside.table }) c.self.inside.schedule) c.args.line ++ z)) c.self.view_is
    (kept_messages (seen_with c.self.inside.framers.items (record { power = c.self.inside.power; desk = c.self.inside.table }) c.self.inside.schedule) (seen_with (refill (length c.self.inside.framers.items) c.self.inside.framers.items (set c.deref_mut.result.now c.args.line c.push.new.self)) (record { power = c.self.inside.power; desk = c.self.inside.table }) c.self.inside.schedule) c.args.line c.args.byte
    (quiet_state c.self.inside.framers.items (record { power = c.self.inside.power; desk = c.self.inside.table }) c.self.inside.schedule c.args.line c.args.byte
    (refill (length c.self.inside.framers.items) c.self.inside.framers.items (set c.deref_mut.result.now c.args.line c.push.new.self)) (quiet c))
    (refill (length c.self.inside.framers.items) c.self.inside.framers.items (set c.deref_mut.result.now c.args.line c.push.new.self)) None (quiet c) (subst (λ (seen : Seen). c.args.line < length seen.lines) (sym c.self.view_is) c.requires))

pub returns-in-Some-clause-reply : goal.returns-in-Some-clause-reply
returns-in-Some-clause-reply c =
    subst (λ (seen : Seen). c.carry_out_op.result ≡ answer_to_byte seen c.args.line c.args.byte) c.self.view_is
    (told_reply c.self.inside.framers.items (record { power = c.self.inside.power; desk = c.self.inside.table }) c.self.inside.schedule c.args.line c.args.byte
    (refill (length c.self.inside.framers.items) c.self.inside.framers.items (set c.deref_mut.result.now c.args.line c.push.new.self)) c.in-Some.message c.read.result c.carry_out_op.result (reported c) c.read.ensures.op c.carry_out_op.ensures.reply)

told_state_of : (c : After-carry_out_op) → c.carry_out_op.new.self ≡ after_byte c.args.self.now c.args.line c.args.byte
told_state_of c =
    subst (λ (seen : Seen). c.carry_out_op.new.self ≡ after_byte seen c.args.line c.args.byte) c.self.view_is
    (told_state c.self.inside.framers.items (record { power = c.self.inside.power; desk = c.self.inside.table }) c.self.inside.schedule c.args.line c.args.byte
    (refill (length c.self.inside.framers.items) c.self.inside.framers.items (set c.deref_mut.result.now c.args.line c.push.new.self)) c.in-Some.message c.read.result c.carry_out_op.new.self (reported c) c.read.ensures.op c.carry_out_op.ensures.state)

pub returns-in-Some-clause-state : goal.returns-in-Some-clause-state
returns-in-Some-clause-state c = told_state_of c

pub returns-in-Some-clause-lines : goal.returns-in-Some-clause-lines
returns-in-Some-clause-lines c = kept_count c.args.self.now c.carry_out_op.new.self c.args.line c.args.byte (told_state_of c)

pub returns-in-Some-clause-sendable : goal.returns-in-Some-clause-sendable
returns-in-Some-clause-sendable c = c.carry_out_op.ensures.sendable

pub returns-in-Some-clause-further : goal.returns-in-Some-clause-further
returns-in-Some-clause-further c =
    kept_messages c.args.self.now c.carry_out_op.new.self c.args.line c.args.byte (told_state_of c)
    (refill (length c.self.inside.framers.items) c.self.inside.framers.items (set c.deref_mut.result.now c.args.line c.push.new.self)) (Some c.in-Some.message)
    (subst (λ (seen : Seen). Heard seen c.args.line c.args.byte (refill (length c.self.inside.framers.items) c.self.inside.framers.items (set c.deref_mut.result.now c.args.line c.push.new.self)) (Some c.in-Some.message)) c.self.view_is (reported c))
    c.requires
