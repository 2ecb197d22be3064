-- The turns that are due: those that follow a client's message, or that it requested.
use Rattle.std.specs.Prelude.{ℕ, ◌-◌, ◌==◌, ◌&&◌, ◌||◌, nat_lt, Bool, true, false, if◌then◌else◌, List, [], slice_set, Ok}
use Rattle.std.specs.List.{list_any, slice_index_or}
use Rattle.loconet_tcp.specs.ClientLines.{turns_ok_text}
use Rattle.bus.specs.declared.outcome.Outcome.{Outcome}
use Rattle.bus.specs.declared.outcome.Outcome.TheVariants.{Disconnected, Sent, TurnsRequested}
use Rattle.bus_server.specs.declared.pace.Pace.{Pace}
use Rattle.bus_server.specs.declared.pace.Pace.TheVariants.{AfterMessages}
use Rattle.bus_server.specs.declared.track_due.Cause.{Cause}
use Rattle.bus_server.specs.declared.track_due.Cause.TheVariants.{Departed, Message, Request}
use Rattle.bus_server.specs.declared.track_due.TurnsDue.{TurnsDue}

-- they follow a message; or the client requested them
abbrev pub is_message : Cause → Bool
is_message Message = true
is_message Request = false
is_message Departed = false

abbrev pub is_request : Cause → Bool
is_request Message = false
is_request Request = true
is_request Departed = false

-- none
abbrev pub none_due : TurnsDue
none_due = record { left = 0; cause = Message }

-- those of a client
abbrev pub due_to : List TurnsDue → (client : ℕ) → TurnsDue
due_to turns client = slice_index_or turns client none_due

-- Some are left, or the client that requested them is not told yet that they have passed.
abbrev pub is_due : TurnsDue → Bool
is_due owed = nat_lt 0 owed.left || is_request owed.cause

-- some are left that follow a message
abbrev pub follow_message : TurnsDue → Bool
follow_message owed = nat_lt 0 owed.left && is_message owed.cause

-- What a client sends has to wait: turns are due to it, or are left that follow a message of any client.
abbrev pub must_wait : List TurnsDue → (client : ℕ) → Bool
must_wait turns client = list_any follow_message turns || is_due (due_to turns client)

-- those that a client requested have passed
abbrev pub have_passed : TurnsDue → Bool
have_passed owed = (owed.left == 0) && is_request owed.cause

-- what it is told then, and what is due after that
abbrev pub turns_answer : TurnsDue → List ℕ
turns_answer owed = if have_passed owed then turns_ok_text else []

abbrev pub after_answer : TurnsDue → TurnsDue
after_answer owed = if have_passed owed then none_due else owed

-- a number of them have been run
abbrev pub less : (count : ℕ) → TurnsDue → TurnsDue
less count owed = record owed { left = owed.left - count }

-- once the client has disconnected, no one is told when they have passed
abbrev pub after_departure : Cause → Cause
after_departure Message = Message
after_departure Request = Departed
after_departure Departed = Departed

abbrev pub departed : TurnsDue → TurnsDue
departed owed = record owed { cause = after_departure owed.cause }

-- What is due to each client after an outcome. The turns of a client that disconnects are run all the same.
abbrev pub due_after : Outcome → Pace → List TurnsDue → List TurnsDue
due_after (Sent client message reply) (AfterMessages turns) owed = slice_set owed client (record { left = turns; cause = Message })
due_after (TurnsRequested client (Ok count)) pace owed = slice_set owed client (record { left = count; cause = Request })
due_after (Disconnected client) pace owed = slice_set owed client (departed (due_to owed client))
due_after other pace owed = owed
