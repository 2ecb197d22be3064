-- What turnouts with feedback report, and how requests for their state are answered (LocoNet Personal
-- Use Edition 1.0, OPC_SW_REP, OPC_SW_STATE and OPC_LONG_ACK).
use Rattle.std.specs.Prelude.{ℕ, zero, suc, ◌+◌, ◌-◌, ◌*◌, ◌/◌, ◌%◌, ◌==◌, ◌&&◌, ◌||◌, ◌++◌, Bool, false, not, if◌then◌else◌, List, [], ◌∷◌, Option, Some, None}
use Rattle.std.specs.List.{find, list_any}
use Rattle.std.specs.Option.{option_and_then, option_map}
use Rattle.layout_core.specs.declared.node.Node.{Node}
use Rattle.ln_frame.specs.Message.{check_of}
use Rattle.ln_ops.specs.declared.reply.Reply.{Reply}
use Rattle.ln_ops.specs.declared.reply.Reply.TheVariants.{LongAck}
use Rattle.ln_ops.specs.Reply.{reply_bytes}
use Rattle.refresh_ring.specs.declared.pick.Power.{Power}
use Rattle.railway.specs.declared.joint.Turnout.{Turnout}
use Rattle.railway.specs.declared.joint.TurnoutState.{TurnoutState}
use Rattle.railway.specs.declared.turnout_report.TurnoutReport.{TurnoutReport}
use Rattle.railway.specs.Network.{is_moving, lies}
use Rattle.railway.specs.Railway.{RailwayState, elapsed}
use Rattle.railway.specs.Turnouts.{moved_on_under, observed, same_bool}

-- SN1 has bits 6 to 0 of a switch's address, which is one less than its number
abbrev pub sn1 : (switch : ℕ) → ℕ
sn1 switch = (switch - 1) % 128

-- SN2 of an input, in the words of OPC_SW_REP: control bit 6; bit 5, as it is the switch's own input;
-- bit 4, the level, high if the turnout lies closed; and bits 10 to 7 of the address
abbrev pub sn2 : (switch : ℕ) → (thrown : Bool) → ℕ
sn2 switch thrown = 64 + 32 + (if thrown then 0 else 1) * 16 + (switch - 1) / 128 % 16

abbrev pub turnout_report_body : TurnoutReport → List ℕ
turnout_report_body report = 0xB1 ∷ sn1 report.switch ∷ sn2 report.switch report.is_thrown ∷ []

-- the message of a report
abbrev pub turnout_report_bytes : TurnoutReport → List ℕ
turnout_report_bytes report = turnout_report_body report ++ check_of (turnout_report_body report) ∷ []

-- the report of a turnout that lies
abbrev pub report_at : TurnoutState → TurnoutReport
report_at state = record { switch = state.turnout.switch; is_thrown = state.is_thrown }

-- a turnout has come to lie: it lies, and moved before or lay at the other side
abbrev pub came_to_lie : (was is : TurnoutState) → Bool
came_to_lie was is = lies is && (is_moving was || not (same_bool is.is_thrown was.is_thrown))

-- what a turnout reports that was so before, and now is so
abbrev pub movement_of : (was is : TurnoutState) → Option TurnoutReport
movement_of was is =
    if is.turnout.has_feedback && came_to_lie was is then Some (report_at is) else None

abbrev pub onto : Option TurnoutReport → List TurnoutReport → List TurnoutReport
onto None reports = reports
onto (Some report) reports = report ∷ reports

-- what turnouts report, in order, that were so before
abbrev pub movements : (was is : List TurnoutState) → List TurnoutReport
movements [] is = []
movements (before ∷ was) [] = []
movements (before ∷ was) (after ∷ is) = onto (movement_of before after) (movements was is)

-- the side that an observer of these reports knows of a switch: that of its last one
abbrev pub side_after : List TurnoutReport → (switch : ℕ) → Bool → Bool
side_after [] switch side = side
side_after (report ∷ reports) switch side =
    side_after reports switch (if report.switch == switch then report.is_thrown else side)

-- what they report of so many microseconds in which the decoders do this
abbrev pub movements_in : RailwayState → (micros : ℕ) → Power → List Node → List TurnoutReport
movements_in railway micros power nodes =
    movements railway.network.turnouts (elapsed railway micros power nodes).network.turnouts

-- the same, of each turnout by itself
abbrev pub movements_within : Power → (micros : ℕ) → List Node → List TurnoutState
    → List TurnoutReport
movements_within power micros nodes [] = []
movements_within power micros nodes (state ∷ states) =
    onto (movement_of state (moved_on_under power micros (observed nodes state)))
    (movements_within power micros nodes states)

-- what a turnout reports that is asked to
abbrev pub side_report : TurnoutState → Option TurnoutReport
side_report state = if state.turnout.has_feedback && lies state then Some (report_at state) else None

-- a full report: each turnout with feedback that lies
abbrev pub full_turnouts : List TurnoutState → List TurnoutReport
full_turnouts [] = []
full_turnouts (state ∷ states) = onto (side_report state) (full_turnouts states)

-- the report of a message in the form of inputs, as layout software reads it
abbrev pub turnout_report_of : List ℕ → Option TurnoutReport
turnout_report_of (opcode ∷ low ∷ high ∷ check ∷ []) =
    if opcode == 0xB1 && high / 32 == 3 then Some (record {
      switch = 1 + high % 16 * 128 + low;
      is_thrown = high / 16 % 2 == 0;
    }) else None
turnout_report_of other = None

-- the switch whose state a message requests, if it does (OPC_SW_STATE)
abbrev pub requested_switch : List ℕ → Option ℕ
requested_switch (opcode ∷ sw1 ∷ sw2 ∷ check ∷ []) =
    if opcode == 0xBC then Some (1 + sw2 % 16 * 128 + sw1) else None
requested_switch other = None

-- a turnout has this switch, and feedback
abbrev pub reports_of_switch : (switch : ℕ) → Turnout → Bool
reports_of_switch switch turnout = turnout.has_feedback && turnout.switch == switch

abbrev pub is_with_feedback : (switch : ℕ) → TurnoutState → Bool
is_with_feedback switch state = reports_of_switch switch state.turnout

-- the turnout of this index alone has it
abbrev pub is_alone : (index switch : ℕ) → List Turnout → Bool
is_alone index switch [] = false
is_alone zero switch (turnout ∷ turnouts) =
    reports_of_switch switch turnout && not (list_any (reports_of_switch switch) turnouts)
is_alone (suc index) switch (turnout ∷ turnouts) =
    not (reports_of_switch switch turnout) && is_alone index switch turnouts

-- the long acknowledge of OPC_SW_STATE (own: bit 5 of its code is 1 for closed), by the side that the
-- turnout was asked for last, as command stations answer
abbrev pub state_reply : TurnoutState → Reply
state_reply state = LongAck 0x3C (if state.is_thrown then 0 else 0x20)

abbrev pub state_bytes : TurnoutState → List ℕ
state_bytes state = reply_bytes (state_reply state)

-- that of the first turnout with feedback of a switch
abbrev pub state_answer : List TurnoutState → (switch : ℕ) → Option (List ℕ)
state_answer states switch = option_map state_bytes (find (is_with_feedback switch) states)

-- the answer to a message, if it requests the state of a turnout with feedback
abbrev pub feedback_reply : List TurnoutState → (message : List ℕ) → Option (List ℕ)
feedback_reply states message = option_and_then (state_answer states) (requested_switch message)
