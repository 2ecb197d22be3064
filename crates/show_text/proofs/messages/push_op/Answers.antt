use Rattle.std.proofs.Common.{ap, append_assoc, codes, ◌∙◌, ◌++◌}
use Rattle.show_text.specs.Messages.{fields_text, packet_text}
use Rattle.show_text.proofs.messages.push_op.Goals as goal

pub returns-in-PowerOff : goal.returns-in-PowerOff
returns-in-PowerOff c = rw c.in-PowerOff.is c.push_str.ensures.bytes

pub returns-in-PowerOn : goal.returns-in-PowerOn
returns-in-PowerOn c = rw c.in-PowerOn.is c.push_str-in-PowerOn.ensures.bytes

pub returns-in-ForceIdle : goal.returns-in-ForceIdle
returns-in-ForceIdle c = rw c.in-ForceIdle.is c.push_str-in-ForceIdle.ensures.bytes

pub returns-in-SwReq : goal.returns-in-SwReq
returns-in-SwReq c = rw c.in-SwReq.is c.push_switch.ensures

pub returns-in-SwAck : goal.returns-in-SwAck
returns-in-SwAck c = rw c.in-SwAck.is c.push_switch-in-SwAck.ensures

pub returns-in-SlotRead : goal.returns-in-SlotRead
returns-in-SlotRead c = rw c.in-SlotRead.is c.push_byte_field.ensures.text

pub returns-in-LocoAddr : goal.returns-in-LocoAddr
returns-in-LocoAddr c = rw c.in-LocoAddr.is c.push_address.ensures.text

pub returns-in-SlotData : goal.returns-in-SlotData
returns-in-SlotData c = rw c.in-SlotData.is (c.push_fields.ensures ∙ ap (λ bytes. bytes ++ fields_text c.in-SlotData.fields) c.push_str-in-SlotData.ensures.bytes ∙ append_assoc _ (codes "slot-data ") _)

pub returns-in-SlotWrite : goal.returns-in-SlotWrite
returns-in-SlotWrite c = rw c.in-SlotWrite.is (c.push_fields-in-SlotWrite.ensures ∙ ap (λ bytes. bytes ++ fields_text c.in-SlotWrite.fields) c.push_str-in-SlotWrite.ensures.bytes ∙ append_assoc _ (codes "slot-write ") _)

pub returns-in-Imm : goal.returns-in-Imm
returns-in-Imm c =
    rw c.in-Imm.is (c.push_packet.ensures ∙ ap (λ bytes. c.args.line.now.bytes ++ packet_text c.in-Imm.count bytes) c.im_bytes.ensures)

pub returns-in-Other : goal.returns-in-Other
returns-in-Other c = rw c.in-Other.is c.push_str-in-Other.ensures.bytes
