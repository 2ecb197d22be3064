-- What a decoder has to hear to run as an entry asks.
use Rattle.std.specs.Prelude.{ℕ, ◌≡◌, ◌⊎◌, List, All, Contains, IsTrue}
use Rattle.slot_table.specs.Entry.{Entry, IsEntry, IsAddress}
use Rattle.station_core.specs.Packets.{speed_packet, group_one_packet, group_two_packet, group_three_packet}
use Rattle.decoder_cv.specs.Settings.{Settings}
use Rattle.decoder_cv.specs.Answering.{answers_to, AgreesInSteps}
use Rattle.decoder_node.specs.declared.running.Running.{Running}
use Rattle.decoder_node.specs.Obey.{obey}

-- the packet is one of those of this address and its entry
pub data IsPacketOf (a : ℕ) (e : Entry) (packet : List ℕ) : Type 0 where
  speed : packet ≡ speed_packet a e → IsPacketOf a e packet
  group_one : packet ≡ group_one_packet a e → IsPacketOf a e packet
  group_two : packet ≡ group_two_packet a e → IsPacketOf a e packet
  group_three : packet ≡ group_three_packet a e → IsPacketOf a e packet

-- the packet leaves the decoder as it is, however it runs
abbrev pub LeavesAsItIs : Settings → List ℕ → Type 0
LeavesAsItIs cv packet = (running : Running) → obey cv running packet ≡ running

-- the decoder answers to this address of a slot, and its step mode agrees with the entry
pub record IsAskedBy (cv : Settings) (a : ℕ) (e : Entry) : Type 0 where
  pub address : IsAddress a
  pub entry : IsEntry e
  pub answers : IsTrue (answers_to cv a)
  pub steps : AgreesInSteps cv e.kind

-- Each packet of the list is one of those of this address and its entry, or leaves the decoder as
-- it is; and each of those is in the list.
pub record TellsAll (cv : Settings) (a : ℕ) (e : Entry) (packets : List (List ℕ)) : Type 0 where
  pub only : All (λ packet. IsPacketOf a e packet ⊎ LeavesAsItIs cv packet) packets
  pub has_speed : Contains packets (speed_packet a e)
  pub has_group_one : Contains packets (group_one_packet a e)
  pub has_group_two : Contains packets (group_two_packet a e)
  pub has_group_three : Contains packets (group_three_packet a e)
