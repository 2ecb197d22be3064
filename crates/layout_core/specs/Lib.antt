pub mod Wanted
pub mod Settling
pub mod Events
pub mod Played
pub mod Nodes
pub mod DecoderStates
pub mod Hearing
pub mod Heard
pub mod World
pub mod Cycle
pub mod Port
pub mod Served
pub mod Faults
pub mod Counts
-- words of the layers below that public clauses cite
pub use Rattle.slot_table.specs.Entry.{Entry, IsEntry, IsAddress}
pub use Rattle.station_core.specs.Packets.{speed_packet, group_one_packet, group_two_packet, group_three_packet}
pub use Rattle.station_core.specs.Entries.{motion_asked, is_forward, functions_asked}
pub use Rattle.decoder_cv.specs.Answering.{answers_to, AgreesInSteps}
pub use Rattle.decoder_node.specs.Obey.{obey, runs}
pub use Rattle.station_core.specs.ThrottleView.{ThrottleView, known_after, known_after_all}
pub use Rattle.station_core.specs.Moments.{AtEveryMoment, IsFullCycle, IsLive}
pub use Rattle.station_core.specs.Seen.{known_of}
